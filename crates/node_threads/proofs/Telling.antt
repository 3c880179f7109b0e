-- The result when the outlet took a report.
use Rattle.std.proofs.Common.{◌≡◌, ◌⊎◌, ⊎_elim, inl, inr, ℕ, Some, None, false, refl, sym, ap, ◌∙◌, subst}
use Rattle.node_notes.specs.declared.report.Report.{Report}
use Rattle.node_threads.specs.Reports.{IsReport}
use Rattle.node_threads.specs.Rounds.{leaving}
use Rattle.node_threads.specs.Telling.{HasTold, IsUntold}
use Rattle.node_threads.specs.declared.worker_loop.WorkerLoop.{WorkerLoop}
use Rattle.node_threads.specs.declared.worker_loop.round.Round.{Round}
use Rattle.node_threads.specs.declared.worker_loop.telling.Told.{Told}

module _ {M G O A L T P S C E : Type 0} where
  -- a report that the outlet took was given
  pub told_now : (has_taken : O → Report E → O → Type 0) (node : ℕ) (now : Told) (report : Report E) (old reported new : WorkerLoop M G O A L T P S C E)
      → reported ≡ record old { round = record old.round { effects = reported.round.effects } } → IsReport node now old.round.effects.items old.round.fault report
      → has_taken reported.outlet report new.outlet → new.told ≡ Some now → new.has_untold_beat ≡ false → leaving new.round ≡ reported.round.further.items → new.round.fault ≡ None
      → HasTold has_taken (λ told. told ≡ now) node old new
  told_now has_taken node now report old reported new same is taken told beat rest fault =
      record {
        now = now;
        report = report;
        stands = refl;
        report_is = is;
        taken = subst (λ (o : O). has_taken o report new.outlet) (ap (λ w. w.outlet) same) taken;
        told_is = told;
        beat_is = beat;
        leaving_is = rest ∙ ap (λ w. w.round.further.items) same;
        fault_is = fault;
      }

  -- the same if the worker did nothing before that its outlet and its round know of
  pub told_behind : (has_taken : O → Report E → O → Type 0) (stands : Told → Type 0) (node : ℕ) (now : Told) (old mid new : WorkerLoop M G O A L T P S C E)
      → stands now → mid.outlet ≡ old.outlet → mid.round ≡ old.round → mid.told ≡ old.told → mid.has_untold_beat ≡ old.has_untold_beat
      → IsUntold mid new ⊎ HasTold has_taken (λ told. told ≡ now) node mid new → IsUntold old new ⊎ HasTold has_taken stands node old new
  told_behind has_taken stands node now old mid new holds outlet round told beat =
      ⊎_elim
      (λ (h : IsUntold mid new).
      inl
      (record {
        told_is = h.told_is ∙ told;
        beat_is = h.beat_is ∙ beat;
        leaving_is = h.leaving_is ∙ ap (λ (r : Round E). leaving r) round;
        fault_is = h.fault_is ∙ ap (λ (r : Round E). r.fault) round;
      }))
      (λ (h : HasTold has_taken (λ told. told ≡ now) node mid new).
      inr
      (record {
        now = h.now;
        report = h.report;
        stands = subst (λ (t : Told). stands t) (sym h.stands) holds;
        report_is = subst (λ (r : Round E). IsReport node h.now r.effects.items r.fault h.report) round h.report_is;
        taken = subst (λ (o : O). has_taken o h.report new.outlet) outlet h.taken;
        told_is = h.told_is;
        beat_is = h.beat_is;
        leaving_is = h.leaving_is ∙ ap (λ (r : Round E). r.further.items) round;
        fault_is = h.fault_is;
      }))

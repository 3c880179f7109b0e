-- What a worker has reported, and what is still to be reported.
use Rattle.std.specs.Prelude.{◌≡◌, ◌⊎◌, ℕ, length, false, List, [], Option, Some, None}
use Rattle.node_cells.specs.Cells.{CellParts}
use Rattle.node_notes.specs.declared.progress.Progress.{Progress}
use Rattle.node_notes.specs.declared.report.Report.{Report}
use Rattle.node_threads.specs.Reports.{HasGrownAlone, IsReport, IsStatusOf}
use Rattle.node_threads.specs.Requests.{in_term, queue_of}
use Rattle.node_threads.specs.Rounds.{leaving}
use Rattle.node_threads.specs.declared.worker_loop.WorkerLoop.{WorkerLoop}
use Rattle.node_threads.specs.declared.worker_loop.telling.Told.{Told}

module _ {M G O A L T P S C E : Type 0} where
  -- how far a worker is, whose node is in this term
  abbrev pub progress_of : WorkerLoop M G O A L T P S C E → ℕ → Progress
  progress_of w term =
      record { done = w.done; waiting = length w.requests.waiting.items; lost = (in_term term (queue_of w.requests)).lost; contacts = w.contacts }

  -- this is the state of the node of a cell and of its worker
  pub record StandsSo {Hosted Store U : Type 0} (next_claim : S → List (ℕ × C) → Option ℕ) (c : CellParts S Hosted Store C L T E P U) (w : WorkerLoop M G O A L T P S C E)
      (now : Told) : Type 0 where
    pub status_is : IsStatusOf next_claim c now.status
    pub progress_is : now.progress ≡ progress_of w c.node.state.standing.term

  -- nothing was reported: what was to be reported still is
  pub record IsUntold (old new : WorkerLoop M G O A L T P S C E) : Type 0 where
    pub told_is : new.told ≡ old.told
    pub beat_is : new.has_untold_beat ≡ old.has_untold_beat
    pub leaving_is : leaving new.round ≡ leaving old.round
    pub fault_is : new.round.fault ≡ old.round.fault

  -- The outlet took a report of this node: its state, all effects that were to be reported, except what is reported
  -- next, and the first fault. So that is the last report, and no beat is unreported.
  pub record HasTold (has_taken : O → Report E → O → Type 0) (stands_so : Told → Type 0) (node : ℕ) (old new : WorkerLoop M G O A L T P S C E) : Type 0 where
    pub now : Told
    pub report : Report E
    pub stands : stands_so now
    pub report_is : IsReport node now old.round.effects.items old.round.fault report
    pub taken : has_taken old.outlet report new.outlet
    pub told_is : new.told ≡ Some now
    pub beat_is : new.has_untold_beat ≡ false
    pub leaving_is : leaving new.round ≡ old.round.further.items
    pub fault_is : new.round.fault ≡ None

  -- nothing is new since the last report; or only the log grew, and no beat is unreported
  pub record IsKnown (stands_so : Told → Type 0) (w : WorkerLoop M G O A L T P S C E) : Type 0 where
    pub now : Told
    pub stands : stands_so now
    pub known : (w.told ≡ Some now) ⊎ (HasGrownAlone w.told now × (w.has_untold_beat ≡ false))

  -- All effects were reported, and the last report gives the state of the node as it is; or since then only the log
  -- grew, and no beat is unreported.
  pub record HasReportedAll {Hosted Store U : Type 0} (next_claim : S → List (ℕ × C) → Option ℕ) (c : CellParts S Hosted Store C L T E P U) (w : WorkerLoop M G O A L T P S C E) : Type 0 where
    pub now : Told
    pub none_left : w.round.effects.items ≡ []
    pub status_is : IsStatusOf next_claim c now.status
    pub known : (w.told ≡ Some now) ⊎ (HasGrownAlone w.told now × (w.has_untold_beat ≡ false))

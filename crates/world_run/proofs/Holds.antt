-- The laws of all lists of events.
use Rattle.std.proofs.Common.{◌≡◌, ℕ, zero, suc, ◌≤◌, List, [], ◌∷◌, ◌++◌, inl, inr, ⊎_elim, Option, Some, None, length, refl, sym, ap, subst, ◌∙◌, arith}
use Rattle.std.specs.Prelude.{slice_get}
use Rattle.raft_log.specs.Lists.{item}
use Rattle.raft_log.specs.declared.entry.Entry.{Entry}
use Rattle.raft_log.specs.declared.role.Role.TheVariants.{Leader}
use Rattle.raft_log.specs.Node.{Node}
use Rattle.agreement.specs.World.{Begins, committed, start}
use Rattle.raft_node.specs.Raft.{newborn}
use Rattle.raft_node.specs.Machine.{Machine}
use Rattle.world_run.specs.World.{Event, stepper, own_of, world_by, happens, run, moment, agreed}
use Rattle.agreement.specs.Laws as core_laws
use Rattle.agreement.proofs.Holds as core
use Rattle.agreement.proofs.UpToDate as core_up
use Rattle.agreement.proofs.Brought as brought
use Rattle.agreement.specs.Laws.{IsAmong, EachIn, IsAsUpToDateAs}
use Rattle.agreement.proofs.Lists.{begins_either}
use Rattle.raft_node.proofs.Items.{item_of_with, item_of_replicate}
use Rattle.agreement.proofs.Ruled as ruled
use Rattle.world_run.specs.Laws.{OverAll, OneList, InAgreed, AgreedGrows, EachBrought, NoMoreLeaves, SessionsApart, OneLeader, OneVote, LogsMatch, LeadersHold, UpToDateHolds}
use Rattle.world_run.proofs.Lowers.{lowered, run_lowered, longest_lowered, lowered_append, brought_lowered, Always, raise, always_at}
use Rattle.raft_node.proofs.Fares.{own_step}
use Rattle.raft_node.proofs.Keeps.{Upper, upper_step}
use Rattle.world_run.proofs.Leaving.{Fine, FineNow, no_more_leaves}

module _ (M : Machine) where
  agreed_same : (size : ℕ) (es : List (Event M)) → core_laws.agreed M.blank size (lowered M es (start size)) ≡ agreed M size es
  agreed_same size es = longest_lowered M es (start size)

  pub in_agreed : OverAll M InAgreed
  in_agreed size es k a =
      subst (λ w. Begins (committed w a) (agreed M size es)) (run_lowered M es (start size) k)
      (subst (λ l. Begins (committed (core_laws.moment M.blank size (lowered M es (start size)) k) a) l) (agreed_same size es) (core.in_agreed M.blank size (lowered M es (start size)) k a))

  pub one_list : OverAll M OneList
  one_list size es j k a b = begins_either (committed (moment M size es j) a) (committed (moment M size es k) b) (agreed M size es) (in_agreed size es j a) (in_agreed size es k b)

  pub agreed_grows : OverAll M AgreedGrows
  agreed_grows size early late =
      subst (λ l. Begins l (agreed M size (early ++ late))) (agreed_same size early)
      (subst (λ l. Begins (core_laws.agreed M.blank size (lowered M early (start size))) l)
      (ap (λ cs. core_laws.agreed M.blank size cs) (sym (lowered_append M early late (start size))) ∙ agreed_same size (early ++ late))
      (core.agreed_grows M.blank size (lowered M early (start size)) (lowered M late (run M early (start size)))))

  each_at : (bs : List M.Body) (l : List (Entry M.Body)) (k : ℕ) (e : Entry M.Body) → EachIn bs l → slice_get l k ≡ Some e → IsAmong e.body bs
  each_at bs [] k e h at = absurd (cc at)
  each_at bs (x ∷ l) zero e h at = let same : x ≡ e = cc at in subst (λ (z : Entry M.Body). IsAmong z.body bs) same h.0
  each_at bs (x ∷ l) (suc k) e h at = each_at bs l k e h.1 at

  pub each_brought : OverAll M EachBrought
  each_brought size es zero e at = absurd (cc at)
  each_brought size es (suc k) e at =
      ⊎_elim (λ h. inl h) (λ h. inr (brought_lowered M es (start size) e.body h))
      (each_at (M.blank ∷ core_laws.brought (lowered M es (start size))) (agreed M size es) k e
      (subst (λ l. EachIn (M.blank ∷ core_laws.brought (lowered M es (start size))) l) (agreed_same size es) (brought.all_brought M.blank size (lowered M es (start size)))) at)

  -- what a node has of its own

  record UpperNow (w : List (Node M.Body)) : Type 0 where
    each : (i : ℕ) (s : Node M.Body) → item w i ≡ Some s → Upper s

  upper_happens : (w : List (Node M.Body)) (e : Event M) → UpperNow w → UpperNow (happens M w e)
  upper_happens w e h = by_item (item w (stepper M w e)) refl
    where
      by_item : (o : Option (Node M.Body)) → item w (stepper M w e) ≡ o → UpperNow (world_by M w (stepper M w e) (own_of M w e) o)
      by_item None p = h
      by_item (Some s) p =
          let u : Upper s = h.each (stepper M w e) s p in
          record {
            each = λ j y at.
                ⊎_elim
                (λ r. subst Upper r.1 (upper_step M (stepper M w e) s _ u (own_step M (length w) (stepper M w e) s u.lives (own_of M w e))))
                (λ r. h.each j y r.1)
                (item_of_with w (stepper M w e) _ j y s p at);
          }

  upper_always : (es : List (Event M)) (w : List (Node M.Body)) → UpperNow w → Always M UpperNow es w
  upper_always [] w h = h
  upper_always (e ∷ es) w h = (h, upper_always es (happens M w e) (upper_happens w e h))

  upper_start : (size : ℕ) → UpperNow (start size)
  upper_start size =
      record { each = λ i s at. subst Upper (item_of_replicate size i (newborn size) s at) (record { applied_in = omega arith; lives = record { of = λ k f. absurd (cc f) } }) }

  -- all that holds at every moment

  fine_always : (owner : ℕ → Option ℕ) (boots : ℕ → ℕ) (l : List (Entry M.Body)) (es : List (Event M)) (w : List (Node M.Body)) → Always M (ruled.Ruled owner boots l) es w → Always M UpperNow es w → Always M (FineNow M owner boots l) es w
  fine_always owner boots l [] w a b = fine_now owner boots l w a b
    where
      fine_now : (owner : ℕ → Option ℕ) (boots : ℕ → ℕ) (l : List (Entry M.Body)) (w : List (Node M.Body)) → ruled.Ruled owner boots l w → UpperNow w → FineNow M owner boots l w
      fine_now owner boots l w a b =
          record {
            each = λ i s at. record {
              applied_in = (b.each i s at).applied_in;
              commit_in = a.led.commit_in i s at;
              lives = (b.each i s at).lives;
              begins = a.agrees i s at;
              leads = a.led.leads i s at;
            };
          }
  fine_always owner boots l (e ∷ es) w a b = (
    record {
      each = λ i s at. record {
        applied_in = (b.0.each i s at).applied_in;
        commit_in = a.0.led.commit_in i s at;
        lives = (b.0.each i s at).lives;
        begins = a.0.agrees i s at;
        leads = a.0.led.leads i s at;
      };
    },
    fine_always owner boots l es (happens M w e) a.1 b.1,
  )

  pub record Whole (size : ℕ) (es : List (Event M)) : Type 0 where
    pub owner : ℕ → Option ℕ
    pub boots : ℕ → ℕ
    pub fine : Always M (FineNow M owner boots (agreed M size es)) es (start size)

  pub whole : (size : ℕ) (es : List (Event M)) → Whole size es
  whole size es =
      let r : ruled.Reign M.blank size (lowered M es (start size)) = ruled.reign M.blank size (lowered M es (start size)) in
      record {
        owner = r.owner;
        boots = r.boots;
        fine =
            fine_always r.owner r.boots (agreed M size es) es (start size)
            (raise M (ruled.Ruled r.owner r.boots (agreed M size es)) es (start size)
            (subst (λ l. ruled.Always M.blank (ruled.Ruled r.owner r.boots l) (lowered M es (start size)) (start size)) (agreed_same size es) r.always))
            (upper_always es (start size) (upper_start size));
      }

  pub fine_at : (size : ℕ) (es : List (Event M)) (h : Whole size es) (k a : ℕ) (s : Node M.Body) → item (moment M size es k) a ≡ Some s → Fine M h.owner h.boots (agreed M size es) a s
  fine_at size es h k a s at = (always_at M (FineNow M h.owner h.boots (agreed M size es)) es (start size) k h.fine).each a s at

  pub no_more : OverAll M NoMoreLeaves
  no_more size es test = let h : Whole size es = whole size es in no_more_leaves M h.owner h.boots (agreed M size es) es (start size) h.fine test

  pub sessions_apart : OverAll M SessionsApart
  sessions_apart size es j k a b s t one other at_s at_t e f same =
      let h : Whole size es = whole size es in
      let x = fine_at size es h j a s at_s in
      let y = fine_at size es h k b t at_t in
      let p : (s.role ≡ Leader) × (one.id.0 ≡ s.term) × (one.id.1 ≤ s.attempts) = x.lives.of one e in
      let q : (t.role ≡ Leader) × (other.id.0 ≡ t.term) × (other.id.1 ≤ t.attempts) = y.lives.of other f in
      let terms : s.term ≡ t.term = sym p.1 ∙ (same ∙ q.1) in
      let u : (h.owner s.term ≡ Some a) × (h.boots s.term ≡ s.boot) = x.leads p.0 in
      let v : (h.owner t.term ≡ Some b) × (h.boots t.term ≡ t.boot) = y.leads q.0 in
      let w : h.owner s.term ≡ Some b = subst (λ z. h.owner z ≡ Some b) (sym terms) v.0 in
      (cc (u.0, w), sym u.1 ∙ (ap h.boots terms ∙ v.1))

  -- the core's laws, of whole nodes

  core_at : (size : ℕ) (es : List (Event M)) (k a : ℕ) (s : Node M.Body) → item (moment M size es k) a ≡ Some s → item (core_laws.moment M.blank size (lowered M es (start size)) k) a ≡ Some s
  core_at size es k a s at = subst (λ w. item w a ≡ Some s) (sym (run_lowered M es (start size) k)) at

  pub one_leader : OverAll M OneLeader
  one_leader size es j k a b s t x y l m same =
      (core.one_leader M.blank size (lowered M es (start size)) j k a b s t (core_at size es j a s x) (core_at size es k b t y) l m same, core.one_run M.blank size (lowered M es (start size)) j k a b s t (core_at size es j a s x) (core_at size es k b t y) l m same)

  pub one_vote : OverAll M OneVote
  one_vote size es j k a c s t le x y v same = core.one_vote M.blank size (lowered M es (start size)) j k a c s t le (core_at size es j a s x) (core_at size es k a t y) v same

  pub logs_match : OverAll M LogsMatch
  logs_match size es j k a b p s t x y ps pt same = core.logs_match M.blank size (lowered M es (start size)) j k a b p s t (core_at size es j a s x) (core_at size es k b t y) ps pt same

  pub leaders_hold : OverAll M LeadersHold
  leaders_hold size es j k a b s t x y lead lt = core.leaders_hold M.blank size (lowered M es (start size)) j k a b s t (core_at size es j a s x) (core_at size es k b t y) lead lt

  pub up_to_date_holds : OverAll M UpToDateHolds
  up_to_date_holds size es j k a b s t set le x y enough most =
      core_up.up_to_date_holds M.blank size (lowered M es (start size)) j k a b s t set le (core_at size es j a s x) (core_at size es k b t y) enough
      (subst (λ w. IsAsUpToDateAs set w t.log) (sym (run_lowered M es (start size) k)) most)

-- Once a leader leads and all that it has is committed, a body gets through.
use Rattle.std.proofs.Common.{◌≡◌, ℕ, suc, ◌-◌, ◌<◌, ◌≤◌, Bool, true, List, [], ◌∷◌, ◌++◌, length, take, None, Some, refl, sym, ap, subst, ◌∙◌, arith, length-append}
use Rattle.std.proofs.Math.Seq.{take-length}
use Rattle.std.proofs.lemmas.List.{take-append-le}
use Rattle.raft_log.specs.declared.entry.Entry.{Entry}
use Rattle.raft_log.specs.Lists.{item}
use Rattle.raft_log.specs.Logs.{entry_limit, last_term}
use Rattle.raft_log.specs.Node.{Node}
use Rattle.node_steps.specs.Asking.{may_ask}
use Rattle.raft_node.specs.Machine.{Machine}
use Rattle.agreement.specs.Laws.{IsIn, IsMajority}
use Rattle.agreement.proofs.Lists.{last_term_push}
use Rattle.world_run.specs.World.{World, run}
use Rattle.progress.specs.Plans.{log_of, unapplied, settle_events, bring_events, and_then, peers, settle, ask_through, apply_all, bring}
use Rattle.progress.specs.Laws.{boot_of, AreWithin, IsAnswered}
use Rattle.progress.proofs.Places.{item_last}
use Rattle.progress.proofs.Stepping.{Leads, leads_then}
use Rattle.progress.proofs.Confirming.{settled_by}
use Rattle.progress.proofs.Standing.{AllOf, Stands, stands, boot_now}
use Rattle.progress.proofs.Reigning.{some_new}
use Rattle.progress.proofs.Taking.{WithIt, takes_body}
use Rattle.progress.proofs.Lengths.{then_long, settle_long, ask_long, apply_long}
use Rattle.progress.proofs.Applying.{leaves_live, answered_later, all_applied}
use Rattle.progress.proofs.Sums.{add, add3, few_peers}

module _ (M : Machine) (set : List Bool) (n c T : ℕ) (L : List (Entry M.Body)) (boots : ℕ → ℕ) (high : ℕ) (most : IsMajority n set) (in_c : IsIn set c) (ends : last_term L ≡ T) (some : 1 ≤ length L)
    (no_peers : peers set c ≡ [] → ⊥) (room1 : length L < entry_limit) (high_in : high ≤ length L) (a : ℕ) (body : M.Body) (in_a : IsIn set a) where
  abbrev AllHere : World M → Type 0
  AllHere x = AllOf M set n c T L boots high most in_c ends some x

  abbrev e2 : Entry M.Body
  e2 = record { term = T; body = body }

  abbrev L2 : List (Entry M.Body)
  L2 = L ++ e2 ∷ []

  abbrev AllWith : World M → Type 0
  AllWith x = AllOf M set n c T L2 boots high most in_c (last_term_push L e2) (some_new L e2) x

  abbrev Now : World M → Type 0
  Now x = Stands M set n c T L2 boots high most in_c (last_term_push L e2) (some_new L e2) a in_a x

  now : (x : World M) → AllWith x → Now x
  now x led = stands M set n c T L2 boots high most in_c (last_term_push L e2) (some_new L e2) a in_a x led

  long2 : length L2 ≡ suc (length L)
  long2 = let l = length-append L (e2 ∷ []) in omega arith

  finishes : (x : World M) → Now x → AreWithin M set x (apply_all M a x) × IsAnswered M a (boots a) None L body x (apply_all M a x)
  finishes x h =
      let r : AreWithin M set x (apply_all M a x) × IsAnswered M a h.node.boot None L body x (apply_all M a x) =
      all_applied M set a None L body x h.node e2 in_a h.at (omega (arith, h.applied_in, h.commit_is, long2, high_in)) (h.commit_is ∙ long2) (ap (λ z. take (length L) z) h.log_is ∙ (take-append-le (length L) L (e2 ∷ []) (omega arith) ∙ take-length L)) (omega (arith, h.commit_is, ap length h.log_is))
      (ap (λ z. item h.node.log z) h.commit_is ∙ (ap (λ z. item z (length L2)) h.log_is ∙ (ap (λ z. item L2 z) long2 ∙ item_last L e2))) refl (leaves_live a h.node.boot h.node.live) in
      (r.0, subst (λ z. IsAnswered M a z None L body x (apply_all M a x)) h.boot_is r.1)

  module _ (x : World M) (led : AllHere x) (may : (t : Node M.Body) → item x a ≡ Some t → may_ask a t (M.source body) ≡ true) where
    abbrev With : World M → Type 0
    With = WithIt M set n c T L boots high most in_c ends some body room1 x led

    takes : Leads M set x (ask_through M c a body x) With
    takes = takes_body M set n c T L boots high most in_c ends some body room1 x led a in_a may

    settles : (y : World M) → With y → Leads M set y (settle M c (peers set c) y) AllWith
    settles y g = settled_by M set n c T L2 boots high most in_c (last_term_push L e2) (some_new L e2) no_peers y g

    abbrev Any : World M → Type 0
    Any z = Unit {0}

    whole : Leads M set x (bring M set c a body x) Any
    whole =
        leads_then M set x (ask_through M c a body) (and_then M (settle M c (peers set c)) (apply_all M a)) With Any takes
        (λ y g. leads_then M set y (settle M c (peers set c)) (apply_all M a) AllWith Any (settles y g)
        (λ z q. record { ends = tt; within = (finishes z (now z q)).0 }))

    pub brings : AreWithin M set x (bring M set c a body x) × IsAnswered M a (boot_of (item x a)) None L body x (bring M set c a body x)
    brings =
        let y : World M = run M (ask_through M c a body x) x in
        let second : Leads M set y (settle M c (peers set c) y) AllWith = settles y takes.ends in
        let z : World M = run M (settle M c (peers set c) y) y in (
          whole.within,
          subst (λ b. IsAnswered M a b None L body x (bring M set c a body x)) (sym (boot_now M set n c T L boots high most in_c ends some a in_a x led))
              (answered_later M a (boots a) None L body x (ask_through M c a body x) (settle M c (peers set c) y ++ apply_all M a z)
              (answered_later M a (boots a) None L body y (settle M c (peers set c) y) (apply_all M a z) (finishes z (now z second.ends)).1)),
        )

    pub bring_few : length (bring M set c a body x) ≤ bring_events n (length L)
    bring_few =
        let y : World M = run M (ask_through M c a body x) x in
        let second : Leads M set y (settle M c (peers set c) y) AllWith = settles y takes.ends in
        let z : World M = run M (settle M c (peers set c) y) y in
        let st : Now z = now z second.ends in
        let long : length (log_of (item y c)) ≡ suc (length L) = ap (λ g. length (log_of g)) takes.ends.at ∙ (ap length takes.ends.leading.log_is ∙ long2) in
        let left : unapplied (item z a) ≡ st.node.commit - st.node.applied = ap unapplied st.at in
        let d : length (apply_all M a z) ≤ suc (length L) = omega (arith, apply_long M a z, st.commit_is, long2) in
        let b = settle_long M c (peers set c) y n (suc (length L)) (few_peers set n c most) long in
        let r = then_long M y (settle M c (peers set c)) (apply_all M a) in
        let q = then_long M x (ask_through M c a body) (and_then M (settle M c (peers set c)) (apply_all M a)) in
        let f = add (length (settle M c (peers set c) y)) (length (apply_all M a z)) (settle_events n (suc (length L))) (suc (length L)) (length (and_then M (settle M c (peers set c)) (apply_all M a) y)) b d r in
        add3 (length (ask_through M c a body x)) (length (and_then M (settle M c (peers set c)) (apply_all M a) y)) (settle_events n (suc (length L))) (suc (length L)) (length (bring M set c a body x)) (ask_long M c a body x) f q

-- Which marks a node has applied, after each event.
use Rattle.std.proofs.Common.{◌≡◌, ℕ, zero, suc, ◌<◌, ◌≤◌, Bool, true, false, ◌&&◌, ◌||◌, cond, ltb, leb, eqb, List, [], ◌∷◌, ◌++◌, Option, Some, None, take, refl, sym, ap, ◌∙◌, subst, arith}
use Rattle.std.proofs.lemmas.Bool.{cond_both, ltb-true, ltb-false, lt-ltb, le-ltb, leb-true, le-leb, cond-true, cond-false}
use Rattle.wire_bytes.specs.declared.mark.Mark.{Mark}
use Rattle.raft_log.specs.declared.entry.Entry.{Entry}
use Rattle.raft_log.specs.declared.node_state.NodeState.{NodeState}
use Rattle.raft_log.specs.Lists.{item}
use Rattle.raft_log.specs.Node.{Node}
use Rattle.raft_node.specs.Machine.{Machine}
use Rattle.raft_node.specs.Sound.{IsSound}
use Rattle.raft_node.specs.Steps.{Turn, Act, turn, applied}
use Rattle.raft_node.proofs.Fares.{Fares, Lives, Turned, GoesOn, Applied, turn_step}
use Rattle.raft_node.proofs.Keeps.{turn_keeps_applied}
use Rattle.node_cells.specs.Marks.{larger, is_own, is_reached, with_number, with_mark, mark_of, mark_at, has_own, reached_after}

or_false : (t : Bool) → t ≡ (t || false)
or_false true = refl
or_false false = refl

-- the larger of two is at least this if one of them is
pub larger_reaches : (n a b : ℕ) → leb n (larger a b) ≡ (leb n a || leb n b)
larger_reaches n a b =
    cond_both (ltb a b) b a (λ (m : ℕ). leb n m ≡ (leb n a || leb n b))
    (λ up. by_first (leb n a) refl (ltb-true a b up))
    (λ down. by_other (leb n b) refl (ltb-false a b down))
  where
    by_first : (t : Bool) → leb n a ≡ t → a < b → leb n b ≡ (leb n a || leb n b)
    by_first true e lt = let le = leb-true n a e in le-leb n b (omega (arith, le, lt)) ∙ ap (λ (t : Bool). t || leb n b) (sym e)
    by_first false e lt = ap (λ (t : Bool). t || leb n b) (sym e)

    by_other : (t : Bool) → leb n b ≡ t → b ≤ a → leb n a ≡ (leb n a || leb n b)
    by_other true e le = let low = leb-true n b e in let here : leb n a ≡ true = le-leb n a (omega (arith, le, low)) in here ∙ ap (λ (t : Bool). t || leb n b) (sym here)
    by_other false e le = or_false (leb n a) ∙ ap (λ (t : Bool). leb n a || t) (sym e)

or_assoc : (a b c : Bool) → (a || (b || c)) ≡ ((a || b) || c)
or_assoc true b c = refl
or_assoc false b c = refl

-- the greatest number with that of a mark
with_number_reaches : (n m : ℕ) (reached : Option ℕ) → leb n (with_number m reached) ≡ (is_reached reached n || leb n m)
with_number_reaches n m None = refl
with_number_reaches n m (Some most) = larger_reaches n most m

-- the greatest number, after this was applied
pub with_mark_reaches : (node boot n : ℕ) (o : Option Mark) (reached : Option ℕ) → is_reached (with_mark node boot o reached) n ≡ (is_reached reached n || is_own node boot n o)
with_mark_reaches node boot n None reached = or_false (is_reached reached n)
with_mark_reaches node boot n (Some m) reached =
    by_test (eqb m.node node && eqb m.boot boot)
  where
    by_test : (t : Bool) → is_reached (cond t (Some (with_number m.number reached)) reached) n ≡ (is_reached reached n || (t && leb n m.number))
    by_test true = with_number_reaches n m.number reached
    by_test false = or_false (is_reached reached n)

module _ {B : Type 0} (marked : B → Option Mark) (node boot n : ℕ) where
  has_own_behind : (xs ys : List (Entry B)) → has_own marked node boot n (xs ++ ys) ≡ (has_own marked node boot n xs || has_own marked node boot n ys)
  has_own_behind [] ys = refl
  has_own_behind (x ∷ xs) ys =
      ap (λ (t : Bool). is_own node boot n (marked x.body) || t) (has_own_behind xs ys)
      ∙ or_assoc (is_own node boot n (marked x.body)) (has_own marked node boot n xs) (has_own marked node boot n ys)

  take_item : (log : List (Entry B)) (k : ℕ) (e : Entry B) → item log (suc k) ≡ Some e → take (suc k) log ≡ take k log ++ e ∷ []
  take_item [] k e h = absurd (cc h)
  take_item (x ∷ log) zero e h = let same : x ≡ e = cc h in ap (λ (y : Entry B). y ∷ []) same
  take_item (x ∷ log) (suc k) e h = ap (λ (l : List (Entry B)). x ∷ l) (take_item log k e h)

  -- one more entry
  pub one_more_own : (log : List (Entry B)) (k : ℕ) (e : Entry B) → item log (suc k) ≡ Some e
      → has_own marked node boot n (take (suc k) log) ≡ (has_own marked node boot n (take k log) || is_own node boot n (mark_at marked log (suc k)))
  one_more_own log k e h =
      ap (has_own marked node boot n) (take_item log k e h)
      ∙ has_own_behind (take k log) (e ∷ [])
      ∙ ap (λ (t : Bool). has_own marked node boot n (take k log) || t) (sym (or_false (is_own node boot n (marked e.body))))
      ∙ ap (λ (o : Option (Entry B)). has_own marked node boot n (take k log) || is_own node boot n (mark_of marked o)) (sym h)

-- the greatest own number, and what a node has applied
abbrev pub Reaches : {B : Type 0} → (B → Option Mark) → ℕ → Option ℕ → Node B → Type 0
Reaches marked node reached s = (n : ℕ) → is_reached reached n ≡ has_own marked node s.boot n (take s.applied s.log)

module _ (M : Machine) (marked : M.Body → Option Mark) (size i : ℕ) (s : Node M.Body) (sound : IsSound size s) (reached : Option ℕ) (h : Reaches marked i reached s) where
  lives : Lives s
  lives = record { of = sound.2 }

  -- what was applied stays, if nothing is applied
  goes_on : (a : Act M) → Fares s (turn M size i a s).node → Reaches marked i reached (turn M size i a s).node
  goes_on a f n =
      let t : Node M.Body = (turn M size i a s).node in
      let same : take t.applied t.log ≡ take s.applied s.log = ap (λ (k : ℕ). take k t.log) f.applied_is ∙ (turn_keeps_applied M size i a s sound).0 in
      h n ∙ (λ d. has_own marked i (sym f.boot_is d) n (sym same d))

  -- after a turn the code's state is this
  module _ (a : Act M) (q : NodeState M.Body) (before : ℕ) (was : before ≡ s.applied) (boot : q.standing.boot ≡ (turn M size i a s).node.boot)
      (applied_is : q.standing.applied ≡ (turn M size i a s).node.applied) (log : q.log ≡ (turn M size i a s).node.log) where
    abbrev t : Node M.Body
    t = (turn M size i a s).node

    none_applied : Fares s t → reached_after marked i before q reached ≡ reached
    none_applied f = cond-false (ltb before q.standing.applied) _ reached (le-ltb before q.standing.applied (let e = f.applied_is in omega (arith, was, applied_is, e)))

    one_applied : (e : Entry M.Body) → item s.log (suc s.applied) ≡ Some e → turn M size i a s ≡ applied M i s (Some e) → Reaches marked i (reached_after marked i before q reached) t
    one_applied e at is n =
        let done : t ≡ record s { applied = suc s.applied } = ap (λ (u : Turn M). u.node) is in
        let place : q.standing.applied ≡ suc s.applied = applied_is ∙ ap (λ (u : Node M.Body). u.applied) done in
        let same_boot : q.standing.boot ≡ s.boot = boot ∙ ap (λ (u : Node M.Body). u.boot) done in
        let same_log : q.log ≡ s.log = log ∙ ap (λ (u : Node M.Body). u.log) done in
        ap (λ (r : Option ℕ). is_reached r n) (cond-true (ltb before q.standing.applied) _ reached (lt-ltb before q.standing.applied (omega (arith, was, place))))
        ∙ (λ d. is_reached (with_mark i (same_boot d) (mark_at marked (same_log d) (place d)) reached) n)
        ∙ with_mark_reaches i s.boot n (mark_at marked s.log (suc s.applied)) reached
        ∙ ap (λ (b : Bool). b || is_own i s.boot n (mark_at marked s.log (suc s.applied))) (h n)
        ∙ sym (one_more_own marked i s.boot n s.log s.applied e at)
        ∙ (λ d. has_own marked i (sym done d).boot n (take (sym done d).applied (sym done d).log))

    by_step : Turned M i s (turn M size i a s) → Reaches marked i (reached_after marked i before q reached) t
    by_step (GoesOn f out) = subst (λ (r : Option ℕ). Reaches marked i r t) (sym (none_applied f)) (goes_on a f)
    by_step (Applied e lt at is) = one_applied e at is

    pub turn_reaches : Reaches marked i (reached_after marked i before q reached) t
    turn_reaches = by_step (turn_step M size i s lives a)

  -- a turn that applies no place
  by_quiet_step : (a : Act M) → ((e : Entry M.Body) → (turn M size i a s).out ≡ (applied M i s (Some e)).out → ⊥) → Turned M i s (turn M size i a s) → Reaches marked i reached (turn M size i a s).node
  by_quiet_step a none (GoesOn f out) = goes_on a f
  by_quiet_step a none (Applied e lt at is) = absurd (none e (ap (λ (u : Turn M). u.out) is))

  pub quiet_turn_reaches : (a : Act M) → ((e : Entry M.Body) → (turn M size i a s).out ≡ (applied M i s (Some e)).out → ⊥) → Reaches marked i reached (turn M size i a s).node
  quiet_turn_reaches a none = by_quiet_step a none (turn_step M size i s lives a)

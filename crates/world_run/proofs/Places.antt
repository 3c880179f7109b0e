-- The first bodies of a log as a history.
use Rattle.std.proofs.Common.{◌≡◌, ℕ, zero, suc, ◌+◌, ◌<◌, ◌≤◌, Bool, List, [], ◌∷◌, ◌++◌, Some, length, take, drop, map, refl, sym, ap, subst, ◌∙◌, arith, take-append-drop}
use Rattle.std.specs.Prelude.{slice_get}
use Rattle.raft_log.specs.Lists.{item}
use Rattle.raft_log.specs.declared.entry.Entry.{Entry}
use Rattle.agreement.specs.World.{Begins}
use Rattle.machine_laws.specs.Runs.{came}
use Rattle.raft_node.specs.Machine.{history}
use Rattle.machine_laws.specs.Runs.{all_effects}
use Rattle.world_run.specs.World.{count}
use Rattle.world_run.proofs.Tallies.{count_append}

module _ {B : Type 0} where
  -- the bodies of these entries came, at the places from this one on
  abbrev pub came_of : ℕ → List (Entry B) → List (ℕ × B) → List (ℕ × B)
  came_of place log earlier = came place (map (λ e. e.body) log) earlier

  -- what a log shares with a list that its first entries begin
  pub shared : (log l : List (Entry B)) (c k : ℕ) → Begins (take c log) l → k ≤ c → c ≤ length log → take k log ≡ take k l
  shared log l c zero b kc cl = refl
  shared [] l c (suc k) b kc cl = absurd (omega arith)
  shared (x ∷ log) l zero (suc k) b kc cl = absurd (omega arith)
  shared (x ∷ log) [] (suc c) (suc k) b kc cl = absurd (cc b.1)
  shared (x ∷ log) (y ∷ l) (suc c) (suc k) b kc cl =
      let heads : x ≡ y = cc b.1 in
      let rest : take k log ≡ take k l = shared log l c k (b.0, cc b.1) (omega arith) (omega arith) in
      cc (heads, rest)

  shared_get : (log l : List (Entry B)) (c k : ℕ) (e : Entry B) → Begins (take c log) l → k < c → slice_get log k ≡ Some e → slice_get l k ≡ Some e
  shared_get log l zero k e b kc at = absurd (omega arith)
  shared_get [] l (suc c) k e b kc at = absurd (cc at)
  shared_get (x ∷ log) [] (suc c) k e b kc at = absurd (cc b.1)
  shared_get (x ∷ log) (y ∷ l) (suc c) zero e b kc at = cc (at, b.1)
  shared_get (x ∷ log) (y ∷ l) (suc c) (suc k) e b kc at = shared_get log l c k e (b.0, cc b.1) (omega arith) at

  pub shared_item : (log l : List (Entry B)) (c k : ℕ) (e : Entry B) → Begins (take c log) l → k < c → item log (suc k) ≡ Some e → item l (suc k) ≡ Some e
  shared_item log l c k e b kc at = shared_get log l c k e b kc at

  -- one more
  take_push : (l : List (Entry B)) (k : ℕ) (e : Entry B) → slice_get l k ≡ Some e → (take (suc k) l ≡ take k l ++ e ∷ []) × (length (take k l) ≡ k)
  take_push [] k e at = absurd (cc at)
  take_push (x ∷ l) zero e at = (ap (λ (z : Entry B). z ∷ []) (let h : x ≡ e = cc at in h), refl)
  take_push (x ∷ l) (suc k) e at =
      let r : (take (suc k) l ≡ take k l ++ e ∷ []) × (length (take k l) ≡ k) = take_push l k e at in
      (ap (λ z. x ∷ z) r.0, ap suc r.1)

  pub came_append : (p : ℕ) (xs ys : List (Entry B)) (h : List (ℕ × B)) → came_of p (xs ++ ys) h ≡ came_of (p + length xs) ys (came_of p xs h)
  came_append p [] ys h = let e : p ≡ p + 0 = omega arith in ap (λ q. came_of q ys h) e
  came_append p (x ∷ xs) ys h =
      let e : (p + 1) + length xs ≡ p + suc (length xs) = omega arith in
      came_append (p + 1) xs ys ((p, x.body) ∷ h) ∙ ap (λ q. came_of q ys (came_of (p + 1) xs ((p, x.body) ∷ h))) e

  pub history_push : (l : List (Entry B)) (k : ℕ) (e : Entry B) → item l (suc k) ≡ Some e → history (take (suc k) l) ≡ (suc k, e.body) ∷ history (take k l)
  history_push l k e at =
      let r : (take (suc k) l ≡ take k l ++ e ∷ []) × (length (take k l) ≡ k) = take_push l k e at in
      let place : 1 + length (take k l) ≡ suc k = omega (arith, r.1) in
      ap history r.0 ∙ (came_append 1 (take k l) (e ∷ []) [] ∙ ap (λ q. (q, e.body) ∷ history (take k l)) place)

  module _ {E : Type 0} (effects : List (ℕ × B) → ℕ → B → List E) (t : E → Bool) where
    -- how many effects that pass the first places of a list bring about
    abbrev pub sum_at : List (Entry B) → ℕ → ℕ
    sum_at l k = count t (all_effects effects (history (take k l)))

    pub sum_push : (l : List (Entry B)) (k : ℕ) (e : Entry B) → item l (suc k) ≡ Some e → sum_at l (suc k) ≡ sum_at l k + count t (effects (history (take k l)) (suc k) e.body)
    sum_push l k e at =
        ap (λ h. count t (all_effects effects h)) (history_push l k e at)
        ∙ count_append t (all_effects effects (history (take k l))) (effects (history (take k l)) (suc k) e.body)

    sum_came : (p : ℕ) (xs : List (Entry B)) (h : List (ℕ × B)) → count t (all_effects effects h) ≤ count t (all_effects effects (came_of p xs h))
    sum_came p [] h = omega arith
    sum_came p (x ∷ xs) h = omega (arith, sum_came (p + 1) xs ((p, x.body) ∷ h), count_append t (all_effects effects h) (effects h p x.body))

    pub sum_most : (l : List (Entry B)) (k : ℕ) → sum_at l k ≤ count t (all_effects effects (history l))
    sum_most l k =
        let whole : history l ≡ came_of (1 + length (take k l)) (drop k l) (history (take k l)) =
        ap history (sym (take-append-drop k l)) ∙ came_append 1 (take k l) (drop k l) [] in
        subst (λ h. sum_at l k ≤ count t (all_effects effects h)) (sym whole) (sum_came (1 + length (take k l)) (drop k l) (history (take k l)))

-- What seats know: which seat has which view, after each kind of step.
use Rattle.std.proofs.Common.{◌≡◌, ◌≢◌, ℕ, zero, suc, ◌+◌, ◌-◌, ◌<◌, ◌≤◌, ◌⊎◌, inl, inr, ⊎_elim, Bool, true, false, cond, eqb, leb, List, [], ◌∷◌, ◌++◌, length, set, take, drop, refl, sym, ap, ◌∙◌, subst, arith, eq-eqb, ne_eqb, le-leb}
use Rattle.std.proofs.lemmas.Bool.{lt-leb}
use mathlib.Core.Option.{some, some-injective, some-ne-none}
use lib.ListN.{get_elem?}
use Rattle.atomic_table.proofs.Lists.{at_set, set_here, set_else}
use Rattle.world_views.specs.Views.{View}
use Rattle.ether.specs.Rule.{Spare, Known, Look, IsKnown, known, spent}
use Rattle.ether.specs.Plays.{both, first_part, rest_part}
use Rattle.ether.proofs.Changing.{below_length}

at_take : {A : Type 0} (c : ℕ) (l : List A) (k : ℕ) (a : A) → get_elem? (take c l) k ≡ some a → (k < c) × (get_elem? l k ≡ some a)
at_take zero [] k a e = absurd (some-ne-none a (sym e))
at_take zero (x ∷ xs) k a e = absurd (some-ne-none a (sym e))
at_take (suc c) [] k a e = absurd (some-ne-none a (sym e))
at_take (suc c) (x ∷ xs) zero a e = (omega arith, e)
at_take (suc c) (x ∷ xs) (suc k) a e = let r = at_take c xs k a e in let lt = r.0 in (omega arith, r.1)

at_drop : {A : Type 0} (c : ℕ) (l : List A) (k : ℕ) (a : A) → get_elem? (drop c l) k ≡ some a → get_elem? l (c + k) ≡ some a
at_drop zero l k a e = let is : k ≡ 0 + k = omega arith in subst (λ (i : ℕ). get_elem? l i ≡ some a) is e
at_drop (suc c) [] k a e = absurd (some-ne-none a (sym e))
at_drop (suc c) (x ∷ xs) k a e = let is : suc (c + k) ≡ suc c + k = omega arith in subst (λ (i : ℕ). get_elem? (x ∷ xs) i ≡ some a) is (at_drop c xs k a e)

at_append : {A : Type 0} (l m : List A) (k : ℕ) (a : A) → get_elem? (l ++ m) k ≡ some a → (get_elem? l k ≡ some a) ⊎ ((length l ≤ k) × (get_elem? m (k - length l) ≡ some a))
at_append [] m k a e = let is : k ≡ k - 0 = omega arith in inr (omega arith, subst (λ (i : ℕ). get_elem? m i ≡ some a) is e)
at_append (x ∷ xs) m zero a e = inl e
at_append (x ∷ xs) m (suc k) a e =
    ⊎_elim (λ l. inl l)
    (λ (r : (length xs ≤ k) × (get_elem? m (k - length xs) ≡ some a)).
    let le = r.0 in
    let is : k - length xs ≡ suc k - suc (length xs) = omega arith in
    inr (omega arith, subst (λ (i : ℕ). get_elem? m i ≡ some a) is r.1)) (at_append xs m k a e)

pub at_end : {A : Type 0} (l : List A) (a b : A) (j : ℕ) → get_elem? (l ++ a ∷ []) j ≡ some b → (get_elem? l j ≡ some b) ⊎ ((j ≡ length l) × (a ≡ b))
at_end [] a b zero e = inr (refl, some-injective a b e)
at_end [] a b (suc j) e = absurd (some-ne-none b (sym e))
at_end (x ∷ xs) a b zero e = inl e
at_end (x ∷ xs) a b (suc j) e = ⊎_elim inl (λ t. inr (ap suc t.0, t.1)) (at_end xs a b j e)

module _ {B L T : Type 0} where
  only_one : (w x : View B L T) (k : ℕ) → get_elem? (w ∷ []) k ≡ some x → (k ≡ 0) × (w ≡ x)
  only_one w x zero e = (refl, some-injective w x e)
  only_one w x (suc k) e = absurd (some-ne-none x (sym e))

  -- one node's view changes, at its seat
  pub knows_change : (vs : List (View B L T)) (seats : List (Known B L T)) (id : ℕ) (x y : Spare) (ls ls' : List (Look B)) (v w : View B L T) → IsKnown vs seats → get_elem? seats id ≡ some (known x ls (v ∷ [])) → w.node ≡ v.node
      → IsKnown (set vs v.node w) (set seats id (known y ls' (w ∷ [])))
  knows_change vs seats id x y ls ls' v w s at same =
      let mine = s.seen id 0 (known x ls (v ∷ [])) v at refl in
      record {
        holder = s.holder;
        place = s.place;
        seen = λ j k u r at_u at_r. ⊎_elim
            (λ (here : (j ≡ id) × (known y ls' (w ∷ []) ≡ u)).
            let only = only_one w r k (subst (λ (z : Known B L T). get_elem? z.views k ≡ some r) (sym here.1) at_r) in
            subst (λ (z : View B L T). (get_elem? (set vs v.node w) z.node ≡ some z) × (s.holder z.node ≡ j) × (s.place z.node ≡ k)) only.1
            (ap (λ (i : ℕ). get_elem? (set vs v.node w) i) same ∙ set_here vs v.node w (below_length vs v.node v mine.0), ap s.holder same ∙ mine.1 ∙ sym here.0, ap s.place same ∙ mine.2 ∙ sym only.0))
            (λ (there : (j ≢ id) × (get_elem? seats j ≡ some u)).
            let o = s.seen j k u r there.1 at_r in
            (set_else vs v.node r.node w (λ e. there.0 (sym o.1 ∙ ap s.holder e ∙ mine.1)) ∙ o.0, o.1, o.2))
            (at_set seats id j (known y ls' (w ∷ [])) u at_u);
      }

  -- what a seat knows is cut: it keeps the first c views, and a new seat has the rest
  pub knows_cut : (vs : List (View B L T)) (seats : List (Known B L T)) (id c : ℕ) (v : Known B L T) (x y : Spare) → IsKnown vs seats → get_elem? seats id ≡ some v
      → IsKnown vs (set seats id (first_part c x v) ++ rest_part c y v ∷ [])
  knows_cut vs seats id c v x y s at =
      let fresh : ℕ = length (set seats id (first_part c x v)) in
      let holder' : ℕ → ℕ = λ i. cond (eqb (s.holder i) id) (cond (leb c (s.place i)) fresh id) (s.holder i) in
      let place' : ℕ → ℕ = λ i. cond (eqb (s.holder i) id) (cond (leb c (s.place i)) (s.place i - c) (s.place i)) (s.place i) in
      record {
        holder = holder';
        place = place';
        seen = λ j k u r at_u at_r. ⊎_elim
            (λ old. ⊎_elim
            (λ (here : (j ≡ id) × (first_part c x v ≡ u)).
            let t = at_take c v.views k r (subst (λ (z : Known B L T). get_elem? z.views k ≡ some r) (sym here.1) at_r) in
            let o = s.seen id k v r at t.1 in
            let lt = t.0 in
            let pl = o.2 in
            let low : leb c (s.place r.node) ≡ false = lt-leb c (s.place r.node) (omega arith) in (
              o.0,
              ap (λ (b : Bool). cond b (cond (leb c (s.place r.node)) fresh id) (s.holder r.node)) (eq-eqb (s.holder r.node) id o.1) ∙ ap (λ (b : Bool). cond b fresh id) low ∙ sym here.0,
              ap (λ (b : Bool). cond b (cond (leb c (s.place r.node)) (s.place r.node - c) (s.place r.node)) (s.place r.node)) (eq-eqb (s.holder r.node) id o.1) ∙ ap (λ (b : Bool). cond b (s.place r.node - c) (s.place r.node)) low ∙ o.2,
            ))
            (λ (there : (j ≢ id) × (get_elem? seats j ≡ some u)).
            let o = s.seen j k u r there.1 at_r in
            let ne : s.holder r.node ≢ id = (λ e. there.0 (sym o.1 ∙ e)) in (
              o.0,
              ap (λ (b : Bool). cond b (cond (leb c (s.place r.node)) fresh id) (s.holder r.node)) (ne_eqb (s.holder r.node) id ne) ∙ o.1,
              ap (λ (b : Bool). cond b (cond (leb c (s.place r.node)) (s.place r.node - c) (s.place r.node)) (s.place r.node)) (ne_eqb (s.holder r.node) id ne) ∙ o.2,
            ))
            (at_set seats id j (first_part c x v) u old))
            (λ (new : (j ≡ fresh) × (rest_part c y v ≡ u)).
            let t = at_drop c v.views k r (subst (λ (z : Known B L T). get_elem? z.views k ≡ some r) (sym new.1) at_r) in
            let o = s.seen id (c + k) v r at t in
            let pl = o.2 in
            let high : leb c (s.place r.node) ≡ true = le-leb c (s.place r.node) (omega arith) in (
              o.0,
              ap (λ (b : Bool). cond b (cond (leb c (s.place r.node)) fresh id) (s.holder r.node)) (eq-eqb (s.holder r.node) id o.1) ∙ ap (λ (b : Bool). cond b fresh id) high ∙ sym new.0,
              ap (λ (b : Bool). cond b (cond (leb c (s.place r.node)) (s.place r.node - c) (s.place r.node)) (s.place r.node)) (eq-eqb (s.holder r.node) id o.1) ∙ ap (λ (b : Bool). cond b (s.place r.node - c) (s.place r.node)) high ∙ omega arith,
            ))
            (at_end (set seats id (first_part c x v)) (rest_part c y v) u j at_u);
      }

  -- a seat takes in what another knows, and the other is spent
  pub knows_join : (vs : List (View B L T)) (seats : List (Known B L T)) (id : ℕ) (v : Known B L T) (other : ℕ) (w : Known B L T) → IsKnown vs seats → get_elem? seats id ≡ some v → (other ≡ id → ⊥)
      → get_elem? (set seats id (both v w)) other ≡ some w → IsKnown vs (set (set seats id (both v w)) other spent)
  knows_join vs seats id v other w s at apart at_w =
      let was : get_elem? seats other ≡ some w = sym (set_else seats id other (both v w) apart) ∙ at_w in
      let holder' : ℕ → ℕ = λ i. cond (eqb (s.holder i) other) id (s.holder i) in
      let place' : ℕ → ℕ = λ i. cond (eqb (s.holder i) other) (s.place i + length v.views) (s.place i) in
      let stays : (i j k : ℕ) → j ≢ other → s.holder i ≡ j → s.place i ≡ k → (holder' i ≡ j) × (place' i ≡ k) =
      (λ i j k ne h pl.
      let n : s.holder i ≢ other = (λ e. ne (sym h ∙ e)) in
      (ap (λ (b : Bool). cond b id (s.holder i)) (ne_eqb (s.holder i) other n) ∙ h, ap (λ (b : Bool). cond b (s.place i + length v.views) (s.place i)) (ne_eqb (s.holder i) other n) ∙ pl))
      in
      record {
        holder = holder';
        place = place';
        seen = λ j k u r at_u at_r. ⊎_elim
            (λ (gone : (j ≡ other) × (spent ≡ u)). absurd (some-ne-none r (sym (subst (λ (z : Known B L T). get_elem? z.views k ≡ some r) (sym gone.1) at_r))))
            (λ (rest : (j ≢ other) × (get_elem? (set seats id (both v w)) j ≡ some u)). ⊎_elim
            (λ (here : (j ≡ id) × (both v w ≡ u)). ⊎_elim
            (λ mine.
            let o = s.seen id k v r at mine in
            let t = stays r.node id k (λ e. apart (sym e)) o.1 o.2 in
            (o.0, t.0 ∙ sym here.0, t.1))
            (λ (theirs : (length v.views ≤ k) × (get_elem? w.views (k - length v.views) ≡ some r)).
            let o = s.seen other (k - length v.views) w r was theirs.1 in
            let le = theirs.0 in
            let pl = o.2 in (
              o.0,
              ap (λ (b : Bool). cond b id (s.holder r.node)) (eq-eqb (s.holder r.node) other o.1) ∙ sym here.0,
              ap (λ (b : Bool). cond b (s.place r.node + length v.views) (s.place r.node)) (eq-eqb (s.holder r.node) other o.1) ∙ omega arith,
            ))
            (at_append v.views w.views k r (subst (λ (z : Known B L T). get_elem? z.views k ≡ some r) (sym here.1) at_r)))
            (λ (there : (j ≢ id) × (get_elem? seats j ≡ some u)).
            let o = s.seen j k u r there.1 at_r in
            let t = stays r.node j k rest.0 o.1 o.2 in
            (o.0, t.0, t.1))
            (at_set seats id j (both v w) u rest.1))
            (at_set (set seats id (both v w)) other j spent u at_u);
      }

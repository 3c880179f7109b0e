-- Two lists of events in order of ticket that have the same turns of each node are one list.
use Rattle.std.proofs.Common.{◌≡◌, ℕ, ◌<◌, Bool, true, false, cond, eqb, List, [], ◌∷◌, map, refl, sym, ap, ◌∙◌, arith, eq-eqb, ne_eqb}
use Rattle.std.proofs.lemmas.Bool.{eqb-true, eqb-false}
use Rattle.world_views.specs.Views.{Ticketed, Rises}
use Rattle.world_views.specs.Merged.{Placed, turns_of, turn_of, AreInOrder}
use Rattle.world_views.specs.Laws.{MergedIsOne}

module _ {B L T : Type 0} where
  heads : (t u : Ticketed B L T) (ts us : List (Ticketed B L T)) → t ∷ ts ≡ u ∷ us → t ≡ u
  heads t u ts us e = cc e

  tails : (t u : Ticketed B L T) (ts us : List (Ticketed B L T)) → t ∷ ts ≡ u ∷ us → ts ≡ us
  tails t u ts us e = cc e

  none_is_some : (t : Ticketed B L T) (ts : List (Ticketed B L T)) → [] ≡ t ∷ ts → ⊥
  none_is_some t ts e = cc e

  -- a node's turns begin with that of the first event, if it is the node's
  own_first : (e : Placed B L T) (es : List (Placed B L T)) → turns_of e.0 (e ∷ es) ≡ e.1 ∷ turns_of e.0 es
  own_first e es = ap (λ (b : Bool). cond b (e.1 ∷ turns_of e.0 es) (turns_of e.0 es)) (eq-eqb e.0 e.0 refl)

  other_first : (i : ℕ) (e : Placed B L T) (es : List (Placed B L T)) → eqb e.0 i ≡ false → turns_of i (e ∷ es) ≡ turns_of i es
  other_first i e es h = ap (λ (b : Bool). cond b (e.1 ∷ turns_of i es) (turns_of i es)) h

  -- the first turn of a node is above a ticket from which all rise
  above_first : (c i : ℕ) (fs : List (Placed B L T)) (t : Ticketed B L T) (ts : List (Ticketed B L T)) → Rises c (map turn_of fs) → turns_of i fs ≡ t ∷ ts → c < t.0
  above_first c i [] t ts r e = absurd (none_is_some t ts e)
  above_first c i (f ∷ fs) t ts r e = by_node (λ h. above_first f.1.0 i fs t ts r.1 h) (eqb f.0 i) e
    where
      by_node : (turns_of i fs ≡ t ∷ ts → f.1.0 < t.0) → (b : Bool) → cond b (f.1 ∷ turns_of i fs) (turns_of i fs) ≡ t ∷ ts → c < t.0
      by_node more true h =
          let lt : c < f.1.0 = r.0 in
          let same : f.1.0 ≡ t.0 = ap (λ (u : Ticketed B L T). u.0) (heads f.1 t (turns_of i fs) ts h) in omega (arith, lt, same)
      by_node more false h = let lt : c < f.1.0 = r.0 in omega (arith, lt, more h)

  rest_in_order : (e : Placed B L T) (es : List (Placed B L T)) → AreInOrder (map turn_of (e ∷ es)) → AreInOrder (map turn_of es)
  rest_in_order e [] o = tt
  rest_in_order e (f ∷ es) o = o.1

  rest_same : (e f : Placed B L T) (es fs : List (Placed B L T)) → e ≡ f → ((i : ℕ) → turns_of i (e ∷ es) ≡ turns_of i (f ∷ fs)) → (i : ℕ) → turns_of i es ≡ turns_of i fs
  rest_same e f es fs is same i =
      by_node (eqb e.0 i) (same i ∙ ap (λ (g : Placed B L T). turns_of i (g ∷ fs)) (sym is))
    where
      by_node : (b : Bool) → cond b (e.1 ∷ turns_of i es) (turns_of i es) ≡ cond b (e.1 ∷ turns_of i fs) (turns_of i fs) → turns_of i es ≡ turns_of i fs
      by_node true h = tails e.1 e.1 (turns_of i es) (turns_of i fs) h
      by_node false h = h

  first_same : (e f : Placed B L T) (es fs : List (Placed B L T)) → AreInOrder (map turn_of (e ∷ es)) → AreInOrder (map turn_of (f ∷ fs)) → ((i : ℕ) → turns_of i (e ∷ es) ≡ turns_of i (f ∷ fs)) → e ≡ f
  first_same e f es fs o p same = by_node (eqb f.0 e.0) refl
    where
      by_node : (b : Bool) → eqb f.0 e.0 ≡ b → e ≡ f
      by_node true q =
          let node : f.0 ≡ e.0 = eqb-true f.0 e.0 q in
          let turn : e.1 ≡ f.1 =
          heads e.1 f.1 (turns_of e.0 es) (turns_of e.0 fs)
          (sym (own_first e es) ∙ same e.0 ∙ ap (λ (b : Bool). cond b (f.1 ∷ turns_of e.0 fs) (turns_of e.0 fs)) q) in
          (λ i. (sym node i, turn i))
      by_node false q =
          let apart : eqb e.0 f.0 ≡ false = ne_eqb e.0 f.0 (λ z. eqb-false f.0 e.0 q (sym z)) in
          let one : f.1.0 < e.1.0 = above_first f.1.0 e.0 fs e.1 (turns_of e.0 es) p (sym (other_first e.0 f fs q) ∙ sym (same e.0) ∙ own_first e es) in
          let other : e.1.0 < f.1.0 = above_first e.1.0 f.0 es f.1 (turns_of f.0 fs) o (sym (other_first f.0 e es apart) ∙ same f.0 ∙ own_first f fs) in
          absurd (omega arith)

  pub only_one : (es fs : List (Placed B L T)) → AreInOrder (map turn_of es) → AreInOrder (map turn_of fs) → ((i : ℕ) → turns_of i es ≡ turns_of i fs) → es ≡ fs
  only_one [] [] o p same = refl
  only_one [] (f ∷ fs) o p same = absurd (none_is_some f.1 (turns_of f.0 fs) (same f.0 ∙ own_first f fs))
  only_one (e ∷ es) [] o p same = absurd (none_is_some e.1 (turns_of e.0 es) (sym (same e.0) ∙ own_first e es))
  only_one (e ∷ es) (f ∷ fs) o p same =
      let is : e ≡ f = first_same e f es fs o p same in
      let rest : es ≡ fs = only_one es fs (rest_in_order e es o) (rest_in_order f fs p) (rest_same e f es fs is same) in
      (λ i. is i ∷ rest i)

pub merged_is_one : (B L T : Type 0) → MergedIsOne B L T
merged_is_one B L T es fs o p same = only_one es fs o p same

-- One seat gathers the views of passes, one after the other.
use Rattle.std.proofs.Common.{◌≡◌, ℕ, zero, suc, ◌⊎◌, inl, inr, ⊎_elim, Bool, true, false, List, [], ◌∷◌, ◌++◌, length, map, drop, Option, refl, sym, ap, ◌∙◌, subst, arith}
use mathlib.Core.Option.{some, some-injective, some-ne-none}
use lib.ListN.{length-map}
use Rattle.atomic_table.proofs.Lists.{at_longer, at_last}
use Rattle.atomic_table.specs.Table.{Me}
use Rattle.atomic_table.specs.Seated.{TableId}
use Rattle.raft_node.specs.Machine.{Machine}
use Rattle.world_views.specs.declared.envelope.Envelope.{Envelope}
use Rattle.world_views.specs.Own.{ViewOf}
use Rattle.world_views.specs.Rule.{IsRule}
use Rattle.world_views.specs.Views.{IsAt, View}
use Rattle.ether.specs.declared.pass.Pass.{Pass}
use Rattle.ether.specs.Passes.{AllMeet, AreNewAt, IsPassAt, IsUnopened, looks_of, view_of}
use Rattle.ether.specs.Plays.{AreOfOneMoment, both, holding, rest_part}
use Rattle.ether.specs.Rule.{Known, Look}
use Rattle.ether.specs.Rule.Spare.{Gone}
use Rattle.ether.proofs.Cutting.{rule_at_first}
use Rattle.ether.proofs.Knowing.{at_end}

module _ {B L T : Type 0} where
  -- some of these passes are left, and the views of all others are among these
  abbrev pub Gathered : List (Pass B L T) → List (Pass B L T) → List (View B L T) → Type 0
  Gathered all rest vs =
      ((k : ℕ) (p : Pass B L T) → IsAt rest k p → IsAt all k p)
      × ((k : ℕ) (p : Pass B L T) → IsAt all k p → IsAt rest k p ⊎ ((j : ℕ) × IsAt vs j (view_of p)))

  pub last_at : (all rest : List (Pass B L T)) (p : Pass B L T) → all ≡ rest ++ p ∷ [] → IsAt all (length rest) p
  last_at all rest p is = subst (λ (l : List (Pass B L T)). IsAt l (length rest) p) (sym is) (at_last rest p (length rest) refl)

  -- the last of new passes is new, and so are the others
  pub popped : (t : TableId) (n : ℕ) (all rest : List (Pass B L T)) (p : Pass B L T) → AreNewAt t n all → all ≡ rest ++ p ∷ [] → AreNewAt t n rest × IsPassAt t n p × IsUnopened p
  popped t n all rest p are is =
      let last = are (length rest) p (last_at all rest p is) in
      (λ i q at. are i q (subst (λ (l : List (Pass B L T)). IsAt l i q) (sym is) (at_longer rest (p ∷ []) i q at)), last.0, ap (λ (v : View B L T). v.opened) last.2)

  views_held : (out : Bool) (k : ℕ) (ls : List (Look B)) (v : View B L T) → (holding out k ls v).0.views ≡ v ∷ []
  views_held true k ls v = refl
  views_held false k ls v = refl

  -- a pass's seat knows its view
  pub seat_knows : (t : TableId) (n : ℕ) (p : Pass B L T) → IsPassAt t n p → p.seat.me.0.views ≡ view_of p ∷ []
  seat_knows t n p is = ap (λ (m : Me (Option (Envelope B)) (Known B L T)). m.0.views) is.me ∙ views_held is.out p.spare (looks_of p) (view_of p)

  -- the first pass's seat begins
  pub gathers_first : (t : TableId) (n : ℕ) (all rest : List (Pass B L T)) (p : Pass B L T) → all ≡ rest ++ p ∷ [] → IsPassAt t n p → Gathered all rest p.seat.me.0.views
  gathers_first t n all rest p is pass = (
    λ k q at. subst (λ (l : List (Pass B L T)). IsAt l k q) (sym is) (at_longer rest (p ∷ []) k q at),
    λ k q at. ⊎_elim inl
        (λ (here : (k ≡ length rest) × (p ≡ q)). inr (0, subst (λ (l : List (View B L T)). IsAt l 0 (view_of q)) (sym (seat_knows t n p pass)) (ap (λ (x : Pass B L T). some (view_of x)) here.1)))
        (at_end rest p q k (subst (λ (l : List (Pass B L T)). IsAt l k q) is at)),
  )

  -- and takes in what one more knows
  pub gathers_more : (t : TableId) (n : ℕ) (all rest rest' : List (Pass B L T)) (p : Pass B L T) (m m' lent : Me (Option (Envelope B)) (Known B L T)) → Gathered all rest m.0.views → rest ≡ rest' ++ p ∷ [] → IsPassAt t n p
      → lent ≡ (rest_part 0 Gone p.seat.me.0, []) → m' ≡ (both m.0 lent.0, m.1) → Gathered all rest' m'.0.views
  gathers_more t n all rest rest' p m m' lent old is pass lends takes =
      let has : lent.0.views ≡ view_of p ∷ [] = ap (λ (x : Me (Option (Envelope B)) (Known B L T)). x.0.views) lends ∙ ap (λ (l : List (View B L T)). drop 0 l) (seat_knows t n p pass) in
      let views : m'.0.views ≡ m.0.views ++ view_of p ∷ [] = ap (λ (x : Me (Option (Envelope B)) (Known B L T)). x.0.views) takes ∙ ap (λ (l : List (View B L T)). m.0.views ++ l) has in (
        λ k q at. old.0 k q (subst (λ (l : List (Pass B L T)). IsAt l k q) (sym is) (at_longer rest' (p ∷ []) k q at)),
        λ k q at. ⊎_elim
            (λ (left : IsAt rest k q). ⊎_elim inl
            (λ (here : (k ≡ length rest') × (p ≡ q)). inr (
              length m.0.views,
              subst (λ (l : List (View B L T)). IsAt l (length m.0.views) (view_of q)) (sym views)
                  (subst (λ (x : Pass B L T). IsAt (m.0.views ++ view_of p ∷ []) (length m.0.views) (view_of x)) here.1 (at_last m.0.views (view_of p) (length m.0.views) refl)),
            ))
            (at_end rest' p q k (subst (λ (l : List (Pass B L T)). IsAt l k q) is left)))
            (λ (known : (j : ℕ) × IsAt m.0.views j (view_of q)). inr (known.0, subst (λ (l : List (View B L T)). IsAt l known.0 (view_of q)) (sym views) (at_longer m.0.views (view_of p ∷ []) known.0 (view_of q) known.1)))
            (old.1 k q at),
      )

  at_map : (ps : List (Pass B L T)) (k : ℕ) (v : View B L T) → IsAt (map view_of ps) k v → (p : Pass B L T) × IsAt ps k p × (view_of p ≡ v)
  at_map [] k v e = absurd (some-ne-none v (sym e))
  at_map (p ∷ ps) zero v e = (p, refl, some-injective (view_of p) v e)
  at_map (p ∷ ps) (suc k) v e = at_map ps k v e

-- two lists of one length, of which one has what the other has
same_list : {A : Type 0} (xs ys : List A) → length xs ≡ length ys → ((k : ℕ) (x : A) → IsAt ys k x → IsAt xs k x) → xs ≡ ys
same_list [] [] long has = refl
same_list [] (y ∷ ys) long has = absurd (omega arith)
same_list (x ∷ xs) [] long has = absurd (omega arith)
same_list (x ∷ xs) (y ∷ ys) long has =
    let first : x ≡ y = some-injective x y (has 0 y refl) in
    let rest : xs ≡ ys = same_list xs ys (omega arith) (λ k z at. has (suc k) z at) in
    (λ d. first d ∷ rest d)

module _ (M : Machine) where
  -- if none is left, all views are of one moment
  pub all_meet : (t : TableId) (n : ℕ) (all : List (Pass M.Body M.Line M.Target)) (vs : List (ViewOf M)) → length all ≡ n
      → ((i : ℕ) (p : Pass M.Body M.Line M.Target) → IsAt all i p → IsPassAt t n p × (p.node ≡ i)) → Gathered all [] vs → AreOfOneMoment M n vs → AllMeet M n all
  all_meet t n all vs many are g r =
      let has : (k : ℕ) (v : ViewOf M) → IsAt (map view_of all) k v → IsAt r.views k v =
      (λ k v e.
      let p = at_map all k v e in
      let pass = are k p.0 p.1 in
      let node : (view_of p.0).node ≡ k = pass.0.node ∙ pass.1 in
      let known : (j : ℕ) × IsAt vs j (view_of p.0) = ⊎_elim (λ (none : IsAt [] k p.0). absurd (some-ne-none p.0 (sym none))) (λ (h : (j : ℕ) × IsAt vs j (view_of p.0)). h) (g.1 k p.0 p.1) in
      subst (λ (x : ViewOf M). IsAt r.views k x) p.2 (subst (λ (i : ℕ). IsAt r.views i (view_of p.0)) node (r.among known.0 (view_of p.0) known.1)))
      in
      let long : length r.views ≡ length (map view_of all) = r.rule.sized ∙ sym (length-map all view_of ∙ many) in
      record { next = r.next; rule = subst (λ (l : List (ViewOf M)). IsRule M n r.next l) (same_list r.views (map view_of all) long has) r.rule }

  -- no passes are those of a group of none
  pub none_meet : (n : ℕ) (all : List (Pass M.Body M.Line M.Target)) → length all ≡ n → all ≡ [] → AllMeet M n all
  none_meet n all many none =
      let zero_is : 0 ≡ n = sym (ap length none) ∙ many in
      subst (λ (l : List (Pass M.Body M.Line M.Target)). AllMeet M n l) (sym none) (subst (λ (m : ℕ). AllMeet M m []) zero_is record { next = 0; rule = rule_at_first M 0 })

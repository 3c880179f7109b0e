-- Views in one seat are met at one moment, and seats that lend their views have them back.
use Rattle.std.proofs.Common.{◌≡◌, ℕ, ◌+◌, ◌%◌, Bool, true, false, List, [], ◌∷◌, set, slice_index, Option, refl, sym, ap, ◌∙◌, subst, arith}
use Rattle.std.proofs.lemmas.List.{set-get_or}
use mathlib.Core.Option.{some}
use lib.ListN.{get_elem?}
use Rattle.atomic_table.specs.Table.{Me, Step, keeps, Allows}
use Rattle.atomic_table.proofs.Lists.{set_again}
use Rattle.raft_node.specs.Machine.{Machine}
use Rattle.world_views.specs.declared.envelope.Envelope.{Envelope}
use Rattle.world_views.specs.Laws.{AreOfOneGroup}
use Rattle.world_views.specs.Own.{ViewOf}
use Rattle.world_views.specs.Views.{View}
use Rattle.world_views.proofs.Handing.{of_one_group}
use Rattle.ether.specs.Rule.{Known, Look, IsKept}
use Rattle.ether.specs.Rule.Spare.{Gone}
use Rattle.ether.specs.Plays.{AreOfOneMoment, both, first_part, holding, met, of_one_moment, rest_part}
use Rattle.ether.proofs.Stowing.{SeatOf, SlotOf}

module _ (M : Machine) where
  -- nothing changes, and the views that the seat knows are of one moment
  pub learns : (n slots id : ℕ) (me : Me (SlotOf M) (SeatOf M)) (st : Step (SlotOf M)) (fact : SeatOf M → Type 0) → ((k : SeatOf M) → of_one_moment M n k → fact k)
      → Allows (IsKept M n) slots id me 0 (λ x. (x + 0) % 18446744073709551616) (met fact st me)
  learns n slots id me st fact learnt s r wide at low =
      let same : (slice_index s.words 0 + 0) % 18446744073709551616 ≡ slice_index s.words 0 = omega arith in (
        me.0,
        keeps,
        tt,
        subst (λ (z : List ℕ). IsKept M n record { words = z; homes = s.homes; views = set s.views id me.0 }) (sym (ap (λ (x : ℕ). set s.words 0 x) same ∙ set-get_or s.words 0 0))
            (subst (λ (z : List (SeatOf M)). IsKept M n record { words = s.words; homes = s.homes; views = z }) (sym (set_again s.views id me.0 at)) r),
        (refl, learnt me.0 record { next = slice_index s.words 0; views = r.views; rule = r.rule; among = λ k v h. (r.known.seen id k me.0 v at h).0 }),
      )

  -- two views of one moment are of one group
  pub two_of_one : (n : ℕ) (vs : List (ViewOf M)) (v w : ViewOf M) → AreOfOneMoment M n vs → vs ≡ v ∷ w ∷ [] → AreOfOneGroup M v w
  two_of_one n vs v w r two =
      of_one_group M n r.next r.views v w r.rule (r.among 0 v (subst (λ (l : List (ViewOf M)). get_elem? l 0 ≡ some v) (sym two) refl)) (r.among 1 w (subst (λ (l : List (ViewOf M)). get_elem? l 1 ≡ some w) (sym two) refl))

module _ {B L T : Type 0} where
  lend : Me (Option (Envelope B)) (Known B L T) → Me (Option (Envelope B)) (Known B L T)
  lend m = (rest_part 0 Gone m.0, [])

  left : Me (Option (Envelope B)) (Known B L T) → Me (Option (Envelope B)) (Known B L T)
  left m = (first_part 0 m.0.spare m.0, m.1)

  take_in : Me (Option (Envelope B)) (Known B L T) → Me (Option (Envelope B)) (Known B L T) → Me (Option (Envelope B)) (Known B L T)
  take_in m l = (both m.0 l.0, m.1)

  keep_first : Me (Option (Envelope B)) (Known B L T) → Me (Option (Envelope B)) (Known B L T)
  keep_first m = (first_part 1 m.0.spare m.0, m.1)

  give_back : Me (Option (Envelope B)) (Known B L T) → Me (Option (Envelope B)) (Known B L T)
  give_back m = (rest_part 1 Gone m.0, [])

  one_after : (a : Bool) (k : ℕ) (ls : List (Look B)) (v : View B L T) (b : Bool) (l : ℕ) (ls' : List (Look B)) (w : View B L T) → keep_first (take_in (holding a k ls v) (lend (holding b l ls' w))) ≡ holding a k ls v
  unfolding lend take_in keep_first
  one_after true k ls v true l ls' w = refl
  one_after true k ls v false l ls' w = refl
  one_after false k ls v true l ls' w = refl
  one_after false k ls v false l ls' w = refl

  other_after : (a : Bool) (k : ℕ) (ls : List (Look B)) (v : View B L T) (b : Bool) (l : ℕ) (ls' : List (Look B)) (w : View B L T)
      → take_in (left (holding b l ls' w)) (give_back (take_in (holding a k ls v) (lend (holding b l ls' w)))) ≡ holding b l ls' w
  unfolding lend take_in give_back left
  other_after true k ls v true l ls' w = refl
  other_after true k ls v false l ls' w = refl
  other_after false k ls v true l ls' w = refl
  other_after false k ls v false l ls' w = refl

  two_views : (a : Bool) (k : ℕ) (ls : List (Look B)) (v : View B L T) (b : Bool) (l : ℕ) (ls' : List (Look B)) (w : View B L T) → (take_in (holding a k ls v) (lend (holding b l ls' w))).0.views ≡ v ∷ w ∷ []
  unfolding lend take_in
  two_views true k ls v true l ls' w = refl
  two_views true k ls v false l ls' w = refl
  two_views false k ls v true l ls' w = refl
  two_views false k ls v false l ls' w = refl

  -- a meeting leaves both seats unchanged, and during it one seat has both views
  pub meets_back : (one0 one1 one2 one3 other0 other1 other2 lent back : Me (Option (Envelope B)) (Known B L T)) (a : Bool) (k : ℕ) (ls : List (Look B)) (v : View B L T) (b : Bool) (l : ℕ) (ls' : List (Look B)) (w : View B L T)
      → one0 ≡ holding a k ls v → other0 ≡ holding b l ls' w
      → other1 ≡ (first_part 0 other0.0.spare other0.0, other0.1) → lent ≡ (rest_part 0 Gone other0.0, []) → one1 ≡ (both one0.0 lent.0, one0.1) → one2 ≡ one1
      → one3 ≡ (first_part 1 one2.0.spare one2.0, one2.1) → back ≡ (rest_part 1 Gone one2.0, []) → other2 ≡ (both other1.0 back.0, other1.1)
      → (one3 ≡ one0) × (other2 ≡ other0) × (one1.0.views ≡ v ∷ w ∷ [])
  unfolding lend left take_in keep_first give_back
  meets_back one0 one1 one2 one3 other0 other1 other2 lent back a k ls v b l ls' w is_one is_other e_other1 e_lent e_one1 e_one2 e_one3 e_back e_other2 =
      let one : one1 ≡ take_in (holding a k ls v) (lend (holding b l ls' w)) = e_one1 ∙ (λ i. take_in (is_one i) ((e_lent ∙ ap lend is_other) i)) in
      let two : one2 ≡ take_in (holding a k ls v) (lend (holding b l ls' w)) = e_one2 ∙ one in (
        e_one3 ∙ ap keep_first two ∙ one_after a k ls v b l ls' w ∙ sym is_one,
        e_other2 ∙ (λ i. take_in ((e_other1 ∙ ap left is_other) i) ((e_back ∙ ap give_back two) i)) ∙ other_after a k ls v b l ls' w ∙ sym is_other,
        ap (λ (m : Me (Option (Envelope B)) (Known B L T)). m.0.views) one ∙ two_views a k ls v b l ls' w,
      )

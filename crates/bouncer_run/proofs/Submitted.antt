-- What orders submit to nodes, one after the other.
use Rattle.std.proofs.Common.{◌≡◌, ℕ, List, [], ◌∷◌, ◌++◌, refl, subst, sym}
use Rattle.driver.specs.declared.order.Order.{Order}
use Rattle.bouncer_run.specs.Submissions.{TowerNote, AreTold, note_in, notes_in}

module _ {N : Type 0} (has_told : N → ℕ → TowerNote → N → Type 0) where
  -- some notes are sent, and then more
  both_told : (first more : List (ℕ × TowerNote)) (old mid new : N) → AreTold has_told first old mid → AreTold has_told more mid new → AreTold has_told (first ++ more) old new
  both_told [] more old mid new g h = subst (λ (n : N). AreTold has_told more n new) g h
  both_told (note ∷ first) more old mid new g h = (g.0, g.1, both_told first more g.0 mid new g.2 h)

  -- the note of an order is sent, and then those of more
  pub one_told : (order : Order) (orders : List Order) (old mid new : N) → AreTold has_told (note_in order) old mid → AreTold has_told (notes_in orders) mid new → AreTold has_told (notes_in (order ∷ orders)) old new
  one_told order orders old mid new g h = both_told (note_in order) (notes_in orders) old mid new g h

  -- once no order is left
  pub none_told : (orders : List Order) (new : N) → orders ≡ [] → AreTold has_told (notes_in orders) new new
  none_told orders new none = subst (λ (l : List Order). AreTold has_told (notes_in l) new new) (sym none) refl

-- Orders that are merged, and one more.
use Rattle.std.proofs.Common.{◌≡◌, ◌∙◌, ℕ, Bool, true, false, not, ◌&&◌, List, [], ◌∷◌, ◌++◌, Option, Some, None, refl, sym, ap}
use Rattle.driver.specs.declared.order.Order.{Order}
use Rattle.std.specs.Prelude.{◌==◌}
use Rattle.std.proofs.lemmas.List.{append-nil}
use Rattle.driver.specs.Deeds.{are_merged, are_merged_behind, are_two, is_last_apart, write_of, written_by, written_last}
use Rattle.driver.specs.declared.order_list.Writing.{Writing}

alone : (b : Bool) → (b && true) ≡ b
alone true = refl
alone false = refl

further : (a b c d : Bool) → b ≡ (c && d) → (a && b) ≡ ((a && c) && d)
further true b c d e = e
further false b c d e = refl

pub merged_behind : (client : Option ℕ) (orders : List Order) (order : Order) → are_merged_behind client (orders ++ order ∷ []) ≡ (are_merged_behind client orders && are_two (written_last client orders) (written_by order))
merged_behind client [] order = alone (are_two client (written_by order))
merged_behind client (first ∷ orders) order = further _ _ _ _ (merged_behind (written_by first) orders order)

pub last_behind : (client : Option ℕ) (orders : List Order) (order : Order) → written_last client (orders ++ order ∷ []) ≡ written_by order
last_behind client [] order = refl
last_behind client (first ∷ orders) order = last_behind (written_by first) orders order

-- one more is merged, if it writes to another client than the last of those before it
pub merged_more : (orders after : List Order) (order : Order) → after ≡ orders → are_merged orders ≡ true → are_two (written_last None orders) (written_by order) ≡ true → are_merged (after ++ order ∷ []) ≡ true
merged_more orders after order is merged two =
    ap (λ (o : List Order). are_merged (o ++ order ∷ [])) is ∙ merged_behind None orders order ∙ ap (λ b. b && are_two (written_last None orders) (written_by order)) merged ∙ two

-- a last one that writes to the same client in place of another
pub merged_still : (orders : List Order) (old new : Order) → written_by old ≡ written_by new → are_merged (orders ++ old ∷ []) ≡ true → are_merged (orders ++ new ∷ []) ≡ true
merged_still orders old new same merged =
    merged_behind None orders new ∙ ap (λ (c : Option ℕ). are_merged orders && are_two (written_last None orders) c) (sym same) ∙ sym (merged_behind None orders old) ∙ merged

-- an order that writes to no client
two_of_none : (client : Option ℕ) → are_two client None ≡ true
two_of_none None = refl
two_of_none (Some client) = refl

pub merged_other : (orders after : List Order) (order : Order) → after ≡ orders → are_merged orders ≡ true → written_by order ≡ None → are_merged (after ++ order ∷ []) ≡ true
merged_other orders after order is merged other =
    merged_more orders after order is merged (ap (are_two (written_last None orders)) other ∙ two_of_none (written_last None orders))

pub none_last : (orders : List Order) (order : Order) → written_by order ≡ None → is_last_apart None (written_last None (orders ++ order ∷ [])) ≡ true
none_last orders order other = ap (is_last_apart None) (last_behind None orders order ∙ other)

apart_none : (client : Option ℕ) → is_last_apart None client ≡ true → client ≡ None
apart_none None is = refl
apart_none (Some client) is = absurd (cc is)

-- if the last is no write, a write to any client is another order
pub two_behind_none : (orders : List Order) (client : ℕ) → is_last_apart None (written_last None orders) ≡ true → are_two (written_last None (orders ++ [])) (Some client) ≡ true
two_behind_none orders client is = ap (λ (o : List Order). are_two (written_last None o) (Some client)) (append-nil orders) ∙ ap (λ (c : Option ℕ). are_two c (Some client)) (apart_none (written_last None orders) is)

-- if it is a write to another client, too
pub two_behind_write : (orders : List Order) (order : Order) (other client : ℕ) → written_by order ≡ Some other → (other == client) ≡ false → are_two (written_last None (orders ++ order ∷ [])) (Some client) ≡ true
two_behind_write orders order other client is two =
    ap (λ (c : Option ℕ). are_two c (Some client)) (last_behind None orders order ∙ is) ∙ ap not two

-- after an order that writes to no client nothing is held apart
pub merged_apart : (orders items : List Order) (order : Order) (last : Option Writing) → items ≡ orders ++ order ∷ [] → last ≡ None → are_merged orders ≡ true → written_by order ≡ None → (is_last_apart last (written_last None items) ≡ true) × (are_merged (items ++ write_of last) ≡ true)
merged_apart orders items order (Some writing) is none merged other = absurd (cc none)
merged_apart orders items order None is none merged other = (
  ap (λ (o : List Order). is_last_apart None (written_last None o)) is ∙ none_last orders order other,
  ap are_merged (append-nil items ∙ is) ∙ merged_other orders orders order refl merged other,
)

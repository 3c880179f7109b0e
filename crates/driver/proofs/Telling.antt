-- How many notes each node was sent, with one order more.
use Rattle.std.proofs.Common.{◌≡◌, ◌∙◌, ℕ, ◌-◌, List, [], ◌∷◌, ◌++◌, refl, sym, ap, set}
use Rattle.std.proofs.lemmas.List.{append_assoc}
use Rattle.bouncer_tower.specs.Bodies.{TowerBody}
use Rattle.buffer_commands.specs.declared.wire_line.WireLine.{WireLine}
use Rattle.node_notes.specs.declared.note.Note.{Note}
use Rattle.driver.specs.declared.order.Order.{Order}
use Rattle.driver.specs.declared.order.Order.TheVariants.{Submit}
use Rattle.driver.specs.Telling.{Ordered, counted, counts, next_note, ordered, told_to}

-- the last order counts after those before it
pub counts_push : (told : List ℕ) (items : List Order) (order : Order) → counts told (items ++ order ∷ []) ≡ counted (counts told items) order
unfolding counts
counts_push told [] order = refl
counts_push told (item ∷ items) order = counts_push (counted told item) items order

-- a node that is sent one more note has the note's number as its count
pub tell_counts : (told before : List ℕ) (items : List Order) (node : ℕ) (note : Note TowerBody WireLine) (number : ℕ) → told ≡ counts before items → number ≡ next_note (record { before = before; items = items }) node → set told (node - 1) number ≡ counts before (items ++ Submit node note ∷ [])
unfolding told_to
tell_counts told before items node note number is next =
    ap (λ (told : List ℕ). set told (node - 1) number) is
    ∙ ap (λ (number : ℕ). set (counts before items) (node - 1) number) next
    ∙ sym (counts_push before items (Submit node note))

-- two orders, one after another, and more after them
pub two_and_more : (orders : Ordered) (first second : Order) (more : List Order) → ordered (ordered (ordered orders (first ∷ [])) (second ∷ [])) more ≡ ordered orders (first ∷ second ∷ more)
two_and_more orders first second more =
    ap (λ (items : List Order). record orders { items = items })
    (append_assoc (orders.items ++ first ∷ []) (second ∷ []) more ∙ append_assoc orders.items (first ∷ []) (second ∷ more))

-- three orders, one after another
pub three_ordered : (orders : Ordered) (first second third : Order) → ordered (ordered (ordered orders (first ∷ [])) (second ∷ [])) (third ∷ []) ≡ ordered orders (first ∷ second ∷ third ∷ [])
three_ordered orders first second third =
    ap (λ (items : List Order). record orders { items = items })
    (append_assoc (orders.items ++ first ∷ []) (second ∷ []) (third ∷ []) ∙ append_assoc orders.items (first ∷ []) (second ∷ third ∷ []))

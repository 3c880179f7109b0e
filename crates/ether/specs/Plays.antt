-- What each kind of step says: about the step, the seat before, the number found and the seat after.
use Rattle.std.specs.Prelude.{◌≡◌, ℕ, suc, ◌+◌, ◌<◌, ◌≤◌, Bool, true, false, List, [], ◌∷◌, ◌++◌, take, drop, Option, Some, None}
use Rattle.atomic_table.specs.Table.{Me, Step}
use Rattle.raft_log.specs.Lists.{item}
use Rattle.raft_log.specs.Node.{Node}
use Rattle.raft_node.specs.Machine.{Machine}
use Rattle.world_views.specs.declared.envelope.Envelope.{Envelope}
use Rattle.world_views.specs.Own.{EventOf, ViewOf, own_state}
use Rattle.world_views.specs.Rule.{IsRule}
use Rattle.world_views.specs.Views.{IsAt, View}
use Rattle.ether.specs.Rule.{Spare, Known, Look, IsMarked, full, known, look_at, slot_of}
use Rattle.ether.specs.Rule.Spare.{Bank, Home, Out, Gone}

module _ {B L T : Type 0} where
  -- the view after the opening, at a ticket, as this node, over a store that is honest or not
  abbrev pub after_opening : View B L T → ℕ → Bool → Node B → View B L T
  after_opening v t honest s = record v { honest = honest; opened = Some (t, s); state = s }

  -- after a message of this number was posted
  abbrev pub after_post : View B L T → ℕ → View B L T
  after_post v number = record v { posted = v.posted ++ number ∷ [] }

  -- after a look into a mailbox that had this
  abbrev pub after_take : View B L T → Option (Envelope B) → View B L T
  after_take v None = v
  after_take v (Some e) = record v { heard = v.heard ++ e ∷ [] }

  -- The older message that a post replaced: the node had sent it too, to the same node.
  abbrev pub IsOlder : View B L T → Envelope B → Option (Envelope B) → Type 0
  IsOlder v e None = Unit {0}
  IsOlder v e (Some old) =
      (old.message.from ≡ suc v.node) × (old.message.to ≡ e.message.to)
      × (v.honest ≡ true → item v.state.sent old.number ≡ Some old.message)

  -- the list with its first view changed
  abbrev pub on_first : (View B L T → View B L T) → List (View B L T) → List (View B L T)
  on_first f [] = []
  on_first f (v ∷ vs) = f v ∷ vs

  -- a seat of the node with this view, whose spare is this slot, out or at home
  abbrev pub holding : Bool → ℕ → List (Look B) → View B L T → Me (Option (Envelope B)) (Known B L T)
  holding true k looks v = (known (Out k) looks (v ∷ []), (k, None) ∷ [])
  holding false k looks v = (known (Home k) looks (v ∷ []), [])

  -- the same, with a message in the slot
  abbrev pub carrying : ℕ → Option (Envelope B) → List (Look B) → View B L T → Me (Option (Envelope B)) (Known B L T)
  carrying k y looks v = (known (Out k) looks (v ∷ []), (k, y) ∷ [])

  -- the seat with its first view changed
  abbrev pub on_view : (View B L T → View B L T) → Known B L T → Known B L T
  on_view f s = record s { views = on_first f s.views }

-- a seat's spare once it is taken out of its home; one that is out already, a bank and none are unchanged
abbrev pub out_of : Spare → Spare
out_of (Bank k) = Bank k
out_of (Home k) = Out k
out_of (Out k) = Out k
out_of Gone = Gone

-- the slots that a seat carries once its spare is out: one from home comes first, and is empty
abbrev pub carried_out : {B : Type 0} → Spare → List (ℕ × Option (Envelope B)) → List (ℕ × Option (Envelope B))
carried_out (Bank k) c = c
carried_out (Home k) c = (k, None) ∷ c
carried_out (Out k) c = c
carried_out Gone c = c

-- the number of the message in a slot, 0 if the slot is empty
abbrev pub number_in_slot : {B : Type 0} → Option (Envelope B) → ℕ
number_in_slot None = 0
number_in_slot (Some e) = e.number

-- the number of the message in the first slot that a seat carries, 0 if there is none
abbrev pub number_in : {B : Type 0} → List (ℕ × Option (Envelope B)) → ℕ
number_in [] = 0
number_in (c ∷ cs) = number_in_slot c.1

-- what came, if something did, is from this node
abbrev pub IsFrom : {B : Type 0} → ℕ → Option (Envelope B) → Type 0
IsFrom from None = Unit {0}
IsFrom from (Some e) = e.message.from ≡ suc from

module _ {B L T : Type 0} where
  -- what a seat knows after an opening, at the ticket that was found
  abbrev pub opened : Bool → Node B → ℕ → Known B L T → Known B L T
  opened honest s t k = on_view (λ v. after_opening v t honest s) k

module _ (M : Machine) where
  -- the view after an event of the node, at this ticket
  abbrev pub after_event : ViewOf M → ℕ → EventOf M → ViewOf M
  after_event v t e = record v { turns = v.turns ++ (t, e) ∷ []; state = own_state M v.size (suc v.node) v.state e }

  -- what a seat knows after an event, at the ticket that was found
  abbrev pub ticked : EventOf M → ℕ → Known M.Body M.Line M.Target → Known M.Body M.Line M.Target
  ticked e t k = on_view (λ v. after_event v t e) k

-- These views are of one moment: they are among the views of all nodes of a group of this size, which keep the rule.
pub record AreOfOneMoment (M : Machine) (size : ℕ) (some_views : List (ViewOf M)) : Type 0 where
  pub next : ℕ
  pub views : List (ViewOf M)
  pub rule : IsRule M size next views
  pub among : (k : ℕ) (v : ViewOf M) → IsAt some_views k v → IsAt views v.node v

module _ (M : Machine) where
  -- so are those that a seat knows
  abbrev pub of_one_moment : ℕ → Known M.Body M.Line M.Target → Type 0
  of_one_moment size k = AreOfOneMoment M size k.views

-- what a step says
abbrev pub Tells : (B L T : Type 0) → Type 1
Tells B L T = Step (Option (Envelope B)) → Me (Option (Envelope B)) (Known B L T) → ℕ → Me (Option (Envelope B)) (Known B L T) → Type 0

module _ {B L T : Type 0} where
  -- what the seat knows changes by the ticket that was found, and its spare slot is out
  abbrev pub opens_seat : (ℕ → Known B L T → Known B L T) → Tells B L T
  opens_seat f st m r n = n ≡ (record (f r m.0) { spare = out_of m.0.spare }, carried_out m.0.spare m.1)

  -- what the seat knows changes by the ticket that was found
  abbrev pub counted : (ℕ → Known B L T → Known B L T) → Tells B L T
  counted f st m r n = n ≡ (f r m.0, m.1)

  -- The slot of the word that was found is the new spare, empty if the word has no mark. Its message is older than the
  -- one that was posted; the look is kept, and with it what was found.
  abbrev pub posted : Tells B L T
  posted st m r n =
      (y : Option (Envelope B))
      × (n ≡ (known (Out (slot_of r)) (m.0.looks ++ look_at st.word y ∷ []) (on_first (λ v. after_post v (number_in m.1)) m.0.views), (slot_of r, y) ∷ []))
      × IsMarked r y
      × ((k : ℕ) (e : Envelope B) (looks : List (Look B)) (v : View B L T) → m ≡ carrying k (Some e) looks v → IsOlder v e y)

  -- the message in the mailbox is heard, and is from this node; the look is kept, and with it what was found
  abbrev pub taken : ℕ → Tells B L T
  taken from st m r n =
      (y : Option (Envelope B))
      × (n ≡ (known (Out (slot_of r)) (m.0.looks ++ look_at st.word y ∷ []) (on_first (λ v. after_take v y) m.0.views), (slot_of r, y) ∷ [])) × IsFrom from y

  -- if the word that was found has no mark, the mailbox was empty, and this look is kept; else nothing changes
  abbrev pub glanced : Tells B L T
  glanced st m r n = (r < full → n ≡ (known m.0.spare (m.0.looks ++ look_at st.word None ∷ []) m.0.views, m.1)) × (full ≤ r → n ≡ m)

  -- nothing changes, and this is learnt of what the seat knows
  abbrev pub met : (Known B L T → Type 0) → Tells B L T
  met fact st m r n = (n ≡ m) × fact m.0

  -- the seat that is cut keeps the first c views
  abbrev pub first_part : ℕ → Spare → Known B L T → Known B L T
  first_part c x s = known x s.looks (take c s.views)

  -- the seat that is cut off gets the views after the first c, and no looks
  abbrev pub rest_part : ℕ → Spare → Known B L T → Known B L T
  rest_part c x s = known x [] (drop c s.views)

  -- one seat takes in the views of another, after its own
  abbrev pub both : Known B L T → Known B L T → Known B L T
  both s t = known s.spare s.looks (s.views ++ t.views)

-- the spare that the dealing seat keeps for its node: the bank's first slot, at home, or none if it has no bank
abbrev pub dealt : Spare → Spare
dealt (Bank k) = Home k
dealt (Home k) = Gone
dealt (Out k) = Gone
dealt Gone = Gone

-- the spare of the new seat, which deals on: the bank without its first slot, or none
abbrev pub bank_after : Spare → Spare
bank_after (Bank k) = Bank (k + 1)
bank_after (Home k) = Gone
bank_after (Out k) = Gone
bank_after Gone = Gone

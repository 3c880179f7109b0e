-- The rule of an ether's table. Word 0 is the next ticket. Every other word is a mailbox: the number of its slot, with
-- a mark if a message is in that slot. Each node's seat has one slot that is in no mailbox, its spare, which a post or
-- a take swaps for the one in the mailbox.
use Rattle.std.specs.Prelude.{◌≡◌, ℕ, suc, ◌+◌, ◌*◌, ◌%◌, ◌<◌, ◌≤◌, Bool, true, false, List, [], ◌∷◌, length, slice_index, Option, Some, None}
use mathlib.Core.Option.{some}
use mathlib.Core.Option as maybe
use lib.ListN.{get_elem?}
use Rattle.atomic_table.specs.Table.{State}
use Rattle.raft_node.specs.Machine.{Machine}
use Rattle.raft_node.specs.Raft.{newborn}
use Rattle.world_views.specs.declared.envelope.Envelope.{Envelope}
use Rattle.world_views.specs.Own.{ViewOf}
use Rattle.world_views.specs.Rule.{Stands, IsRule}
use Rattle.world_views.specs.Views.{View, sender, addressee}

-- a bank has all the slots from this one on, to deal; a spare is at home until the opening or the first swap takes it out
pub data Spare : Type 0 where
  Bank : ℕ → Spare
  Home : ℕ → Spare
  Out : ℕ → Spare
  Gone : Spare

-- one look into a mailbox, by a post or a take: the word of the mailbox, and what was in it
pub record Look (B : Type 0) : Type 0 where
  pub word : ℕ
  pub found : Option (Envelope B)

-- what a seat knows: its spare slot, its looks into mailboxes, in order, and the views of its nodes
pub record Known (B L T : Type 0) : Type 0 where
  pub spare : Spare
  pub looks : List (Look B)
  pub views : List (View B L T)

-- what has a slot: a mailbox, or a seat
pub data Owner : Type 0 where
  mailbox : ℕ → Owner
  seat : ℕ → Owner

-- the word of the mailbox from one node to another, of n nodes
abbrev pub mailbox_of : ℕ → ℕ → ℕ → ℕ
mailbox_of n from to = from * n + to + 1

-- how much a mailbox's word exceeds its slot's number if a message is in the slot; there are fewer slots
abbrev pub full : ℕ
full = 64

-- the slot in the mailbox with this word
abbrev pub slot_of : ℕ → ℕ
slot_of w = w % full

-- a word with no mark says that the slot is empty
abbrev pub IsMarked : {B : Type 0} → ℕ → Option (Envelope B) → Type 0
IsMarked w y = w < full → y ≡ None

-- a look into the mailbox of this word, which had this
abbrev pub look_at : {B : Type 0} → ℕ → Option (Envelope B) → Look B
look_at word found = record { word = word; found = found }

-- a look that is kept only if the mailbox was empty
abbrev pub look_if : {B : Type 0} → Bool → ℕ → List (Look B)
look_if true word = look_at word None ∷ []
look_if false word = []

module _ {B L T : Type 0} where
  -- a seat with this spare, these looks and these views
  abbrev pub known : Spare → List (Look B) → List (View B L T) → Known B L T
  known x looks vs = record { spare = x; looks = looks; views = vs }

  -- a seat with no node
  abbrev pub spent : Known B L T
  spent = known Gone [] []

  -- the view of a node to which nothing happened
  abbrev pub blank : ℕ → ℕ → View B L T
  blank n i = record { size = n; node = i; honest = true; opened = None; turns = []; state = newborn n; heard = []; posted = [] }

  -- the blank views of k of n nodes, from node i on
  abbrev pub blanks : ℕ → ℕ → ℕ → List (View B L T)
  blanks n i ℕ.zero = []
  blanks n i (ℕ.suc k) = blank n i ∷ blanks n (i + 1) k

  -- the first seat, which deals
  abbrev pub dealer : ℕ → Known B L T
  dealer n = known (Bank (n * n)) [] (blanks n 0 n)

  -- each view that a seat knows is one of these, and each of these is known to one seat
  pub record IsKnown (vs : List (View B L T)) (seats : List (Known B L T)) : Type 0 where
    pub holder : ℕ → ℕ
    pub place : ℕ → ℕ
    pub seen : (id k : ℕ) (s : Known B L T) (v : View B L T) → get_elem? seats id ≡ some s → get_elem? s.views k ≡ some v
        → (get_elem? vs v.node ≡ some v) × (holder v.node ≡ id) × (place v.node ≡ k)

module _ {B : Type 0} where
  -- the spare slot of a seat is its own, and empty if it is at home
  abbrev pub Holds : (ℕ → Owner) → List (maybe.Option (Option (Envelope B))) → ℕ → Spare → Type 0
  Holds owner homes id (Bank k) = (j : ℕ) → k ≤ j → j < length homes → (owner j ≡ seat id) × (get_elem? homes j ≡ some (some None))
  Holds owner homes id (Home k) = (owner k ≡ seat id) × (get_elem? homes k ≡ some (some None))
  Holds owner homes id (Out k) = (owner k ≡ seat id) × (k < length homes)
  Holds owner homes id Gone = Unit {0}

module _ (M : Machine) where
  -- what may be in the mailbox of word a: a message that stands with its sender, of the pair of nodes that has this
  -- mailbox
  abbrev pub MayLie : ℕ → List (ViewOf M) → ℕ → ℕ → Option (Envelope M.Body) → Type 0
  MayLie n vs next a None = Unit {0}
  MayLie n vs next a (Some e) =
      Stands M vs next e × (a ≡ mailbox_of n (sender e) (addressee e)) × (e.message.to ≡ suc (addressee e)) × (addressee e < n)

  -- the slots: each has one owner, and what is in a mailbox may be there
  pub record IsStowed (n next : ℕ) (vs : List (ViewOf M)) (s : State (Option (Envelope M.Body)) (Known M.Body M.Line M.Target)) : Type 0 where
    pub owner : ℕ → Owner
    pub boxes : (a w : ℕ) → 0 < a → get_elem? s.words a ≡ some w
        → (owner (slot_of w) ≡ mailbox a)
        × ((y : Option (Envelope M.Body)) × (get_elem? s.homes (slot_of w) ≡ some (some y)) × MayLie n vs next a y × IsMarked w y)
    pub spares : (id : ℕ) (v : Known M.Body M.Line M.Target) → get_elem? s.views id ≡ some v → Holds owner s.homes id v.spare

  -- the rule: the views of all nodes meet the three clauses, each seat's views are of these, and the slots are stowed
  pub record IsKept (n : ℕ) (s : State (Option (Envelope M.Body)) (Known M.Body M.Line M.Target)) : Type 0 where
    pub views : List (ViewOf M)
    pub few : n < 8
    pub wide : length s.words ≡ n * n + 1
    pub shelf : length s.homes ≡ n * n + n
    pub rule : IsRule M n (slice_index s.words 0) views
    pub known : IsKnown views s.views
    pub stowed : IsStowed n (slice_index s.words 0) views s

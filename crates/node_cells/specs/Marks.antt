-- Marks that a node asked for in its run, and those of its run that it applied.
use Rattle.std.specs.Prelude.{◌≡◌, ℕ, suc, Bool, true, false, ◌&&◌, ◌||◌, ◌==◌, nat_le, nat_lt, if◌then◌else◌, List, [], ◌∷◌, take, Option, Some, None}
use Rattle.wire_bytes.specs.declared.mark.Mark.{Mark}
use Rattle.raft_log.specs.declared.entry.Entry.{Entry}
use Rattle.raft_log.specs.declared.node_state.NodeState.{NodeState}
use Rattle.raft_log.specs.Lists.{item}
use Rattle.raft_node.specs.Sound.{IsSound}
use Rattle.world_views.specs.declared.node_event.NodeEvent.{NodeEvent}
use Rattle.world_views.specs.declared.node_event.NodeEvent.TheVariants.{Does, Look, Restart, StopIn}
use Rattle.world_views.specs.Inputs.{NodeInput}
use Rattle.raft_node.specs.declared.input.Input.TheVariants.{Timeout, Beat, Deliver, Ask, Opened, Closed, Heard, Claim, Apply}
use Rattle.world_views.specs.Views.{Ticketed, View}

-- the larger of two numbers
abbrev pub larger : ℕ → ℕ → ℕ
larger a b = if nat_lt a b then b else a

-- the number of a mark, 0 if there is none
abbrev pub number_of : Option Mark → ℕ
number_of None = 0
number_of (Some m) = m.number

-- this is a mark of this run of this node, of at least this number
abbrev pub is_own : ℕ → ℕ → ℕ → Option Mark → Bool
is_own node boot number None = false
is_own node boot number (Some m) = (m.node == node && m.boot == boot) && nat_le number m.number

-- the greatest number is at least this
abbrev pub is_reached : Option ℕ → ℕ → Bool
is_reached None number = false
is_reached (Some most) number = nat_le number most

-- the greatest number with that of a mark
abbrev pub with_number : ℕ → Option ℕ → ℕ
with_number n None = n
with_number n (Some most) = larger most n

-- the greatest number, after this was applied: a mark of this run of this node counts
abbrev pub with_mark : ℕ → ℕ → Option Mark → Option ℕ → Option ℕ
with_mark node boot None reached = reached
with_mark node boot (Some m) reached = if m.node == node && m.boot == boot then Some (with_number m.number reached) else reached

module _ {B : Type 0} (marked : B → Option Mark) where
  -- the mark of an entry, if there is one
  abbrev pub mark_of : Option (Entry B) → Option Mark
  mark_of None = None
  mark_of (Some e) = marked e.body

  -- the mark at a place
  abbrev pub mark_at : List (Entry B) → ℕ → Option Mark
  mark_at log place = mark_of (item log place)

  -- one of these entries is a mark of this run of this node, of at least this number
  abbrev pub has_own : ℕ → ℕ → ℕ → List (Entry B) → Bool
  has_own node boot number [] = false
  has_own node boot number (e ∷ es) = is_own node boot number (marked e.body) || has_own node boot number es

  -- the greatest number of an own mark that was applied, given the one before the node's state was this
  abbrev pub reached_after : ℕ → ℕ → NodeState B → Option ℕ → Option ℕ
  reached_after node before state reached =
      if nat_lt before state.standing.applied
      then with_mark node state.standing.boot (mark_at state.log state.standing.applied) reached
      else reached

  module _ {L : Type 0} where
    -- the number of the mark that an input asks for, 0 if it asks for none
    abbrev pub asks : NodeInput B L → ℕ
    asks Timeout = 0
    asks Beat = 0
    asks (Deliver e) = 0
    asks (Ask body) = number_of (marked body)
    asks Opened = 0
    asks Closed = 0
    asks (Heard at line) = 0
    asks Claim = 0
    asks Apply = 0

    -- the greatest number of a mark that was asked for, if it was `most` before these inputs
    abbrev pub asked_by_all : ℕ → List (NodeInput B L) → ℕ
    asked_by_all most [] = most
    asked_by_all most (x ∷ inputs) = asked_by_all (larger most (asks x)) inputs

  module _ {L T : Type 0} where
    -- the greatest number of a mark that was asked for in a run, after an event: a new run has asked for none
    abbrev pub asked_after : ℕ → NodeEvent B L T → ℕ
    asked_after most (Does x) = larger most (asks x)
    asked_after most (Look from target) = most
    asked_after most Restart = 0
    asked_after most (StopIn x after) = 0

    -- the greatest number of a mark that was asked for in a run, after these turns, if it was `most` before them
    abbrev pub asked_from : ℕ → List (Ticketed B L T) → ℕ
    asked_from most [] = most
    asked_from most (t ∷ turns) = asked_from (asked_after most t.1) turns

    -- the greatest number of a mark that the view's node asked for in its run, 0 if it asked for none
    abbrev pub asked_in : View B L T → ℕ
    asked_in v = asked_from 0 v.turns

    -- the view's node has applied a mark of its own, of its run, of at least this number
    abbrev pub has_applied : View B L T → ℕ → Bool
    has_applied v number = has_own (suc v.node) v.state.boot number (take v.state.applied v.state.log)

    -- What a cell knows of marks: the greatest number that its run asked for, and over an honest store the greatest of
    -- its run that was applied.
    pub record KnowsMarks (v : View B L T) (asked : ℕ) (reached : Option ℕ) : Type 0 where
      pub asked_is : asked ≡ asked_in v
      pub sound : v.honest ≡ true → IsSound v.size v.state
      pub reached_is : v.honest ≡ true → (number : ℕ) → is_reached reached number ≡ has_applied v number

-- A group of nodes that agree on a log by Raft, and what may happen to it. Of the layers above only this is seen: a
-- step may set what they keep to anything, and a leader may append any body in it.
use Rattle.std.specs.Prelude.{◌≡◌, ℕ, Bool, List, [], ◌∷◌, ◌++◌, length, take, replicate, Option, Some, None}
use Rattle.raft_log.specs.declared.entry.Entry.{Entry}
use Rattle.raft_log.specs.declared.message.Message.{Message}
use Rattle.raft_log.specs.declared.node_state.Live.{Live}
use Rattle.raft_log.specs.Lists.{item, with_item}
use Rattle.raft_log.specs.Node.{Node}
use Rattle.election.specs.Elections.{timed_out}
use Rattle.replication.specs.Replication.{beat, on_forward, ask}
use Rattle.node_steps.specs.Messages.{on_message}
use Rattle.raft_node.specs.Raft.{newborn, restarted}
use Rattle.raft_node.specs.Steps.{stopped}

-- what one node does, with what it hears
pub data Act (B : Type 0) : Type 0 where
  Expires : Act B
  Beats : Act B
  Hears : Message B → Act B
  Asks : (body : B) → Act B
  Lifts : (applied : ℕ) (live : Option Live) (attempts : ℕ) (adds : Option B) → Act B  -- the upper layers keep this now
  Nothing : Act B

-- what happens to one node: it acts, is started again, or stops within an act, before or after that is saved, and is started again
pub data Own (B : Type 0) : Type 0 where
  Acts : Act B → Own B
  Restarts : Own B
  Stops : Act B → (after : Bool) → Own B

-- what may happen in a group, by the node to which it does
pub data Input (B : Type 0) : Type 0 where
  Timeout : (node : ℕ) → Input B
  Beat : (node : ℕ) → Input B
  Deliver : (sender number : ℕ) → Input B  -- the message of this number among those that the sender sent
  Ask : (node : ℕ) (body : B) → Input B
  Lift : (node applied : ℕ) (live : Option Live) (attempts : ℕ) (adds : Option B) → Input B
  Idle : (node : ℕ) → Input B

-- an input, a restart of a node, or a stop within an input, before or after that is saved
pub data Event (B : Type 0) : Type 0 where
  Does : Input B → Event B
  Restart : (node : ℕ) → Event B
  StopIn : Input B → (after : Bool) → Event B

module _ {B : Type 0} where
  -- the upper layers keep this now
  abbrev pub lifted : Node B → ℕ → Option Live → ℕ → Node B
  lifted s applied live attempts = record s { applied = applied; live = live; attempts = attempts }

  -- a leader may append a body
  abbrev pub adding : Node B → Option B → Node B
  adding s None = s
  adding s (Some body) = on_forward s body

  -- the result of an act
  abbrev pub acted : B → ℕ → ℕ → Act B → Node B → Node B
  acted blank size i Expires s = timed_out size i s
  acted blank size i Beats s = beat size i s
  acted blank size i (Hears m) s = on_message blank size i s m
  acted blank size i (Asks body) s = ask i s body
  acted blank size i (Lifts applied live attempts adds) s = adding (lifted s applied live attempts) adds
  acted blank size i Nothing s = s

  -- the result of what happens to a node
  abbrev pub own : B → ℕ → ℕ → Own B → Node B → Node B
  own blank size i (Acts act) s = acted blank size i act s
  own blank size i Restarts s = restarted size s
  own blank size i (Stops act after) s = stopped size after s (acted blank size i act s)

  -- the message of this number that a node sent
  abbrev pub sent_of : Option (Node B) → ℕ → Option (Message B)
  sent_of None k = None
  sent_of (Some s) k = item s.sent k

  -- the node that a message is to
  abbrev pub to_of : Option (Message B) → ℕ
  to_of None = 0
  to_of (Some m) = m.to

  -- a message that was sent is heard
  abbrev pub hears : Option (Message B) → Act B
  hears None = Nothing
  hears (Some m) = Hears m

  -- the node to which an input happens
  abbrev pub actor : List (Node B) → Input B → ℕ
  actor w (Timeout i) = i
  actor w (Beat i) = i
  actor w (Deliver j k) = to_of (sent_of (item w j) k)
  actor w (Ask i body) = i
  actor w (Lift i applied live attempts adds) = i
  actor w (Idle i) = i

  -- and what it does
  abbrev pub act_of : List (Node B) → Input B → Act B
  act_of w (Timeout i) = Expires
  act_of w (Beat i) = Beats
  act_of w (Deliver j k) = hears (sent_of (item w j) k)
  act_of w (Ask i body) = Asks body
  act_of w (Lift i applied live attempts adds) = Lifts applied live attempts adds
  act_of w (Idle i) = Nothing

  -- the node to which an event happens
  abbrev pub stepper : List (Node B) → Event B → ℕ
  stepper w (Does x) = actor w x
  stepper w (Restart i) = i
  stepper w (StopIn x after) = actor w x

  -- and what happens to it
  abbrev pub own_of : List (Node B) → Event B → Own B
  own_of w (Does x) = Acts (act_of w x)
  own_of w (Restart i) = Restarts
  own_of w (StopIn x after) = Stops (act_of w x) after

  -- the world with a node changed, if there is one
  abbrev pub placed : List (Node B) → ℕ → (Node B → Node B) → Option (Node B) → List (Node B)
  placed w i f None = w
  placed w i f (Some s) = with_item w i (f s)

  -- the world after an event
  abbrev pub happens : B → List (Node B) → Event B → List (Node B)
  happens blank w e = placed w (stepper w e) (own blank (length w) (stepper w e) (own_of w e)) (item w (stepper w e))

  -- the world after these events
  abbrev pub run : B → List (Event B) → List (Node B) → List (Node B)
  run blank [] w = w
  run blank (e ∷ es) w = run blank es (happens blank w e)

  -- this many nodes over new stores
  abbrev pub start : ℕ → List (Node B)
  start size = replicate size (newborn size)

  -- the entries that a node commits
  abbrev pub committed_of : Option (Node B) → List (Entry B)
  committed_of None = []
  committed_of (Some s) = take s.commit s.log

  -- the entries that the node of this number commits
  abbrev pub committed : List (Node B) → ℕ → List (Entry B)
  committed w n = committed_of (item w n)

  -- the second list is the first, and more
  abbrev pub Begins : List (Entry B) → List (Entry B) → Type 0
  Begins xs ys = (rest : List (Entry B)) × (xs ++ rest ≡ ys)

-- Where the openings come from, and the one list of a group's events that then leads to the states of all views.
use Rattle.std.specs.Prelude.{◌≡◌, ◌+◌, ℕ, suc, List, [], ◌++◌, length, map, Option, Some, None}
use Rattle.raft_log.specs.declared.message.Message.{Message}
use Rattle.raft_log.specs.Lists.{item, range_from}
use Rattle.raft_log.specs.Node.{Node}
use Rattle.raft_node.specs.Machine.{Machine}
use Rattle.raft_node.specs.Raft.{newborn, restarted}
use Rattle.raft_node.specs.Sound.{sent_first}
use Rattle.agreement.specs.World.{start}
use Rattle.world_run.specs.World as world
use Rattle.world_run.specs.World.{Event, run}
use Rattle.world_views.specs.declared.node_event.NodeEvent.TheVariants.{Does, Look, Restart, StopIn}
use Rattle.world_views.specs.Inputs.{NodeInput}
use Rattle.raft_node.specs.declared.input.Input.TheVariants.{Timeout, Beat, Deliver, Ask, Opened, Closed, Heard, Claim, Apply}
use Rattle.world_views.specs.Views.{IsAt}
use Rattle.world_views.specs.Own.{EventOf, ViewOf}
use Rattle.world_views.specs.Merged.{PlacedOf}

module _ {B : Type 0} where
  -- what a node sent
  abbrev pub sent_by : Option (Node B) → List (Message B)
  sent_by None = []
  sent_by (Some s) = s.sent

  -- what the node of this number had sent in a world
  abbrev pub sent_in : List (Node B) → ℕ → List (Message B)
  sent_in w i = sent_by (item w i)

  -- the node as if it had sent nothing
  abbrev pub unsent : Node B → Node B
  unsent s = record s { sent = [] }

  -- a node that is started over what this one saved
  abbrev pub started_over : ℕ → Node B → Node B
  started_over size s = unsent (restarted size s)

  -- a node in a world in place of one that is not opened; it had sent something, which the views don't know
  abbrev pub idle_as : Option (Node B) → ℕ → Node B
  idle_as None size = newborn size
  idle_as (Some s) size = unsent s

  -- the same for the node at this place, from 0, of the world w
  abbrev pub idle_in : List (Node B) → ℕ → Node B
  idle_in w i = idle_as (item w (suc i)) (length w)

module _ (M : Machine) where
  -- An input of the node of this number as one of a group, if all nodes go on from the world w: the numbers of their
  -- messages go on.
  abbrev pub input_in : List (Node M.Body) → ℕ → NodeInput M.Body M.Line → world.Input M
  input_in w i Timeout = world.Timeout i
  input_in w i Beat = world.Beat i
  input_in w i (Deliver e) = world.Deliver e.message.from (length (sent_in w e.message.from) + e.number)
  input_in w i (Ask body) = world.Ask i body
  input_in w i Opened = world.Opened i
  input_in w i Closed = world.Closed i
  input_in w i (Heard at line) = world.Heard i at line
  input_in w i Claim = world.Claim i
  input_in w i Apply = world.Apply i

  -- an event of it
  abbrev pub event_in : List (Node M.Body) → ℕ → EventOf M → Event M
  event_in w i (Does x) = world.Does (input_in w i x)
  event_in w i (Look from_place target) = world.Does (world.Look i from_place target)
  event_in w i Restart = world.Restart i
  event_in w i (StopIn x after) = world.StopIn (input_in w i x) after

  -- events of all nodes
  abbrev pub events_in : List (Node M.Body) → List (PlacedOf M) → List (Event M)
  events_in w es = map (λ e. event_in w (suc e.0) e.1.1) es

  -- the world to which these events lead this many nodes over new stores
  abbrev pub world_after : ℕ → List (Event M) → List (Node M.Body)
  world_after size es = run M es (start size)

  -- the world of the openings
  abbrev pub first_world : List (Event M) → List (ViewOf M) → List (Node M.Body)
  first_world before views = world_after (length views) before

  -- the events of these records, after those that come before the openings
  abbrev pub whole : List (Event M) → List (ViewOf M) → List (PlacedOf M) → List (Event M)
  whole before views es = before ++ events_in (first_world before views) es

  -- a restart of every node
  abbrev pub restarts : ℕ → List (Event M)
  restarts size = map world.Restart (range_from 1 size)

  -- the node of this number was opened in the state that it has in this world, except for what it had sent
  abbrev pub IsOpenedIn : List (Node M.Body) → ℕ → Option (ℕ × Node M.Body) → Type 0
  IsOpenedIn w i None = Unit {0}
  IsOpenedIn w i (Some b) = (s : Node M.Body) × (item w i ≡ Some s) × (b.1 ≡ unsent s)

  -- The premise on the openings: in the world to which the events `before` lead the group over new stores, each node
  -- that was opened is as it was opened, except for what it had sent. It has two special cases, in which a caller knows
  -- it.
  abbrev pub OpenedAfter : List (Event M) → List (ViewOf M) → Type 0
  OpenedAfter before views = (i : ℕ) (v : ViewOf M) → IsAt views i v → IsOpenedIn (first_world before views) (suc i) v.opened

  -- the node was opened over a new store
  abbrev pub IsNew : ℕ → Option (ℕ × Node M.Body) → Type 0
  IsNew size None = Unit {0}
  IsNew size (Some b) = b.1 ≡ newborn size

  -- The first: the stores were new at the openings.
  abbrev pub WereNew : List (ViewOf M) → Type 0
  WereNew views = (i : ℕ) (v : ViewOf M) → IsAt views i v → IsNew (length views) v.opened

  -- the node of this number was opened over what it has saved in this world
  abbrev pub IsOpenedOver : List (Node M.Body) → ℕ → Option (ℕ × Node M.Body) → Type 0
  IsOpenedOver w i None = Unit {0}
  IsOpenedOver w i (Some b) = (s : Node M.Body) × (item w i ≡ Some s) × (b.1 ≡ started_over (length w) s)

  -- The second: the stores held, at the openings, what some list of events leaves.
  abbrev pub HeldAfter : List (Event M) → List (ViewOf M) → Type 0
  HeldAfter before views = (i : ℕ) (v : ViewOf M) → IsAt views i v → IsOpenedOver (first_world before views) (suc i) v.opened

  -- The node of this number in the world u, after what it had sent in the world of its opening w, is this one. A node
  -- that was not opened is as it was in w.
  abbrev pub IsNow : List (Node M.Body) → List (Node M.Body) → ℕ → Node M.Body → Option (ℕ × Node M.Body) → Type 0
  IsNow w u i s None = item u i ≡ item w i
  IsNow w u i s (Some b) = item u i ≡ Some (sent_first (sent_in w i) s)

  -- so is each node's state in its view
  abbrev pub AreNow : List (Node M.Body) → List (Node M.Body) → List (ViewOf M) → Type 0
  AreNow w u views = (i : ℕ) (v : ViewOf M) → IsAt views i v → IsNow w u (suc i) v.state v.opened

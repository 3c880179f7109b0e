-- What rows and arrows show, moment by moment.
use Rattle.std.specs.Prelude.{◌≡◌, ℕ, suc, ◌<◌, ◌≤◌, List, length, Some, slice_get}
use Rattle.raft_log.specs.Node.{Node}
use Rattle.raft_node.specs.Machine.{Machine}
use Rattle.agreement.specs.World.{start}
use Rattle.world_events.specs.declared.event.Event.{Event}
use Rattle.world_run.specs.Told.{event_of, events_of}
use Rattle.world_run.specs.World.{moment, stepper}
use Rattle.world_app.specs.Diagrams.{row_between, rows_from, sent_count, sent_in}

module _ (M : Machine) where
  -- the world after the first of these events, of this many nodes over new stores
  abbrev pub world_behind : ℕ → List (Event M.Body M.Line M.Target) → ℕ → List (Node M.Body)
  world_behind size es k = moment M size (events_of M es) k

  -- The row of an event shows the node to which it happens in the worlds before and after it, for every size and list
  -- of events.
  abbrev pub RowsShowWorlds : Type 0
  RowsShowWorlds =
      (size : ℕ) (es : List (Event M.Body M.Line M.Target)) (k : ℕ) (e : Event M.Body M.Line M.Target) →
      slice_get es k ≡ Some e →
      slice_get (rows_from M 1 es (start size)) k
      ≡ Some (row_between (suc k) e (stepper M (world_behind size es k) (event_of M e)) (world_behind size es k) (world_behind size es (suc k)))

  -- A node has sent this many messages after this row, and had not after any row before.
  pub record IsSentIn (size : ℕ) (es : List (Event M.Body M.Line M.Target)) (sender number row : ℕ) : Type 0 where
    pub sent : number ≤ sent_count (world_behind size es row) sender
    pub first : (j : ℕ) → j < row → sent_count (world_behind size es j) sender < number

  -- a message that was sent at all was sent in the row from which its arrow starts, for every size and list of events
  abbrev pub ArrowsLeaveWhereSent : Type 0
  ArrowsLeaveWhereSent =
      (size : ℕ) (es : List (Event M.Body M.Line M.Target)) (sender number : ℕ) →
      number ≤ sent_count (world_behind size es (length es)) sender → IsSentIn size es sender number (sent_in M size es sender number)

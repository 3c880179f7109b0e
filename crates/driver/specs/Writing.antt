-- Lines that nodes hand out, and how they go to the server.
use Rattle.std.specs.Prelude.{◌≡◌, List, ◌∷◌, [], ◌&&◌, ◌||◌, ◌-◌, ℕ, zero, suc, Bool, not, if◌then◌else◌, Option, Some, None, slice_get}
use Rattle.std.specs.Global.{Vec}
use Rattle.std.specs.Option.{is_some}
use Rattle.irc_line.specs.Lines.{Parts, parameter}
use Rattle.machine_laws.specs.declared.class.Class.{Class}
use Rattle.machine_laws.specs.declared.class.Class.TheVariants.{Hand, Nowhere, Rejoin, To}
use Rattle.driver.specs.declared.driver.Driver.{Driver}
use Rattle.driver.specs.declared.link.Link.{Link}
use Rattle.driver.specs.declared.node_monitor.NodeMonitor.{NodeMonitor}
use Rattle.driver.specs.declared.order.Order.TheVariants.{Send}
use Rattle.driver.specs.declared.outgoing.Piece.{Piece}
use Rattle.driver.specs.declared.outgoing.Piece.TheVariants.{Joins, Opens, Says}
use Rattle.driver.specs.declared.pace.Pace.{Pace}
use Rattle.driver.specs.Absent.{asked}
use Rattle.driver.specs.Dropping.{dropping_handed, with_handed}
use Rattle.driver.specs.Keys.{KeyOf, Keys, key_for, tried_by}
use Rattle.driver.specs.Links.{is_session_of, status_in}
use Rattle.driver.specs.Monitors.{line_to_claim}
use Rattle.driver.specs.Outgoing.{Waiting, has_said, is_said, next_piece, piece_bytes, with_join, without_next}
use Rattle.driver.specs.Pacing.{free_after, may_go}
use Rattle.driver.specs.Telling.{Ordered, one_more, ordered}

-- a node hands out a line: it waits to go out in the node's session, unless it is a said line and a drop goes on
abbrev pub handed : Option ℕ → ℕ → Parts → Link → Link
handed dropping node line link =
    record link { waiting = if is_session_of link.stage node then with_handed dropping line link.waiting else link.waiting }

-- A line that a node hands out waits to go out in its session; if a drop goes on, and it is a said line, it is dropped
-- and counted.
abbrev pub Hands : ℕ → Parts → Driver → Driver → Type 0
Hands node line old new =
    new ≡ record old {
      link = handed old.dropping node line old.link;
      dropping = if is_session_of old.link.stage node then dropping_handed old.dropping line else old.dropping;
    }

-- a channel waits to be joined again, by the key by which it was last joined, or else by its key in this list; the
-- server has yet to answer that
abbrev pub joined : List KeyOf → List ℕ → Link → Link
joined keys channel link = record link {
  waiting = with_join channel (key_for link.keys.known channel keys) link.waiting;
  absent = asked channel link.absent;
}

-- a connection after an effect of a node: if that joins a channel again, in a session of the node, the channel waits to
-- be joined
abbrev pub link_passed : List KeyOf → Class Parts → ℕ → Link → Link
link_passed keys (Rejoin session line) node link = if is_session_of link.stage node then joined keys (parameter 0 line) link else link
link_passed keys (To origin) node link = link
link_passed keys (Hand session number line) node link = link
link_passed keys Nowhere node link = link

-- a line may go out at this moment
abbrev pub may_write : Driver → ℕ → Bool
may_write driver now = may_go driver.pace.burst driver.pace.line_ms driver.pace.free_at now

-- a line may be claimed: no said line waits, and it could go out at once, or would be dropped
abbrev pub may_claim : Driver → ℕ → Bool
may_claim driver now = not (has_said driver.link.waiting) && (is_some driver.dropping || may_write driver now)

-- the pace after a line goes
abbrev pub gone_at : ℕ → Pace → Pace
gone_at now pace = record pace { free_at = free_after pace.burst pace.line_ms pace.free_at now }

-- questions are due at a node: it has no line to claim, as far as is known
abbrev pub are_due : Option NodeMonitor → Bool
are_due monitor = not (is_some (line_to_claim (status_in monitor)))

-- how many said lines went since the server was last heard, after a piece goes
abbrev pub unheard_behind : Piece → ℕ → ℕ
unheard_behind piece unheard = if is_said piece then one_more unheard else unheard

-- the keys after a piece goes to the server: a line that was handed out may join a channel by one
abbrev pub keys_behind : Piece → Keys → Keys
keys_behind (Opens line) keys = keys
keys_behind (Joins line) keys = keys
keys_behind (Says line) keys = tried_by line keys

-- a piece goes to the server
pub record IsSent (piece : Piece) (before after : Ordered) : Type 0 where
  pub bytes : Vec ℕ
  pub are : bytes.items ≡ piece_bytes piece
  pub orders : after ≡ ordered before (Send bytes ∷ [])

-- A piece goes to the server, and no longer waits.
pub record Goes (now : ℕ) (piece : Piece) (old new : Driver) : Type 0 where
  pub sent : IsSent piece old.orders new.orders
  pub rest : new ≡ record old {
    orders = new.orders;
    pace = gone_at now old.pace;
    unheard = unheard_behind piece old.unheard;
    link = record old.link { keys = keys_behind piece old.link.keys };
  }

-- A piece goes out; what waits after it waits on.
pub record GoesOut (now : ℕ) (due : Bool) (piece : Piece) (old new : Driver) : Type 0 where
  pub sent : IsSent piece old.orders new.orders
  pub rest : new ≡ record old {
    orders = new.orders;
    pace = gone_at now old.pace;
    unheard = unheard_behind piece old.unheard;
    link = record old.link { waiting = without_next due old.link.waiting; keys = keys_behind piece old.link.keys };
  }

-- What goes next goes out, if something does, and else nothing changes.
abbrev pub GoesOutIf : ℕ → Bool → Option Piece → Driver → Driver → Type 0
GoesOutIf now due None old new = new ≡ old
GoesOutIf now due (Some piece) old new = GoesOut now due piece old new

-- what goes out at this moment, if something does
abbrev pub piece_at : Bool → Bool → Waiting → Option Piece
piece_at may due waiting = if may then next_piece due waiting else None

-- what goes out at a node at this moment, if something does
abbrev pub piece_of : ℕ → ℕ → Driver → Option Piece
piece_of now node driver = piece_at (may_write driver now) (are_due (slice_get driver.monitors (node - 1))) driver.link.waiting

-- What goes next goes out, if the pace allows it.
abbrev pub WritesLine : ℕ → ℕ → Driver → Driver → Type 0
WritesLine now node old new = GoesOutIf now (are_due (slice_get old.monitors (node - 1))) (piece_of now node old) old new

-- at most this many lines go out in turn, if there are so many and the pace allows it
unfoldable pub WriteLines : ℕ → ℕ → ℕ → Driver → Driver → Type 0
WriteLines zero now node old new = new ≡ old
WriteLines (suc count) now node old new = (behind : Driver) × WritesLine now node old behind × WriteLines count now node behind new

-- What waits to go to the server is dropped when a client asks for that.
use Rattle.std.specs.Prelude.{◌≡◌, ℕ, ◌+◌, ◌-◌, ◌^◌, ◌&&◌, ◌||◌, min, Bool, true, false, not, codes, decimal, if◌then◌else◌, List, ◌++◌, length, Option, Some, None}
use Rattle.std.specs.Option.{is_some}
use Rattle.irc_line.specs.Lines.{Parts}
use Rattle.node_notes.specs.declared.status.Status.{Status}
use Rattle.driver.specs.declared.driver.Driver.{Driver}
use Rattle.driver.specs.declared.node_monitor.NodeMonitor.{NodeMonitor}
use Rattle.driver.specs.Leading.{IsLeader}
use Rattle.driver.specs.Links.{status_at}
use Rattle.driver.specs.Nicks.{AllAreWritten, nick_in, notice}
use Rattle.driver.specs.Outgoing.{Waiting, asks_names, has_said, with_line, without_said}

-- how many lines were dropped so far: none if no drop goes on
abbrev pub dropped_in : Option ℕ → ℕ
dropped_in None = 0
dropped_in (Some count) = count

-- this many more, as far as 64 bits count
abbrev pub more_dropped : ℕ → Option ℕ → Option ℕ
more_dropped lines dropping = Some (min (dropped_in dropping + lines) (2 ^ 64 - 1))

-- When lines are handed out.

-- a line that is handed out is dropped: a drop goes on, and it is a said line
abbrev pub drops : Option ℕ → Parts → Bool
drops dropping line = is_some dropping && not (asks_names line)

-- it waits, unless it is dropped
abbrev pub with_handed : Option ℕ → Parts → Waiting → Waiting
with_handed dropping line waiting = if drops dropping line then waiting else with_line line waiting

-- how many lines were dropped after it
abbrev pub dropping_handed : Option ℕ → Parts → Option ℕ
dropping_handed dropping line = if drops dropping line then more_dropped 1 dropping else dropping

-- When a client asks for a drop.

-- a line waits in the log of a node in this state, as far as is known, in whatever session it may be claimed
abbrev pub has_waiting : Option Status → Bool
has_waiting None = false
has_waiting (Some status) = is_some status.next_claim

-- one may wait for the leading node; or, if none leads, as far as is known, for some node
abbrev pub may_have_waiting : Option ℕ → List NodeMonitor → Bool
may_have_waiting None monitors = true
may_have_waiting (Some node) monitors = has_waiting (status_at monitors node)

-- Whether something waits, or may: a drop goes on, a said line waits, or one may wait in the log.
pub record MayWait (driver : Driver) (waits : Bool) : Type 0 where
  pub leader : Option ℕ
  pub is_leader : IsLeader driver.monitors leader
  pub is : waits ≡ (is_some driver.dropping || has_said driver.link.waiting || may_have_waiting leader driver.monitors)

-- how many lines were dropped, if something waits: the said lines, and a drop goes on
abbrev pub dropping_begun : Bool → Waiting → Option ℕ → Option ℕ
dropping_begun false waiting dropping = dropping
dropping_begun true waiting dropping = more_dropped (length waiting.said) dropping

-- what waits then
abbrev pub waiting_left : Bool → Waiting → Waiting
waiting_left false waiting = waiting
waiting_left true waiting = without_said waiting

-- a driver with the orders of another, and, if something waits, with no said line waiting
abbrev pub dropped_as : Bool → Driver → Driver → Driver
dropped_as waits new old = record old {
  orders = new.orders;
  dropping = dropping_begun waits old.link.waiting old.dropping;
  link = record old.link { waiting = waiting_left waits old.link.waiting };
}

-- Said lines that wait are dropped, and the drop goes on; if nothing waits nothing changes but orders.
pub record DropsSaid (old new : Driver) : Type 0 where
  pub waits : Bool
  pub may_wait : MayWait old waits
  pub rest : new ≡ dropped_as waits new old

-- the answer to the client that asked for it
abbrev pub drop_words : Bool → List ℕ
drop_words true = codes "What waits is dropped, with what is said until that is done."
drop_words false = codes "Nothing waits."

-- When no line is left to claim.

-- what all clients are sent when a drop ends
abbrev pub dropped_text : ℕ → List ℕ
dropped_text count = codes "Lines that were dropped: " ++ decimal count ++ codes "."

-- how many lines were dropped, if a drop ends: one goes on, and no line waits in the log
abbrev pub ended_by : Option ℕ → Bool → Option ℕ
ended_by dropping has = if has then None else dropping

-- A drop ends, and all attached clients are told how many lines were dropped.
pub record TellsDropped (count : ℕ) (old new : Driver) : Type 0 where
  pub written : AllAreWritten old.clients (notice (nick_in old) (dropped_text count)) old.orders new.orders
  pub rest : new ≡ record old { orders = new.orders; dropping = None }

-- that happens if there is such a number, and else nothing changes
abbrev pub TellsDroppedIf : Option ℕ → Driver → Driver → Type 0
TellsDroppedIf None old new = new ≡ old
TellsDroppedIf (Some count) old new = TellsDropped count old new

-- how many lines were dropped, if this node leads and its state ends a drop
abbrev pub drop_end : Driver → ℕ → Option ℕ
drop_end driver node = ended_by driver.dropping (has_waiting (status_at driver.monitors node))

-- if this node leads: a drop that goes on ends if no line waits in its log, as far as is known
abbrev pub EndsDrop : ℕ → Driver → Driver → Type 0
EndsDrop node old new = TellsDroppedIf (drop_end old node) old new

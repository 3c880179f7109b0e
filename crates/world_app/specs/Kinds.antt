-- What events and messages are, as far as they are drawn.
use Rattle.std.specs.Prelude.{ℕ, if◌then◌else◌, Option, None, Some}
use Rattle.raft_log.specs.declared.message.Kind.{Kind}
use Rattle.raft_log.specs.declared.message.Kind.TheVariants as sent
use Rattle.world_app.specs.declared.kinds.Deed.{Deed}
use Rattle.world_app.specs.declared.kinds.Deed.TheVariants as deed
use Rattle.world_app.specs.declared.kinds.Happening.{Happening}
use Rattle.world_app.specs.declared.kinds.Happening.TheVariants as happening
use Rattle.world_app.specs.declared.kinds.MessageKind.{MessageKind}
use Rattle.world_app.specs.declared.kinds.MessageKind.TheVariants as message
use Rattle.world_events.specs.declared.event.Event.{Event}
use Rattle.world_events.specs.declared.event.Event.TheVariants.{Does, Restart, StopIn}
use Rattle.world_events.specs.declared.event.Input.{Input}
use Rattle.world_events.specs.declared.event.Input.TheVariants.{Timeout, Beat, Deliver, Ask, Opened, Closed, Heard, Claim, Apply, Look}

module _ {B L T : Type 0} where
  -- what an input is
  abbrev pub deed_of : Input B L T → Deed
  deed_of (Timeout i) = deed.Timeout
  deed_of (Beat i) = deed.Beat
  deed_of (Deliver j k) = deed.Deliver
  deed_of (Ask i body) = deed.Ask
  deed_of (Opened i) = deed.Opened
  deed_of (Closed i) = deed.Closed
  deed_of (Heard i at line) = deed.Heard
  deed_of (Claim i) = deed.Claim
  deed_of (Apply i) = deed.Apply
  deed_of (Look i from_place target) = deed.Look

  -- what an event is
  abbrev pub happening_of : Event B L T → Happening
  happening_of (Does x) = happening.Does (deed_of x)
  happening_of (Restart i) = happening.Restarts
  happening_of (StopIn x after) = if after then happening.StopsAfter (deed_of x) else happening.StopsBefore (deed_of x)

  -- the sender and the number of the message that an input delivers
  abbrev pub delivery_in : Input B L T → Option (ℕ × ℕ)
  delivery_in (Timeout i) = None
  delivery_in (Beat i) = None
  delivery_in (Deliver j k) = Some (j, k)
  delivery_in (Ask i body) = None
  delivery_in (Opened i) = None
  delivery_in (Closed i) = None
  delivery_in (Heard i at line) = None
  delivery_in (Claim i) = None
  delivery_in (Apply i) = None
  delivery_in (Look i from_place target) = None

  -- the same for an event, even if the node stops while it happens
  abbrev pub delivery_of : Event B L T → Option (ℕ × ℕ)
  delivery_of (Does x) = delivery_in x
  delivery_of (Restart i) = None
  delivery_of (StopIn x after) = delivery_in x

-- what a message is
abbrev pub kind_of : {B : Type 0} → Kind B → MessageKind
kind_of (sent.RequestVote last_index last_term) = message.RequestVote
kind_of (sent.Vote granted) = if granted then message.Vote else message.Denial
kind_of (sent.Append batch) = message.Append
kind_of (sent.AppendReply ok place) = if ok then message.Reply else message.Gap
kind_of (sent.Forward body) = message.Forward

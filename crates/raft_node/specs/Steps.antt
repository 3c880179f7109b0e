-- What an event does to one node with its machine, its session and its clients: what the node becomes, and what comes out.
use Rattle.std.specs.Prelude.{ℕ, suc, ◌==◌, Bool, false, ◌&&◌, not, if◌then◌else◌, List, [], take, filter, Option, Some, None, nat_lt, nat_le}
use Rattle.wire_bytes.specs.declared.session_id.SessionId.{SessionId}
use Rattle.machine_laws.specs.declared.class.Class.{Class}
use Rattle.machine_laws.specs.declared.class.Class.TheVariants.{To, Hand, Rejoin, Nowhere}
use Rattle.machine_laws.specs.Runs.{History}
use Rattle.machine_laws.specs.Sessions.{same_session}
use Rattle.raft_log.specs.declared.entry.Entry.{Entry}
use Rattle.raft_log.specs.declared.message.Message.{Message}
use Rattle.raft_log.specs.declared.node_state.Live.{Live}
use Rattle.raft_log.specs.Lists.{item}
use Rattle.raft_log.specs.Node.{Node, is_leader}
use Rattle.election.specs.Elections.{timed_out}
use Rattle.replication.specs.Replication.{beat, on_forward, ask}
use Rattle.node_steps.specs.declared.refusal.Refusal.{Refusal}
use Rattle.node_steps.specs.declared.refusal.Refusal.TheVariants.{LogFull, TermsSpent, NoLeader, Behind, BadOrigin}
use Rattle.node_steps.specs.Asking.{may_ask, finds_leader, is_full, new_session}
use Rattle.node_steps.specs.Messages.{on_message}
use Rattle.raft_node.specs.Raft.{restarted}
use Rattle.raft_node.specs.Machine.{Machine, history}
use Rattle.wire_bytes.specs.Limits.{number_limit}

-- what comes out of an event
pub data Out (M : Machine) : Type 0 where
  Quiet : Out M
  Left : (place : ℕ) (effects : List M.Effect) → Out M  -- this place was applied, and these of its effects leave
  Looked : (place : ℕ) (lines : List M.Played) → Out M
  Refused : Refusal → Out M
  Missing : Out M  -- there is no such node or message

-- the effects that leave
abbrev pub effects_of : {M : Machine} → Out M → List M.Effect
effects_of Quiet = []
effects_of (Left place effects) = effects
effects_of (Looked place lines) = []
effects_of (Refused refusal) = []
effects_of Missing = []

-- what a node becomes, and what comes out
pub record Turn (M : Machine) : Type 0 where
  pub node : Node M.Body
  pub out : Out M

-- what one node does, with what it hears
pub data Act (M : Machine) : Type 0 where
  Expires : Act M
  Beats : Act M
  Hears : Message M.Body → Act M
  Asks : (body : M.Body) → Act M
  Opens : Act M
  Closes : Act M
  HearsLine : (at : ℕ) (line : M.Line) → Act M
  Claims : Act M
  Applies : Act M
  Looks : (from_place : ℕ) (target : M.Target) → Act M
  Idles : Act M

-- what happens to one node: it acts, is started again, or stops within an act, before or after that is saved, and is started again
pub data Own (M : Machine) : Type 0 where
  Acts : Act M → Own M
  Restarts : Own M
  Stops : Act M → (after : Bool) → Own M

-- the live session, if any, has this id
abbrev pub is_session : Option Live → SessionId → Bool
is_session None id = false
is_session (Some live) id = same_session live.id id

-- what goes to a client leaves at the client's node, in its run; what goes upstream leaves where its session is live
abbrev pub leaves : {L : Type 0} → ℕ → ℕ → Option Live → Class L → Bool
leaves i boot live (To origin) = origin.0 == i && origin.1 == boot
leaves i boot live (Hand id number line) = is_session live id
leaves i boot live (Rejoin id line) = is_session live id
leaves i boot live Nowhere = false

module _ {B : Type 0} where
  -- a stop before a step is saved leaves the node as it was saved before, a stop after it as it is saved now; nothing is sent
  abbrev pub stopped : ℕ → Bool → Node B → Node B → Node B
  stopped size after s stepped = if after then restarted size (record stepped { sent = s.sent }) else restarted size s

module _ (M : Machine) where
  -- nothing comes out
  abbrev pub quiet : Node M.Body → Turn M
  quiet s = record { node = s; out = Quiet }

  -- the node stays as it is
  abbrev pub refused : Node M.Body → Refusal → Turn M
  refused s refusal = record { node = s; out = Refused refusal }

  -- the bodies that the node's machine has taken
  abbrev pub applied_history : Node M.Body → History M.Body
  applied_history s = history (take s.applied s.log)

  -- those of the effects that leave the node
  abbrev pub leaving : ℕ → Node M.Body → List M.Effect → List M.Effect
  leaving i s effects = filter (λ e. leaves i s.boot s.live (M.class e)) effects

  -- an election begins, unless the terms are spent; a leader does nothing
  abbrev pub expired : ℕ → ℕ → Node M.Body → Turn M
  expired size i s =
      if not (is_leader s.role) && nat_le number_limit s.term then refused s TermsSpent else quiet (timed_out size i s)

  -- a leader appends; another node sends it to the leader that it knows
  abbrev pub asks : ℕ → Node M.Body → M.Body → Turn M
  asks i s body = if is_leader s.role && is_full s then refused s LogFull else quiet (ask i s body)

  -- the source of a body is checked first, then whether a leader is known, then the room for it
  abbrev pub asked : ℕ → Node M.Body → M.Body → Turn M
  asked i s body =
      if may_ask i s (M.source body)
      then (if finds_leader s s.leader then asks i s body else refused s NoLeader)
      else refused s BadOrigin

  -- a leader appends a body of its own, and its session becomes this, with this many attempts made
  abbrev pub adds : Node M.Body → Option Live → ℕ → M.Body → Turn M
  adds s live attempts body =
      if is_full s then refused s LogFull else quiet (on_forward (record s { live = live; attempts = attempts }) body)

  -- a leader with no live session opens one
  abbrev pub opened : Node M.Body → Option Live → Turn M
  opened s None =
      if nat_le number_limit s.attempts
      then refused s TermsSpent
      else adds s (Some (new_session s)) (suc s.attempts) (M.opened (new_session s).id)
  opened s (Some live) = quiet s

  -- the live session is shut
  abbrev pub closed : Node M.Body → Option Live → Turn M
  closed s None = quiet s
  closed s (Some live) = adds s None s.attempts (M.shut live.id)

  -- a line of the live session came at this moment
  abbrev pub heard : Node M.Body → Option Live → ℕ → M.Line → Turn M
  heard s None at line = quiet s
  heard s (Some live) at line =
      adds s (Some (record live { next = suc live.next })) s.attempts (M.heard live.id live.next at line)

  -- the live session claims the line that is to be claimed next, if any
  abbrev pub claimed : Node M.Body → Option Live → Option ℕ → Turn M
  claimed s None next = quiet s
  claimed s (Some live) None = quiet s
  claimed s (Some live) (Some number) = adds s s.live s.attempts (M.claim live.id number)

  -- a leader does so; others do nothing
  abbrev pub if_leading : Node M.Body → Turn M → Turn M
  if_leading s turn = if is_leader s.role then turn else quiet s

  -- the machine takes the body of the next entry
  abbrev pub applied : ℕ → Node M.Body → Option (Entry M.Body) → Turn M
  applied i s None = quiet s
  applied i s (Some e) =
      record {
        node = record s { applied = suc s.applied };
        out = Left (suc s.applied) (leaving i s (M.effects (applied_history s) (suc s.applied) e.body));
      }

  -- the next entry is applied, if it is committed
  abbrev pub apply_next : ℕ → Node M.Body → Turn M
  apply_next i s = if nat_lt s.applied s.commit then applied i s (item s.log (suc s.applied)) else quiet s

  -- a target is played by what was applied, if that reaches this place
  abbrev pub looked : Node M.Body → ℕ → M.Target → Turn M
  looked s from_place target =
      if nat_lt s.applied from_place
      then refused s (Behind s.applied)
      else record { node = s; out = Looked s.applied (M.playback (applied_history s) target) }

  -- the result of an act, at the node of this number in a group of this size
  abbrev pub turn : ℕ → ℕ → Act M → Node M.Body → Turn M
  turn size i Expires s = expired size i s
  turn size i Beats s = quiet (beat size i s)
  turn size i (Hears m) s = quiet (on_message M.blank size i s m)
  turn size i (Asks body) s = asked i s body
  turn size i Opens s = if_leading s (opened s s.live)
  turn size i Closes s = if_leading s (closed s s.live)
  turn size i (HearsLine at line) s = if_leading s (heard s s.live at line)
  turn size i Claims s = if_leading s (claimed s s.live (M.next_claim (applied_history s)))
  turn size i Applies s = apply_next i s
  turn size i (Looks from_place target) s = looked s from_place target
  turn size i Idles s = quiet s

  -- the result of what happens to a node
  abbrev pub own : ℕ → ℕ → Own M → Node M.Body → Turn M
  own size i (Acts act) s = turn size i act s
  own size i Restarts s = quiet (restarted size s)
  own size i (Stops act after) s = quiet (stopped size after s (turn size i act s).node)

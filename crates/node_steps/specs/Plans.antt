-- What a node is about to do, whatever machine it hosts: what it would become, or why it does nothing.
use Rattle.std.specs.Prelude.{◌≡◌, ◌≤◌, ℕ, suc, ◌&&◌, not, List, ◌++◌, Option, Some, None, Result, Ok, Err, nat_le, if◌then◌else◌}
use Rattle.wire_bytes.specs.declared.session_id.SessionId.{SessionId}
use Rattle.machine_laws.specs.declared.class.Source.{Source}
use Rattle.raft_log.specs.declared.entry.Entry.{Entry}
use Rattle.raft_log.specs.declared.message.Message.{Message}
use Rattle.raft_log.specs.declared.node_state.Live.{Live}
use Rattle.raft_log.specs.declared.node_state.Standing.{Standing}
use Rattle.raft_log.specs.declared.step.Step.{Step}
use Rattle.raft_log.specs.Node.{Node, is_leader}
use Rattle.raft_log.specs.Seen.{node_of}
use Rattle.raft_log.specs.Steps.{IsSavable, log_after}
use Rattle.election.specs.Elections.{timed_out}
use Rattle.replication.specs.Replication.{on_forward, ask}
use Rattle.node_steps.specs.declared.refusal.Refusal.{Refusal}
use Rattle.node_steps.specs.declared.refusal.Refusal.TheVariants.{LogFull, TermsSpent, NoLeader, BadOrigin}
use Rattle.node_steps.specs.declared.unprepared.Unprepared.{Unprepared}
use Rattle.node_steps.specs.declared.unprepared.Unprepared.TheVariants.{Memory, Refused}
use Rattle.node_steps.specs.Asking.{may_ask, finds_leader, is_full, new_session}
use Rattle.wire_bytes.specs.Limits.{number_limit}

-- what a node would become, or why it does nothing
pub data Plan (B : Type 0) : Type 0 where
  Goes : Node B → Plan B
  Declines : Refusal → Plan B

module _ {B : Type 0} where
  -- an election, unless the terms are spent; a leader does nothing
  abbrev pub election_plan : ℕ → ℕ → Node B → Plan B
  election_plan size i s =
      if not (is_leader s.role) && nat_le number_limit s.term then Declines TermsSpent else Goes (timed_out size i s)

  -- a body of a leader's own, with this session and this many attempts made
  abbrev pub own_plan : Option Live → ℕ → B → Node B → Plan B
  own_plan live attempts body s =
      if is_full s then Declines LogFull else Goes (on_forward (record s { live = live; attempts = attempts }) body)

  -- a body that is asked for by someone who may bring it
  abbrev pub ask_plan : ℕ → Source → B → Node B → Plan B
  ask_plan i source body s =
      if may_ask i s source
      then (if finds_leader s s.leader
      then (if is_leader s.role && is_full s then Declines LogFull else Goes (ask i s body))
      else Declines NoLeader)
      else Declines BadOrigin

  -- a leader does this, another node nothing
  abbrev pub if_leading : Node B → Plan B → Plan B
  if_leading s plan = if is_leader s.role then plan else Goes s

  -- a session is opened if none is live, by the body of its id
  abbrev pub opening : (SessionId → B) → Node B → Option Live → Plan B
  opening opened s None =
      if nat_le number_limit s.attempts
      then Declines TermsSpent
      else own_plan (Some (new_session s)) (suc s.attempts) (opened (new_session s).id) s
  opening opened s (Some live) = Goes s

  -- a leader opens a session if none is live; another node does nothing
  abbrev pub open_plan : (SessionId → B) → Node B → Plan B
  open_plan opened s = if_leading s (opening opened s s.live)

  -- the live session is shut
  abbrev pub closing : (SessionId → B) → Node B → Option Live → Plan B
  closing shut s None = Goes s
  closing shut s (Some live) = own_plan None s.attempts (shut live.id) s

  -- a leader shuts its live session, if there is one; another node does nothing
  abbrev pub close_plan : (SessionId → B) → Node B → Plan B
  close_plan shut s = if_leading s (closing shut s s.live)

  -- a line of the live session came
  abbrev pub hearing : (SessionId → ℕ → B) → Node B → Option Live → Plan B
  hearing heard s None = Goes s
  hearing heard s (Some live) = own_plan (Some (record live { next = suc live.next })) s.attempts (heard live.id live.next) s

  -- a leader takes a line of its live session, if there is one; another node does nothing
  abbrev pub hear_plan : (SessionId → ℕ → B) → Node B → Plan B
  hear_plan heard s = if_leading s (hearing heard s s.live)

  -- the live session claims the line of this number, if any
  abbrev pub claiming : (SessionId → ℕ → B) → Option ℕ → Node B → Option Live → Plan B
  claiming claim number s None = Goes s
  claiming claim None s (Some live) = Goes s
  claiming claim (Some number) s (Some live) = own_plan s.live s.attempts (claim live.id number) s

  -- a leader's live session claims the line of this number, if there are both; another node does nothing
  abbrev pub claim_plan : (SessionId → ℕ → B) → Option ℕ → Node B → Plan B
  claim_plan claim number s = if_leading s (claiming claim number s s.live)

  -- a plan has this step, which may be saved
  pub record IsStepOf (plan : Node B → Plan B) (standing : Standing) (log : List (Entry B)) (step : Step B) : Type 0 where
    pub goes : (sent : List (Message B)) → plan (node_of standing log sent) ≡ Goes (node_of step.standing (log_after log step) (sent ++ step.messages.items))
    pub savable : IsSavable standing log step

  -- a plan is prepared as a step, or is declined; memory may run out only for a plan that is not declined
  abbrev pub IsPrepared : (Node B → Plan B) → Standing → List (Entry B) → Result (Step B) Unprepared → Type 0
  IsPrepared plan standing log (Ok step) = IsStepOf plan standing log step
  IsPrepared plan standing log (Err (Refused refusal)) = (sent : List (Message B)) → plan (node_of standing log sent) ≡ Declines refusal
  IsPrepared plan standing log (Err Memory) = (sent : List (Message B)) → (s : Node B) × (plan (node_of standing log sent) ≡ Goes s)

-- a session's next line is not past the entries, since each of its lines is one
abbrev pub CountsLines : Option Live → ℕ → Type 0
CountsLines None last = Unit {0}
CountsLines (Some live) last = live.next ≤ last

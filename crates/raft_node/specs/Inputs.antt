-- What happens to a node, as its code gets it: what it plans to do, and the act that this is.
use Rattle.std.specs.Prelude.{ℕ, Bool, true, false, Option}
use Rattle.wire_bytes.specs.declared.session_id.SessionId.{SessionId}
use Rattle.machine_laws.specs.declared.class.Source.{Source}
use Rattle.raft_log.specs.declared.message.Message.{Message}
use Rattle.raft_log.specs.Node.{Node}
use Rattle.replication.specs.Replication.{beat}
use Rattle.node_steps.specs.Messages.{on_message}
use Rattle.node_steps.specs.Plans.{Plan, Goes, election_plan, ask_plan, open_plan, close_plan, hear_plan, claim_plan}
use Rattle.raft_node.specs.declared.input.Input.{Input}
use Rattle.raft_node.specs.declared.input.Input.TheVariants.{Timeout, Beat, Deliver, Ask, Opened, Closed, Heard, Claim, Apply}
use Rattle.raft_node.specs.Machine.{Machine}
use Rattle.raft_node.specs.Steps.{Act, Expires, Beats, Hears, Asks, Opens, Closes, HearsLine, Claims, Applies}

-- what a machine has a leader append, and who may bring a body
pub record Bodies (B L : Type 0) : Type 0 where
  pub blank : B
  pub opened : SessionId → B
  pub shut : SessionId → B
  pub heard : SessionId → ℕ → ℕ → L → B
  pub claim : SessionId → ℕ → B
  pub source : B → Source

module _ {D B L : Type 0} where
  -- the next entry is applied
  abbrev pub is_apply : Input D B L → Bool
  is_apply Timeout = false
  is_apply Beat = false
  is_apply (Deliver d) = false
  is_apply (Ask body) = false
  is_apply Opened = false
  is_apply Closed = false
  is_apply (Heard at line) = false
  is_apply Claim = false
  is_apply Apply = true

module _ {B L : Type 0} where
  -- the bodies with these parts
  abbrev pub bodies : B → (SessionId → B) → (SessionId → B) → (SessionId → ℕ → ℕ → L → B) → (SessionId → ℕ → B) → (B → Source) → Bodies B L
  bodies blank opened shut heard claim source =
      record { blank = blank; opened = opened; shut = shut; heard = heard; claim = claim; source = source }

  -- what the node of this number in a group of this size plans, if this is the line to be claimed next
  abbrev pub input_plan : Bodies B L → Option ℕ → ℕ → ℕ → Input (Message B) B L → Node B → Plan B
  input_plan b next size i Timeout s = election_plan size i s
  input_plan b next size i Beat s = Goes (beat size i s)
  input_plan b next size i (Deliver m) s = Goes (on_message b.blank size i s m)
  input_plan b next size i (Ask body) s = ask_plan i (b.source body) body s
  input_plan b next size i Opened s = open_plan b.opened s
  input_plan b next size i Closed s = close_plan b.shut s
  input_plan b next size i (Heard at line) s = hear_plan (λ id number. b.heard id number at line) s
  input_plan b next size i Claim s = claim_plan b.claim next s
  input_plan b next size i Apply s = Goes s

module _ (M : Machine) where
  -- the bodies of this machine
  abbrev pub bodies_of : Bodies M.Body M.Line
  bodies_of = bodies M.blank M.opened M.shut M.heard M.claim M.source

  -- the act that it is
  abbrev pub act_of : Input (Message M.Body) M.Body M.Line → Act M
  act_of Timeout = Expires
  act_of Beat = Beats
  act_of (Deliver m) = Hears m
  act_of (Ask body) = Asks body
  act_of Opened = Opens
  act_of Closed = Closes
  act_of (Heard at line) = HearsLine at line
  act_of Claim = Claims
  act_of Apply = Applies

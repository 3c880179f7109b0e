-- What a leader makes of inputs that only append, one after the other: each is planned as if the earlier ones had taken
-- effect.
use Rattle.std.specs.Prelude.{◌≡◌, ℕ, Bool, true, false, List, [], ◌∷◌, ◌++◌, ◌+◌, ◌≤◌, suc, length, Option, None, Some, Result, Ok, Err}
use Rattle.raft_log.specs.declared.entry.Entry.{Entry}
use Rattle.raft_log.specs.declared.message.Message.{Message}
use Rattle.raft_log.specs.declared.node_state.Live.{Live}
use Rattle.raft_log.specs.declared.node_state.NodeState.{NodeState}
use Rattle.raft_log.specs.declared.node_state.Standing.{Standing}
use Rattle.raft_log.specs.declared.position.Position.TheVariants.{Leader}
use Rattle.raft_log.specs.declared.step.Step.{Step}
use Rattle.raft_log.specs.Logs.{entry_limit}
use Rattle.raft_log.specs.Node.{Node}
use Rattle.raft_log.specs.Seen.{node_of, seen}
use Rattle.raft_log.specs.Steps.{after}
use Rattle.node_steps.specs.declared.refusal.Refusal.{Refusal}
use Rattle.node_steps.specs.Plans.{Plan, Goes, Declines, own_plan}
use Rattle.raft_node.specs.declared.addition.Addition.{Addition}
use Rattle.raft_node.specs.declared.together.Together.{Together}
use Rattle.raft_node.specs.declared.input.Input.{Input}
use Rattle.raft_node.specs.declared.input.Input.TheVariants.{Timeout, Beat, Deliver, Ask, Opened, Closed, Heard, Claim, Apply}
use Rattle.raft_node.specs.Machine.{Machine}
use Rattle.raft_node.specs.Steps.{Act, Out, turn}

module _ {D B L : Type 0} where
  -- a leader appends at most one entry by it, and sends nothing
  abbrev pub only_appends : Input D B L → Bool
  only_appends Timeout = false
  only_appends Beat = false
  only_appends (Deliver d) = false
  only_appends (Ask body) = true
  only_appends Opened = true
  only_appends Closed = true
  only_appends (Heard at line) = true
  only_appends Claim = true
  only_appends Apply = false

  -- it is such an input
  abbrev pub OnlyAppends : Input D B L → Type 0
  OnlyAppends input = only_appends input ≡ true

-- the standing of a leader with this session and this many attempts made
abbrev pub leading : Standing → Option Live → ℕ → Standing
leading standing live attempts = record standing { position = Leader live; attempts = attempts }

module _ {B : Type 0} where
  -- what is to be added is planned, or nothing, or the refusal
  abbrev pub addition_plan : Result (Option (Addition B)) Refusal → Node B → Plan B
  addition_plan (Ok None) s = Goes s
  addition_plan (Ok (Some a)) s = own_plan a.live a.attempts a.body s
  addition_plan (Err refusal) s = Declines refusal

  -- it is what a node of this standing plans, whatever its log is
  abbrev pub IsPlannedBy : (Node B → Plan B) → Standing → Result (Option (Addition B)) Refusal → Type 0
  IsPlannedBy plan standing result =
      (log : List (Entry B)) (sent : List (Message B)) → plan (node_of standing log sent) ≡ addition_plan result (node_of standing log sent)

  -- the node after its plan took effect
  abbrev pub planned : Node B → Plan B → Node B
  planned s (Goes t) = t
  planned s (Declines refusal) = s

  -- what a plan answers
  abbrev pub answer : Plan B → Result (Unit {0}) Refusal
  answer (Goes t) = Ok tt
  answer (Declines refusal) = Err refusal

  module _ {A : Type 0} (plan : A → Node B → Plan B) where
    -- the node after all plans took effect, one after the other
    abbrev pub planned_all : List A → Node B → Node B
    planned_all [] s = s
    planned_all (input ∷ inputs) s = planned_all inputs (planned s (plan input s))

    -- what each of them answers
    abbrev pub answers : List A → Node B → List (Result (Unit {0}) Refusal)
    answers [] s = []
    answers (input ∷ inputs) s = answer (plan input s) ∷ answers inputs (planned s (plan input s))

module _ {B : Type 0} where
  -- the leader of this state after what was planned so far
  abbrev pub led : NodeState B → Together B → List (Message B) → Node B
  led state t sent = node_of (leading state.standing t.live t.attempts) (state.log ++ t.entries.items) sent

  -- A plan was added after those before it, with its answer.
  pub record IsTakenIn (plan : Node B → Plan B) (state : NodeState B) (old new : Together B) : Type 0 where
    pub node : (sent : List (Message B)) → led state new sent ≡ planned (led state old sent) (plan (led state old sent))
    pub answers_are : (sent : List (Message B)) → new.answers.items ≡ old.answers.items ++ answer (plan (led state old sent)) ∷ []
    pub few : length new.entries.items ≤ suc (length old.entries.items)
    pub room : length state.log + length new.entries.items ≤ entry_limit

  -- A plan was added after those before it, and this is its answer, which is not among the others yet.
  pub record IsAdded (plan : Node B → Plan B) (state : NodeState B) (old new : Together B) (given : Result (Unit {0}) Refusal) : Type 0 where
    pub node : (sent : List (Message B)) → led state new sent ≡ planned (led state old sent) (plan (led state old sent))
    pub answer_is : (sent : List (Message B)) → given ≡ answer (plan (led state old sent))
    pub same : new.answers ≡ old.answers
    pub few : length new.entries.items ≤ suc (length old.entries.items)
    pub room : length state.log + length new.entries.items ≤ entry_limit

  -- All inputs are planned: the step is their result, one after the other, it sends nothing, and these are their
  -- answers.
  pub record ArePlanned {A : Type 0} (plan : A → Node B → Plan B) (state : NodeState B) (inputs : List A) (step : Step B) (given : List (Result (Unit {0}) Refusal)) : Type 0 where
    pub node : (sent : List (Message B)) → planned_all plan inputs (seen state sent) ≡ seen (after state step) sent
    pub answers_are : (sent : List (Message B)) → answers plan inputs (seen state sent) ≡ given
    pub sends : step.messages.items ≡ []

  -- Entries follow all that were there, if any; term and vote are the same.
  pub record IsAppend (state : NodeState B) (step : Step B) : Type 0 where
    pub keeps_all : step.keep ≡ length state.log
    pub term : step.standing.term ≡ state.standing.term
    pub vote : step.standing.vote ≡ state.standing.vote

module _ (M : Machine) (size i : ℕ) where
  -- the node after these acts, each done after those before it
  abbrev pub turned_all : List (Act M) → Node M.Body → Node M.Body
  turned_all [] s = s
  turned_all (act ∷ acts) s = turned_all acts (turn M size i act s).node

  -- what comes out of each of them
  abbrev pub outs : List (Act M) → Node M.Body → List (Out M)
  outs [] s = []
  outs (act ∷ acts) s = (turn M size i act s).out ∷ outs acts (turn M size i act s).node

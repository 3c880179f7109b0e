-- The result of a step of a node, and of a look at it.
use Rattle.std.specs.Prelude.{◌≡◌, ◌≤◌, ◌⊎◌, ℕ, zero, suc, List, [], ◌++◌, None, Some, Result, Ok, Err}
use Rattle.raft_log.specs.declared.message.Message.{Message}
use Rattle.raft_log.specs.Seen.{seen}
use Rattle.raft_node.specs.declared.input.Input.{Input}
use Rattle.raft_node.specs.declared.input.Looked.{Looked}
use Rattle.raft_node.specs.declared.input.Output.{Output}
use Rattle.raft_node.specs.declared.node_fault.Cause.{Cause}
use Rattle.raft_node.specs.declared.node_fault.Cause.TheVariants.{Memory}
use Rattle.raft_node.specs.declared.node_fault.NodeFault.{NodeFault}
use Rattle.raft_node.specs.declared.node_fault.NodeFault.TheVariants.{Down, Refused as Fault}
use Rattle.node_steps.specs.declared.refusal.Refusal.{Refusal}
use Rattle.raft_node.specs.Inputs.{act_of}
use Rattle.raft_node.specs.Machine.{Machine}
use Rattle.raft_node.specs.Parts.{Holds, IsBlamed, Keeper, MayHold, Parts, size_of}
use Rattle.raft_node.specs.Steps.{Act, Looks, Out, Quiet, Left, Turn, refused, turn}
use Rattle.raft_node.specs.Steps as steps

-- the node is the same one of the same group, with the same setup, and its store's device is as honest as it was
pub record IsSameNode {Setup Hosted Store B : Type 0} (k : Keeper Store B) (old new : Parts Setup Hosted Store B) : Type 0 where
  pub id : new.id ≡ old.id
  pub setup : new.setup ≡ old.setup
  pub size : size_of new.state ≡ size_of old.state
  pub honest : (k.condition new.store).honest ≡ (k.condition old.store).honest

-- a place was applied, and these of its effects leave; or none was, and nothing comes out
abbrev pub given : {M : Machine} → ℕ → List M.Effect → Out M
given zero effects = Quiet
given (suc place) effects = Left (suc place) effects

module _ (M : Machine) {Setup Hosted Store : Type 0} where
  -- the result of an act at this node, which had sent these messages before
  abbrev pub turned : Act M → Parts Setup Hosted Store M.Body → List (Message M.Body) → Turn M
  turned act n sent = turn M (size_of n.state) n.id act (seen n.state sent)

  -- An act was done: the node is its result, and out came what it says, after what was sent before.
  pub record IsDone (k : Keeper Store M.Body) (act : Act M) (old : Parts Setup Hosted Store M.Body) (output : Output M.Body M.Effect) (new : Parts Setup Hosted Store M.Body) : Type 0 where
    pub was_up : old.down ≡ None
    pub is_up : new.down ≡ None
    pub turns : (sent : List (Message M.Body)) → turned act old sent ≡ record { node = seen new.state (sent ++ output.messages.items); out = given output.place output.effects.items }
    pub none_leaves : output.place ≡ 0 → output.effects.items ≡ []
    pub holds : Holds k new.store new.state

  -- An act was refused: the node is unchanged.
  pub record IsDeclined (act : Act M) (old : Parts Setup Hosted Store M.Body) (refusal : Refusal) (new : Parts Setup Hosted Store M.Body) : Type 0 where
    pub was_up : old.down ≡ None
    pub turns : (sent : List (Message M.Body)) → turned act old sent ≡ refused M (seen old.state sent) refusal
    pub same : new ≡ old

  -- The node went down in an act: it shows the state from before, and an honest store may hold that or the result of
  -- the act.
  pub record IsDowned (k : Keeper Store M.Body) (act : Act M) (old : Parts Setup Hosted Store M.Body) (cause : Cause) (new : Parts Setup Hosted Store M.Body) : Type 0 where
    pub was_up : old.down ≡ None
    pub is_down : new.down ≡ Some cause
    pub same : new.state ≡ old.state
    pub blamed : IsBlamed cause (k.condition old.store) (k.condition new.store)
    pub may_hold : MayHold k new.store old.state (turned act old []).node
    pub not_refused : (r : Refusal) → (turned act old []).out ≡ steps.Refused r → ⊥

  -- by what a step answers; a node that was down answers its cause, and is unchanged
  abbrev pub IsActed : Keeper Store M.Body → Act M → Parts Setup Hosted Store M.Body → Result (Output M.Body M.Effect) NodeFault → Parts Setup Hosted Store M.Body → Type 0
  IsActed k act old (Ok output) new = IsDone k act old output new
  IsActed k act old (Err (Fault refusal)) new = IsDeclined act old refusal new
  IsActed k act old (Err (Down cause)) new = IsDowned k act old cause new ⊎ ((old.down ≡ Some cause) × (new ≡ old))

  -- the result of a step
  abbrev pub IsStepped : Keeper Store M.Body → Input (Message M.Body) M.Body M.Line → Parts Setup Hosted Store M.Body → Result (Output M.Body M.Effect) NodeFault → Parts Setup Hosted Store M.Body → Type 0
  IsStepped k input old result new = IsActed k (act_of M input) old result new × IsSameNode k old new

  -- what a look answers: it changes nothing, and a node that is up fails to answer only if memory runs out
  abbrev pub IsLooked : ℕ → M.Target → Parts Setup Hosted Store M.Body → Result (Looked M.Played) NodeFault → Type 0
  IsLooked from_place target n (Ok looked) =
      (n.down ≡ None) × ((sent : List (Message M.Body)) → turned (Looks from_place target) n sent ≡ record { node = seen n.state sent; out = steps.Looked looked.place looked.lines.items })
  IsLooked from_place target n (Err (Fault refusal)) =
      (n.down ≡ None) × ((sent : List (Message M.Body)) → turned (Looks from_place target) n sent ≡ refused M (seen n.state sent) refusal)
  IsLooked from_place target n (Err (Down cause)) = (n.down ≡ Some cause) ⊎ ((n.down ≡ None) × (cause ≡ Memory) × (from_place ≤ n.state.standing.applied))

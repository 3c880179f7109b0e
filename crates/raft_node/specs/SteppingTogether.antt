-- The result of a step by several inputs that only append, saved at once.
use Rattle.std.specs.Prelude.{◌≡◌, ◌⊎◌, List, [], map, None, Some, Result, Ok, Err, ◌∷◌, IfSome}
use Rattle.raft_log.specs.declared.message.Message.{Message}
use Rattle.raft_log.specs.declared.step.Step.{Step}
use Rattle.raft_log.specs.Node.{Node}
use Rattle.raft_log.specs.Seen.{seen}
use Rattle.raft_log.specs.Steps.{after}
use Rattle.node_steps.specs.declared.refusal.Refusal.{Refusal}
use Rattle.raft_node.specs.declared.input.Input.{Input}
use Rattle.raft_node.specs.declared.input.Output.{Output}
use Rattle.raft_node.specs.declared.node_fault.Cause.{Cause}
use Rattle.raft_node.specs.declared.node_fault.Unsaved.{Unsaved}
use Rattle.raft_node.specs.Inputs.{act_of}
use Rattle.raft_node.specs.Machine.{Machine}
use Rattle.raft_node.specs.Parts.{Holds, IsBlamed, Keeper, MayHold, Parts, size_of}
use Rattle.raft_node.specs.Steps.{Out, Quiet, Refused}
use Rattle.raft_node.specs.Stepping.{IsDone, IsDowned, turned}
use Rattle.raft_node.specs.Together.{outs, turned_all}

module _ (M : Machine) where
  -- nothing comes out of an append, or that it is refused
  abbrev pub out_of : Result (Unit {0}) Refusal → Out M
  out_of (Ok done) = Quiet
  out_of (Err refusal) = Refused refusal

module _ (M : Machine) {Setup Hosted Store : Type 0} where
  -- what this node becomes by the inputs, one after the other, if it had sent these messages before
  abbrev pub becomes : List (Input (Message M.Body) M.Body M.Line) → Parts Setup Hosted Store M.Body → List (Message M.Body) → Node M.Body
  becomes inputs n sent = turned_all M (size_of n.state) n.id (map (act_of M) inputs) (seen n.state sent)

  -- The inputs lead to this step, one after the other, and these are their answers.
  pub record ComeTo (inputs : List (Input (Message M.Body) M.Body M.Line)) (n : Parts Setup Hosted Store M.Body) (step : Step M.Body) (answers : List (Result (Unit {0}) Refusal)) : Type 0 where
    pub node : (sent : List (Message M.Body)) → becomes inputs n sent ≡ seen (after n.state step) sent
    pub outs_are : (sent : List (Message M.Body)) → outs M (size_of n.state) n.id (map (act_of M) inputs) (seen n.state sent) ≡ map (out_of M) answers

  -- All inputs were done: the node is their result, nothing was sent, and each answer says what came out of its own.
  pub record AreDone (k : Keeper Store M.Body) (inputs : List (Input (Message M.Body) M.Body M.Line)) (old : Parts Setup Hosted Store M.Body) (answers : List (Result (Unit {0}) Refusal)) (new : Parts Setup Hosted Store M.Body) : Type 0 where
    pub was_up : old.down ≡ None
    pub is_up : new.down ≡ None
    pub node : (sent : List (Message M.Body)) → becomes inputs old sent ≡ seen new.state sent
    pub outs_are : (sent : List (Message M.Body)) → outs M (size_of old.state) old.id (map (act_of M) inputs) (seen old.state sent) ≡ map (out_of M) answers
    pub holds : Holds k new.store new.state

  -- The node went down: it shows the state from before, and an honest store may hold that or the result of all inputs.
  pub record AreDowned (k : Keeper Store M.Body) (inputs : List (Input (Message M.Body) M.Body M.Line)) (old : Parts Setup Hosted Store M.Body) (cause : Cause) (new : Parts Setup Hosted Store M.Body) : Type 0 where
    pub was_up : old.down ≡ None
    pub is_down : new.down ≡ Some cause
    pub same : new.state ≡ old.state
    pub blamed : IsBlamed cause (k.condition old.store) (k.condition new.store)
    pub may_hold : MayHold k new.store old.state (becomes inputs old [])

  -- Why inputs were not done: the node went down, or it was down, answers its cause and is unchanged. If their save was
  -- tried these are the answers that they have once it succeeds, else the store is unchanged.
  pub record HaveFailed (k : Keeper Store M.Body) (inputs : List (Input (Message M.Body) M.Body M.Line)) (old : Parts Setup Hosted Store M.Body) (unsaved : Unsaved) (new : Parts Setup Hosted Store M.Body) : Type 0 where
    pub falls : AreDowned k inputs old unsaved.cause new ⊎ ((old.down ≡ Some unsaved.cause) × (new ≡ old))
    pub tried : IfSome unsaved.answers (λ answers. (sent : List (Message M.Body)) → outs M (size_of old.state) old.id (map (act_of M) inputs) (seen old.state sent) ≡ map (out_of M) answers.items)
    pub untried : unsaved.answers ≡ None → new.store ≡ old.store

module _ (M : Machine) (Setup Hosted : Type 0) {Store : Type 0} (k : Keeper Store M.Body) where
  -- One input alone has the result of a step by it. For one that is refused this holds if there is memory for its
  -- answer.
  abbrev pub OneIsAStep : Type 0
  OneIsAStep =
      (input : Input (Message M.Body) M.Body M.Line) (old new : Parts Setup Hosted Store M.Body) →
      ((output : Output M.Body M.Effect) → output.messages.items ≡ [] → output.place ≡ 0 → output.effects.items ≡ []
      → AreDone M k (input ∷ []) old (Ok tt ∷ []) new → IsDone M k (act_of M input) old output new)
      × ((cause : Cause) → ((r : Refusal) → (turned M (act_of M input) old []).out ≡ Refused r → ⊥)
      → AreDowned M k (input ∷ []) old cause new → IsDowned M k (act_of M input) old cause new)

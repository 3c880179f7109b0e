-- Events, by what each does to which node.
use Rattle.std.proofs.Common.{◌≡◌, ℕ, Bool, List, Option, Some, None, refl, sym, ap, subst, ◌∙◌}
use Rattle.std.specs.Prelude.{Result, Ok, Err, IfOk}
use Rattle.raft_log.specs.declared.message.Message.{Message}
use Rattle.raft_log.specs.Lists.{item}
use Rattle.raft_log.specs.Node.{Node}
use Rattle.raft_node.specs.Machine.{Machine}
use Rattle.raft_node.specs.Steps.{Act, Own, Acts, Restarts, Stops}
use Rattle.agreement.specs.World.{sent_of, to_of}
use Rattle.world_events.specs.declared.event.Event.{Event}
use Rattle.world_events.specs.declared.event.Event.TheVariants.{Does, Restart, StopIn}
use Rattle.world_events.specs.declared.event.Input.{Input}
use Rattle.world_events.specs.declared.event.Input.TheVariants.{Timeout, Beat, Deliver, Ask, Opened, Closed, Heard, Claim, Apply, Look}
use Rattle.world_run.specs.declared.told.Doing.{Doing}
use Rattle.world_run.specs.declared.outcome.Outcome.{Outcome}
use Rattle.world_run.specs.declared.outcome.Outcome.TheVariants.{Missing}
use Rattle.world_run.specs.Groups.{CellParts, HasHappened, HasOwnedAt, nodes_in}
use Rattle.world_run.specs.Told.{delivered, doing_of, input_of, told_act}
use Rattle.world_run.specs.World as world

module _ (M : Machine) where
  -- what is done is the act of this node, and nothing is if there is no such node
  abbrev IsDoing : List (Node M.Body) → ℕ → Act M → Option (Doing M.Body M.Line M.Target) → Type 0
  IsDoing w i act None = item w i ≡ None
  IsDoing w i act (Some d) = (i ≡ d.node) × (act ≡ told_act M d.act)

  delivers : (w : List (Node M.Body)) (m : Option (Message M.Body)) → IsDoing w (to_of m) (world.hears M m) (delivered m)
  delivers w None = refl
  delivers w (Some m) = (refl, refl)

  is_doing : (w : List (Node M.Body)) (x : Input M.Body M.Line M.Target) → IsDoing w (world.actor M w (input_of M x)) (world.act_of M w (input_of M x)) (doing_of w x)
  is_doing w (Timeout i) = (refl, refl)
  is_doing w (Beat i) = (refl, refl)
  is_doing w (Deliver j k) = delivers w (sent_of (item w j) k)
  is_doing w (Ask i body) = (refl, refl)
  is_doing w (Opened i) = (refl, refl)
  is_doing w (Closed i) = (refl, refl)
  is_doing w (Heard i at line) = (refl, refl)
  is_doing w (Claim i) = (refl, refl)
  is_doing w (Apply i) = (refl, refl)
  is_doing w (Look i from_place target) = (refl, refl)

  known : (w : List (Node M.Body)) (x : Input M.Body M.Line M.Target) (o o' : Option (Doing M.Body M.Line M.Target)) → o ≡ doing_of w x → o ≡ o'
      → IsDoing w (world.actor M w (input_of M x)) (world.act_of M w (input_of M x)) o'
  known w x o o' e f =
      subst (λ (r : Option (Doing M.Body M.Line M.Target)). IsDoing w (world.actor M w (input_of M x)) (world.act_of M w (input_of M x)) r) (sym e ∙ f) (is_doing w x)

  module _ {Setup Hosted Store : Type 0} where
    -- in some way a node does what the input is
    happens_so : (how : Act M → Own M) (act : Act M) (i j : ℕ) (told : Act M) (old new : List (CellParts Setup Hosted Store M.Body)) (out : Outcome M.Effect M.Played) → i ≡ j → act ≡ told
        → HasOwnedAt M j (how told) old new out → HasOwnedAt M i (how act) old new out
    happens_so how act i j told old new out e f h =
        subst (λ (n : ℕ). HasOwnedAt M n (how act) old new out) (sym e) (subst (λ (a : Act M). HasOwnedAt M j (how a) old new out) (sym f) h)

    no_node : (o : Own M) (i : ℕ) (cells : List (CellParts Setup Hosted Store M.Body)) → item (nodes_in cells) i ≡ None → HasOwnedAt M i o cells cells Missing
    no_node o i cells h =
        record {
          nodes = ap (λ (s : Option (Node M.Body)). world.world_by M (nodes_in cells) i o s) (sym h);
          comes = ap (λ (s : Option (Node M.Body)). world.out_by M (nodes_in cells) i o s) (sym h);
        }

    input_happens : (x : Input M.Body M.Line M.Target) (o : Option (Doing M.Body M.Line M.Target)) (d : Doing M.Body M.Line M.Target) (old new : List (CellParts Setup Hosted Store M.Body)) (out : Outcome M.Effect M.Played)
        → o ≡ doing_of (nodes_in old) x → o ≡ Some d → HasOwnedAt M d.node (Acts (told_act M d.act)) old new out → HasHappened M (Does x) old new out
    input_happens x o d old new out e f h =
        let k = known (nodes_in old) x o (Some d) e f in
        let r = happens_so (λ a. Acts a) (world.act_of M (nodes_in old) (input_of M x)) (world.actor M (nodes_in old) (input_of M x)) d.node (told_act M d.act) old new out k.0 k.1 h in
        record { nodes = r.nodes; comes = r.comes }

    no_input_happens : (x : Input M.Body M.Line M.Target) (o : Option (Doing M.Body M.Line M.Target)) (cells : List (CellParts Setup Hosted Store M.Body))
        → o ≡ doing_of (nodes_in cells) x → o ≡ None → HasHappened M (Does x) cells cells Missing
    no_input_happens x o cells e f =
        let r = no_node (Acts (world.act_of M (nodes_in cells) (input_of M x))) (world.actor M (nodes_in cells) (input_of M x)) cells (known (nodes_in cells) x o None e f) in
        record { nodes = r.nodes; comes = r.comes }

    stop_happens : (x : Input M.Body M.Line M.Target) (after : Bool) (o : Option (Doing M.Body M.Line M.Target)) (d : Doing M.Body M.Line M.Target) (old new : List (CellParts Setup Hosted Store M.Body)) (out : Outcome M.Effect M.Played)
        → o ≡ doing_of (nodes_in old) x → o ≡ Some d → HasOwnedAt M d.node (Stops (told_act M d.act) after) old new out → HasHappened M (StopIn x after) old new out
    stop_happens x after o d old new out e f h =
        let k = known (nodes_in old) x o (Some d) e f in
        let r = happens_so (λ a. Stops a after) (world.act_of M (nodes_in old) (input_of M x)) (world.actor M (nodes_in old) (input_of M x)) d.node (told_act M d.act) old new out k.0 k.1 h in
        record { nodes = r.nodes; comes = r.comes }

    no_stop_happens : (x : Input M.Body M.Line M.Target) (after : Bool) (o : Option (Doing M.Body M.Line M.Target)) (cells : List (CellParts Setup Hosted Store M.Body))
        → o ≡ doing_of (nodes_in cells) x → o ≡ None → HasHappened M (StopIn x after) cells cells Missing
    no_stop_happens x after o cells e f =
        let r = no_node (Stops (world.act_of M (nodes_in cells) (input_of M x)) after) (world.actor M (nodes_in cells) (input_of M x)) cells (known (nodes_in cells) x o None e f) in
        record { nodes = r.nodes; comes = r.comes }

    restart_happens : (i : ℕ) (old new : List (CellParts Setup Hosted Store M.Body)) (out : Outcome M.Effect M.Played) → HasOwnedAt M i Restarts old new out → HasHappened M (Restart i) old new out
    restart_happens i old new out h = record { nodes = h.nodes; comes = h.comes }

    -- the same for calls, which may have failed, by the cells that were read
    pub input_comes : {E : Type 0} (x : Input M.Body M.Line M.Target) (e : Event M.Body M.Line M.Target) (o : Option (Doing M.Body M.Line M.Target)) (d : Doing M.Body M.Line M.Target) (read old new : List (CellParts Setup Hosted Store M.Body)) (r : Result (Outcome M.Effect M.Played) E)
        → e ≡ Does x → read ≡ old → o ≡ doing_of (nodes_in read) x → o ≡ Some d → IfOk r (HasOwnedAt M d.node (Acts (told_act M d.act)) old new) → IfOk r (HasHappened M e old new)
    input_comes x e o d read old new (Ok out) is same told at h =
        subst (λ (y : Event M.Body M.Line M.Target). HasHappened M y old new out) (sym is)
        (input_happens x o d old new out (told ∙ ap (λ (cells : List (CellParts Setup Hosted Store M.Body)). doing_of (nodes_in cells) x) same) at h)
    input_comes x e o d read old new (Err f) is same told at h = tt

    pub no_input_comes : (x : Input M.Body M.Line M.Target) (e : Event M.Body M.Line M.Target) (o : Option (Doing M.Body M.Line M.Target)) (read cells : List (CellParts Setup Hosted Store M.Body))
        → e ≡ Does x → read ≡ cells → o ≡ doing_of (nodes_in read) x → o ≡ None → HasHappened M e cells cells Missing
    no_input_comes x e o read cells is same told at =
        subst (λ (y : Event M.Body M.Line M.Target). HasHappened M y cells cells Missing) (sym is)
        (no_input_happens x o cells (told ∙ ap (λ (l : List (CellParts Setup Hosted Store M.Body)). doing_of (nodes_in l) x) same) at)

    pub stop_comes : {E : Type 0} (x : Input M.Body M.Line M.Target) (after : Bool) (e : Event M.Body M.Line M.Target) (o : Option (Doing M.Body M.Line M.Target)) (d : Doing M.Body M.Line M.Target) (read old new : List (CellParts Setup Hosted Store M.Body)) (r : Result (Outcome M.Effect M.Played) E)
        → e ≡ StopIn x after → read ≡ old → o ≡ doing_of (nodes_in read) x → o ≡ Some d → IfOk r (HasOwnedAt M d.node (Stops (told_act M d.act) after) old new) → IfOk r (HasHappened M e old new)
    stop_comes x after e o d read old new (Ok out) is same told at h =
        subst (λ (y : Event M.Body M.Line M.Target). HasHappened M y old new out) (sym is)
        (stop_happens x after o d old new out (told ∙ ap (λ (cells : List (CellParts Setup Hosted Store M.Body)). doing_of (nodes_in cells) x) same) at h)
    stop_comes x after e o d read old new (Err f) is same told at h = tt

    pub no_stop_comes : (x : Input M.Body M.Line M.Target) (after : Bool) (e : Event M.Body M.Line M.Target) (o : Option (Doing M.Body M.Line M.Target)) (read cells : List (CellParts Setup Hosted Store M.Body))
        → e ≡ StopIn x after → read ≡ cells → o ≡ doing_of (nodes_in read) x → o ≡ None → HasHappened M e cells cells Missing
    no_stop_comes x after e o read cells is same told at =
        subst (λ (y : Event M.Body M.Line M.Target). HasHappened M y cells cells Missing) (sym is)
        (no_stop_happens x after o cells (told ∙ ap (λ (l : List (CellParts Setup Hosted Store M.Body)). doing_of (nodes_in l) x) same) at)

    pub restart_comes : {E : Type 0} (e : Event M.Body M.Line M.Target) (i node : ℕ) (old new : List (CellParts Setup Hosted Store M.Body)) (r : Result (Outcome M.Effect M.Played) E)
        → e ≡ Restart node → i ≡ node → IfOk r (HasOwnedAt M i Restarts old new) → IfOk r (HasHappened M e old new)
    restart_comes e i node old new (Ok out) is same h =
        subst (λ (y : Event M.Body M.Line M.Target). HasHappened M y old new out) (sym is)
        (restart_happens node old new out (subst (λ (n : ℕ). HasOwnedAt M n Restarts old new out) same h))
    restart_comes e i node old new (Err f) is same h = tt

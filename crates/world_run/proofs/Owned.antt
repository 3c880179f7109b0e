-- The result of a node's calls, with all that the node sent.
use Rattle.std.proofs.Common.{◌≡◌, ℕ, zero, suc, true, false, List, [], ◌++◌, length, take, append-nil, refl, sym, ap, ◌∙◌, subst, arith}
use Rattle.std.specs.Prelude.{None, Result, Ok, Err}
use Rattle.raft_log.specs.declared.message.Message.{Message}
use Rattle.raft_log.specs.Node.{Node}
use Rattle.raft_log.specs.Seen.{seen}
use Rattle.node_steps.specs.declared.refusal.Refusal.{Refusal}
use Rattle.raft_node.specs.declared.input.Input.{Input}
use Rattle.raft_node.specs.declared.input.Output.{Output}
use Rattle.raft_node.specs.declared.input.Looked.{Looked as Played}
use Rattle.raft_node.specs.declared.node_fault.NodeFault.{NodeFault}
use Rattle.raft_node.specs.declared.node_fault.NodeFault.TheVariants.{Refused as Fault}
use Rattle.raft_node.specs.Inputs.{act_of}
use Rattle.raft_node.specs.Machine.{Machine}
use Rattle.raft_node.specs.Parts.{Keeper, Parts, size_of}
use Rattle.raft_node.specs.Stepping.{IsDone, IsDeclined, IsLooked, IsSameNode, IsStepped, given, turned}
use Rattle.raft_node.specs.Steps.{Act, Acts, Restarts, Stops, Looks, Out, Quiet, Left, Turn, refused}
use Rattle.std.proofs.Math.Seq.{take-append_seam}
use Rattle.raft_node.specs.Raft.{restarted}
use Rattle.world_run.specs.declared.outcome.Outcome.{Outcome}
use Rattle.world_run.specs.declared.outcome.Outcome.TheVariants.{Looked, Refused, Quiet as Nothing}
use Rattle.world_run.specs.Groups.{CellParts, HasActedUnsent, HasBegunAnew, HasOwned, node_in}
use Rattle.world_run.specs.Told.{out_of}

-- nothing comes out of a place 0, another one is left
pub given_none : {M : Machine} (place : ℕ) (effects : List M.Effect) → place ≡ 0 → Quiet ≡ given {M = M} place effects
given_none zero effects h = refl
given_none (suc place) effects h = absurd (omega (arith, h))

pub given_left : {M : Machine} (place : ℕ) (effects : List M.Effect) → (place ≡ 0 → ⊥) → Left place effects ≡ given {M = M} place effects
given_left zero effects h = absurd (h refl)
given_left (suc place) effects h = refl

module _ (M : Machine) {Setup Hosted Store : Type 0} where
  abbrev cell : Parts Setup Hosted Store M.Body → List (Message M.Body) → CellParts Setup Hosted Store M.Body
  cell n sent = record { node = n; sent = sent }

  -- an act was done
  done : (k : Keeper Store M.Body) (act : Act M) (old new : Parts Setup Hosted Store M.Body) (sent after : List (Message M.Body)) (output : Output M.Body M.Effect) (out : Outcome M.Effect M.Played)
      → IsDone M k act old output new → IsSameNode k old new → after ≡ sent ++ output.messages.items → out_of M out ≡ given {M = M} output.place output.effects.items
      → HasOwned M (Acts act) (cell old sent) (cell new after) out
  done k act old new sent after output out d same e o =
      record {
        still_up = record { id = same.id; size = same.size; setup = same.setup; is_up = d.is_up };
        comes = d.turns sent
            ∙ (ap (λ (l : List (Message M.Body)). let t : Turn M = record { node = seen new.state l; out = given {M = M} output.place output.effects.items } in t) (sym e)
            ∙ ap (λ (x : Out M). let t : Turn M = record { node = seen new.state after; out = x } in t) (sym o));
        more = output.messages.items;
        sent = e;
      }

  -- an act was refused
  declined : (act : Act M) (old new : Parts Setup Hosted Store M.Body) (sent : List (Message M.Body)) (refusal : Refusal)
      → IsDeclined M act old refusal new → HasOwned M (Acts act) (cell old sent) (cell new sent) (Refused refusal)
  declined act old new sent refusal d =
      record {
        still_up = record {
          id = ap (λ (n : Parts Setup Hosted Store M.Body). n.id) d.same;
          size = ap (λ (n : Parts Setup Hosted Store M.Body). size_of n.state) d.same;
          setup = ap (λ (n : Parts Setup Hosted Store M.Body). n.setup) d.same;
          is_up = ap (λ (n : Parts Setup Hosted Store M.Body). n.down) d.same ∙ d.was_up;
        };
        comes = d.turns sent ∙ ap (λ (n : Parts Setup Hosted Store M.Body). refused M (seen n.state sent) refusal) (sym d.same);
        more = [];
        sent = sym (append-nil sent);
      }

  pub step_done : (k : Keeper Store M.Body) (input : Input (Message M.Body) M.Body M.Line) (old new : Parts Setup Hosted Store M.Body) (sent after : List (Message M.Body)) (result : Result (Output M.Body M.Effect) NodeFault) (output : Output M.Body M.Effect) (out : Outcome M.Effect M.Played)
      → IsStepped M k input old result new → result ≡ Ok output → after ≡ sent ++ output.messages.items → out_of M out ≡ given {M = M} output.place output.effects.items
      → HasOwned M (Acts (act_of M input)) (cell old sent) (cell new after) out
  step_done k input old new sent after result output out h e =
      let s : IsStepped M k input old (Ok output) new = subst (λ (r : Result (Output M.Body M.Effect) NodeFault). IsStepped M k input old r new) e h in
      done k (act_of M input) old new sent after output out s.0 s.1

  pub step_declined : (k : Keeper Store M.Body) (input : Input (Message M.Body) M.Body M.Line) (old new : Parts Setup Hosted Store M.Body) (sent : List (Message M.Body)) (result : Result (Output M.Body M.Effect) NodeFault) (fault : NodeFault) (refusal : Refusal)
      → IsStepped M k input old result new → result ≡ Err fault → fault ≡ Fault refusal
      → HasOwned M (Acts (act_of M input)) (cell old sent) (cell new sent) (Refused refusal)
  step_declined k input old new sent result fault refusal h e f =
      let s : IsStepped M k input old (Err (Fault refusal)) new = subst (λ (r : Result (Output M.Body M.Effect) NodeFault). IsStepped M k input old r new) (e ∙ ap (λ (x : NodeFault). let r : Result (Output M.Body M.Effect) NodeFault = Err x in r) f) h in
      declined (act_of M input) old new sent refusal s.0

  stays : (act : Act M) (n : Parts Setup Hosted Store M.Body) (sent : List (Message M.Body)) (out : Outcome M.Effect M.Played) → n.down ≡ None
      → turned M act n sent ≡ record { node = seen n.state sent; out = out_of M out } → HasOwned M (Acts act) (cell n sent) (cell n sent) out
  stays act n sent out up h =
      record { still_up = record { id = refl; size = refl; setup = refl; is_up = up }; comes = h; more = []; sent = sym (append-nil sent) }

  pub look_done : (from_place : ℕ) (target : M.Target) (n : Parts Setup Hosted Store M.Body) (sent : List (Message M.Body)) (result : Result (Played M.Played) NodeFault) (looked : Played M.Played)
      → IsLooked M from_place target n result → result ≡ Ok looked → HasOwned M (Acts (Looks from_place target)) (cell n sent) (cell n sent) (Looked looked.place looked.lines)
  look_done from_place target n sent result looked h e =
      let s : IsLooked M from_place target n (Ok looked) = subst (λ (r : Result (Played M.Played) NodeFault). IsLooked M from_place target n r) e h in
      stays (Looks from_place target) n sent (Looked looked.place looked.lines) s.0 (s.1 sent)

  pub look_declined : (from_place : ℕ) (target : M.Target) (n : Parts Setup Hosted Store M.Body) (sent : List (Message M.Body)) (result : Result (Played M.Played) NodeFault) (fault : NodeFault) (refusal : Refusal)
      → IsLooked M from_place target n result → result ≡ Err fault → fault ≡ Fault refusal → HasOwned M (Acts (Looks from_place target)) (cell n sent) (cell n sent) (Refused refusal)
  look_declined from_place target n sent result fault refusal h e f =
      let s : IsLooked M from_place target n (Err (Fault refusal)) = subst (λ (r : Result (Played M.Played) NodeFault). IsLooked M from_place target n r) (e ∙ ap (λ (x : NodeFault). let r : Result (Played M.Played) NodeFault = Err x in r) f) h in
      stays (Looks from_place target) n sent (Refused refusal) s.0 (s.1 sent)

  -- what an act sent is cut off
  pub unsent : (act : Act M) (old new : Parts Setup Hosted Store M.Body) (sent after cut : List (Message M.Body)) (out : Outcome M.Effect M.Played)
      → HasOwned M (Acts act) (cell old sent) (cell new after) out → cut ≡ take (length sent) after → HasActedUnsent M act (cell old sent) (cell new cut)
  unsent act old new sent after cut out h e =
      record {
        still_up = record { id = h.still_up.id; size = h.still_up.size; setup = h.still_up.setup; is_up = h.still_up.is_up };
        becomes = ap (λ (l : List (Message M.Body)). seen new.state l) (e ∙ ap (λ (l : List (Message M.Body)). take (length sent) l) h.sent ∙ take-append_seam sent h.more)
            ∙ ap (λ (t : Turn M). let n : Node M.Body = record t.node { sent = sent } in n) (sym h.comes);
      }

  -- a stop is what was saved by then, and the next run
  pub stopped_before : (act : Act M) (old new : CellParts Setup Hosted Store M.Body) → HasBegunAnew old new → HasOwned M (Stops act false) old new Nothing
  stopped_before act old new h =
      record { still_up = h.still_up; comes = ap (λ (n : Node M.Body). let t : Turn M = record { node = n; out = Quiet } in t) (sym h.runs); more = []; sent = h.sent ∙ sym (append-nil old.sent) }

  pub stopped_after : (act : Act M) (old mid new : CellParts Setup Hosted Store M.Body) → HasActedUnsent M act old mid → HasBegunAnew mid new → HasOwned M (Stops act true) old new Nothing
  stopped_after act old mid new u h =
      record {
        still_up = record { id = h.still_up.id ∙ u.still_up.id; size = h.still_up.size ∙ u.still_up.size; setup = h.still_up.setup ∙ u.still_up.setup; is_up = h.still_up.is_up };
        comes = ap (λ (n : Node M.Body). let t : Turn M = record { node = n; out = Quiet } in t) (ap (λ (n : Node M.Body). restarted (size_of old.node.state) n) (sym u.becomes) ∙ ap (λ (size : ℕ). restarted size (node_in mid)) (sym u.still_up.size) ∙ sym h.runs);
        more = [];
        sent = h.sent ∙ (ap (λ (n : Node M.Body). n.sent) u.becomes ∙ sym (append-nil old.sent));
      }

  pub restarts : (old new : CellParts Setup Hosted Store M.Body) → HasBegunAnew old new → HasOwned M Restarts old new Nothing
  restarts old new h =
      record { still_up = h.still_up; comes = ap (λ (n : Node M.Body). let t : Turn M = record { node = n; out = Quiet } in t) (sym h.runs); more = []; sent = h.sent ∙ sym (append-nil old.sent) }

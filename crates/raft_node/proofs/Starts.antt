-- A node is whole as its run begins.
use Rattle.std.proofs.Common.{◌≡◌, ℕ, suc, ◌≤◌, false, List, [], Option, None, Result, Ok, take, refl, sym, ap, subst, arith}
use Rattle.std.proofs.Math.ListN.{length-replicate}
use Rattle.machine_laws.specs.Runs.{History}
use Rattle.raft_log.specs.declared.entry.Entry.{Entry}
use Rattle.raft_log.specs.declared.message.Message.{Message}
use Rattle.raft_log.specs.declared.node_state.NodeState.{NodeState}
use Rattle.raft_log.specs.Node.{Node}
use Rattle.raft_log.specs.Seen.{seen}
use Rattle.stable_store.specs.declared.saved.Saved.{Saved}
use Rattle.raft_node.specs.declared.node_fault.NodeFault.{NodeFault}
use Rattle.raft_node.specs.Machine.{history}
use Rattle.raft_node.specs.Parts.{Holds, IsWhole, Keeper, Parts, size_of}
use Rattle.raft_node.specs.Raft.{started}
use Rattle.raft_node.specs.Sound.{IsSound}
use Rattle.raft_node.specs.Starting.{Begins, IsBegun, IsRestarted, begun}
use Rattle.raft_node.proofs.Counting.{Counted}

module _ {B : Type 0} where
  pub started_sound : (size boot term : ℕ) (vote : Option ℕ) (log : List (Entry B)) (sent : List (Message B)) → IsSound size (started size boot term vote log sent)
  started_sound size boot term vote log sent = (
    omega arith,
    record { commit_within = omega arith; next_within = λ t. absurd (cc t); match_within = λ t. absurd (cc t) },
    λ live e. absurd (cc e),
    λ leader e. refl,
    (length-replicate size false, length-replicate size 0, length-replicate size 0),
  )

module _ {Setup Hosted Store B : Type 0} (stands : Hosted → Setup → History B → Type 0) (k : Keeper Store B) where
  -- a node whose run has begun, with a machine to which nothing came
  pub new_whole : (n : Parts Setup Hosted Store B) (size : ℕ) (stood : Saved B → Type 0) → Begins size stood n.state → 1 ≤ n.id → n.id ≤ size
      → stands n.machine n.setup [] → Holds k n.store n.state → IsWhole stands k n
  new_whole n size stood b low high runs h =
      let v : Saved B = b.0 in
      let same : seen n.state [] ≡ begun size v [] = b.2 [] in
      let sound : IsSound size (seen n.state []) = subst (λ (s : Node B). IsSound size s) (sym same) (started_sound size (suc v.boot) v.term v.vote v.log []) in
      let none : n.state.standing.applied ≡ 0 = ap (λ (s : Node B). s.applied) same in
      record {
        in_group = (low, omega (arith, high, b.3));
        sound = subst (λ (m : ℕ). IsSound m (seen n.state [])) (sym b.3) sound;
        counts = subst (λ (s : Node B). Counted s) (sym same) tt;
        runs = λ up. subst (λ (m : ℕ). stands n.machine n.setup (history (take m n.state.log))) (sym none) runs;
        holds = λ up. h;
      }

abbrev done : Result (Unit {0}) NodeFault
done = Ok tt

module _ {Setup Hosted Store B : Type 0} (k : Keeper Store B) where
  module _ (n : Parts Setup Hosted Store B) (machine : Hosted) (store : Store) (state : NodeState B) where
    abbrev next : Parts Setup Hosted Store B
    next = record n { machine = machine; store = store; state = state; down = None }

    begins_here : IsBegun k (size_of n.state) n.store (Ok state) store → IsRestarted k n done next
    begins_here h =
        record {
          same = record { id = refl; setup = refl; size = h.answers.0.3; honest = h.honest };
          answers = (refl, h.answers.0, h.answers.1);
          may_begin = h.may_begin;
        }

    -- a node begins its next run
    pub restarts : (old : Parts Setup Hosted Store B) (size : ℕ) → n ≡ old → size ≡ size_of n.state → IsBegun k size n.store (Ok state) store → IsRestarted k old done next
    restarts old size same e h =
        subst (λ (x : Parts Setup Hosted Store B). IsRestarted k x done next) same
        (begins_here (subst (λ (m : ℕ). IsBegun k m n.store (Ok state) store) e h))

-- Runs of a node over a store in memory.
use Rattle.std.proofs.Common.{◌≡◌, ℕ, List, [], true, false, refl, ap, ◌∙◌}
use Rattle.std.specs.Prelude.{None, Result, Ok, Err, is_err}
use Rattle.raft_log.specs.declared.message.Message.{Message}
use Rattle.raft_log.specs.declared.node_state.NodeState.{NodeState}
use Rattle.raft_log.specs.Seen.{seen}
use Rattle.stable_store.specs.declared.memory_store.MemoryStore.{MemoryStore}
use Rattle.stable_store.specs.declared.saved.Saved.{Saved}
use Rattle.stable_store.specs.Stores.{nothing_saved}
use Rattle.raft_node.specs.declared.node_fault.NodeFault.{NodeFault}
use Rattle.raft_node.specs.Parts.{Holds, Keeper, keeper, Parts, size_of}
use Rattle.raft_node.specs.Raft.{newborn}
use Rattle.raft_node.specs.Starting.{Begins, IsRestarted, MayHaveStood, begun}
use Rattle.world_run.specs.Groups.{HasBegunAnew}

-- the store in memory, as the laws of a store see it
abbrev memory : (B : Type 0) → Keeper (MemoryStore B) B
memory B = keeper (λ s. s.saved) (λ s v. v ≡ s.saved) (λ s. record { honest = true; broken = false; failures = 0 })

-- a first run, over a store that holds nothing
pub first_runs : {B : Type 0} (size : ℕ) (store : MemoryStore B) (state : NodeState B) → store.saved ≡ nothing_saved
    → Begins size (MayHaveStood (memory B) store) state → seen state [] ≡ newborn size
first_runs size store state e b = b.2 [] ∙ ap (λ (v : Saved _). begun size v []) (b.1 refl ∙ e)

module _ {Setup Hosted B : Type 0} where
  -- a later run, over what was saved of the one before
  pub runs_anew : (old new : Parts Setup Hosted (MemoryStore B) B) (sent : List (Message B)) (result : Result (Unit {0}) NodeFault) → is_err result ≡ false
      → old.down ≡ None → (old.down ≡ None → Holds (memory B) old.store old.state)
      → IsRestarted (memory B) old result new → HasBegunAnew (record { node = old; sent = sent }) (record { node = new; sent = sent })
  runs_anew old new sent (Err fault) ok up holds h = absurd cc
  runs_anew old new sent (Ok done) ok up holds h =
      let a = h.answers in
      record {
        still_up = record { id = h.same.id; size = h.same.size; setup = h.same.setup; is_up = a.0 };
        runs = a.1.2 sent ∙ ap (λ (v : Saved B). begun (size_of old.state) v sent) (a.1.1 refl ∙ (holds up refl).1);
        sent = refl;
      }

-- What is saved in a new journal.
use Rattle.std.specs.Prelude.{ℕ, List, Some, map}
use Rattle.raft_log.specs.declared.entry.Entry.{Entry}
use Rattle.stable_store.specs.declared.saved.Saved.{Saved}

module _ {B : Type 0} where
  -- this log, after these runs and in this term, with a vote for node 1: as if every node of the group had voted for
  -- node 1 in this term, and it had been the leader
  abbrev pub begun_anew : ℕ → ℕ → List (Entry B) → Saved B
  begun_anew boot term log = record { boot = boot; term = term; vote = Some 1; log = log }

  -- the same in a store for each of these runs, which are those of the nodes, node 1's first
  abbrev pub all_begun_anew : List ℕ → ℕ → List (Entry B) → List (Saved B)
  all_begun_anew boots term log = map (λ boot. begun_anew boot term log) boots

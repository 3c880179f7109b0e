-- What is remembered of a state.
use Rattle.std.specs.Prelude.{◌≡◌, ◌==◌, ℕ, Bool, true, false, if◌then◌else◌, List, [], ◌∷◌}
use Rattle.raft_log.specs.declared.entry.Entry.{Entry}
use Rattle.raft_log.specs.declared.node_state.NodeState.{NodeState}
use Rattle.node_cells.specs.declared.remembered.Remembered.{Remembered}
use Rattle.node_cells.specs.Sending.{terms_of}

module _ {B : Type 0} where
  -- boot, term, vote, and the terms of the entries
  pub record Remembers (r : Remembered) (state : NodeState B) : Type 0 where
    pub boot : r.boot ≡ state.standing.boot
    pub term : r.term ≡ state.standing.term
    pub vote : r.vote ≡ state.standing.vote
    pub terms : r.terms.items ≡ terms_of state.log

  -- these are the terms of these entries
  abbrev pub same_terms : List ℕ → List (Entry B) → Bool
  same_terms [] [] = true
  same_terms [] (e ∷ es) = false
  same_terms (t ∷ ts) [] = false
  same_terms (t ∷ ts) (e ∷ es) = if t == e.term then same_terms ts es else false

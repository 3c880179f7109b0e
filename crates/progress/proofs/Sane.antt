-- What holds in every world that a group reaches.
use Rattle.std.proofs.Common.{◌≡◌, ℕ, suc, ◌≤◌, Bool, true, List, length, take, Some, ◌⊎◌}
use Rattle.raft_log.specs.Lists.{item, item_or}
use Rattle.raft_log.specs.Logs.{entry_limit, last_term, term_at}
use Rattle.raft_log.specs.Node.{Node, is_leader}
use Rattle.agreement.specs.World.{Begins}
use Rattle.agreement.specs.Laws.{IsMajority, IsAsUpToDateAs}
use Rattle.progress.proofs.Alike.{AreAlike, Has}

module _ {B : Type 0} where
  -- for a leader, and for each node whose term is not above its own
  pub record Heads (n : ℕ) (w : List (Node B)) (c : ℕ) (s : Node B) : Type 0 where
    pub ends : ((1 ≤ length s.log) × (last_term s.log ≡ s.term)) ⊎ (entry_limit ≤ length s.log)
    pub next_long : length s.next ≡ n
    pub matched_long : length s.matched ≡ n
    pub next_low : (j : ℕ) → 1 ≤ j → j ≤ n → 1 ≤ item_or s.next j 0
    pub next_high : (j : ℕ) → item_or s.next j 0 ≤ suc (length s.log)
    pub matched_in : (j : ℕ) → item_or s.matched j 0 ≤ length s.log
    pub matched_has : (j : ℕ) (t : Node B) → item w j ≡ Some t → t.term ≤ s.term → Has (item_or s.matched j 0) t.log s.log
    pub short : (j : ℕ) (t : Node B) → item w j ≡ Some t → t.term ≤ s.term → last_term s.log ≡ s.term → Begins s.log t.log → t.log ≡ s.log
    pub holds : (j : ℕ) (t : Node B) → item w j ≡ Some t → t.term ≤ s.term → Begins (take t.commit t.log) s.log
    pub alone : (j : ℕ) (t : Node B) → item w j ≡ Some t → is_leader t.role ≡ true → t.term ≡ s.term → j ≡ c

  pub record Sane (n : ℕ) (w : List (Node B)) : Type 0 where
    pub alike : (a b : ℕ) (s t : Node B) → item w a ≡ Some s → item w b ≡ Some t → AreAlike s.log t.log
    pub terms : (a p : ℕ) (s : Node B) → item w a ≡ Some s → term_at s.log p ≤ s.term
    pub commit_in : (a : ℕ) (s : Node B) → item w a ≡ Some s → s.commit ≤ length s.log
    pub applied_in : (a : ℕ) (s : Node B) → item w a ≡ Some s → s.applied ≤ s.commit
    pub holds : (set : List Bool) (a b : ℕ) (s t : Node B) → item w a ≡ Some s → item w b ≡ Some t → IsMajority n set → IsAsUpToDateAs set w t.log → Begins (take s.commit s.log) t.log
    pub heads : (c : ℕ) (s : Node B) → item w c ≡ Some s → is_leader s.role ≡ true → Heads n w c s

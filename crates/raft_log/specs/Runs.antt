-- Runs: where the term changes from one entry to the next. They and the bodies determine the whole log.
use Rattle.std.specs.Prelude.{◌≡◌, ◌≢◌, ◌<◌, ◌≤◌, length, ℕ, suc, ◌==◌, Bool, false, List, [], ◌∷◌, Option, None, Some, map, if◌then◌else◌}
use Rattle.raft_log.specs.declared.entry.Entry.{Entry}
use Rattle.raft_log.specs.declared.run.Run.{Run}
use Rattle.raft_log.specs.Logs.{entry_limit}

-- whether an entry of this term continues a run: the entry before it has the same term
abbrev pub goes_on : Option ℕ → ℕ → Bool
goes_on None t = false
goes_on (Some s) t = s == t

-- the runs that begin with these terms, after this many others, the last of which is the first argument
abbrev pub runs_behind : Option ℕ → ℕ → List ℕ → List Run
runs_behind last k [] = []
runs_behind last k (t ∷ ts) = if goes_on last t then runs_behind last (suc k) ts else record { first = suc k; term = t } ∷ runs_behind (Some t) (suc k) ts

-- the runs of a list of terms
abbrev pub term_runs : List ℕ → List Run
term_runs ts = runs_behind None 0 ts

-- each run begins after the one before it, in another term
abbrev pub Alternate : List Run → Type 0
Alternate [] = Unit {0}
Alternate (r ∷ []) = Unit {0}
Alternate (r ∷ s ∷ rs) = (r.first < s.first) × (r.term ≢ s.term) × Alternate (s ∷ rs)

-- the last of these terms, or this one if there is none
abbrev pub last_of : Option ℕ → List ℕ → Option ℕ
last_of last [] = last
last_of last (t ∷ ts) = last_of (Some t) ts

-- the term of the last of these runs, or this one if there is none
abbrev pub last_run_of : Option ℕ → List Run → Option ℕ
last_run_of last [] = last
last_run_of last (r ∷ rs) = last_run_of (Some r.term) rs

-- the term of the last run
abbrev pub last_run : List Run → Option ℕ
last_run rs = last_run_of None rs

module _ {B : Type 0} where
  -- the terms of entries
  abbrev pub terms : List (Entry B) → List ℕ
  terms log = map (λ e. e.term) log

  -- the runs of a log
  abbrev pub runs_of : List (Entry B) → List Run
  runs_of log = term_runs (terms log)

  -- entries of these bodies, after k whose last has term t, where these runs begin
  abbrev pub entries_from : ℕ → ℕ → List Run → List B → List (Entry B)
  entries_from k t rs [] = []
  entries_from k t [] (b ∷ bs) = record { term = t; body = b } ∷ entries_from (suc k) t [] bs
  entries_from k t (r ∷ rs) (b ∷ bs) =
      if r.first == suc k then record { term = r.term; body = b } ∷ entries_from (suc k) r.term rs bs else record { term = t; body = b } ∷ entries_from (suc k) t (r ∷ rs) bs

  -- the entries that have these runs and these bodies
  abbrev pub entries_of : List Run → List B → List (Entry B)
  entries_of rs bs = entries_from 0 0 rs bs

  -- these are the runs of the entries that they and the bodies make, and there are no more than a log may have
  pub record IsLog (rs : List Run) (bs : List B) : Type 0 where
    pub are_runs : rs ≡ runs_of (entries_of rs bs)
    pub few : length bs ≤ entry_limit

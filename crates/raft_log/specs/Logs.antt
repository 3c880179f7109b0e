-- Logs: what they agree on, which one is better, and what an append leaves. Indexes count from 1; index 0 has term 0.
use Rattle.std.specs.Prelude.{ℕ, zero, suc, ◌==◌, Bool, true, false, ◌&&◌, ◌||◌, List, [], ◌∷◌, ◌++◌, length, take, drop, nat_lt, nat_le, if◌then◌else◌}
use Rattle.raft_log.specs.declared.entry.Entry.{Entry}
use Rattle.raft_log.specs.declared.log.TheConstants.{ENTRY_LIMIT}

-- how many entries a log may have
abbrev pub entry_limit : ℕ
entry_limit = ENTRY_LIMIT

module _ {B : Type 0} where
  -- the term of the last entry, or this number if there is none
  abbrev pub last_after : ℕ → List (Entry B) → ℕ
  last_after t [] = t
  last_after t (e ∷ log) = last_after e.term log

  -- the term of the last entry, 0 if there is none
  abbrev pub last_term : List (Entry B) → ℕ
  last_term log = last_after 0 log

  -- the term of the entry at an index, 0 at index 0
  abbrev pub term_at : List (Entry B) → ℕ → ℕ
  term_at log k = last_term (take k log)

  -- there is an entry at this index, and it has this term
  abbrev pub has_term : List (Entry B) → ℕ → ℕ → Bool
  has_term log t k = nat_le 1 k && (nat_le k (length log) && (term_at log k == t))

  -- the log reaches to this index and has this term there; at index 0, before all entries, logs always agree
  abbrev pub agrees_at : List (Entry B) → ℕ → ℕ → Bool
  agrees_at log k t = k == 0 || (nat_le k (length log) && (term_at log k == t))

  -- the entries written over what follows the place before them: from the first conflict on they replace it
  abbrev pub merged : List (Entry B) → List (Entry B) → List (Entry B)
  merged rest [] = rest
  merged [] (e ∷ es) = e ∷ es
  merged (x ∷ rest) (e ∷ es) = if x.term == e.term then x ∷ merged rest es else e ∷ es

  -- an entry that conflicts (same index, other term) is removed with all that follow, and missing entries are added
  abbrev pub repair : List (Entry B) → ℕ → List (Entry B) → List (Entry B)
  repair log prev entries = take prev log ++ merged (drop prev log) entries

  -- one of the first c entries conflicts
  abbrev pub conflicts_within : List (Entry B) → List (Entry B) → ℕ → Bool
  conflicts_within rest es zero = false
  conflicts_within [] es (suc c) = false
  conflicts_within (x ∷ rest) [] (suc c) = false
  conflicts_within (x ∷ rest) (e ∷ es) (suc c) = if x.term == e.term then conflicts_within rest es c else true

  -- how many of the entries are already there, up to the first that is not
  abbrev pub standing : List (Entry B) → List (Entry B) → ℕ
  standing [] es = 0
  standing (x ∷ rest) [] = 0
  standing (x ∷ rest) (e ∷ es) = if x.term == e.term then suc (standing rest es) else 0

-- a log that ends in term u with n entries is at least as up to date as one that ends in term v with l
abbrev pub up_to_date : ℕ → ℕ → ℕ → ℕ → Bool
up_to_date u n v l = nat_lt v u || ((u == v) && nat_le l n)

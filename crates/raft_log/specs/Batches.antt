-- What an Append contains.
use Rattle.std.specs.Prelude.{ℕ, ◌+◌, ◌≤◌, List, length}
use Rattle.raft_log.specs.declared.batch.TheConstants.{BATCH_LIMIT}
use Rattle.raft_log.specs.declared.entry.Entry.{Entry}
use Rattle.raft_log.specs.Logs.{entry_limit}

-- entries, the index before them with its term, and the sender's commit
pub record BatchParts (B : Type 0) : Type 0 where
  pub prev_index : ℕ
  pub prev_term : ℕ
  pub entries : List (Entry B)
  pub commit : ℕ

-- how many entries may be sent or saved at once, and how many inputs may be done together
abbrev pub batch_limit : ℕ
batch_limit = BATCH_LIMIT

module _ {B : Type 0} where
  -- the parts of a batch, in their order
  abbrev pub batch : ℕ → ℕ → List (Entry B) → ℕ → BatchParts B
  batch prev_index prev_term entries commit =
      record { prev_index = prev_index; prev_term = prev_term; entries = entries; commit = commit }

  -- entries that may be sent at once, after this index
  abbrev pub MayBeSent : ℕ → List (Entry B) → Type 0
  MayBeSent prev_index entries = (length entries ≤ batch_limit) × (prev_index + length entries ≤ entry_limit)

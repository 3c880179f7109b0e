-- What a node saves as the payloads of a journal.
use Rattle.std.specs.Prelude.{ℕ, ◌+◌, Bool, true, ◌&&◌, length, nat_le, Option, Some, None}
use Rattle.wire_bytes.specs.Fields.{Reading}
use Rattle.raft_log.specs.Logs.{entry_limit}
use Rattle.stable_store.specs.declared.saved.Saved.{Saved}
use Rattle.stable_store.specs.Changes.{ChangeParts, change_taken}
use Rattle.stable_store.specs.Stores.{changed}
use Rattle.journal_store.specs.Journals.{Payload}

-- no vote, or one for a node of a group
abbrev pub names_node : Option ℕ → Bool
names_node None = true
names_node (Some node) = nat_le 1 node && nat_le node 7

module _ {B : Type 0} where
  -- no more entries are kept than there are, and the log stays within its limit
  abbrev pub keeps_within : Saved B → ChangeParts B → Bool
  keeps_within s c = nat_le c.keep (length s.log) && nat_le (c.keep + length c.entries) entry_limit

  -- boot and term do not decrease, and a vote is for a node
  abbrev pub goes_up : Saved B → ChangeParts B → Bool
  goes_up s c = nat_le s.boot c.boot && (nat_le s.term c.term && names_node c.vote)

  -- a change may follow a state
  abbrev pub may_follow : Saved B → ChangeParts B → Bool
  may_follow s c = keeps_within s c && goes_up s c

  -- a node's changes, with bodies of this kind
  abbrev pub payloads : Reading B → Payload (Saved B) (ChangeParts B)
  payloads body = record { taken = change_taken body; may = may_follow; changed = changed }

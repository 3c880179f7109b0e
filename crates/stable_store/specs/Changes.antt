-- Changes, and their bytes.
use Rattle.std.specs.Prelude.{ℕ, zero, suc, ◌≤◌, List, [], ◌∷◌, ◌++◌, Option, None, Some}
use Rattle.wire_bytes.specs.Fields.{Reading, byte_within, both, through}
use Rattle.wire_bytes.specs.Wants.{Wants, never, wants_both}
use Rattle.wire_bytes.specs.Values.{spelled_number, FitsNumber, number}
use Rattle.raft_log.specs.declared.entry.Entry.{Entry}
use Rattle.raft_log.specs.Entries.{spelled_entry, FitsEntry, entry_taken, wants_entry}
use Rattle.stable_store.specs.Lists.{counted, spelled_counted, FitsCounted, wants_counted}

-- boot, term and vote, how many entries are kept, and those that follow them
pub record ChangeParts (B : Type 0) : Type 0 where
  pub boot : ℕ
  pub term : ℕ
  pub vote : Option ℕ
  pub keep : ℕ
  pub entries : List (Entry B)

-- none, or a node from 1 on
abbrev pub IsVote : Option ℕ → Type 0
IsVote None = Unit {0}
IsVote (Some node) = 1 ≤ node

-- none, or a node whose number fits into one byte
abbrev pub FitsVote : Option ℕ → Type 0
FitsVote None = Unit {0}
FitsVote (Some node) = (1 ≤ node) × (node ≤ 255)

-- 0 for none
abbrev pub vote_byte : Option ℕ → ℕ
vote_byte None = 0
vote_byte (Some node) = node

-- none for 0
abbrev pub vote_of : ℕ → Option ℕ
vote_of zero = None
vote_of (suc n) = Some (suc n)

-- what comes before the entries
abbrev pub numbers_taken : Reading (((ℕ × ℕ) × ℕ) × ℕ)
numbers_taken = both (both (both number number) (byte_within 0 255)) number

module _ {B : Type 0} where
  -- the parts of a change, in their order
  abbrev pub change : ℕ → ℕ → Option ℕ → ℕ → List (Entry B) → ChangeParts B
  change boot term vote keep entries = record { boot = boot; term = term; vote = vote; keep = keep; entries = entries }

  -- a change from its parts as they are read
  abbrev pub change_of : (((ℕ × ℕ) × ℕ) × ℕ) × List (Entry B) → ChangeParts B
  change_of p = change p.0.0.0.0 p.0.0.0.1 (vote_of p.0.0.1) p.0.1 p.1

  -- boot, term, a byte for the vote, how many entries are kept, and the entries
  unfoldable pub spelled_change : (B → List ℕ) → ChangeParts B → List ℕ
  spelled_change body c = (((spelled_number c.boot ++ spelled_number c.term) ++ vote_byte c.vote ∷ []) ++ spelled_number c.keep) ++ spelled_counted (spelled_entry body) c.entries

  -- all parts fit
  abbrev pub FitsChange : (B → Type 0) → (B → List ℕ) → ChangeParts B → Type 0
  FitsChange fits body c = (((FitsNumber c.boot × FitsNumber c.term) × FitsVote c.vote) × FitsNumber c.keep) × FitsCounted (FitsEntry fits body) c.entries

  -- a change at the front of an input
  unfoldable pub change_taken : Reading B → Reading (ChangeParts B)
  change_taken body = through change_of (both numbers_taken (counted (entry_taken body)))

  -- a change needs memory only for its entries
  abbrev pub wants_change : Wants → Reading B → Wants
  wants_change wants body = wants_both never numbers_taken (wants_counted (wants_entry wants body) (entry_taken body))

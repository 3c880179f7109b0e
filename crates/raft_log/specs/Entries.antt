-- Entries as bytes.
use Rattle.std.specs.Prelude.{ℕ, List, ◌++◌}
use Rattle.wire_bytes.specs.Fields.{Reading, both, through}
use Rattle.wire_bytes.specs.Values.{spelled_number, FitsNumber, number}
use Rattle.wire_bytes.specs.Wants.{Wants, never, wants_both}
use Rattle.raft_log.specs.declared.entry.Entry.{Entry}
use Rattle.raft_log.specs.Spellings.{measured, spelled_measured, FitsMeasured, wants_measured}

module _ {B : Type 0} where
  -- a term and a body make an entry
  abbrev pub entry_of : ℕ × B → Entry B
  entry_of p = record { term = p.0; body = p.1 }

  -- a term, and a body after its length
  unfoldable pub spelled_entry : (B → List ℕ) → Entry B → List ℕ
  spelled_entry body e = spelled_number e.term ++ spelled_measured body e.body

  -- both fit
  abbrev pub FitsEntry : (B → Type 0) → (B → List ℕ) → Entry B → Type 0
  FitsEntry fits body e = FitsNumber e.term × FitsMeasured fits body e.body

  -- an entry at the front of an input
  unfoldable pub entry_taken : Reading B → Reading (Entry B)
  entry_taken body = through entry_of (both number (measured body))

-- an entry needs memory only for its body
abbrev pub wants_entry : {B : Type 0} → Wants → Reading B → Wants
wants_entry wants body = wants_both never number (wants_measured wants body)

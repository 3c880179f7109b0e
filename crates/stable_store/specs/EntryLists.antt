-- Lists of entries as bytes.
use Rattle.std.specs.Prelude.{◌≡◌, ◌≢◌, ℕ, List, drop, Err, IsTrue}
use Rattle.wire_bytes.specs.declared.wire_fault.WireFault.{WireFault}
use Rattle.wire_bytes.specs.declared.wire_fault.WireFault.TheVariants.{Memory}
use Rattle.wire_bytes.specs.Fields.{Reading, behind}
use Rattle.wire_bytes.specs.Wants.{Wants}
use Rattle.raft_log.specs.declared.entry.Entry.{Entry}
use Rattle.raft_log.specs.Entries.{entry_taken, spelled_entry, wants_entry}
use Rattle.stable_store.specs.Lists.{many, spelled_all, wants_many}

module _ {B : Type 0} where
  -- each entry in turn
  abbrev pub spelled_entries : (B → List ℕ) → List (Entry B) → List ℕ
  spelled_entries body = spelled_all (spelled_entry body)

  -- this many entries after this many bytes
  abbrev pub entries_at : Reading B → ℕ → ℕ → Reading (List (Entry B))
  entries_at body count place = behind place (many count (entry_taken body))

  -- why this many entries were not read: what is wrong with them, or memory, where they may need it
  pub record IsRefusal (wants : Wants) (body : Reading B) (count place : ℕ) (input : List ℕ) (e : WireFault) : Type 0 where
    pub fault : e ≢ Memory → entries_at body count place input ≡ Err e
    pub memory : e ≡ Memory → IsTrue (wants_many count (wants_entry wants body) (entry_taken body) (drop place input))

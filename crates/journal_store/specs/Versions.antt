-- Journals of both versions are read alike.
use Rattle.std.specs.Prelude.{◌≡◌, ℕ, List, ◌++◌}
use Rattle.wire_bytes.specs.Fields.{Reading}
use Rattle.stable_store.specs.Stores.{nothing_saved}
use Rattle.journal_store.specs.Journals.{found, name, older_version, version}
use Rattle.journal_store.specs.Payloads.{payloads}

-- a file stands for the same, or is refused in the same way, whichever version follows its name
abbrev pub AreReadAlike : {B : Type 0} → Reading B → Type 0
AreReadAlike body = (behind : List ℕ) → found (payloads body) nothing_saved (name ++ (older_version ++ behind)) ≡ found (payloads body) nothing_saved (name ++ (version ++ behind))

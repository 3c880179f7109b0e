-- The header of a journal of the older version, which is replaced by that of the newer one.
use Rattle.std.specs.Prelude.{◌≡◌, ℕ, List, ◌++◌, if◌then◌else◌, drop}
use Rattle.wire_bytes.specs.Fields.{Reading}
use Rattle.stable_store.specs.Stores.{nothing_saved}
use Rattle.journal_store.specs.Journals.{begins, found, header, name, older_version}
use Rattle.journal_store.specs.Payloads.{payloads}

-- what a journal begins with if it was made before clients had names
abbrev pub older_header : List ℕ
older_header = name ++ older_version

-- a file that began with the older header begins with the newer one, and the rest is unchanged
abbrev pub renewed : List ℕ → List ℕ
renewed bytes = if begins older_header bytes then header ++ drop 8 bytes else bytes

-- a file whose header is renewed stands for what it did, or is refused as it was
abbrev pub AreReadAsBefore : {B : Type 0} → Reading B → Type 0
AreReadAsBefore body = (bytes : List ℕ) → found (payloads body) nothing_saved (renewed bytes) ≡ found (payloads body) nothing_saved bytes

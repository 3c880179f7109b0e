-- The file of a store's setup.
use Rattle.std.specs.Prelude.{◌-◌, ◌==◌, ◌||◌, ℕ, Bool, if◌then◌else◌, List, [], ◌∷◌, ◌++◌, codes, drop, length, nat_lt, take, Option, None, Some, Result, Ok, Err}
use Rattle.sha2.specs.Sha256.{sha256}
use Rattle.irc_line.specs.Names.{same_bytes}
use Rattle.wire_bytes.specs.declared.wire_fault.WireFault.{WireFault}
use Rattle.wire_bytes.specs.Fields.{Reading, both, byte_within, only}
use Rattle.wire_bytes.specs.Values.{FitsNumber, number, spelled_number}
use Rattle.buffer_commands.specs.Settings.{Settings}
use Rattle.raft_log.specs.Peers.{IsGroupSize}
use Rattle.setup_spelling.specs.Spelling.{FitsSetup, setup_taken, spelled_setup}
use Rattle.store_setup.specs.declared.store_setup.StoreSetup.{StoreSetup}
use Rattle.store_setup.specs.declared.fault.SetupFileFault.{SetupFileFault}
use Rattle.store_setup.specs.declared.fault.SetupFileFault.TheVariants.{NotASetup, Version, Damaged}
use Rattle.store_setup.specs.declared.file.Form.{Form}
use Rattle.store_setup.specs.declared.file.Form.TheVariants.{Nameless, Named}

-- the limit of a store's name, if it has one
abbrev pub FitsName : Option ℕ → Type 0
FitsName None = Unit {0}
FitsName (Some name) = FitsNumber name

-- the limits of every store's setup
abbrev pub FitsStore : StoreSetup → Type 0
FitsStore s = ((IsGroupSize s.nodes × FitsNumber s.renewals) × FitsName s.name) × FitsSetup s.setup

-- what the file begins with: the mark, and the version of its form
abbrev pub mark : List ℕ
mark = codes "RBSETU"

-- the older form is for a store without a name
abbrev pub header_of : Form → List ℕ
header_of Nameless = codes "RBSETU01"
header_of Named = codes "RBSETU02"

-- The header is followed by the number of nodes in one byte, how often the log was renewed in eight, the name in eight,
-- if there is one, and the setup

-- a number of nodes that a group may have
abbrev pub is_group_size : ℕ → Bool
is_group_size n = n == 3 || (n == 5 || n == 7)

-- the number in one byte
unfoldable pub nodes_taken : Reading ℕ
nodes_taken = only is_group_size (byte_within 3 7)

-- these fields in their order, without a name and with one
abbrev pub Fields : Type 0
Fields = (ℕ × ℕ) × Settings

abbrev pub NamedFields : Type 0
NamedFields = ((ℕ × ℕ) × ℕ) × Settings

-- the fields at the front of an input
abbrev pub fields_taken : Reading Fields
fields_taken = both (both nodes_taken number) setup_taken

abbrev pub named_fields_taken : Reading NamedFields
named_fields_taken = both (both (both nodes_taken number) number) setup_taken

-- the fields as bytes
abbrev pub spelled_fields : Fields → List ℕ
spelled_fields f = (f.0.0 ∷ [] ++ spelled_number f.0.1) ++ spelled_setup f.1

abbrev pub spelled_named_fields : NamedFields → List ℕ
spelled_named_fields f = ((f.0.0.0 ∷ [] ++ spelled_number f.0.0.1) ++ spelled_number f.0.1) ++ spelled_setup f.1

-- the setup of a store with these fields
abbrev pub store_of : Fields → StoreSetup
store_of f = record { nodes = f.0.0; renewals = f.0.1; name = None; setup = f.1 }

abbrev pub named_store_of : NamedFields → StoreSetup
named_store_of f = record { nodes = f.0.0.0; renewals = f.0.0.1; name = Some f.0.1; setup = f.1 }

-- They are followed by the SHA-256 digest of all before

-- the digest that follows these fields
abbrev pub digest_of : Form → List ℕ → List ℕ
digest_of form fields = sha256 (header_of form ++ fields)

-- the header, fields and their digest
abbrev pub sealed : Form → List ℕ → List ℕ
sealed form fields = header_of form ++ (fields ++ digest_of form fields)

-- the file of a store's setup, by whether it has a name
abbrev pub spelling_by : Option ℕ → StoreSetup → List ℕ
spelling_by None s = sealed Nameless (spelled_fields ((s.nodes, s.renewals), s.setup))
spelling_by (Some name) s = sealed Named (spelled_named_fields (((s.nodes, s.renewals), name), s.setup))

abbrev pub spelling : StoreSetup → List ℕ
spelling s = spelling_by s.name s

-- Reading

-- the setup of the fields that were read from this many bytes, which must be all of them
abbrev pub whole : {X : Type 0} → (X → StoreSetup) → ℕ → Result (X × ℕ) WireFault → Result StoreSetup SetupFileFault
whole make len (Ok r) = if nat_lt r.1 len then Err Damaged else Ok (make r.0)
whole make len (Err e) = Err Damaged

-- the setup that these bytes spell without header and digest
abbrev pub fields_read : Form → List ℕ → Result StoreSetup SetupFileFault
fields_read Nameless fields = whole store_of (length fields) (fields_taken fields)
fields_read Named fields = whole named_store_of (length fields) (named_fields_taken fields)

-- the same, if this is their digest
abbrev pub checked : Form → List ℕ → List ℕ → Result StoreSetup SetupFileFault
checked form fields digest = if same_bytes digest (digest_of form fields) then fields_read form fields else Err Damaged

-- the setup that follows the header: the last 32 bytes are the digest
abbrev pub judged : Form → List ℕ → Result StoreSetup SetupFileFault
judged form rest = checked form (take (length rest - 32) rest) (drop (length rest - 32) rest)

-- the setup after an unknown header
abbrev pub unknown : List ℕ → Result StoreSetup SetupFileFault
unknown header = if same_bytes (take 6 header) mark then Err Version else Err NotASetup

-- the setup after this header
abbrev pub headed : List ℕ → List ℕ → Result StoreSetup SetupFileFault
headed header rest =
    if same_bytes header (header_of Named)
    then judged Named rest
    else (if same_bytes header (header_of Nameless) then judged Nameless rest else unknown header)

-- the setup in a file, or why there is none
abbrev pub stored : List ℕ → Result StoreSetup SetupFileFault
stored bytes = if nat_lt (length bytes) 8 then Err NotASetup else headed (take 8 bytes) (drop 8 bytes)

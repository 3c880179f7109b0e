-- Names, texts and lines as bytes: a length in two bytes and that many bytes, which are one field.
use Rattle.std.specs.Prelude.{ℕ, ◌+◌, ◌≤◌, Bool, if◌then◌else◌, nat_lt, List, ◌++◌, length, take, drop, Option, Some, None, IsTrue, Result, Ok, Err}
use Rattle.std.specs.Int.{w16, to_be_bytes, from_be_bytes}
use Rattle.irc_line.specs.Names.{is_name, is_text}
use Rattle.irc_line.specs.Lines.{Parts, is_line, spelling}
use Rattle.irc_line.specs.Reading.{canonical, judged}
use Rattle.wire_bytes.specs.declared.wire_fault.WireFault.{WireFault}
use Rattle.wire_bytes.specs.declared.wire_fault.WireFault.TheVariants.{Short, Bad}
use Rattle.wire_bytes.specs.Fields.{Reading}
use Rattle.irc_line.specs.Limits.{line_limit}

-- the length in two bytes, and the bytes
unfoldable pub sized : List ℕ → List ℕ
sized bytes = to_be_bytes w16 (length bytes) ++ bytes

-- this many bytes after the length, once they are there
abbrev pub sized_bytes_of : ℕ → List ℕ → Result (List ℕ) WireFault
sized_bytes_of n input = if nat_lt (length input) (2 + n) then Err Short else Ok (take n (drop 2 input))

-- the bytes that the length announces, once they are there
unfoldable pub sized_bytes : List ℕ → Result (List ℕ) WireFault
sized_bytes input = if nat_lt (length input) 2 then Err Short else sized_bytes_of (from_be_bytes w16 (take 2 input)) input

-- the value of this many bytes, if they are one
abbrev pub accepted : {X : Type 0} → ℕ → Option X → Result (X × ℕ) WireFault
accepted n None = Err (Bad 0)
accepted n (Some v) = Ok (v, 2 + n)

-- the bytes are judged as a whole
abbrev pub accepted_bytes : {X : Type 0} → (List ℕ → Option X) → Result (List ℕ) WireFault → Result (X × ℕ) WireFault
accepted_bytes judge (Ok bytes) = accepted (length bytes) (judge bytes)
accepted_bytes judge (Err e) = Err e

-- a length and as many bytes, judged once they are there
abbrev pub content : {X : Type 0} → (List ℕ → Option X) → Reading X
content judge input = accepted_bytes judge (sized_bytes input)

-- the bytes, where they pass this test
abbrev pub passed : (List ℕ → Bool) → List ℕ → Option (List ℕ)
passed test bytes = if test bytes then Some bytes else None

-- a name of a channel or of a nick
unfoldable pub name : Reading (List ℕ)
name = content (passed is_name)

-- a text of at most 510 bytes
unfoldable pub text : Reading (List ℕ)
text = content (passed is_text)

-- a line whose canonical spelling has at most 511 bytes
abbrev pub FitsLine : Parts → Type 0
FitsLine p = IsTrue (is_line p) × (length (spelling p) ≤ line_limit)

-- the canonical spelling, after its length
unfoldable pub spelled_line : Parts → List ℕ
spelled_line p = sized (spelling p)

-- a line in its canonical spelling; any other spelling of it is refused
unfoldable pub line : Reading Parts
line = content (λ bytes. canonical bytes (judged bytes))

-- The value that a text has.
use Rattle.std.specs.Prelude.{◌≡◌, ℕ, ◌<◌, IsTrue, ◌^◌, List, Option, Some, None}
use Rattle.hex.specs.Hex.{IsBytes, encode_lower}
use Rattle.irc_line.specs.Names.{is_name}
use Rattle.raft_log.specs.Lists.{IsNode}
use Rattle.recorder.specs.EventText.{node_and, number_and}

-- the value is within its limits and has this text, or there is no such value
abbrev pub ReadsAs : {A : Type 0} → (A → List ℕ) → (A → Type 0) → List ℕ → Option A → Type 0
ReadsAs text fits bytes (Some a) = fits a × (text a ≡ bytes)
ReadsAs {A} text fits bytes None = (a : A) → fits a → text a ≡ bytes → ⊥

-- the number fits into eight bytes
abbrev pub IsWord : ℕ → Type 0
IsWord n = n < 2 ^ 64

-- a node and what follows it
abbrev pub node_text : ℕ × List ℕ → List ℕ
node_text p = node_and p.0 p.1

-- the node is one of a group, from 1 to 7
abbrev pub NodeFits : ℕ × List ℕ → Type 0
NodeFits p = IsNode p.0

-- a number and what follows it
abbrev pub number_text : ℕ × List ℕ → List ℕ
number_text p = number_and p.0 p.1

-- the number fits into eight bytes
abbrev pub NumberFits : ℕ × List ℕ → Type 0
NumberFits p = IsWord p.0

-- the digits of a value's spelling
abbrev pub digits_of : {B : Type 0} → (B → List ℕ) → B → List ℕ
digits_of spelled body = encode_lower (spelled body)

-- it has a spelling, of bytes
abbrev pub FitsDigits : {B : Type 0} → (B → Type 0) → (B → List ℕ) → B → Type 0
FitsDigits fits spelled body = fits body × IsBytes (spelled body)

-- a text that is the value itself
abbrev pub own_text : List ℕ → List ℕ
own_text bytes = bytes

-- the text is a name, such as a nick or a channel's
abbrev pub IsNameText : List ℕ → Type 0
IsNameText bytes = IsTrue (is_name bytes)

-- What reading does to the bytes of a reader, and what a fault says about an input.
use Rattle.std.specs.Prelude.{◌≡◌, ◌≢◌, ℕ, ◌<◌, ◌≤◌, List, length, take, Option, Some, None, IfSome, Result, Ok, Err, MatchResult}
use Rattle.std.specs.IoError.{error_kind}
use Rattle.std.specs.declared.io.Error.{Error}
use Rattle.std.specs.declared.io.ErrorKind.{ErrorKind}
use Rattle.std.specs.declared.io.ErrorKind.TheVariants.{Interrupted}
use Rattle.std.specs.Io.KnownBytes.{Keeps, Consumes, IsAtEnd}
use Rattle.whole_input.specs.declared.input.TheConstants.{MOST_BYTES, PIECE_LENGTH}
use Rattle.whole_input.specs.declared.read_fault.ReadFault.{ReadFault}
use Rattle.whole_input.specs.declared.read_fault.ReadFault.TheVariants.{Read}

-- the most bytes that an input may have
abbrev pub most_bytes : ℕ
most_bytes = MOST_BYTES

-- how many bytes are read at once
abbrev pub piece_length : ℕ
piece_length = PIECE_LENGTH

-- an input of more bytes, as far as its bytes are known
abbrev pub IsTooLong : Option (List ℕ) → Type 0
IsTooLong remaining = IfSome remaining (λ bytes. most_bytes < length bytes)

-- an input within the limit, as far as its bytes are known
abbrev pub IsWithin : Option (List ℕ) → Type 0
IsWithin remaining = IfSome remaining (λ bytes. length bytes ≤ most_bytes)

-- the result of an error: no bytes if it is an interruption and nothing else, a fault if it is another
abbrev pub IsErrorJudged : ErrorKind → Result (Option ℕ) ReadFault → Type 0
IsErrorJudged kind judged = (kind ≡ Interrupted → judged ≡ Ok None) × (kind ≢ Interrupted → judged ≡ Err Read)

-- the result of one read: as many bytes as came, or the result of its error
abbrev pub IsReadJudged : Result ℕ Error → Result (Option ℕ) ReadFault → Type 0
IsReadJudged outcome judged = MatchResult outcome (λ n. judged ≡ Ok (Some n)) (λ e. IsErrorJudged (error_kind e) judged)

-- none came if the read was interrupted; zero bytes came only at the end
abbrev pub ReadGives : Option (List ℕ) → Option (List ℕ) → Option ℕ → List ℕ → Type 0
ReadGives old new None chunk = Keeps old new
ReadGives old new (Some n) chunk = (n ≤ length chunk) × Consumes old new (take n chunk) × (n ≡ 0 → 0 < length chunk → IsAtEnd new)

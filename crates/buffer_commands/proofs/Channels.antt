-- What is read as the name of a channel, by the bytes that a length announces.
use Rattle.std.proofs.Common.{◌≡◌, ℕ, ◌+◌, Bool, true, false, List, [], length, Result, Ok, Err, Some, None, IsTrue, refl, ap, sym, ◌∙◌}
use Rattle.std.specs.Prelude.{if◌then◌else◌}
use Rattle.irc_line.proofs.Booleans.{and_left}
use Rattle.irc_line.specs.Names.{is_name, is_channel}
use Rattle.wire_bytes.specs.declared.wire_fault.WireFault.{WireFault}
use Rattle.wire_bytes.specs.declared.wire_fault.WireFault.TheVariants.{Bad}
use Rattle.wire_bytes.specs.Fields.{only, tested}
use Rattle.wire_bytes.specs.Contents.{sized_bytes, accepted, accepted_bytes, passed, name}
use Rattle.buffer_commands.specs.Spellings.{channel_name}

abbrev name_of : List ℕ → Bool → Result (List ℕ × ℕ) WireFault
name_of bytes b = accepted (length bytes) (if b then Some bytes else None)

judged_by : (bytes : List ℕ) (b c : Bool) → is_name bytes ≡ b → is_channel bytes ≡ c → tested is_channel (name_of bytes b) ≡ (if c then Ok (bytes, 2 + length bytes) else Err (Bad 0))
unfolding is_channel
judged_by bytes true c e f = rw f refl
judged_by bytes false true e f = absurd (let g = rw e at f in cc)
judged_by bytes false false e f = refl

name_read : (input bytes : List ℕ) → sized_bytes input ≡ Ok bytes → name input ≡ name_of bytes (is_name bytes)
unfolding name
name_read input bytes e = ap (λ r. accepted_bytes (passed is_name) r) e

read_as : (input bytes : List ℕ) → sized_bytes input ≡ Ok bytes → channel_name input ≡ (if is_channel bytes then Ok (bytes, 2 + length bytes) else Err (Bad 0))
unfolding channel_name only
read_as input bytes e = ap (λ r. tested is_channel r) (name_read input bytes e) ∙ judged_by bytes (is_name bytes) (is_channel bytes) refl refl

pub stops : (input : List ℕ) (e : WireFault) → sized_bytes input ≡ Err e → channel_name input ≡ Err e
unfolding channel_name only name
stops input e h = ap (λ r. tested is_channel (accepted_bytes (passed is_name) r)) h

pub refused : (input bytes : List ℕ) → sized_bytes input ≡ Ok bytes → is_channel bytes ≡ false → channel_name input ≡ Err (Bad 0)
refused input bytes e h = rw h at (read_as input bytes e)

pub given : (input bytes : List ℕ) → sized_bytes input ≡ Ok bytes → is_channel bytes ≡ true → channel_name input ≡ Ok (bytes, 2 + length bytes)
given input bytes e h = rw h at (read_as input bytes e)

named : (bytes : List ℕ) → is_channel bytes ≡ true → is_name bytes ≡ true
unfolding is_channel
named bytes h = and_left (is_name bytes) _ h

pub named_given : (input bytes : List ℕ) → sized_bytes input ≡ Ok bytes → is_channel bytes ≡ true → name input ≡ Ok (bytes, 2 + length bytes)
named_given input bytes e h = rw (named bytes h) at (name_read input bytes e)

value_of : Result (List ℕ × ℕ) WireFault → List ℕ
value_of (Ok r) = r.0
value_of (Err e) = []

same_given : (v bytes : List ℕ) (n m : ℕ) → (let r : Result (List ℕ × ℕ) WireFault = Ok (v, n) in r ≡ Ok (bytes, m)) → v ≡ bytes
unfolding value_of
same_given v bytes n m e = ap value_of e

-- a name that is read as a channel's name is one
pub channel_given : (input bytes v : List ℕ) (n : ℕ) → sized_bytes input ≡ Ok bytes → is_channel bytes ≡ true → name input ≡ Ok (v, n) → IsTrue (is_channel v)
channel_given input bytes v n e h g = rw (same_given v bytes n (2 + length bytes) (sym g ∙ named_given input bytes e h)) h

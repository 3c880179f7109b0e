-- Bodies and lines as words.
use Rattle.std.proofs.Common.{◌≡◌, ◌≢◌, ℕ, ◌<◌, Bool, true, false, cond, List, [], length, Result, Ok, Err, refl, sym, ap, subst, ◌∙◌, arith}
use Rattle.std.specs.Prelude.{Option, Some, None, IfOk, MatchOption}
use Rattle.std.proofs.lemmas.List.{append-nil, take_all}
use Rattle.hex.specs.Hex.{IsBytes, decode_of, encode_lower}
use Rattle.hex.proofs.HexLemmas.{decode_of-encode_lower, decode_of-ok}
use Rattle.hex.specs.declared.error.FromHexError.{FromHexError}
use Rattle.irc_line.specs.Lines.{Parts, spelling}
use Rattle.irc_line.specs.Reading.{IsShort, canonical, judged}
use Rattle.irc_line.proofs.Canonical.{spelling_judged}
use Rattle.irc_line.proofs.SameBytes.{same_bytes-refl, same_bytes-eq}
use Rattle.irc_line.specs.Names.{same_bytes}
use Rattle.irc_line.specs.declared.fault.LineFault.{LineFault}
use Rattle.wire_bytes.specs.Codecs.{IsCodec}
use Rattle.wire_bytes.specs.Contents.{FitsLine}
use Rattle.wire_bytes.specs.Fields.{AreBytes, Reading}
use Rattle.wire_bytes.specs.LineCodec.{line_fits}
use Rattle.wire_bytes.specs.declared.wire_fault.WireFault.{WireFault}
use Rattle.recorder.specs.Readings.{FitsDigits, ReadsAs, digits_of}

-- the spelling of a line is read as that line
read_back : (bytes : List ℕ) (p : Parts) → FitsLine p → spelling p ≡ bytes → canonical bytes (judged bytes) ≡ Some p
read_back bytes p h e =
    subst (λ (b : List ℕ). canonical b (judged b) ≡ Some p) e
    (ap (canonical (spelling p)) (spelling_judged p h.0 h.1) ∙ ap (λ (b : Bool). cond b (Some p) None) (same_bytes-refl (spelling p)))

judged_by : (bytes : List ℕ) (q p : Parts) (b : Bool) → same_bytes (spelling q) bytes ≡ b → cond b (Some q) None ≡ Some p → (q ≡ p) × (spelling q ≡ bytes)
judged_by bytes q p true h e = (cc, same_bytes-eq (spelling q) bytes h)
judged_by bytes q p false h e = absurd cc

-- what is read fits, and has this spelling
read_fits : (bytes : List ℕ) (r : Result Parts LineFault) (p : Parts) → judged bytes ≡ r → canonical bytes r ≡ Some p → FitsLine p × (spelling p ≡ bytes)
read_fits bytes (Ok q) p is e =
    let j = judged_by bytes q p (same_bytes (spelling q) bytes) refl e in
    subst (λ (x : Parts). FitsLine x × (spelling x ≡ bytes)) j.0 (line_fits bytes q is, j.1)
read_fits bytes (Err d) p is e = absurd cc

too_long : (bytes : List ℕ) (line p : Parts) → canonical bytes (judged bytes) ≡ Some line → 511 < length (spelling line) → FitsLine p → spelling p ≡ bytes → ⊥
too_long bytes line p e h fits s =
    let back : canonical bytes (judged bytes) ≡ Some p = read_back bytes p fits s in
    let same : line ≡ p = cc in
    omega (arith, h, fits.1, ap (λ (x : Parts). length (spelling x)) same)

-- the line that is read, if it is not too long
pub line_read : (bytes : List ℕ) (line : Parts) (r : Option Parts) → canonical bytes (judged bytes) ≡ Some line
    → MatchOption r (511 < length (spelling line)) (λ l. (l ≡ line) × IsShort line) → ReadsAs spelling FitsLine bytes r
line_read bytes line (Some l) e h = subst (λ (p : Parts). FitsLine p × (spelling p ≡ bytes)) (sym h.0) (read_fits bytes (judged bytes) line refl e)
line_read bytes line None e h = λ p fits s. too_long bytes line p e h fits s

-- bytes that are read as no line are no line's spelling
pub no_line : (bytes : List ℕ) → canonical bytes (judged bytes) ≡ None → (p : Parts) → FitsLine p → spelling p ≡ bytes → ⊥
no_line bytes e p fits s = let back : canonical bytes (judged bytes) ≡ Some p = read_back bytes p fits s in absurd cc

-- Over a codec
module _ {X : Type 0} (spelled : X → List ℕ) (fits : X → Type 0) (taken : Reading X) (codec : IsCodec spelled fits taken) where
  taken_back : (bytes : List ℕ) (v : X) → fits v → spelled v ≡ bytes → taken bytes ≡ Ok (v, length bytes)
  taken_back bytes v h e =
      subst (λ (b : List ℕ). taken b ≡ Ok (v, length b)) e
      (subst (λ (b : List ℕ). taken b ≡ Ok (v, length (spelled v))) (append-nil (spelled v)) (codec.read_back v [] h))

  -- what is read to the end fits, and has this spelling
  pub whole_is : (bytes : List ℕ) (v : X) (n : ℕ) → AreBytes bytes → taken bytes ≡ Ok (v, n) → n ≡ length bytes → fits v × (spelled v ≡ bytes)
  whole_is bytes v n are e same =
      let one = codec.one_spelling bytes v n are e in
      (one.0, sym one.1 ∙ take_all n bytes (omega (arith, same)))

  -- what is read to another place is no value's spelling
  pub not_whole : (bytes : List ℕ) (v : X) (n : ℕ) → taken bytes ≡ Ok (v, n) → n ≢ length bytes → (w : X) → fits w → spelled w ≡ bytes → ⊥
  not_whole bytes v n e other w h s =
      let back : taken bytes ≡ Ok (w, length bytes) = taken_back bytes w h s in
      let pair : (v, n) ≡ (w, length bytes) = cc in
      other (ap (λ (p : X × ℕ). p.1) pair)

  -- nor is what is refused
  pub refused_whole : (bytes : List ℕ) (fault : WireFault) → taken bytes ≡ Err fault → (w : X) → fits w → spelled w ≡ bytes → ⊥
  refused_whole bytes fault e w h s = let back : taken bytes ≡ Ok (w, length bytes) = taken_back bytes w h s in absurd cc

-- Over a spelling in digits
module _ {X : Type 0} (spelled : X → List ℕ) (fits : X → Type 0) where
  digits_back : (digits : List ℕ) (v : X) → FitsDigits fits spelled v → digits_of spelled v ≡ digits → decode_of digits ≡ Ok (spelled v)
  digits_back digits v h e = subst (λ (d : List ℕ). decode_of d ≡ Ok (spelled v)) e (decode_of-encode_lower (spelled v) h.1)

  -- digits that do not decode are no value's digits
  pub no_digits : (digits : List ℕ) (fault : FromHexError) → decode_of digits ≡ Err fault → (v : X) → FitsDigits fits spelled v → digits_of spelled v ≡ digits → ⊥
  no_digits digits fault e v h s = let back = digits_back digits v h s in absurd cc

  -- nor are digits that are written in another way
  pub other_digits : (digits bytes : List ℕ) → decode_of digits ≡ Ok bytes → encode_lower bytes ≢ digits → (v : X) → FitsDigits fits spelled v → digits_of spelled v ≡ digits → ⊥
  other_digits digits bytes e other v h s =
      let back = digits_back digits v h s in
      let same : bytes ≡ spelled v = cc in
      other (ap encode_lower same ∙ s)

  bytes_are : (digits bytes : List ℕ) (v : X) → decode_of digits ≡ Ok bytes → FitsDigits fits spelled v → digits_of spelled v ≡ digits → spelled v ≡ bytes
  bytes_are digits bytes v e h s = let back = digits_back digits v h s in cc

  -- reading the bytes reads the digits
  pub digits_read : {E : Type 0} (digits bytes : List ℕ) (r : Result (Option X) E) → decode_of digits ≡ Ok bytes → encode_lower bytes ≡ digits
      → IfOk r (ReadsAs spelled fits bytes) → IfOk r (ReadsAs (digits_of spelled) (FitsDigits fits spelled) digits)
  digits_read digits bytes (Err fault) e is h = tt
  digits_read digits bytes (Ok (Some v)) e is h =
      let are : IsBytes bytes = (decode_of-ok digits bytes e).3 in
      ((h.0, subst (λ (b : List ℕ). IsBytes b) (sym h.1) are), ap encode_lower h.1 ∙ is)
  digits_read digits bytes (Ok None) e is h = λ v fit s. h v fit.0 (bytes_are digits bytes v e fit s)

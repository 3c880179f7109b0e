-- A line is a codec. These are lemmas; nothing here has to be trusted.
use Rattle.std.proofs.Common.{length, ◌≡◌, ◌<◌, ℕ, Bool, true, false, cond, List, Some, None, Result, Ok, Err, refl, sym, ap, ◌∙◌, arith}
use Rattle.irc_line.specs.Names.{same_bytes}
use Rattle.irc_line.specs.Lines.{Parts, spelling}
use Rattle.irc_line.specs.Reading.{canonical, judged}
use Rattle.irc_line.specs.declared.fault.LineFault.{LineFault}
use Rattle.irc_line.proofs.Judging.{judged_line, judged_is}
use Rattle.irc_line.proofs.Canonical.{spelling_judged}
use Rattle.wire_bytes.specs.Contents.{FitsLine, spelled_line, line}
use Rattle.wire_bytes.specs.Codecs.{IsCodec}
use Rattle.wire_bytes.specs.ContentCodecs.{content-codec, sized_some}
use Rattle.irc_line.proofs.SameBytes.{same_bytes-refl, same_bytes-eq}

-- the result of a content that is read as these parts of a line
abbrev read_as : Parts → Result Parts LineFault
read_as p = Ok p

canonical_by : (bytes : List ℕ) (q p : Parts) (b : Bool) → same_bytes (spelling q) bytes ≡ b → cond b (Some q) None ≡ Some p → (q ≡ p) × (bytes ≡ spelling q)
canonical_by bytes q p true h e = (cc, sym (same_bytes-eq (spelling q) bytes h))
canonical_by bytes q p false h e = absurd cc

canonical_is : (bytes : List ℕ) (r : Result Parts LineFault) (p : Parts) → canonical bytes r ≡ Some p → (r ≡ Ok p) × (bytes ≡ spelling p)
canonical_is bytes (Ok q) p e =
    let c = canonical_by bytes q p (same_bytes (spelling q) bytes) refl e in
    (ap (λ (x : Parts). read_as x) c.0, c.1 ∙ ap spelling c.0)
canonical_is bytes (Err d) p e = absurd cc

-- a line's spelling is never empty
pub line_some : (p : Parts) → 0 < length (spelled_line p)
unfolding spelled_line
line_some p = sized_some (spelling p)

-- a line that was read fits
pub line_fits : (content : List ℕ) (p : Parts) → judged content ≡ Ok p → FitsLine p
line_fits content p h = (judged_line content p h, (judged_is content p h).spelled_short)

pub line_is_codec : IsCodec spelled_line FitsLine line
unfolding line spelled_line
line_is_codec =
    content-codec spelling FitsLine (λ bytes. canonical bytes (judged bytes))
    (λ p h. omega (arith, h.1))
    (λ p h. ap (canonical (spelling p)) (spelling_judged p h.0 h.1) ∙ ap (λ (b : Bool). cond b (Some p) None) (same_bytes-refl (spelling p)))
    (λ bytes p e. let c = canonical_is bytes (judged bytes) p e in (line_fits bytes p c.0, c.1))

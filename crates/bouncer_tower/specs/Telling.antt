-- Which bodies are marks, and that the tower recognizes them. The theorems here need not be
-- trusted.
use Rattle.std.proofs.Common.{◌≡◌, ◌↔◌, Option, Some, None, sym, ap, ◌∙◌}
use Rattle.wire_bytes.specs.declared.mark.Mark.{Mark}
use Rattle.machine_laws.specs.Marks.{IsBodyOf}
use Rattle.request_once.specs.declared.body.Body.{Body}
use Rattle.request_once.specs.declared.body.Body.TheVariants.{Inner, Asked, Blank, Mark as MarkOf}

-- the mark of a request's body, if the body is a mark
abbrev pub mark_in : {C A : Type 0} → Body C A → Option Mark
mark_in (Inner c) = None
mark_in (Asked o n at a) = None
mark_in Blank = None
mark_in (MarkOf m) = Some m

module _ {C A : Type 0} where
  one_mark : (m other : Mark) → (let b : Body C A = MarkOf m in b ≡ MarkOf other) → other ≡ m
  one_mark m other e = let same : m ≡ other = cc e in sym same

  pub tower_tells : (b : Body C A) (m : Mark) → (mark_in b ≡ Some m) ↔ IsBodyOf MarkOf b m
  tower_tells (Inner c) m = (λ e. absurd (cc e), λ h. absurd (let e : Inner c ≡ MarkOf m = h.0 in cc e))
  tower_tells (Asked o n at a) m = (λ e. absurd (cc e), λ h. absurd (let e : Asked o n at a ≡ MarkOf m = h.0 in cc e))
  tower_tells Blank m = (λ e. absurd (cc e), λ h. absurd (let e : Blank ≡ MarkOf m = h.0 in cc e))
  tower_tells (MarkOf x) m = (
    λ e. let same : x ≡ m = cc e in (ap MarkOf same, λ other f. one_mark x other f ∙ same),
    λ h. let e : MarkOf x ≡ MarkOf m = h.0 in let same : x ≡ m = cc e in ap Some same,
  )

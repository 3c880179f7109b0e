-- What composed readings return, step by step.
use Rattle.std.proofs.Common.{[], ◌∷◌, Option, Some, None, ◌≡◌, ℕ, ◌+◌, List, drop, Result, Ok, Err, refl, sym, ap, subst, ◌∙◌, arith, zero-add}
use Rattle.std.proofs.lemmas.List.{drop-drop}
use Rattle.wire_bytes.specs.declared.wire_fault.WireFault.{WireFault}
use Rattle.wire_bytes.specs.declared.wire_fault.WireFault.TheVariants.{Short, Bad, Memory}
use Rattle.wire_bytes.specs.Fields.{AreBytes, Reading, done, shifted, moved, behind, goes_on, ◌>>=◌, through, both, reading_of, chosen, choice}
use Rattle.wire_bytes.specs.Codecs.{behind-done, AreBytes-drop}

abbrev at_length : {X : Type 0} → X → ℕ → Result (X × ℕ) WireFault
at_length x n = Ok (x, n)

abbrev bad : {X : Type 0} → ℕ → Result (X × ℕ) WireFault
bad place = Err (Bad place)

abbrev pair : {X Y : Type 0} → X → Y → X × Y
pair x y = (x, y)

moved-none : {X : Type 0} (r : Result (X × ℕ) WireFault) → moved 0 r ≡ r
moved-none {X} (Ok r) = ap (λ (n : ℕ). at_length r.0 n) (zero-add r.1)
moved-none {X} (Err (Bad p)) = ap (λ (n : ℕ). bad {X = X} n) (zero-add p)
moved-none (Err Short) = refl
moved-none (Err Memory) = refl

moved-moved : {X : Type 0} (n k : ℕ) (r : Result (X × ℕ) WireFault) → moved n (moved k r) ≡ moved (n + k) r
moved-moved {X} n k (Ok r) = ap (λ (m : ℕ). at_length r.0 m) (omega arith)
moved-moved {X} n k (Err (Bad p)) = ap (λ (m : ℕ). bad {X = X} m) (omega arith)
moved-moved n k (Err Short) = refl
moved-moved n k (Err Memory) = refl

-- a reading begins at the front
pub behind-none : {X : Type 0} (reading : Reading X) (input : List ℕ) → behind 0 reading input ≡ reading input
unfolding behind
behind-none reading input = moved-none (reading input)

behind-behind : {X : Type 0} (n k : ℕ) (reading : Reading X) (input : List ℕ) → moved n (behind k reading (drop n input)) ≡ behind (n + k) reading input
unfolding behind
behind-behind n k reading input = moved-moved n k (reading (drop k (drop n input))) ∙ ap (λ (t : List ℕ). moved (n + k) (reading t)) (drop-drop k n input)

moved-goes_on : {X Y : Type 0} (n : ℕ) (r : Result (X × ℕ) WireFault) (next : X → Reading Y) (input : List ℕ)
    → moved n (goes_on r (λ x k. behind k (next x) (drop n input))) ≡ goes_on (moved n r) (λ x k. behind k (next x) input)
moved-goes_on n (Ok r) next input = behind-behind n r.1 (next r.0) input
moved-goes_on n (Err (Bad p)) next input = refl
moved-goes_on n (Err Short) next input = refl
moved-goes_on n (Err Memory) next input = refl

-- one after the other, after this many bytes
pub behind-then : {X Y : Type 0} (n : ℕ) (first : Reading X) (next : X → Reading Y) (input : List ℕ) → behind n (first >>= next) input ≡ goes_on (behind n first input) (λ x k. behind k (next x) input)
unfolding behind ◌>>=◌
behind-then n first next input = moved-goes_on n (first (drop n input)) next input

-- what was read, through a constructor
pub through-read : {X Y : Type 0} (make : X → Y) (reading : Reading X) (n : ℕ) (input : List ℕ) (x : X) (m : ℕ) → behind n reading input ≡ Ok (x, m) → behind n (through make reading) input ≡ Ok (make x, m)
unfolding through
through-read make reading n input x m e =
    behind-then n reading (λ a. done (make a)) input ∙ (ap (λ r. goes_on r (λ a k. behind k (done (make a)) input)) e ∙ behind-done m (make x) input)

pub through-stops : {X Y : Type 0} (make : X → Y) (reading : Reading X) (n : ℕ) (input : List ℕ) (e : WireFault) → behind n reading input ≡ Err e → behind n (through make reading) input ≡ Err e
unfolding through
through-stops make reading n input e h = behind-then n reading (λ a. done (make a)) input ∙ ap (λ r. goes_on r (λ a k. behind k (done (make a)) input)) h

-- one was read, and then the other
pub both-read : {X Y : Type 0} (first : Reading X) (second : Reading Y) (n : ℕ) (input : List ℕ) (x : X) (m : ℕ) (y : Y) (k : ℕ)
    → behind n first input ≡ Ok (x, m) → behind m second input ≡ Ok (y, k) → behind n (both first second) input ≡ Ok ((x, y), k)
unfolding both
both-read {X} {Y} first second n input x m y k e f =
    behind-then n first (λ a. through (λ b. pair a b) second) input ∙ (ap (λ r. goes_on r (λ a i. behind i (through (λ b. pair a b) second) input)) e ∙ through-read (λ b. pair x b) second m input y k f)

-- the first one was refused
pub both-stops : {X Y : Type 0} (first : Reading X) (second : Reading Y) (n : ℕ) (input : List ℕ) (e : WireFault) → behind n first input ≡ Err e → behind n (both first second) input ≡ Err e
unfolding both
both-stops first second n input e h = behind-then n first (λ a. through (λ b. pair a b) second) input ∙ ap (λ r. goes_on r (λ a i. behind i (through (λ b. pair a b) second) input)) h

-- the second one was refused
pub both-stops_behind : {X Y : Type 0} (first : Reading X) (second : Reading Y) (n : ℕ) (input : List ℕ) (x : X) (m : ℕ) (e : WireFault)
    → behind n first input ≡ Ok (x, m) → behind m second input ≡ Err e → behind n (both first second) input ≡ Err e
unfolding both
both-stops_behind first second n input x m e h f =
    behind-then n first (λ a. through (λ b. pair a b) second) input ∙ (ap (λ r. goes_on r (λ a i. behind i (through (λ b. pair a b) second) input)) h ∙ through-stops (λ b. pair x b) second m input e f)

-- ---- a reading after this many bytes, by what it returns there

pub behind-read : {X : Type 0} (n : ℕ) (reading : Reading X) (input rest : List ℕ) (x : X) (k : ℕ) → rest ≡ drop n input → reading rest ≡ Ok (x, k) → behind n reading input ≡ Ok (x, n + k)
unfolding behind
behind-read n reading input rest x k at e = ap (λ t. moved n (reading t)) (sym at) ∙ ap (moved n) e

pub behind-stops : {X : Type 0} (n : ℕ) (reading : Reading X) (input rest : List ℕ) (e : WireFault) → rest ≡ drop n input → reading rest ≡ Err e → behind n reading input ≡ Err (shifted n e)
unfolding behind
behind-stops n reading input rest e at h = ap (λ t. moved n (reading t)) (sym at) ∙ ap (moved n) h

pub AreBytes-behind : (n : ℕ) (input rest : List ℕ) → rest ≡ drop n input → AreBytes input → AreBytes rest
AreBytes-behind n input rest at h = subst (λ (t : List ℕ). AreBytes t) (sym at) (AreBytes-drop n input h)

-- ---- a choice by its kind byte

-- the reading that is listed for the kind follows it
pub choice-read : {X : Type 0} (cases : List (ℕ × Reading X)) (input : List ℕ) (kind : ℕ) (reading : Reading X) (r : Result (X × ℕ) WireFault)
    → input ≡ kind ∷ drop 1 input → reading_of kind cases ≡ Some reading → behind 1 reading input ≡ r → choice cases input ≡ r
choice-read {X} cases input kind reading r at listed e =
    ap (choice cases) at ∙ (ap (λ (o : Option (Reading X)). chosen o (kind ∷ drop 1 input)) listed ∙ (ap (behind 1 reading) (sym at) ∙ e))

-- a kind that is not listed is refused
pub choice-refused : {X : Type 0} (cases : List (ℕ × Reading X)) (input : List ℕ) (kind : ℕ) → input ≡ kind ∷ drop 1 input → reading_of kind cases ≡ None → choice cases input ≡ Err (Bad 0)
choice-refused {X} cases input kind at none = ap (choice cases) at ∙ ap (λ (o : Option (Reading X)). chosen o (kind ∷ drop 1 input)) none

-- there is no kind
pub choice-short : {X : Type 0} (cases : List (ℕ × Reading X)) (input : List ℕ) → input ≡ [] → choice cases input ≡ Err Short
choice-short cases input at = ap (choice cases) at

-- the rules that the search needs for a composed reading
pub ruleset composed = (behind-done, through-read, through-stops)

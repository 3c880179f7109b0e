-- A choice by a kind byte is a codec. These are lemmas; nothing here has to be trusted.
use Rattle.std.proofs.Common.{◌≡◌, ℕ, ◌+◌, ◌<◌, ◌≤◌, ◌⊎◌, inl, inr, Bool, true, false, cond, eqb, List, [], ◌∷◌, ◌++◌, length, take, Option, Some, None, Ok, Err, IsTrue, refl, sym, ap, subst, ◌∙◌, arith}
use Rattle.std.specs.Prelude.{is_some}
use Rattle.std.proofs.lemmas.Bool.{eqb-true}
use Rattle.wire_bytes.specs.declared.wire_fault.WireFault.TheVariants.{Bad, Memory}
use Rattle.wire_bytes.specs.Fields.{AreBytes, Reading, behind, reading_of, chosen, choice}
use Rattle.wire_bytes.specs.Codecs.{IsCodec, AreBytes-drop, read, bad_is, behind-memory, behind-ok, behind-bad, behind-front, take-joined}

-- each of the readings is a codec of the values of its kind
abbrev pub AreCases : {X : Type 0} → (X → ℕ) → (X → List ℕ) → (X → Type 0) → List (ℕ × Reading X) → Type 0
AreCases kind body fits [] = Unit {0}
AreCases kind body fits (c ∷ cases) = IsCodec body (λ v. fits v × (kind v ≡ c.0)) c.1 × AreCases kind body fits cases

some_is : {A : Type 0} (a b : A) → ◌≡◌ {A = Option A} (Some a) (Some b) → a ≡ b
some_is a b e = cc

case_by : {X : Type 0} (kind : X → ℕ) (body : X → List ℕ) (fits : X → Type 0) (c : ℕ × Reading X) (others : Option (Reading X)) (k : ℕ) (reading : Reading X) (b : Bool)
    → eqb k c.0 ≡ b → IsCodec body (λ v. fits v × (kind v ≡ c.0)) c.1 → (others ≡ Some reading → IsCodec body (λ v. fits v × (kind v ≡ k)) reading)
    → cond b (Some c.1) others ≡ Some reading → IsCodec body (λ v. fits v × (kind v ≡ k)) reading
case_by {X} kind body fits c others k reading true h here later e =
    let one : IsCodec body (λ v. fits v × (kind v ≡ c.0)) reading = subst (λ (r : Reading X). IsCodec body (λ v. fits v × (kind v ≡ c.0)) r) (some_is c.1 reading e) here in
    subst (λ (n : ℕ). IsCodec body (λ v. fits v × (kind v ≡ n)) reading) (sym (eqb-true k c.0 h)) one
case_by kind body fits c others k reading false h here later e = later e

-- the reading that is listed for a kind
case_of : {X : Type 0} (kind : X → ℕ) (body : X → List ℕ) (fits : X → Type 0) (cases : List (ℕ × Reading X)) (k : ℕ) (reading : Reading X)
    → AreCases kind body fits cases → reading_of k cases ≡ Some reading → IsCodec body (λ v. fits v × (kind v ≡ k)) reading
case_of kind body fits [] k reading codecs e = absurd cc
case_of {X} kind body fits (c ∷ cases) k reading codecs e =
    case_by kind body fits c (reading_of k cases) k reading (eqb k c.0) refl codecs.0 (λ h. case_of kind body fits cases k reading codecs.1 h) e

some_of : {A : Type 0} (o : Option A) → IsTrue (is_some o) → (a : A) × (o ≡ Some a)
some_of None h = absurd cc
some_of (Some a) h = (a, refl)

chosen-ok : {X : Type 0} (o : Option (Reading X)) (input : List ℕ) (v : X) (n : ℕ) → chosen o input ≡ Ok (v, n) → (reading : Reading X) × (o ≡ Some reading) × (behind 1 reading input ≡ Ok (v, n))
chosen-ok None input v n e = absurd cc
chosen-ok (Some reading) input v n e = (reading, refl, e)

chosen-bad : {X : Type 0} (o : Option (Reading X)) (input : List ℕ) (p : ℕ) → chosen o input ≡ Err (Bad p) → (p ≡ 0) ⊎ ((reading : Reading X) × (o ≡ Some reading) × (behind 1 reading input ≡ Err (Bad p)))
chosen-bad {X} None input p e = inl (sym (bad_is {X = X} 0 p e))
chosen-bad (Some reading) input p e = inr (reading, refl, e)

chosen-memory : {X : Type 0} (o : Option (Reading X)) (input : List ℕ) → chosen o input ≡ Err Memory → (reading : Reading X) × (o ≡ Some reading) × (behind 1 reading input ≡ Err Memory)
chosen-memory None input e = absurd cc
chosen-memory (Some reading) input e = (reading, refl, e)

choice_spelled : {X : Type 0} (kind : X → ℕ) (body : X → List ℕ) (fits : X → Type 0) (cases : List (ℕ × Reading X)) → AreCases kind body fits cases
    → (input : List ℕ) (v : X) (n : ℕ) → AreBytes input → choice cases input ≡ Ok (v, n) → fits v × (take n input ≡ kind v ∷ body v) × (n ≤ length input)
choice_spelled kind body fits cases codecs [] v n bytes e = absurd cc
choice_spelled kind body fits cases codecs (k ∷ rest) v n bytes e =
    let c = chosen-ok (reading_of k cases) (k ∷ rest) v n e in
    let b = behind-ok 1 c.0 (k ∷ rest) v n c.2 in
    let codec = case_of kind body fits cases k c.0 codecs c.1 in
    let one = codec.one_spelling rest v b.0 (AreBytes-drop 1 (k ∷ rest) bytes) b.1 in
    let joined : take (1 + b.0) (k ∷ rest) ≡ k ∷ body v = take-joined 1 b.0 (k ∷ rest) (k ∷ []) (body v) refl one.1 in
    (one.0.0, ap (λ (m : ℕ). take m (k ∷ rest)) b.2 ∙ (joined ∙ ap (λ (m : ℕ). m ∷ body v) (sym one.0.1)), omega (arith, one.2, b.2))

choice_bad : {X : Type 0} (kind : X → ℕ) (body : X → List ℕ) (fits : X → Type 0) (cases : List (ℕ × Reading X)) → AreCases kind body fits cases
    → (input : List ℕ) (p : ℕ) → AreBytes input → choice cases input ≡ Err (Bad p) → p < length input
choice_bad kind body fits cases codecs [] p bytes e = absurd cc
choice_bad kind body fits cases codecs (k ∷ rest) p bytes e =
    elim (chosen-bad (reading_of k cases) (k ∷ rest) p e) [
      | inl h ↦ omega arith
      | inr c ↦
          let b = behind-bad 1 c.0 (k ∷ rest) p c.2 in
          let codec = case_of kind body fits cases k c.0 codecs c.1 in
          let one = codec.bad_within rest b.0 (AreBytes-drop 1 (k ∷ rest) bytes) b.1 in
          omega (arith, one, b.2)
    ]

choice_memory : {X : Type 0} (kind : X → ℕ) (body : X → List ℕ) (fits : X → Type 0) (cases : List (ℕ × Reading X)) → AreCases kind body fits cases
    → (input : List ℕ) → AreBytes input → choice cases input ≡ Err Memory → ⊥
choice_memory kind body fits cases codecs [] bytes e = absurd cc
choice_memory kind body fits cases codecs (k ∷ rest) bytes e =
    let c = chosen-memory (reading_of k cases) (k ∷ rest) e in
    let codec = case_of kind body fits cases k c.0 codecs c.1 in
    codec.no_memory rest (AreBytes-drop 1 (k ∷ rest) bytes) (behind-memory 1 c.0 (k ∷ rest) c.2)

-- A choice by a kind byte. Each value that fits has a kind that is listed, and its body is read there.
pub choice-codec : {X : Type 0} (kind : X → ℕ) (body : X → List ℕ) (fits : X → Type 0) (cases : List (ℕ × Reading X))
    → AreCases kind body fits cases → ((v : X) → fits v → IsTrue (is_some (reading_of (kind v) cases))) → IsCodec (λ v. kind v ∷ body v) fits (choice cases)
choice-codec {X} kind body fits cases codecs listed = record {
  read_back = λ v more h.
      let r = some_of (reading_of (kind v) cases) (listed v h) in
      let codec = case_of kind body fits cases (kind v) r.0 codecs r.1 in
      let one : behind 1 r.0 (kind v ∷ (body v ++ more)) ≡ Ok (v, 1 + length (body v)) = behind-front r.0 (kind v ∷ []) (body v ++ more) v (length (body v)) (codec.read_back v more (h, refl)) in
      ap (λ (o : Option (Reading X)). chosen o (kind v ∷ (body v ++ more))) r.1 ∙ (one ∙ ap (λ (n : ℕ). read v n) (omega arith));
  one_spelling = λ input v n bytes e. choice_spelled kind body fits cases codecs input v n bytes e;
  bad_within = λ input p bytes e. choice_bad kind body fits cases codecs input p bytes e;
  no_memory = λ input bytes e. choice_memory kind body fits cases codecs input bytes e;
}

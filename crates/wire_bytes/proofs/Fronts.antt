-- What a codec's law that what is spelled is read back means for the fronts of an input.
use Rattle.std.proofs.Common.{◌≡◌, ℕ, List, [], ◌++◌, length, take, drop, Result, Ok, Err, sym, ap, ◌∙◌, arith}
use Rattle.std.proofs.lemmas.List.{take-append-drop, append-nil, length-append, nil_from_length}
use Rattle.wire_bytes.specs.declared.wire_fault.WireFault.{WireFault}
use Rattle.wire_bytes.specs.Fields.{Reading}

-- what is spelled is read back
abbrev pub ReadsBack : {X : Type 0} → (X → List ℕ) → (X → Type 0) → Reading X → Type 0
ReadsBack {X} spelled fits taken = (v : X) (rest : List ℕ) → fits v → taken (spelled v ++ rest) ≡ Ok (v, length (spelled v))

abbrev answer : {X : Type 0} → X × ℕ → Result (X × ℕ) WireFault
answer r = Ok r

answer_is : {X : Type 0} (r s : X × ℕ) → answer r ≡ answer s → r ≡ s
answer_is r s e = cc

answer_or : {X : Type 0} (r : X × ℕ) (e : WireFault) → answer r ≡ Err e → ⊥
answer_or r e h = cc

-- where one spelling begins the other, both are read as the same value
same_answer : {X : Type 0} (spelled : X → List ℕ) (fits : X → Type 0) (taken : Reading X) → ReadsBack spelled fits taken
    → (a b : X) (rest : List ℕ) → fits a → fits b → spelled a ≡ spelled b ++ rest → answer (a, length (spelled a)) ≡ answer (b, length (spelled b))
same_answer spelled fits taken back a b rest fa fb e =
    sym (back a [] fa) ∙ (ap taken (append-nil (spelled a) ∙ e) ∙ back b rest fb)

pub same_value : {X : Type 0} (spelled : X → List ℕ) (fits : X → Type 0) (taken : Reading X) → ReadsBack spelled fits taken
    → (a b : X) (rest : List ℕ) → fits a → fits b → spelled a ≡ spelled b ++ rest → a ≡ b
same_value {X} spelled fits taken back a b rest fa fb e = ap (λ (r : X × ℕ). r.0) (answer_is (a, length (spelled a)) (b, length (spelled b)) (same_answer spelled fits taken back a b rest fa fb e))

pub no_rest : {X : Type 0} (spelled : X → List ℕ) (fits : X → Type 0) (taken : Reading X) → ReadsBack spelled fits taken
    → (a b : X) (rest : List ℕ) → fits a → fits b → spelled a ≡ spelled b ++ rest → rest ≡ []
no_rest {X} spelled fits taken back a b rest fa fb e =
    let same = ap (λ (r : X × ℕ). r.1) (answer_is (a, length (spelled a)) (b, length (spelled b)) (same_answer spelled fits taken back a b rest fa fb e)) in
    nil_from_length rest (omega (arith, same, ap (length {A = ℕ}) e, length-append (spelled b) rest))

pub front_read : {X : Type 0} (spelled : X → List ℕ) (fits : X → Type 0) (taken : Reading X) → ReadsBack spelled fits taken
    → (input : List ℕ) (v : X) (n : ℕ) → fits v → take n input ≡ spelled v → taken input ≡ Ok (v, length (spelled v))
front_read spelled fits taken back input v n h e =
    ap taken (sym (take-append-drop n input) ∙ ap (λ (t : List ℕ). t ++ drop n input) e) ∙ back v (drop n input) h

pub none_refused : {X : Type 0} (spelled : X → List ℕ) (fits : X → Type 0) (taken : Reading X) → ReadsBack spelled fits taken
    → (input : List ℕ) (v : X) (n : ℕ) (e : WireFault) → taken input ≡ Err e → fits v → take n input ≡ spelled v → ⊥
none_refused spelled fits taken back input v n e refused h f = answer_or (v, length (spelled v)) e (sym (front_read spelled fits taken back input v n h f) ∙ refused)

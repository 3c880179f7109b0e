-- Bodies after their length are a codec where the bodies are. These lemmas need not be trusted.
use Rattle.std.proofs.Common.{◌≡◌, ℕ, ◌+◌, ◌^◌, ◌≤◌, ◌⊎◌, inl, inr, Bool, true, false, cond, eqb, List, ◌++◌, length, take, drop, Result, Ok, Err, refl, sym, ap, ◌∙◌, arith, append_assoc}
use Rattle.std.specs.Int.{w32, to_be_bytes}
use Rattle.std.proofs.Math.Seq.{take-add}
use Rattle.std.proofs.lemmas.Bool.{eqb-true, eq-eqb}
use Rattle.std.proofs.lemmas.List.{length-append, length-take, length-drop}
use Rattle.wire_bytes.specs.declared.wire_fault.WireFault.{WireFault}
use Rattle.wire_bytes.specs.declared.wire_fault.WireFault.TheVariants.{Bad, Memory}
use Rattle.wire_bytes.specs.Fields.{Reading, behind}
use Rattle.wire_bytes.specs.Codecs.{IsCodec, goes_on-ok, goes_on-bad, goes_on-memory, behind-memory, behind-ok, behind-bad, AreBytes-drop, value_is, behind-front}
use Rattle.wire_bytes.specs.FieldCodecs.{number-codec, wide32}
use Rattle.raft_log.specs.Spellings.{body_length, ending_at, measured, spelled_measured, FitsMeasured}
use Rattle.wire_bytes.specs.Limits.{body_limit}

pub length_codec : IsCodec (to_be_bytes w32) (λ n. n ≤ body_limit) body_length
length_codec = number-codec w32 (2 ^ 32) body_limit wide32 (omega arith)

-- the outcome of a reading that gives this value, of this many bytes
abbrev read : {X : Type 0} → X → ℕ → Result (X × ℕ) WireFault
read x n = Ok (x, n)

-- the outcome of a reading that is refused at this place
abbrev refused : {X : Type 0} → ℕ → Result (X × ℕ) WireFault
refused p = Err (Bad p)

place_is : {X : Type 0} (a b : ℕ) → refused {X = X} a ≡ refused b → a ≡ b
place_is a b e = cc

ending_by : {X : Type 0} (r y : X × ℕ) (end : ℕ) (b : Bool) → eqb r.1 end ≡ b → cond b (Ok r) (refused 0) ≡ Ok y → (read r.0 r.1 ≡ Ok y) × (r.1 ≡ end)
ending_by r y end true h e = (e, eqb-true r.1 end h)
ending_by r y end false h e = absurd cc

ending-ok : {X : Type 0} (end : ℕ) (r : Result (X × ℕ) WireFault) (y : X) (n : ℕ) → ending_at end r ≡ Ok (y, n) → (r ≡ Ok (y, n)) × (n ≡ end)
ending-ok {X} end (Ok r) y n e =
    let h = ending_by r (y, n) end (eqb r.1 end) refl e in
    (h.0, sym (ap (λ (p : X × ℕ). p.1) (value_is r (y, n) h.0)) ∙ h.1)
ending-ok end (Err d) y n e = absurd cc

refused_by : {X : Type 0} (r : X × ℕ) (p : ℕ) (b : Bool) → cond b (Ok r) (refused 0) ≡ Err (Bad p) → p ≡ 0
refused_by r p true e = absurd cc
refused_by {X} r p false e = sym (place_is {X = X} 0 p e)

ending-bad : {X : Type 0} (end : ℕ) (r : Result (X × ℕ) WireFault) (p : ℕ) → ending_at end r ≡ Err (Bad p) → (r ≡ Err (Bad p)) ⊎ (p ≡ 0)
ending-bad end (Ok r) p e = inr (refused_by r p (eqb r.1 end) e)
ending-bad end (Err d) p e = inl cc

kept_by : {X : Type 0} (r : X × ℕ) (b : Bool) → cond b (Ok r) (refused 0) ≡ Err Memory → ⊥
kept_by r true e = absurd cc
kept_by r false e = absurd cc

ending-memory : {X : Type 0} (end : ℕ) (r : Result (X × ℕ) WireFault) → ending_at end r ≡ Err Memory → r ≡ Err Memory
ending-memory end (Ok r) e = absurd (kept_by r (eqb r.1 end) e)
ending-memory end (Err d) e = cc

-- A value after its length is a codec where the value is.
pub measured-codec : {X : Type 0} (spelled : X → List ℕ) (fits : X → Type 0) (taken : Reading X) → IsCodec spelled fits taken → IsCodec (spelled_measured spelled) (FitsMeasured fits spelled) (measured taken)
unfolding measured spelled_measured
measured-codec {X} spelled fits taken codec = record {
  read_back = λ v rest h.
      let n : ℕ = length (spelled v) in
      let front : List ℕ = to_be_bytes w32 n in
      let one : body_length (front ++ (spelled v ++ rest)) ≡ Ok (n, length front) = length_codec.read_back n (spelled v ++ rest) h.1 in
      let two : behind (length front) taken (front ++ (spelled v ++ rest)) ≡ Ok (v, length front + n) = behind-front taken front (spelled v ++ rest) v n (codec.read_back v rest h.0) in
      let same : eqb (length front + n) (length front + n) ≡ true = eq-eqb _ _ refl in
      let len : length front + n ≡ length (front ++ spelled v) = omega (arith, length-append front (spelled v)) in
      let whole : (front ++ spelled v) ++ rest ≡ front ++ (spelled v ++ rest) = append_assoc front (spelled v) rest in
      rw (whole, one, two, same) (ap (λ (k : ℕ). read v k) len);
  one_spelling = λ input v n bytes e.
      let g = goes_on-ok (body_length input) (λ m k. ending_at (k + m) (behind k taken input)) (v, n) e in
      let m : ℕ = g.0.0 in
      let k : ℕ = g.0.1 in
      let h = ending-ok (k + m) (behind k taken input) v n g.2 in
      let b = behind-ok k taken input v n h.0 in
      let one = length_codec.one_spelling input m k bytes g.1 in
      let two = codec.one_spelling (drop k input) v b.0 (AreBytes-drop k input bytes) b.1 in
      let same : b.0 ≡ m = omega (arith, h.1, b.2) in
      let len : length (spelled v) ≡ m = omega (arith, same, two.2, ap (length {A = ℕ}) two.1, length-take b.0 (drop k input)) in
      let joined : take n input ≡ to_be_bytes w32 m ++ spelled v = ap (λ (i : ℕ). take i input) b.2 ∙ (take-add k b.0 input ∙ rw (one.1, two.1) refl) in
      ((two.0, omega (arith, len, one.0)), joined ∙ ap (λ (i : ℕ). to_be_bytes w32 i ++ spelled v) (sym len), omega (arith, two.2, one.2, b.2, length-drop k input));
  bad_within = λ input p bytes e.
      elim (goes_on-bad (body_length input) (λ m k. ending_at (k + m) (behind k taken input)) p e) [
        | inl h ↦ length_codec.bad_within input p bytes h
        | inr g ↦
            let one = length_codec.one_spelling input g.0.0 g.0.1 bytes g.1 in
            elim (ending-bad (g.0.1 + g.0.0) (behind g.0.1 taken input) p g.2) [
              | inl h ↦
                  let b = behind-bad g.0.1 taken input p h in
                  let two = codec.bad_within (drop g.0.1 input) b.0 (AreBytes-drop g.0.1 input bytes) b.1 in
                  omega (arith, two, b.2, length-drop g.0.1 input)
              | inr z ↦ omega (arith, z, ap (length {A = ℕ}) one.1, wide32.len g.0.0, length-take g.0.1 input)
            ]
      ];
  no_memory = λ input bytes e.
      elim (goes_on-memory (body_length input) (λ m k. ending_at (k + m) (behind k taken input)) e) [
        | inl h ↦ length_codec.no_memory input bytes h
        | inr g ↦
            let h = ending-memory (g.0.1 + g.0.0) (behind g.0.1 taken input) g.2 in
            codec.no_memory (drop g.0.1 input) (AreBytes-drop g.0.1 input bytes) (behind-memory g.0.1 taken input h)
      ];
}

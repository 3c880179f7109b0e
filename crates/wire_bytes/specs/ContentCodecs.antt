-- A content after its length is a codec, and so are names and texts. These are lemmas; nothing here has to be trusted.
use Rattle.std.proofs.Common.{◌≡◌, ℕ, suc, ◌+◌, ◌^◌, ◌<◌, ◌≤◌, ◌⊎◌, inl, inr, Bool, true, false, cond, ltb, leb, List, ◌++◌, length, take, drop, Option, Some, None, Result, Ok, Err, IsTrue, refl, sym, ap, subst, ◌∙◌, arith}
use Rattle.std.specs.Prelude.{◌&&◌}
use Rattle.std.specs.Int.{w16, from_be_bytes, to_be_bytes}
use Rattle.std.proofs.lemmas.Bool.{ltb-false, le-ltb, leb-true}
use Rattle.std.proofs.lemmas.List.{take_at, drop_at, length-append, length-take, length-drop}
use Rattle.std.proofs.Math.Seq.{take-add}
use Rattle.irc_line.specs.Names.{is_name, is_text}
use Rattle.wire_bytes.specs.declared.wire_fault.WireFault.{WireFault}
use Rattle.wire_bytes.specs.declared.wire_fault.WireFault.TheVariants.{Short, Bad, Memory}
use Rattle.wire_bytes.specs.Fields.{AreBytes}
use Rattle.wire_bytes.specs.Contents.{sized, sized_bytes_of, sized_bytes, accepted, accepted_bytes, content, passed, name, text}
use Rattle.wire_bytes.specs.Codecs.{IsCodec}
use Rattle.wire_bytes.specs.FieldCodecs.{answer, chosen_one, answer_is, answer_or, place_is, unless_ok, unless_bad, unless_memory, both_true, wide16, number_front}

accepted-ok : {X : Type 0} (n : ℕ) (o : Option X) (v : X) (k : ℕ) → accepted n o ≡ Ok (v, k) → (o ≡ Some v) × (k ≡ 2 + n)
accepted-ok n None v k e = absurd cc
accepted-ok {X} n (Some w) v k e = let same = answer_is (w, 2 + n) (v, k) e in (ap (λ (r : X × ℕ). chosen_one r.0) same, sym (ap (λ (r : X × ℕ). r.1) same))

accepted-bad : {X : Type 0} (n : ℕ) (o : Option X) (p : ℕ) → accepted n o ≡ Err (Bad p) → p ≡ 0
accepted-bad {X} n None p e = sym (place_is {A = X × ℕ} 0 p e)
accepted-bad n (Some w) p e = absurd cc

accepted_bytes-ok : {X : Type 0} (judge : List ℕ → Option X) (r : Result (List ℕ) WireFault) (v : X) (k : ℕ) → accepted_bytes judge r ≡ Ok (v, k) → (bytes : List ℕ) × (r ≡ Ok bytes) × (judge bytes ≡ Some v) × (k ≡ 2 + length bytes)
accepted_bytes-ok judge (Ok bytes) v k e = let j = accepted-ok (length bytes) (judge bytes) v k e in (bytes, refl, j.0, j.1)
accepted_bytes-ok judge (Err d) v k e = absurd cc

-- a place is reported for bytes that are there, or for none at all
accepted_bytes-bad : {X : Type 0} (judge : List ℕ → Option X) (r : Result (List ℕ) WireFault) (p : ℕ) → accepted_bytes judge r ≡ Err (Bad p) → ((bytes : List ℕ) × (r ≡ Ok bytes) × (p ≡ 0)) ⊎ (r ≡ Err (Bad p))
accepted_bytes-bad judge (Ok bytes) p e = inl (bytes, refl, accepted-bad (length bytes) (judge bytes) p e)
accepted_bytes-bad judge (Err d) p e = inr cc

accepted-memory : {X : Type 0} (n : ℕ) (o : Option X) → accepted n o ≡ Err Memory → ⊥
accepted-memory n None e = absurd cc
accepted-memory n (Some w) e = absurd cc

accepted_bytes-memory : {X : Type 0} (judge : List ℕ → Option X) (r : Result (List ℕ) WireFault) → accepted_bytes judge r ≡ Err Memory → r ≡ Err Memory
accepted_bytes-memory judge (Ok bytes) e = absurd (accepted-memory (length bytes) (judge bytes) e)
accepted_bytes-memory judge (Err d) e = cc

-- bytes that are there have their length before them
pub sized_bytes-ok : (input body : List ℕ) → AreBytes input → sized_bytes input ≡ Ok body → (take (2 + length body) input ≡ sized body) × (2 + length body ≤ length input)
unfolding sized_bytes sized
sized_bytes-ok input body bytes e =
    let size = from_be_bytes w16 (take 2 input) in
    let a = unless_ok (ltb (length input) 2) Short _ body e in
    let b = unless_ok (ltb (length input) (2 + size)) Short _ body a.1 in
    let long : 2 + size ≤ length input = ltb-false _ _ b.0 in
    let body-is : take size (drop 2 input) ≡ body = answer_is (take size (drop 2 input)) body b.1 in
    let len : length body ≡ size = omega (arith, ap (length {A = ℕ}) body-is, length-take size (drop 2 input), length-drop 2 input) in
    let front : take 2 input ≡ to_be_bytes w16 (length body) = number_front w16 (2 ^ 16) wide16 input (length body) bytes (omega arith) (sym len) in
    let joined : take (2 + size) input ≡ sized body = take-add 2 size input ∙ (ap (λ (t : List ℕ). t ++ take size (drop 2 input)) front ∙ ap (λ (t : List ℕ). to_be_bytes w16 (length body) ++ t) body-is) in
    (ap (λ (k : ℕ). take (2 + k) input) len ∙ joined, omega arith)

sized_bytes-bad : (input : List ℕ) (p : ℕ) → sized_bytes input ≡ Err (Bad p) → ⊥
unfolding sized_bytes
sized_bytes-bad input p e =
    let a = unless_bad (ltb (length input) 2) (sized_bytes_of (from_be_bytes w16 (take 2 input)) input) p e in
    let b = unless_bad {A = List ℕ} (ltb (length input) (2 + from_be_bytes w16 (take 2 input))) (Ok (take (from_be_bytes w16 (take 2 input)) (drop 2 input))) p a.1 in
    answer_or (take (from_be_bytes w16 (take 2 input)) (drop 2 input)) (Bad p) b.1

sized_bytes-memory : (input : List ℕ) → sized_bytes input ≡ Err Memory → ⊥
unfolding sized_bytes
sized_bytes-memory input e =
    let a = unless_memory (ltb (length input) 2) (sized_bytes_of (from_be_bytes w16 (take 2 input)) input) e in
    let b = unless_memory {A = List ℕ} (ltb (length input) (2 + from_be_bytes w16 (take 2 input))) (Ok (take (from_be_bytes w16 (take 2 input)) (drop 2 input))) a in
    answer_or (take (from_be_bytes w16 (take 2 input)) (drop 2 input)) Memory b

sized_bytes_of-read : (front body rest : List ℕ) → length front ≡ 2 → sized_bytes_of (length body) (front ++ (body ++ rest)) ≡ Ok body
sized_bytes_of-read front body rest two =
    let long : ltb (length (front ++ (body ++ rest))) (2 + length body) ≡ false = le-ltb _ _ (omega (arith, length-append front (body ++ rest), length-append body rest)) in
    rw (long, drop_at front (body ++ rest) 2 two, take_at body rest (length body) refl) refl

sized_bytes-read : (front body rest : List ℕ) → length front ≡ 2 → from_be_bytes w16 front ≡ length body → sized_bytes (front ++ (body ++ rest)) ≡ Ok body
unfolding sized_bytes
sized_bytes-read front body rest two size =
    let input = front ++ (body ++ rest) in
    let long : ltb (length (front ++ (body ++ rest))) 2 ≡ false = le-ltb _ _ (omega (arith, length-append front (body ++ rest))) in
    let size-is : from_be_bytes w16 (take 2 input) ≡ length body = ap (from_be_bytes w16) (take_at front (body ++ rest) 2 two) ∙ size in
    rw long (ap (λ (k : ℕ). sized_bytes_of k input) size-is ∙ sized_bytes_of-read front body rest two)

-- A content is a codec where its judge takes the spelling of each value that fits, and nothing else.
pub content-codec : {X : Type 0} (spell : X → List ℕ) (fits : X → Type 0) (judge : List ℕ → Option X)
    → ((v : X) → fits v → length (spell v) < 2 ^ 16) → ((v : X) → fits v → judge (spell v) ≡ Some v) → ((bytes : List ℕ) (v : X) → judge bytes ≡ Some v → fits v × (bytes ≡ spell v))
    → IsCodec (λ v. sized (spell v)) fits (content judge)
unfolding sized
content-codec {X} spell fits judge short takes only = record {
  read_back = λ v rest h.
      let size = wide16.again (length (spell v)) (short v h) in
      let len : 2 + length (spell v) ≡ suc (suc (length (spell v))) = omega arith in
      let there : sized_bytes (sized (spell v) ++ rest) ≡ Ok (spell v) = sized_bytes-read (to_be_bytes w16 (length (spell v))) (spell v) rest refl size in
      ap (accepted_bytes judge) there ∙ (ap (accepted (length (spell v))) (takes v h) ∙ ap (λ (n : ℕ). answer (v, n)) len);
  one_spelling = λ input v n bytes e.
      let j = accepted_bytes-ok judge (sized_bytes input) v n e in
      let s = sized_bytes-ok input j.0 bytes j.1 in
      let o = only j.0 v j.2 in
      (o.0, ap (λ (k : ℕ). take k input) j.3 ∙ (s.0 ∙ ap sized o.1), omega (arith, s.1, j.3));
  bad_within = λ input p bytes e.
      elim (accepted_bytes-bad judge (sized_bytes input) p e) [
        | inl b ↦ let s = sized_bytes-ok input b.0 bytes b.1 in omega (arith, s.1, b.2)
        | inr b ↦ absurd (sized_bytes-bad input p b)
      ];
  no_memory = λ input bytes e. sized_bytes-memory input (accepted_bytes-memory judge (sized_bytes input) e);
}

-- a length is never empty
pub sized_some : (bytes : List ℕ) → 0 < length (sized bytes)
unfolding sized
sized_some bytes = omega arith

-- ---- names and texts

passed-some : (test : List ℕ → Bool) (bytes v : List ℕ) (b : Bool) → test bytes ≡ b → cond b (Some bytes) None ≡ Some v → IsTrue (test v) × (bytes ≡ v)
passed-some test bytes v true h e = let same : bytes ≡ v = cc in (subst (λ (t : List ℕ). IsTrue (test t)) same h, same)
passed-some test bytes v false h e = absurd cc

-- What passes a test is a codec, where all that passes is short.
pub passed-codec : (test : List ℕ → Bool) → ((bytes : List ℕ) → IsTrue (test bytes) → length bytes < 2 ^ 16) → IsCodec sized (λ v. IsTrue (test v)) (content (passed test))
passed-codec test short =
    content-codec (λ v. v) (λ v. IsTrue (test v)) (passed test) short (λ v h. ap (λ (b : Bool). cond b (Some v) None) h) (λ bytes v e. passed-some test bytes v (test bytes) refl e)

pub name_short : (bytes : List ℕ) → IsTrue (is_name bytes) → length bytes < 2 ^ 16
unfolding is_name
name_short bytes h =
    let sizes : (leb 1 (length bytes) && leb (length bytes) 64) ≡ true = (both_true _ _ (both_true _ _ h).0).0 in
    omega (arith, leb-true (length bytes) 64 (both_true (leb 1 (length bytes)) (leb (length bytes) 64) sizes).1)

pub name_is_codec : IsCodec sized (λ v. IsTrue (is_name v)) name
unfolding name
name_is_codec = passed-codec is_name name_short

pub text_short : (bytes : List ℕ) → IsTrue (is_text bytes) → length bytes < 2 ^ 16
unfolding is_text
text_short bytes h = omega (arith, leb-true (length bytes) 510 (both_true (leb (length bytes) 510) _ h).0)

pub text_is_codec : IsCodec sized (λ v. IsTrue (is_text v)) text
unfolding text
text_is_codec = passed-codec is_text text_short

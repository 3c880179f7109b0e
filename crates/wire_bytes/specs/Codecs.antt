-- Codecs: what is spelled is read back, and what is read is spelled so. These are lemmas; nothing here has to be
-- trusted.
use Rattle.std.proofs.Common.{◌≡◌, ℕ, ◌+◌, ◌<◌, ◌≤◌, ◌⊎◌, inl, inr, Bool, true, false, cond, List, [], ◌++◌, length, take, drop, Result, Ok, Err, IsTrue, refl, sym, ap, subst, ◌∙◌, append_assoc, arith, add-zero}
use Rattle.std.proofs.Math.Seq.{drop-append_seam, take-add}
use Rattle.std.proofs.lemmas.List.{length-append, length-take, length-drop, get_or-drop}
use Rattle.wire_bytes.specs.declared.wire_fault.WireFault.{WireFault}
use Rattle.wire_bytes.specs.declared.wire_fault.WireFault.TheVariants.{Short, Bad, Memory}
use Rattle.wire_bytes.specs.Fields.{AreBytes, Reading, done, moved, behind, goes_on, ◌>>=◌, through, both, tested, only}

-- each value that fits has one spelling, which is read back, whatever follows it; a refused field begins within the
-- input, and what an input gives is never an out-of-memory error
pub record IsCodec {X : Type 0} (spelled : X → List ℕ) (fits : X → Type 0) (taken : Reading X) : Type 0 where
  pub read_back : (v : X) (rest : List ℕ) → fits v → taken (spelled v ++ rest) ≡ Ok (v, length (spelled v))
  pub one_spelling : (input : List ℕ) (v : X) (n : ℕ) → AreBytes input → taken input ≡ Ok (v, n) → fits v × (take n input ≡ spelled v) × (n ≤ length input)
  pub bad_within : (input : List ℕ) (place : ℕ) → AreBytes input → taken input ≡ Err (Bad place) → place < length input
  pub no_memory : (input : List ℕ) → AreBytes input → taken input ≡ Err Memory → ⊥

pub AreBytes-drop : (n : ℕ) (bytes : List ℕ) → AreBytes bytes → AreBytes (drop n bytes)
AreBytes-drop n bytes h i = rw get_or-drop (h (n + i))

-- the result of a reading that gives this value, of this length
abbrev pub read : {X : Type 0} → X → ℕ → Result (X × ℕ) WireFault
read x n = Ok (x, n)

-- two values as one, by a function that a lemma can name
abbrev pair : {X Y : Type 0} → X → Y → X × Y
pair x y = (x, y)

-- the outcome of a reading that gives this fault and no value
abbrev refused : {X : Type 0} → WireFault → Result (X × ℕ) WireFault
refused e = Err e

pub value_is : {X : Type 0} (r s : X × ℕ) → ◌≡◌ {A = Result (X × ℕ) WireFault} (Ok r) (Ok s) → r ≡ s
value_is r s e = cc

ok_or_bad : {X : Type 0} (r : X × ℕ) (d : WireFault) → ◌≡◌ {A = Result (X × ℕ) WireFault} (Ok r) (Err d) → ⊥
ok_or_bad r d e = cc

pub bad_is : {X : Type 0} (a b : ℕ) → ◌≡◌ {A = Result (X × ℕ) WireFault} (Err (Bad a)) (Err (Bad b)) → a ≡ b
bad_is a b e = cc

-- what was read first where all was read
pub goes_on-ok : {X Y : Type 0} (r : Result (X × ℕ) WireFault) (next : X → ℕ → Result (Y × ℕ) WireFault) (y : Y × ℕ) → goes_on r next ≡ Ok y → (x : X × ℕ) × (r ≡ Ok x) × (next x.0 x.1 ≡ Ok y)
goes_on-ok (Ok x) next y e = (x, refl, e)
goes_on-ok (Err d) next y e = absurd cc

-- the first reading was refused, or the one after it was
pub goes_on-bad : {X Y : Type 0} (r : Result (X × ℕ) WireFault) (next : X → ℕ → Result (Y × ℕ) WireFault) (p : ℕ)
    → goes_on r next ≡ Err (Bad p) → (r ≡ Err (Bad p)) ⊎ ((x : X × ℕ) × (r ≡ Ok x) × (next x.0 x.1 ≡ Err (Bad p)))
goes_on-bad (Ok x) next p e = inr (x, refl, e)
goes_on-bad (Err d) next p e = inl cc

-- memory ran out in the first reading, or in the one after it
pub goes_on-memory : {X Y : Type 0} (r : Result (X × ℕ) WireFault) (next : X → ℕ → Result (Y × ℕ) WireFault)
    → goes_on r next ≡ Err Memory → (r ≡ Err Memory) ⊎ ((x : X × ℕ) × (r ≡ Ok x) × (next x.0 x.1 ≡ Err Memory))
goes_on-memory (Ok x) next e = inr (x, refl, e)
goes_on-memory (Err d) next e = inl cc

moved-memory : {X : Type 0} (n : ℕ) (r : Result (X × ℕ) WireFault) → moved n r ≡ Err Memory → r ≡ Err Memory
moved-memory n (Ok r) e = absurd cc
moved-memory n (Err Short) e = absurd cc
moved-memory n (Err (Bad p)) e = absurd cc
moved-memory n (Err Memory) e = refl

pub behind-memory : {X : Type 0} (n : ℕ) (reading : Reading X) (input : List ℕ) → behind n reading input ≡ Err Memory → reading (drop n input) ≡ Err Memory
unfolding behind
behind-memory n reading input e = moved-memory n (reading (drop n input)) e

pub moved-ok : {X : Type 0} (n : ℕ) (r : Result (X × ℕ) WireFault) (y : X) (m : ℕ) → moved n r ≡ Ok (y, m) → (k : ℕ) × (r ≡ Ok (y, k)) × (m ≡ n + k)
moved-ok {X} n (Ok r) y m e =
    let same = value_is (r.0, n + r.1) (y, m) e in
    (r.1, ap (λ (v : X). read v r.1) (ap (λ (p : X × ℕ). p.0) same), sym (ap (λ (p : X × ℕ). p.1) same))
moved-ok {X} n (Err d) y m e = absurd cc

pub moved-bad : {X : Type 0} (n : ℕ) (r : Result (X × ℕ) WireFault) (p : ℕ) → moved n r ≡ Err (Bad p) → (k : ℕ) × (r ≡ Err (Bad k)) × (p ≡ n + k)
moved-bad n (Ok x) p e = absurd cc
moved-bad n (Err (Bad k)) p e = (k, refl, cc)
moved-bad n (Err Short) p e = absurd cc
moved-bad n (Err Memory) p e = absurd cc

pub behind-ok : {X : Type 0} (n : ℕ) (reading : Reading X) (input : List ℕ) (y : X) (m : ℕ) → behind n reading input ≡ Ok (y, m) → (k : ℕ) × (reading (drop n input) ≡ Ok (y, k)) × (m ≡ n + k)
unfolding behind
behind-ok n reading input y m e = moved-ok n (reading (drop n input)) y m e

pub behind-bad : {X : Type 0} (n : ℕ) (reading : Reading X) (input : List ℕ) (p : ℕ) → behind n reading input ≡ Err (Bad p) → (k : ℕ) × (reading (drop n input) ≡ Err (Bad k)) × (p ≡ n + k)
unfolding behind
behind-bad n reading input p e = moved-bad n (reading (drop n input)) p e

-- what follows a front that was spelled
pub behind-front : {X : Type 0} (reading : Reading X) (front rest : List ℕ) (y : X) (k : ℕ) → reading rest ≡ Ok (y, k) → behind (length front) reading (front ++ rest) ≡ Ok (y, length front + k)
unfolding behind
behind-front reading front rest y k e = rw (drop-append_seam front rest, e) refl

pub take-joined : (n k : ℕ) (input a b : List ℕ) → take n input ≡ a → take k (drop n input) ≡ b → take (n + k) input ≡ a ++ b
take-joined n k input a b p q = rw (take-add n k input, p, q) refl

-- ---- one after the other

-- A codec after a codec. Related says which front a value has; the spelling is the front's, followed by rest.
pub then-codec : {X Y : Type 0} (spelled rest : Y → List ℕ) (fits : Y → Type 0) (front : X → List ℕ) (front_fits : X → Type 0) (first : Reading X) (next : X → Reading Y) (Related : X → Y → Type 0)
    → IsCodec front front_fits first → ((y : Y) → fits y → (x : X) × front_fits x × Related x y) → ((x : X) (y : Y) → Related x y → spelled y ≡ front x ++ rest y)
    → ((x : X) → front_fits x → IsCodec rest (λ y. fits y × Related x y) (next x)) → IsCodec spelled fits (first >>= next)
unfolding ◌>>=◌
then-codec {X} {Y} spelled rest fits front front_fits first next Related codec split parts codecs = record {
  read_back = λ y more h.
      let s = split y h in
      let x = s.0 in
      let whole : spelled y ++ more ≡ front x ++ (rest y ++ more) = ap (λ (t : List ℕ). t ++ more) (parts x y s.2) ∙ append_assoc (front x) (rest y) more in
      let one : first (front x ++ (rest y ++ more)) ≡ Ok (x, length (front x)) = codec.read_back x (rest y ++ more) s.1 in
      let two : next x (rest y ++ more) ≡ Ok (y, length (rest y)) = (codecs x s.1).read_back y more (h, s.2) in
      let both_read : goes_on (first (front x ++ (rest y ++ more))) (λ a n. behind n (next a) (front x ++ (rest y ++ more))) ≡ Ok (y, length (front x) + length (rest y)) =
      rw one (behind-front (next x) (front x) (rest y ++ more) y (length (rest y)) two)
      in
      let len : length (front x) + length (rest y) ≡ length (spelled y) = omega (arith, length-append (front x) (rest y), ap length (parts x y s.2)) in
      ap (λ (t : List ℕ). goes_on (first t) (λ a n. behind n (next a) t)) whole ∙ (both_read ∙ ap (λ (k : ℕ). read y k) len);
  one_spelling = λ input y n bytes e.
      let g = goes_on-ok (first input) (λ a n. behind n (next a) input) (y, n) e in
      let b = behind-ok g.0.1 (next g.0.0) input y n g.2 in
      let one = codec.one_spelling input g.0.0 g.0.1 bytes g.1 in
      let two = (codecs g.0.0 one.0).one_spelling (drop g.0.1 input) y b.0 (AreBytes-drop g.0.1 input bytes) b.1 in
      let joined : take n input ≡ front g.0.0 ++ rest y = ap (λ (k : ℕ). take k input) b.2 ∙ take-joined g.0.1 b.0 input (front g.0.0) (rest y) one.1 two.1 in
      (two.0.0, joined ∙ sym (parts g.0.0 y two.0.1), omega (arith, one.2, two.2, b.2, length-drop g.0.1 input));
  bad_within = λ input p bytes e.
      elim (goes_on-bad (first input) (λ a n. behind n (next a) input) p e) [
        | inl h ↦ codec.bad_within input p bytes h
        | inr g ↦
            let b = behind-bad g.0.1 (next g.0.0) input p g.2 in
            let one = codec.one_spelling input g.0.0 g.0.1 bytes g.1 in
            let two = (codecs g.0.0 one.0).bad_within (drop g.0.1 input) b.0 (AreBytes-drop g.0.1 input bytes) b.1 in
            omega (arith, two, b.2, length-drop g.0.1 input)
      ];
  no_memory = λ input bytes e.
      elim (goes_on-memory (first input) (λ a n. behind n (next a) input) e) [
        | inl h ↦ codec.no_memory input bytes h
        | inr g ↦
            let one = codec.one_spelling input g.0.0 g.0.1 bytes g.1 in
            (codecs g.0.0 one.0).no_memory (drop g.0.1 input) (AreBytes-drop g.0.1 input bytes) (behind-memory g.0.1 (next g.0.0) input g.2)
      ];
}

pub behind-done : {X : Type 0} (n : ℕ) (v : X) (input : List ℕ) → behind n (done v) input ≡ Ok (v, n)
unfolding behind
behind-done n v input = ap (λ (k : ℕ). read v k) (add-zero n)

through-ok : {X Y : Type 0} (make : X → Y) (reading : Reading X) (input : List ℕ) (x : X) (n : ℕ) → reading input ≡ Ok (x, n) → through make reading input ≡ Ok (make x, n)
unfolding through ◌>>=◌
through-ok make reading input x n e = rw e (behind-done n (make x) input)

ok-through : {X Y : Type 0} (make : X → Y) (reading : Reading X) (input : List ℕ) (y : Y) (n : ℕ) → through make reading input ≡ Ok (y, n) → (x : X) × (reading input ≡ Ok (x, n)) × (make x ≡ y)
unfolding through ◌>>=◌
ok-through {X} {Y} make reading input y n e =
    let g = goes_on-ok (reading input) (λ a k. behind k (done (make a)) input) (y, n) e in
    let same = value_is (make g.0.0, g.0.1) (y, n) (sym (behind-done g.0.1 (make g.0.0) input) ∙ g.2) in
    (g.0.0, g.1 ∙ ap (λ (k : ℕ). read g.0.0 k) (ap (λ (r : Y × ℕ). r.1) same), ap (λ (r : Y × ℕ). r.0) same)

bad-through : {X Y : Type 0} (make : X → Y) (reading : Reading X) (input : List ℕ) (p : ℕ) → through make reading input ≡ Err (Bad p) → reading input ≡ Err (Bad p)
unfolding through ◌>>=◌
bad-through make reading input p e =
    elim (goes_on-bad (reading input) (λ a k. behind k (done (make a)) input) p e) [
      | inl h ↦ h
      | inr g ↦ absurd (ok_or_bad (make g.0.0, g.0.1) (Bad p) (sym (behind-done g.0.1 (make g.0.0) input) ∙ g.2))
    ]

memory-through : {X Y : Type 0} (make : X → Y) (reading : Reading X) (input : List ℕ) → through make reading input ≡ Err Memory → reading input ≡ Err Memory
unfolding through ◌>>=◌
memory-through {X} {Y} make reading input e =
    elim (goes_on-memory (reading input) (λ a k. behind k (done (make a)) input) e) [
      | inl h ↦ h
      | inr g ↦ absurd (ok_or_bad (make g.0.0, g.0.1) Memory (sym (behind-done g.0.1 (make g.0.0) input) ∙ g.2))
    ]

-- A codec through a constructor, which makes each value that fits from its parts.
pub through-codec : {X Y : Type 0} (spelled : Y → List ℕ) (fits : Y → Type 0) (front : X → List ℕ) (front_fits : X → Type 0) (reading : Reading X) (make : X → Y)
    → IsCodec front front_fits reading → ((x : X) → front_fits x → fits (make x)) → ((x : X) → front_fits x → spelled (make x) ≡ front x) → ((y : Y) → fits y → (x : X) × front_fits x × (make x ≡ y))
    → IsCodec spelled fits (through make reading)
through-codec {X} {Y} spelled fits front front_fits reading make codec makes spells splits = record {
  read_back = λ y more h.
      let s = splits y h in
      let one = codec.read_back s.0 more s.1 in
      let made : spelled (make s.0) ≡ front s.0 = spells s.0 s.1 in
      let two : through make reading (front s.0 ++ more) ≡ Ok (make s.0, length (front s.0)) = through-ok make reading (front s.0 ++ more) s.0 (length (front s.0)) one in
      let three : through make reading (spelled (make s.0) ++ more) ≡ Ok (make s.0, length (spelled (make s.0))) = subst (λ (t : List ℕ). through make reading (t ++ more) ≡ Ok (make s.0, length t)) (sym made) two in
      subst (λ (v : Y). through make reading (spelled v ++ more) ≡ Ok (v, length (spelled v))) s.2 three;
  one_spelling = λ input y n bytes e.
      let o = ok-through make reading input y n e in
      let one = codec.one_spelling input o.0 n bytes o.1 in
      subst (λ (v : Y). fits v × (take n input ≡ spelled v) × (n ≤ length input)) o.2 (makes o.0 one.0, one.1 ∙ sym (spells o.0 one.0), one.2);
  bad_within = λ input p bytes e. codec.bad_within input p bytes (bad-through make reading input p e);
  no_memory = λ input bytes e. codec.no_memory input bytes (memory-through make reading input e);
}

-- The only value that fits, which is spelled by no byte.
pub done-codec : {X : Type 0} (spelled : X → List ℕ) (fits : X → Type 0) (v : X) → fits v → spelled v ≡ [] → ((w : X) → fits w → v ≡ w) → IsCodec spelled fits (done v)
done-codec {X} spelled fits v here empty only = record {
  read_back = λ w rest h. subst (λ (x : X). done v (spelled x ++ rest) ≡ Ok (x, length (spelled x))) (only w h) (ap (λ (t : List ℕ). read v (length t)) (sym empty));
  one_spelling = λ input w n bytes e.
      let same = value_is (v, 0) (w, n) e in
      subst (λ (r : X × ℕ). fits r.0 × (take r.1 input ≡ spelled r.0) × (r.1 ≤ length input)) same (here, sym empty, omega arith);
  bad_within = λ input p bytes e. absurd (ok_or_bad (v, 0) (Bad p) e);
  no_memory = λ input bytes e. ok_or_bad (v, 0) Memory e;
}

-- A codec after a codec gives the pairs.
pub both-codec : {X Y : Type 0} (front : X → List ℕ) (front_fits : X → Type 0) (first : Reading X) (rest : Y → List ℕ) (rest_fits : Y → Type 0) (second : Reading Y)
    → IsCodec front front_fits first → IsCodec rest rest_fits second
    → IsCodec (λ (p : X × Y). front p.0 ++ rest p.1) (λ p. front_fits p.0 × rest_fits p.1) (both first second)
unfolding both
both-codec {X} {Y} front front_fits first rest rest_fits second codec behind_it =
    then-codec (λ (p : X × Y). front p.0 ++ rest p.1) (λ p. rest p.1) (λ p. front_fits p.0 × rest_fits p.1) front front_fits first (λ x. through (λ y. (x, y)) second) (λ x p. p.0 ≡ x)
    codec
    (λ p h. (p.0, h.0, refl))
    (λ x p e. ap (λ (a : X). front a ++ rest p.1) e)
    (λ x hx. through-codec (λ (p : X × Y). rest p.1) (λ p. (front_fits p.0 × rest_fits p.1) × (p.0 ≡ x)) rest rest_fits second (λ y. (x, y)) behind_it
    (λ y hy. ((hx, hy), refl)) (λ y hy. refl)
    (λ p h. (p.1, h.0.1, ap (λ (a : X). pair a p.1) (sym h.1))))

-- ---- what passes a test

tested_by : {X : Type 0} (test : X → Bool) (x y : X × ℕ) (b : Bool) → test x.0 ≡ b → cond b (Ok x) (refused (Bad 0)) ≡ Ok y → (◌≡◌ {A = Result (X × ℕ) WireFault} (Ok x) (Ok y)) × IsTrue (test y.0)
tested_by {X} test x y true h e = (e, subst (λ (r : X × ℕ). IsTrue (test r.0)) (value_is x y e) h)
tested_by test x y false h e = absurd cc

refused_at : {X : Type 0} (b : Bool) (x : X × ℕ) (p : ℕ) → cond b (Ok x) (refused (Bad 0)) ≡ Err (Bad p) → p ≡ 0
refused_at true x p e = absurd cc
refused_at {X} false x p e = sym (bad_is {X = X} 0 p e)

tested-ok : {X : Type 0} (test : X → Bool) (r : Result (X × ℕ) WireFault) (y : X × ℕ) → tested test r ≡ Ok y → (r ≡ Ok y) × IsTrue (test y.0)
tested-ok {X} test (Ok x) y e = tested_by test x y (test x.0) refl e
tested-ok test (Err d) y e = absurd cc

tested-bad : {X : Type 0} (test : X → Bool) (r : Result (X × ℕ) WireFault) (p : ℕ) → tested test r ≡ Err (Bad p) → (r ≡ Err (Bad p)) ⊎ ((y : X × ℕ) × (r ≡ Ok y) × (p ≡ 0))
tested-bad test (Ok x) p e = inr (x, refl, refused_at (test x.0) x p e)
tested-bad test (Err d) p e = inl cc

not_refused_so : {X : Type 0} (b : Bool) (x : X × ℕ) → cond b (Ok x) (refused (Bad 0)) ≡ Err Memory → ⊥
not_refused_so true x e = absurd cc
not_refused_so false x e = absurd cc

tested-memory : {X : Type 0} (test : X → Bool) (r : Result (X × ℕ) WireFault) → tested test r ≡ Err Memory → r ≡ Err Memory
tested-memory test (Ok x) e = absurd (not_refused_so (test x.0) x e)
tested-memory test (Err d) e = cc

-- A codec of what passes a test, where no spelling is empty.
pub only-codec : {X : Type 0} (spelled : X → List ℕ) (fits : X → Type 0) (taken : Reading X) (test : X → Bool)
    → IsCodec spelled fits taken → ((v : X) → fits v → 0 < length (spelled v)) → IsCodec spelled (λ v. fits v × IsTrue (test v)) (only test taken)
unfolding only
only-codec {X} spelled fits taken test codec some = record {
  read_back = λ v rest h. ap (tested test) (codec.read_back v rest h.0) ∙ ap (λ (b : Bool). cond b (read v (length (spelled v))) (Err (Bad 0))) h.1;
  one_spelling = λ input v n bytes e.
      let t = tested-ok test (taken input) (v, n) e in
      let one = codec.one_spelling input v n bytes t.0 in
      ((one.0, t.1), one.1, one.2);
  bad_within = λ input p bytes e.
      elim (tested-bad test (taken input) p e) [
        | inl h ↦ codec.bad_within input p bytes h
        | inr y ↦
            let one = codec.one_spelling input y.0.0 y.0.1 bytes y.1 in
            omega (arith, some y.0.0 one.0, ap (length {A = ℕ}) one.1, length-take y.0.1 input, y.2)
      ];
  no_memory = λ input bytes e. codec.no_memory input bytes (tested-memory test (taken input) e);
}

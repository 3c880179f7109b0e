-- What is printed contains no control character.
use Rattle.std.proofs.Common.{◌≡◌, ℕ, zero, suc, ◌<◌, Bool, true, false, nat_lt, List, [], ◌∷◌, ◌++◌, refl, sym, ap, subst, ◌∙◌, arith}
use Rattle.std.specs.Prelude.{◌&&◌, ◌||◌, if◌then◌else◌, ◌==◌, nat_le, slice_index}
use Rattle.std.proofs.lemmas.Bool.{and_parts, and_from, and_right, both_ways, false≢true}
use Rattle.std.proofs.lemmas.Bool.Decides.{nat_tests}
use Rattle.chat_log.specs.Controls.{begins_control, first_printed, has_control, has_control_behind, has_tail, is_control, is_tail_byte, may_follow, printed, printed_behind, tail_length, tail_wanted}

-- a first byte that needs no others
wants_none : (b : ℕ) → b < 194 → tail_wanted b ≡ 0
wants_none b h = grind (arith, nat_tests)

if_none : (h : Bool) (w : ℕ) → w ≡ 0 → (if h then w else 0) ≡ 0
if_none true w e = e
if_none false w e = refl

alone : (b : ℕ) (rest : List ℕ) → b < 194 → tail_length b rest ≡ 0
alone b rest h = if_none (has_tail (tail_wanted b) rest && may_follow b (slice_index rest 0)) (tail_wanted b) (wants_none b h)

-- what begins a control character is not followed by a third byte
no_third : (b c : ℕ) → (b == 194 && nat_le 128 c && nat_lt c 160) ≡ true → may_follow b c ≡ false
no_third b c e = grind (arith, nat_tests)

begins_none : (b : ℕ) (rest : List ℕ) → begins_control b rest ≡ true → tail_length b rest ≡ 0
begins_none b [] e = absurd (false≢true e)
begins_none b (c ∷ rest) e = rw (no_third b c e, and_right (has_tail (tail_wanted b) (c ∷ rest)) false refl) refl

-- the byte is followed by a dot
control_second : (b c : ℕ) → (b == 194 && nat_le 128 c && nat_lt c 160) ≡ true → is_control c ≡ true
control_second b c e = grind (arith, nat_tests)

not_first : (b c : ℕ) (rest : List ℕ) → (b == 194 && nat_le 128 c && nat_lt c 160) ≡ true → begins_control c rest ≡ false
not_first b c [] e = refl
not_first b c (d ∷ rest) e = grind (arith, nat_tests)

dot_next : (b : ℕ) (rest : List ℕ) → begins_control b rest ≡ true → slice_index (printed_behind 0 rest) 0 ≡ 46
dot_next b [] e = absurd (false≢true e)
dot_next b (c ∷ rest) e = rw (not_first b c rest e, control_second b c e) refl

-- if what is printed begins with a byte that may follow another, so did the bytes
record Front (rest : List ℕ) : Type 0 where
  first : ℕ
  behind : List ℕ
  is : rest ≡ first ∷ behind
  kept : printed_behind 0 rest ≡ first ∷ printed_behind 0 behind

no_dot : (b : ℕ) → b ≡ 46 → is_tail_byte b ≡ true → ⊥
no_dot b e h = grind (arith, nat_tests)

tail_below : (b : ℕ) → is_tail_byte b ≡ true → b < 194
tail_below b h = grind (arith, nat_tests)

front_plain : (c : ℕ) (r : List ℕ) → begins_control c r ≡ false → (k : Bool) → is_control c ≡ k → is_tail_byte (slice_index (printed_behind 0 (c ∷ r)) 0) ≡ true → Front (c ∷ r)
front_plain c r e true k h =
    let dot : slice_index (printed_behind 0 (c ∷ r)) 0 ≡ 46 = rw (e, k) refl in absurd (no_dot _ dot h)
front_plain c r e false k h =
    let same : slice_index (printed_behind 0 (c ∷ r)) 0 ≡ c = rw (e, k) refl in
    let none : tail_length c r ≡ 0 = alone c r (tail_below c (subst (λ b. is_tail_byte b ≡ true) same h)) in
    record { first = c; behind = r; is = refl; kept = rw (e, k, none) refl }

front_by : (c : ℕ) (r : List ℕ) (b : Bool) → begins_control c r ≡ b → is_tail_byte (slice_index (printed_behind 0 (c ∷ r)) 0) ≡ true → Front (c ∷ r)
front_by c r true e h =
    let dot : slice_index (printed_behind 0 (c ∷ r)) 0 ≡ 46 = rw (e, begins_none c r e) (dot_next c r e) in absurd (no_dot _ dot h)
front_by c r false e h = front_plain c r e (is_control c) refl h

front : (rest : List ℕ) → is_tail_byte (slice_index (printed_behind 0 rest) 0) ≡ true → Front rest
front [] h = absurd (false≢true h)
front (c ∷ r) h = front_by c r (begins_control c r) refl h

first_of_tail : (n : ℕ) (xs : List ℕ) → has_tail (suc n) xs ≡ true → is_tail_byte (slice_index xs 0) ≡ true
first_of_tail n [] h = absurd (false≢true h)
first_of_tail n (x ∷ xs) h = (and_parts _ _ h).0

tail_back : (n : ℕ) (rest : List ℕ) → has_tail n (printed_behind 0 rest) ≡ true → has_tail n rest ≡ true
tail_back zero rest h = refl
tail_back (suc n) rest h =
    let f = front rest (first_of_tail n (printed_behind 0 rest) h) in
    let parts = and_parts (is_tail_byte f.first) (has_tail n (printed_behind 0 f.behind)) (subst (λ t. has_tail (suc n) t ≡ true) f.kept h) in
    subst (λ t. has_tail (suc n) t ≡ true) (sym f.is) (and_from _ _ parts.0 (tail_back n f.behind parts.1))

first_back : (rest : List ℕ) → is_tail_byte (slice_index (printed_behind 0 rest) 0) ≡ true → slice_index (printed_behind 0 rest) 0 ≡ slice_index rest 0
first_back rest h = let f = front rest h in ap (λ t. slice_index t 0) f.kept ∙ ap (λ t. slice_index t 0) (sym f.is)

-- bytes that belong to a character are printed as they are
tail_kept : (n : ℕ) (rest : List ℕ) → has_tail n (printed_behind n rest) ≡ has_tail n rest
tail_kept zero rest = refl
tail_kept (suc n) [] = refl
tail_kept (suc n) (b ∷ rest) = ap (λ t. is_tail_byte b && t) (tail_kept n rest)

second_kept : (n : ℕ) (rest : List ℕ) → slice_index (printed_behind (suc n) rest) 0 ≡ slice_index rest 0
second_kept n [] = refl
second_kept n (b ∷ rest) = refl

-- a first byte that stays is therefore followed by as many bytes as before
unfit : (k b : ℕ) (rest : List ℕ) → (has_tail (suc k) rest && may_follow b (slice_index rest 0)) ≡ false → (h : Bool) → (has_tail (suc k) (printed_behind 0 rest) && may_follow b (slice_index (printed_behind 0 rest) 0)) ≡ h → h ≡ false
unfit k b rest e false h = refl
unfit k b rest e true h =
    let parts = and_parts (has_tail (suc k) (printed_behind 0 rest)) (may_follow b (slice_index (printed_behind 0 rest) 0)) h in
    let same = first_back rest (first_of_tail k (printed_behind 0 rest) parts.0) in
    let both = and_from (has_tail (suc k) rest) (may_follow b (slice_index rest 0)) (tail_back (suc k) rest parts.0) (subst (λ c. may_follow b c ≡ true) same parts.1) in
    absurd (both_ways _ e both)

same_by : (w b : ℕ) (rest : List ℕ) (h : Bool) → (has_tail w rest && may_follow b (slice_index rest 0)) ≡ h
    → (if has_tail w (printed_behind (if h then w else 0) rest) && may_follow b (slice_index (printed_behind (if h then w else 0) rest) 0) then w else 0) ≡ (if h then w else 0)
same_by zero b rest true e = if_none _ 0 refl
same_by zero b rest false e = if_none _ 0 refl
same_by (suc k) b rest true e = rw (tail_kept (suc k) rest, second_kept k rest, e) refl
same_by (suc k) b rest false e = rw (unfit k b rest e _ refl) refl

same_tail : (b : ℕ) (rest : List ℕ) → tail_length b (printed_behind (tail_length b rest) rest) ≡ tail_length b rest
same_tail b rest =
    let h : Bool = has_tail (tail_wanted b) rest && may_follow b (slice_index rest 0) in
    same_by (tail_wanted b) b rest h refl

-- nothing that is printed is a control character
control_below : (b : ℕ) → is_control b ≡ true → b < 194
control_below b h = grind (arith, nat_tests)

clean_plain : (b : ℕ) (rest : List ℕ) → begins_control b rest ≡ false → (k : Bool) → is_control b ≡ k
    → has_control_behind (tail_length b rest) (printed_behind (tail_length b rest) rest) ≡ false
    → has_control_behind 0 (first_printed b rest ++ printed_behind (tail_length b rest) rest) ≡ false
clean_plain b rest e true k ih =
    let none : tail_length b rest ≡ 0 = alone b rest (control_below b k) in
    let behind : has_control_behind 0 (printed_behind 0 rest) ≡ false = rw none at ih in
    let dot : has_control_behind 0 (46 ∷ printed_behind 0 rest) ≡ false = rw (alone 46 (printed_behind 0 rest) (omega arith)) behind in
    rw (e, k, none) dot
clean_plain b rest e false k ih =
    let byte : has_control_behind 0 (b ∷ printed_behind (tail_length b rest) rest) ≡ false = rw (k, same_tail b rest) ih in
    rw (e, k) byte

clean_first : (b : ℕ) (rest : List ℕ) (k : Bool) → begins_control b rest ≡ k
    → has_control_behind (tail_length b rest) (printed_behind (tail_length b rest) rest) ≡ false
    → has_control_behind 0 (first_printed b rest ++ printed_behind (tail_length b rest) rest) ≡ false
clean_first b rest true e ih = rw (e, begins_none b rest e) (rw (begins_none b rest e) at ih)
clean_first b rest false e ih = clean_plain b rest e (is_control b) refl ih

clean_behind : (n : ℕ) (bytes : List ℕ) → has_control_behind n (printed_behind n bytes) ≡ false
clean_behind zero [] = refl
clean_behind (suc n) [] = refl
clean_behind (suc n) (b ∷ rest) = clean_behind n rest
clean_behind zero (b ∷ rest) = clean_first b rest (begins_control b rest) refl (clean_behind (tail_length b rest) rest)

pub nothing_is_obeyed : (bytes : List ℕ) → has_control (printed bytes) ≡ false
unfolding has_control printed
nothing_is_obeyed bytes = clean_behind 0 bytes

-- text without control characters is printed as it is
neither : (x y : Bool) → (x || y) ≡ false → (x ≡ false) × (y ≡ false)
neither true y h = absurd (both_ways true h refl)
neither false y h = (refl, h)

first_is_one : (b : ℕ) (rest : List ℕ) → begins_control b rest ≡ true → has_control_behind 0 rest ≡ true
first_is_one b [] e = absurd (false≢true e)
first_is_one b (c ∷ rest) e = rw (control_second b c e) refl

begins_no : (b : ℕ) (rest : List ℕ) → has_control_behind (tail_length b rest) rest ≡ false → (k : Bool) → begins_control b rest ≡ k → k ≡ false
begins_no b rest h false e = refl
begins_no b rest h true e =
    let none : has_control_behind 0 rest ≡ false = rw (begins_none b rest e) at h in
    absurd (both_ways _ none (first_is_one b rest e))

stays : (n : ℕ) (bytes : List ℕ) → has_control_behind n bytes ≡ false → printed_behind n bytes ≡ bytes
stays zero [] h = refl
stays (suc n) [] h = refl
stays (suc n) (b ∷ rest) h = ap (λ t. b ∷ t) (stays n rest h)
stays zero (b ∷ rest) h =
    let parts = neither (is_control b) (has_control_behind (tail_length b rest) rest) h in
    let no : begins_control b rest ≡ false = begins_no b rest parts.1 _ refl in
    rw (no, parts.0) (ap (λ t. b ∷ t) (stays (tail_length b rest) rest parts.1))

pub text_stays : (bytes : List ℕ) → has_control bytes ≡ false → printed bytes ≡ bytes
unfolding has_control printed
text_stays bytes h = stays 0 bytes h

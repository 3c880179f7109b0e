-- What the bytes of a content's parts are.
use Rattle.std.proofs.Common.{◌≡◌, ℕ, Bool, true, false, not, ◌&&◌, List, [], ◌∷◌, ◌++◌, map, length, refl, ap, sym, ◌∙◌, arith, length-append, ◌≤◌, ◌<◌, ◌+◌}
use Rattle.std.specs.Prelude.{◌==◌, nat_lt, position, Some, None}
use Rattle.std.proofs.Common.{suc, cond}
use Rattle.std.specs.List.{list_all, position_or_len}
use Rattle.std.proofs.lemmas.List.Folds.{list_all-append}
use Rattle.std.proofs.lemmas.Bool.Decides.{nat_tests}
use Rattle.std.proofs.Common.{inl, inr}
use Rattle.irc_line.specs.Names.{is_content_byte}
use Rattle.irc_line.specs.Lines.{is_word_byte, is_word, is_middle, is_upper_letter, is_digit, is_upper_command}
use Rattle.irc_line.specs.Grammar.{is_space, IsWord, IsMiddle, is_letter, is_command, upper, AreContent, IsFirstBad}
use Rattle.irc_line.proofs.Grammar.{NoSpace}
use Rattle.irc_line.proofs.Booleans.{and_left, and_right, not_true, or_cases, not_from, and_both, or_first, or_second}

-- Content bytes

pub content_left : (s t : List ℕ) → AreContent (s ++ t) → AreContent s
content_left s t h = and_left _ (list_all is_content_byte t) (sym (list_all-append is_content_byte s t) ∙ h)

pub content_right : (s t : List ℕ) → AreContent (s ++ t) → AreContent t
content_right s t h = and_right (list_all is_content_byte s) _ (sym (list_all-append is_content_byte s t) ∙ h)

pub content_both : (s t : List ℕ) → AreContent s → AreContent t → AreContent (s ++ t)
content_both s t h k = list_all-append is_content_byte s t ∙ and_both _ _ h k

-- the test of a byte that no content may hold
abbrev pub is_bad : ℕ → Bool
is_bad b = not (is_content_byte b)

content_len : (s : List ℕ) → AreContent s → position_or_len is_bad s ≡ length s
content_len [] h = refl
content_len (x ∷ s) h =
    let ih : position_or_len is_bad s ≡ length s = content_len s (and_right (is_content_byte x) _ h) in
    rw (and_left (is_content_byte x) _ h) (omega arith)

not_below : (n : ℕ) → nat_lt n n ≡ false
not_below n = grind (arith, nat_tests)

-- where all are content bytes, no place has a bad one
pub no_place : (s : List ℕ) → AreContent s → position is_bad s ≡ None
no_place s h = rw (content_len s h, not_below (length s)) refl

len_content_by : (x : ℕ) (s : List ℕ) (b : Bool) → is_content_byte x ≡ b → (length s ≤ position_or_len is_bad s → AreContent s)
    → length (x ∷ s) ≤ cond (not (not b)) (1 + position_or_len is_bad s) 0 → AreContent (x ∷ s)
len_content_by x s true e ih h = and_both (is_content_byte x) _ e (ih (omega arith))
len_content_by x s false e ih h = absurd (omega arith)

len_content : (s : List ℕ) → length s ≤ position_or_len is_bad s → AreContent s
len_content [] h = refl
len_content (x ∷ s) h = len_content_by x s (is_content_byte x) refl (len_content s) h

place_none_by : (m n : ℕ) (b : Bool) → nat_lt m n ≡ b → cond b (Some m) None ≡ None → n ≤ m
place_none_by m n true e h = cc
place_none_by m n false e h = grind (arith, nat_tests)

-- and where no place has one, all are content bytes
pub all_content : (s : List ℕ) → position is_bad s ≡ None → AreContent s
all_content s h = len_content s (place_none_by (position_or_len is_bad s) (length s) _ refl h)

bad_len : (before rest : List ℕ) (b : ℕ) → AreContent before → is_content_byte b ≡ false → position_or_len is_bad (before ++ b ∷ rest) ≡ length before
bad_len [] rest b h e = rw e refl
bad_len (x ∷ before) rest b h e =
    let ih : position_or_len is_bad (before ++ b ∷ rest) ≡ length before = bad_len before rest b (and_right (is_content_byte x) _ h) e in
    rw (and_left (is_content_byte x) _ h) (omega arith)

below : (before rest : List ℕ) (b : ℕ) → nat_lt (length before) (length (before ++ b ∷ rest)) ≡ true
below before rest b =
    let l : length before < length (before ++ b ∷ rest) = simp length-append (omega arith) in
    grind (arith, nat_tests)

-- the place of the first bad byte
pub first_place : (s : List ℕ) (place : ℕ) → IsFirstBad s place → position is_bad s ≡ Some place
first_place s place h = rw (h.3, bad_len h.0 h.1 h.2 h.5 h.6, below h.0 h.1 h.2) (ap Some h.4)

-- Words

word_bytes : (w : List ℕ) → NoSpace w → AreContent w → list_all is_word_byte w ≡ true
word_bytes [] h k = refl
word_bytes (x ∷ w) h k =
    and_both (is_word_byte x) _ (and_both (is_content_byte x) _ (and_left (is_content_byte x) _ k) (and_left (not (is_space x)) _ h)) (word_bytes w (and_right (not (is_space x)) _ h) (and_right (is_content_byte x) _ k))

word_solid_bytes : (w : List ℕ) → list_all is_word_byte w ≡ true → NoSpace w
word_solid_bytes [] h = refl
word_solid_bytes (x ∷ w) h =
    and_both (not (is_space x)) _ (and_right (is_content_byte x) _ (and_left (is_word_byte x) _ h)) (word_solid_bytes w (and_right (is_word_byte x) _ h))

word_content_bytes : (w : List ℕ) → list_all is_word_byte w ≡ true → AreContent w
word_content_bytes [] h = refl
word_content_bytes (x ∷ w) h =
    and_both (is_content_byte x) _ (and_left (is_content_byte x) _ (and_left (is_word_byte x) _ h)) (word_content_bytes w (and_right (is_word_byte x) _ h))

pub some_length : (x : ℕ) (w : List ℕ) → nat_lt 0 (length (x ∷ w)) ≡ true
some_length x w = grind (arith, nat_tests)

pub word_passes : (w : List ℕ) → IsWord w → AreContent w → is_word w ≡ true
word_passes [] h k = elim h [ ]
word_passes (x ∷ w) h k = and_both (nat_lt 0 (length (x ∷ w))) _ (some_length x w) (word_bytes (x ∷ w) h k)

pub word_holds : (w : List ℕ) → is_word w ≡ true → IsWord w
word_holds [] h = cc
word_holds (x ∷ w) h = word_solid_bytes (x ∷ w) (and_right (nat_lt 0 (length (x ∷ w))) _ h)

pub word_content : (w : List ℕ) → is_word w ≡ true → AreContent w
word_content w h = word_content_bytes w (and_right (nat_lt 0 (length w)) _ h)

pub middle_passes : (w : List ℕ) → IsMiddle w → AreContent w → is_middle w ≡ true
middle_passes [] h k = elim h [ ]
middle_passes (x ∷ w) h k = and_both (is_word (x ∷ w)) _ (word_passes (x ∷ w) h.1 k) (not_from _ h.0)

pub middle_holds : (w : List ℕ) → is_middle w ≡ true → IsMiddle w
middle_holds [] h = cc
middle_holds (x ∷ w) h = (not_true _ (and_right (is_word (x ∷ w)) _ h), word_holds (x ∷ w) (and_left (is_word (x ∷ w)) _ h))

pub middle_content : (w : List ℕ) → is_middle w ≡ true → AreContent w
middle_content w h = word_content w (and_left (is_word w) _ h)

-- Commands

upper_letter : (b : ℕ) → is_letter b ≡ true → is_upper_letter (upper b) ≡ true
upper_letter b h = grind (arith, nat_tests)

upper_digit : (b : ℕ) → is_digit b ≡ true → is_digit (upper b) ≡ true
upper_digit b h = grind (arith, nat_tests)

upper_letters : (w : List ℕ) → list_all is_letter w ≡ true → list_all is_upper_letter (map upper w) ≡ true
upper_letters [] h = refl
upper_letters (x ∷ w) h = and_both _ _ (upper_letter x (and_left (is_letter x) _ h)) (upper_letters w (and_right (is_letter x) _ h))

upper_digits : (w : List ℕ) → list_all is_digit w ≡ true → list_all is_digit (map upper w) ≡ true
upper_digits [] h = refl
upper_digits (x ∷ w) h = and_both _ _ (upper_digit x (and_left (is_digit x) _ h)) (upper_digits w (and_right (is_digit x) _ h))

upper_length : (w : List ℕ) → length (map upper w) ≡ length w
upper_length [] = refl
upper_length (x ∷ w) = ap suc (upper_length w)

-- a command in upper case is the command of a line
pub command_passes : (w : List ℕ) → is_command w ≡ true → is_upper_command (map upper w) ≡ true
command_passes w h =
    elim (or_cases (nat_lt 0 (length w) && list_all is_letter w) _ h) [
      | inl a ↦ or_first (nat_lt 0 (length (map upper w)) && list_all is_upper_letter (map upper w)) _ (and_both (nat_lt 0 (length (map upper w))) _ (rw (upper_length w) (and_left (nat_lt 0 (length w)) _ a)) (upper_letters w (and_right (nat_lt 0 (length w)) _ a)))
      | inr b ↦ or_second (nat_lt 0 (length (map upper w)) && list_all is_upper_letter (map upper w)) _ (and_both (length (map upper w) == 3) _ (rw (upper_length w) (and_left (length w == 3) _ b)) (upper_digits w (and_right (length w == 3) _ b)))
    ]

letter_is : (b : ℕ) → is_upper_letter b ≡ true → is_letter b ≡ true
letter_is b h = grind (arith, nat_tests)

letter_same : (b : ℕ) → is_upper_letter b ≡ true → upper b ≡ b
letter_same b h = grind (arith, nat_tests)

letter_content : (b : ℕ) → is_upper_letter b ≡ true → is_content_byte b ≡ true
letter_content b h = grind (arith, nat_tests)

digit_same : (b : ℕ) → is_digit b ≡ true → upper b ≡ b
digit_same b h = grind (arith, nat_tests)

digit_content : (b : ℕ) → is_digit b ≡ true → is_content_byte b ≡ true
digit_content b h = grind (arith, nat_tests)

letters_are : (w : List ℕ) → list_all is_upper_letter w ≡ true → (list_all is_letter w ≡ true) × (map upper w ≡ w) × AreContent w
letters_are [] h = (refl, refl, refl)
letters_are (x ∷ w) h =
    let e : is_upper_letter x ≡ true = and_left (is_upper_letter x) _ h in
    let t = letters_are w (and_right (is_upper_letter x) _ h) in
    (and_both (is_letter x) _ (letter_is x e) t.0, rw (letter_same x e) (ap (λ v. x ∷ v) t.1), and_both (is_content_byte x) _ (letter_content x e) t.2)

digits_are : (w : List ℕ) → list_all is_digit w ≡ true → (map upper w ≡ w) × AreContent w
digits_are [] h = (refl, refl)
digits_are (x ∷ w) h =
    let e : is_digit x ≡ true = and_left (is_digit x) _ h in
    let t = digits_are w (and_right (is_digit x) _ h) in
    (rw (digit_same x e) (ap (λ v. x ∷ v) t.0), and_both (is_content_byte x) _ (digit_content x e) t.1)

-- a command of a line is read as it is
pub command_holds : (w : List ℕ) → is_upper_command w ≡ true → (is_command w ≡ true) × (w ≡ map upper w) × AreContent w
command_holds w h =
    elim (or_cases (nat_lt 0 (length w) && list_all is_upper_letter w) _ h) [
      | inl a ↦
          (let t = letters_are w (and_right (nat_lt 0 (length w)) _ a) in
          (or_first _ _ (and_both _ _ (and_left (nat_lt 0 (length w)) _ a) t.0), sym t.1, t.2))
      | inr b ↦
          (let d : list_all is_digit w ≡ true = and_right (length w == 3) _ b in
          let t = digits_are w d in
          (or_second (nat_lt 0 (length w) && list_all is_letter w) _ b, sym t.0, t.1))
    ]

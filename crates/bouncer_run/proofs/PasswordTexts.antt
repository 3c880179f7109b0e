-- Passwords are texts that a line may carry.
use Rattle.std.proofs.Common.{◌≡◌, ℕ, Bool, true, false, not, ◌&&◌, ◌==◌, nat_le, List, [], ◌∷◌, length, IsTrue, refl, subst, sym, ◌∙◌, ap, Option, Some, None, MatchOption}
use native.Mathlib.Omega.{arith}
use Rattle.std.specs.List.{list_all}
use Rattle.irc_line.specs.Names.{IsPassed, is_content_byte, is_text}
use Rattle.bouncer_config.specs.Texts.{is_password, is_password_byte}

-- what holds of both holds of the first
first_of : (a b : Bool) → (a && b) ≡ true → a ≡ true
first_of true b h = refl
first_of false b h = h

second_of : (a b : Bool) → (a && b) ≡ true → b ≡ true
second_of true b h = h
second_of false true h = refl
second_of false false h = h

both_of : (a b : Bool) → a ≡ true → b ≡ true → (a && b) ≡ true
both_of true b g h = h
both_of false b g h = g

-- bytes of a password are bytes of a text
content_of : (bytes : List ℕ) → list_all is_password_byte bytes ≡ true → list_all is_content_byte bytes ≡ true
content_of [] h = refl
content_of (b ∷ bytes) h =
    both_of _ _ (first_of (is_content_byte b) (not (b == 32)) (first_of (is_password_byte b) (list_all is_password_byte bytes) h))
    (content_of bytes (second_of (is_password_byte b) (list_all is_password_byte bytes) h))

short_enough : (n : ℕ) → nat_le n 64 ≡ true → nat_le n 510 ≡ true
short_enough n h = grind arith

false_is_not_true : false ≡ true → ⊥
false_is_not_true h = cc

pub password_is_text : (bytes : List ℕ) → IsTrue (is_password bytes) → is_text bytes ≡ true
unfolding is_text
password_is_text bytes h =
    let two : (nat_le 1 (length bytes) && nat_le (length bytes) 64) ≡ true = first_of _ (list_all is_password_byte bytes) h in
    both_of _ _ (short_enough (length bytes) (second_of (nat_le 1 (length bytes)) _ two)) (content_of bytes (second_of (nat_le 1 (length bytes) && nat_le (length bytes) 64) _ h))

-- the text of a password's bytes is there
text_of : (r : Option (List ℕ)) (bytes : List ℕ) → IsTrue (is_password bytes) → MatchOption r (is_text bytes ≡ false) (IsPassed is_text bytes) → r ≡ Some bytes
text_of None bytes p h = absurd (false_is_not_true (sym h ∙ password_is_text bytes p))
text_of (Some text) bytes p h = ap Some h.0

-- the same of bytes that are a password's
pub text_of_copy : (r : Option (List ℕ)) (bytes password : List ℕ) → bytes ≡ password → IsTrue (is_password password)
    → MatchOption r (is_text bytes ≡ false) (IsPassed is_text bytes) → r ≡ Some password
text_of_copy r bytes password same p h =
    let P : List ℕ → Type 0 = λ b. MatchOption r (is_text b ≡ false) (IsPassed is_text b) in text_of r password p (subst P same h)

-- What the grammar gives is read, and nothing else is.
use Rattle.std.proofs.Common.{◌≡◌, ℕ, Bool, true, false, not, ◌&&◌, List, [], ◌∷◌, ◌++◌, map, length, refl, ap, sym, subst, ◌∙◌, arith, append_assoc, zero, suc, ◌≤◌, ◌<◌}
use Rattle.std.specs.Prelude.{if◌then◌else◌, Option, Some, None, ◌==◌}
use Rattle.std.proofs.Common.{inl, inr}
use Rattle.std.specs.List.{list_all}
use Rattle.std.proofs.lemmas.Bool.Decides.{nat_tests}
use Rattle.irc_line.specs.Lines.{Parts, is_digit}
use Rattle.irc_line.specs.Grammar.{is_space, AreSpaces, IsWord, IsMiddle, IsTail, none, trailing, middle, is_letter, is_command, upper, IsPrefix, IsLine}
use Rattle.irc_line.specs.Reading.{skip_spaces, word_of, behind_word, parameters_from, parameters_of, read_command, read_prefix, read}
use Rattle.irc_line.proofs.Parameters.{behind}
use Rattle.irc_line.proofs.Booleans.{and_left, and_right, not_true, or_cases, not_from, and_both}
use Rattle.std.proofs.lemmas.List.{append-nil}

-- nothing, or it begins with a space
abbrev Ends : List ℕ → Type 0
Ends [] = Unit {0}
Ends (b ∷ s) = is_space b ≡ true

skip_front : (spaces t : List ℕ) → AreSpaces spaces → skip_spaces (spaces ++ t) ≡ skip_spaces t
skip_front [] t h = refl
skip_front (b ∷ s) t h = rw (and_left (is_space b) (list_all is_space s) h) (skip_front s t (and_right (is_space b) (list_all is_space s) h))

parameters_spaces : (spaces t : List ℕ) → AreSpaces spaces → parameters_of (spaces ++ t) ≡ parameters_of t
parameters_spaces [] t h = refl
parameters_spaces (b ∷ s) t h = rw (parameters_from, and_left (is_space b) (list_all is_space s) h) (parameters_spaces s t (and_right (is_space b) (list_all is_space s) h))

abbrev pub NoSpace : List ℕ → Type 0
NoSpace w = list_all (λ x. not (is_space x)) w ≡ true

word_all : (w r : List ℕ) → NoSpace w → Ends r → word_of (w ++ r) ≡ w
word_all [] [] h e = refl
word_all [] (b ∷ r) h e = rw e refl
word_all (x ∷ w) r h e = rw (not_true (is_space x) (and_left (not (is_space x)) _ h)) (ap (λ v. x ∷ v) (word_all w r (and_right (not (is_space x)) _ h) e))

behind_all : (w r : List ℕ) → NoSpace w → Ends r → behind_word (w ++ r) ≡ r
behind_all [] [] h e = refl
behind_all [] (b ∷ r) h e = rw e refl
behind_all (x ∷ w) r h e = rw (not_true (is_space x) (and_left (not (is_space x)) _ h)) (behind_all w r (and_right (not (is_space x)) _ h) e)

ends_spaces : (s : List ℕ) → AreSpaces s → Ends s
ends_spaces [] h = tt
ends_spaces (b ∷ s) h = and_left (is_space b) (list_all is_space s) h

ends_tail : {s : List ℕ} {ps : List (List ℕ)} → IsTail s ps → Ends s
ends_tail (none spaces h) = ends_spaces spaces h
ends_tail (trailing spaces text h) = refl
ends_tail (middle spaces word rest ps h w t) = refl

parameters_none : (s : List ℕ) → AreSpaces s → parameters_of s ≡ []
parameters_none [] h = refl
parameters_none (b ∷ s) h = rw (parameters_from, and_left (is_space b) (list_all is_space s) h) (parameters_none s (and_right (is_space b) (list_all is_space s) h))

parameters_word : (w r : List ℕ) → IsMiddle w → Ends r → parameters_of (w ++ r) ≡ w ∷ parameters_of r
parameters_word [] r h e = elim h [ ]
parameters_word (x ∷ w) r h e =
    let n : is_space x ≡ false = not_true (is_space x) (and_left (not (is_space x)) _ h.1) in
    let ws : NoSpace w = and_right (not (is_space x)) _ h.1 in
    rw (parameters_from, n, h.0, word_all w r ws e, behind (w ++ r), behind_all w r ws e) refl

pub tail_read : {s : List ℕ} {ps : List (List ℕ)} → IsTail s ps → parameters_of s ≡ ps
tail_read (none spaces h) = parameters_none spaces h
tail_read (trailing spaces text h) = parameters_spaces spaces (58 ∷ text) h
tail_read (middle spaces word rest ps h w t) =
    parameters_spaces spaces (word ++ rest) h ∙ parameters_word word rest w (ends_tail t) ∙ ap (λ qs. word ∷ qs) (tail_read t)

letter_starts : (b : ℕ) → is_letter b ≡ true → (is_space b ≡ false) × ((b == 58) ≡ false)
letter_starts b e = (grind (arith, nat_tests), grind (arith, nat_tests))

digit_starts : (b : ℕ) → is_digit b ≡ true → (is_space b ≡ false) × ((b == 58) ≡ false)
digit_starts b e = (grind (arith, nat_tests), grind (arith, nat_tests))

letters_solid : (w : List ℕ) → list_all is_letter w ≡ true → NoSpace w
letters_solid [] h = refl
letters_solid (x ∷ w) h = and_both _ _ (not_from _ (letter_starts x (and_left (is_letter x) _ h)).0) (letters_solid w (and_right (is_letter x) _ h))

digits_solid : (w : List ℕ) → list_all is_digit w ≡ true → NoSpace w
digits_solid [] h = refl
digits_solid (x ∷ w) h = and_both _ _ (not_from _ (digit_starts x (and_left (is_digit x) _ h)).0) (digits_solid w (and_right (is_digit x) _ h))

command_solid : (w : List ℕ) → is_command w ≡ true → NoSpace w
command_solid w h =
    elim (or_cases _ (length w == 3 && list_all is_digit w) h)
    [ inl a ↦ letters_solid w (and_right _ (list_all is_letter w) a) | inr b ↦ digits_solid w (and_right (length w == 3) (list_all is_digit w) b) ]

-- its first byte is neither a space nor a colon
abbrev Starts : List ℕ → Type 0
Starts [] = ⊥
Starts (b ∷ s) = (is_space b ≡ false) × ((b == 58) ≡ false)

command_starts : (w : List ℕ) → is_command w ≡ true → Starts w
command_starts [] h = cc
command_starts (x ∷ w) h =
    elim (or_cases _ (length (x ∷ w) == 3 && list_all is_digit (x ∷ w)) h) [
      | inl a ↦ letter_starts x (and_left (is_letter x) (list_all is_letter w) (and_right _ (list_all is_letter (x ∷ w)) a))
      | inr b ↦ digit_starts x (and_left (is_digit x) (list_all is_digit w) (and_right (length (x ∷ w) == 3) (list_all is_digit (x ∷ w)) b))
    ]

skip_start : (w r : List ℕ) → Starts w → skip_spaces (w ++ r) ≡ w ++ r
skip_start [] r h = elim h [ ]
skip_start (x ∷ w) r h = rw h.0 refl

abbrev parts : Option (List ℕ) → List ℕ → List ℕ → Parts
parts prefix word rest = record { prefix = prefix; command = map upper word; parameters = parameters_of rest }

read_word : (prefix : Option (List ℕ)) (w r : List ℕ) → is_command w ≡ true → Ends r → read_command prefix (w ++ r) ≡ Some (parts prefix w r)
read_word prefix w r h e = rw (word_all w r (command_solid w h) e, behind_all w r (command_solid w h) e, h) refl

read_bare : (w r : List ℕ) → is_command w ≡ true → Ends r → read_prefix (w ++ r) ≡ Some (parts None w r)
read_bare [] r h e = elim (command_starts [] h) [ ]
read_bare (x ∷ w) r h e = rw (command_starts (x ∷ w) h).1 (read_word None (x ∷ w) r h e)

pub word_solid : (p : List ℕ) → IsWord p → NoSpace p
word_solid [] h = elim h [ ]
word_solid (x ∷ p) h = h

word_some : (p : List ℕ) → IsWord p → (length p == 0) ≡ false
word_some [] h = elim h [ ]
word_some (x ∷ p) h = grind (arith, nat_tests)

read_prefixed : (p spaces w r : List ℕ) → IsWord p → AreSpaces spaces → is_command w ≡ true → Ends r
    → read_prefix (58 ∷ (p ++ 32 ∷ (spaces ++ (w ++ r)))) ≡ Some (parts (Some p) w r)
read_prefixed p spaces w r i a h e =
    let word : word_of (p ++ 32 ∷ (spaces ++ (w ++ r))) ≡ p = word_all p _ (word_solid p i) refl in
    let rest : behind_word (p ++ 32 ∷ (spaces ++ (w ++ r))) ≡ 32 ∷ (spaces ++ (w ++ r)) = behind_all p _ (word_solid p i) refl in
    rw (word, rest, word_some p i, skip_front spaces (w ++ r) a, skip_start w r (command_starts w h)) (read_word (Some p) w r h e)

read_from : (first w r : List ℕ) (prefix : Option (List ℕ)) → IsPrefix first prefix → is_command w ≡ true → Ends r
    → read_prefix (skip_spaces (first ++ (w ++ r))) ≡ Some (parts prefix w r)
read_from first w r None h c e = rw (h, skip_start w r (command_starts w c)) (read_bare w r c e)
read_from first w r (Some p) h c e = rw (h.3, append_assoc p (32 ∷ h.0) (w ++ r)) (read_prefixed p h.0 w r h.2 h.1 c e)

pub complete : (content : List ℕ) (p : Parts) → IsLine content p → read content ≡ Some p
unfolding read
complete content p h =
    let same : parts p.prefix h.2 h.3 ≡ p =
    ap (λ c. let v : Parts = record { prefix = p.prefix; command = c; parameters = parameters_of h.3 } in v) (sym h.8)
    ∙ ap (λ ps. let v : Parts = record { prefix = p.prefix; command = p.command; parameters = ps } in v) (tail_read h.9) in
    rw (h.4, skip_front h.0 (h.1 ++ (h.2 ++ h.3)) h.5) (read_from h.1 h.2 h.3 p.prefix h.6 h.7 (ends_tail h.9) ∙ ap Some same)

split_spaces_by : (b : ℕ) (s : List ℕ) (v : Bool) → is_space b ≡ v → ((spaces : List ℕ) × (s ≡ spaces ++ skip_spaces s) × AreSpaces spaces)
    → (spaces : List ℕ) × (b ∷ s ≡ spaces ++ (if v then skip_spaces s else b ∷ s)) × AreSpaces spaces
split_spaces_by b s true e h = (b ∷ h.0, ap (λ t. b ∷ t) h.1, and_both (is_space b) (list_all is_space h.0) e h.2)
split_spaces_by b s false e h = ([], refl, refl)

split_word_by : (b : ℕ) (s : List ℕ) (v : Bool) → is_space b ≡ v → (s ≡ word_of s ++ behind_word s) × NoSpace (word_of s) × Ends (behind_word s)
    → (b ∷ s ≡ (if v then [] else b ∷ word_of s) ++ (if v then b ∷ s else behind_word s)) × NoSpace (if v then [] else b ∷ word_of s) × Ends (if v then b ∷ s else behind_word s)
split_word_by b s true e h = (refl, refl, e)
split_word_by b s false e h = (ap (λ t. b ∷ t) h.0, and_both (not (is_space b)) _ (not_from _ e) h.1, h.2)

split_spaces : (s : List ℕ) → (spaces : List ℕ) × (s ≡ spaces ++ skip_spaces s) × AreSpaces spaces
split_spaces [] = ([], refl, refl)
split_spaces (b ∷ s) = split_spaces_by b s (is_space b) refl (split_spaces s)

split_word : (s : List ℕ) → (s ≡ word_of s ++ behind_word s) × NoSpace (word_of s) × Ends (behind_word s)
split_word [] = (refl, refl, tt)
split_word (b ∷ s) = split_word_by b s (is_space b) refl (split_word s)

space_is : (b : ℕ) → is_space b ≡ true → b ≡ 32
space_is b e = grind (arith, nat_tests)

colon_is : (b : ℕ) → (b == 58) ≡ true → b ≡ 58
colon_is b e = grind (arith, nat_tests)

abbrev pub NotSpaced : List ℕ → Type 0
NotSpaced [] = Unit {0}
NotSpaced (b ∷ s) = is_space b ≡ false

skipped_by : (b : ℕ) (s : List ℕ) (v : Bool) → is_space b ≡ v → NotSpaced (skip_spaces s) → NotSpaced (if v then skip_spaces s else b ∷ s)
skipped_by b s true e h = h
skipped_by b s false e h = e

pub skipped : (s : List ℕ) → NotSpaced (skip_spaces s)
skipped [] = tt
skipped (b ∷ s) = skipped_by b s (is_space b) refl (skipped s)

length_behind_by : (b : ℕ) (s : List ℕ) (v : Bool) → length (behind_word s) ≤ length s → length (if v then b ∷ s else behind_word s) ≤ length (b ∷ s)
length_behind_by b s true h = omega arith
length_behind_by b s false h = omega arith

pub length_behind : (s : List ℕ) → length (behind_word s) ≤ length s
length_behind [] = omega arith
length_behind (b ∷ s) = length_behind_by b s (is_space b) (length_behind s)

length_skip_by : (b : ℕ) (s : List ℕ) (v : Bool) → length (skip_spaces s) ≤ length s → length (if v then skip_spaces s else b ∷ s) ≤ length (b ∷ s)
length_skip_by b s true h = omega arith
length_skip_by b s false h = omega arith

pub length_skip : (s : List ℕ) → length (skip_spaces s) ≤ length s
length_skip [] = omega arith
length_skip (b ∷ s) = length_skip_by b s (is_space b) (length_skip s)

tail_at_by : (spaces : List ℕ) (x : ℕ) (v : List ℕ) (c : Bool) → (x == 58) ≡ c → AreSpaces spaces → is_space x ≡ false
    → ((r : List ℕ) → length r < length (x ∷ v) → Ends r → IsTail r (parameters_of r)) → IsTail (32 ∷ (spaces ++ x ∷ v)) (parameters_of (x ∷ v))
tail_at_by spaces x v true c h n ih =
    let q : parameters_of (x ∷ v) ≡ v ∷ [] = rw (parameters_from, n, c) refl in
    rw (q, colon_is x c) (trailing spaces v h)
tail_at_by spaces x v false c h n ih =
    let w = split_word v in
    let q : parameters_of (x ∷ v) ≡ (x ∷ word_of v) ∷ parameters_of (behind_word v) = rw (parameters_from, n, c, behind v) refl in
    let len = length_behind v in
    let t = middle spaces (x ∷ word_of v) (behind_word v) (parameters_of (behind_word v)) h (c, and_both (not (is_space x)) _ (not_from _ n) w.1) (ih (behind_word v) (omega arith) w.2) in
    rw q (subst (λ y. IsTail (32 ∷ (spaces ++ x ∷ y)) ((x ∷ word_of v) ∷ parameters_of (behind_word v))) (sym w.0) t)

-- the tail of a line, by what follows its first spaces
tail_at : (spaces u : List ℕ) → AreSpaces spaces → NotSpaced u → ((r : List ℕ) → length r < length u → Ends r → IsTail r (parameters_of r)) → IsTail (32 ∷ (spaces ++ u)) (parameters_of u)
tail_at spaces [] h n ih = subst (λ t. IsTail (32 ∷ t) []) (sym (append-nil spaces)) (none (32 ∷ spaces) h)
tail_at spaces (x ∷ v) h n ih = tail_at_by spaces x v (x == 58) refl h n ih

-- the tail of a line, by its greatest length
tail_made : (n : ℕ) (s : List ℕ) → length s ≤ n → Ends s → IsTail s (parameters_of s)
tail_made n [] l e = none [] refl
tail_made zero (b ∷ s) l e = absurd (omega arith)
tail_made (suc n) (b ∷ s) l e =
    let sp = split_spaces s in
    let q : parameters_of (b ∷ s) ≡ parameters_of (skip_spaces s) = rw (parameters_from, e) (ap (λ t. parameters_of t) sp.1 ∙ parameters_spaces sp.0 (skip_spaces s) sp.2) in
    let len = length_skip s in
    let made = tail_at sp.0 (skip_spaces s) sp.2 (skipped s) (λ r lt er. tail_made n r (omega arith) er) in
    let m : IsTail (32 ∷ s) (parameters_of (skip_spaces s)) = subst (λ t. IsTail (32 ∷ t) (parameters_of (skip_spaces s))) (sym sp.1) made in
    let m' : IsTail (b ∷ s) (parameters_of (skip_spaces s)) = subst (λ x. IsTail (x ∷ s) (parameters_of (skip_spaces s))) (sym (space_is b e)) m in
    subst (λ ps. IsTail (b ∷ s) ps) (sym q) m'

read_command_is_by : (pre : Option (List ℕ)) (t : List ℕ) (p : Parts) (v : Bool) → is_command (word_of t) ≡ v
    → (if v then Some (parts pre (word_of t) (behind_word t)) else None) ≡ Some p → (is_command (word_of t) ≡ true) × (parts pre (word_of t) (behind_word t) ≡ p)
read_command_is_by pre t p true e h = (e, cc)
read_command_is_by pre t p false e h = cc

read_command_is : (pre : Option (List ℕ)) (t : List ℕ) (p : Parts) → read_command pre t ≡ Some p → (is_command (word_of t) ≡ true) × (parts pre (word_of t) (behind_word t) ≡ p)
read_command_is pre t p h = read_command_is_by pre t p (is_command (word_of t)) refl h

tail_behind : (t : List ℕ) → IsTail (behind_word t) (parameters_of (behind_word t))
tail_behind t = tail_made (length (behind_word t)) (behind_word t) (omega arith) (split_word t).2

-- a line from which the first spaces are gone
abbrev IsFrom : List ℕ → Parts → Type 0
IsFrom u p =
    (first word rest : List ℕ) × (u ≡ first ++ (word ++ rest)) × IsPrefix first p.prefix × (is_command word ≡ true) × (p.command ≡ map upper word) × IsTail rest p.parameters

from_parts : (u first t : List ℕ) (pre : Option (List ℕ)) → u ≡ first ++ (word_of t ++ behind_word t) → IsPrefix first pre → is_command (word_of t) ≡ true → IsFrom u (parts pre (word_of t) (behind_word t))
from_parts u first t pre e i c = (first, word_of t, behind_word t, e, i, c, refl, tail_behind t)

from_command : (u first t : List ℕ) (pre : Option (List ℕ)) (p : Parts) → u ≡ first ++ t → IsPrefix first pre → read_command pre t ≡ Some p → IsFrom u p
from_command u first t pre p e i h =
    let r = read_command_is pre t p h in
    let whole : u ≡ first ++ (word_of t ++ behind_word t) = e ∙ ap (λ x. first ++ x) (split_word t).0 in
    subst (λ q. IsFrom u q) r.1 (from_parts u first t pre whole i r.0)

solid_word : (w : List ℕ) → NoSpace w → (length w == 0) ≡ false → IsWord w
solid_word [] h e = cc
solid_word (x ∷ w) h e = h

from_behind : (s w r : List ℕ) (p : Parts) → s ≡ w ++ r → NoSpace w → (length w == 0) ≡ false → Ends r → read_command (Some w) (skip_spaces r) ≡ Some p → IsFrom (58 ∷ s) p
from_behind s w [] p e n l x h = cc
from_behind s w (c ∷ r) p e n l x h =
    let sp = split_spaces r in
    let h' : read_command (Some w) (skip_spaces r) ≡ Some p = ap (λ v. read_command (Some w) (if v then skip_spaces r else c ∷ r)) (sym x) ∙ h in
    let whole : 58 ∷ s ≡ (58 ∷ (w ++ 32 ∷ sp.0)) ++ skip_spaces r =
    ap (λ t. 58 ∷ t) (e ∙ ap (λ y. w ++ y ∷ r) (space_is c x) ∙ ap (λ t. w ++ 32 ∷ t) sp.1 ∙ sym (append_assoc w (32 ∷ sp.0) (skip_spaces r))) in
    from_command (58 ∷ s) (58 ∷ (w ++ 32 ∷ sp.0)) (skip_spaces r) (Some w) p whole (sp.0, sp.2, solid_word w n l, refl) h'

from_colon : (s : List ℕ) (p : Parts) (v : Bool) → (length (word_of s) == 0) ≡ v
    → (if v then None else read_command (Some (word_of s)) (skip_spaces (behind_word s))) ≡ Some p → IsFrom (58 ∷ s) p
from_colon s p true e h = cc
from_colon s p false e h = let w = split_word s in from_behind s (word_of s) (behind_word s) p w.0 w.1 e w.2 h

from_start : (b : ℕ) (s : List ℕ) (p : Parts) (v : Bool) → (b == 58) ≡ v
    → (if v then (if length (word_of s) == 0 then None else read_command (Some (word_of s)) (skip_spaces (behind_word s))) else read_command None (b ∷ s)) ≡ Some p → IsFrom (b ∷ s) p
from_start b s p true e h = subst (λ x. IsFrom (x ∷ s) p) (sym (colon_is b e)) (from_colon s p (length (word_of s) == 0) refl h)
from_start b s p false e h = from_command (b ∷ s) [] (b ∷ s) None p refl refl h

from_prefix : (u : List ℕ) (p : Parts) → read_prefix u ≡ Some p → IsFrom u p
from_prefix [] p h = cc
from_prefix (b ∷ s) p h = from_start b s p (b == 58) refl h

pub sound : (content : List ℕ) (p : Parts) → read content ≡ Some p → IsLine content p
unfolding read
sound content p h =
    let sp = split_spaces content in
    let f = from_prefix (skip_spaces content) p h in
    (sp.0, f.0, f.1, f.2, sp.1 ∙ ap (λ t. sp.0 ++ t) f.3, sp.2, f.4, f.5, f.6, f.7)

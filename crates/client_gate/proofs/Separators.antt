-- Bytes that are cut at their separators.
use Rattle.std.proofs.Common.{suc, ◌≡◌, ℕ, Bool, true, false, not, cond, List, [], ◌∷◌, ◌++◌, length, take, drop, get_or, refl, ap, sym, subst, append_assoc, ◌∙◌, arith, ◌≤◌, ◌<◌, ◌+◌}
use Rattle.std.specs.Prelude.{◌==◌, Some, None, nat_lt, position}
use Rattle.std.specs.List.{position_or_len}
use Rattle.std.proofs.lemmas.Bool.Decides.{nat_tests}
use Rattle.std.proofs.lemmas.List.{take_all}
use Rattle.std.proofs.lemmas.List.Sums.{split_at_first, passes_at_first}
use Rattle.irc_line.proofs.Booleans.{and_left, and_right, not_true}
use Rattle.client_gate.specs.Words.{pieces}
use Rattle.client_gate.specs.Cuts.{HasNone, IsCutAt}

pub pieces_none : (x : ℕ) (s : List ℕ) → HasNone x s → pieces x s ≡ s ∷ []
pieces_none x [] h = refl
pieces_none x (b ∷ s) h =
    rw (not_true (b == x) (and_left (not (b == x)) _ h), pieces_none x s (and_right (not (b == x)) _ h)) refl

itself : (x : ℕ) → (x == x) ≡ true
itself x = grind (arith, nat_tests)

pub pieces_one : (x : ℕ) (piece rest : List ℕ) → HasNone x piece → pieces x (piece ++ x ∷ rest) ≡ piece ∷ pieces x rest
pieces_one x [] rest h = rw (itself x) refl
pieces_one x (b ∷ s) rest h =
    rw (not_true (b == x) (and_left (not (b == x)) _ h), pieces_one x s rest (and_right (not (b == x)) _ h)) refl

one_more : (n : ℕ) → 1 + n ≡ suc n
one_more n = omega arith

front_passes_by : (x b : ℕ) (s : List ℕ) (n : ℕ) (t : Bool) → (b == x) ≡ t → HasNone x (take n s) → HasNone x (take (cond (not t) (1 + n) 0) (b ∷ s))
front_passes_by x b s n true e h = refl
front_passes_by x b s n false e h = rw (one_more n, e) h

front_passes : (x : ℕ) (s : List ℕ) → HasNone x (take (position_or_len (λ b. b == x) s) s)
front_passes x [] = refl
front_passes x (b ∷ s) = front_passes_by x b s (position_or_len (λ b. b == x) s) (b == x) refl (front_passes x s)

some_by : (s : List ℕ) (m n : ℕ) (t : Bool) → nat_lt m (length s) ≡ t → cond t (Some m) None ≡ Some n → (m ≡ n) × (m < length s)
some_by s m n true e h = (cc, grind (arith, nat_tests))
some_by s m n false e h = cc

is_it : (x b : ℕ) → (b == x) ≡ true → b ≡ x
is_it x b e = grind (arith, nat_tests)

-- the place of the first separator is where to cut
pub at_place : (x : ℕ) (s : List ℕ) (n : ℕ) → position (λ b. b == x) s ≡ Some n → (n < length s) × IsCutAt x s (take n s) (drop (n + 1) s)
at_place x s n h =
    let m = position_or_len (λ b. b == x) s in
    let both : (m ≡ n) × (m < length s) = some_by s m n (nat_lt m (length s)) refl h in
    let it : get_or s m 0 ≡ x = is_it x (get_or s m 0) (passes_at_first (λ b. b == x) s 0 both.1) in
    let cut : (m < length s) × IsCutAt x s (take m s) (drop (m + 1) s) =
    (both.1, (front_passes x s, split_at_first (λ b. b == x) s 0 both.1 ∙ ap (λ b. take m s ++ b ∷ drop (m + 1) s) it)) in
    subst (λ k. (k < length s) × IsCutAt x s (take k s) (drop (k + 1) s)) both.0 cut

none_by : (s : List ℕ) (m : ℕ) (t : Bool) → nat_lt m (length s) ≡ t → cond t (Some m) None ≡ None → length s ≤ m
none_by s m true e h = cc
none_by s m false e h = grind (arith, nat_tests)

-- if there is no such place, there is no separator
pub no_place : (x : ℕ) (s : List ℕ) → position (λ b. b == x) s ≡ None → HasNone x s
no_place x s h =
    let m = position_or_len (λ b. b == x) s in
    subst (λ t. HasNone x t) (take_all m s (none_by s m (nat_lt m (length s)) refl h)) (front_passes x s)

-- a piece is cut off
pub one_piece_more : (x : ℕ) (before : List (List ℕ)) (rest piece behind : List ℕ) (whole : List (List ℕ)) → IsCutAt x rest piece behind → before ++ pieces x rest ≡ whole
    → (before ++ piece ∷ []) ++ pieces x behind ≡ whole
one_piece_more x before rest piece behind whole cut all =
    append_assoc before (piece ∷ []) (pieces x behind) ∙ ap (λ t. before ++ t) (sym (ap (pieces x) cut.1 ∙ pieces_one x piece behind cut.0)) ∙ all

-- the last piece is the rest
pub last_piece : (x : ℕ) (before : List (List ℕ)) (rest : List ℕ) (whole : List (List ℕ)) → HasNone x rest → before ++ pieces x rest ≡ whole → before ++ rest ∷ [] ≡ whole
last_piece x before rest whole none all = ap (λ t. before ++ t) (sym (pieces_none x rest none)) ∙ all

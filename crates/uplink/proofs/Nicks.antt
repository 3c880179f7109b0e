-- A nick with `_` after it is a name while it is at most 64 bytes.
use Rattle.std.proofs.Common.{◌≡◌, ℕ, Bool, true, false, not, ◌&&◌, List, [], ◌∷◌, ◌++◌, length, refl, ap, ◌∙◌, arith, MatchOption}
use Rattle.std.specs.Prelude.{Option, Some, None, if◌then◌else◌, IsTrue, nat_le}
use Rattle.std.specs.List.{list_all}
use Rattle.std.proofs.lemmas.Bool.Decides.{nat_tests}
use Rattle.std.proofs.lemmas.List.Folds.{list_all-append}
use Rattle.irc_line.specs.Names.{IsPassed, first_is, is_name, is_name_byte}
use Rattle.uplink.specs.Sessions.{next_nick}

and_left : (a b : Bool) → (a && b) ≡ true → a ≡ true
and_left true b e = refl
and_left false b e = cc

and_right : (a b : Bool) → (a && b) ≡ true → b ≡ true
and_right true b e = e
and_right false b e = cc

-- a first test and two last ones that pass leave the second
second_left : (a b c d : Bool) → a ≡ true → c ≡ true → d ≡ true → (a && b && c && d) ≡ b
second_left true true true true p q r = refl
second_left true false true true p q r = refl
second_left false b c d p q r = cc
second_left true b false d p q r = cc
second_left true b true false p q r = cc

some_bytes : (b : ℕ) (rest : List ℕ) → nat_le 1 (length (b ∷ rest)) ≡ true
some_bytes b rest = grind (arith, nat_tests)

-- a name with `_` after it can fail only by its length
pub longer_name : (nick : List ℕ) → is_name nick ≡ true → is_name (nick ++ 95 ∷ []) ≡ nat_le (length (nick ++ 95 ∷ [])) 64
unfolding is_name
longer_name [] h = cc
longer_name (b ∷ rest) h =
    let nick : List ℕ = b ∷ rest in
    let next : List ℕ = nick ++ 95 ∷ [] in
    let front : (nat_le 1 (length nick) && nat_le (length nick) 64 && list_all is_name_byte nick) ≡ true =
    and_left (nat_le 1 (length nick) && nat_le (length nick) 64 && list_all is_name_byte nick) (not (first_is 58 nick)) h in
    let bytes : list_all is_name_byte nick ≡ true = and_right (nat_le 1 (length nick) && nat_le (length nick) 64) (list_all is_name_byte nick) front in
    let first : not (first_is 58 nick) ≡ true = and_right (nat_le 1 (length nick) && nat_le (length nick) 64 && list_all is_name_byte nick) (not (first_is 58 nick)) h in
    let all : list_all is_name_byte next ≡ true = list_all-append is_name_byte nick (95 ∷ []) ∙ ap (λ t. t && true) bytes in
    second_left (nat_le 1 (length next)) (nat_le (length next) 64) (list_all is_name_byte next) (not (first_is 58 next)) (some_bytes b (rest ++ 95 ∷ [])) all first

next_by : (bytes : List ℕ) (fits : Bool) (r : Option (List ℕ)) → is_name bytes ≡ fits → MatchOption r (is_name bytes ≡ false) (IsPassed is_name bytes) → r ≡ (if fits then Some bytes else None)
next_by bytes true None e h = cc
next_by bytes false None e h = refl
next_by bytes true (Some v) e h = ap Some h.0
next_by bytes false (Some v) e h = let t : is_name bytes ≡ true = h.1 in cc

-- the name that is made of a nick and `_`, or none, is the next nick
pub next_is : (nick : List ℕ) (r : Option (List ℕ)) → IsTrue (is_name nick) → MatchOption r (is_name (nick ++ 95 ∷ []) ≡ false) (IsPassed is_name (nick ++ 95 ∷ [])) → r ≡ next_nick nick
next_is nick r n h = next_by (nick ++ 95 ∷ []) (nat_le (length (nick ++ 95 ∷ [])) 64) r (longer_name nick n) h

-- The canonical spelling of a line is read back as that line.
use Rattle.std.proofs.Common.{◌≡◌, ℕ, Bool, true, false, not, ◌||◌, List, [], ◌∷◌, ◌++◌, length, refl, ap, sym, subst, ◌∙◌, append_assoc, ◌≤◌}
use Rattle.std.specs.Prelude.{if◌then◌else◌, ◌==◌, Option, Some, None, Ok, IsTrue}
use Rattle.std.specs.List.{list_any}
use Rattle.irc_line.specs.Names.{first_is}
use Rattle.irc_line.specs.Lines.{Parts, are_parameters, has_colon, is_line, is_middle, is_prefix, is_spoken, spelled_parameters, spelled_prefix, spelling}
use Rattle.irc_line.specs.Grammar.{is_space, AreContent, IsLine, IsMiddle, IsPrefix, IsTail, none, trailing, middle}
use Rattle.irc_line.specs.Reading.{read, judged}
use Rattle.irc_line.proofs.Grammar.{NoSpace, complete}
use Rattle.irc_line.proofs.Building.{line_facts}
use Rattle.irc_line.proofs.Judging.{judged_ok}
use Rattle.irc_line.proofs.Booleans.{and_both, and_left, and_right, not_from}
use Rattle.irc_line.proofs.Words.{content_both, word_holds, word_content, middle_holds, middle_content, command_holds}
use Rattle.std.proofs.lemmas.List.{append-nil}

or_false : (a b : Bool) → (a || b) ≡ false → (a ≡ false) × (b ≡ false)
or_false true b e = cc
or_false false b e = (refl, e)

no_space : (w : List ℕ) → list_any (λ b. b == 32) w ≡ false → NoSpace w
no_space [] h = refl
no_space (x ∷ w) h =
    let both = or_false (x == 32) (list_any (λ b. b == 32) w) h in
    and_both (not (is_space x)) _ (not_from (x == 32) both.0) (no_space w both.1)

-- a parameter that needs no colon is a middle
plain_middle : (command last : List ℕ) → has_colon command last ≡ false → IsMiddle last
plain_middle command [] h = cc
plain_middle command (x ∷ w) h =
    let spoken = or_false (length (x ∷ w) == 0 || first_is 58 (x ∷ w) || list_any (λ b. b == 32) (x ∷ w)) (is_spoken command) h in
    let spaced = or_false (length (x ∷ w) == 0 || first_is 58 (x ∷ w)) (list_any (λ b. b == 32) (x ∷ w)) spoken.0 in
    let first = or_false (length (x ∷ w) == 0) (first_is 58 (x ∷ w)) spaced.0 in
    (first.1, no_space (x ∷ w) spaced.1)

last_tail_by : (command last : List ℕ) (b : Bool) → has_colon command last ≡ b → IsTail (if b then 32 ∷ 58 ∷ last else 32 ∷ last) (last ∷ [])
last_tail_by command last true e = trailing [] last refl
last_tail_by command last false e = subst (λ t. IsTail (32 ∷ t) (last ∷ [])) (append-nil last) (middle [] last [] [] refl (plain_middle command last e) (none [] refl))

pub tail_spelled : (command : List ℕ) (ps : List (List ℕ)) → are_parameters ps ≡ true → IsTail (spelled_parameters command ps) ps
tail_spelled command [] h = none [] refl
tail_spelled command (last ∷ []) h = last_tail_by command last (has_colon command last) refl
tail_spelled command (x ∷ y ∷ rest) h =
    middle [] x (spelled_parameters command (y ∷ rest)) (y ∷ rest) refl (middle_holds x (and_left (is_middle x) _ h)) (tail_spelled command (y ∷ rest) (and_right (is_middle x) _ h))

last_content_by : (last : List ℕ) (b : Bool) → AreContent last → AreContent (if b then 32 ∷ 58 ∷ last else 32 ∷ last)
last_content_by last true h = h
last_content_by last false h = h

tail_content : (command : List ℕ) (ps : List (List ℕ)) → are_parameters ps ≡ true → AreContent (spelled_parameters command ps)
tail_content command [] h = refl
tail_content command (last ∷ []) h = last_content_by last (has_colon command last) h
tail_content command (x ∷ y ∷ rest) h =
    content_both (32 ∷ x) (spelled_parameters command (y ∷ rest)) (middle_content x (and_left (is_middle x) _ h)) (tail_content command (y ∷ rest) (and_right (is_middle x) _ h))

prefix_spelled : (o : Option (List ℕ)) → is_prefix o ≡ true → IsPrefix (spelled_prefix o) o
prefix_spelled None h = refl
prefix_spelled (Some p) h = ([], refl, word_holds p h, refl)

prefix_content : (o : Option (List ℕ)) → is_prefix o ≡ true → AreContent (spelled_prefix o)
prefix_content None h = refl
prefix_content (Some p) h = content_both p (32 ∷ []) (word_content p h) refl

-- the canonical spelling of a line is a content that means that line
pub line_spelled : (p : Parts) → IsTrue (is_line p) → IsLine (spelling p) p
unfolding spelling
line_spelled p h =
    let m = line_facts p h in
    let c = command_holds p.command m.command in
    ([], spelled_prefix p.prefix, p.command, spelled_parameters p.command p.parameters, append_assoc (spelled_prefix p.prefix) p.command (spelled_parameters p.command p.parameters), refl, prefix_spelled p.prefix m.prefix, c.0, c.1, tail_spelled p.command p.parameters m.parameters)

pub line_content : (p : Parts) → IsTrue (is_line p) → AreContent (spelling p)
unfolding spelling
line_content p h =
    let m = line_facts p h in
    content_both (spelled_prefix p.prefix ++ p.command) _ (content_both (spelled_prefix p.prefix) p.command (prefix_content p.prefix m.prefix) (command_holds p.command m.command).2) (tail_content p.command p.parameters m.parameters)

-- and it is read back
pub spelling_judged : (p : Parts) → IsTrue (is_line p) → length (spelling p) ≤ 511 → judged (spelling p) ≡ Ok p
spelling_judged p h l = judged_ok (spelling p) p l (line_content p h) (line_spelled p h) (line_facts p h).few l

some_same : (p q : Parts) → (let o : Option Parts = Some p in o ≡ Some q) → p ≡ q
some_same p q h = cc

-- two lines with one spelling are equal
pub one_line : (p q : Parts) → IsTrue (is_line p) → IsTrue (is_line q) → spelling p ≡ spelling q → p ≡ q
one_line p q h k e = some_same p q (sym (complete (spelling p) p (line_spelled p h)) ∙ ap read e ∙ complete (spelling q) q (line_spelled q k))

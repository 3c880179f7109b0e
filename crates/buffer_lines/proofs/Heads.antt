-- How lines of two parameters are spelled whose second has a colon before it.
use Rattle.std.proofs.Common.{◌≡◌, ℕ, ◌/◌, ◌%◌, length, Bool, true, false, ◌||◌, List, [], ◌∷◌, ◌++◌, refl, append_assoc}
use Rattle.std.specs.Prelude.{Option, ◌==◌}
use Rattle.std.specs.List.{list_any}
use Rattle.irc_line.specs.Lines.{Parts, parameter, spelling, has_colon, is_spoken}
use Rattle.irc_line.specs.Names.{action_mark, begins_with, first_is}
use Rattle.buffer_lines.specs.Stamps.{timed, stamp, two_digits, stamped, second_of_day}
use Rattle.buffer_lines.specs.Heads.{head}
use Rattle.irc_line.proofs.Booleans.{or_first, or_true}

or_true_middle : (a b c : Bool) → (a || b || true || c) ≡ true
or_true_middle true b c = refl
or_true_middle false true c = refl
or_true_middle false false c = refl

list_any-here : (p : ℕ → Bool) (front rest : List ℕ) (b : ℕ) → p b ≡ true → list_any p (front ++ b ∷ rest) ≡ true
list_any-here p [] rest b h = or_first (p b) (list_any p rest) h
list_any-here p (x ∷ front) rest b h = rw (list_any-here p front rest b h) (or_true (p x))

-- a text with a space in it has a colon before it
colon_space : (command text : List ℕ) → list_any (λ b. b == 32) text ≡ true → has_colon command text ≡ true
colon_space command text h = rw h (or_true_middle (length text == 0) (first_is 58 text) (is_spoken command))

-- the spelling of a line whose text has a colon before it
pub spelling_colon : (prefix : Option (List ℕ)) (command target text : List ℕ) → has_colon command text ≡ true
    → spelling (record { prefix = prefix; command = command; parameters = target ∷ text ∷ [] }) ≡ head prefix command target ++ text
unfolding spelling
spelling_colon prefix command target text h = rw h (simp append_assoc)

-- a time ends with a space
time_space : (second : ℕ) (text : List ℕ) → list_any (λ b. b == 32) (stamp second ++ text) ≡ true
time_space second text =
    list_any-here (λ b. b == 32) (91 ∷ (two_digits (second / 3600) ++ (58 ∷ two_digits (second / 60 % 60)) ++ (58 ∷ two_digits (second % 60)) ++ 93 ∷ [])) text 32 refl

stamped_space_by : (offset moment : ℕ) (text : List ℕ) (b : Bool) → begins_with text action_mark ≡ b → list_any (λ b. b == 32) (stamped offset moment text) ≡ true
unfolding stamped
stamped_space_by offset moment text true e = rw e refl
stamped_space_by offset moment text false e = rw e (time_space (second_of_day offset moment) text)

pub spelling_timed : (offset : ℕ) (k : ℕ × Parts) → spelling (timed offset k) ≡ head (k.1.prefix) (k.1.command) (parameter 0 (k.1)) ++ stamped offset k.0 (parameter 1 (k.1))
unfolding timed
spelling_timed offset k =
    spelling_colon (k.1.prefix) (k.1.command) (parameter 0 (k.1)) (stamped offset k.0 (parameter 1 (k.1)))
    (colon_space (k.1.command) (stamped offset k.0 (parameter 1 (k.1))) (stamped_space_by offset k.0 (parameter 1 (k.1)) (begins_with (parameter 1 (k.1)) action_mark) refl))

-- a played line appended to other bytes
pub played_behind : (offset : ℕ) (k : ℕ × Parts) (out : List ℕ) → out ++ spelling (timed offset k) ≡ (out ++ head (k.1.prefix) (k.1.command) (parameter 0 (k.1))) ++ stamped offset k.0 (parameter 1 (k.1))
played_behind offset k out =
    rw (spelling_timed offset k) (rw (append_assoc out (head (k.1.prefix) (k.1.command) (parameter 0 (k.1))) (stamped offset k.0 (parameter 1 (k.1)))) refl)

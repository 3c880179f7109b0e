-- The parameters after a word.
use Rattle.std.proofs.Common.{◌≡◌, ℕ, Bool, true, false, List, [], ◌∷◌, refl, ap, sym, ◌+◌, ◌≤◌, ◌≢◌, ◌∙◌, take, drop, get_or, length, arith, add-one}
use Rattle.std.specs.Prelude.{◌==◌}
use Rattle.std.specs.Prelude.{if◌then◌else◌}
use Rattle.irc_line.specs.Grammar.{is_space}
use Rattle.irc_line.specs.Reading.{word_of, behind_word, parameters_from, parameters_of}
use Rattle.irc_line.proofs.Numbers.{of_ne}

space : (x : ℕ) (s : List ℕ) → is_space x ≡ true → parameters_from false (x ∷ s) ≡ parameters_from false s
space x s e = rw (parameters_from, e) refl

behind_by : (x : ℕ) (s : List ℕ) (b : Bool) → is_space x ≡ b → parameters_from true s ≡ parameters_of (behind_word s)
    → (if b then parameters_from false s else parameters_from true s) ≡ parameters_of (if b then x ∷ s else behind_word s)
behind_by x s true e ih = sym (space x s e)
behind_by x s false e ih = ih

pub behind : (s : List ℕ) → parameters_from true s ≡ parameters_of (behind_word s)
behind [] = refl
behind (x ∷ s) = behind_by x s (is_space x) refl (behind s)

word_first : (x : ℕ) (s : List ℕ) → is_space x ≡ false → (x == 58) ≡ false → parameters_from false (x ∷ s) ≡ (x ∷ word_of s) ∷ parameters_from true s
word_first x s e f = rw (parameters_from, e, f) refl

pub at_word : (text : List ℕ) (n : ℕ) → 1 ≤ length text → get_or text 0 0 ≢ 32 → get_or text 0 0 ≢ 58
    → take n (drop 1 text) ≡ word_of (drop 1 text) → drop n (drop 1 text) ≡ behind_word (drop 1 text)
    → parameters_of text ≡ take (n + 1) text ∷ parameters_of (drop n (drop 1 text))
at_word [] n h a b w r = absurd (omega arith)
at_word (x ∷ s) n h a b w r = rw (r, add-one, w) (word_first x s (of_ne x 32 a) (of_ne x 58 b) ∙ ap (λ ps. (x ∷ word_of s) ∷ ps) (behind s))

-- The first parameter of a text, and what follows it.
use Rattle.std.proofs.Common.{◌≡◌, ◌≢◌, ℕ, ◌-◌, Bool, true, false, List, [], ◌∷◌, take, drop, get_or, length, refl, ap, sym, ◌∙◌, arith, ◌≤◌}
use Rattle.std.specs.Prelude.{if◌then◌else◌}
use Rattle.std.proofs.lemmas.List.{take_rest}
use Rattle.irc_line.specs.Grammar.{is_space}
use Rattle.irc_line.specs.Reading.{IsFirstParameter, skip_spaces, word_of, behind_word, parameters_from, parameters_of}
use Rattle.irc_line.proofs.Grammar.{NotSpaced, skipped, length_behind, length_skip}
use Rattle.irc_line.proofs.Parameters.{behind}
use Rattle.irc_line.proofs.Numbers.{of_eq, of_ne}

skip_by : (b : ℕ) (s : List ℕ) (v : Bool) → is_space b ≡ v → parameters_of (skip_spaces s) ≡ parameters_of s
    → parameters_of (if v then skip_spaces s else b ∷ s) ≡ parameters_of (b ∷ s)
skip_by b s true e h = h ∙ sym (rw (parameters_from, e) refl)
skip_by b s false e h = refl

parameters_skip : (s : List ℕ) → parameters_of (skip_spaces s) ≡ parameters_of s
parameters_skip [] = refl
parameters_skip (b ∷ s) = skip_by b s (is_space b) refl (parameters_skip s)

none_in : (s : List ℕ) → length s ≡ 0 → parameters_of s ≡ []
none_in [] h = refl
none_in (b ∷ s) h = absurd (omega arith)

pub no_parameter : (text rest : List ℕ) → rest ≡ skip_spaces text → length rest ≡ 0 → parameters_of text ≡ []
no_parameter text rest e h = sym (parameters_skip text) ∙ ap parameters_of (sym e) ∙ none_in rest h

trailing_in : (s : List ℕ) → NotSpaced s → 1 ≤ length s → get_or s 0 0 ≡ 58 → parameters_of s ≡ drop 1 s ∷ []
trailing_in [] n l h = absurd (omega arith)
trailing_in (b ∷ s) n l h = rw (parameters_from, n, of_eq b 58 h) refl

-- where a colon comes first, all that follows it is the last parameter
pub trailing_parameter : (text rest : List ℕ) → rest ≡ skip_spaces text → 1 ≤ length rest → get_or rest 0 0 ≡ 58 → IsFirstParameter text (take (length rest - 1) (drop 1 rest)) []
trailing_parameter text rest e l h =
    let whole : length rest ≤ length text = rw e (length_skip text) in
    record {
      whole = sym (parameters_skip text) ∙ ap parameters_of (sym e) ∙ trailing_in rest (rw e (skipped text)) l h ∙ ap (λ t. t ∷ []) (sym (take_rest rest 1));
      shorter = omega arith;
    }

word_in : (s : List ℕ) → NotSpaced s → 1 ≤ length s → get_or s 0 0 ≢ 58 → IsFirstParameter s (word_of s) (behind_word s)
word_in [] n l h = absurd (omega arith)
word_in (b ∷ s) n l h =
    let len = length_behind s in
    record { whole = rw (parameters_from, n, of_ne b 58 h, behind s) refl; shorter = rw n (omega arith) }

-- else the first parameter is a word
pub word_parameter : (text rest word after : List ℕ) → rest ≡ skip_spaces text → 1 ≤ length rest → get_or rest 0 0 ≢ 58 → word ≡ word_of rest → after ≡ behind_word rest → IsFirstParameter text word after
word_parameter text rest word after e l h w a =
    let f = word_in rest (rw e (skipped text)) l h in
    let len : length rest ≤ length text = rw e (length_skip text) in
    let short = f.shorter in
    record { whole = sym (parameters_skip text) ∙ ap parameters_of (sym e) ∙ rw (w, a) f.whole; shorter = rw a (omega arith) }

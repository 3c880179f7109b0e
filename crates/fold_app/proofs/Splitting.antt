-- The lines of bytes that are cut at an LF, or have none.
use Rattle.std.proofs.Common.{◌≡◌, ℕ, ◌<◌, false, not, List, [], ◌∷◌, ◌++◌, length, refl, arith}
use Rattle.irc_line.proofs.Booleans.{and_left, and_right, not_true}
use Rattle.irc_line.specs.Splitting.{is_line_feed, HasNoLineFeed}
use Rattle.fold_app.specs.Lines.{lines_of}

no_end : (b : ℕ) (s : List ℕ) → HasNoLineFeed (b ∷ s) → is_line_feed b ≡ false
no_end b s h = not_true (is_line_feed b) (and_left (not (is_line_feed b)) _ h)

none_behind : (b : ℕ) (s : List ℕ) → HasNoLineFeed (b ∷ s) → HasNoLineFeed s
none_behind b s h = and_right (not (is_line_feed b)) _ h

-- an LF ends the first line
pub first_ended : (line rest : List ℕ) → HasNoLineFeed line → lines_of (line ++ 10 ∷ rest) ≡ line ∷ lines_of rest
first_ended [] rest h = refl
first_ended (b ∷ line) rest h = rw (no_end b line h, first_ended line rest (none_behind b line h)) refl

-- without an LF all is one line
pub one_open : (b : ℕ) (line : List ℕ) → HasNoLineFeed (b ∷ line) → lines_of (b ∷ line) ≡ (b ∷ line) ∷ []
one_open b [] h = rw (no_end b [] h) refl
one_open b (c ∷ line) h = rw (no_end b (c ∷ line) h, one_open c line (none_behind b (c ∷ line) h)) refl

pub first_open : (line : List ℕ) → 0 < length line → HasNoLineFeed line → lines_of line ≡ line ∷ []
first_open [] l h = absurd (omega arith)
first_open (b ∷ line) l h = one_open b line h

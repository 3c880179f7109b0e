-- How long a line that joins channels is.
use Rattle.std.proofs.Common.{◌≡◌, ◌∙◌, ◌++◌, ◌≤◌, ◌<◌, ◌+◌, ◌-◌, ℕ, suc, Bool, true, List, [], ◌∷◌, length, drop, refl, sym, ap, subst, arith}
use Rattle.std.specs.Prelude.{codes}
use Rattle.std.proofs.lemmas.Bool.{leb-true}
use Rattle.std.proofs.lemmas.List.{length-append, length-drop}
use Rattle.driver.specs.Joining.{Joined, JoinsFit, fits_in, join_text, key_size, key_text, with_channel}

key_text_long : (keys : List ℕ) → length (key_text keys) ≡ length keys
key_text_long [] = refl
key_text_long (comma ∷ keys) = refl

text_long : (line : Joined) → length (join_text line) ≡ 5 + (length line.keyed + length line.plain - 1 + length line.keys)
text_long line =
    length-append (codes "JOIN ") (drop 1 (line.keyed ++ line.plain) ++ key_text line.keys)
    ∙ ap (λ (count : ℕ). 5 + count)
    (length-append (drop 1 (line.keyed ++ line.plain)) (key_text line.keys)
    ∙ ap (λ (count : ℕ). count + length (key_text line.keys)) (length-drop 1 (line.keyed ++ line.plain) ∙ ap (λ (count : ℕ). count - 1) (length-append line.keyed line.plain))
    ∙ ap (λ (count : ℕ). length line.keyed + length line.plain - 1 + count) (key_text_long line.keys))

-- with a comma and a name more
longer : (names name : List ℕ) → length (names ++ 44 ∷ name) ≡ length names + suc (length name)
longer names name = length-append names (44 ∷ name)

fits_by : (key channel : List ℕ) (line : Joined) → length line.keyed + length line.plain + length line.keys + (length channel + key_size key) < 506
    → length (join_text (with_channel channel key line)) ≤ 510
fits_by [] channel line less =
    let long = text_long (with_channel channel [] line) in
    let more = longer line.plain channel in
    omega (arith, less, long, more)
fits_by (byte ∷ key) channel line less =
    let long = text_long (with_channel channel (byte ∷ key) line) in
    let more = longer line.keyed channel in
    let keys = longer line.keys (byte ∷ key) in
    omega (arith, less, long, more, keys)

pub joins_fit : JoinsFit
joins_fit line channel key is =
    fits_by key channel line (leb-true _ _ is)

-- A line whose command begins with a J closes no channel for anybody.
use Rattle.std.proofs.Common.{◌≡◌, ◌∙◌, ◌-◌, ◌≤◌, ℕ, Bool, true, false, not, ◌&&◌, ◌||◌, List, [], ◌∷◌, Some, None, take, drop, length, slice_index_or, refl, sym, ap, arith}
use Rattle.std.specs.Prelude.{◌==◌, codes, if◌then◌else◌}
use Rattle.std.proofs.Math.Seq.{take-length}
use Rattle.std.proofs.lemmas.List.Sums.{take_while-cons}
use Rattle.irc_line.specs.Names.{same_bytes, same_name}
use Rattle.driver.specs.Opening.{behind_space, channel_left, first_in, second_in, source_in, upto}

-- neither a PART nor a KICK
neither : (prefixed parts kicks own meant : Bool) (name : List ℕ) → parts ≡ false → kicks ≡ false → None ≡ (if prefixed && (parts && own || kicks && meant) then Some name else None)
neither prefixed true kicks own meant name p k = absurd (cc p)
neither prefixed false true own meant name p k = absurd (cc k)
neither true false false own meant name p k = refl
neither false false false own meant name p k = refl

-- its command begins with the J, too
command_is : (more : List ℕ) → upto 32 (74 ∷ more) ≡ 74 ∷ upto 32 more
command_is more = take_while-cons (λ b. not (b == 32)) 74 more

-- by the bytes after the first space
no_parting : (nick line rest : List ℕ) (byte : ℕ) → rest ≡ behind_space line → 1 ≤ length rest → slice_index_or rest 0 0 ≡ 74 → None ≡ channel_left nick (byte ∷ line)
no_parting nick line [] byte is l first = absurd (omega arith)
no_parting nick line (x ∷ more) byte is l first =
    let command = ap (upto 32) (sym is ∙ ap (λ (b : ℕ). b ∷ more) first) ∙ command_is more in
    neither (byte == 58) _ _ (same_name (source_in line) nick) (same_name (second_in line) nick) (first_in line)
    (ap (λ (c : List ℕ). same_bytes c (codes "PART")) command) (ap (λ (c : List ℕ). same_bytes c (codes "KICK")) command)

-- by the encoded line
pub puts_nobody_out : (nick shown rest : List ℕ) → rest ≡ behind_space (take (length shown - 1) (drop 1 shown)) → 1 ≤ length rest → slice_index_or rest 0 0 ≡ 74 → None ≡ channel_left nick shown
puts_nobody_out nick [] rest is l first = refl
puts_nobody_out nick (byte ∷ line) rest is l first =
    let whole : length (byte ∷ line) - 1 ≡ length line = omega arith in
    no_parting nick line rest byte (is ∙ ap behind_space (ap (λ (n : ℕ). take n line) whole ∙ take-length line)) l first

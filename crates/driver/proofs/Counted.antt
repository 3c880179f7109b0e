-- How many said lines count as not heard of: those that went out.
use Rattle.std.proofs.Common.{◌≡◌, ◌∙◌, ℕ, ◌+◌, ◌-◌, ◌≤◌, Bool, true, false, List, [], ◌∷◌, length, Option, Some, None, refl, sym, ap, subst, arith}
use Rattle.std.specs.Prelude.{◌^◌, min, not, if◌then◌else◌}
use Rattle.std.proofs.lemmas.List.{length-append}
use Rattle.irc_line.specs.Lines.{Parts}
use Rattle.driver.specs.declared.outgoing.Piece.{Piece}
use Rattle.driver.specs.declared.outgoing.Piece.TheVariants.{Joins, Opens, Says}
use Rattle.driver.specs.Outgoing.{asks_names}
use Rattle.driver.specs.Queueing.{Queue, SaidAreCounted, Turn, behind, piece_in, said_in, said_out, unheard_at_last, unheard_if}
use Rattle.driver.specs.Telling.{one_more}

abbrev most : ℕ
most = 2 ^ 64 - 1

counts_none : (count : ℕ) → count ≤ most → count ≡ min (count + 0) most
counts_none count small = omega (arith, small)

counts_both : (count first more : ℕ) → min (min (count + first) most + more) most ≡ min (count + (first + more)) most
counts_both count first more = omega (arith)

counts_small : (count more : ℕ) → min (count + more) most ≤ most
counts_small count more = omega (arith)

says_counted : (asks : Bool) (line : Parts) (count : ℕ) → count ≤ most → (if not asks then one_more count else count) ≡ min (count + length (if asks then [] else line ∷ [])) most
says_counted true line count small = counts_none count small
says_counted false line count small = refl

found_counted : (found : Option Piece) (count : ℕ) → count ≤ most → unheard_if found count ≡ min (count + length (said_in found)) most
found_counted None count small = counts_none count small
found_counted (Some (Opens line)) count small = counts_none count small
found_counted (Some (Joins line)) count small = counts_none count small
found_counted (Some (Says line)) count small = says_counted (asks_names line) line count small

turns_counted : (turns : List Turn) (queue : Queue) (count : ℕ) → count ≤ most → unheard_at_last turns queue count ≡ min (count + length (said_out turns queue)) most
unfolding unheard_at_last said_out
turns_counted [] queue count small = counts_none count small
turns_counted (turn ∷ turns) queue count small =
    let found = piece_in turn queue in
    let said = said_in found in
    let rest = said_out turns (behind turn queue) in
    let one = found_counted found count small in
    let less : unheard_if found count ≤ most = subst (λ (k : ℕ). k ≤ most) (sym one) (counts_small count (length said)) in
    turns_counted turns (behind turn queue) (unheard_if found count) less
    ∙ ap (λ (k : ℕ). min (k + length rest) most) one
    ∙ counts_both count (length said) (length rest)
    ∙ ap (λ (k : ℕ). min (count + k) most) (sym (length-append said rest))

none_counted : (count : ℕ) → min (0 + count) most ≡ min count most
none_counted count = omega (arith)

pub said_counted : SaidAreCounted
said_counted turns queue = turns_counted turns queue 0 (omega (arith)) ∙ none_counted (length (said_out turns queue))

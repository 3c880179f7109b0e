use Rattle.std.proofs.Common.{◌≡◌, ℕ, ◌+◌, ◌<◌, length, get_or}
use mathlib.Core.Option.{some}
use lib.ListN.{get_elem?}
use Rattle.ether.proofs.ether.first_words.Given as goal

abbrev pub invariant-loop-slot : goal.invariant-loop-slot
invariant-loop-slot l =
    (length l.words.items ≡ l.slot + 1) × (get_or l.words.items 0 0 ≡ 0) × ((a k : ℕ) → 0 < a → get_elem? l.words.items a ≡ some k → a ≡ k + 1)

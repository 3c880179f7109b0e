-- Lists as bytes: how many there are, in two bytes, and each in turn.
use Rattle.std.specs.Prelude.{ℕ, zero, suc, ◌≤◌, false, ◌&&◌, ◌||◌, nat_lt, List, [], ◌∷◌, ◌++◌, length, drop, is_ok, Result, Ok, Err}
use Rattle.std.specs.Int.{w16, to_be_bytes}
use Rattle.wire_bytes.specs.declared.wire_fault.WireFault.{WireFault}
use Rattle.wire_bytes.specs.Fields.{Reading, done, both, through, number_to, ◌>>=◌}
use Rattle.wire_bytes.specs.Wants.{Wants}
use Rattle.raft_log.specs.Batches.{batch_limit}

module _ {X : Type 0} where
  -- each fits
  abbrev pub AllFit : (X → Type 0) → List X → Type 0
  AllFit fits [] = Unit {0}
  AllFit fits (x ∷ xs) = fits x × AllFit fits xs

  -- each in turn
  abbrev pub spelled_all : (X → List ℕ) → List X → List ℕ
  spelled_all spelled [] = []
  spelled_all spelled (x ∷ xs) = spelled x ++ spelled_all spelled xs

  -- an item before the others
  abbrev pub joined_pair : X × List X → List X
  joined_pair p = p.0 ∷ p.1

  -- this many, one after the other
  abbrev pub many : ℕ → Reading X → Reading (List X)
  many zero reading = done []
  many (suc n) reading = through joined_pair (both reading (many n reading))

  -- their number, which is at most what is allowed at once, and each in turn
  unfoldable pub counted : Reading X → Reading (List X)
  counted reading = number_to w16 batch_limit >>= λ n. many n reading

  -- their number in two bytes, and each in turn
  unfoldable pub spelled_counted : (X → List ℕ) → List X → List ℕ
  spelled_counted spelled xs = to_be_bytes w16 (length xs) ++ spelled_all spelled xs

  -- no more than allowed at once, and each fits
  abbrev pub FitsCounted : (X → Type 0) → List X → Type 0
  FitsCounted fits xs = (length xs ≤ batch_limit) × AllFit fits xs

  -- at least one item: the first one needs memory, or it was read, and is kept apart from the input
  abbrev pub wants_many : ℕ → Wants → Reading X → Wants
  wants_many n wants reading input = nat_lt 0 n && (wants input || is_ok (reading input))

  -- this many items, if their number was read
  abbrev pub wants_by : Result (ℕ × ℕ) WireFault → Wants → Reading X → Wants
  wants_by (Ok r) wants reading input = wants_many r.0 wants reading (drop r.1 input)
  wants_by (Err e) wants reading input = false

  -- the same after their number
  abbrev pub wants_counted : Wants → Reading X → Wants
  wants_counted wants reading input = wants_by (number_to w16 batch_limit input) wants reading input

-- What each command does to one query gives what is held of it next.
use Rattle.std.proofs.Common.{◌≡◌, ℕ, suc, ◌-◌, ◌≤◌, List, length, refl, Bool, true, false, not, ◌&&◌, ◌||◌}
use Rattle.std.specs.Prelude.{Option, Some, None, if◌then◌else◌}
use Rattle.irc_line.specs.Lines.{Parts}
use Rattle.buffer_lines.specs.Stamps.{ring}
use Rattle.buffer_targets.specs.Targets.{TargetLines, target, cleared, counted, fewer, none_seen, resized, pushed}
use Rattle.buffer_machine.specs.Steps.{after_play}
use Rattle.buffer_machine.proofs.Kept.{next}
use Rattle.buffer_machine.proofs.Pointwise.{quiet, empty, sized, pushed_if}
use Rattle.buffer_machine.proofs.SeenLists.{pushed_length}
use Rattle.irc_line.proofs.Booleans.{and_false}

-- a query after one more command
abbrev pub following : List ℕ → List (ℕ × Parts) → ℕ → Bool → Option (ℕ × Parts) → List ℕ → TargetLines
following c ks n e o seen = target c (ring (next n ks e o) n) seen

module _ (c : List ℕ) (ks : List (ℕ × Parts)) (n : ℕ) (f : length ks ≤ n) (was new : List ℕ) where
  pub same_query : (e : Bool) → e ≡ false → (if e then none_seen else was) ≡ new → target c (ring ks n) was ≡ following c ks n e None new
  same_query e h q = quiet c ks n f was new e h q

  all_seen : (here : List Bool) → counted (length ks) 0 here was ≡ new → target c (ring ks n) (counted (length ks) 0 here was) ≡ following c ks n false None new
  all_seen here q = quiet c ks n f (counted (length ks) 0 here was) new false refl q

  pub attach_query : (here : List Bool) (taken clears : Bool) → (if clears && (taken && true && not false) then none_seen else if taken && true && not false then counted (length ks) 0 here was else was) ≡ new
      → (if taken then after_play clears here (target c (ring ks n) was) else target c (ring ks n) was) ≡ following c ks n (clears && (taken && true && not false)) None new
  attach_query here true true q = empty c ks n f was new none_seen true refl q
  attach_query here true false q = all_seen here q
  attach_query here false true q = same_query false refl q
  attach_query here false false q = same_query false refl q

  pub play_query : (here : List Bool) (asks clears k : Bool) → (if clears && (asks && true && k) then none_seen else if asks && true && k then counted (length ks) 0 here was else was) ≡ new
      → (if asks then (if k then after_play clears here (target c (ring ks n) was) else target c (ring ks n) was) else target c (ring ks n) was) ≡ following c ks n (clears && (asks && true && k)) None new
  play_query here true true true q = empty c ks n f was new none_seen true refl q
  play_query here true false true q = all_seen here q
  play_query here true true false q = same_query false refl q
  play_query here true false false q = same_query false refl q
  play_query here false true k q = same_query false refl q
  play_query here false false k q = same_query false refl q

  -- a channel that is joined or attached again plays no query
  pub again_query : (told : List ℕ) (asks clears k : Bool) → (if clears && (asks && true && false && k) then none_seen else if asks && true && false && k then told else was) ≡ new
      → target c (ring ks n) was ≡ following c ks n (clears && (asks && true && false && k)) None new
  again_query told true clears k q = same_query (clears && false) (and_false clears) q
  again_query told false clears k q = same_query (clears && false) (and_false clears) q

  pub clear_query_one : (asks clears k : Bool) → (if (asks && true && k) || (clears && false) then none_seen else was) ≡ new
      → (if asks then (if k then cleared (target c (ring ks n) was) else target c (ring ks n) was) else target c (ring ks n) was) ≡ following c ks n ((asks && true && k) || (clears && false)) None new
  clear_query_one true clears true q = empty c ks n f was new none_seen true refl q
  clear_query_one true clears false q = same_query (clears && false) (and_false clears) q
  clear_query_one false clears k q = same_query (clears && false) (and_false clears) q

  pub clear_channels_query : (asks clears : Bool) → (if (asks && false) || (clears && false) then none_seen else was) ≡ new → target c (ring ks n) was ≡ following c ks n ((asks && false) || (clears && false)) None new
  clear_channels_query true clears q = same_query (clears && false) (and_false clears) q
  clear_channels_query false clears q = same_query (clears && false) (and_false clears) q

  pub clear_queries_query : (asks clears : Bool) → (if (asks && not false) || (clears && false) then none_seen else was) ≡ new
      → (if asks then cleared (target c (ring ks n) was) else target c (ring ks n) was) ≡ following c ks n ((asks && not false) || (clears && false)) None new
  clear_queries_query true clears q = empty c ks n f was new none_seen true refl q
  clear_queries_query false clears q = same_query (clears && false) (and_false clears) q

  pub clear_all_query : (asks clears : Bool) → (if asks || (clears && false) then none_seen else was) ≡ new
      → (if asks then cleared (target c (ring ks n) was) else target c (ring ks n) was) ≡ following c ks n (asks || (clears && false)) None new
  clear_all_query true clears q = empty c ks n f was new none_seen true refl q
  clear_all_query false clears q = same_query (clears && false) (and_false clears) q

  pub size_query_one : (asks past clears k : Bool) (m : ℕ) → (if asks && not past && true && k then fewer (length ks - m) was else was) ≡ new
      → (if asks && not past then (if k then resized m (target c (ring ks n) was) else target c (ring ks n) was) else target c (ring ks n) was)
      ≡ target c (ring (next (if asks && not past && true && k then m else n) ks (clears && false) None) (if asks && not past && true && k then m else n)) new
  size_query_one true false clears true m q = sized c ks n f was new m (clears && false) (and_false clears) q
  size_query_one true false true false m q = same_query false refl q
  size_query_one true false false false m q = same_query false refl q
  size_query_one true true true k m q = same_query false refl q
  size_query_one true true false k m q = same_query false refl q
  size_query_one false past true k m q = same_query false refl q
  size_query_one false past false k m q = same_query false refl q

  pub store_query_one : (here : List Bool) (k clears : Bool) (line : ℕ × Parts) → (if k then counted (pushed_length n ks line) (suc (length ks) - pushed_length n ks line) here was else was) ≡ new
      → (if k then pushed line here (target c (ring ks n) was) else target c (ring ks n) was) ≡ following c ks n (clears && false) (if k then Some line else None) new
  store_query_one here k clears line q = pushed_if c ks n f was new k line here (clears && false) (and_false clears) q

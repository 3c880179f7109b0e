-- What each command does to one channel gives what is held of it next.
use Rattle.std.proofs.Common.{◌≡◌, ℕ, suc, ◌-◌, ◌≤◌, List, length, refl, ap, Bool, true, false, not, ◌&&◌, ◌||◌}
use Rattle.std.specs.Prelude.{Option, Some, None, if◌then◌else◌}
use Rattle.irc_line.specs.Lines.{Parts}
use Rattle.buffer_lines.specs.Stamps.{ring}
use Rattle.buffer_targets.specs.Targets.{ChannelLines, channel, target, cleared, counted, fewer, none_seen, resized, pushed, over, seen_all, with_detached}
use Rattle.buffer_machine.specs.Steps.{after_play}
use Rattle.buffer_machine.proofs.Kept.{next}
use Rattle.buffer_machine.proofs.Pointwise.{quiet, empty, sized, pushed_if}
use Rattle.buffer_machine.proofs.SeenLists.{pushed_length}
use Rattle.irc_line.proofs.Booleans.{and_false}

abbrev pub one : List ℕ → List (ℕ × Parts) → ℕ → List ℕ → Bool → Bool → ChannelLines
one c ks n seen j d = channel (target c (ring ks n) seen) j d

-- after one more command
abbrev pub upon : List ℕ → List (ℕ × Parts) → ℕ → Bool → Option (ℕ × Parts) → List ℕ → Bool → Bool → ChannelLines
upon c ks n e o seen j d = channel (target c (ring (next n ks e o) n) seen) j d

module _ (c : List ℕ) (ks : List (ℕ × Parts)) (n : ℕ) (f : length ks ≤ n) (was new : List ℕ) (j d : Bool) where
  pub same : (e : Bool) → e ≡ false → (if e then none_seen else was) ≡ new → one c ks n was j d ≡ upon c ks n e None new j d
  same e h q = ap (λ t. channel t j d) (quiet c ks n f was new e h q)

  pub emptied : (rest : List ℕ) (e : Bool) → e ≡ true → (if e then none_seen else rest) ≡ new → over cleared (one c ks n was j d) ≡ upon c ks n e None new j d
  emptied rest e h q = ap (λ t. channel t j d) (empty c ks n f was new rest e h q)

  pub all_seen : (here : List Bool) → counted (length ks) 0 here was ≡ new → over (seen_all here) (one c ks n was j d) ≡ upon c ks n false None new j d
  all_seen here q = ap (λ t. channel t j d) (quiet c ks n f (counted (length ks) 0 here was) new false refl q)

  pub play_one : (here : List Bool) (asks clears k : Bool) → (if clears && (asks && true && k) then none_seen else if asks && true && k then counted (length ks) 0 here was else was) ≡ new
      → (if asks then (if k then over (after_play clears here) (one c ks n was j d) else one c ks n was j d) else one c ks n was j d) ≡ upon c ks n (clears && (asks && true && k)) None new j d
  play_one here true true true q = emptied none_seen true refl q
  play_one here true false true q = all_seen here q
  play_one here true true false q = same false refl q
  play_one here true false false q = same false refl q
  play_one here false true k q = same false refl q
  play_one here false false k q = same false refl q

  pub clear_one : (asks clears k : Bool) → (if (asks && true && k) || (clears && false) then none_seen else was) ≡ new
      → (if asks then (if k then over cleared (one c ks n was j d) else one c ks n was j d) else one c ks n was j d) ≡ upon c ks n ((asks && true && k) || (clears && false)) None new j d
  clear_one true clears true q = emptied none_seen true refl q
  clear_one true clears false q = same (clears && false) (and_false clears) q
  clear_one false clears k q = same (clears && false) (and_false clears) q

  pub clear_channel : (asks clears : Bool) → (if (asks && true) || (clears && false) then none_seen else was) ≡ new
      → (if asks then over cleared (one c ks n was j d) else one c ks n was j d) ≡ upon c ks n ((asks && true) || (clears && false)) None new j d
  clear_channel true clears q = emptied none_seen true refl q
  clear_channel false clears q = same (clears && false) (and_false clears) q

  pub clear_any : (asks clears : Bool) → (if asks || (clears && false) then none_seen else was) ≡ new
      → (if asks then over cleared (one c ks n was j d) else one c ks n was j d) ≡ upon c ks n (asks || (clears && false)) None new j d
  clear_any true clears q = emptied none_seen true refl q
  clear_any false clears q = same (clears && false) (and_false clears) q

  pub clear_query : (asks clears : Bool) → (if (asks && not true) || (clears && false) then none_seen else was) ≡ new → one c ks n was j d ≡ upon c ks n ((asks && not true) || (clears && false)) None new j d
  clear_query true clears q = same (clears && false) (and_false clears) q
  clear_query false clears q = same (clears && false) (and_false clears) q

  pub size_one : (asks past clears k : Bool) (m : ℕ) → (if asks && not past && true && k then fewer (length ks - m) was else was) ≡ new
      → (if asks && not past then (if k then over (resized m) (one c ks n was j d) else one c ks n was j d) else one c ks n was j d)
      ≡ channel (target c (ring (next (if asks && not past && true && k then m else n) ks (clears && false) None) (if asks && not past && true && k then m else n)) new) j d
  size_one true false true true m q = ap (λ t. channel t j d) (sized c ks n f was new m false refl q)
  size_one true false false true m q = ap (λ t. channel t j d) (sized c ks n f was new m false refl q)
  size_one true false true false m q = same false refl q
  size_one true false false false m q = same false refl q
  size_one true true true k m q = same false refl q
  size_one true true false k m q = same false refl q
  size_one false past true k m q = same false refl q
  size_one false past false k m q = same false refl q

  pub store_one : (here : List Bool) (stores clears k : Bool) (line : ℕ × Parts) → (if stores && k then counted (pushed_length n ks line) (suc (length ks) - pushed_length n ks line) here was else was) ≡ new
      → (if stores then (if k then over (pushed line here) (one c ks n was j d) else one c ks n was j d) else one c ks n was j d) ≡ upon c ks n (clears && false) (if stores && k then Some line else None) new j d
  store_one here true clears true line q = ap (λ t. channel t j d) (pushed_if c ks n f was new true line here (clears && false) (and_false clears) q)
  store_one here true true false line q = same false refl q
  store_one here true false false line q = same false refl q
  store_one here false true k line q = same false refl q
  store_one here false false k line q = same false refl q

module _ (c : List ℕ) (ks : List (ℕ × Parts)) (n : ℕ) (f : length ks ≤ n) (was new : List ℕ) where
  pub attach_one : (here : List Bool) (j d taken clears : Bool) → (if clears && (taken && true && not d) then none_seen else if taken && true && not d then counted (length ks) 0 here was else was) ≡ new
      → (if taken then (if clears then (if d then one c ks n was j d else over cleared (one c ks n was j d)) else if d then one c ks n was j d else over (seen_all here) (one c ks n was j d)) else one c ks n was j d)
      ≡ upon c ks n (clears && (taken && true && not d)) None new j d
  attach_one here j true true true q = same c ks n f was new j true false refl q
  attach_one here j true true false q = same c ks n f was new j true false refl q
  attach_one here j false true true q = emptied c ks n f was new j false none_seen true refl q
  attach_one here j false true false q = all_seen c ks n f was new j false here q
  attach_one here j d false true q = same c ks n f was new j d false refl q
  attach_one here j d false false q = same c ks n f was new j d false refl q

  pub detach_one : (j d asks clears k : Bool) → (if clears && false then none_seen else was) ≡ new
      → (if asks then (if k then with_detached true (one c ks n was j d) else one c ks n was j d) else one c ks n was j d) ≡ upon c ks n (clears && false) None new j (d || (asks && true && k))
  detach_one j true true clears true q = same c ks n f was new j true (clears && false) (and_false clears) q
  detach_one j false true clears true q = same c ks n f was new j true (clears && false) (and_false clears) q
  detach_one j true true clears false q = same c ks n f was new j true (clears && false) (and_false clears) q
  detach_one j false true clears false q = same c ks n f was new j false (clears && false) (and_false clears) q
  detach_one j true false clears k q = same c ks n f was new j true (clears && false) (and_false clears) q
  detach_one j false false clears k q = same c ks n f was new j false (clears && false) (and_false clears) q

  -- a detached channel, attached again if it is the one with the key
  abbrev pub again : Bool → Bool → Bool → List Bool → Bool → ChannelLines → ChannelLines
  again asks det clears here k x = if asks && det then (if k then over (after_play clears here) (with_detached false x) else x) else x

  pub again_one : (here : List Bool) (j d asks det clears k : Bool) → (k ≡ true → d ≡ det)
      → (if clears && (asks && true && d && k) then none_seen else if asks && true && d && k then counted (length ks) 0 here was else was) ≡ new
      → again asks det clears here k (one c ks n was j d) ≡ upon c ks n (clears && (asks && true && d && k)) None new j (d && not (asks && k))
  again_one here j true true true true true h q = emptied c ks n f was new j false none_seen true refl q
  again_one here j true true true false true h q = all_seen c ks n f was new j false here q
  again_one here j false true true clears true h q = absurd (let e = h refl in cc)
  again_one here j true true false clears true h q = absurd (let e = h refl in cc)
  again_one here j false true false true true h q = same c ks n f was new j false false refl q
  again_one here j false true false false true h q = same c ks n f was new j false false refl q
  again_one here j true true true true false h q = same c ks n f was new j true false refl q
  again_one here j true true true false false h q = same c ks n f was new j true false refl q
  again_one here j true true false true false h q = same c ks n f was new j true false refl q
  again_one here j true true false false false h q = same c ks n f was new j true false refl q
  again_one here j false true true true false h q = same c ks n f was new j false false refl q
  again_one here j false true true false false h q = same c ks n f was new j false false refl q
  again_one here j false true false true false h q = same c ks n f was new j false false refl q
  again_one here j false true false false false h q = same c ks n f was new j false false refl q
  again_one here j true false det true k h q = same c ks n f was new j true false refl q
  again_one here j true false det false k h q = same c ks n f was new j true false refl q
  again_one here j false false det true k h q = same c ks n f was new j false false refl q
  again_one here j false false det false k h q = same c ks n f was new j false false refl q

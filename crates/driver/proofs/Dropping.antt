-- From DROP WAITING until that drop ends no said line goes to the server.
use Rattle.std.proofs.Common.{◌≡◌, ◌∙◌, ◌++◌, ℕ, ◌+◌, ◌-◌, Bool, true, false, not, List, [], ◌∷◌, length, Option, Some, None, refl, ap, arith}
use Rattle.std.specs.Prelude.{◌^◌, ◌||◌, ◌&&◌, if◌then◌else◌, is_some, min}
use Rattle.std.specs.List.{list_any}
use Rattle.std.proofs.lemmas.List.{length-append}
use Rattle.irc_line.specs.Lines.{Parts}
use Rattle.driver.specs.Dropping.{dropped_in, more_dropped}
use Rattle.driver.specs.Outgoing.{asks_names}
use Rattle.driver.specs.Queueing.{Drop, DropsWhatWaits, End, Go, Hand, Join, Open, Queue, Turn, at_last, behind, dropped_at, handed_in, is_end, nothing_queued, piece_in, said_handed, said_in, said_out}
use Rattle.driver.proofs.Queueing.{Fine, go_out, kept_said, nothing_fine, turn_fine, turns_fine}

first_none : (a b : Bool) → (a || b) ≡ false → a ≡ false
first_none true b is = is
first_none false b is = refl

rest_none : (a b : Bool) → (a || b) ≡ false → b ≡ false
rest_none true b is = absurd (cc is)
rest_none false b is = is

-- a drop goes on
abbrev goes_on : Queue → Type 0
goes_on queue = is_some queue.dropping ≡ true

hand_goes : (asks : Bool) (dropping : Option ℕ) (count : ℕ) → is_some dropping ≡ true → is_some (if is_some dropping && not asks then Some count else dropping) ≡ true
hand_goes asks None count goes = absurd (cc goes)
hand_goes true (Some n) count goes = goes
hand_goes false (Some n) count goes = refl

turn_goes : (turn : Turn) (queue : Queue) → is_end turn ≡ false → goes_on queue → goes_on (behind turn queue)
turn_goes (Open lines) queue is goes = goes
turn_goes (Hand line) queue is goes = hand_goes (asks_names line) queue.dropping _ goes
turn_goes (Join channel key) queue is goes = goes
turn_goes (Go due) queue is goes = goes
turn_goes Drop queue is goes = refl
turn_goes End queue is goes = absurd (cc is)

turns_go : (turns : List Turn) (queue : Queue) → list_any is_end turns ≡ false → goes_on queue → goes_on (at_last turns queue)
unfolding at_last
turns_go [] queue are goes = goes
turns_go (turn ∷ turns) queue are goes =
    turns_go turns (behind turn queue) (rest_none (is_end turn) (list_any is_end turns) are)
    (turn_goes turn queue (first_none (is_end turn) (list_any is_end turns) are) goes)

-- No said line goes out.

first_empty : (first rest : List Parts) → first ++ rest ≡ [] → first ≡ []
first_empty [] rest is = refl
first_empty (line ∷ first) rest is = absurd (cc is)

turn_silent : (turn : Turn) (queue : Queue) → Fine queue → goes_on queue → said_in (piece_in turn queue) ≡ []
turn_silent (Open lines) queue fine goes = refl
turn_silent (Hand line) queue fine goes = refl
turn_silent (Join channel key) queue fine goes = refl
turn_silent (Go due) queue fine goes =
    first_empty (said_in (piece_in (Go due) queue)) (behind (Go due) queue).waiting.said (go_out due queue fine ∙ fine.empty goes)
turn_silent Drop queue fine goes = refl
turn_silent End queue fine goes = refl

turns_silent : (turns : List Turn) (queue : Queue) → list_any is_end turns ≡ false → Fine queue → goes_on queue → said_out turns queue ≡ []
unfolding said_out
turns_silent [] queue are fine goes = refl
turns_silent (turn ∷ turns) queue are fine goes =
    let next = turn_goes turn queue (first_none (is_end turn) (list_any is_end turns) are) goes in
    ap (λ (lines : List Parts). lines ++ said_out turns (behind turn queue)) (turn_silent turn queue fine goes)
    ∙ turns_silent turns (behind turn queue) (rest_none (is_end turn) (list_any is_end turns) are) (turn_fine turn queue fine) next

-- What is dropped is counted.

abbrev most : ℕ
most = 2 ^ 64 - 1

counts_none : (count : ℕ) → min count most ≡ min (min count most + 0) most
counts_none count = omega (arith)

counts_both : (count first more : ℕ) → min (min (count + first) most + more) most ≡ min (count + (first + more)) most
counts_both count first more = omega (arith)

-- this many lines are dropped
abbrev Counts : ℕ → Queue → Type 0
Counts count queue = queue.dropping ≡ Some (min count most)

hand_counts : (asks : Bool) (line : Parts) (dropping : Option ℕ) (count : ℕ) → dropping ≡ Some (min count most)
    → (if is_some dropping && not asks then more_dropped 1 dropping else dropping) ≡ Some (min (count + length (if asks then [] else line ∷ [])) most)
hand_counts asks line None count is = absurd (cc is)
hand_counts true line (Some n) count is = is ∙ ap (λ (k : ℕ). Some (min k most)) (omega arith)
hand_counts false line (Some n) count is =
    let same : n ≡ min count most = ap dropped_in is in
    ap (λ (k : ℕ). Some (min (k + 1) most)) same ∙ ap Some (omega arith)

turn_counts : (turn : Turn) (queue : Queue) (count : ℕ) → is_end turn ≡ false → queue.waiting.said ≡ [] → Counts count queue → Counts (count + length (handed_in turn)) (behind turn queue)
turn_counts (Open lines) queue count is none counts = counts ∙ ap (λ (k : ℕ). Some (min k most)) (omega arith)
turn_counts (Hand line) queue count is none counts = hand_counts (asks_names line) line queue.dropping count counts
turn_counts (Join channel key) queue count is none counts = counts ∙ ap (λ (k : ℕ). Some (min k most)) (omega arith)
turn_counts (Go due) queue count is none counts = counts ∙ ap (λ (k : ℕ). Some (min k most)) (omega arith)
turn_counts Drop queue count is none counts =
    let same : dropped_in queue.dropping ≡ min count most = ap dropped_in counts in
    let zero_more : length queue.waiting.said ≡ 0 = ap length none in
    ap (λ (k : ℕ). Some (min (dropped_in queue.dropping + k) most)) zero_more
    ∙ ap (λ (k : ℕ). Some (min (k + 0) most)) same
    ∙ ap Some (omega arith)
turn_counts End queue count is none counts = absurd (cc is)

turns_count : (turns : List Turn) (queue : Queue) (count : ℕ) → list_any is_end turns ≡ false → Fine queue → Counts count queue → Counts (count + length (said_handed turns)) (at_last turns queue)
unfolding at_last said_handed
turns_count [] queue count are fine counts = counts ∙ ap (λ (k : ℕ). Some (min k most)) (omega arith)
turns_count (turn ∷ turns) queue count are fine counts =
    let goes : goes_on queue = ap is_some counts in
    let one = turn_counts turn queue count (first_none (is_end turn) (list_any is_end turns) are) (fine.empty goes) counts in
    let sum : count + length (handed_in turn) + length (said_handed turns) ≡ count + length (handed_in turn ++ said_handed turns) =
    let both = length-append (handed_in turn) (said_handed turns) in omega (arith, both)
    in
    turns_count turns (behind turn queue) (count + length (handed_in turn)) (rest_none (is_end turn) (list_any is_end turns) are) (turn_fine turn queue fine) one
    ∙ ap (λ (k : ℕ). Some (min k most)) sum

-- From DROP WAITING on.

dropped_fine : (earlier : List Turn) → Fine (dropped_at earlier)
dropped_fine earlier = turn_fine Drop (at_last earlier nothing_queued) (turns_fine earlier nothing_queued nothing_fine)

first_counts : (earlier : List Turn) → (at_last earlier nothing_queued).dropping ≡ None → Counts (length (at_last earlier nothing_queued).waiting.said) (dropped_at earlier)
first_counts earlier none =
    let said = (at_last earlier nothing_queued).waiting.said in
    ap (λ (dropping : Option ℕ). more_dropped (length said) dropping) none ∙ ap (λ (k : ℕ). Some (min k most)) (omega arith)

last_empty : (earlier turns : List Turn) → list_any is_end turns ≡ false → (at_last turns (dropped_at earlier)).waiting.said ≡ []
last_empty earlier turns are = (turns_fine turns (dropped_at earlier) (dropped_fine earlier)).empty (turns_go turns (dropped_at earlier) are refl)

pub drops_what_waits : DropsWhatWaits
drops_what_waits = record {
  silent = λ earlier turns are. (turns_silent turns (dropped_at earlier) are (dropped_fine earlier) refl, last_empty earlier turns are);
  counted = λ earlier turns are none.
      turns_count turns (dropped_at earlier) (length (at_last earlier nothing_queued).waiting.said) are (dropped_fine earlier) (first_counts earlier none);
  ended = λ earlier turns later are drops.
      let queue = behind End (at_last turns (dropped_at earlier)) in
      let fine = turn_fine End (at_last turns (dropped_at earlier)) (turns_fine turns (dropped_at earlier) (dropped_fine earlier)) in
      kept_said later queue fine drops refl
      ∙ ap (λ (said : List Parts). said ++ said_handed later) (last_empty earlier turns are);
}

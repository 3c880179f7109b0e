-- That turns are writable, by recursion.
use Rattle.std.proofs.Common.{ℕ, zero, suc, ◌≤◌, List, [], ◌∷◌, arith, drop, length}
use Rattle.std.proofs.lemmas.List.Elements.{All-nil, All-cons}
use Rattle.irc_line.specs.Lines.{Parts}
use Rattle.recorder.specs.InputReadings.{IsWritable}
use Rattle.records.specs.RecordText.{AreWritableTurns}
use Rattle.records.specs.declared.record.Turn.{Turn}
use Rattle.world_events.specs.declared.event.Event.{Event}

module _ {B O : Type 0} (spelled : B → List ℕ) (fits : B → Type 0) where
  -- the event of each turn may be written
  abbrev pub AreWritableEach : List (Turn (Event B Parts (List ℕ)) O) → Type 0
  AreWritableEach [] = Unit {0}
  AreWritableEach (t ∷ ts) = IsWritable spelled fits t.event × AreWritableEach ts

  each_is_all : (turns : List (Turn (Event B Parts (List ℕ)) O)) → AreWritableEach turns → AreWritableTurns spelled fits turns
  each_is_all [] h = All-nil (λ (t : Turn (Event B Parts (List ℕ)) O). IsWritable spelled fits t.event)
  each_is_all (t ∷ ts) h = All-cons (λ (t : Turn (Event B Parts (List ℕ)) O). IsWritable spelled fits t.event) t ts h.0 (each_is_all ts h.1)

  -- after the last turn all are writable
  none_left : (i : ℕ) (turns : List (Turn (Event B Parts (List ℕ)) O)) → length turns ≤ i → AreWritableEach (drop i turns)
  none_left zero [] h = tt
  none_left (suc i) [] h = tt
  none_left zero (t ∷ ts) h = absurd (omega arith)
  none_left (suc i) (t ∷ ts) h = none_left i ts (omega arith)

  -- if all are writable when those after the last turn are, all are
  pub all_at_end : (i : ℕ) (turns : List (Turn (Event B Parts (List ℕ)) O)) → length turns ≤ i
      → (AreWritableEach (drop i turns) → AreWritableEach turns) → AreWritableTurns spelled fits turns
  all_at_end i turns end whole = each_is_all turns (whole (none_left i turns end))

-- What came out of turns, one turn after another.
use Rattle.std.proofs.Common.{◌≡◌, ℕ, suc, ◌+◌, ◌<◌, List, [], ◌∷◌, ◌++◌, length, drop, get_or, subst, sym, ap, ◌∙◌, append_assoc, arith}
use Rattle.std.proofs.Math.Seq.{drop-cons}
use Rattle.irc_line.specs.Lines.{Parts}
use Rattle.world_events.specs.declared.event.Event.{Event}
use Rattle.recorder.specs.EventLists.{text_of_events}
use Rattle.recorder.specs.InputReadings.{text_of_event}
use Rattle.recorder.specs.NodeLines.{fields_line}
use Rattle.recorder.specs.declared.node_line.NodeFields.{NodeFields}
use Rattle.world_run.specs.declared.outcome.Outcome.{Outcome}
use Rattle.world_lines.specs.OutputText.{named_node}
use Rattle.world_lines.specs.OutcomeText.{outcome_lines, outcomes_lines}
use Rattle.records.specs.declared.record.Turn.{Turn}
use Rattle.records.specs.RecordText.{events_of, nodes_text, outcomes_of}

-- what is recorded of a turn
abbrev pub TurnOf : Type 0 → Type 0 → Type 0 → Type 0
TurnOf B E P = Turn (Event B Parts (List ℕ)) (Outcome E P)

-- Over the words of effects and the spelling of what is played
module _ {B E P : Type 0} (words : E → List ℕ) (played : P → List ℕ) where
  -- the lines of turns, from the turn of this number on
  abbrev pub turns_lines : ℕ → List (TurnOf B E P) → List ℕ
  turns_lines number turns = outcomes_lines words played number (events_of turns) (outcomes_of turns)

  -- the lines of a turn were written: those of the turns after it are left
  pub after_turn : (turns : List (TurnOf B E P)) (k node : ℕ) (turn : TurnOf B E P) (out new whole : List ℕ) → k < length turns → turn ≡ get_or turns k turn
      → node ≡ named_node turn.event → new ≡ out ++ outcome_lines words played (k + 1) node turn.outcome → out ++ turns_lines (suc k) (drop k turns) ≡ whole → new ++ turns_lines (suc (k + 1)) (drop (k + 1) turns) ≡ whole
  after_turn turns k node turn out new whole lt at names e h =
      let next : k + 1 ≡ suc k = omega arith in
      let cons : drop k turns ≡ turn ∷ drop (suc k) turns = drop-cons turns k turn lt ∙ ap (λ (t : TurnOf B E P). t ∷ drop (suc k) turns) (sym at) in
      let both : out ++ (outcome_lines words played (suc k) (named_node turn.event) turn.outcome ++ turns_lines (suc (suc k)) (drop (suc k) turns)) ≡ whole = subst (λ (rest : List (TurnOf B E P)). out ++ turns_lines (suc k) rest ≡ whole) cons h in
      rw (e, next, names) (append_assoc out (outcome_lines words played (suc k) (named_node turn.event) turn.outcome) (turns_lines (suc (suc k)) (drop (suc k) turns)) ∙ both)

-- Over bodies, their spelling and its limits
module _ {B O : Type 0} (spelled : B → List ℕ) (fits : B → Type 0) where
  abbrev pub turns_text : List (Turn (Event B Parts (List ℕ)) O) → List ℕ
  turns_text turns = text_of_events spelled fits (events_of turns)

  -- the event of a turn was written: those of the turns after it are left
  pub after_event : (turns : List (Turn (Event B Parts (List ℕ)) O)) (k : ℕ) (turn : Turn (Event B Parts (List ℕ)) O) (out new whole : List ℕ) → k < length turns → turn ≡ get_or turns k turn
      → new ≡ (out ++ text_of_event spelled fits turn.event) ++ 10 ∷ [] → out ++ turns_text (drop k turns) ≡ whole → new ++ turns_text (drop (k + 1) turns) ≡ whole
  after_event turns k turn out new whole lt at e h =
      let next : k + 1 ≡ suc k = omega arith in
      let cons : drop k turns ≡ turn ∷ drop (suc k) turns = drop-cons turns k turn lt ∙ ap (λ (t : Turn (Event B Parts (List ℕ)) O). t ∷ drop (suc k) turns) (sym at) in
      let line : List ℕ = text_of_event spelled fits turn.event ++ 10 ∷ [] in
      let rest : List ℕ = turns_text (drop (suc k) turns) in
      let both : out ++ (line ++ rest) ≡ whole = subst (λ (t : List (Turn (Event B Parts (List ℕ)) O)). out ++ turns_text t ≡ whole) cons h in
      let one : (out ++ text_of_event spelled fits turn.event) ++ 10 ∷ [] ≡ out ++ line = append_assoc out (text_of_event spelled fits turn.event) (10 ∷ []) in
      rw (e, next, one) (append_assoc out line rest ∙ both)

-- the line of a node was written: those of the nodes after it are left
pub after_state : (nodes : List (ℕ × NodeFields)) (k : ℕ) (node : ℕ × NodeFields) (out new whole : List ℕ) → k < length nodes → node ≡ get_or nodes k node
    → new ≡ out ++ fields_line node.0 node.1 → out ++ nodes_text (drop k nodes) ≡ whole → new ++ nodes_text (drop (k + 1) nodes) ≡ whole
after_state nodes k node out new whole lt at e h =
    let next : k + 1 ≡ suc k = omega arith in
    let cons : drop k nodes ≡ node ∷ drop (suc k) nodes = drop-cons nodes k node lt ∙ ap (λ (n : ℕ × NodeFields). n ∷ drop (suc k) nodes) (sym at) in
    let both : out ++ (fields_line node.0 node.1 ++ nodes_text (drop (suc k) nodes)) ≡ whole = subst (λ (n : List (ℕ × NodeFields)). out ++ nodes_text n ≡ whole) cons h in
    rw (e, next) (append_assoc out (fields_line node.0 node.1) (nodes_text (drop (suc k) nodes)) ∙ both)

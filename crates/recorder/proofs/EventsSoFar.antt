-- The events so far, while their lines are read or written in turn.
use Rattle.std.proofs.Common.{◌≡◌, ℕ, suc, ◌+◌, ◌<◌, List, None, [], ◌∷◌, ◌++◌, length, take, get_or, sym, ap, subst, ◌∙◌, append_assoc, arith}
use Rattle.std.proofs.Math.Seq.{take-suc}
use Rattle.std.proofs.lemmas.Grind.{flat_map-append}
use Rattle.std.proofs.lemmas.List.{append-nil}
use Rattle.std.proofs.lemmas.List.Elements.{All-push}
use Rattle.irc_line.specs.Lines.{Parts, spelling}
use Rattle.wire_bytes.specs.Contents.{FitsLine}
use Rattle.world_events.specs.declared.event.Event.{Event}
use Rattle.recorder.specs.EventLists.{AreOf, FitEvents, FitsFirst, line_and, text_of_events}
use Rattle.recorder.specs.EventText.{IsBadLine, event_line}
use Rattle.recorder.specs.InputReadings.{FitsEvent, text_of_event}
use Rattle.recorder.specs.Readings.{FitsDigits, ReadsAs}

-- Over bodies, with their spelling and limits
module _ {B : Type 0} (spelled : B → List ℕ) (fits : B → Type 0) where
  -- the lines of these events come before the rest of a text
  abbrev pub IsLeft : List ℕ → List (Event B Parts (List ℕ)) → List ℕ → Type 0
  IsLeft text before rest = FitEvents spelled fits before × (text_of_events spelled fits before ++ rest ≡ text)

  -- if the rest begins with no event, its line is the first bad one
  pub bad_line : (text rest : List ℕ) (before : List (Event B Parts (List ℕ))) → IsLeft text before rest → 0 < length rest
      → ReadsAs (line_and spelled fits) (FitsFirst spelled fits) rest None → (number : ℕ) → number ≡ suc (length before) → IsBadLine spelled spelling (FitsDigits fits spelled) FitsLine text number
  bad_line text rest before left some none number counted = record { before = before; good = left.0; counted = counted; rest = rest; whole = left.1; left = some; bad = λ e more f t. none (e, more) f t }

  with_line : (text after : List ℕ) (before : List (Event B Parts (List ℕ))) (e : Event B Parts (List ℕ)) → AreOf spelled fits text before
      → FitsEvent spelled fits e → after ≡ (text ++ text_of_event spelled fits e) ++ 10 ∷ [] → AreOf spelled fits after (before ++ e ∷ [])
  with_line text after before e of f t =
      let line = event_line spelled spelling e in
      let front = text_of_events spelled fits before in
      let all : text_of_events spelled fits (before ++ e ∷ []) ≡ front ++ line = flat_map-append (event_line spelled spelling) before (e ∷ []) ∙ ap (λ (l : List ℕ). front ++ l) (append-nil line) in
      (All-push (FitsEvent spelled fits) before e of.0 f, all ∙ (ap (λ (l : List ℕ). l ++ line) of.1 ∙ (sym (append_assoc text (text_of_event spelled fits e) (10 ∷ [])) ∙ sym t)))

  -- one more event is written
  pub one_written : (text after : List ℕ) (events : List (Event B Parts (List ℕ))) (i : ℕ) (e : Event B Parts (List ℕ)) → AreOf spelled fits text (take i events) → i < length events
      → e ≡ get_or events i e → FitsEvent spelled fits e → after ≡ (text ++ text_of_event spelled fits e) ++ 10 ∷ [] → AreOf spelled fits after (take (i + 1) events)
  one_written text after events i e of lt is f t =
      let next : i + 1 ≡ suc i = omega arith in
      let more : take (i + 1) events ≡ take i events ++ e ∷ [] = ap (λ (n : ℕ). take n events) next ∙ (take-suc events i e lt ∙ ap (λ (x : Event B Parts (List ℕ)). take i events ++ x ∷ []) (sym is)) in
      subst (λ (l : List (Event B Parts (List ℕ))). AreOf spelled fits after l) (sym more) (with_line text after (take i events) e of f t)

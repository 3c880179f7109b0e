-- The lines after the setup's: events, and the line `outputs`.
use Rattle.std.proofs.Common.{◌≡◌, ℕ, ◌+◌, false, List, [], ◌∷◌, ◌++◌, length, Option, Some, None, refl, sym, ap, subst, ◌∙◌, append_assoc, arith}
use Rattle.std.specs.Prelude.{codes}
use Rattle.std.proofs.lemmas.Grind.{flat_map-append}
use Rattle.std.proofs.lemmas.List.{append-nil}
use Rattle.std.proofs.lemmas.List.Elements.{All-push}
use Rattle.irc_line.specs.Lines.{Parts, spelling}
use Rattle.irc_line.specs.Names.{same_bytes}
use Rattle.world_events.specs.declared.event.Event.{Event}
use Rattle.recorder.specs.EventLists.{text_of_events}
use Rattle.recorder.specs.EventText.{event_line}
use Rattle.recorder.specs.InputReadings.{FitsEvent, text_of_event}
use Rattle.recorder.specs.Readings.{ReadsAs}
use Rattle.recorder.specs.Splits.{split_at}
use Rattle.recorder.proofs.EventsSoFar.{IsLeft}
use Rattle.recorder.proofs.Lines.{event_lacks}
use Rattle.records.specs.RecordReading.{AreItems, FitsFirst, IsBadItem, ItemFits, item_text, item_word}
use Rattle.records.proofs.LineFronts.{no_end}

-- Over bodies, their spelling and its limits
module _ {B : Type 0} (spelled : B → List ℕ) (fits : B → Type 0) where
  pub item_lacks : (i : Option (Event B Parts (List ℕ))) → ItemFits spelled fits i → split_at 10 (item_word spelled fits i) ≡ None
  item_lacks None f = refl
  item_lacks (Some e) f = event_lacks spelled fits e f

  -- a line that is no event and not `outputs`
  pub no_item : (line : List ℕ) → same_bytes line (codes "outputs") ≡ false → ReadsAs (text_of_event spelled fits) (FitsEvent spelled fits) line None → ReadsAs (item_word spelled fits) (ItemFits spelled fits) line None
  no_item line other none None f t = let same : same_bytes (codes "outputs") (codes "outputs") ≡ false = subst (λ (l : List ℕ). same_bytes l (codes "outputs") ≡ false) (sym t) other in absurd cc
  no_item line other none (Some e) f t = none e f t

  -- an event was read
  pub one_more : (text rest behind : List ℕ) (events : List (Event B Parts (List ℕ))) (e : Event B Parts (List ℕ)) → IsLeft spelled fits text events rest → FitsEvent spelled fits e
      → text_of_event spelled fits e ++ 10 ∷ behind ≡ rest → IsLeft spelled fits text (events ++ e ∷ []) behind
  one_more text rest behind events e left f t =
      let line : List ℕ = event_line spelled spelling e in
      let front : List ℕ = text_of_events spelled fits events in
      let all : text_of_events spelled fits (events ++ e ∷ []) ≡ front ++ line = flat_map-append (event_line spelled spelling) events (e ∷ []) ∙ ap (λ (l : List ℕ). front ++ l) (append-nil line) in
      let first : line ++ behind ≡ rest = append_assoc (text_of_event spelled fits e) (10 ∷ []) behind ∙ t in
      (All-push (FitsEvent spelled fits) events e left.0 f, ap (λ (l : List ℕ). l ++ behind) all ∙ (append_assoc front line behind ∙ (ap (λ (l : List ℕ). front ++ l) first ∙ left.1)))

  -- the line `outputs` was read
  pub all_read : (text rest behind : List ℕ) (events : List (Event B Parts (List ℕ))) → IsLeft spelled fits text events rest → codes "outputs" ++ 10 ∷ behind ≡ rest → AreItems spelled fits text events behind
  all_read text rest behind events left t = record {
    fit = left.0;
    whole = ap (λ (l : List ℕ). text_of_events spelled fits events ++ l) (append_assoc (codes "outputs") (10 ∷ []) behind ∙ t) ∙ left.1;
  }

  -- what is left begins with no item
  pub bad_item : (text rest : List ℕ) (events : List (Event B Parts (List ℕ))) (number : ℕ) → IsLeft spelled fits text events rest → number ≡ 3 + length events
      → ReadsAs (item_text spelled fits) (FitsFirst spelled fits) rest None → IsBadItem spelled fits text number
  bad_item text rest events number left counted none = record { before = events; good = left.0; counted = counted; rest = rest; whole = left.1; bad = none }

  -- nothing is left
  pub no_more : (text rest : List ℕ) (events : List (Event B Parts (List ℕ))) (number : ℕ) → IsLeft spelled fits text events rest → length rest ≡ 0 → number ≡ 3 + length events → IsBadItem spelled fits text number
  no_more text [] events number left none counted = bad_item text [] events number left counted (no_end (item_word spelled fits) (ItemFits spelled fits) item_lacks [] refl)
  no_more text (b ∷ rest) events number left none counted = absurd (omega (arith, none))

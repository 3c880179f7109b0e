-- No two lists of events have one text.
use Rattle.std.proofs.Common.{◌≡◌, ℕ, suc, List, [], ◌∷◌, ◌++◌, length, refl, sym, ap, ◌∙◌, append_assoc, arith, length-append}
use Rattle.std.proofs.lemmas.List.{append-nil}
use Rattle.irc_line.specs.Lines.{Parts, spelling}
use Rattle.world_events.specs.declared.event.Event.{Event}
use Rattle.recorder.specs.EventLaws.{HasOneFirstBad, HaveNoBadLine, HaveTheirOwnText}
use Rattle.recorder.specs.EventLists.{FitEvents, line_and, text_of_events}
use Rattle.recorder.specs.EventText.{event_line}
use Rattle.recorder.specs.InputReadings.{FitsEvent, text_of_event}
use Rattle.recorder.proofs.Inputs.{one_event}
use Rattle.recorder.proofs.Lines.{line_split}

-- Over bodies, with their spelling and limits
module _ {B : Type 0} (spelled : B → List ℕ) (fits : B → Type 0) where
  first_fits : (e : Event B Parts (List ℕ)) (es : List (Event B Parts (List ℕ))) → FitEvents spelled fits (e ∷ es) → FitsEvent spelled fits e
  first_fits e es h = h 0 e (omega arith)

  rest_fit : (e : Event B Parts (List ℕ)) (es : List (Event B Parts (List ℕ))) → FitEvents spelled fits (e ∷ es) → FitEvents spelled fits es
  rest_fit e es h = λ k d lt. h (suc k) d (omega (arith, lt))

  -- texts that each begin with an event's line: the lines are the same, and so is what follows them
  same_lines : (e f : Event B Parts (List ℕ)) (r s : List ℕ) → FitsEvent spelled fits e → FitsEvent spelled fits f → line_and spelled fits (e, r) ≡ line_and spelled fits (f, s)
      → (text_of_event spelled fits e ≡ text_of_event spelled fits f) × (r ≡ s)
  same_lines e f r s h k t =
      let p = line_split spelled fits e r (line_and spelled fits (f, s)) h t in
      let q = line_split spelled fits f s (line_and spelled fits (f, s)) k refl in
      let pair : (text_of_event spelled fits e, r) ≡ (text_of_event spelled fits f, s) = cc in
      (ap (λ (x : List ℕ × List ℕ). x.0) pair, ap (λ (x : List ℕ × List ℕ). x.1) pair)

  -- this text begins with no event's line
  abbrev Ends : List ℕ → Type 0
  Ends rest = (e : Event B Parts (List ℕ)) (more : List ℕ) → FitsEvent spelled fits e → line_and spelled fits (e, more) ≡ rest → ⊥

  nothing_ends : Ends []
  nothing_ends e more h t =
      let line = event_line spelled spelling e in
      omega (arith, ap length t, length-append line more, length-append (text_of_event spelled fits e) (10 ∷ []))

  -- equal texts of events, each followed by more that begins with no event's line: as many events, and the same after
  -- them
  pub same_ends : (a b : List (Event B Parts (List ℕ))) (r s : List ℕ) → FitEvents spelled fits a → FitEvents spelled fits b → text_of_events spelled fits a ++ r ≡ text_of_events spelled fits b ++ s
      → Ends r → Ends s → (length a ≡ length b) × (r ≡ s)
  same_ends [] [] r s h k t p q = (refl, t)
  same_ends [] (f ∷ b) r s h k t p q = absurd (p f (text_of_events spelled fits b ++ s) (first_fits f b k) (sym (t ∙ append_assoc (event_line spelled spelling f) (text_of_events spelled fits b) s)))
  same_ends (e ∷ a) [] r s h k t p q = absurd (q e (text_of_events spelled fits a ++ r) (first_fits e a h) (sym (append_assoc (event_line spelled spelling e) (text_of_events spelled fits a) r) ∙ t))
  same_ends (e ∷ a) (f ∷ b) r s h k t p q =
      let u : line_and spelled fits (e, text_of_events spelled fits a ++ r) ≡ line_and spelled fits (f, text_of_events spelled fits b ++ s) =
      sym (append_assoc (event_line spelled spelling e) (text_of_events spelled fits a) r) ∙ (t ∙ append_assoc (event_line spelled spelling f) (text_of_events spelled fits b) s) in
      let l = same_lines e f (text_of_events spelled fits a ++ r) (text_of_events spelled fits b ++ s) (first_fits e a h) (first_fits f b k) u in
      let more = same_ends a b r s (rest_fit e a h) (rest_fit f b k) l.1 p q in
      (omega (arith, more.0), more.1)

  -- a text has at most one first bad line
  pub one_first_bad : HasOneFirstBad spelled fits
  one_first_bad text one other h k =
      let same = same_ends h.before k.before h.rest k.rest h.good k.good (h.whole ∙ sym k.whole) h.bad k.bad in
      omega (arith, same.0, h.counted, k.counted)

  -- and none if it is the text of events
  pub none_is_bad : HaveNoBadLine spelled fits
  none_is_bad text events number of h =
      let same = same_ends h.before events h.rest [] h.good of.0 (h.whole ∙ (sym of.1 ∙ sym (append-nil (text_of_events spelled fits events)))) h.bad nothing_ends in
      omega (arith, h.left, ap length same.1)

-- Over bodies where no two have one spelling
module _ {B : Type 0} (spelled : B → List ℕ) (fits : B → Type 0) (own : (a b : B) → fits a → fits b → spelled a ≡ spelled b → a ≡ b) where
  pub one_list : (a b : List (Event B Parts (List ℕ))) → FitEvents spelled fits a → FitEvents spelled fits b → text_of_events spelled fits a ≡ text_of_events spelled fits b → a ≡ b
  one_list [] [] h k t = refl
  one_list [] (f ∷ b) h k t = absurd (nothing_ends spelled fits f (text_of_events spelled fits b) (first_fits spelled fits f b k) (sym t))
  one_list (e ∷ a) [] h k t = absurd (nothing_ends spelled fits e (text_of_events spelled fits a) (first_fits spelled fits e a h) t)
  one_list (e ∷ a) (f ∷ b) h k t =
      let l = same_lines spelled fits e f (text_of_events spelled fits a) (text_of_events spelled fits b) (first_fits spelled fits e a h) (first_fits spelled fits f b k) t in
      let first : e ≡ f = one_event spelled fits own e f (first_fits spelled fits e a h) (first_fits spelled fits f b k) l.0 in
      let more : a ≡ b = one_list a b (rest_fit spelled fits e a h) (rest_fit spelled fits f b k) l.1 in
      cc

  -- no two lists have one text
  pub own_text : HaveTheirOwnText spelled fits
  own_text text a b h k = one_list a b h.0 k.0 (h.1 ∙ sym k.1)

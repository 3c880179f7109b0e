-- Rows and arrows, moment by moment.
use Rattle.std.proofs.Common.{◌≡◌, ⊎_elim, ℕ, zero, suc, ◌+◌, ◌<◌, ◌≤◌, List, [], ◌∷◌, length, take, sym, ap, subst, ◌∙◌, arith}
use Rattle.std.proofs.lemmas.Bool.{cond-true, cond-false, le-ltb, lt-ltb}
use Rattle.std.proofs.lemmas.Option.{same_Some}
use Rattle.std.specs.Prelude.{Some, slice_get}
use Rattle.raft_log.specs.Node.{Node}
use Rattle.raft_node.specs.Machine.{Machine}
use Rattle.agreement.specs.World.{start}
use Rattle.world_events.specs.declared.event.Event.{Event}
use Rattle.world_run.specs.Told.{event_of, events_of}
use Rattle.world_run.specs.World.{happens, run, stepper}
use Rattle.world_app.specs.DiagramLaws.{ArrowsLeaveWhereSent, IsSentIn, RowsShowWorlds}
use Rattle.world_app.specs.Diagrams.{first_with, row_between, rows_from, sent_count}
use Rattle.world_app.proofs.Known.{lt_or_le}

module _ (M : Machine) where
  -- the world after the first of these events, from this one on
  abbrev behind : ℕ → List (Event M.Body M.Line M.Target) → List (Node M.Body) → List (Node M.Body)
  behind k es w = run M (take k (events_of M es)) w

  row_shows : (es : List (Event M.Body M.Line M.Target)) (k : ℕ) (e : Event M.Body M.Line M.Target) (number : ℕ) (w : List (Node M.Body)) → slice_get es k ≡ Some e
      → slice_get (rows_from M number es w) k ≡ Some (row_between (number + k) e (stepper M (behind k es w) (event_of M e)) (behind k es w) (behind (suc k) es w))
  row_shows [] k e number w at = absurd (cc at)
  row_shows (x ∷ es) zero e number w at =
      let same : x ≡ e = same_Some x e at in
      let plus : number ≡ number + 0 = omega arith in
      ap (λ (n : ℕ). Some (row_between n x (stepper M w (event_of M x)) w (happens M w (event_of M x)))) plus
      ∙ ap (λ (y : Event M.Body M.Line M.Target). Some (row_between (number + 0) y (stepper M w (event_of M y)) w (happens M w (event_of M x)))) same
  row_shows (x ∷ es) (suc k) e number w at =
      let plus : suc number + k ≡ number + suc k = omega arith in
      let w' = happens M w (event_of M x) in
      row_shows es k e (suc number) w' at
      ∙ ap (λ (n : ℕ). Some (row_between n e (stepper M (behind k es w') (event_of M e)) (behind k es w') (behind (suc k) es w'))) plus

  pub rows_show : RowsShowWorlds M
  rows_show size es k e at =
      let plus : 1 + k ≡ suc k = omega arith in
      let w = start size in
      row_shows es k e 1 w at
      ∙ ap (λ (n : ℕ). Some (row_between n e (stepper M (behind k es w) (event_of M e)) (behind k es w) (behind (suc k) es w))) plus

  -- The search ends this many rows later, where the node has sent that many messages for the first
  -- time.
  record IsFirst (sender number row : ℕ) (es : List (Event M.Body M.Line M.Target)) (w : List (Node M.Body)) (rows : ℕ) : Type 0 where
    place : first_with M sender number row es w ≡ row + rows
    sent : number ≤ sent_count (behind rows es w) sender
    first : (j : ℕ) → j < rows → sent_count (behind j es w) sender < number

  at_once : (sender number row : ℕ) (es : List (Event M.Body M.Line M.Target)) (w : List (Node M.Body)) → number ≤ sent_count w sender → IsFirst sender number row es w 0
  at_once sender number row [] w le = record { place = omega arith; sent = le; first = λ j lt. absurd (omega (arith, lt)) }
  at_once sender number row (e ∷ es) w le =
      let plus : row ≡ row + 0 = omega arith in
      record { place = cond-false _ _ _ (le-ltb (sent_count w sender) number le) ∙ plus; sent = le; first = λ j lt. absurd (omega (arith, lt)) }

  before : (sender number rows : ℕ) (e : Event M.Body M.Line M.Target) (es : List (Event M.Body M.Line M.Target)) (w : List (Node M.Body)) → sent_count w sender < number
      → ((j : ℕ) → j < rows → sent_count (behind j es (happens M w (event_of M e))) sender < number) → (j : ℕ) → j < suc rows → sent_count (behind j (e ∷ es) w) sender < number
  before sender number rows e es w lt h zero less = lt
  before sender number rows e es w lt h (suc j) less = h j (omega (arith, less))

  one_on : (sender number row rows : ℕ) (e : Event M.Body M.Line M.Target) (es : List (Event M.Body M.Line M.Target)) (w : List (Node M.Body)) → sent_count w sender < number
      → IsFirst sender number (suc row) es (happens M w (event_of M e)) rows → IsFirst sender number row (e ∷ es) w (suc rows)
  one_on sender number row rows e es w lt was =
      let plus : suc row + rows ≡ row + suc rows = omega arith in
      record {
        place = cond-true _ _ _ (lt-ltb (sent_count w sender) number lt) ∙ was.place ∙ plus;
        sent = was.sent;
        first = before sender number rows e es w lt was.first;
      }

  found_first : (sender number row : ℕ) (es : List (Event M.Body M.Line M.Target)) (w : List (Node M.Body)) → number ≤ sent_count (behind (length es) es w) sender → (rows : ℕ) × IsFirst sender number row es w rows
  found_first sender number row [] w le = (0, at_once sender number row [] w le)
  found_first sender number row (e ∷ es) w le =
      ⊎_elim
      (λ lt. let r = found_first sender number (suc row) es (happens M w (event_of M e)) le in (suc r.0, one_on sender number row r.0 e es w lt r.1))
      (λ here. (0, at_once sender number row (e ∷ es) w here))
      (lt_or_le (sent_count w sender) number)

  pub arrows_leave : ArrowsLeaveWhereSent M
  arrows_leave size es sender number le =
      let r = found_first sender number 0 es (start size) le in
      let plus : 0 + r.0 ≡ r.0 = omega arith in
      let is : IsSentIn M size es sender number r.0 = record { sent = r.1.sent; first = r.1.first } in
      subst (λ (n : ℕ). IsSentIn M size es sender number n) (sym (r.1.place ∙ plus)) is

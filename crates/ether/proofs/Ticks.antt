-- Ticks and openings keep the rule.
use Rattle.std.proofs.Common.{◌≡◌, ℕ, ◌+◌, ◌<◌, ◌^◌, ◌%◌, Bool, true, false, List, [], ◌∷◌, length, set, slice_index, Some, None, refl, sym, ◌∙◌, subst, arith, length-set}
use mathlib.Core.Option.{some}
use mathlib.Core.Option as maybe
use lib.ListN.{get_elem?}
use Rattle.atomic_table.specs.Table.{Me, Step, keeps, takes, Allows}
use Rattle.raft_log.specs.Node.{Node}
use Rattle.raft_node.specs.Machine.{Machine}
use Rattle.world_views.specs.declared.envelope.Envelope.{Envelope}
use Rattle.world_views.specs.Own.{EventOf, ViewOf}
use Rattle.world_views.specs.Views.{brings}
use Rattle.ether.specs.Rule.{Look, IsKept, known}
use Rattle.ether.specs.Rule.Spare.{Home, Out}
use Rattle.ether.specs.Plays.{after_event, after_opening, counted, holding, opened, opens_seat, ticked}
use Rattle.ether.proofs.Changing.{Changes}
use Rattle.ether.proofs.Changes.{event_changes, opening_changes}
use Rattle.ether.proofs.Stowing.{SeatOf, SlotOf, stays, takes_out}
use Rattle.ether.proofs.Steps.{room, word_0, known_at, changed_kept, still}

module _ (M : Machine) where
  -- a tick: the event's message, if it brings one, was heard
  pub ticks : (n slots id : ℕ) (me : Me (SlotOf M) (SeatOf M)) (st : Step (SlotOf M)) (k : ℕ) (ls : List (Look M.Body)) (v : ViewOf M) (b : ℕ × Node M.Body) (e : EventOf M)
      → me ≡ holding true k ls v → v.opened ≡ Some b → length v.turns < 2 ^ 60
      → ((m : Envelope M.Body) → brings e ≡ Some m → (j : ℕ) × (get_elem? v.heard j ≡ some m))
      → Allows (IsKept M n) slots id me 0 (λ x. (x + 1) % 18446744073709551616) (counted (ticked M e) st me)
  ticks n slots id me st k ls v b e is was few may =
      subst (λ (m : Me (SlotOf M) (SeatOf M)). Allows (IsKept M n) slots id m 0 (λ x. (x + 1) % 18446744073709551616) (counted (ticked M e) st m)) (sym is)
      (λ s r wide at _.
      let next : ℕ = slice_index s.words 0 in
      let w : ViewOf M = after_event M v next e in
      let lt = room M n s r in
      let up : (next + 1) % 18446744073709551616 ≡ next + 1 = omega arith in
      let c : Changes M r.views next (next + 1) v.node v w = event_changes M n r.views next v.node v (known_at M n s r id (Out k) ls v at) r.rule b e was few may in (
        known (Out k) ls (w ∷ []),
        keeps,
        tt,
        changed_kept M n s r id (Out k) ls v at (Out k) ls w (set s.words 0 ((next + 1) % 18446744073709551616)) s.homes (next + 1) (word_0 M n s r ((next + 1) % 18446744073709551616) ∙ up)
            (length-set s.words 0 ((next + 1) % 18446744073709551616)) refl c
            (stays M n next (next + 1) r.views (set r.views v.node w) s r.stowed (still M n s r id (Out k) ls v at w (next + 1) c) id ((next + 1) % 18446744073709551616) (known (Out k) ls (v ∷ [])) (known (Out k) ls (w ∷ [])) at refl),
        refl,
      ))

  -- the opening, if the spare is out already, and if it is at home
  opens_out : (n slots id : ℕ) (st : Step (SlotOf M)) (k : ℕ) (ls : List (Look M.Body)) (v : ViewOf M) (h : Bool) (new : Node M.Body) → v.opened ≡ None → new.sent ≡ []
      → Allows (IsKept M n) slots id (holding true k ls v) 0 (λ x. (x + 1) % 18446744073709551616) (opens_seat (opened h new) st (holding true k ls v))
  opens_out n slots id st k ls v h new closed fresh s r wide at _ =
      let next : ℕ = slice_index s.words 0 in
      let w : ViewOf M = after_opening v next h new in
      let lt = room M n s r in
      let up : (next + 1) % 18446744073709551616 ≡ next + 1 = omega arith in
      let c : Changes M r.views next (next + 1) v.node v w = opening_changes M n r.views next v.node v (known_at M n s r id (Out k) ls v at) r.rule h new closed fresh in (
        known (Out k) ls (w ∷ []),
        keeps,
        tt,
        changed_kept M n s r id (Out k) ls v at (Out k) ls w (set s.words 0 ((next + 1) % 18446744073709551616)) s.homes (next + 1) (word_0 M n s r ((next + 1) % 18446744073709551616) ∙ up)
            (length-set s.words 0 ((next + 1) % 18446744073709551616)) refl c
            (stays M n next (next + 1) r.views (set r.views v.node w) s r.stowed (still M n s r id (Out k) ls v at w (next + 1) c) id ((next + 1) % 18446744073709551616) (known (Out k) ls (v ∷ [])) (known (Out k) ls (w ∷ [])) at refl),
        refl,
      )

  opens_home : (n slots id : ℕ) (st : Step (SlotOf M)) (k : ℕ) (ls : List (Look M.Body)) (v : ViewOf M) (h : Bool) (new : Node M.Body) → v.opened ≡ None → new.sent ≡ []
      → Allows (IsKept M n) slots id (holding false k ls v) 0 (λ x. (x + 1) % 18446744073709551616) (opens_seat (opened h new) st (holding false k ls v))
  opens_home n slots id st k ls v h new closed fresh s r wide at _ =
      let next : ℕ = slice_index s.words 0 in
      let w : ViewOf M = after_opening v next h new in
      let lt = room M n s r in
      let up : (next + 1) % 18446744073709551616 ≡ next + 1 = omega arith in
      let c : Changes M r.views next (next + 1) v.node v w = opening_changes M n r.views next v.node v (known_at M n s r id (Home k) ls v at) r.rule h new closed fresh in (
        known (Out k) ls (w ∷ []),
        takes k None,
        (r.stowed.spares id (known (Home k) ls (v ∷ [])) at).1,
        changed_kept M n s r id (Home k) ls v at (Out k) ls w (set s.words 0 ((next + 1) % 18446744073709551616)) (set s.homes k maybe.none) (next + 1) (word_0 M n s r ((next + 1) % 18446744073709551616) ∙ up)
            (length-set s.words 0 ((next + 1) % 18446744073709551616)) (length-set s.homes k maybe.none) c
            (takes_out M n next (next + 1) r.views (set r.views v.node w) s r.stowed (still M n s r id (Home k) ls v at w (next + 1) c) id ((next + 1) % 18446744073709551616) k (known (Home k) ls (v ∷ [])) (known (Out k) ls (w ∷ [])) at refl refl),
        refl,
      )

  pub opens_by : (n slots id : ℕ) (me : Me (SlotOf M) (SeatOf M)) (st : Step (SlotOf M)) (out : Bool) (k : ℕ) (ls : List (Look M.Body)) (v : ViewOf M) (h : Bool) (new : Node M.Body)
      → me ≡ holding out k ls v → v.opened ≡ None → new.sent ≡ []
      → Allows (IsKept M n) slots id me 0 (λ x. (x + 1) % 18446744073709551616) (opens_seat (opened h new) st me)
  opens_by n slots id me st true k ls v h new is closed fresh =
      subst (λ (m : Me (SlotOf M) (SeatOf M)). Allows (IsKept M n) slots id m 0 (λ x. (x + 1) % 18446744073709551616) (opens_seat (opened h new) st m)) (sym is) (opens_out n slots id st k ls v h new closed fresh)
  opens_by n slots id me st false k ls v h new is closed fresh =
      subst (λ (m : Me (SlotOf M) (SeatOf M)). Allows (IsKept M n) slots id m 0 (λ x. (x + 1) % 18446744073709551616) (opens_seat (opened h new) st m)) (sym is) (opens_home n slots id st k ls v h new closed fresh)

  -- the same for what a step says, if that is an opening
  pub opens_as : (n slots id : ℕ) (me : Me (SlotOf M) (SeatOf M)) (st : Step (SlotOf M)) (f : ℕ → SeatOf M → SeatOf M) (out : Bool) (k : ℕ) (ls : List (Look M.Body)) (v : ViewOf M) (h : Bool) (new : Node M.Body)
      → f ≡ opened h new → me ≡ holding out k ls v → v.opened ≡ None → new.sent ≡ []
      → Allows (IsKept M n) slots id me 0 (λ x. (x + 1) % 18446744073709551616) (opens_seat f st me)
  opens_as n slots id me st f out k ls v h new made is closed fresh =
      subst (λ (a : ℕ → SeatOf M → SeatOf M). Allows (IsKept M n) slots id me 0 (λ x. (x + 1) % 18446744073709551616) (opens_seat a st me)) (sym made)
      (opens_by n slots id me st out k ls v h new is closed fresh)

  -- or an event
  pub ticks_as : (n slots id : ℕ) (me : Me (SlotOf M) (SeatOf M)) (st : Step (SlotOf M)) (f : ℕ → SeatOf M → SeatOf M) (k : ℕ) (ls : List (Look M.Body)) (v : ViewOf M) (b : ℕ × Node M.Body) (e : EventOf M)
      → f ≡ ticked M e → me ≡ holding true k ls v → v.opened ≡ Some b → length v.turns < 2 ^ 60
      → ((m : Envelope M.Body) → brings e ≡ Some m → (j : ℕ) × (get_elem? v.heard j ≡ some m))
      → Allows (IsKept M n) slots id me 0 (λ x. (x + 1) % 18446744073709551616) (counted f st me)
  ticks_as n slots id me st f k ls v b e made is was few may =
      subst (λ (a : ℕ → SeatOf M → SeatOf M). Allows (IsKept M n) slots id me 0 (λ x. (x + 1) % 18446744073709551616) (counted a st me)) (sym made)
      (ticks n slots id me st k ls v b e is was few may)

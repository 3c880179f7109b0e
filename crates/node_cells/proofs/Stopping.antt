-- What a restart publishes of inputs that were saved together.
use Rattle.std.proofs.Common.{◌≡◌, ℕ, suc, ◌+◌, ◌<◌, ◌≤◌, ◌^◌, Bool, true, false, List, [], ◌∷◌, ◌++◌, Ok, length, refl, sym, ap, ◌∙◌, subst, arith, length-append}
use Rattle.std.specs.Prelude.{get_or}
use Rattle.raft_log.specs.Node.{Node}
use Rattle.raft_node.specs.Machine.{Machine}
use Rattle.raft_node.specs.Steps.{Quiet}
use Rattle.world_run.specs.declared.outcome.Outcome.TheVariants as outcome
use Rattle.world_views.specs.declared.node_event.NodeEvent.TheVariants.{Does, StopIn}
use Rattle.world_views.specs.Inputs.{NodeInput}
use Rattle.world_views.specs.Own.{EventOf, own_out}
use Rattle.ether.specs.Passes.{view_of}
use Rattle.node_cells.specs.declared.record.Recording.{Recording}
use Rattle.node_cells.specs.declared.record.Recording.TheVariants.{On, Off}
use Rattle.node_cells.specs.Books.{HasNoted, room_for}
use Rattle.node_cells.specs.Cells.{AreAnswered, after_input}
use Rattle.node_cells.specs.Inputs.{Answer}
use Rattle.node_cells.specs.declared.phase.Phase.{Phase}
use Rattle.node_cells.specs.declared.phase.Phase.TheVariants.{Up, DownInTurn, DownInTurns, DownInRestart}
use Rattle.node_cells.specs.Restarts.{HasNotedAll, firsts_at_most, firsts_of, stops_after, stops_before}
use Rattle.node_cells.specs.Together.{all_done}
use Rattle.node_cells.proofs.Noting.{both_noted, length_done, noted_turns, one_noted}
use Rattle.node_cells.proofs.Recorded.{Book}

pub room_last : (r : Recording) (n m room0 room1 : ℕ) → room1 + room_for r n ≡ room0 → room_for r m ≤ room0 → n + 1 ≤ m → room_for r 1 ≤ room1
room_last On n m room0 room1 done h more = omega (arith, done, h, more)
room_last Off n m room0 room1 done h more = omega arith

pub room_few : (r : Recording) (n room : ℕ) (m : ℕ) → room_for r m ≤ room → n ≤ m → room_for r n ≤ room
room_few On n room m h few = omega (arith, h, few)
room_few Off n room m h few = omega arith

room_then : (r : Recording) (n m more refused room0 room1 : ℕ) → room1 + room_for r n ≡ room0 → room_for r (m + refused) ≤ room0 → n ≤ m → more ≤ refused → room_for r more ≤ room1
room_then On n m more refused room0 room1 done h few less = omega (arith, done, h, few, less)
room_then Off n m more refused room0 room1 done h few less = omega arith

module _ {B L : Type 0} (T : Type 0) where
  before_few : (xs : List (NodeInput B L)) → length (stops_before {T = T} xs) ≤ length xs
  before_few [] = omega arith
  before_few (x ∷ xs) = omega arith

  after_few : (xs : List (NodeInput B L)) (answers : List Answer) → length (stops_after {T = T} xs answers) ≤ length xs
  after_few [] answers = omega arith
  after_few (x ∷ xs) [] = omega arith
  after_few (x ∷ []) (a ∷ answers) = omega arith
  after_few (x ∷ y ∷ xs) (a ∷ answers) = let rest = after_few (y ∷ xs) answers in omega (arith, rest)

  firsts_few : (p : Phase B L T) (same : Bool) → length (firsts_of {T = T} p same) ≤ firsts_at_most p
  firsts_few Up same = omega arith
  firsts_few (DownInTurn x copy done) same = omega arith
  firsts_few (DownInTurns inputs copies answers) true = before_few inputs.items
  firsts_few (DownInTurns inputs copies answers) false = after_few inputs.items answers.items
  firsts_few DownInRestart same = omega arith

module _ {B L T : Type 0} where
  -- all but the last are done, and the node stopped in the last
  pub stops_last : (xs : List (NodeInput B L)) (x : NodeInput B L) (answers : List Answer) → length answers ≡ length (xs ++ x ∷ [])
      → stops_after {T = T} (xs ++ x ∷ []) answers ≡ all_done xs answers ++ (StopIn x true, Ok tt) ∷ []
  stops_last [] x [] h = absurd (cc h)
  stops_last [] x (a ∷ answers) h = refl
  stops_last (y ∷ xs) x [] h = absurd (cc h)
  stops_last (y ∷ []) x (a ∷ []) h = absurd (cc h)
  stops_last (y ∷ []) x (a ∷ b ∷ answers) h = refl
  stops_last (y ∷ z ∷ xs) x (a ∷ answers) h =
      ap (λ l. (Does y, a) ∷ l) (stops_last (z ∷ xs) x answers (let e : suc (length answers) ≡ suc (length ((z ∷ xs) ++ x ∷ [])) = h in omega (arith, e)))

module _ (M : Machine) where
  -- nothing comes out of a stop
  pub stop_out : (n i : ℕ) (s : Node M.Body) (x : NodeInput M.Body M.Line) (after : Bool) → Quiet ≡ own_out M n i s (StopIn x after)
  unfolding own_out
  stop_out n i s x after = refl

  pub answered_front : (n i : ℕ) (s : Node M.Body) (xs : List (NodeInput M.Body M.Line)) (x : NodeInput M.Body M.Line) (answers : List Answer) → AreAnswered M n i s (xs ++ x ∷ []) answers → AreAnswered M n i s xs answers
  answered_front n i s [] x answers h = tt
  answered_front n i s (y ∷ xs) x [] h = absurd h
  answered_front n i s (y ∷ xs) x (a ∷ answers) h = (h.0, answered_front n i (after_input M n i s y) xs x answers h.1)

  module _ {Setup : Type 0} where
    -- after the first events of a restart there is room for the others
    pub room_after : (b0 b1 : Book M Setup) (p : Phase M.Body M.Line M.Target) (same : Bool) (more refused : ℕ) → HasNotedAll M b0 (firsts_of p same) b1 → more ≤ refused
        → room_for b0.recording (firsts_at_most p + refused) ≤ b0.room → length (view_of b0.pass).turns + (firsts_at_most p + refused) ≤ 2 ^ 60
        → (room_for b1.recording more ≤ b1.room) × (length (view_of b1.pass).turns + more ≤ 2 ^ 60)
    room_after b0 b1 p same more refused h less room tickets =
        let few = firsts_few M.Target p same in
        let turns = noted_turns M b0 b1 (firsts_of p same) h in (
          subst (λ (r : Recording). room_for r more ≤ b1.room) (sym h.recording)
              (room_then b0.recording (length (firsts_of {T = M.Target} p same)) (firsts_at_most p) more refused b0.room b1.room h.room room few less),
          omega (arith, few, turns, less, tickets),
        )

    -- for inputs that were not saved the stop in the first was noted
    pub first_noted : (b d : Book M Setup) (xs : List (NodeInput M.Body M.Line)) (x : NodeInput M.Body M.Line) → 1 ≤ length xs → x ≡ get_or xs 0 x → HasNoted M b (StopIn x false) outcome.Quiet d
        → HasNotedAll M b (stops_before xs) d
    first_noted b d [] x some is h = absurd (omega (arith, some))
    first_noted b d (y ∷ xs) x some is h = one_noted M b d (StopIn y false) (Ok tt) (subst (λ (z : NodeInput M.Body M.Line). HasNoted M b (StopIn z false) outcome.Quiet d) is h)

    module _ (b0 b1 : Book M Setup) (xs : List (NodeInput M.Body M.Line)) (x : NodeInput M.Body M.Line) (answers : List Answer) (many : length answers ≡ length (xs ++ x ∷ []))
        (h : HasNotedAll M b0 (all_done xs answers) b1) where
      enough : length xs ≤ length answers
      enough = let long = length-append xs (x ∷ []) in omega (arith, long, many)

      -- all but the last were noted: there is room for the last
      pub last_room : room_for b0.recording (length (xs ++ x ∷ [])) ≤ b0.room → length (view_of b0.pass).turns + length (xs ++ x ∷ []) ≤ 2 ^ 60
          → (room_for b1.recording 1 ≤ b1.room) × (length (view_of b1.pass).turns < 2 ^ 60)
      last_room room tickets =
          let long = length-append xs (x ∷ []) in
          let events : length (all_done {T = M.Target} xs answers) ≡ length xs = length_done M.Target xs answers enough in
          let turns = noted_turns M b0 b1 (all_done xs answers) h in (
            subst (λ (r : Recording). room_for r 1 ≤ b1.room) (sym h.recording)
                (room_last b0.recording (length xs) (length (xs ++ x ∷ [])) b0.room b1.room (ap (λ (n : ℕ). b1.room + room_for b0.recording n) (sym events) ∙ h.room) room (omega (arith, long))),
            omega (arith, long, events, turns, tickets),
          )

      -- and then the stop in it
      pub last_noted : (d : Book M Setup) → HasNoted M b1 (StopIn x true) outcome.Quiet d → HasNotedAll M b0 (stops_after (xs ++ x ∷ []) answers) d
      last_noted d k =
          subst (λ (es : List (EventOf M × Answer)). HasNotedAll M b0 es d) (sym (stops_last xs x answers many))
          (both_noted M b0 b1 d (all_done xs answers) ((StopIn x true, Ok tt) ∷ []) h (one_noted M b1 d (StopIn x true) (Ok tt) k))

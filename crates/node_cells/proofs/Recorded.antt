-- The record goes with the view.
use Rattle.std.proofs.Common.{◌≡◌, ℕ, zero, suc, ◌+◌, ◌-◌, ◌*◌, ◌<◌, ◌≤◌, true, List, [], ◌∷◌, ◌++◌, length, Option, Some, None, refl, sym, ap, ◌∙◌, subst, arith, append-nil, length-append}
use Rattle.std.proofs.lemmas.List.{map-append}
use Rattle.raft_log.specs.Node.{Node}
use Rattle.raft_node.specs.Machine.{Machine}
use Rattle.raft_node.specs.Steps.{Out}
use Rattle.world_run.specs.Told.{out_of}
use Rattle.world_views.specs.declared.envelope.Envelope.{Envelope}
use Rattle.world_views.specs.Outputs.{outs_along, outs_of}
use Rattle.world_views.specs.Own.{EventOf, TurnOf, ViewOf, own_out, own_state, run, runs}
use Rattle.world_views.specs.Views.{IsOpened, View, start, start_from}
use Rattle.world_views.proofs.Runs.{run-append}
use Rattle.ether.specs.declared.pass.Pass.{Pass}
use Rattle.ether.specs.Passes.{EtherParts, IsOpenPass, view_of}
use Rattle.ether.specs.Plays.{after_event, after_post, after_take}
use Rattle.node_cells.specs.declared.record.Recording.{Recording}
use Rattle.node_cells.specs.declared.record.Recording.TheVariants.{On, Off}
use Rattle.node_cells.specs.Books.{AreOfBook, BookParts, IsRecordBy, NotedOf, OutcomeOf, noted, out_in, recorded_by, room_for, turn_in}
use Rattle.node_cells.specs.Posts.{posts_from}

-- what is recorded of nothing, and of two lists, one after the other
pub recorded-nil : {A : Type 0} (r : Recording) → recorded_by r (let none : List A = [] in none) ≡ []
recorded-nil On = refl
recorded-nil Off = refl

pub recorded-append : {A : Type 0} (r : Recording) (xs ys : List A) → recorded_by r (xs ++ ys) ≡ recorded_by r xs ++ recorded_by r ys
recorded-append On xs ys = refl
recorded-append Off xs ys = refl

-- a record to which nothing was added, if turns are not recorded
pub recorded_off : {A : Type 0} (r : Recording) (xs ys : List A) → r ≡ Off → xs ≡ xs ++ recorded_by r ys
recorded_off On xs ys off = absurd (cc off)
recorded_off Off xs ys off = sym (append-nil xs)

pub room_off : (r : Recording) (room count : ℕ) → r ≡ Off → room + room_for r count ≡ room
room_off On room count off = absurd (cc off)
room_off Off room count off = omega arith

-- a turn that was recorded took its room
pub room_taken : {A : Type 0} (r : Recording) (xs ys : List A) (x : A) (few many capacity same : ℕ) → few ≡ length xs → many ≡ length ys → same ≡ capacity → ys ≡ xs ++ recorded_by r (x ∷ []) → room_for r 1 ≤ capacity - few
    → (same - many) + room_for r 1 ≡ capacity - few
room_taken {A} On xs ys x few many capacity same f m s is enough =
    let long : length ys ≡ length xs + 1 = ap (λ (l : List A). length l) is ∙ length-append xs (x ∷ []) in omega (arith, f, m, s, long, enough)
room_taken {A} Off xs ys x few many capacity same f m s is enough =
    let long : length ys ≡ length xs = ap (λ (l : List A). length l) (is ∙ append-nil xs) in omega (arith, f, m, s, long)

-- no turn needs no room
pub room-none : (r : Recording) (room : ℕ) → room + room_for r 0 ≡ room
room-none On room = omega arith
room-none Off room = omega arith

-- one more turn was recorded
pub room-more : (r : Recording) (done room0 room1 room2 : ℕ) → room1 + room_for r done ≡ room0 → room2 + room_for r 1 ≡ room1 → room2 + room_for r (done + 1) ≡ room0
room-more On done room0 room1 room2 before one = omega (arith, before, one)
room-more Off done room0 room1 room2 before one = omega (arith, before, one)

-- after some of the turns that there is room for, there is room for one more
pub room-left : (r : Recording) (done count room0 room1 : ℕ) → room1 + room_for r done ≡ room0 → done < count → room_for r count ≤ room0 → room_for r 1 ≤ room1
room-left On done count room0 room1 before more enough = omega (arith, before, more, enough)
room-left Off done count room0 room1 before more enough = omega arith

-- if there is room for these turns and one more, there is room for one
pub room-one : (r : Recording) (count room : ℕ) → room_for r (count + 1) ≤ room → room_for r 1 ≤ room
room-one On count room enough = omega (arith, enough)
room-one Off count room enough = omega arith

-- and then for no more than these
pub room-rest : (r : Recording) (count more room0 room1 : ℕ) → room1 + room_for r 1 ≡ room0 → more ≤ count → room_for r (count + 1) ≤ room0 → room_for r more ≤ room1
room-rest On count more room0 room1 one few enough = omega (arith, one, few, enough)
room-rest Off count more room0 room1 one few enough = omega arith

start_same : {B : Type 0} (s s' : Node B) (o : Option (ℕ × Node B)) (b : ℕ × Node B) → o ≡ Some b → start_from s o ≡ start_from s' o
start_same s s' None b h = cc
start_same s s' (Some c) b h = refl

module _ (M : Machine) where
  outs-append : (n i : ℕ) (s : Node M.Body) (xs ys : List (TurnOf M)) → outs_along M n i s (xs ++ ys) ≡ outs_along M n i s xs ++ outs_along M n i (run M n i s xs) ys
  outs-append n i s [] ys = refl
  outs-append n i s (t ∷ xs) ys = ap (λ (l : List (Out M)). own_out M n i s t.1 ∷ l) (outs-append n i (own_state M n i s t.1) xs ys)

  -- an event, recorded with what comes out of it if turns are recorded
  record_event : (r : Recording) (v : ViewOf M) (turns : List (NotedOf M)) (t : ℕ) (e : EventOf M) (o : OutcomeOf M) → IsOpened v → v.state ≡ runs M v (start v) v.turns → IsRecordBy M r v turns
      → (v.honest ≡ true → out_of M o ≡ own_out M v.size (suc v.node) v.state e) → IsRecordBy M r (after_event M v t e) (turns ++ recorded_by r (noted M t e o ∷ []))
  record_event Off v turns t e o opened state h out = ap (λ (l : List (NotedOf M)). l ++ []) h
  record_event On v turns t e o opened state h out =
      let w : ViewOf M = after_event M v t e in
      let one : List (TurnOf M) = (t, e) ∷ [] in
      let same : start v ≡ start w = start_same v.state w.state v.opened opened.0 opened.1 in
      record {
        turns_are = map-append (turn_in M) turns (noted M t e o ∷ []) ∙ ap (λ (l : List (TurnOf M)). l ++ one) h.turns_are;
        outs_are = λ honest.
            let before : own_out M v.size (suc v.node) v.state e ≡ own_out M v.size (suc v.node) (runs M v (start v) v.turns) e = ap (λ (s : Node M.Body). own_out M v.size (suc v.node) s e) state in
            map-append (out_in M) turns (noted M t e o ∷ [])
            ∙ ap (λ (l : List (Out M)). l ++ out_of M o ∷ []) (h.outs_are honest)
            ∙ ap (λ (x : Out M). outs_of M v ++ x ∷ []) (out honest ∙ before)
            ∙ sym (outs-append v.size (suc v.node) (start v) v.turns one)
            ∙ ap (λ (s : Node M.Body). outs_along M v.size (suc v.node) s w.turns) same;
      }

  -- neither what was posted nor what was heard is recorded
  record_posts : (r : Recording) (v : ViewOf M) (posted : List ℕ) (turns : List (NotedOf M)) → IsRecordBy M r v turns → IsRecordBy M r (record v { posted = posted }) turns
  record_posts On v posted turns h = record { turns_are = h.turns_are; outs_are = h.outs_are }
  record_posts Off v posted turns h = h

  record_heard : (r : Recording) (v : ViewOf M) (heard : List (Envelope M.Body)) (turns : List (NotedOf M)) → IsRecordBy M r v turns → IsRecordBy M r (record v { heard = heard }) turns
  record_heard On v heard turns h = record { turns_are = h.turns_are; outs_are = h.outs_are }
  record_heard Off v heard turns h = h

  -- what a book's record says of a view
  pub record Kept (r : Recording) (v : ViewOf M) (turns : List (NotedOf M)) : Type 0 where
    pub opened : IsOpened v
    pub state : v.state ≡ runs M v (start v) v.turns
    pub recorded : IsRecordBy M r v turns

  pub kept_event : (r : Recording) (v : ViewOf M) (turns : List (NotedOf M)) (t : ℕ) (e : EventOf M) (o : OutcomeOf M) → Kept r v turns
      → (v.honest ≡ true → out_of M o ≡ own_out M v.size (suc v.node) v.state e) → Kept r (after_event M v t e) (turns ++ recorded_by r (noted M t e o ∷ []))
  kept_event r v turns t e o h out =
      let w : ViewOf M = after_event M v t e in
      let one : List (TurnOf M) = (t, e) ∷ [] in
      let same : start v ≡ start w = start_same v.state w.state v.opened h.opened.0 h.opened.1 in
      record {
        opened = h.opened;
        state = ap (λ (s : Node M.Body). own_state M v.size (suc v.node) s e) h.state ∙ sym (run-append M v.size (suc v.node) (start v) v.turns one) ∙ ap (λ (s : Node M.Body). runs M v s w.turns) same;
        recorded = record_event r v turns t e o h.opened h.state h.recorded out;
      }

  kept_posts : (r : Recording) (v : ViewOf M) (posted : List ℕ) (turns : List (NotedOf M)) → Kept r v turns → Kept r (record v { posted = posted }) turns
  kept_posts r v posted turns h =
      record { opened = h.opened; state = h.state; recorded = record_posts r v posted turns h.recorded }

  kept_heard : (r : Recording) (v : ViewOf M) (heard : List (Envelope M.Body)) (turns : List (NotedOf M)) → Kept r v turns → Kept r (record v { heard = heard }) turns
  kept_heard r v heard turns h =
      record { opened = h.opened; state = h.state; recorded = record_heard r v heard turns h.recorded }

  pub kept_take : (r : Recording) (v : ViewOf M) (came : Option (Envelope M.Body)) (turns : List (NotedOf M)) → Kept r v turns → Kept r (after_take v came) turns
  kept_take r v None turns h = h
  kept_take r v (Some e) turns h = kept_heard r v (v.heard ++ e ∷ []) turns h

module _ {B L T : Type 0} where
  -- posts change nothing of a view except what was posted
  pub posts_are : (v : View B L T) (n k : ℕ) → posts_from v n k ≡ record v { posted = (posts_from v n k).posted }
  posts_are v n zero = refl
  posts_are v n (suc k) = posts_are (after_post v (suc n)) (suc n) k

  take_leaves : (v : View B L T) (came : Option (Envelope B)) → (after_take v came).turns ≡ v.turns
  take_leaves v None = refl
  take_leaves v (Some e) = refl

abbrev pub Book : Machine → Type 0 → Type 0
Book M Setup = BookParts Setup M.Body M.Line M.Target M.Effect M.Played

module _ (M : Machine) {Setup : Type 0} (ether : EtherParts Setup) (r : Recording) where
  kept_of : (p : Pass M.Body M.Line M.Target) (turns : List (NotedOf M)) (sent : ℕ) → AreOfBook M ether p r turns sent → Kept M r (view_of p) turns
  kept_of p turns sent h = record { opened = h.opened.1.0; state = h.state; recorded = h.recorded }

  -- the book of this pass, with this record
  pub book_of : (p : Pass M.Body M.Line M.Target) (turns : List (NotedOf M)) (sent : ℕ) → IsOpenPass ether p → Kept M r (view_of p) turns → sent ≤ 7 * length (view_of p).turns → ether.size ≤ 7 → AreOfBook M ether p r turns sent
  book_of p turns sent opened kept few small =
      record { opened = opened; state = kept.state; recorded = kept.recorded; few = few; small = small }

  -- after an event
  pub noted_book : (p q : Pass M.Body M.Line M.Target) (turns more : List (NotedOf M)) (sent t : ℕ) (e : EventOf M) (o : OutcomeOf M) → AreOfBook M ether p r turns sent → IsOpenPass ether q → view_of q ≡ after_event M (view_of p) t e
      → more ≡ turns ++ recorded_by r (noted M t e o ∷ []) → ((view_of p).honest ≡ true → out_of M o ≡ own_out M (view_of p).size (suc (view_of p).node) (view_of p).state e) → AreOfBook M ether q r more sent
  noted_book p q turns more sent t e o h opened view is out =
      book_of q more sent opened
      (subst (λ (z : ViewOf M × List (NotedOf M)). Kept M r z.0 z.1) (λ i. (sym view i, sym is i)) (kept_event M r (view_of p) turns t e o (kept_of p turns sent h) out))
      (let few = h.few in
      let long : length (view_of q).turns ≡ length (view_of p).turns + 1 = ap (λ (v : ViewOf M). length v.turns) view ∙ length-append (view_of p).turns ((t, e) ∷ []) in
      omega (arith, few, long))
      h.small

  -- after a post
  pub posted_book : (p q : Pass M.Body M.Line M.Target) (turns : List (NotedOf M)) (sent more n : ℕ) → AreOfBook M ether p r turns sent → IsOpenPass ether q → view_of q ≡ after_post (view_of p) n → more ≤ 7 * length (view_of p).turns
      → AreOfBook M ether q r turns more
  posted_book p q turns sent more n h opened view few =
      book_of q turns more opened
      (subst (λ (v : ViewOf M). Kept M r v turns) (sym view) (kept_posts M r (view_of p) (after_post (view_of p) n).posted turns (kept_of p turns sent h)))
      (subst (λ (v : ViewOf M). more ≤ 7 * length v.turns) (sym view) few)
      h.small

  -- after a look into a mailbox
  pub taken_book : (p q : Pass M.Body M.Line M.Target) (turns : List (NotedOf M)) (sent : ℕ) (came : Option (Envelope M.Body)) → AreOfBook M ether p r turns sent → IsOpenPass ether q → view_of q ≡ after_take (view_of p) came
      → AreOfBook M ether q r turns sent
  taken_book p q turns sent came h opened view =
      book_of q turns sent opened
      (subst (λ (v : ViewOf M). Kept M r v turns) (sym view) (kept_take M r (view_of p) came turns (kept_of p turns sent h)))
      (let few = h.few in
      let long : length (view_of q).turns ≡ length (view_of p).turns = ap (λ (v : ViewOf M). length v.turns) view ∙ ap length (take_leaves (view_of p) came) in
      omega (arith, few, long))
      h.small

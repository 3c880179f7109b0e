-- Several events of a book, one after the other.
use Rattle.std.proofs.Common.{◌≡◌, ℕ, suc, ◌+◌, ◌<◌, ◌≤◌, ◌^◌, Bool, true, List, [], ◌∷◌, ◌++◌, Option, Some, None, Ok, Err, map, drop, length, refl, sym, ap, ◌∙◌, subst, arith, append-nil, append_assoc, length-append}
use Rattle.std.specs.Prelude.{get_or}
use Rattle.std.proofs.lemmas.List.{map-append, drop_more}
use Rattle.raft_node.specs.Machine.{Machine}
use Rattle.raft_node.specs.SteppingTogether as together
use Rattle.world_run.specs.Told.{out_of}
use Rattle.world_views.specs.declared.envelope.Envelope.{Envelope}
use Rattle.world_views.specs.declared.node_event.NodeEvent.TheVariants.{Does, StopIn}
use Rattle.world_views.specs.Inputs.{NodeInput}
use Rattle.raft_node.specs.declared.input.Input.TheVariants.{Timeout, Beat, Deliver, Ask, Opened, Closed, Heard, Claim, Apply}
use Rattle.world_views.specs.Own.{EventOf, TurnOf, ViewOf, own_out}
use Rattle.world_views.specs.Views.{View, carries}
use Rattle.ether.specs.Passes.{IsHeard, view_of}
use Rattle.node_cells.specs.declared.record.Recording.{Recording}
use Rattle.node_cells.specs.declared.record.Recording.TheVariants.{On, Off}
use Rattle.node_cells.specs.Books.{HasNoted, NotedOf, noted, recorded_by, room_for, turn_in}
use Rattle.node_cells.specs.Cells.{AreAnswered}
use Rattle.node_cells.specs.Inputs.{Answer, OnlyAppend}
use Rattle.node_cells.specs.Restarts.{AreNoted, HasNotedAll, after_turns, outcome_by}
use Rattle.node_cells.specs.Together.{all_done}
use Rattle.node_cells.proofs.Looping.{turns-append, turns_length}
use Rattle.node_cells.proofs.Recorded.{Book, recorded-append, recorded-nil}

-- ---- room in a record

room_both : (r : Recording) (a b room0 room1 room2 : ℕ) → room1 + room_for r a ≡ room0 → room2 + room_for r b ≡ room1 → room2 + room_for r (a + b) ≡ room0
room_both On a b room0 room1 room2 one two = omega (arith, one, two)
room_both Off a b room0 room1 room2 one two = omega (arith, one, two)

room_first : (r : Recording) (n room : ℕ) → room_for r (suc n) ≤ room → room_for r 1 ≤ room
room_first On n room h = omega (arith, h)
room_first Off n room h = omega arith

room_behind : (r : Recording) (n room0 room1 : ℕ) → room1 + room_for r 1 ≡ room0 → room_for r (suc n) ≤ room0 → room_for r n ≤ room1
room_behind On n room0 room1 one h = omega (arith, one, h)
room_behind Off n room0 room1 one h = omega arith

-- ---- inputs that only append

module _ {B L : Type 0} where
  -- they bring nothing
  pub brings_none : (x : NodeInput B L) → OnlyAppend (x ∷ []) → carries x ≡ None
  brings_none Timeout h = refl
  brings_none Beat h = refl
  brings_none (Deliver e) h = absurd (let z = h.0 in cc z)
  brings_none (Ask body) h = refl
  brings_none Opened h = refl
  brings_none Closed h = refl
  brings_none (Heard at line) h = refl
  brings_none Claim h = refl
  brings_none Apply h = refl

  pub first_appends : (xs : List (NodeInput B L)) (x : NodeInput B L) → 1 ≤ length xs → x ≡ get_or xs 0 x → OnlyAppend xs → OnlyAppend (x ∷ [])
  first_appends [] x some is h = absurd (omega (arith, some))
  first_appends (y ∷ xs) x some is h = subst (λ (z : NodeInput B L). OnlyAppend (z ∷ [])) (sym is) (h.0, tt)

  pub front_appends : (xs : List (NodeInput B L)) (x : NodeInput B L) → OnlyAppend (xs ++ x ∷ []) → OnlyAppend xs
  front_appends [] x h = tt
  front_appends (y ∷ xs) x h = (h.0, front_appends xs x h.1)

  pub last_appends : (xs : List (NodeInput B L)) (x : NodeInput B L) → OnlyAppend (xs ++ x ∷ []) → OnlyAppend (x ∷ [])
  last_appends [] x h = h
  last_appends (y ∷ xs) x h = last_appends xs x h.1

module _ {B L T : Type 0} where
  none_is_heard : (v : View B L T) (o : Option (Envelope B)) → o ≡ None → (m : Envelope B) → o ≡ Some m → ⊥
  none_is_heard v o none m e = let z : None ≡ Some m = sym none ∙ e in cc z

  pub heard_done : (v : View B L T) (x : NodeInput B L) → OnlyAppend (x ∷ []) → IsHeard v (Does x)
  heard_done v x h m e = absurd (none_is_heard v (carries x) (brings_none x h) m e)

  pub heard_stopped : (v : View B L T) (x : NodeInput B L) (after : Bool) → OnlyAppend (x ∷ []) → IsHeard v (StopIn x after)
  heard_stopped v x after h m e = absurd (none_is_heard v (carries x) (brings_none x h) m e)

-- as many events as inputs
pub length_done : {B L : Type 0} (T : Type 0) (xs : List (NodeInput B L)) (answers : List Answer) → length xs ≤ length answers → length (all_done {T = T} xs answers) ≡ length xs
length_done T [] answers h = refl
length_done T (x ∷ xs) [] h = absurd (omega (arith, h))
length_done T (x ∷ xs) (a ∷ answers) h = ap suc (length_done T xs answers (omega (arith, h)))

-- ---- events of a book

module _ (M : Machine) where
  -- what comes out of an append, by its answer in the record
  pub out_by : (a : Answer) → out_of M (outcome_by a) ≡ together.out_of M a
  out_by (Ok done) = refl
  out_by (Err refusal) = refl

  noted_append : (es fs : List (EventOf M × Answer)) (xs ys : List (NotedOf M)) → AreNoted M es xs → AreNoted M fs ys → AreNoted M (es ++ fs) (xs ++ ys)
  noted_append [] fs [] ys h k = k
  noted_append [] fs (x ∷ xs) ys h k = absurd h
  noted_append (e ∷ es) fs [] ys h k = absurd h
  noted_append (e ∷ es) fs (x ∷ xs) ys h k = (h.0, h.1, noted_append es fs xs ys h.2 k)

  pub noted_length : (es : List (EventOf M × Answer)) (xs : List (NotedOf M)) → AreNoted M es xs → length xs ≡ length es
  noted_length [] [] h = refl
  noted_length [] (x ∷ xs) h = absurd h
  noted_length (e ∷ es) [] h = absurd h
  noted_length (e ∷ es) (x ∷ xs) h = ap suc (noted_length es xs h.2)

  module _ {Setup : Type 0} where
    pub none_noted : (b : Book M Setup) → HasNotedAll M b [] b
    none_noted b =
        record {
          first = [];
          are = tt;
          view = refl;
          recording = refl;
          turns = sym (ap (λ (l : List (NotedOf M)). b.turns ++ l) (recorded-nil b.recording) ∙ append-nil b.turns);
          ether = refl;
          node = refl;
          sent = refl;
          room = by b.recording b.room;
        }
      where
        by : (r : Recording) (room : ℕ) → room + room_for r 0 ≡ room
        by On room = omega arith
        by Off room = omega arith

    pub one_noted : (b d : Book M Setup) (e : EventOf M) (a : Answer) → HasNoted M b e (outcome_by a) d → HasNotedAll M b ((e, a) ∷ []) d
    one_noted b d e a h =
        record {
          first = noted M h.ticket e (outcome_by a) ∷ [];
          are = (refl, refl, tt);
          view = h.view;
          recording = h.recording;
          turns = h.turns;
          ether = h.ether;
          node = h.node;
          sent = h.sent;
          room = h.room;
        }

    pub both_noted : (b0 b1 b2 : Book M Setup) (es fs : List (EventOf M × Answer)) → HasNotedAll M b0 es b1 → HasNotedAll M b1 fs b2 → HasNotedAll M b0 (es ++ fs) b2
    both_noted b0 b1 b2 es fs h k =
        record {
          first = h.first ++ k.first;
          are = noted_append es fs h.first k.first h.are k.are;
          view =
              k.view ∙ ap (λ (v : ViewOf M). after_turns M v (map (turn_in M) k.first)) h.view
              ∙ sym (turns-append M (view_of b0.pass) (map (turn_in M) h.first) (map (turn_in M) k.first))
              ∙ ap (λ (l : List (TurnOf M)). after_turns M (view_of b0.pass) l) (sym (map-append (turn_in M) h.first k.first));
          recording = k.recording ∙ h.recording;
          turns =
              k.turns ∙ (λ i. h.turns i ++ recorded_by (h.recording i) k.first)
              ∙ append_assoc b0.turns (recorded_by b0.recording h.first) (recorded_by b0.recording k.first)
              ∙ ap (λ (l : List (NotedOf M)). b0.turns ++ l) (sym (recorded-append b0.recording h.first k.first));
          ether = k.ether ∙ h.ether;
          node = k.node ∙ h.node;
          sent = k.sent ∙ h.sent;
          room =
              ap (λ (n : ℕ). b2.room + room_for b0.recording n) (length-append es fs)
              ∙ room_both b0.recording (length es) (length fs) b0.room b1.room b2.room h.room
              (subst (λ (r : Recording). b2.room + room_for r (length fs) ≡ b1.room) h.recording k.room);
        }

    -- as many more turns
    pub noted_turns : (b d : Book M Setup) (es : List (EventOf M × Answer)) → HasNotedAll M b es d → length (view_of d.pass).turns ≡ length (view_of b.pass).turns + length es
    noted_turns b d es h =
        ap (λ (v : ViewOf M). length v.turns) h.view ∙ turns_length M (view_of b.pass) (map (turn_in M) h.first)
        ∙ ap (λ (n : ℕ). length (view_of b.pass).turns + n) (by h.first ∙ noted_length es h.first h.are)
      where
        by : (xs : List (NotedOf M)) → length (map (turn_in M) xs) ≡ length xs
        by [] = refl
        by (x ∷ xs) = ap suc (by xs)

    -- Between two inputs: what is still to be noted, by the answers from the next one on.
    pub record Noting (b0 b : Book M Setup) (all rest : List (NodeInput M.Body M.Line)) (answers : List Answer) (done : ℕ) : Type 0 where
      pub ether : b.ether ≡ b0.ether
      pub appends : OnlyAppend rest
      pub enough : done + length rest ≤ length answers
      pub room : room_for b.recording (length rest) ≤ b.room
      pub tickets : length (view_of b.pass).turns + length rest ≤ 2 ^ 60
      pub answered : (view_of b.pass).honest ≡ true → AreAnswered M (view_of b.pass).size (suc (view_of b.pass).node) (view_of b.pass).state rest (drop done answers)
      pub leads : (d : Book M Setup) → HasNotedAll M b (all_done rest (drop done answers)) d → HasNotedAll M b0 (all_done all answers) d

    pub noting_first : (b : Book M Setup) (all : List (NodeInput M.Body M.Line)) (answers : List Answer) → OnlyAppend all → length all ≤ length answers → room_for b.recording (length all) ≤ b.room
        → length (view_of b.pass).turns + length all ≤ 2 ^ 60
        → ((view_of b.pass).honest ≡ true → AreAnswered M (view_of b.pass).size (suc (view_of b.pass).node) (view_of b.pass).state all answers) → Noting b b all all answers 0
    noting_first b all answers appends enough room tickets answered =
        record { ether = refl; appends = appends; enough = omega (arith, enough); room = room; tickets = tickets; answered = answered; leads = λ d h. h }

    module _ (b0 b : Book M Setup) (all : List (NodeInput M.Body M.Line)) (x : NodeInput M.Body M.Line) (rest : List (NodeInput M.Body M.Line)) (answers : List Answer) (done : ℕ)
        (h : Noting b0 b all (x ∷ rest) answers done) where
      pub noting_within : done < length answers
      noting_within = let e = h.enough in omega (arith, e)

      pub noting_room : (room_for b.recording 1 ≤ b.room) × (length (view_of b.pass).turns < 2 ^ 60)
      noting_room = (room_first b.recording (length rest) b.room h.room, let t = h.tickets in omega (arith, t))

      pub noting_heard : IsHeard (view_of b.pass) (Does x)
      noting_heard = heard_done (view_of b.pass) x (h.appends.0, tt)

      -- the answers from here on
      behind : (a : Answer) → get_or answers done a ≡ a → drop done answers ≡ a ∷ drop (done + 1) answers
      behind a e = drop_more answers done a noting_within ∙ ap (λ (y : Answer). y ∷ drop (done + 1) answers) e

      here : (a : Answer) → get_or answers done a ≡ a → (view_of b.pass).honest ≡ true
          → AreAnswered M (view_of b.pass).size (suc (view_of b.pass).node) (view_of b.pass).state (x ∷ rest) (a ∷ drop (done + 1) answers)
      here a e honest =
          subst (λ (l : List Answer). AreAnswered M (view_of b.pass).size (suc (view_of b.pass).node) (view_of b.pass).state (x ∷ rest) l) (behind a e) (h.answered honest)

      pub noting_out : (a : Answer) → get_or answers done a ≡ a → (view_of b.pass).honest ≡ true
          → out_of M (outcome_by a) ≡ own_out M (view_of b.pass).size (suc (view_of b.pass).node) (view_of b.pass).state (Does x)
      noting_out a e honest = out_by a ∙ sym (here a e honest).0

      pub noting_next : (a : Answer) → get_or answers done a ≡ a → (d : Book M Setup) → HasNoted M b (Does x) (outcome_by a) d → Noting b0 d all rest answers (done + 1)
      noting_next a e d n =
          record {
            ether = n.ether ∙ h.ether;
            appends = h.appends.1;
            enough = let k = h.enough in omega (arith, k);
            room = subst (λ (r : Recording). room_for r (length rest) ≤ d.room) (sym n.recording) (room_behind b.recording (length rest) b.room d.room n.room h.room);
            tickets =
                let k = h.tickets in
                let long : length (view_of d.pass).turns ≡ length (view_of b.pass).turns + 1 = ap (λ (v : ViewOf M). length v.turns) n.view ∙ length-append (view_of b.pass).turns ((n.ticket, Does x) ∷ []) in
                omega (arith, k, long);
            answered = λ honest.
                subst (λ (v : ViewOf M). AreAnswered M v.size (suc v.node) v.state rest (drop (done + 1) answers)) (sym n.view)
                (here a e (sym (ap (λ (v : ViewOf M). v.honest) n.view) ∙ honest)).1;
            leads = λ z k.
                h.leads z (subst (λ (l : List Answer). HasNotedAll M b (all_done (x ∷ rest) l) z) (sym (behind a e))
                (both_noted b d z ((Does x, a) ∷ []) (all_done rest (drop (done + 1) answers)) (one_noted b d (Does x) a n) k));
          }

    pub noting_done : (b0 b : Book M Setup) (all rest : List (NodeInput M.Body M.Line)) (answers : List Answer) (done : ℕ) → Noting b0 b all rest answers done → rest ≡ []
        → HasNotedAll M b0 (all_done all answers) b
    noting_done b0 b all rest answers done h none = h.leads b (subst (λ (l : List (NodeInput M.Body M.Line)). HasNotedAll M b (all_done l (drop done answers)) b) (sym none) (none_noted b))

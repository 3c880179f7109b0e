-- What a cell knows of marks, after each event, by what its view shows.
use Rattle.std.proofs.Common.{◌≡◌, ℕ, suc, Bool, true, false, ◌||◌, not, ltb, List, [], ◌∷◌, ◌++◌, Option, Some, None, Ok, Err, take, refl, sym, ap, ◌∙◌, subst, arith, ◌≤◌, length, map}
use Rattle.std.proofs.lemmas.Bool.{cond_both, le-ltb}
use Rattle.wire_bytes.specs.declared.mark.Mark.{Mark}
use Rattle.raft_log.specs.declared.entry.Entry.{Entry}
use Rattle.raft_log.specs.Node.{Node}
use Rattle.node_steps.specs.declared.refusal.Refusal.TheVariants.{Behind}
use Rattle.raft_node.specs.Machine.{Machine}
use Rattle.raft_node.specs.Sound.{IsSound}
use Rattle.raft_node.specs.Steps.{Act, Looks, Out, Turn, looked, refused, turn, applied}
use Rattle.raft_node.specs.Steps as steps
use Rattle.raft_node.proofs.Keeps.{stays_sound}
use Rattle.raft_node.specs.SteppingTogether.{out_of}
use Rattle.world_views.specs.declared.envelope.Envelope.{Envelope}
use Rattle.world_views.specs.declared.node_event.NodeEvent.TheVariants.{Does, Look, Restart, StopIn}
use Rattle.world_views.specs.Inputs.{NodeInput}
use Rattle.world_views.specs.Own.{EventOf, TurnOf, ViewOf, act_of, own_of, own_state, own_out}
use Rattle.ether.specs.Plays.{after_event, after_take}
use Rattle.node_cells.specs.declared.phase.Phase.{Phase}
use Rattle.node_cells.specs.declared.phase.Phase.TheVariants.{Up, DownInTurn, DownInTurns, DownInRestart}
use Rattle.node_cells.specs.Posts.{posts_from}
use Rattle.node_cells.specs.Restarts.{AreRestarts, after_turns, AreNoted, firsts_of, stops_after, stops_before, stops_in}
use Rattle.node_cells.proofs.Recorded.{posts_are}
use Rattle.node_cells.proofs.Showing.{does_state, does_out}
use Rattle.node_cells.specs.Books.{NotedOf, turn_in}
use Rattle.node_cells.specs.Cells.{AreAnswered, AreTogether}
use Rattle.node_cells.specs.Inputs.{Answer}
use Rattle.node_cells.specs.Together.{all_done}
use Rattle.node_cells.proofs.Looping.{turns-append}
use Rattle.node_cells.specs.Marks.{KnowsMarks, asked_after, asked_from, asks, has_own, larger, asked_by_all}
use Rattle.node_cells.proofs.MarksApplied.{Reaches, quiet_turn_reaches}

module _ (M : Machine) (marked : M.Body → Option Mark) where
  abbrev pub Known : ViewOf M → ℕ → Option ℕ → Type 0
  Known v asked reached = KnowsMarks marked v asked reached

  asked_behind : (most : ℕ) (turns : List (TurnOf M)) (t : TurnOf M) → asked_from marked most (turns ++ t ∷ []) ≡ asked_after marked (asked_from marked most turns) t.1
  asked_behind most [] t = refl
  asked_behind most (u ∷ turns) t = asked_behind (asked_after marked most u.1) turns t

  own_sound : (n i : ℕ) (s : Node M.Body) (e : EventOf M) → IsSound n s → IsSound n (own_state M n i s e)
  unfolding own_state
  own_sound n i s e h = stays_sound M n i (own_of M e) s h

  -- after an event
  pub event_keeps : (v : ViewOf M) (t : ℕ) (e : EventOf M) (asked asked' : ℕ) (reached reached' : Option ℕ) → Known v asked reached → asked' ≡ asked_after marked asked e
      → (v.honest ≡ true → Reaches marked (suc v.node) reached' (own_state M v.size (suc v.node) v.state e)) → Known (after_event M v t e) asked' reached'
  event_keeps v t e asked asked' reached reached' h is reaches =
      record {
        asked_is = is ∙ ap (λ (most : ℕ). asked_after marked most e) h.asked_is ∙ sym (asked_behind 0 v.turns (t, e));
        sound = λ honest. own_sound v.size (suc v.node) v.state e (h.sound honest);
        reached_is = reaches;
      }

  -- posts change nothing of it
  posted_keeps : (v : ViewOf M) (more : List ℕ) (asked : ℕ) (reached : Option ℕ) → Known v asked reached → Known (record v { posted = more }) asked reached
  posted_keeps v more asked reached h = record { asked_is = h.asked_is; sound = h.sound; reached_is = h.reached_is }

  pub posts_keep : (v : ViewOf M) (n k asked : ℕ) (reached : Option ℕ) → Known v asked reached → Known (posts_from v n k) asked reached
  posts_keep v n k asked reached h = subst (λ (w : ViewOf M). Known w asked reached) (sym (posts_are v n k)) (posted_keeps v (posts_from v n k).posted asked reached h)

  -- a look into a mailbox
  pub take_keeps : (v : ViewOf M) (came : Option (Envelope M.Body)) (asked : ℕ) (reached : Option ℕ) → Known v asked reached → Known (after_take v came) asked reached
  take_keeps v None asked reached h = h
  take_keeps v (Some e) asked reached h = record { asked_is = h.asked_is; sound = h.sound; reached_is = h.reached_is }

  -- a look changes no node
  look_same : (n i : ℕ) (s : Node M.Body) (from : ℕ) (target : M.Target) → own_state M n i s (Look from target) ≡ s
  unfolding own_state
  look_same n i s from target = cond_both (ltb s.applied from) (refused M s (Behind s.applied)) (record { node = s; out = steps.Looked s.applied (M.playback (steps.applied_history M s) target) }) (λ (t : Turn M). t.node ≡ s) (λ e. refl) (λ e. refl)

  pub looked_keeps : (v : ViewOf M) (t from : ℕ) (target : M.Target) (asked : ℕ) (reached : Option ℕ) → Known v asked reached → Known (after_event M v t (Look from target)) asked reached
  looked_keeps v t from target asked reached h =
      event_keeps v t (Look from target) asked asked reached reached h refl
      (λ honest. subst (λ (s : Node M.Body). Reaches marked (suc v.node) reached s) (sym (look_same v.size (suc v.node) v.state from target)) (h.reached_is honest))

  -- ---- a new run

  restart_none : (n i : ℕ) (s : Node M.Body) → (own_state M n i s Restart).applied ≡ 0
  unfolding own_state
  restart_none n i s = refl

  stop_none : (n i : ℕ) (s : Node M.Body) (x : NodeInput M.Body M.Line) (after : Bool) → (own_state M n i s (StopIn x after)).applied ≡ 0
  unfolding own_state
  stop_none n i s x false = refl
  stop_none n i s x true = refl

  none_reached : (node : ℕ) (s : Node M.Body) → s.applied ≡ 0 → Reaches marked node None s
  none_reached node s e n = λ d. has_own marked node s.boot n (take (sym e d) s.log)

  restart_reaches : (n i : ℕ) (s : Node M.Body) → Reaches marked i None (own_state M n i s Restart)
  restart_reaches n i s = none_reached i (own_state M n i s Restart) (restart_none n i s)

  stop_reaches : (n i : ℕ) (s : Node M.Body) (x : NodeInput M.Body M.Line) (after : Bool) → Reaches marked i None (own_state M n i s (StopIn x after))
  stop_reaches n i s x after = none_reached i (own_state M n i s (StopIn x after)) (stop_none n i s x after)

  restarted_keeps : (v : ViewOf M) (t asked : ℕ) (reached : Option ℕ) → Known v asked reached → Known (after_event M v t Restart) 0 None
  restarted_keeps v t asked reached h = event_keeps v t Restart asked 0 reached None h refl (λ honest. restart_reaches v.size (suc v.node) v.state)

  -- a run ends, whatever it had asked and applied
  stop_begins : (v : ViewOf M) (t : ℕ) (x : NodeInput M.Body M.Line) (after : Bool) → (v.honest ≡ true → IsSound v.size v.state) → Known (after_event M v t (StopIn x after)) 0 None
  stop_begins v t x after sound =
      record {
        asked_is = sym (asked_behind 0 v.turns (t, StopIn x after));
        sound = λ honest. own_sound v.size (suc v.node) v.state (StopIn x after) (sound honest);
        reached_is = λ honest. stop_reaches v.size (suc v.node) v.state x after;
      }

  -- inputs that were saved together are done except the last, in which the run ends
  stops_begin : (inputs : List (NodeInput M.Body M.Line)) (answers : List Answer) (turns : List (NotedOf M)) (v : ViewOf M) → (v.honest ≡ true → IsSound v.size v.state) → 1 ≤ length inputs
      → length answers ≡ length inputs → AreNoted M (stops_after inputs answers) turns → Known (after_turns M v (map (turn_in M) turns)) 0 None
  stops_begin [] answers turns v sound some many are = absurd (omega (arith, some))
  stops_begin (x ∷ inputs) [] turns v sound some many are = absurd (omega (arith, many))
  stops_begin (x ∷ []) (a ∷ answers) [] v sound some many are = absurd are
  stops_begin (x ∷ []) (a ∷ answers) (t ∷ []) v sound some many are =
      subst (λ (e : EventOf M). Known (after_event M v t.ticket e) 0 None) (sym are.0) (stop_begins v t.ticket x true sound)
  stops_begin (x ∷ []) (a ∷ answers) (t ∷ u ∷ turns) v sound some many are = absurd are.2
  stops_begin (x ∷ y ∷ inputs) (a ∷ answers) [] v sound some many are = absurd are
  stops_begin (x ∷ y ∷ inputs) (a ∷ answers) (t ∷ turns) v sound some many are =
      stops_begin (y ∷ inputs) answers turns (after_event M v t.ticket t.event) (λ honest. own_sound v.size (suc v.node) v.state t.event (sound honest))
      (omega arith) (omega (arith, many)) are.2

  one_begins : (e : EventOf M) (a : Answer) (turns : List (NotedOf M)) (v : ViewOf M) → ((t : ℕ) → Known (after_event M v t e) 0 None) → AreNoted M ((e, a) ∷ []) turns
      → Known (after_turns M v (map (turn_in M) turns)) 0 None
  one_begins e a [] v begins are = absurd are
  one_begins e a (t ∷ []) v begins are = subst (λ (z : EventOf M). Known (after_event M v t.ticket z) 0 None) (sym are.0) (begins t.ticket)
  one_begins e a (t ∷ u ∷ turns) v begins are = absurd are.2

  stops_in_first : (inputs : List (NodeInput M.Body M.Line)) (turns : List (NotedOf M)) (v : ViewOf M) → (v.honest ≡ true → IsSound v.size v.state) → 1 ≤ length inputs
      → AreNoted M (stops_before inputs) turns → Known (after_turns M v (map (turn_in M) turns)) 0 None
  stops_in_first [] turns v sound some are = absurd (omega (arith, some))
  stops_in_first (x ∷ inputs) turns v sound some are = one_begins (StopIn x false) (Ok tt) turns v (λ t. stop_begins v t x false sound) are

  stops_together : (same : Bool) (inputs : List (NodeInput M.Body M.Line)) (answers : List Answer) (turns : List (NotedOf M)) (v : ViewOf M) → (v.honest ≡ true → IsSound v.size v.state)
      → 1 ≤ length inputs → length answers ≡ length inputs → AreNoted M (stops_in same inputs answers) turns → Known (after_turns M v (map (turn_in M) turns)) 0 None
  stops_together true inputs answers turns v sound some many are = stops_in_first inputs turns v sound some are
  stops_together false inputs answers turns v sound some many are = stops_begin inputs answers turns v sound some many are

  -- what a restart publishes first ends the run
  firsts_begin : (p : Phase M.Body M.Line M.Target) (same : Bool) (turns : List (NotedOf M)) (v : ViewOf M) (asked : ℕ) (reached : Option ℕ) → Known v asked reached → AreTogether p
      → AreNoted M (firsts_of p same) turns → Known (after_turns M v (map (turn_in M) turns)) 0 None
  firsts_begin Up same turns v asked reached h together are = one_begins Restart (Ok tt) turns v (λ t. restarted_keeps v t asked reached h) are
  firsts_begin (DownInTurn x copy done) same turns v asked reached h together are =
      one_begins (StopIn x (done || not same)) (Ok tt) turns v (λ t. stop_begins v t x (done || not same) h.sound) are
  firsts_begin (DownInTurns inputs copies answers) same turns v asked reached h together are =
      stops_together same inputs.items answers.items turns v h.sound together.0 together.1 are
  firsts_begin DownInRestart same turns v asked reached h together are = one_begins Restart (Ok tt) turns v (λ t. restarted_keeps v t asked reached h) are

  more_keep : (v : ViewOf M) (turns : List (TurnOf M)) → AreRestarts turns → Known v 0 None → Known (after_turns M v turns) 0 None
  more_keep v [] are h = h
  more_keep v (t ∷ turns) are h =
      more_keep (after_event M v t.0 t.1) turns are.1
      (subst (λ (e : EventOf M). Known (after_event M v t.0 e) 0 None) (sym are.0) (restarted_keeps v t.0 0 None h))

  -- what a restart publishes, and one more Restart for each start that failed
  pub restart_begins : (p : Phase M.Body M.Line M.Target) (same : Bool) (first : List (NotedOf M)) (more : List (TurnOf M)) (v : ViewOf M) (asked : ℕ) (reached : Option ℕ) → Known v asked reached
      → AreTogether p → AreNoted M (firsts_of p same) first → AreRestarts more → Known (after_turns M v (map (turn_in M) first ++ more)) 0 None
  restart_begins p same first more v asked reached h together are restarts =
      subst (λ (w : ViewOf M). Known w 0 None) (sym (turns-append M v (map (turn_in M) first) more))
      (more_keep (after_turns M v (map (turn_in M) first)) more restarts (firsts_begin p same first v asked reached h together are))

  -- -- inputs that are processed together

  no_place : (a : Answer) (i : ℕ) (s : Node M.Body) (e : Entry M.Body) → out_of M a ≡ (applied M i s (Some e)).out → ⊥
  no_place (Ok done) i s e is = absurd (cc is)
  no_place (Err refusal) i s e is = absurd (cc is)

  -- nothing comes out of an input, or that it is refused
  pub quiet_keeps : (v : ViewOf M) (t : ℕ) (x : NodeInput M.Body M.Line) (a : Answer) (asked : ℕ) (reached : Option ℕ) → Known v asked reached
      → (v.honest ≡ true → own_out M v.size (suc v.node) v.state (Does x) ≡ out_of M a) → Known (after_event M v t (Does x)) (larger asked (asks marked x)) reached
  quiet_keeps v t x a asked reached h out =
      event_keeps v t (Does x) asked (larger asked (asks marked x)) reached reached h refl
      (λ honest.
      let s : Node M.Body = v.state in
      let n : ℕ = v.size in
      let i : ℕ = suc v.node in
      subst (λ (u : Node M.Body). Reaches marked i reached u) (sym (does_state M n i s x))
      (quiet_turn_reaches M marked n i s (h.sound honest) reached (h.reached_is honest) (act_of M x)
      (λ e is. no_place a i s e (sym (out honest) ∙ does_out M n i s x ∙ is))))

  pub all_keep : (inputs : List (NodeInput M.Body M.Line)) (answers : List Answer) (turns : List (NotedOf M)) (v : ViewOf M) (asked : ℕ) (reached : Option ℕ) → Known v asked reached
      → length answers ≡ length inputs → AreNoted M (all_done inputs answers) turns → (v.honest ≡ true → AreAnswered M v.size (suc v.node) v.state inputs answers)
      → Known (after_turns M v (map (turn_in M) turns)) (asked_by_all marked asked inputs) reached
  all_keep [] answers [] v asked reached h many are outs = h
  all_keep [] answers (t ∷ turns) v asked reached h many are outs = absurd are
  all_keep (x ∷ inputs) [] turns v asked reached h many are outs = absurd (omega (arith, many))
  all_keep (x ∷ inputs) (a ∷ answers) [] v asked reached h many are outs = absurd are
  all_keep (x ∷ inputs) (a ∷ answers) (t ∷ turns) v asked reached h many are outs =
      subst (λ (e : EventOf M). Known (after_turns M (after_event M v t.ticket e) (map (turn_in M) turns)) (asked_by_all marked (larger asked (asks marked x)) inputs) reached) (sym are.0)
      (all_keep inputs answers turns (after_event M v t.ticket (Does x)) (larger asked (asks marked x)) reached
      (quiet_keeps v t.ticket x a asked reached h (λ honest. (outs honest).0)) (omega (arith, many)) are.2 (λ honest. (outs honest).1))

  pub no_larger : (a : ℕ) → a ≡ larger a 0
  no_larger a = cond_both (ltb a 0) 0 a (λ (m : ℕ). a ≡ m) (λ e. absurd (let is : ltb a 0 ≡ false = le-ltb a 0 (omega arith) in let clash : true ≡ false = sym e ∙ is in cc clash)) (λ e. refl)

-- What a cell knows of marks, after each call.
use Rattle.std.proofs.Common.{◌≡◌, ℕ, suc, true, false, List, [], Option, None, Err, take, sym, ap, ◌∙◌, subst, arith}
use Rattle.std.proofs.Math.ListN.{length-replicate}
use Rattle.wire_bytes.specs.declared.mark.Mark.{Mark}
use Rattle.raft_log.specs.declared.node_state.NodeState.{NodeState}
use Rattle.raft_log.specs.declared.entry.Entry.{Entry}
use Rattle.raft_log.specs.declared.message.Message.{Message}
use Rattle.raft_log.specs.Node.{Node}
use Rattle.raft_log.specs.Seen.{seen}
use Rattle.node_steps.specs.declared.refusal.Refusal.{Refusal}
use Rattle.raft_node.specs.Machine.{Machine}
use Rattle.raft_node.specs.Parts.{Keeper}
use Rattle.raft_node.specs.Raft.{started}
use Rattle.raft_node.specs.Sound.{IsSound}
use Rattle.raft_node.specs.Steps.{turn}
use Rattle.raft_node.specs.Steps as steps
use Rattle.world_views.specs.declared.envelope.Envelope.{Envelope}
use Rattle.world_views.specs.declared.node_event.NodeEvent.TheVariants.{Does, Look}
use Rattle.world_views.specs.Inputs.{NodeInput}
use Rattle.world_views.specs.Own.{ViewOf, act_of, own_out}
use Rattle.world_views.specs.Views.{View}
use Rattle.ether.specs.Passes.{EtherParts, view_of}
use Rattle.ether.specs.Plays.{after_event, after_opening, after_take}
use Rattle.ether.specs.declared.pass.Pass.{Pass}
use Rattle.node_cells.specs.declared.record.Recording.{Recording}
use Rattle.node_cells.specs.Cells.{CellParts, IsIn, view_in}
use Rattle.node_cells.specs.Inputs.{Answer}
use Rattle.node_cells.specs.Marks.{KnowsMarks, asked_by_all, asked_from, asks, has_own, larger, reached_after}
use Rattle.node_cells.specs.Openings.{IsFresh}
use Rattle.node_cells.specs.Posts.{posts_from}
use Rattle.node_cells.specs.Restarts.{IsRestart}
use Rattle.node_cells.specs.Together.{AreTurned}
use Rattle.node_cells.specs.Turns.{CellOf}
use Rattle.node_cells.proofs.MarksApplied.{Reaches, turn_reaches}
use Rattle.node_cells.proofs.MarksAfter.{Known, all_keep, event_keeps, looked_keeps, posts_keep, quiet_keeps, restart_begins, take_keeps}
use Rattle.node_cells.proofs.Recorded.{posts_are}
use Rattle.node_cells.proofs.Showing.{does_state}

module _ (M : Machine) (marked : M.Body → Option Mark) where
  module _ (v w : ViewOf M) (asked : ℕ) (reached : Option ℕ) (h : Known M marked v asked reached) where
    pub same_keeps : w ≡ v → Known M marked w asked reached
    same_keeps is = subst (λ (z : ViewOf M). Known M marked z asked reached) (sym is) h

    -- a turn that was done: the state before it, and after it
    pub turn_keeps : (t n k : ℕ) (x : NodeInput M.Body M.Line) → w ≡ posts_from (after_event M v t (Does x)) n k → (p q : NodeState M.Body) (node asked' : ℕ)
        → (v.honest ≡ true → IsIn p v.state) → (w.honest ≡ true → IsIn q w.state) → node ≡ suc w.node → asked' ≡ larger asked (asks marked x)
        → Known M marked w asked' (reached_after marked node p.standing.applied q reached)
    turn_keeps t n k x is p q node asked' was now node_is next =
        let u : ViewOf M = after_event M v t (Does x) in
        let i : ℕ = suc v.node in
        let posted : w ≡ record u { posted = (posts_from u n k).posted } = is ∙ posts_are u n k in
        let found : Option ℕ = reached_after marked node p.standing.applied q reached in
        subst (λ (z : ViewOf M). Known M marked z asked' found) (sym is)
        (posts_keep M marked u n k asked' found
        (event_keeps M marked v t (Does x) asked asked' reached found h next
        (λ honest.
        let s : Node M.Body = v.state in
        let here : IsIn p s = was honest in
        let done : w.state ≡ (turn M v.size i (act_of M x) s).node = ap (λ (z : ViewOf M). z.state) posted ∙ does_state M v.size i s x in
        let there : IsIn q w.state = now (ap (λ (z : ViewOf M). z.honest) posted ∙ honest) in
        let same : node ≡ i = node_is ∙ ap (λ (z : ViewOf M). suc z.node) posted in
        subst (λ (z : ℕ × Node M.Body). Reaches marked i (reached_after marked z.0 p.standing.applied q reached) z.1) (λ d. (sym same d, sym (does_state M v.size i s x) d))
        (turn_reaches M marked v.size i s (h.sound honest) reached (h.reached_is honest) (act_of M x) q p.standing.applied
        (ap (λ (z : Node M.Body). z.applied) here)
        (ap (λ (z : Node M.Body). z.boot) (there ∙ done))
        (ap (λ (z : Node M.Body). z.applied) (there ∙ done))
        (ap (λ (z : Node M.Body). z.log) (there ∙ done))))))

    -- a turn that was refused
    pub refusal_keeps : (t : ℕ) (x : NodeInput M.Body M.Line) (refusal : Refusal) → w ≡ after_event M v t (Does x)
        → (v.honest ≡ true → steps.Refused refusal ≡ own_out M v.size (suc v.node) v.state (Does x)) → (asked' : ℕ) → asked' ≡ larger asked (asks marked x) → Known M marked w asked' reached
    refusal_keeps t x refusal is out asked' next =
        subst (λ (z : ViewOf M × ℕ). Known M marked z.0 z.1 reached) (λ d. (sym is d, sym next d)) (quiet_keeps M marked v t x (Err refusal) asked reached h (λ honest. sym (out honest)))

    -- a look
    pub look_keeps : (t from : ℕ) (target : M.Target) → w ≡ after_event M v t (Look from target) → Known M marked w asked reached
    look_keeps t from target is = subst (λ (z : ViewOf M). Known M marked z asked reached) (sym is) (looked_keeps M marked v t from target asked reached h)

    -- a look into a mailbox
    pub taken_keeps : (came : Option (Envelope M.Body)) → w ≡ after_take v came → Known M marked w asked reached
    taken_keeps came is = subst (λ (z : ViewOf M). Known M marked z asked reached) (sym is) (take_keeps M marked v came asked reached h)

  module _ {Setup Hosted Store U : Type 0} (c d : CellOf M Setup Hosted Store U) (asked : ℕ) (reached : Option ℕ) (h : Known M marked (view_in c) asked reached) where
    -- inputs that were processed together
    pub turns_keep : (inputs : List (NodeInput M.Body M.Line)) (answers : List Answer) → AreTurned M c inputs answers d → Known M marked (view_in d) (asked_by_all marked asked inputs) reached
    turns_keep inputs answers is =
        subst (λ (v : ViewOf M). Known M marked v (asked_by_all marked asked inputs) reached) (sym is.view)
        (all_keep M marked inputs answers is.noted (view_in c) asked reached h is.many is.are is.outs)

    -- a restart
    pub restart_keeps : IsRestart M c d → Known M marked (view_in d) 0 None
    restart_keeps is =
        subst (λ (v : ViewOf M). Known M marked v 0 None) (sym is.view)
        (restart_begins M marked c.phase is.same is.first is.more (view_in c) asked reached h is.together is.first_are is.restarts)

-- a run begins sound
started_sound : {B : Type 0} (n boot term : ℕ) (vote : Option ℕ) (log : List (Entry B)) (sent : List (Message B)) → IsSound n (started n boot term vote log sent)
started_sound n boot term vote log sent = (
  omega arith,
  record { commit_within = omega arith; next_within = λ t k d lt. absurd (cc t); match_within = λ t k d lt. absurd (cc t) },
  λ l e. absurd (cc e),
  λ j e. absurd (cc e),
  (length-replicate n false, length-replicate n 0, length-replicate n 0),
)

module _ {Setup Hosted Store B L T E P U : Type 0} (marked : B → Option Mark) (k : Keeper Store B) where
  -- an opening
  pub fresh_keeps : (ether : EtherParts Setup) (pass : Pass B L T) (store : Store) (upstream : U) (recording : Recording) (c : CellParts Setup Hosted Store B L T E P U)
      → IsFresh k ether pass store upstream recording c
      → (view_of pass).size ≡ ether.size → (view_of pass).turns ≡ [] → KnowsMarks marked (view_in c) 0 None
  fresh_keeps ether pass store upstream recording c is size turns =
      let began = is.started.begins in
      let state : seen c.node.state [] ≡ started ether.size (suc began.0.boot) began.0.term began.0.vote began.0.log [] = began.2 [] in
      let w : View B L T = after_opening (view_of pass) is.ticket (k.condition c.node.store).honest (seen c.node.state []) in
      let known : KnowsMarks marked w 0 None =
      record {
        asked_is = ap (asked_from marked 0) (sym turns);
        sound = λ honest. subst (λ (z : ℕ × Node B). IsSound z.0 z.1) (λ d. (sym size d, sym state d)) (started_sound ether.size (suc began.0.boot) began.0.term began.0.vote began.0.log []);
        reached_is = λ honest n. let none : c.node.state.standing.applied ≡ 0 = ap (λ (s : Node B). s.applied) state in λ d. has_own marked (suc (view_of pass).node) c.node.state.standing.boot n (take (sym none d) c.node.state.log);
      } in
      subst (λ (v : View B L T). KnowsMarks marked v 0 None) (sym is.view) known

-- What a node that leads becomes by inputs that only append, and what a stop within them leaves.
use Rattle.std.proofs.Common.{◌≡◌, ℕ, suc, true, false, ◌&&◌, ltb, leb, List, [], ◌∷◌, ◌++◌, map, Option, Some, None, length, refl, sym, ap, ◌∙◌, subst, append-nil, append_assoc}
use Rattle.std.specs.Prelude.{◌^◌}
use Rattle.std.proofs.lemmas.Bool.{cond_both}
use Rattle.raft_log.specs.declared.entry.Entry.{Entry}
use Rattle.raft_log.specs.declared.message.Message.{Message}
use Rattle.raft_log.specs.declared.node_state.Live.{Live}
use Rattle.raft_log.specs.declared.node_state.NodeState.{NodeState}
use Rattle.raft_log.specs.Logs.{entry_limit}
use Rattle.raft_log.specs.Node.{Node, is_leader}
use Rattle.raft_log.specs.Seen.{seen}
use Rattle.replication.specs.Replication.{on_forward, forwarded, ask}
use Rattle.node_steps.specs.Asking.{is_full, may_ask, finds_leader}
use Rattle.node_steps.specs.declared.refusal.Refusal.TheVariants.{LogFull, TermsSpent, NoLeader, BadOrigin}
use Rattle.raft_node.specs.Machine.{Machine}
use Rattle.raft_node.specs.Inputs as inputs
use Rattle.raft_node.specs.Parts.{saved_by}
use Rattle.raft_node.specs.Sound.{sent_first}
use Rattle.raft_node.specs.Steps.{Act, Acts, Out, Turn, quiet, refused, applied_history, asks, asked, adds, opened, closed, heard, claimed, if_leading, turn}
use Rattle.raft_node.specs.SteppingTogether.{out_of}
use Rattle.raft_node.specs.Together.{outs, turned_all}
use Rattle.raft_node.proofs.Unread.{sent_is_not_read}
use Rattle.world_views.specs.Inputs.{NodeInput}
use Rattle.raft_node.specs.declared.input.Input.TheVariants.{Timeout, Beat, Deliver, Ask, Opened, Closed, Heard, Claim, Apply}
use Rattle.world_views.specs.Own.{act_of}
use Rattle.node_cells.specs.Cells.{AreAnswered, after_input, after_inputs}
use Rattle.node_cells.specs.Inputs.{Answer, OnlyAppend, input_of}
use Rattle.node_cells.proofs.Acting.{act_same}
use Rattle.node_cells.proofs.Showing.{does_out, does_state}
use Rattle.node_cells.proofs.Terms.{Tells, longer_tells}

module _ {B : Type 0} where
  -- A node that leads appended, and still leads: nothing was sent, and what it knows of a leader is unchanged.
  pub record Appended (s t : Node B) : Type 0 where
    pub sent : t.sent ≡ s.sent
    pub boot : t.boot ≡ s.boot
    pub leader : t.leader ≡ s.leader
    pub leads : is_leader t.role ≡ true
    pub more : List (Entry B)
    pub log : t.log ≡ s.log ++ more

  -- its log differs from the one before in its terms
  pub tells_more : (log more : List (Entry B)) → Tells log (log ++ more)
  tells_more log [] h = append-nil log
  tells_more log (e ∷ es) h = longer_tells log e es h

  pub appended_tells : (s t : Node B) → Appended s t → Tells s.log t.log
  appended_tells s t a = subst (λ (l : List (Entry B)). Tells s.log l) (sym a.log) (tells_more s.log a.more)

  appended_none : (s : Node B) → is_leader s.role ≡ true → Appended s s
  appended_none s h = record { sent = refl; boot = refl; leader = refl; leads = h; more = []; log = sym (append-nil s.log) }

  appended_twice : (s t u : Node B) → Appended s t → Appended t u → Appended s u
  appended_twice s t u a b =
      record {
        sent = b.sent ∙ a.sent;
        boot = b.boot ∙ a.boot;
        leader = b.leader ∙ a.leader;
        leads = b.leads;
        more = a.more ++ b.more;
        log = b.log ∙ ap (λ (l : List (Entry B)). l ++ b.more) a.log ∙ append_assoc s.log a.more b.more;
      }

  forward_appends : (s : Node B) (b : B) → is_leader s.role ≡ true → Appended s (on_forward s b)
  forward_appends s b h =
      cond_both (is_leader s.role && ltb (length s.log) entry_limit) _ s (λ z. Appended s z)
      (λ q. record { sent = refl; boot = refl; leader = refl; leads = h; more = record { term = s.term; body = b } ∷ []; log = refl })
      (λ q. appended_none s h)

  ask_appends : (i : ℕ) (s : Node B) (b : B) → is_leader s.role ≡ true → Appended s (ask i s b)
  ask_appends i s b h =
      cond_both (is_leader s.role) (on_forward s b) (forwarded i s b s.leader) (λ z. Appended s z) (λ q. forward_appends s b h)
      (λ q. absurd (let z : true ≡ false = sym h ∙ q in cc z))

module _ (M : Machine) (i n : ℕ) (s : Node M.Body) (leads : is_leader s.role ≡ true) where
  abbrev Appends : Turn M → Type 0
  Appends t = Appended s t.node

  as_is : Appended s s
  as_is = appended_none s leads

  adds_appends : (live : Option Live) (attempts : ℕ) (b : M.Body) → Appends (adds M s live attempts b)
  adds_appends live attempts b =
      cond_both (is_full s) (refused M s LogFull) (quiet M (on_forward (record s { live = live; attempts = attempts }) b)) Appends
      (λ f. as_is)
      (λ f.
      let a = forward_appends (record s { live = live; attempts = attempts }) b leads in
      record { sent = a.sent; boot = a.boot; leader = a.leader; leads = a.leads; more = a.more; log = a.log })

  asked_appends : (b : M.Body) → Appends (asked M i s b)
  asked_appends b =
      cond_both (may_ask i s (M.source b)) _ (refused M s BadOrigin) Appends
      (λ h. cond_both (finds_leader s s.leader) (asks M i s b) (refused M s NoLeader) Appends
      (λ k. cond_both (is_leader s.role && is_full s) (refused M s LogFull) (quiet M (ask i s b)) Appends (λ f. as_is) (λ f. ask_appends i s b leads))
      (λ k. as_is))
      (λ h. as_is)

  leading_appends : (t : Turn M) → Appends t → Appends (if_leading M s t)
  leading_appends t h = cond_both (is_leader s.role) t (quiet M s) Appends (λ l. h) (λ l. as_is)

  opened_appends : (o : Option Live) → Appends (opened M s o)
  opened_appends None = cond_both (leb (2 ^ 60) s.attempts) (refused M s TermsSpent) _ Appends (λ h. as_is) (λ h. adds_appends _ _ _)
  opened_appends (Some l) = as_is

  closed_appends : (o : Option Live) → Appends (closed M s o)
  closed_appends None = as_is
  closed_appends (Some l) = adds_appends _ _ _

  heard_appends : (o : Option Live) (at : ℕ) (line : M.Line) → Appends (heard M s o at line)
  heard_appends None at line = as_is
  heard_appends (Some l) at line = adds_appends _ _ _

  claimed_appends : (o : Option Live) (k : Option ℕ) → Appends (claimed M s o k)
  claimed_appends None k = as_is
  claimed_appends (Some l) None = as_is
  claimed_appends (Some l) (Some k) = adds_appends _ _ _

  input_appends : (x : NodeInput M.Body M.Line) → OnlyAppend (x ∷ []) → Appends (turn M n i (act_of M x) s)
  input_appends Timeout h = absurd (let z = h.0 in cc z)
  input_appends Beat h = absurd (let z = h.0 in cc z)
  input_appends (Deliver e) h = absurd (let z = h.0 in cc z)
  input_appends (Ask body) h = asked_appends body
  input_appends Opened h = leading_appends _ (opened_appends s.live)
  input_appends Closed h = leading_appends _ (closed_appends s.live)
  input_appends (Heard at line) h = leading_appends _ (heard_appends s.live at line)
  input_appends Claim h = leading_appends _ (claimed_appends s.live (M.next_claim (applied_history M s)))
  input_appends Apply h = absurd (let z = h.0 in cc z)

-- the acts of these inputs, as the node takes them
abbrev pub acts : (M : Machine) → List (NodeInput M.Body M.Line) → List (Act M)
acts M xs = map (inputs.act_of M) (map input_of xs)

module _ (M : Machine) (n i : ℕ) where
  pub one_appends : (s : Node M.Body) (x : NodeInput M.Body M.Line) → is_leader s.role ≡ true → OnlyAppend (x ∷ []) → Appended s (after_input M n i s x)
  one_appends s x leads h = subst (λ (t : Node M.Body). Appended s t) (sym (does_state M n i s x)) (input_appends M i n s leads x h)

  pub all_append : (xs : List (NodeInput M.Body M.Line)) (s : Node M.Body) → is_leader s.role ≡ true → OnlyAppend xs → Appended s (after_inputs M n i s xs)
  all_append [] s leads h = appended_none s leads
  all_append (x ∷ xs) s leads h =
      let a = one_appends s x leads (h.0, tt) in
      appended_twice s (after_input M n i s x) _ a (all_append xs (after_input M n i s x) a.leads h.1)

  -- ---- inputs as the node takes them

  turn_same : (s : Node M.Body) (x : NodeInput M.Body M.Line) → turn M n i (inputs.act_of M (input_of x)) s ≡ turn M n i (act_of M x) s
  turn_same s x = ap (λ (a : Act M). turn M n i a s) (act_same M x)

  state_same : (s : Node M.Body) (x : NodeInput M.Body M.Line) → (turn M n i (inputs.act_of M (input_of x)) s).node ≡ after_input M n i s x
  state_same s x = ap (λ (t : Turn M). t.node) (turn_same s x) ∙ sym (does_state M n i s x)

  pub after_same : (xs : List (NodeInput M.Body M.Line)) (s : Node M.Body) → turned_all M n i (acts M xs) s ≡ after_inputs M n i s xs
  after_same [] s = refl
  after_same (x ∷ xs) s = ap (λ (t : Node M.Body). turned_all M n i (acts M xs) t) (state_same s x) ∙ after_same xs (after_input M n i s x)

  first_out : (o p : Out M) (os ps : List (Out M)) → o ∷ os ≡ p ∷ ps → o ≡ p
  first_out o p os ps e = cc e

  rest_outs : (o p : Out M) (os ps : List (Out M)) → o ∷ os ≡ p ∷ ps → os ≡ ps
  rest_outs o p os ps e = cc e

  -- what comes out of them, by their answers
  pub are_answered : (xs : List (NodeInput M.Body M.Line)) (s : Node M.Body) (answers : List Answer) → outs M n i (acts M xs) s ≡ map (out_of M) answers → AreAnswered M n i s xs answers
  are_answered [] s answers e = tt
  are_answered (x ∷ xs) s [] e = absurd (cc e)
  are_answered (x ∷ xs) s (a ∷ answers) e = (
    does_out M n i s x ∙ ap (λ (t : Turn M). t.out) (sym (turn_same s x)) ∙ first_out _ _ _ _ e,
    are_answered xs (after_input M n i s x) answers
        (ap (λ (t : Node M.Body). outs M n i (acts M xs) t) (sym (state_same s x)) ∙ rest_outs _ _ _ _ e),
  )

  pub as_many_answers : (xs : List (NodeInput M.Body M.Line)) (s : Node M.Body) (answers : List Answer) → outs M n i (acts M xs) s ≡ map (out_of M) answers → length answers ≡ length xs
  as_many_answers [] s [] e = refl
  as_many_answers [] s (a ∷ answers) e = absurd (cc e)
  as_many_answers (x ∷ xs) s [] e = absurd (cc e)
  as_many_answers (x ∷ xs) s (a ∷ answers) e = ap suc (as_many_answers xs _ answers (rest_outs _ _ _ _ e))

  -- what is saved does not depend on what was sent before
  all_first : (done : List (Act M)) (s : Node M.Body) (sent : List (Message M.Body)) → turned_all M n i done (sent_first sent s) ≡ sent_first sent (turned_all M n i done s)
  all_first [] s sent = refl
  all_first (a ∷ done) s sent =
      ap (λ (t : Turn M). turned_all M n i done t.node) (sent_is_not_read M n i (Acts a) s sent) ∙ all_first done (turn M n i a s).node sent

  pub all_saved : (done : List (Act M)) (state : NodeState M.Body) (sent : List (Message M.Body)) → saved_by (turned_all M n i done (seen state sent)) ≡ saved_by (turned_all M n i done (seen state []))
  all_saved done state sent =
      ap (λ (l : List (Message M.Body)). saved_by (turned_all M n i done (seen state l))) (sym (append-nil sent))
      ∙ ap (λ (s : Node M.Body). saved_by s) (all_first done (seen state []) sent)

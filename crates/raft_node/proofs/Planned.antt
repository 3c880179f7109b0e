-- A node's plan gives the result of its turn.
use Rattle.std.proofs.Common.{◌≡◌, ℕ, suc, Bool, true, false, ◌&&◌, not, if◌then◌else◌, Option, Some, None, refl, ap, ◌∙◌}
use Rattle.std.specs.Prelude.{◌^◌, nat_le}
use Rattle.raft_log.specs.declared.message.Message.{Message}
use Rattle.raft_log.specs.declared.node_state.Live.{Live}
use Rattle.raft_log.specs.Node.{Node, is_leader}
use Rattle.election.specs.Elections.{timed_out}
use Rattle.replication.specs.Replication.{on_forward, ask}
use Rattle.node_steps.specs.declared.refusal.Refusal.{Refusal}
use Rattle.node_steps.specs.declared.refusal.Refusal.TheVariants.{LogFull, TermsSpent, NoLeader, BadOrigin}
use Rattle.node_steps.specs.Asking.{is_full, may_ask, finds_leader, new_session}
use Rattle.node_steps.specs.Plans.{Plan, Goes, Declines, own_plan, ask_plan, opening, closing, hearing, claiming}
use Rattle.node_steps.specs.Plans as plans
use Rattle.raft_node.specs.declared.input.Input.{Input}
use Rattle.raft_node.specs.declared.input.Input.TheVariants.{Timeout, Beat, Deliver, Ask, Opened, Closed, Heard, Claim, Apply}
use Rattle.raft_node.specs.Inputs.{act_of, bodies_of, input_plan, is_apply}
use Rattle.raft_node.specs.Machine.{Machine}
use Rattle.raft_node.specs.Steps.{Turn, quiet, refused, adds, asked, opened, closed, heard, claimed, if_leading, applied_history, turn}

module _ (M : Machine) (s : Node M.Body) where
  -- the turn of a plan
  abbrev pub turn_by : Plan M.Body → Turn M
  turn_by (Goes t) = quiet M t
  turn_by (Declines refusal) = refused M s refusal

  if_by : (test : Bool) (p q : Plan M.Body) → (if test then turn_by p else turn_by q) ≡ turn_by (if test then p else q)
  if_by true p q = refl
  if_by false p q = refl

  adds_by : (live : Option Live) (attempts : ℕ) (body : M.Body) → adds M s live attempts body ≡ turn_by (own_plan live attempts body s)
  adds_by live attempts body = if_by (is_full s) (Declines LogFull) (Goes (on_forward (record s { live = live; attempts = attempts }) body))

  leading_by : (t : Turn M) (p : Plan M.Body) → t ≡ turn_by p → if_leading M s t ≡ turn_by (plans.if_leading s p)
  leading_by t p e = ap (λ (u : Turn M). if_leading M s u) e ∙ if_by (is_leader s.role) p (Goes s)

  asked_by : (i : ℕ) (body : M.Body) → asked M i s body ≡ turn_by (ask_plan i (M.source body) body s)
  asked_by i body =
      let room : Plan M.Body = if is_leader s.role && is_full s then Declines LogFull else Goes (ask i s body) in
      let known : Plan M.Body = if finds_leader s s.leader then room else Declines NoLeader in
      ap (λ (t : Turn M). if may_ask i s (M.source body) then (if finds_leader s s.leader then t else refused M s NoLeader) else refused M s BadOrigin)
      (if_by (is_leader s.role && is_full s) (Declines LogFull) (Goes (ask i s body)))
      ∙ (ap (λ (t : Turn M). if may_ask i s (M.source body) then t else refused M s BadOrigin) (if_by (finds_leader s s.leader) room (Declines NoLeader))
      ∙ if_by (may_ask i s (M.source body)) known (Declines BadOrigin))

  opened_by : (o : Option Live) → opened M s o ≡ turn_by (opening M.opened s o)
  opened_by None =
      let spent : Bool = nat_le (2 ^ 60) s.attempts in
      ap (λ (t : Turn M). if spent then refused M s TermsSpent else t) (adds_by (Some (new_session s)) (suc s.attempts) (M.opened (new_session s).id))
      ∙ if_by spent (Declines TermsSpent) (own_plan (Some (new_session s)) (suc s.attempts) (M.opened (new_session s).id) s)
  opened_by (Some live) = refl

  closed_by : (o : Option Live) → closed M s o ≡ turn_by (closing M.shut s o)
  closed_by None = refl
  closed_by (Some live) = adds_by None s.attempts (M.shut live.id)

  heard_by : (o : Option Live) (at : ℕ) (line : M.Line) → heard M s o at line ≡ turn_by (hearing (λ id number. M.heard id number at line) s o)
  heard_by None at line = refl
  heard_by (Some live) at line = adds_by (Some (record live { next = suc live.next })) s.attempts (M.heard live.id live.next at line)

  claimed_by : (o : Option Live) (next : Option ℕ) → claimed M s o next ≡ turn_by (claiming M.claim next s o)
  claimed_by None next = refl
  claimed_by (Some live) None = refl
  claimed_by (Some live) (Some number) = adds_by s.live s.attempts (M.claim live.id number)

  -- for each input except one that applies an entry
  pub turn_planned : (size i : ℕ) (input : Input (Message M.Body) M.Body M.Line) → is_apply input ≡ false
      → turn M size i (act_of M input) s ≡ turn_by (input_plan (bodies_of M) (M.next_claim (applied_history M s)) size i input s)
  turn_planned size i Timeout h = if_by (not (is_leader s.role) && nat_le (2 ^ 60) s.term) (Declines TermsSpent) (Goes (timed_out size i s))
  turn_planned size i Beat h = refl
  turn_planned size i (Deliver m) h = refl
  turn_planned size i (Ask body) h = asked_by i body
  turn_planned size i Opened h = leading_by _ _ (opened_by s.live)
  turn_planned size i Closed h = leading_by _ _ (closed_by s.live)
  turn_planned size i (Heard at line) h = leading_by _ _ (heard_by s.live at line)
  turn_planned size i Claim h = leading_by _ _ (claimed_by s.live (M.next_claim (applied_history M s)))
  turn_planned size i Apply h = absurd (cc h)

  -- a plan that goes on, or is declined, is such a turn
  pub turn_goes : (size i : ℕ) (input : Input (Message M.Body) M.Body M.Line) → is_apply input ≡ false → (t : Node M.Body)
      → input_plan (bodies_of M) (M.next_claim (applied_history M s)) size i input s ≡ Goes t → turn M size i (act_of M input) s ≡ quiet M t
  turn_goes size i input h t e = turn_planned size i input h ∙ ap (λ (p : Plan M.Body). turn_by p) e

  pub turn_declines : (size i : ℕ) (input : Input (Message M.Body) M.Body M.Line) → is_apply input ≡ false → (refusal : Refusal)
      → input_plan (bodies_of M) (M.next_claim (applied_history M s)) size i input s ≡ Declines refusal → turn M size i (act_of M input) s ≡ refused M s refusal
  turn_declines size i input h refusal e = turn_planned size i input h ∙ ap (λ (p : Plan M.Body). turn_by p) e

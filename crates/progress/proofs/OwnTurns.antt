-- What a leader that has room does of its own: it shuts its session, opens one, and claims a line.
use Rattle.std.proofs.Common.{◌≡◌, ℕ, suc, ◌<◌, true, ◌&&◌, ltb, leb, length, Option, Some, None, ap, ◌∙◌}
use Rattle.std.specs.Prelude.{◌^◌}
use Rattle.std.proofs.lemmas.Bool.{cond-true, cond-false, lt-ltb, lt-leb}
use Rattle.raft_log.specs.declared.node_state.Live.{Live}
use Rattle.raft_log.specs.Logs.{entry_limit}
use Rattle.raft_log.specs.Node.{Node, is_leader}
use Rattle.replication.specs.Replication.{appending}
use Rattle.node_steps.specs.Asking.{is_full, new_session}
use Rattle.raft_node.specs.Machine.{Machine}
use Rattle.raft_node.specs.Steps.{Turn, Opens, Closes, Claims, applied_history, adds, opened, closed, claimed, turn}
use Rattle.progress.proofs.Voting.{both_true}

module _ (M : Machine) where
  module _ (k i : ℕ) (s : Node M.Body) (leads : is_leader s.role ≡ true) (has_room : length s.log < entry_limit) where
    adds_own : (live : Option Live) (attempts : ℕ) (body : M.Body) → (adds M s live attempts body).node ≡ appending (record s { live = live; attempts = attempts }) body
    adds_own live attempts body =
        ap (λ (z : Turn M). z.node) (cond-false (is_full s) _ _ (lt-leb entry_limit (length s.log) has_room))
        ∙ cond-true (is_leader s.role && ltb (length s.log) entry_limit) _ _ (both_true (is_leader s.role) _ leads (lt-ltb (length s.log) entry_limit has_room))

    pub shuts : (l : Live) → s.live ≡ Some l → (turn M k i Closes s).node ≡ appending (record s { live = None; attempts = s.attempts }) (M.shut l.id)
    shuts l e =
        ap (λ (z : Turn M). z.node) (cond-true (is_leader s.role) _ _ leads ∙ ap (λ z. closed M s z) e)
        ∙ adds_own None s.attempts (M.shut l.id)

    pub opens : s.live ≡ None → s.attempts < 2 ^ 60 → (turn M k i Opens s).node ≡ appending (record s { live = Some (new_session s); attempts = suc s.attempts }) (M.opened (new_session s).id)
    opens e lt =
        ap (λ (z : Turn M). z.node)
        (cond-true (is_leader s.role) _ _ leads
        ∙ (ap (λ z. opened M s z) e ∙ cond-false (leb (2 ^ 60) s.attempts) _ _ (lt-leb (2 ^ 60) s.attempts lt)))
        ∙ adds_own (Some (new_session s)) (suc s.attempts) (M.opened (new_session s).id)

    pub claims : (l : Live) (number : ℕ) → s.live ≡ Some l → M.next_claim (applied_history M s) ≡ Some number
        → (turn M k i Claims s).node ≡ appending (record s { live = s.live; attempts = s.attempts }) (M.claim l.id number)
    claims l number e next =
        ap (λ (z : Turn M). z.node)
        (cond-true (is_leader s.role) _ _ leads
        ∙ (ap (λ z. claimed M s z (M.next_claim (applied_history M s))) e ∙ ap (λ z. claimed M s (Some l) z) next))
        ∙ adds_own s.live s.attempts (M.claim l.id number)

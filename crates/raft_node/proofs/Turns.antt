-- What holds for each step of a node holds for each turn of it.
use Rattle.std.proofs.Common.{ℕ, suc, ◌&&◌, not, ltb, leb, Option, Some, None}
use Rattle.std.specs.Prelude.{◌^◌}
use Rattle.std.proofs.lemmas.Bool.{cond_both}
use Rattle.raft_log.specs.declared.entry.Entry.{Entry}
use Rattle.raft_log.specs.declared.message.Message.{Message}
use Rattle.raft_log.specs.declared.node_state.Live.{Live}
use Rattle.raft_log.specs.Lists.{item}
use Rattle.raft_log.specs.Node.{Node, is_leader}
use Rattle.election.specs.Elections.{timed_out}
use Rattle.replication.specs.Replication.{beat, on_forward, ask}
use Rattle.node_steps.specs.Messages.{on_message}
use Rattle.raft_node.specs.Machine.{Machine}
use Rattle.node_steps.specs.declared.refusal.Refusal.TheVariants.{LogFull, TermsSpent, NoLeader, Behind, BadOrigin}
use Rattle.node_steps.specs.Asking.{is_full, may_ask, finds_leader}
use Rattle.raft_node.specs.Steps.{Turn, Act, Expires, Beats, Hears, Asks, Opens, Closes, HearsLine, Claims, Applies, Looks, Idles, quiet, refused, applied_history, asks, asked, adds, opened, closed, heard, claimed, if_leading, applied, turn}

module _ (M : Machine) (n i : ℕ) (s : Node M.Body) (P : Node M.Body → Type 0) where
  -- it holds for the node, and after each step
  pub record EachStep : Type 0 where
    pub stays : P s
    pub times : P (timed_out n i s)
    pub beats : P (beat n i s)
    pub hears : (m : Message M.Body) → P (on_message M.blank n i s m)
    pub asks : (b : M.Body) → P (ask i s b)
    pub adds : (live : Option Live) (attempts : ℕ) (b : M.Body) → P (on_forward (record s { live = live; attempts = attempts }) b)
    pub applies : P (record s { applied = suc s.applied })

  module _ (h : EachStep) where
    abbrev Ok : Turn M → Type 0
    Ok t = P t.node

    adds_ok : (live : Option Live) (attempts : ℕ) (b : M.Body) → Ok (adds M s live attempts b)
    adds_ok live attempts b =
        cond_both (is_full s) (refused M s LogFull) (quiet M (on_forward (record s { live = live; attempts = attempts }) b)) Ok
        (λ f. h.stays) (λ f. h.adds live attempts b)

    leading_ok : (t : Turn M) → Ok t → Ok (if_leading M s t)
    leading_ok t k = cond_both (is_leader s.role) t (quiet M s) Ok (λ l. k) (λ l. h.stays)

    asked_ok : (b : M.Body) → Ok (asked M i s b)
    asked_ok b =
        cond_both (may_ask i s (M.source b)) _ (refused M s BadOrigin) Ok
        (λ x. cond_both (finds_leader s s.leader) (asks M i s b) (refused M s NoLeader) Ok
        (λ k. cond_both (is_leader s.role && is_full s) (refused M s LogFull) (quiet M (ask i s b)) Ok (λ f. h.stays) (λ f. h.asks b))
        (λ k. h.stays))
        (λ x. h.stays)

    opened_ok : (o : Option Live) → Ok (opened M s o)
    opened_ok None = cond_both (leb (2 ^ 60) s.attempts) (refused M s TermsSpent) _ Ok (λ x. h.stays) (λ x. adds_ok _ _ _)
    opened_ok (Some l) = h.stays

    closed_ok : (o : Option Live) → Ok (closed M s o)
    closed_ok None = h.stays
    closed_ok (Some l) = adds_ok _ _ _

    heard_ok : (o : Option Live) (at : ℕ) (line : M.Line) → Ok (heard M s o at line)
    heard_ok None at line = h.stays
    heard_ok (Some l) at line = adds_ok _ _ _

    claimed_ok : (o : Option Live) (k : Option ℕ) → Ok (claimed M s o k)
    claimed_ok None k = h.stays
    claimed_ok (Some l) None = h.stays
    claimed_ok (Some l) (Some k) = adds_ok _ _ _

    applied_ok : (o : Option (Entry M.Body)) → Ok (applied M i s o)
    applied_ok None = h.stays
    applied_ok (Some e) = h.applies

    pub each_turn : (a : Act M) → P (turn M n i a s).node
    each_turn Expires =
        cond_both (not (is_leader s.role) && leb (2 ^ 60) s.term) (refused M s TermsSpent) (quiet M (timed_out n i s)) Ok
        (λ x. h.stays) (λ x. h.times)
    each_turn Beats = h.beats
    each_turn (Hears m) = h.hears m
    each_turn (Asks b) = asked_ok b
    each_turn Opens = leading_ok _ (opened_ok s.live)
    each_turn Closes = leading_ok _ (closed_ok s.live)
    each_turn (HearsLine at line) = leading_ok _ (heard_ok s.live at line)
    each_turn Claims = leading_ok _ (claimed_ok s.live (M.next_claim (applied_history M s)))
    each_turn Applies = cond_both (ltb s.applied s.commit) _ (quiet M s) Ok (λ x. applied_ok (item s.log (suc s.applied))) (λ x. h.stays)
    each_turn (Looks from target) = cond_both (ltb s.applied from) (refused M s (Behind s.applied)) _ Ok (λ x. h.stays) (λ x. h.stays)
    each_turn Idles = h.stays

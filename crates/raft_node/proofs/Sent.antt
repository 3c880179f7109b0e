-- What a node sent stays in its place, and what it sends names it.
use Rattle.std.proofs.Common.{◌≡◌, ℕ, suc, ◌-◌, Bool, true, false, ◌&&◌, ◌||◌, ltb, leb, eqb, List, [], ◌∷◌, ◌++◌, map, Option, Some, None, length, drop, refl, sym, ap, ◌∙◌, append-nil}
use Rattle.std.specs.Prelude.{◌^◌}
use Rattle.std.proofs.lemmas.Bool.{cond_both}
use Rattle.raft_log.specs.Logs.{entry_limit}
use Rattle.raft_log.specs.Lists.{item_or, with_item, others}
use Rattle.raft_log.specs.declared.message.Kind.{Kind}
use Rattle.raft_log.specs.declared.message.Kind.TheVariants.{RequestVote, Vote, Append, AppendReply, Forward}
use Rattle.raft_log.specs.declared.message.Message.{Message}
use Rattle.raft_log.specs.Node.{Node, is_leader, is_candidate, message, raised}
use Rattle.raft_log.specs.Votes.{majority}
use Rattle.raft_log.specs.Logs.{agrees_at, conflicts_within, last_term}
use Rattle.election.specs.Elections.{timed_out, leading}
use Rattle.replication.specs.Replication.{beat, append_for, with_match, advanced, stepped_back, on_forward, forwarded, ask}
use Rattle.raft_node.specs.Sound.{AreFrom}
use Rattle.raft_node.proofs.ByMessage.{grants}
use Rattle.node_steps.specs.Messages.{is_heard, on_message, handled}
use Rattle.election.specs.Elections as election

module _ {B : Type 0} (i : ℕ) where
  pub record Sends (s t : Node B) : Type 0 where
    pub more : List (Message B)
    pub is : t.sent ≡ s.sent ++ more
    pub own_name : AreFrom i more

  pub none_sent : (s t : Node B) → t.sent ≡ s.sent → Sends s t
  none_sent s t e = record { more = []; is = e ∙ sym (append-nil s.sent); own_name = tt }

  one_sent : (s t : Node B) (m : Message B) → t.sent ≡ s.sent ++ m ∷ [] → m.from ≡ i → Sends s t
  one_sent s t m e f = record { more = m ∷ []; is = e; own_name = (f, tt) }

  each_named : (f : ℕ → Message B) (js : List ℕ) → ((j : ℕ) → (f j).from ≡ i) → AreFrom i (map f js)
  each_named f [] h = tt
  each_named f (j ∷ js) h = (h j, each_named f js h)

  after_raised : (s : Node B) (t : ℕ) (u : Node B) → Sends (raised s t) u → Sends s u
  after_raised s t u x =
      let same : (raised s t).sent ≡ s.sent = cond_both (ltb s.term t) _ s (λ (z : Node B). z.sent ≡ s.sent) (λ h. refl) (λ h. refl) in
      record { more = x.more; is = x.is ∙ ap (λ l. l ++ x.more) same; own_name = x.own_name }

  module _ (n : ℕ) (s : Node B) where
    pub timeout_sends : Sends s (timed_out n i s)
    timeout_sends =
        cond_both (is_leader s.role || leb (2 ^ 60) s.term) s _ (λ z. Sends s z) (λ h. none_sent s s refl)
        (λ h. record { more = _; is = refl; own_name = each_named (λ j. message (suc s.term) i j (RequestVote (length s.log) (last_term s.log))) (others n i) (λ j. refl) })

    pub beat_sends : Sends s (beat n i s)
    beat_sends =
        cond_both (is_leader s.role) _ s (λ z. Sends s z)
        (λ h. record { more = map (append_for i s) (others n i); is = refl; own_name = each_named (append_for i s) (others n i) (λ j. refl) })
        (λ h. none_sent s s refl)

    pub forward_sends : (b : B) → Sends s (on_forward s b)
    forward_sends b = cond_both (is_leader s.role && ltb (length s.log) entry_limit) _ s (λ z. Sends s z) (λ h. none_sent s _ refl) (λ h. none_sent s s refl)

    pub ask_sends : (b : B) → Sends s (ask i s b)
    ask_sends b = cond_both (is_leader s.role) (on_forward s b) (forwarded i s b s.leader) (λ z. Sends s z) (λ h. forward_sends b) (λ h. to_leader s.leader)
      where
        to_leader : (o : Option ℕ) → Sends s (forwarded i s b o)
        to_leader None = none_sent s s refl
        to_leader (Some j) = one_sent s _ (message s.term i j (Forward b)) refl refl

    vote_sends : (m : Message B) (granted : Bool) → Sends s (election.on_vote n s m.from m.term granted)
    vote_sends m granted =
        cond_both (is_candidate s.role && (eqb s.term m.term && granted)) _ s (λ z. Sends s z)
        (λ h. cond_both (majority n (with_item s.voters m.from true)) (leading n (record s { voters = with_item s.voters m.from true })) (record s { voters = with_item s.voters m.from true }) (λ z. Sends s z)
        (λ k. none_sent s _ refl) (λ k. none_sent s _ refl))
        (λ h. none_sent s s refl)

  forward_same : (s : Node B) (b : B) → (on_forward s b).sent ≡ s.sent
  forward_same s b = cond_both (is_leader s.role && ltb (length s.log) entry_limit) _ s (λ (z : Node B). z.sent ≡ s.sent) (λ h. refl) (λ h. refl)

  module _ (blank : B) (n : ℕ) (s : Node B) where
    handled_sends : (m : Message B) (k : Kind B) → Sends s (handled blank n i s m k)
    handled_sends m (RequestVote l u) =
        cond_both (grants s m l u) _ _ (λ z. Sends s z)
        (λ h. one_sent s _ (message s.term i m.from (Vote true)) refl refl) (λ h. one_sent s _ (message s.term i m.from (Vote false)) refl refl)
    handled_sends m (Vote granted) =
        cond_both (is_candidate s.role) (on_forward (election.on_vote n s m.from m.term granted) blank) s (λ z. Sends s z)
        (λ c.
        let r : Sends s (election.on_vote n s m.from m.term granted) = vote_sends n s m granted in
        record { more = r.more; is = forward_same (election.on_vote n s m.from m.term granted) blank ∙ r.is; own_name = r.own_name })
        (λ c. none_sent s s refl)
    handled_sends m (Append b) =
        cond_both (ltb m.term s.term) _ _ (λ z. Sends s z)
        (λ h. one_sent s _ (message s.term i m.from (AppendReply false 0)) refl refl)
        (λ h. cond_both (is_leader s.role) s _ (λ z. Sends s z) (λ x. none_sent s s refl)
        (λ x. cond_both (agrees_at s.log b.prev_index b.prev_term) _ _ (λ z. Sends s z)
        (λ y. cond_both (conflicts_within (drop b.prev_index s.log) b.entries (s.commit - b.prev_index)) _ _ (λ z. Sends s z)
        (λ q. none_sent s _ refl)
        (λ q. one_sent s _ _ refl refl))
        (λ y. one_sent s _ (message s.term i m.from (AppendReply false b.prev_index)) refl refl)))
    handled_sends m (AppendReply o p) =
        cond_both (is_leader s.role && (eqb s.term m.term && leb p (length s.log))) _ s (λ z. Sends s z)
        (λ h. cond_both o (advanced n i (with_match s m.from p)) (stepped_back s m.from p) (λ z. Sends s z)
        (λ d. none_sent s _ refl)
        (λ d. cond_both (eqb (item_or s.next m.from 0) (suc p)) _ s (λ z. Sends s z) (λ e. none_sent s _ refl) (λ e. none_sent s s refl)))
        (λ h. none_sent s s refl)
    handled_sends m (Forward b) = forward_sends n s b

  pub message_sends : (blank : B) (n : ℕ) (s : Node B) (m : Message B) → Sends s (on_message blank n i s m)
  message_sends blank n s m =
      cond_both (is_heard n i m) (handled blank n i (raised s m.term) m m.kind) s (λ z. Sends s z)
      (λ h. after_raised s m.term _ (handled_sends blank n (raised s m.term) m m.kind)) (λ h. none_sent s s refl)

-- Whatever makes a node a leader.
use Rattle.std.proofs.Common.{◌||◌, ◌^◌, ◌≡◌, ℕ, suc, ◌-◌, ◌<◌, ◌≤◌, Bool, true, ◌&&◌, ltb, leb, eqb, ◌⊎◌, inl, inr, ⊎_elim, List, Option, Some, None, length, drop, refl, sym, ap, subst, ◌∙◌, arith}
use Rattle.std.proofs.lemmas.Bool.{cond_both, ltb-true, ltb-false}
use Rattle.raft_log.specs.Logs.{entry_limit}
use Rattle.raft_log.specs.Lists.{item_or, with_item}
use Rattle.raft_log.specs.declared.message.Kind.{Kind}
use Rattle.raft_log.specs.declared.message.Kind.TheVariants.{RequestVote, Vote, Append, AppendReply, Forward}
use Rattle.raft_log.specs.declared.message.Message.{Message}
use Rattle.raft_log.specs.declared.role.Role.TheVariants.{Follower, Leader}
use Rattle.raft_log.specs.Node.{Node, is_leader, is_candidate, raised}
use Rattle.raft_log.specs.Votes.{majority}
use Rattle.raft_log.specs.Logs.{agrees_at, conflicts_within}
use Rattle.node_steps.specs.Messages.{is_heard, on_message, handled}
use Rattle.raft_node.proofs.ByMessage.{grants}
use Rattle.election.specs.Elections.{leading}
use Rattle.replication.specs.Replication.{with_match, advanced, stepped_back, on_forward, forwarded, ask}
use Rattle.agreement.specs.World.{lifted, Act, Expires, Beats, Hears, Asks, Lifts, Nothing, acted}
use Rattle.agreement.specs.Laws.{LeadsAnew, LeadsWithBlank, FullLeads, StopKeepsBlank}
use Rattle.election.specs.Elections as election

module _ {B : Type 0} where
  record IfLeads (P : Node B → Type 0) (s : Node B) : Type 0 where
    so : s.role ≡ Leader → P s

  module _ (blank : B) (size i : ℕ) (P : Node B → Type 0) where
    -- a node that leads after the step only if it did before
    never : (s z : Node B) → (s.role ≡ Leader → ⊥) → z.role ≡ s.role → IfLeads P z
    never s z not e = record { so = λ l. absurd (not (sym e ∙ l)) }

    no_leader : (z : Node B) → z.role ≡ Follower → IfLeads P z
    no_leader z e = record { so = λ l. absurd (cc (e, l)) }

    forward_leads : (s : Node B) (b : B) → (s.role ≡ Leader → ⊥) → IfLeads P (on_forward s b)
    forward_leads s b not =
        cond_both (is_leader s.role && ltb (length s.log) entry_limit) _ s (λ z. IfLeads P z) (λ h. never s _ not refl) (λ h. never s s not refl)

    ask_leads : (s : Node B) (b : B) → (s.role ≡ Leader → ⊥) → IfLeads P (ask i s b)
    ask_leads s b not =
        cond_both (is_leader s.role) _ _ (λ z. IfLeads P z) (λ c. forward_leads s b not) (λ c. to_leader s.leader)
      where
        to_leader : (o : Option ℕ) → IfLeads P (forwarded i s b o)
        to_leader None = never s s not refl
        to_leader (Some j) = never s _ not refl

    -- a leader as one becomes it, with these voters
    abbrev New : Node B → List Bool → Type 0
    New s v = P (on_forward (leading size (record s { voters = v })) blank)

    vote_leads : (s : Node B) (m : Message B) (g : Bool) → (s.role ≡ Leader → ⊥) → ((v : List Bool) → New s v) → IfLeads P (on_forward (election.on_vote size s m.from m.term g) blank)
    vote_leads s m g not new =
        cond_both (is_candidate s.role && (eqb s.term m.term && g)) (election.elected size (record s { voters = with_item s.voters m.from true })) s (λ z. IfLeads P (on_forward z blank))
        (λ c.
        cond_both (majority size (with_item s.voters m.from true)) (leading size (record s { voters = with_item s.voters m.from true })) (record s { voters = with_item s.voters m.from true }) (λ z. IfLeads P (on_forward z blank))
        (λ d. record { so = λ l. new (with_item s.voters m.from true) })
        (λ d. forward_leads (record s { voters = with_item s.voters m.from true }) blank not))
        (λ c. forward_leads s blank not)

    handled_leads : (s : Node B) (m : Message B) (k : Kind B) → (s.role ≡ Leader → ⊥) → (is_candidate s.role ≡ true → (v : List Bool) → New s v) → IfLeads P (handled blank size i s m k)
    handled_leads s m (RequestVote l u) not new =
        cond_both (grants s m l u) _ _ (λ z. IfLeads P z) (λ c. never s _ not refl) (λ c. never s _ not refl)
    handled_leads s m (Vote g) not new =
        cond_both (is_candidate s.role) (on_forward (election.on_vote size s m.from m.term g) blank) s (λ z. IfLeads P z)
        (λ c. vote_leads s m g not (new c)) (λ c. never s s not refl)
    handled_leads s m (Append b) not new =
        cond_both (ltb m.term s.term) _ _ (λ z. IfLeads P z)
        (λ d. never s _ not refl)
        (λ d. cond_both (is_leader s.role) s _ (λ z. IfLeads P z) (λ x. never s s not refl)
        (λ x. cond_both (agrees_at s.log b.prev_index b.prev_term) _ _ (λ z. IfLeads P z)
        (λ y. cond_both (conflicts_within (drop b.prev_index s.log) b.entries (s.commit - b.prev_index)) _ _ (λ z. IfLeads P z) (λ v. no_leader _ refl) (λ v. no_leader _ refl))
        (λ y. no_leader _ refl)))
    handled_leads s m (AppendReply o p) not new =
        cond_both (is_leader s.role && (eqb s.term m.term && leb p (length s.log))) _ s (λ z. IfLeads P z)
        (λ c. cond_both o (advanced size i (with_match s m.from p)) (stepped_back s m.from p) (λ z. IfLeads P z)
        (λ d. never s _ not refl)
        (λ d. cond_both (eqb (item_or s.next m.from 0) (suc p)) _ s (λ z. IfLeads P z) (λ e. never s _ not refl) (λ e. never s s not refl)))
        (λ c. never s s not refl)
    handled_leads s m (Forward b) not new = forward_leads s b not

    raised_cases : (s : Node B) (t : ℕ) → (raised s t ≡ s) ⊎ ((raised s t).role ≡ Follower)
    raised_cases s t = cond_both (ltb s.term t) _ s (λ z. (z ≡ s) ⊎ (z.role ≡ Follower)) (λ h. inr refl) (λ h. inl refl)

    message_leads : (s : Node B) (m : Message B) → (s.role ≡ Leader → ⊥) → ((v : List Bool) → New s v) → IfLeads P (on_message blank size i s m)
    message_leads s m not new =
        cond_both (is_heard size i m) _ s (λ z. IfLeads P z)
        (λ c.
        handled_leads (raised s m.term) m m.kind
        (λ l. ⊎_elim (λ e. not (sym (ap (λ (z : Node B). z.role) e) ∙ l)) (λ f. absurd (cc (f, l))) (raised_cases s m.term))
        (λ h v.
        ⊎_elim
        (λ e. subst (λ (z : Node B). New z v) (sym e) (new v))
        (λ f. absurd (cc (ap is_candidate f, h)))
        (raised_cases s m.term)))
        (λ c. never s s not refl)

    acted_leads : (s : Node B) (a : Act B) → (s.role ≡ Leader → ⊥) → ((v : List Bool) → New s v) → IfLeads P (acted blank size i a s)
    acted_leads s Expires not new =
        cond_both (is_leader s.role || leb (2 ^ 60) s.term) s _ (λ z. IfLeads P z) (λ c. never s s not refl) (λ c. record { so = λ l. absurd (cc l) })
    acted_leads s Beats not new =
        cond_both (is_leader s.role) _ s (λ z. IfLeads P z) (λ c. never s _ not refl) (λ c. never s s not refl)
    acted_leads s (Hears m) not new = message_leads s m not new
    acted_leads s (Asks b) not new = ask_leads s b not
    acted_leads s (Lifts a l k None) not new = never s _ not refl
    acted_leads s (Lifts a l k (Some b)) not new = forward_leads (lifted s a l k) b not
    acted_leads s Nothing not new = never s s not refl

  record AnewIn (blank : B) (size : ℕ) (s z : Node B) : Type 0 where
    anew : length s.log < entry_limit → LeadsAnew blank size s z

  record FullIn (s z : Node B) : Type 0 where
    same : entry_limit ≤ length s.log → z.log ≡ s.log

  pub leads_with_blank : (blank : B) → LeadsWithBlank B blank
  leads_with_blank blank size i a s not leads room =
      ((acted_leads blank size i (λ z. AnewIn blank size s z) s a not
      (λ v.
      cond_both (ltb (length s.log) entry_limit) _ _ (λ z. AnewIn blank size s z)
      (λ h. record { anew = λ r. record { term_is = refl; log_is = refl; next_is = refl; matched_is = refl } })
      (λ h. record { anew = λ r. absurd (omega (arith, r, ltb-false (length s.log) entry_limit h)) }))).so leads).anew room

  pub full_leads : (blank : B) → FullLeads B blank
  full_leads blank size i a s not leads full =
      ((acted_leads blank size i (λ z. FullIn s z) s a not
      (λ v.
      cond_both (ltb (length s.log) entry_limit) _ _ (λ z. FullIn s z)
      (λ h. record { same = λ r. absurd (omega (arith, r, ltb-true (length s.log) entry_limit h)) })
      (λ h. record { same = λ r. refl }))).so leads).same full

  pub stop_keeps_blank : (blank : B) → StopKeepsBlank B blank
  stop_keeps_blank blank size i a s not leads room =
      let new : LeadsAnew blank size s (acted blank size i a s) = leads_with_blank blank size i a s not leads room in
      record { role_is = refl; log_is = new.log_is; log_before = refl; term_before = refl }

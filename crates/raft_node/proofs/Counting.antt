-- A session's next line is not past the entries, whatever its node plans.
use Rattle.std.proofs.Common.{◌≡◌, ℕ, suc, ◌≤◌, Bool, true, false, ◌&&◌, ◌||◌, not, ltb, leb, eqb, [], ◌∷◌, Option, Some, None, length, drop, ◌-◌, refl, sym, ap, subst, ◌∙◌, arith, length-append}
use Rattle.std.specs.Prelude.{◌^◌}
use Rattle.std.proofs.lemmas.Bool.{cond_both}
use Rattle.raft_log.specs.declared.message.Kind.{Kind}
use Rattle.raft_log.specs.declared.message.Kind.TheVariants.{RequestVote, Vote, Append, AppendReply, Forward}
use Rattle.raft_log.specs.declared.message.Message.{Message}
use Rattle.raft_log.specs.declared.node_state.Live.{Live}
use Rattle.raft_log.specs.declared.role.Role.TheVariants.{Leader}
use Rattle.raft_log.specs.Lists.{item_or, with_item}
use Rattle.raft_log.specs.Logs.{entry_limit, agrees_at, conflicts_within, repair}
use Rattle.raft_log.specs.Node.{Node, is_leader, is_candidate, raised}
use Rattle.raft_log.specs.Votes.{majority}
use Rattle.election.specs.Elections as election
use Rattle.election.specs.Elections.{timed_out, leading}
use Rattle.replication.specs.Replication.{beat, with_match, advanced, stepped_back, on_forward, forwarded, ask}
use Rattle.node_steps.specs.Messages.{handled, is_heard, on_message}
use Rattle.node_steps.specs.declared.refusal.Refusal.TheVariants.{LogFull, TermsSpent, NoLeader, BadOrigin}
use Rattle.node_steps.specs.Asking.{is_full, may_ask, finds_leader, new_session}
use Rattle.node_steps.specs.Plans.{CountsLines, Plan, Goes, Declines, own_plan, ask_plan, opening, closing, hearing, claiming}
use Rattle.node_steps.specs.Plans as plans
use Rattle.wire_bytes.specs.declared.session_id.SessionId.{SessionId}
use Rattle.machine_laws.specs.declared.class.Source.{Source}
use Rattle.raft_node.specs.declared.input.Input.{Input}
use Rattle.raft_node.specs.declared.input.Input.TheVariants.{Timeout, Beat, Deliver, Ask, Opened, Closed, Heard, Claim, Apply}
use Rattle.raft_node.specs.Inputs.{Bodies, input_plan}
use Rattle.raft_node.proofs.ByMessage.{grants}
use Rattle.raft_node.proofs.Fares.{Lives}

-- more entries, and the lines are still among them
pub more_entries : (o : Option Live) (a b : ℕ) → a ≤ b → CountsLines o a → CountsLines o b
more_entries None a b le h = tt
more_entries (Some live) a b le h = omega (arith, h, le)

-- a log that is not full has room
room : (n : ℕ) → leb entry_limit n ≡ false → ltb n entry_limit ≡ true
room n f = grind arith

module _ {B : Type 0} where
  abbrev pub Counted : Node B → Type 0
  Counted s = CountsLines s.live (length s.log)

  -- a node that does not lead has no session
  not_live : (s : Node B) → Lives s → is_leader s.role ≡ false → (o : Option Live) → s.live ≡ o → s.live ≡ None
  not_live s v h None e = e
  not_live s v h (Some live) e =
      let leads : s.role ≡ Leader = (v.of live e).0 in
      absurd (let clash : true ≡ false = sym (ap is_leader leads) ∙ h in cc clash)

  none_counted : (s : Node B) (last : ℕ) → s.live ≡ None → CountsLines s.live last
  none_counted s last e = subst (λ (o : Option Live). CountsLines o last) (sym e) tt

  -- A step that keeps the lines among the entries
  pub record Counts (s t : Node B) : Type 0 where
    pub of : Counted s → Counted t

  module _ (n i : ℕ) (s : Node B) where
    still : Counts s s
    still = record { of = λ h. h }

    pub timeout_counts : Counts s (timed_out n i s)
    timeout_counts = cond_both (is_leader s.role || leb (2 ^ 60) s.term) s _ (λ z. Counts s z) (λ h. still) (λ h. record { of = λ c. c })

    pub beat_counts : Counts s (beat n i s)
    beat_counts = cond_both (is_leader s.role) _ s (λ z. Counts s z) (λ h. record { of = λ c. c }) (λ h. still)

    raised_counts : (t : ℕ) → Counts s (raised s t)
    raised_counts t = cond_both (ltb s.term t) _ s (λ z. Counts s z) (λ h. record { of = λ c. tt }) (λ h. still)

    pub forward_counts : (b : B) → Counts s (on_forward s b)
    forward_counts b =
        cond_both (is_leader s.role && ltb (length s.log) entry_limit) _ s (λ z. Counts s z)
        (λ h. record { of = λ c. more_entries s.live (length s.log) _ (omega (arith, length-append s.log (record { term = s.term; body = b } ∷ []))) c })
        (λ h. still)

    pub ask_counts : (b : B) → Counts s (ask i s b)
    ask_counts b = cond_both (is_leader s.role) (on_forward s b) (forwarded i s b s.leader) (λ z. Counts s z) (λ h. forward_counts b) (λ h. to_leader s.leader)
      where
        to_leader : (o : Option ℕ) → Counts s (forwarded i s b o)
        to_leader None = still
        to_leader (Some j) = record { of = λ c. c }

    vote_counts : (m : Message B) (granted : Bool) → Counts s (election.on_vote n s m.from m.term granted)
    vote_counts m granted =
        cond_both (is_candidate s.role && (eqb s.term m.term && granted)) _ s (λ z. Counts s z)
        (λ h. cond_both (majority n (with_item s.voters m.from true)) (leading n (record s { voters = with_item s.voters m.from true })) (record s { voters = with_item s.voters m.from true }) (λ z. Counts s z)
        (λ k. record { of = λ c. c }) (λ k. record { of = λ c. c }))
        (λ h. still)

    raised_lives : (t : ℕ) → Lives s → Lives (raised s t)
    raised_lives t v = cond_both (ltb s.term t) _ s (λ z. Lives z) (λ h. record { of = λ l e. absurd (cc e) }) (λ h. v)

  counts_on : (s t u : Node B) → Counts s t → Counts t u → Counts s u
  counts_on s t u a b = record { of = λ c. b.of (a.of c) }

  module _ (blank : B) (n i : ℕ) (s : Node B) where
    handled_counts : (m : Message B) (k : Kind B) → Lives s → Counts s (handled blank n i s m k)
    handled_counts m (RequestVote l u) v =
        cond_both (grants s m l u) _ _ (λ z. Counts s z) (λ h. record { of = λ c. c }) (λ h. record { of = λ c. c })
    handled_counts m (Vote granted) v =
        cond_both (is_candidate s.role) (on_forward (election.on_vote n s m.from m.term granted) blank) s (λ z. Counts s z)
        (λ c. counts_on s (election.on_vote n s m.from m.term granted) _ (vote_counts n i s m granted) (forward_counts n i (election.on_vote n s m.from m.term granted) blank))
        (λ c. still n i s)
    handled_counts m (Append b) v =
        cond_both (ltb m.term s.term) _ _ (λ z. Counts s z)
        (λ h. record { of = λ c. c })
        (λ h. cond_both (is_leader s.role) s _ (λ z. Counts s z) (λ x. still n i s)
        (λ x.
        let none : s.live ≡ None = not_live s v x s.live refl in
        cond_both (agrees_at s.log b.prev_index b.prev_term) _ _ (λ z. Counts s z)
        (λ y. cond_both (conflicts_within (drop b.prev_index s.log) b.entries (s.commit - b.prev_index)) _ _ (λ z. Counts s z)
        (λ q. record { of = λ c. c })
        (λ q. record { of = λ c. none_counted s (length (repair s.log b.prev_index b.entries)) none }))
        (λ y. record { of = λ c. c })))
    handled_counts m (AppendReply o p) v =
        cond_both (is_leader s.role && (eqb s.term m.term && leb p (length s.log))) _ s (λ z. Counts s z)
        (λ h. cond_both o (advanced n i (with_match s m.from p)) (stepped_back s m.from p) (λ z. Counts s z)
        (λ d. record { of = λ c. c })
        (λ d. cond_both (eqb (item_or s.next m.from 0) (suc p)) _ s (λ z. Counts s z) (λ e. record { of = λ c. c }) (λ e. still n i s)))
        (λ h. still n i s)
    handled_counts m (Forward b) v = forward_counts n i s b

  pub message_counts : (blank : B) (n i : ℕ) (s : Node B) (m : Message B) → Lives s → Counts s (on_message blank n i s m)
  message_counts blank n i s m v =
      cond_both (is_heard n i m) (handled blank n i (raised s m.term) m m.kind) s (λ z. Counts s z)
      (λ h. counts_on s (raised s m.term) _ (raised_counts n i s m.term) (handled_counts blank n i (raised s m.term) m m.kind (raised_lives n i s m.term v)))
      (λ h. record { of = λ c. c })

  -- if a plan goes on, the lines are among the entries
  abbrev pub PlanCounts : Node B → Plan B → Type 0
  PlanCounts s (Goes t) = Counts s t
  PlanCounts s (Declines refusal) = Unit {0}

  -- a leader's own body is one more entry
  own_counts : (s : Node B) (live : Option Live) (attempts : ℕ) (body : B) → is_leader s.role ≡ true → (Counted s → CountsLines live (suc (length s.log)))
      → PlanCounts s (own_plan live attempts body s)
  own_counts s live attempts body lead h =
      cond_both (is_full s) (Declines LogFull) (Goes (on_forward (record s { live = live; attempts = attempts }) body)) (λ p. PlanCounts s p)
      (λ f. tt)
      (λ f. record {
        of = λ c.
            cond_both (is_leader s.role && ltb (length s.log) entry_limit) _ _ (λ z. Counted z)
            (λ y. more_entries live (suc (length s.log)) _ (omega (arith, length-append s.log (record { term = s.term; body = body } ∷ []))) (h c))
            (λ n. let free : ltb (length s.log) entry_limit ≡ true = room (length s.log) f in absurd (let clash : true ≡ false = sym (both lead free) ∙ n in cc clash));
      })
    where
      both : is_leader s.role ≡ true → ltb (length s.log) entry_limit ≡ true → (is_leader s.role && ltb (length s.log) entry_limit) ≡ true
      both a b = ap (λ (x : Bool). x && ltb (length s.log) entry_limit) a ∙ b

  leading_counts : (s : Node B) (p : Plan B) → (is_leader s.role ≡ true → PlanCounts s p) → PlanCounts s (plans.if_leading s p)
  leading_counts s p h = cond_both (is_leader s.role) p (Goes s) (λ q. PlanCounts s q) h (λ l. still 0 0 s)

  ask_plan_counts : (i : ℕ) (source : Source) (body : B) (s : Node B) → PlanCounts s (ask_plan i source body s)
  ask_plan_counts i source body s =
      cond_both (may_ask i s source) _ (Declines BadOrigin) (λ p. PlanCounts s p)
      (λ x. cond_both (finds_leader s s.leader) _ (Declines NoLeader) (λ p. PlanCounts s p)
      (λ y. cond_both (is_leader s.role && is_full s) (Declines LogFull) (Goes (ask i s body)) (λ p. PlanCounts s p) (λ f. tt) (λ f. ask_counts 0 i s body))
      (λ y. tt))
      (λ x. tt)

  opening_counts : (opened : SessionId → B) (s : Node B) (o : Option Live) → is_leader s.role ≡ true → PlanCounts s (opening opened s o)
  opening_counts opened s None lead =
      cond_both (leb (2 ^ 60) s.attempts) (Declines TermsSpent) _ (λ p. PlanCounts s p)
      (λ x. tt) (λ x. own_counts s (Some (new_session s)) (suc s.attempts) (opened (new_session s).id) lead (λ c. omega arith))
  opening_counts opened s (Some live) lead = still 0 0 s

  closing_counts : (shut : SessionId → B) (s : Node B) (o : Option Live) → is_leader s.role ≡ true → PlanCounts s (closing shut s o)
  closing_counts shut s None lead = still 0 0 s
  closing_counts shut s (Some live) lead = own_counts s None s.attempts (shut live.id) lead (λ c. tt)

  hearing_counts : (heard : SessionId → ℕ → B) (s : Node B) (o : Option Live) → s.live ≡ o → is_leader s.role ≡ true → PlanCounts s (hearing heard s o)
  hearing_counts heard s None e lead = still 0 0 s
  hearing_counts heard s (Some live) e lead =
      own_counts s (Some (record live { next = suc live.next })) s.attempts (heard live.id live.next) lead
      (λ c. let now : CountsLines (Some live) (length s.log) = subst (λ (o : Option Live). CountsLines o (length s.log)) e c in omega (arith, now))

  claiming_counts : (claim : SessionId → ℕ → B) (next : Option ℕ) (s : Node B) (o : Option Live) → is_leader s.role ≡ true → PlanCounts s (claiming claim next s o)
  claiming_counts claim next s None lead = still 0 0 s
  claiming_counts claim None s (Some live) lead = still 0 0 s
  claiming_counts claim (Some number) s (Some live) lead =
      own_counts s s.live s.attempts (claim live.id number) lead (λ c. more_entries s.live (length s.log) (suc (length s.log)) (omega arith) c)

module _ {B L : Type 0} (b : Bodies B L) (next : Option ℕ) (size i : ℕ) (s : Node B) (v : Lives s) where
  pub plan_counts : (input : Input (Message B) B L) → PlanCounts s (input_plan b next size i input s)
  plan_counts Timeout =
      cond_both (not (is_leader s.role) && leb (2 ^ 60) s.term) (Declines TermsSpent) (Goes (timed_out size i s)) (λ p. PlanCounts s p)
      (λ x. tt) (λ x. timeout_counts size i s)
  plan_counts Beat = beat_counts size i s
  plan_counts (Deliver m) = message_counts b.blank size i s m v
  plan_counts (Ask body) = ask_plan_counts i (b.source body) body s
  plan_counts Opened = leading_counts s _ (opening_counts b.opened s s.live)
  plan_counts Closed = leading_counts s _ (closing_counts b.shut s s.live)
  plan_counts (Heard at line) = leading_counts s _ (hearing_counts (λ id number. b.heard id number at line) s s.live refl)
  plan_counts Claim = leading_counts s _ (claiming_counts b.claim next s s.live)
  plan_counts Apply = still size i s

  pub goes_counts : (input : Input (Message B) B L) (t : Node B) → input_plan b next size i input s ≡ Goes t → Counted s → Counted t
  goes_counts input t e c =
      let now : PlanCounts s (Goes t) = subst (λ (p : Plan B). PlanCounts s p) e (plan_counts input) in
      now.of c

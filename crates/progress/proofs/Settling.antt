-- A leader and one of the nodes that follow it exchange an append and the answer.
use Rattle.std.proofs.Common.{◌≡◌, ℕ, suc, pred, ◌+◌, ◌≤◌, Bool, true, false, List, [], ◌∷◌, ◌++◌, length, map, take, drop, Some, refl, sym, ap, subst, ◌∙◌, arith, ⊎_elim}
use Rattle.std.proofs.lemmas.Bool.{cond-true, cases_Bool, cases_eq}
use Rattle.raft_log.specs.declared.entry.Entry.{Entry}
use Rattle.raft_log.specs.declared.message.Kind.TheVariants.{Append}
use Rattle.raft_log.specs.Batches.{batch, batch_limit}
use Rattle.raft_log.specs.Lists.{item, item_or, others}
use Rattle.raft_log.specs.Logs.{last_term, term_at, agrees_at}
use Rattle.raft_log.specs.Node.{Node, is_leader, message, raised, sending}
use Rattle.replication.specs.Replication.{append_for, beat, reply}
use Rattle.node_steps.specs.Messages.{on_message}
use Rattle.raft_node.specs.Machine.{Machine}
use Rattle.agreement.specs.Laws.{IsIn, IsMajority}
use Rattle.world_run.specs.World.{World, Event, Does, Beat, Deliver, happens}
use Rattle.progress.specs.Plans.{place_among, count_sent, answered, exchange}
use Rattle.progress.proofs.Members.{in_bounds}
use Rattle.progress.proofs.Stepping.{Stepped, event_stepped, Leads, leads_first, leads_more}
use Rattle.progress.proofs.Voting.{raised_same, raised_sent, heard_raised}
use Rattle.progress.proofs.Exchanging.{sent_to, Exchanged, exchanged}
use Rattle.progress.proofs.Alike.{Has, agrees_has, up_to, up_to_in}
use Rattle.progress.proofs.Appending.{Follows, Leading, Linked, append_to, takes, declines, gains, goes_back}
use Rattle.progress.proofs.Outcomes.{Outcome, y_suc, y_in, gained, taker, gained_outcome, back, decliner, back_outcome}

module _ (M : Machine) (set : List Bool) (n c T : ℕ) (L : List (Entry M.Body)) (boots : ℕ → ℕ) (most : ℕ) where
  -- what holds besides, for each node: its number, its next place and its match, and itself
  abbrev pub OfEach : Type 1
  OfEach = ℕ → ℕ → ℕ → Node M.Body → Type 0

  abbrev pub OfLeader : Type 1
  OfLeader = Node M.Body → Type 0

  -- a node of the set, with what the leader keeps of it
  pub record Stood (X : OfEach) (j next matched : ℕ) (t : Node M.Body) : Type 0 where
    pub follows : Follows T L (boots j) most t
    pub linked : Linked L next matched t.log
    pub more : X j next matched t

  -- its state when it had heard of the term
  pub stood_raised : (X : OfEach) (j next matched : ℕ) (t : Node M.Body) → Stood X j next matched t → Stood X j next matched (raised t T)
  stood_raised X j next matched t st = subst (λ z. Stood X j next matched z) (sym (raised_same t T (omega (arith, st.follows.term_is)))) st

  -- one node leads, and the others of the set follow once they hear of it
  pub record Led (X : OfEach) (Y : OfLeader) (w : World M) : Type 0 where
    pub long : length w ≡ n
    pub leader : Node M.Body
    pub at : item w c ≡ Some leader
    pub leading : Leading n T L (boots c) most leader
    pub nodes : (j : ℕ) → IsIn set j → (j ≡ c → ⊥) → (t : Node M.Body) × (item w j ≡ Some t) × Stood X j (item_or leader.next j 0) (item_or leader.matched j 0) (raised t T)
    pub more : Y leader

  module _ (enough : IsMajority n set) (in_c : IsIn set c) (ends : last_term L ≡ T) (some : 1 ≤ length L) where
    module _ (X : OfEach) (Y : OfLeader) (w : World M) (h : Led X Y w) (j : ℕ) (in_j : IsIn set j) (ne : j ≡ c → ⊥) where
      abbrev pub t : Node M.Body
      t = (h.nodes j in_j ne).0

      abbrev pub u : Node M.Body
      u = raised (h.nodes j in_j ne).0 T

      abbrev stood : Stood X j (item_or h.leader.next j 0) (item_or h.leader.matched j 0) (raised (h.nodes j in_j ne).0 T)
      stood = (h.nodes j in_j ne).2

      abbrev s1 : Node M.Body
      s1 = sending h.leader (map (append_for c h.leader) (others n c))

      sending_leads : Leading n T L (boots c) most s1
      sending_leads =
          record {
            role_is = h.leading.role_is;
            term_is = h.leading.term_is;
            boot_is = h.leading.boot_is;
            applied_in = h.leading.applied_in;
            log_is = h.leading.log_is;
            commit_in = h.leading.commit_in;
            next_long = h.leading.next_long;
            matched_long = h.leading.matched_long;
          }

      abbrev y : ℕ
      y = pred (item_or h.leader.next j 0)

      abbrev pub Out : Node M.Body → Node M.Body → Type 0
      Out s' t' = Outcome set n c j T L (boots c) (boots j) most h.leader u s' t'

      -- the two changed in this way
      pub record After (v : World M) : Type 0 where
        pub s' : Node M.Body
        pub t' : Node M.Body
        pub ex : Exchanged M w v c j s' t'
        pub out : Out s' t'

      abbrev v1 : World M
      v1 = happens M w (Does (Beat c))

      beaten : Stepped M w v1 c (beat (length w) c h.leader)
      beaten = event_stepped M w (Does (Beat c)) c h.leader refl h.at

      at_c : item v1 c ≡ Some s1
      at_c = beaten.here ∙ ap Some (cond-true (is_leader h.leader.role) _ h.leader (ap is_leader h.leading.role_is) ∙ ap (λ z. sending h.leader (map (append_for c h.leader) (others z c))) h.long)

      at_j : item v1 j ≡ Some t
      at_j = beaten.else j ne ∙ (h.nodes j in_j ne).1

      long1 : length v1 ≡ n
      long1 = beaten.long ∙ h.long

      b_c : (1 ≤ c) × (c ≤ n)
      b_c = let r = in_bounds set c in_c in let e : length set ≡ n = enough.0 in (r.0, omega (arith, r.1))

      b_j : (1 ≤ j) × (j ≤ n)
      b_j = let r = in_bounds set j in_j in let e : length set ≡ n = enough.0 in (r.0, omega (arith, r.1))

      base : ℕ
      base = count_sent (item w c)

      message_is : append_for c h.leader j ≡ append_to T c j L y h.leader.commit
      message_is =
          ap (λ z. message z c j (Append (batch y (term_at h.leader.log y) (take batch_limit (drop y h.leader.log)) h.leader.commit))) h.leading.term_is
          ∙ ap (λ z. append_to T c j z y h.leader.commit) h.leading.log_is

      was_sent : item s1.sent (count_sent (item w c) + place_among c j) ≡ Some (append_to T c j L y h.leader.commit)
      was_sent =
          ap (λ z. item s1.sent (z + place_among c j)) (ap count_sent h.at)
          ∙ (sent_to n c j h.leader.sent (append_for c h.leader) b_c.0 b_j.0 b_j.1 ne ∙ ap Some message_is)

      y_in_l : y ≤ length L
      y_in_l = y_in M.blank set n c j T L (boots c) (boots j) most enough in_c in_j ne ends some h.leader u s1 sending_leads refl refl refl stood.follows stood.linked

      y_suc_l : item_or h.leader.next j 0 ≡ suc y
      y_suc_l = y_suc M.blank set n c j T L (boots c) (boots j) most enough in_c in_j ne ends some h.leader u s1 sending_leads refl refl refl stood.follows stood.linked

      as_raised : on_message M.blank n j t (append_to T c j L y h.leader.commit) ≡ on_message M.blank n j u (append_to T c j L y h.leader.commit)
      as_raised = heard_raised M.blank n j T t (append_to T c j L y h.leader.commit) refl refl (λ e. ne (sym e)) b_c.0 b_c.1

      taking : Has y u.log L → Leads M set v1 (answered M c (count_sent (item w c)) j v1) After
      taking has =
          leads_more M set v1 (answered M c (count_sent (item w c)) j v1) (λ z. Exchanged M v1 z c j s' t') After
          (exchanged M set v1 c j (count_sent (item w c)) s1 t s' t' (append_to T c j L y h.leader.commit)
          (reply u.term j c true (up_to u.log L y batch_limit y_in_l has))
          in_c in_j ne at_c at_j was_sent refl
          (ap (λ z. on_message M.blank z j t (append_to T c j L y h.leader.commit)) long1
          ∙ as_raised ∙ takes M.blank n c j T L (boots j) most b_c.0 b_c.1 b_j.0 b_j.1 ne u stood.follows y h.leader.commit y_in_l has)
          (ap (λ z. z ++ reply u.term j c true (up_to u.log L y batch_limit y_in_l has) ∷ []) (raised_sent t T)) refl
          (ap (λ z. on_message M.blank z c s1 (reply u.term j c true (up_to u.log L y batch_limit y_in_l has))) long1
          ∙ gains M.blank n c j T L (boots c) most b_c.0 b_c.1 b_j.0 b_j.1 ne s1 sending_leads u.term stood.follows.term_is (up_to u.log L y batch_limit y_in_l has) place_in_l))
          (λ z ex. record {
            s' = s';
            t' = t';
            ex = record { at_c = ex.at_c; at_j = ex.at_j; else = λ k nc nj. ex.else k nc nj ∙ beaten.else k nc; long = ex.long ∙ beaten.long };
            out = gained_outcome M.blank set n c j T L (boots c) (boots j) most enough in_c in_j ne ends some h.leader u s1 sending_leads refl refl refl stood.follows stood.linked has;
          })
        where
          s' : Node M.Body
          s' = gained M.blank set n c j T L (boots c) (boots j) most enough in_c in_j ne ends some h.leader u s1 sending_leads refl refl refl stood.follows stood.linked has

          t' : Node M.Body
          t' = taker M.blank set n c j T L (boots c) (boots j) most enough in_c in_j ne ends some h.leader u s1 sending_leads refl refl refl stood.follows stood.linked has

          place_in_l : up_to u.log L y batch_limit y_in_l has ≤ length L
          place_in_l = up_to_in u.log L y batch_limit y_in_l has

      declining : agrees_at u.log y (term_at L y) ≡ false → Leads M set v1 (answered M c (count_sent (item w c)) j v1) After
      declining no_way =
          leads_more M set v1 (answered M c (count_sent (item w c)) j v1) (λ z. Exchanged M v1 z c j s' t') After
          (exchanged M set v1 c j (count_sent (item w c)) s1 t s' t' (append_to T c j L y h.leader.commit)
          (reply u.term j c false y)
          in_c in_j ne at_c at_j was_sent refl
          (ap (λ z. on_message M.blank z j t (append_to T c j L y h.leader.commit)) long1
          ∙ as_raised ∙ declines M.blank n c j T L (boots j) most b_c.0 b_c.1 b_j.0 b_j.1 ne u stood.follows y h.leader.commit y_in_l no_way)
          (ap (λ z. z ++ reply u.term j c false y ∷ []) (raised_sent t T)) refl
          (ap (λ z. on_message M.blank z c s1 (reply u.term j c false y)) long1
          ∙ goes_back M.blank n c j T L (boots c) most b_c.0 b_c.1 b_j.0 b_j.1 ne s1 sending_leads u.term stood.follows.term_is y y_in_l y_suc_l))
          (λ z ex. record {
            s' = s';
            t' = t';
            ex = record { at_c = ex.at_c; at_j = ex.at_j; else = λ k nc nj. ex.else k nc nj ∙ beaten.else k nc; long = ex.long ∙ beaten.long };
            out = back_outcome M.blank set n c j T L (boots c) (boots j) most enough in_c in_j ne ends some h.leader u s1 sending_leads refl refl refl stood.follows stood.linked no_way;
          })
        where
          s' : Node M.Body
          s' = back M.blank set n c j T L (boots c) (boots j) most enough in_c in_j ne ends some h.leader u s1 sending_leads refl refl refl stood.follows stood.linked no_way

          t' : Node M.Body
          t' = decliner M.blank set n c j T L (boots c) (boots j) most enough in_c in_j ne ends some h.leader u s1 sending_leads refl refl refl stood.follows stood.linked no_way

      same_list : answered M c (count_sent (item w c)) j v1 ≡ answered M c (count_sent (item w c)) j w
      same_list =
          let e : count_sent (item v1 j) ≡ count_sent (item w j) = ap count_sent (beaten.else j ne) in
          ap (λ z. let first : Event M = Does (Deliver c (count_sent (item w c) + place_among c j)) in let second : Event M = Does (Deliver j (suc z)) in first ∷ second ∷ []) e

      pub one_exchange : Leads M set w (exchange M c j w) After
      one_exchange =
          leads_first M set w (Does (Beat c)) (answered M c (count_sent (item w c)) j w) After in_c tt
          (subst (λ z. Leads M set v1 z After) same_list
          (⊎_elim
          (λ yes. taking (agrees_has y u.log L y_in_l stood.follows.alike yes))
          (λ no_way. declining no_way)
          (cases_Bool (agrees_at u.log y (term_at L y)))))

      -- with what holds besides
      pub exchange_leads : (X' : OfEach) (Y' : OfLeader)
          → ((s' t' : Node M.Body) → Out s' t' → X' j (item_or s'.next j 0) (item_or s'.matched j 0) t')
          → ((i next matched : ℕ) (u : Node M.Body) → IsIn set i → (i ≡ c → ⊥) → (i ≡ j → ⊥) → X i next matched u → X' i next matched u)
          → ((s' t' : Node M.Body) → Out s' t' → Y' s')
          → Leads M set w (exchange M c j w) (Led X' Y')
      exchange_leads X' Y' here elsewhere leads =
          leads_more M set w (exchange M c j w) After (Led X' Y') one_exchange
          (λ v a. record {
            long = a.ex.long ∙ h.long;
            leader = a.s';
            at = a.ex.at_c;
            leading = a.out.leading;
            nodes = λ i in_i nc. ⊎_elim (λ e. as_j v a i e) (λ nj. as_other v a i in_i nc nj) (cases_eq i j);
            more = leads a.s' a.t' a.out;
          })
        where
          abbrev_node : World M → Node M.Body → ℕ → Type 0
          abbrev_node v s' i = (u : Node M.Body) × (item v i ≡ Some u) × Stood X' i (item_or s'.next i 0) (item_or s'.matched i 0) (raised u T)

          as_j : (v : World M) (a : After v) (i : ℕ) → i ≡ j → (u : Node M.Body) × (item v i ≡ Some u) × Stood X' i (item_or a.s'.next i 0) (item_or a.s'.matched i 0) (raised u T)
          as_j v a i e =
              subst (λ i. (u : Node M.Body) × (item v i ≡ Some u) × Stood X' i (item_or a.s'.next i 0) (item_or a.s'.matched i 0) (raised u T)) (sym e) (
                a.t',
                a.ex.at_j,
                subst (λ z. Stood X' j (item_or a.s'.next j 0) (item_or a.s'.matched j 0) z) (sym (raised_same a.t' T (omega (arith, a.out.follows.term_is))))
                    (record { follows = a.out.follows; linked = a.out.linked; more = here a.s' a.t' a.out }),
              )

          as_other : (v : World M) (a : After v) (i : ℕ) → IsIn set i → (i ≡ c → ⊥) → (i ≡ j → ⊥) → (u : Node M.Body) × (item v i ≡ Some u) × Stood X' i (item_or a.s'.next i 0) (item_or a.s'.matched i 0) (raised u T)
          as_other v a i in_i nc nj =
              let old = h.nodes i in_i nc in
              let st : Stood X i (item_or h.leader.next i 0) (item_or h.leader.matched i 0) (raised old.0 T) = old.2 in (
                old.0,
                a.ex.else i nc nj ∙ old.1,
                subst (λ z. Stood X' i z (item_or a.s'.matched i 0) (raised old.0 T)) (sym (a.out.next_else i nj))
                    (subst (λ z. Stood X' i (item_or h.leader.next i 0) z (raised old.0 T)) (sym (a.out.matched_else i nj))
                    (record { follows = st.follows; linked = st.linked; more = elsewhere i (item_or h.leader.next i 0) (item_or h.leader.matched i 0) (raised old.0 T) in_i nc nj st.more })),
              )

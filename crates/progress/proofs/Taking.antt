-- A body that is asked for at a node of the majority comes into the leader's log.
use Rattle.std.proofs.Common.{◌≡◌, ℕ, suc, ◌+◌, ◌<◌, ◌≤◌, Bool, true, false, ◌&&◌, eqb, ltb, List, [], ◌∷◌, ◌++◌, length, take, Option, Some, None, refl, sym, ap, subst, ◌∙◌, arith, ⊎_elim, length-append, append-nil}
use Rattle.std.proofs.Math.Seq.{take-length}
use Rattle.std.proofs.lemmas.List.{take-append-le}
use Rattle.std.proofs.lemmas.Bool.{cond-true, cond-false, eq-eqb, lt-ltb, lt-leb, cases_eq}
use Rattle.raft_log.specs.declared.entry.Entry.{Entry}
use Rattle.raft_log.specs.declared.node_state.Live.{Live}
use Rattle.raft_log.specs.declared.message.Kind.TheVariants.{Forward}
use Rattle.raft_log.specs.declared.message.Message.{Message}
use Rattle.raft_log.specs.Lists.{item, item_or}
use Rattle.raft_log.specs.Logs.{entry_limit, last_term}
use Rattle.raft_log.specs.Node.{Node, is_leader, message, raised, sending}
use Rattle.replication.specs.Replication.{appending, on_forward, forwarded}
use Rattle.node_steps.specs.Asking.{may_ask, finds_leader, is_full}
use Rattle.node_steps.specs.Messages.{on_message}
use Rattle.raft_node.specs.Machine.{Machine}
use Rattle.raft_node.specs.Steps.{Turn, asked}
use Rattle.agreement.specs.World.{Begins}
use Rattle.agreement.specs.Laws.{IsIn, IsMajority}
use Rattle.agreement.proofs.Lists.{begins_length, last_term_push}
use Rattle.world_run.specs.World.{World, Does, Ask, Deliver, stepper, happens}
use Rattle.progress.specs.Plans.{count_sent, peers, ask_through}
use Rattle.progress.proofs.Places.{some_same, eqb_no, item_append}
use Rattle.progress.proofs.Members.{in_bounds, all_peers}
use Rattle.progress.proofs.Stepping.{Stepped, event_stepped, deliver_stepped, Leads, leads_event, leads_first}
use Rattle.progress.proofs.Voting.{both_true, first_false, second_false, raised_same, heard_as}
use Rattle.progress.proofs.Alike.{AreAlike, Has}
use Rattle.progress.proofs.Settling.{Stood, Led, stood_raised}
use Rattle.progress.proofs.Confirming.{Caught, Nothing, Settled, AllCommitted, settled_node}
use Rattle.progress.proofs.Reigning.{some_new, has_in_longer}

finds : {B : Type 0} (s : Node B) (o : Option ℕ) → is_leader s.role ≡ true → finds_leader s o ≡ true
finds s None h = h
finds s (Some j) h = refl

module _ {B : Type 0} (L : List (Entry B)) (e : Entry B) where
  long_new : length (L ++ e ∷ []) ≡ suc (length L)
  long_new = let r = length-append L (e ∷ []) in omega arith

  -- a log is like one that has one more entry
  alike_new : AreAlike L (L ++ e ∷ [])
  alike_new p in_p in_l same = sym (take-append-le p L (e ∷ []) in_p)

  short_new : Begins (L ++ e ∷ []) L → L ≡ L ++ e ∷ []
  short_new b = absurd (omega (arith, begins_length (L ++ e ∷ []) L b, long_new))

  has_all : Has (length L) L (L ++ e ∷ [])
  has_all = ([], append-nil (take (length L) (L ++ e ∷ [])) ∙ (take-append-le (length L) L (e ∷ []) (omega arith) ∙ take-length L))

module _ (M : Machine) where
  -- a leader that has room takes what it is asked for
  leader_asked : (i : ℕ) (s : Node M.Body) (body : M.Body) → may_ask i s (M.source body) ≡ true → is_leader s.role ≡ true → length s.log < entry_limit
      → (asked M i s body).node ≡ appending s body
  leader_asked i s body may leads room =
      ap (λ (z : Turn M). z.node)
      (cond-true (may_ask i s (M.source body)) _ _ may
      ∙ (cond-true (finds_leader s s.leader) _ _ (finds s s.leader leads)
      ∙ cond-false (is_leader s.role && is_full s) _ _ (second_false (is_leader s.role) (is_full s) (lt-leb entry_limit (length s.log) room))))
      ∙ (cond-true (is_leader s.role) _ _ leads
      ∙ cond-true (is_leader s.role && ltb (length s.log) entry_limit) _ _ (both_true (is_leader s.role) _ leads (lt-ltb (length s.log) entry_limit room)))

  -- one that knows the leader sends it to that
  follower_asked : (i c : ℕ) (s : Node M.Body) (body : M.Body) → may_ask i s (M.source body) ≡ true → is_leader s.role ≡ false → s.leader ≡ Some c
      → (asked M i s body).node ≡ sending s (message s.term i c (Forward body) ∷ [])
  follower_asked i c s body may follows knows =
      ap (λ (z : Turn M). z.node)
      (cond-true (may_ask i s (M.source body)) _ _ may
      ∙ (cond-true (finds_leader s s.leader) _ _ (ap (finds_leader s) knows)
      ∙ cond-false (is_leader s.role && is_full s) _ _ (first_false (is_leader s.role) (is_full s) follows)))
      ∙ (cond-false (is_leader s.role) _ _ follows ∙ ap (λ z. forwarded i s body z) knows)

  module _ (set : List Bool) (n c T : ℕ) (L : List (Entry M.Body)) (boots : ℕ → ℕ) (most : ℕ) (enough : IsMajority n set) (in_c : IsIn set c) (ends : last_term L ≡ T) (some : 1 ≤ length L)
      (body : M.Body) (room : length L < entry_limit)
      (w : World M) (h : Led M set n c T L boots most (Settled M set n c T L boots most enough in_c ends some) (AllCommitted M set n c T L boots most enough in_c ends some) w) where
    abbrev pub at_node : (j : ℕ) (in_j : IsIn set j) (ne : j ≡ c → ⊥) → (t : Node M.Body) × (item w j ≡ Some t) × Stood M set n c T L boots most (Settled M set n c T L boots most enough in_c ends some) j (item_or h.leader.next j 0) (item_or h.leader.matched j 0) t
    at_node j in_j ne = settled_node M set n c T L boots most enough in_c ends some w h j in_j ne

    abbrev pub asked_entry : Entry M.Body
    asked_entry = record { term = T; body = body }

    abbrev pub asked_log : List (Entry M.Body)
    asked_log = L ++ asked_entry ∷ []

    abbrev pub WithIt : World M → Type 0
    WithIt v =
        Led M set n c T asked_log boots most
        (Caught M set n c T asked_log boots most enough in_c (last_term_push L asked_entry) (some_new L asked_entry) (peers set c))
        (Nothing M set n c T asked_log boots most enough in_c (last_term_push L asked_entry) (some_new L asked_entry)) v

    abbrev OfCaught : ℕ → ℕ → ℕ → Node M.Body → Type 0
    OfCaught j next matched t = Caught M set n c T asked_log boots most enough in_c (last_term_push L asked_entry) (some_new L asked_entry) (peers set c) j next matched t

    -- the leader has it, with this session and this many attempts
    pub rebuilt : (v : World M) (live : Option Live) (attempts : ℕ) → length v ≡ n → item v c ≡ Some (appending (record h.leader { live = live; attempts = attempts }) body)
        → ((j : ℕ) (in_j : IsIn set j) (ne : j ≡ c → ⊥) → (x : List (Message M.Body)) × (item v j ≡ Some (record (at_node j in_j ne).0 { sent = x })))
        → WithIt v
    rebuilt v live attempts long at others =
        record {
          long = long;
          leader = appending (record h.leader { live = live; attempts = attempts }) body;
          at = at;
          leading = record {
            role_is = h.leading.role_is;
            term_is = h.leading.term_is;
            boot_is = h.leading.boot_is;
            applied_in = h.leading.applied_in;
            log_is = ap (λ z. z ++ record { term = h.leader.term; body = body } ∷ []) h.leading.log_is ∙ ap (λ z. L ++ record { term = z; body = body } ∷ []) h.leading.term_is;
            commit_in = omega (arith, h.leading.commit_in, long_new L asked_entry);
            next_long = h.leading.next_long;
            matched_long = h.leading.matched_long;
          };
          nodes = λ j in_j ne. one j in_j ne (at_node j in_j ne).0 (at_node j in_j ne).2 (others j in_j ne);
          more = tt;
        }
      where
        one : (j : ℕ) (in_j : IsIn set j) (ne : j ≡ c → ⊥) (u : Node M.Body) → Stood M set n c T L boots most (Settled M set n c T L boots most enough in_c ends some) j (item_or h.leader.next j 0) (item_or h.leader.matched j 0) u
            → (x : List (Message M.Body)) × (item v j ≡ Some (record u { sent = x }))
            → (t : Node M.Body) × (item v j ≡ Some t) × Stood M set n c T (L ++ record { term = T; body = body } ∷ []) boots most (Caught M set n c T (L ++ record { term = T; body = body } ∷ []) boots most enough in_c (last_term_push L (record { term = T; body = body })) (some_new L (record { term = T; body = body })) (peers set c)) j (item_or h.leader.next j 0) (item_or h.leader.matched j 0) (raised t T)
        one j in_j ne u st got = (
          record u { sent = got.0 },
          got.1,
          stood_raised M set n c T asked_log boots most (OfCaught) j (item_or h.leader.next j 0) (item_or h.leader.matched j 0) (record u { sent = got.0 })
              (record {
                follows = record {
                  term_is = st.follows.term_is;
                  role_is = st.follows.role_is;
                  boot_is = st.follows.boot_is;
                  applied_in = st.follows.applied_in;
                  alike = subst (λ z. AreAlike z (L ++ record { term = T; body = body } ∷ [])) (sym st.more.0) (alike_new L (record { term = T; body = body }));
                  short = λ b. st.more.0 ∙ short_new L (record { term = T; body = body }) (subst (λ z. Begins (L ++ record { term = T; body = body } ∷ []) z) st.more.0 b);
                  commit_in = omega (arith, st.more.1, long_new L (record { term = T; body = body }));
                  commit_has = subst (λ z. Has u.commit z (L ++ record { term = T; body = body } ∷ [])) (sym st.more.0) (subst (λ z. Has z L (L ++ record { term = T; body = body } ∷ [])) (sym st.more.1) (has_all L (record { term = T; body = body })));
                };
                linked = record {
                  next_low = st.linked.next_low;
                  next_high = omega (arith, st.linked.next_high, long_new L (record { term = T; body = body }));
                  matched_in = omega (arith, st.linked.matched_in, long_new L (record { term = T; body = body }));
                  matched_has = has_in_longer u.log L (record { term = T; body = body }) (item_or h.leader.matched j 0) st.linked.matched_in st.linked.matched_has;
                };
                more = λ apart. absurd (apart (all_peers set c j in_j ne));
              }),
        )

    leader_room : length h.leader.log < entry_limit
    leader_room = subst (λ z. length z < entry_limit) (sym h.leading.log_is) room

    module _ (a : ℕ) (in_a : IsIn set a) (may : (t : Node M.Body) → item w a ≡ Some t → may_ask a t (M.source body) ≡ true) where
      at_leader : a ≡ c → Leads M set w (Does (Ask a body) ∷ []) WithIt
      at_leader e =
          leads_event M set w (Does (Ask a body)) WithIt in_a tt
          (rebuilt (happens M w (Does (Ask a body))) h.leader.live h.leader.attempts (step.long ∙ h.long)
          (subst (λ z. item (happens M w (Does (Ask a body))) z ≡ Some (appending h.leader body)) e (step.here ∙ ap Some (leader_asked a h.leader body (may h.leader here) (ap is_leader h.leading.role_is) leader_room)))
          (λ j in_j ne. ((at_node j in_j ne).0.sent, step.else j (λ q. ne (q ∙ e)) ∙ (at_node j in_j ne).1)))
        where
          here : item w a ≡ Some h.leader
          here = ap (λ z. item w z) e ∙ h.at

          step : Stepped M w (happens M w (Does (Ask a body))) a (asked M a h.leader body).node
          step = event_stepped M w (Does (Ask a body)) a h.leader refl here

      abbrev told : World M
      told = happens M w (Does (Ask a body))

      at_other : (ne : a ≡ c → ⊥) → Leads M set w (Does (Ask a body) ∷ Does (Deliver a (suc (count_sent (item w a)))) ∷ []) WithIt
      at_other ne =
          leads_first M set w (Does (Ask a body)) (Does (Deliver a (suc (count_sent (item w a)))) ∷ []) WithIt in_a tt
          (leads_event M set told (Does (Deliver a (suc (count_sent (item w a))))) WithIt (subst (λ z. IsIn set z) (sym two.0) in_c) in_a
          (rebuilt (happens M told (Does (Deliver a (suc (count_sent (item w a)))))) h.leader.live h.leader.attempts (two.1.long ∙ (one.long ∙ h.long))
          (two.1.here ∙ ap Some hears)
          (λ j in_j nc. ⊎_elim (λ e. as_asker j in_j nc e) (λ na. ((at_node j in_j nc).0.sent, two.1.else j nc ∙ (one.else j na ∙ (at_node j in_j nc).1))) (cases_eq j a))))
        where
          t : Node M.Body
          t = (at_node a in_a ne).0

          at_a : item w a ≡ Some (at_node a in_a ne).0
          at_a = (at_node a in_a ne).1

          st : Stood M set n c T L boots most (Settled M set n c T L boots most enough in_c ends some) a (item_or h.leader.next a 0) (item_or h.leader.matched a 0) (at_node a in_a ne).0
          st = (at_node a in_a ne).2

          m : Message M.Body
          m = message (at_node a in_a ne).0.term a c (Forward body)

          one : Stepped M w (happens M w (Does (Ask a body))) a (asked M a (at_node a in_a ne).0 body).node
          one = event_stepped M w (Does (Ask a body)) a (at_node a in_a ne).0 refl (at_node a in_a ne).1

          asker : item (happens M w (Does (Ask a body))) a ≡ Some (sending (at_node a in_a ne).0 (message (at_node a in_a ne).0.term a c (Forward body) ∷ []))
          asker = one.here ∙ ap Some (follower_asked a c (at_node a in_a ne).0 body (may (at_node a in_a ne).0 at_a) st.follows.role_is st.more.2)

          number : suc (count_sent (item w a)) ≡ length (at_node a in_a ne).0.sent + suc 0
          number = let e : count_sent (item w a) ≡ length (at_node a in_a ne).0.sent = ap count_sent at_a in omega arith

          two : (stepper M (happens M w (Does (Ask a body))) (Does (Deliver a (suc (count_sent (item w a))))) ≡ c)
              × Stepped M (happens M w (Does (Ask a body))) (happens M (happens M w (Does (Ask a body))) (Does (Deliver a (suc (count_sent (item w a)))))) c (on_message M.blank (length (happens M w (Does (Ask a body)))) c h.leader (message (at_node a in_a ne).0.term a c (Forward body)))
          two =
              deliver_stepped M (happens M w (Does (Ask a body))) a (suc (count_sent (item w a))) c
              (sending (at_node a in_a ne).0 (message (at_node a in_a ne).0.term a c (Forward body) ∷ [])) h.leader
              (message (at_node a in_a ne).0.term a c (Forward body)) asker
              (item_append (at_node a in_a ne).0.sent (message (at_node a in_a ne).0.term a c (Forward body) ∷ []) (suc (count_sent (item w a))) 0 number)
              refl (one.else c (λ e. ne (sym e)) ∙ h.at)

          b : (1 ≤ a) × (a ≤ length set)
          b = in_bounds set a in_a

          hears : on_message M.blank (length (happens M w (Does (Ask a body)))) c h.leader (message (at_node a in_a ne).0.term a c (Forward body)) ≡ appending h.leader body
          hears =
              heard_as M.blank (length (happens M w (Does (Ask a body)))) c h.leader (message (at_node a in_a ne).0.term a c (Forward body)) refl ne b.0 (omega (arith, b.1, enough.0, one.long, h.long))
              ∙ (ap (λ z. on_forward z body) (raised_same h.leader (at_node a in_a ne).0.term (omega (arith, st.follows.term_is, h.leading.term_is)))
              ∙ cond-true (is_leader h.leader.role && ltb (length h.leader.log) entry_limit) _ _ (both_true (is_leader h.leader.role) _ (ap is_leader h.leading.role_is) (lt-ltb (length h.leader.log) entry_limit leader_room)))

          as_asker : (j : ℕ) (in_j : IsIn set j) (nc : j ≡ c → ⊥) → j ≡ a
              → (x : List (Message M.Body)) × (item (happens M (happens M w (Does (Ask a body))) (Does (Deliver a (suc (count_sent (item w a)))))) j ≡ Some (record (at_node j in_j nc).0 { sent = x }))
          as_asker j in_j nc e =
              let same : (at_node a in_a ne).0 ≡ (at_node j in_j nc).0 = some_same (sym at_a ∙ (ap (λ z. item w z) (sym e) ∙ (at_node j in_j nc).1)) in (
                (at_node a in_a ne).0.sent ++ message (at_node a in_a ne).0.term a c (Forward body) ∷ [],
                two.1.else j nc ∙ (ap (λ z. item (happens M w (Does (Ask a body))) z) e ∙ (asker ∙ ap (λ (z : Node M.Body). let y : Node M.Body = record z { sent = (at_node a in_a ne).0.sent ++ message (at_node a in_a ne).0.term a c (Forward body) ∷ [] } in Some y) same)),
              )

      pub takes_body : Leads M set w (ask_through M c a body w) WithIt
      takes_body =
          ⊎_elim
          (λ e. subst (λ z. Leads M set w z WithIt) (sym (cond-true (eqb a c) (Does (Ask a body) ∷ []) _ (eq-eqb a c e))) (at_leader e))
          (λ ne. subst (λ z. Leads M set w z WithIt) (sym (cond-false (eqb a c) _ (Does (Ask a body) ∷ Does (Deliver a (suc (count_sent (item w a)))) ∷ []) (eqb_no a c ne))) (at_other ne))
          (cases_eq a c)

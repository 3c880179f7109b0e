-- A node of a majority comes to lead it with a new session, and claims a line by that.
use Rattle.std.proofs.Common.{◌≡◌, ℕ, suc, ◌+◌, ◌<◌, ◌≤◌, Bool, true, false, List, [], ◌∷◌, ◌++◌, length, Option, Some, None, refl, sym, ap, subst, ◌∙◌, arith, ⊎_elim, length-append}
use Rattle.std.specs.Prelude.{◌^◌, is_some}
use Rattle.std.proofs.lemmas.Bool.{cond_both}
use Rattle.raft_log.specs.declared.entry.Entry.{Entry}
use Rattle.raft_log.specs.declared.node_state.Live.{Live}
use Rattle.raft_log.specs.Lists.{item}
use Rattle.raft_log.specs.Logs.{entry_limit, last_term}
use Rattle.raft_log.specs.Node.{Node, is_leader}
use Rattle.replication.specs.Replication.{appending}
use Rattle.node_steps.specs.Asking.{new_session}
use Rattle.raft_node.specs.Machine.{Machine}
use Rattle.raft_node.specs.Steps.{Opens, Closes, Claims, turn}
use Rattle.agreement.specs.Laws.{IsIn, IsMajority}
use Rattle.world_run.specs.World.{World, Input, Event, Opened, Closed, Claim, actor, act_of, run}
use Rattle.progress.specs.Plans.{greatest_term, log_of, term_of, attempts_of, has_session, lead_events, bring_events, ready_events, open_events, claim_events, candidate, peers, lead, lead_on, shut_session, get_ready, open_session, claim_line}
use Rattle.progress.specs.Laws.{boot_of, HasRoom, IsSentWithin, AreWithin, IsAnswered}
use Rattle.progress.specs.Sessions.{session_of, waits_at, IsDone, ready, with_session, new_live, IsOpened, IsClaimed, HasAttempts}
use Rattle.progress.proofs.Places.{some_same}
use Rattle.progress.proofs.Stepping.{Leads, leads_nothing, leads_append, leads_more}
use Rattle.progress.proofs.Sane.{Sane}
use Rattle.progress.proofs.Standing.{AllOf, stands}
use Rattle.progress.proofs.Applying.{answered_later}
use Rattle.progress.proofs.Sums.{add, bring_more}
use Rattle.progress.proofs.Staying.{Bound, Onward, Stays, calm_stays}
use Rattle.progress.proofs.Calm.{calm_lead}
use Rattle.progress.proofs.OwnTurns.{shuts, opens, claims}
use Rattle.progress.proofs.Through.{is_by}
use Rattle.progress.proofs.Ruling as ruling
use Rattle.progress.proofs.Owning as owning

module _ (M : Machine) where
  module _ (set : List Bool) (n i : ℕ) (w : World M) (onward : (es : List (Event M)) → Sane n (run M es w)) (size : length w ≡ n) (two : 2 ≤ n) (most : IsMajority n set) (in_i : IsIn set i) (room : HasRoom M set w)
      (bound : (t : Node M.Body) → item w (candidate set w) ≡ Some t → Bound t) where
    abbrev c : ℕ
    c = candidate set w

    in_c : IsIn set c
    in_c = ruling.in_c M set n i w onward size two most in_i room

    abbrev s : Node M.Body
    s = (ruling.found M set n i w onward size two most in_i room).0

    at_s : item w c ≡ Some s
    at_s = (ruling.found M set n i w onward size two most in_i room).1

    abbrev entries : ℕ
    entries = length (log_of (item w c))

    entries_is : entries ≡ length s.log
    entries_is = ap (λ z. length (log_of z)) at_s

    one_fits : suc entries < entry_limit
    one_fits = let r = room.entries c s in_c at_s in omega (arith, entries_is)

    abbrev led_world : World M
    led_world = run M (lead M set w) w

    leads : Leads M set w (lead M set w) (ruling.Reign M set n i w onward size two most in_i room)
    leads = ruling.leads M set n i w onward size two most in_i room

    abbrev reign : ruling.Reign M set n i w onward size two most in_i room (run M (lead M set w) w)
    reign = leads.ends

    no_peers : peers set c ≡ [] → ⊥
    no_peers = ruling.no_peers M set n i w onward size two most in_i room

    -- it leads in this term, with this session and this many attempts, and has at most this many entries
    record Rules (live : Option Live) (attempts most_entries : ℕ) (v : World M) : Type 0 where
      L : List (Entry M.Body)
      high : ℕ
      ends : last_term L ≡ reign.T
      some : 1 ≤ length L
      high_in : high ≤ length L
      long : length L ≤ most_entries
      all : AllOf M set n c reign.T L reign.boots high most in_c ends some v
      live_is : all.leader.live ≡ live
      attempts_is : all.leader.attempts ≡ attempts

    -- it does one more thing
    module _ (live0 : Option Live) (attempts0 entries0 : ℕ) (front : List (Event M)) (r : Rules live0 attempts0 entries0 (run M front w)) (fits : length r.L < entry_limit)
        (e : Input M) (live : Option Live) (attempts : ℕ) (body : M.Body) (by_c : actor M (run M front w) e ≡ c) (heard : IsSentWithin M set e)
        (adds_it : (turn M (length (run M front w)) c (act_of M (run M front w) e) r.all.leader).node ≡ appending (record r.all.leader { live = live; attempts = attempts }) body) where
      abbrev v : World M
      v = run M front w

      abbrev Owned : World M → Type 0
      Owned z = owning.Owned M set n c reign.T r.L reign.boots r.high most in_c r.ends r.some no_peers fits r.high_in v r.all e live attempts body by_c heard adds_it z

      owns : Leads M set v (lead_on M set c e v) Owned
      owns = owning.owns M set n c reign.T r.L reign.boots r.high most in_c r.ends r.some no_peers fits r.high_in v r.all e live attempts body by_c heard adds_it

      long_own : length (r.L ++ record { term = reign.T; body = body } ∷ []) ≡ suc (length r.L)
      long_own = let l = length-append r.L (record { term = reign.T; body = body } ∷ []) in omega arith

      rules_on : Leads M set v (lead_on M set c e v) (Rules live attempts (suc entries0))
      rules_on =
          leads_more M set v (lead_on M set c e v) Owned (Rules live attempts (suc entries0)) owns
          (λ z o. record {
            L = r.L ++ record { term = reign.T; body = body } ∷ [];
            high = length (r.L ++ record { term = reign.T; body = body } ∷ []);
            ends = owning.ends_own M set n c reign.T r.L reign.boots r.high most in_c r.ends r.some no_peers fits r.high_in v r.all e live attempts body by_c heard adds_it;
            some = owning.some_own M set n c reign.T r.L reign.boots r.high most in_c r.ends r.some no_peers fits r.high_in v r.all e live attempts body by_c heard adds_it;
            high_in = omega arith;
            long = omega (arith, long_own, r.long);
            all = o.all;
            live_is = o.live_is;
            attempts_is = o.attempts_is;
          })

      few_on : length (lead_on M set c e v) ≤ bring_events n entries0
      few_on =
          omega (arith, owning.own_few M set n c reign.T r.L reign.boots r.high most in_c r.ends r.some no_peers fits r.high_in v r.all e live attempts body by_c heard adds_it, bring_more n (length r.L) entries0 r.long)

      behind_is : log_of (item v c) ≡ r.L
      behind_is = ap log_of r.all.at ∙ r.all.leading.log_is

      done : (l : Live) → live ≡ Some l → l.id.0 ≡ reign.T → AreWithin M set w front → (most_front total : ℕ) → length front ≤ most_front → most_front + bring_events n entries0 ≡ total
          → IsDone M set c total l (log_of (item v c)) body w (front ++ lead_on M set c e v)
      done l some_live term_is within most_front total few sum =
          record {
            by = is_by M set total w (front ++ lead_on M set c e v) whole.within
                (subst (λ z. length (front ++ lead_on M set c e v) ≤ z) sum
                (add (length front) (length (lead_on M set c e v)) most_front (bring_events n entries0) (length (front ++ lead_on M set c e v)) few few_on (length-append front (lead_on M set c e v))));
            leader = whole.ends.all.leader;
            at = whole.ends.all.at;
            leads = whole.ends.all.leading.role_is;
            term_is = whole.ends.all.leading.term_is ∙ sym term_is;
            live_is = whole.ends.live_is ∙ some_live;
            log_is = whole.ends.all.leading.log_is
                ∙ (ap (λ z. z ++ record { term = reign.T; body = body } ∷ []) (sym behind_is)
                ∙ ap (λ z. log_of (item v c) ++ record { term = z; body = body } ∷ []) (sym whole.ends.all.leading.term_is));
            applied_is = whole.ends.applied_is ∙ grown;
            committed = λ j in_j. by_node j in_j;
            answered = answered_later M c (boot_of (item w c)) (Some l) (log_of (item v c)) body w front (lead_on M set c e v)
                (subst (λ z. IsAnswered M c (boot_of (item w c)) (Some l) z body v (lead_on M set c e v)) (sym behind_is)
                (subst (λ z. IsAnswered M c (boot_of (item w c)) z r.L body v (lead_on M set c e v)) some_live
                (subst (λ z. IsAnswered M c z live r.L body v (lead_on M set c e v)) (reign.known.boots_are c in_c)
                (owning.own_answered M set n c reign.T r.L reign.boots r.high most in_c r.ends r.some no_peers fits r.high_in v r.all e live attempts body by_c heard adds_it))));
          }
        where
          whole : Leads M set w (front ++ lead_on M set c e v) Owned
          whole = leads_append M set w front (lead_on M set c e v) (Rules live0 attempts0 entries0) Owned (record { ends = r; within = within }) (λ h. owns)

          grown : length (r.L ++ record { term = reign.T; body = body } ∷ []) ≡ suc (length (log_of (item v c)))
          grown = long_own ∙ ap (λ z. suc (length z)) (sym behind_is)

          by_node : (j : ℕ) → IsIn set j → (t : Node M.Body) × (item (run M (front ++ lead_on M set c e v) w) j ≡ Some t) × (t.log ≡ whole.ends.all.leader.log) × (t.commit ≡ suc (length (log_of (item v c))))
          by_node j in_j =
              let st =
              stands M set n c reign.T (r.L ++ record { term = reign.T; body = body } ∷ []) reign.boots (length (r.L ++ record { term = reign.T; body = body } ∷ [])) most in_c
              (owning.ends_own M set n c reign.T r.L reign.boots r.high most in_c r.ends r.some no_peers fits r.high_in v r.all e live attempts body by_c heard adds_it)
              (owning.some_own M set n c reign.T r.L reign.boots r.high most in_c r.ends r.some no_peers fits r.high_in v r.all e live attempts body by_c heard adds_it) j in_j (run M (front ++ lead_on M set c e v) w) whole.ends.all in
              (st.node, st.at, st.log_is ∙ sym whole.ends.all.leading.log_is, st.commit_is ∙ grown)

    -- as it comes to lead

    abbrev l0 : Node M.Body
    l0 = reign.led.leader

    on : Onward s l0
    on =
        let st : Stays M c s led_world = calm_stays M (lead M set w) w c s (calm_lead M set w) at_s (bound s at_s) in
        subst (λ z. Onward s z) (some_same (sym st.at ∙ reign.led.at)) st.onward

    rules0 : (live : Option Live) → l0.live ≡ live → (k : ℕ) → length reign.L ≤ k → Rules live s.attempts k led_world
    rules0 live e k le =
        record { L = reign.L; high = reign.high; ends = reign.known.ends; some = reign.known.some; high_in = reign.known.high_in; long = le; all = reign.led; live_is = e; attempts_is = on.attempts_is }

    abbrev Idle : World M → Type 0
    Idle v = Rules None s.attempts (suc entries) v

    abbrev Shuts : List (Event M) → Type 0
    Shuts es = Leads M set led_world es Idle × (length es ≤ bring_events n entries)

    -- a session that is live is of the term that it led in before
    short : (l : Live) → l0.live ≡ Some l → length reign.L ≤ entries
    short l e =
        ⊎_elim
        (λ same. ⊎_elim (λ lt. absurd (omega (arith, same.0, reign.led.leading.term_is))) (λ le. omega (arith, entries_is)) reign.known.grown)
        (λ later. absurd (cc (later.1, e)))
        on.live_is

    shut_by : (o : Option Live) → l0.live ≡ o → is_some o ≡ true → Shuts (lead_on M set c (Closed c) led_world)
    unfolding rules0
    shut_by None e h = absurd (cc h)
    shut_by (Some l) e h =
        let r : Rules (Some l) s.attempts entries led_world = rules0 (Some l) e entries (short l e) in
        let fits : length reign.L < entry_limit = omega (arith, short l e, one_fits) in
        let room0 : length l0.log < entry_limit = subst (λ z. length z < entry_limit) (sym reign.led.leading.log_is) fits in
        let it : (turn M (length led_world) c Closes l0).node ≡ appending (record l0 { live = None; attempts = l0.attempts }) (M.shut l.id) =
        shuts M (length led_world) c l0 (ap is_leader reign.led.leading.role_is) room0 l e in (
          leads_more M set led_world (lead_on M set c (Closed c) led_world) (Rules None l0.attempts (suc entries)) Idle
              (rules_on (Some l) s.attempts entries (lead M set w) r fits (Closed c) None l0.attempts (M.shut l.id) refl tt it)
              (λ z q. subst (λ k. Rules None k (suc entries) z) on.attempts_is q),
          few_on (Some l) s.attempts entries (lead M set w) r fits (Closed c) None l0.attempts (M.shut l.id) refl tt it,
        )

    idle_by : (o : Option Live) → l0.live ≡ o → is_some o ≡ false → Shuts []
    idle_by None e h = (
      leads_nothing M set led_world Idle (rules0 None e (suc entries) (omega (arith, reign.known.long, entries_is))),
      omega arith,
    )
    idle_by (Some l) e h = absurd (cc h)

    shut : Shuts (shut_session M set c led_world)
    shut =
        cond_both (has_session (item led_world c)) (lead_on M set c (Closed c) led_world) [] Shuts
        (λ h. shut_by l0.live refl (sym (ap has_session reign.led.at) ∙ h))
        (λ h. idle_by l0.live refl (sym (ap has_session reign.led.at) ∙ h))

    ready_leads : Leads M set w (get_ready M set w) Idle
    ready_leads = leads_append M set w (lead M set w) (shut_session M set c led_world) (ruling.Reign M set n i w onward size two most in_i room) Idle leads (λ h. shut.0)

    ready_few : length (get_ready M set w) ≤ ready_events n (greatest_term w) entries
    ready_few =
        add (length (lead M set w)) (length (shut_session M set c led_world)) (lead_events n (greatest_term w) entries) (bring_events n entries) (length (get_ready M set w))
        (ruling.lead_few M set n i w onward size two most in_i room) shut.1 (length-append (lead M set w) (shut_session M set c led_world))

    -- its session

    abbrev r1 : Rules None s.attempts (suc entries) (run M (get_ready M set w) w)
    r1 = ready_leads.ends

    abbrev l1 : Node M.Body
    l1 = r1.all.leader

    module _ (has_attempts : HasAttempts M c w) where
      fits1 : length r1.L < entry_limit
      fits1 = omega (arith, r1.long, one_fits)

      attempts_then : attempts_of (item w c) ≡ l1.attempts
      attempts_then = ap attempts_of at_s ∙ sym r1.attempts_is

      opens_it : (turn M (length (ready M set w)) c Opens l1).node ≡ appending (record l1 { live = Some (new_session l1); attempts = suc l1.attempts }) (M.opened (new_session l1).id)
      opens_it =
          opens M (length (ready M set w)) c l1 (ap is_leader r1.all.leading.role_is) (subst (λ z. length z < entry_limit) (sym r1.all.leading.log_is) fits1) r1.live_is
          (subst (λ z. z < 2 ^ 60) attempts_then has_attempts)

      same_live : new_session l1 ≡ new_live M set w
      same_live = ap (λ z. session_of z (suc l1.attempts)) (sym (ap term_of r1.all.at)) ∙ ap (λ z. session_of (term_of (item (ready M set w) c)) (suc z)) (sym attempts_then)

      -- as it was when it opened that
      pub ready_leader : (l : Node M.Body) × (item (ready M set w) c ≡ Some l) × (is_leader l.role ≡ true) × (new_session l ≡ new_live M set w)
      ready_leader = (l1, r1.all.at, ap is_leader r1.all.leading.role_is, same_live)

      abbrev Opening : ℕ → Type 0
      Opening k =
          IsDone M set c (open_events k (greatest_term w) entries) (new_live M set w) (log_of (item (ready M set w) c)) (M.opened (new_live M set w).id) w (open_session M set w)

      pub is_opened : IsOpened M set w (open_session M set w)
      is_opened =
          subst Opening (sym size)
          (subst (λ z. IsDone M set c (open_events n (greatest_term w) entries) z (log_of (item (ready M set w) c)) (M.opened z.id) w (open_session M set w)) same_live
          (done None s.attempts (suc entries) (get_ready M set w) r1 fits1 (Opened c) (Some (new_session l1)) (suc l1.attempts) (M.opened (new_session l1).id) refl tt opens_it
          (new_session l1) refl r1.all.leading.term_is ready_leads.within (ready_events n (greatest_term w) entries) (open_events n (greatest_term w) entries) ready_few refl))

      abbrev Active : World M → Type 0
      Active v = Rules (Some (new_session l1)) (suc l1.attempts) (suc (suc entries)) v

      opened_leads : Leads M set w (open_session M set w) Active
      opened_leads =
          leads_append M set w (get_ready M set w) (lead_on M set c (Opened c) (ready M set w)) Idle Active ready_leads
          (λ h. rules_on None s.attempts (suc entries) (get_ready M set w) r1 fits1 (Opened c) (Some (new_session l1)) (suc l1.attempts) (M.opened (new_session l1).id) refl tt opens_it)

      open_few : length (open_session M set w) ≤ open_events n (greatest_term w) entries
      open_few =
          add (length (get_ready M set w)) (length (lead_on M set c (Opened c) (ready M set w))) (ready_events n (greatest_term w) entries) (bring_events n (suc entries)) (length (open_session M set w))
          ready_few
          (few_on None s.attempts (suc entries) (get_ready M set w) r1 fits1 (Opened c) (Some (new_session l1)) (suc l1.attempts) (M.opened (new_session l1).id) refl tt opens_it)
          (length-append (get_ready M set w) (lead_on M set c (Opened c) (ready M set w)))

      -- its claim

      abbrev r2 : Rules (Some (new_session l1)) (suc l1.attempts) (suc (suc entries)) (run M (open_session M set w) w)
      r2 = opened_leads.ends

      abbrev l2 : Node M.Body
      l2 = r2.all.leader

      module _ (number : ℕ) (more_room : suc (suc entries) < entry_limit) (waits : waits_at M (item (with_session M set w) c) ≡ Some number) where
        fits2 : length r2.L < entry_limit
        fits2 = omega (arith, r2.long)

        claims_it : (turn M (length (with_session M set w)) c Claims l2).node ≡ appending (record l2 { live = l2.live; attempts = l2.attempts }) (M.claim (new_session l1).id number)
        claims_it =
            claims M (length (with_session M set w)) c l2 (ap is_leader r2.all.leading.role_is) (subst (λ z. length z < entry_limit) (sym r2.all.leading.log_is) fits2) (new_session l1) number r2.live_is
            (sym (ap (waits_at M) r2.all.at) ∙ waits)

        abbrev Claiming : ℕ → Type 0
        Claiming k =
            IsDone M set c (claim_events k (greatest_term w) entries) (new_live M set w) (log_of (item (with_session M set w) c)) (M.claim (new_live M set w).id number) w (claim_line M set w)

        pub is_claimed : IsClaimed M set number w (claim_line M set w)
        is_claimed =
            subst Claiming (sym size)
            (subst (λ z. IsDone M set c (claim_events n (greatest_term w) entries) z (log_of (item (with_session M set w) c)) (M.claim z.id number) w (claim_line M set w)) same_live
            (done (Some (new_session l1)) (suc l1.attempts) (suc (suc entries)) (open_session M set w) r2 fits2 (Claim c) l2.live l2.attempts (M.claim (new_session l1).id number) refl tt claims_it
            (new_session l1) r2.live_is r1.all.leading.term_is opened_leads.within (open_events n (greatest_term w) entries) (claim_events n (greatest_term w) entries) open_few refl))

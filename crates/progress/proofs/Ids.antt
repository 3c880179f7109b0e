-- In every world each session's id in a log is of the term of its entry, and the next id of a leader is above all in
-- its log.
use Rattle.std.proofs.Common.{◌≡◌, ℕ, suc, ◌≤◌, Bool, true, false, ◌&&◌, ◌||◌, not, eqb, ltb, leb, List, [], ◌∷◌, length, Option, Some, None, refl, sym, ap, subst, ◌∙◌, arith, ⊎_elim}
use Rattle.std.specs.Prelude.{◌^◌}
use Rattle.std.proofs.lemmas.Bool.{cond_both, cases_lt, eq-eqb, lt-ltb}
use Rattle.wire_bytes.specs.declared.session_id.SessionId.{SessionId}
use Rattle.raft_log.specs.declared.entry.Entry.{Entry}
use Rattle.raft_log.specs.declared.message.Message.{Message}
use Rattle.raft_log.specs.declared.node_state.Live.{Live}
use Rattle.raft_log.specs.Lists.{item}
use Rattle.raft_log.specs.Logs.{entry_limit}
use Rattle.raft_log.specs.Node.{Node, is_leader}
use Rattle.election.specs.Elections.{timed_out}
use Rattle.replication.specs.Replication.{appending, on_forward, ask}
use Rattle.node_steps.specs.declared.refusal.Refusal.TheVariants.{LogFull, TermsSpent, NoLeader, Behind, BadOrigin}
use Rattle.node_steps.specs.Asking.{may_ask, finds_leader, is_full, new_session}
use Rattle.raft_node.specs.Raft.{newborn}
use Rattle.raft_node.specs.Machine.{Machine}
use Rattle.raft_node.specs.Steps.{Turn, Act, Expires, Beats, Hears, Asks, Opens, Closes, HearsLine, Claims, Applies, Looks, Idles, quiet, refused, applied_history, asks, asked, adds, opened, closed, heard, claimed, if_leading, applied, turn, own}
use Rattle.raft_node.proofs.Items.{item_of_with, item_of_replicate}
use Rattle.agreement.specs.World.{sent_of, start}
use Rattle.world_run.specs.World.{World, Input, Timeout, Beat, Deliver, Ask, Opened, Closed, Heard, Claim, Apply, Look, Event, Does, Restart, StopIn, hears, act_of, stepper, own_of, world_by, happens, run}
use Rattle.session_fence.specs.Sessions.{is_below}
use Rattle.progress.proofs.Voting.{both_true}
use Rattle.progress.proofs.Naming.{not_both, Each, each_map, each_append, each_at, Fine, FineMessage, Named, timeout_named, beat_named, ask_named, restarted_named, applied_named, message_named}

either_left : (a b : Bool) → a ≡ true → (a || b) ≡ true
either_left true b e = refl
either_left false b e = absurd (cc e)

either_right : (a b : Bool) → b ≡ true → (a || b) ≡ true
either_right true b e = refl
either_right false b e = e

module _ (M : Machine) where
  -- a machine says which session a body opens; only the leader may bring such a body
  pub record TellsOpened (names : M.Body → Option SessionId) : Type 0 where
    pub of_opened : (id : SessionId) → names (M.opened id) ≡ Some id
    pub of_shut : (id : SessionId) → names (M.shut id) ≡ None
    pub of_heard : (id : SessionId) (n at : ℕ) (line : M.Line) → names (M.heard id n at line) ≡ None
    pub of_claim : (id : SessionId) (n : ℕ) → names (M.claim id n) ≡ None
    pub of_blank : names M.blank ≡ None
    pub of_asked : (i : ℕ) (s : Node M.Body) (b : M.Body) → may_ask i s (M.source b) ≡ true → names b ≡ None

  module _ (names : M.Body → Option SessionId) (tells : TellsOpened names) where
    abbrev Ok : Node M.Body → Type 0
    Ok s = Named names s

    abbrev OkTurn : Turn M → Type 0
    OkTurn t = Named names t.node

    -- a leader appends of its own what names no session, or its next one
    module _ (n i : ℕ) (s : Node M.Body) (h : Named names s) where
      adds_named : (live : Option Live) (attempts : ℕ) (b : M.Body) → s.attempts ≤ attempts
          → ((id : SessionId) → names b ≡ Some id → (id.0 ≡ s.term) × (id.1 ≤ attempts)) → OkTurn (adds M s live attempts b)
      adds_named live attempts b up new =
          cond_both (is_full s) (refused M s LogFull) (quiet M (on_forward (record s { live = live; attempts = attempts }) b)) OkTurn
          (λ f. h)
          (λ f. cond_both (is_leader s.role && ltb (length s.log) entry_limit) (appending (record s { live = live; attempts = attempts }) b) (record s { live = live; attempts = attempts }) Ok
          (λ q. record {
            log_ok = each_append (Fine names s.term s.role attempts) s.log (record { term = s.term; body = b } ∷ []) grown (own_entry (both_left (is_leader s.role) _ q), tt);
            sent_ok = h.sent_ok;
          })
          (λ q. record { log_ok = grown; sent_ok = h.sent_ok }))
        where
          both_left : (x y : Bool) → (x && y) ≡ true → x ≡ true
          both_left true y e = refl
          both_left false y e = e

          grown : Each (Fine names s.term s.role attempts) s.log
          grown =
              each_map (Fine names s.term s.role s.attempts) (Fine names s.term s.role attempts)
              (λ e f. record { upto = f.upto; termed = f.termed; under = f.under; made = λ l same id at. let r = f.made l same id at in omega arith }) s.log h.log_ok

          own_entry : is_leader s.role ≡ true → Fine names s.term s.role attempts (record { term = s.term; body = b })
          own_entry l =
              record { upto = omega arith; termed = λ id e. (new id e).0; under = λ c. absurd (not_both s.role l c); made = λ m same id e. (new id e).1 }

      nameless_adds : (live : Option Live) (attempts : ℕ) (b : M.Body) → s.attempts ≤ attempts → names b ≡ None → OkTurn (adds M s live attempts b)
      nameless_adds live attempts b up none = adds_named live attempts b up (λ id e. absurd (cc (none, e)))

      leading_named : (t : Turn M) → OkTurn t → OkTurn (if_leading M s t)
      leading_named t k = cond_both (is_leader s.role) t (quiet M s) OkTurn (λ l. k) (λ l. h)

      opened_named : (o : Option Live) → OkTurn (opened M s o)
      opened_named None =
          cond_both (leb (2 ^ 60) s.attempts) (refused M s TermsSpent) _ OkTurn (λ x. h)
          (λ x. adds_named (Some (new_session s)) (suc s.attempts) (M.opened (new_session s).id) (omega arith)
          (λ id e.
          let same : (new_session s).id ≡ id = cc (tells.of_opened (new_session s).id, e) in
          let attempt : suc s.attempts ≡ id.1 = ap (λ (z : SessionId). z.1) same in
          (sym (ap (λ (z : SessionId). z.0) same), omega arith)))
      opened_named (Some l) = h

      closed_named : (o : Option Live) → OkTurn (closed M s o)
      closed_named None = h
      closed_named (Some l) = nameless_adds None s.attempts (M.shut l.id) (omega arith) (tells.of_shut l.id)

      heard_named : (o : Option Live) (at : ℕ) (line : M.Line) → OkTurn (heard M s o at line)
      heard_named None at line = h
      heard_named (Some l) at line = nameless_adds _ s.attempts (M.heard l.id l.next at line) (omega arith) (tells.of_heard l.id l.next at line)

      claimed_named : (o : Option Live) (k : Option ℕ) → OkTurn (claimed M s o k)
      claimed_named None k = h
      claimed_named (Some l) None = h
      claimed_named (Some l) (Some k) = nameless_adds s.live s.attempts (M.claim l.id k) (omega arith) (tells.of_claim l.id k)

      asked_named : (b : M.Body) → OkTurn (asked M i s b)
      asked_named b =
          cond_both (may_ask i s (M.source b)) _ (refused M s BadOrigin) OkTurn
          (λ may. cond_both (finds_leader s s.leader) (asks M i s b) (refused M s NoLeader) OkTurn
          (λ k. cond_both (is_leader s.role && is_full s) (refused M s LogFull) (quiet M (ask i s b)) OkTurn (λ f. h) (λ f. ask_named names n i s h b (tells.of_asked i s b may)))
          (λ k. h))
          (λ x. h)

      applied_turn : (o : Option (Entry M.Body)) → OkTurn (applied M i s o)
      applied_turn None = h
      applied_turn (Some e) = applied_named names n i s h (suc s.applied)

      abbrev FineAct : Act M → Type 0
      FineAct (Hears m) = FineMessage names m
      FineAct _ = Unit {0}

      turn_named : (a : Act M) → FineAct a → OkTurn (turn M n i a s)
      turn_named Expires ok =
          cond_both (not (is_leader s.role) && leb (2 ^ 60) s.term) (refused M s TermsSpent) (quiet M (timed_out n i s)) OkTurn
          (λ x. h) (λ x. timeout_named names n i s h)
      turn_named Beats ok = beat_named names n i s h
      turn_named (Hears m) ok = message_named names M.blank tells.of_blank n i s h m ok
      turn_named (Asks b) ok = asked_named b
      turn_named Opens ok = leading_named _ (opened_named s.live)
      turn_named Closes ok = leading_named _ (closed_named s.live)
      turn_named (HearsLine at line) ok = leading_named _ (heard_named s.live at line)
      turn_named Claims ok = leading_named _ (claimed_named s.live (M.next_claim (applied_history M s)))
      turn_named Applies ok = cond_both (ltb s.applied s.commit) _ (quiet M s) OkTurn (λ x. applied_turn (item s.log (suc s.applied))) (λ x. h)
      turn_named (Looks from_place target) ok = cond_both (ltb s.applied from_place) (refused M s (Behind s.applied)) _ OkTurn (λ x. h) (λ x. h)
      turn_named Idles ok = h

      fine_hears : (o : Option (Message M.Body)) → ((m : Message M.Body) → o ≡ Some m → FineMessage names m) → FineAct (hears M o)
      fine_hears None f = tt
      fine_hears (Some m) f = f m refl

      stopped_named : (t : Node M.Body) → Ok t → Ok (record t { sent = s.sent })
      stopped_named t k = record { log_ok = k.log_ok; sent_ok = h.sent_ok }

    -- so it is for each node of a world

    pub record NamedNow (w : World M) : Type 0 where
      pub each : (i : ℕ) (s : Node M.Body) → item w i ≡ Some s → Named names s

    message_there : (w : World M) → NamedNow w → (j k : ℕ) (m : Message M.Body) → sent_of (item w j) k ≡ Some m → FineMessage names m
    message_there w h j k m at = by_item (item w j) refl at
      where
        by_item : (o : Option (Node M.Body)) → item w j ≡ o → sent_of o k ≡ Some m → FineMessage names m
        by_item None e f = absurd (cc f)
        by_item (Some s) e f = each_at (FineMessage names) s.sent k m (h.each j s e).sent_ok f

    module _ (w : World M) (h : NamedNow w) (n i : ℕ) (s : Node M.Body) (k : Ok s) where
      acts_named : (x : Input M) → OkTurn (turn M n i (act_of M w x) s)
      acts_named (Timeout j) = turn_named n i s k Expires tt
      acts_named (Beat j) = turn_named n i s k Beats tt
      acts_named (Deliver j p) = turn_named n i s k (hears M (sent_of (item w j) p)) (fine_hears n i s k (sent_of (item w j) p) (λ m at. message_there w h j p m at))
      acts_named (Ask j body) = turn_named n i s k (Asks body) tt
      acts_named (Opened j) = turn_named n i s k Opens tt
      acts_named (Closed j) = turn_named n i s k Closes tt
      acts_named (Heard j at line) = turn_named n i s k (HearsLine at line) tt
      acts_named (Claim j) = turn_named n i s k Claims tt
      acts_named (Apply j) = turn_named n i s k Applies tt
      acts_named (Look j from_place target) = turn_named n i s k (Looks from_place target) tt

      own_named : (e : Event M) → Ok (own M n i (own_of M w e) s).node
      own_named (Does x) = acts_named x
      own_named (Restart j) = restarted_named names n i s k
      own_named (StopIn x false) = restarted_named names n i s k
      own_named (StopIn x true) = restarted_named names n i (record (turn M n i (act_of M w x) s).node { sent = s.sent }) (stopped_named n i s k (turn M n i (act_of M w x) s).node (acts_named x))

    named_happens : (w : World M) (e : Event M) → NamedNow w → NamedNow (happens M w e)
    named_happens w e h = by_item (item w (stepper M w e)) refl
      where
        by_item : (o : Option (Node M.Body)) → item w (stepper M w e) ≡ o → NamedNow (world_by M w (stepper M w e) (own_of M w e) o)
        by_item None p = h
        by_item (Some s) p =
            record {
              each = λ j y at.
                  ⊎_elim
                  (λ r. subst Ok r.1 (own_named w h (length w) (stepper M w e) s (h.each (stepper M w e) s p) e))
                  (λ r. h.each j y r.1)
                  (item_of_with w (stepper M w e) _ j y s p at);
            }

    pub named_run : (es : List (Event M)) (w : World M) → NamedNow w → NamedNow (run M es w)
    named_run [] w h = h
    named_run (e ∷ es) w h = named_run es (happens M w e) (named_happens w e h)

    pub named_start : (n : ℕ) → NamedNow (start n)
    named_start n = record { each = λ i s at. subst Ok (item_of_replicate n i (newborn n) s at) (record { log_ok = tt; sent_ok = tt }) }

    -- what a leader opens next is above all that its log has
    abbrev pub Below : SessionId → Entry M.Body → Type 0
    Below top e = (id : SessionId) → names e.body ≡ Some id → is_below id top ≡ true

    pub next_above : (s : Node M.Body) → Named names s → is_leader s.role ≡ true → Each (Below (new_session s).id) s.log
    next_above s h l = each_map (Fine names s.term s.role s.attempts) (Below (s.term, suc s.attempts)) one s.log h.log_ok
      where
        one : (e : Entry M.Body) → Fine names s.term s.role s.attempts e → Below (s.term, suc s.attempts) e
        one e f id at =
            let of_term : id.0 ≡ e.term = f.termed id at in
            ⊎_elim
            (λ lt. either_left (ltb id.0 s.term) _ (lt-ltb id.0 s.term (omega arith)))
            (λ ge.
            let same : e.term ≡ s.term = let u = f.upto in omega arith in
            let made : id.1 ≤ s.attempts = f.made l same id at in
            either_right (ltb id.0 s.term) _ (both_true (eqb id.0 s.term) (ltb id.1 (suc s.attempts)) (eq-eqb id.0 s.term (of_term ∙ same)) (lt-ltb id.1 (suc s.attempts) (omega arith))))
            (cases_lt e.term s.term)

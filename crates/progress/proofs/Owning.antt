-- A body that the leader appends by itself is settled and applied at it.
use Rattle.std.proofs.Common.{◌≡◌, ℕ, suc, ◌+◌, ◌<◌, ◌≤◌, Bool, true, List, [], ◌∷◌, ◌++◌, length, take, Option, Some, refl, sym, ap, subst, ◌∙◌, arith, ⊎_elim, length-append}
use Rattle.std.proofs.Math.Seq.{take-length}
use Rattle.std.proofs.lemmas.List.{take-append-le}
use Rattle.raft_log.specs.declared.entry.Entry.{Entry}
use Rattle.raft_log.specs.declared.node_state.Live.{Live}
use Rattle.raft_log.specs.Lists.{item, item_or}
use Rattle.raft_log.specs.Logs.{entry_limit, last_term}
use Rattle.raft_log.specs.Node.{Node, raised}
use Rattle.replication.specs.Replication.{appending}
use Rattle.raft_node.specs.Machine.{Machine}
use Rattle.raft_node.specs.Steps.{leaves, turn}
use Rattle.agreement.specs.Laws.{IsIn, IsMajority}
use Rattle.agreement.proofs.Lists.{last_term_push}
use Rattle.world_run.specs.World.{World, Input, Does, actor, act_of, happens, run}
use Rattle.progress.specs.Plans.{log_of, unapplied, settle_events, bring_events, and_then, peers, settle, apply_all, lead_on}
use Rattle.progress.specs.Laws.{IsSentWithin, AreWithin, IsAnswered}
use Rattle.progress.proofs.Places.{some_same, item_last}
use Rattle.progress.proofs.Stepping.{Stepped, event_stepped, Leads, leads_event, leads_then, leads_more}
use Rattle.progress.proofs.Appending.{Follows}
use Rattle.progress.proofs.Settling.{Stood}
use Rattle.progress.proofs.Confirming.{Settled, settled_by}
use Rattle.progress.proofs.Reigning.{some_new}
use Rattle.progress.proofs.Taking.{WithIt, at_node, rebuilt}
use Rattle.progress.proofs.Standing.{AllOf}
use Rattle.progress.proofs.Lengths.{then_long, settle_long, apply_long}
use Rattle.progress.proofs.Applying.{Upto, applies_all, answered_later, all_applied}
use Rattle.progress.proofs.Sums.{add, few_peers}
use Rattle.progress.proofs.Staying.{bound_leader, Onward, Stays, calm_stays}
use Rattle.progress.proofs.Calm.{calm_settle}

module _ (M : Machine) (set : List Bool) (n c T : ℕ) (L : List (Entry M.Body)) (boots : ℕ → ℕ) (high : ℕ) (most : IsMajority n set) (in_c : IsIn set c) (ends : last_term L ≡ T) (some : 1 ≤ length L)
    (no_peers : peers set c ≡ [] → ⊥) (room1 : length L < entry_limit) (high_in : high ≤ length L)
    (x : World M) (led : AllOf M set n c T L boots high most in_c ends some x)
    (e : Input M) (live : Option Live) (attempts : ℕ) (body : M.Body) (by_c : actor M x e ≡ c) (heard : IsSentWithin M set e)
    (adds : (turn M (length x) c (act_of M x e) led.leader).node ≡ appending (record led.leader { live = live; attempts = attempts }) body) where
  abbrev new_entry : Entry M.Body
  new_entry = record { term = T; body = body }

  abbrev pub own_log : List (Entry M.Body)
  own_log = L ++ record { term = T; body = body } ∷ []

  pub ends_own : last_term own_log ≡ T
  ends_own = last_term_push L new_entry

  pub some_own : 1 ≤ length own_log
  some_own = some_new L new_entry

  pub long_own : length own_log ≡ suc (length L)
  long_own = let l = length-append L (new_entry ∷ []) in omega arith

  abbrev new_leader : Node M.Body
  new_leader = appending (record led.leader { live = live; attempts = attempts }) body

  -- it has it

  record Began (v : World M) : Type 0 where
    has : WithIt M set n c T L boots high most in_c ends some body room1 x led v
    at : item v c ≡ Some new_leader

  abbrev first : World M
  first = happens M x (Does e)

  step : Stepped M x first c (turn M (length x) c (act_of M x e) led.leader).node
  step = event_stepped M x (Does e) c led.leader by_c led.at

  begins : Leads M set x (Does e ∷ []) Began
  begins =
      leads_event M set x (Does e) Began (subst (λ z. IsIn set z) (sym by_c) in_c) heard
      (record {
        has = rebuilt M set n c T L boots high most in_c ends some body room1 x led first live attempts (step.long ∙ led.long) (step.here ∙ ap Some adds)
            (λ j in_j ne. ((at_node M set n c T L boots high most in_c ends some body room1 x led j in_j ne).0.sent, step.else j ne ∙ (at_node M set n c T L boots high most in_c ends some body room1 x led j in_j ne).1));
        at = step.here ∙ ap Some adds;
      })

  -- it is settled

  abbrev AllWith : World M → Type 0
  AllWith v = AllOf M set n c T own_log boots high most in_c ends_own some_own v

  record Settles (v : World M) : Type 0 where
    all : AllWith v
    live_is : all.leader.live ≡ live
    attempts_is : all.leader.attempts ≡ attempts

  settles : (v : World M) → Began v → Leads M set v (settle M c (peers set c) v) Settles
  settles v h =
      let l : Leads M set v (settle M c (peers set c) v) AllWith = settled_by M set n c T own_log boots high most in_c ends_own some_own no_peers v h.has in
      let st : Stays M c new_leader (run M (settle M c (peers set c) v) v) =
      calm_stays M (settle M c (peers set c) v) v c new_leader (calm_settle M c (peers set c) v) h.at (bound_leader new_leader led.leading.role_is) in
      let same : st.node ≡ l.ends.leader = some_same (sym st.at ∙ l.ends.at) in
      let on : Onward new_leader l.ends.leader = subst (λ z. Onward new_leader z) same st.onward in
      record {
        ends = record {
          all = l.ends;
          live_is = ⊎_elim (λ k. k.1) (λ k. absurd (omega (arith, k.0, l.ends.leading.term_is, led.leading.term_is))) on.live_is;
          attempts_is = on.attempts_is;
        };
        within = l.within;
      }

  -- it is applied

  abbrev pub AllApplied : World M → Type 0
  AllApplied v = AllOf M set n c T own_log boots (length own_log) most in_c ends_own some_own v

  pub record Owned (v : World M) : Type 0 where
    pub all : AllApplied v
    pub live_is : all.leader.live ≡ live
    pub attempts_is : all.leader.attempts ≡ attempts
    pub applied_is : all.leader.applied ≡ length own_log

  higher : {b : ℕ} (t : Node M.Body) → Follows T own_log b high t → Follows T own_log b (length own_log) t
  higher t f =
      record {
        term_is = f.term_is;
        role_is = f.role_is;
        boot_is = f.boot_is;
        applied_in = omega (arith, f.applied_in, high_in, long_own);
        alike = f.alike;
        short = f.short;
        commit_in = f.commit_in;
        commit_has = f.commit_has;
      }

  module _ (z : World M) (h : Settles z) where
    abbrev s2 : Node M.Body
    s2 = h.all.leader

    applied_under : s2.applied < s2.commit
    applied_under = omega (arith, h.all.leading.applied_in, high_in, h.all.more, long_own)

    commit_in : s2.commit ≤ length s2.log
    commit_in = omega (arith, h.all.more, ap length h.all.leading.log_is)

    owned : (v : World M) → Upto M c z s2 s2.commit v → Owned v
    owned v u =
        record {
          all = record {
            long = u.long ∙ h.all.long;
            leader = record s2 { applied = s2.commit };
            at = u.here;
            leading = record {
              role_is = h.all.leading.role_is;
              term_is = h.all.leading.term_is;
              boot_is = h.all.leading.boot_is;
              applied_in = omega (arith, h.all.more);
              log_is = h.all.leading.log_is;
              commit_in = h.all.leading.commit_in;
              next_long = h.all.leading.next_long;
              matched_long = h.all.leading.matched_long;
            };
            nodes = λ j in_j ne. one j ne (h.all.nodes j in_j ne);
            more = h.all.more;
          };
          live_is = h.live_is;
          attempts_is = h.attempts_is;
          applied_is = h.all.more;
        }
      where
        one : (j : ℕ) → (j ≡ c → ⊥)
            → (t : Node M.Body) × (item z j ≡ Some t) × Stood M set n c T own_log boots high (Settled M set n c T own_log boots high most in_c ends_own some_own) j (item_or h.all.leader.next j 0) (item_or h.all.leader.matched j 0) (raised t T)
            → (t : Node M.Body) × (item v j ≡ Some t) × Stood M set n c T own_log boots (length own_log) (Settled M set n c T own_log boots (length own_log) most in_c ends_own some_own) j (item_or h.all.leader.next j 0) (item_or h.all.leader.matched j 0) (raised t T)
        one j ne r =
            let st : Stood M set n c T own_log boots high (Settled M set n c T own_log boots high most in_c ends_own some_own) j (item_or h.all.leader.next j 0) (item_or h.all.leader.matched j 0) (raised r.0 T) = r.2 in
            (r.0, u.else j ne ∙ r.1, record { follows = higher (raised r.0 T) st.follows; linked = st.linked; more = st.more })

    applies : Leads M set z (apply_all M c z) Owned
    applies =
        leads_more M set z (apply_all M c z) (Upto M c z s2 s2.commit) Owned
        (applies_all M set c z s2 in_c h.all.at (omega (arith, applied_under)) commit_in) owned

    answers : IsAnswered M c (boots c) live L body z (apply_all M c z)
    answers =
        let r : AreWithin M set z (apply_all M c z) × IsAnswered M c s2.boot live L body z (apply_all M c z) =
        all_applied M set c live L body z s2 new_entry in_c h.all.at applied_under (h.all.more ∙ long_own) (ap (λ k. take (length L) k) h.all.leading.log_is ∙ (take-append-le (length L) L (new_entry ∷ []) (omega arith) ∙ take-length L)) commit_in
        (ap (λ k. item s2.log k) h.all.more ∙ (ap (λ k. item k (length own_log)) h.all.leading.log_is ∙ (ap (λ k. item own_log k) long_own ∙ item_last L new_entry))) refl
        (λ class goes. subst (λ k. leaves c s2.boot k class ≡ true) (sym h.live_is) goes) in
        subst (λ k. IsAnswered M c k live L body z (apply_all M c z)) h.all.leading.boot_is r.1

  -- all of it

  abbrev begun : World M
  begun = run M (Does e ∷ []) x

  abbrev settled : World M
  settled = run M (settle M c (peers set c) begun) begun

  pub owns : Leads M set x (lead_on M set c e x) Owned
  owns =
      leads_then M set x (λ w. Does e ∷ []) (and_then M (settle M c (peers set c)) (apply_all M c)) Began Owned begins
      (λ y h. leads_then M set y (settle M c (peers set c)) (apply_all M c) Settles Owned (settles y h) (λ z k. applies z k))

  pub own_answered : IsAnswered M c (boots c) live L body x (lead_on M set c e x)
  own_answered =
      let second : Leads M set begun (settle M c (peers set c) begun) Settles = settles begun begins.ends in
      answered_later M c (boots c) live L body x (Does e ∷ []) (settle M c (peers set c) begun ++ apply_all M c settled)
      (answered_later M c (boots c) live L body begun (settle M c (peers set c) begun) (apply_all M c settled) (answers settled second.ends))

  pub own_few : length (lead_on M set c e x) ≤ bring_events n (length L)
  own_few =
      let second : Leads M set begun (settle M c (peers set c) begun) Settles = settles begun begins.ends in
      let all : AllWith settled = second.ends.all in
      let entries : length (log_of (item begun c)) ≡ suc (length L) = ap (λ g. length (log_of g)) begins.ends.has.at ∙ (ap length begins.ends.has.leading.log_is ∙ long_own) in
      let left : unapplied (item settled c) ≡ unapplied (Some all.leader) = ap unapplied all.at in
      let d : length (apply_all M c settled) ≤ suc (length L) = omega (arith, apply_long M c settled, all.more, long_own) in
      let b = settle_long M c (peers set c) begun n (suc (length L)) (few_peers set n c most) entries in
      let r = then_long M begun (settle M c (peers set c)) (apply_all M c) in
      let f = add (length (settle M c (peers set c) begun)) (length (apply_all M c settled)) (settle_events n (suc (length L))) (suc (length L)) (length (and_then M (settle M c (peers set c)) (apply_all M c) begun)) b d r in
      one_first (length (and_then M (settle M c (peers set c)) (apply_all M c) begun)) (settle_events n (suc (length L))) (suc (length L)) f
    where
      one_first : (k p q : ℕ) → k ≤ p + q → suc k ≤ 2 + p + q
      one_first k p q h = omega arith

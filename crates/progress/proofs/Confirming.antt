-- The nodes of a majority take their leader's log, and all of it is committed by them.
use Rattle.std.proofs.Common.{◌≡◌, ℕ, zero, suc, pred, ◌+◌, ◌<◌, ◌≤◌, Bool, List, [], ◌∷◌, length, Some, refl, ap, subst, ◌∙◌, arith, inl, inr, ⊎_elim}
use Rattle.std.proofs.Math.Seq.{take-length}
use Rattle.std.proofs.lemmas.Bool.{cases_eq}
use Rattle.raft_log.specs.declared.entry.Entry.{Entry}
use Rattle.raft_log.specs.Lists.{item, item_or}
use Rattle.raft_log.specs.Logs.{last_term}
use Rattle.raft_log.specs.Node.{Node, raised}
use Rattle.raft_node.specs.Machine.{Machine}
use Rattle.agreement.specs.World.{Begins}
use Rattle.agreement.specs.Laws.{IsIn, IsMajority}
use Rattle.world_run.specs.World.{World}
use Rattle.progress.specs.Plans.{log_of, peers, exchange, rounds, catch_up, confirm, settle, times, for_each}
use Rattle.progress.proofs.Members.{Among, AreLeft, peers_left, all_peers, left_rest}
use Rattle.progress.proofs.Stepping.{Leads, leads_then, leads_more, leads_each, leads_times}
use Rattle.progress.proofs.Alike.{has_less}
use Rattle.progress.proofs.Appending.{Leading, Done, Near}
use Rattle.progress.proofs.Voting.{raised_known}
use Rattle.progress.proofs.Settling as settling

module _ (M : Machine) (set : List Bool) (n c T : ℕ) (L : List (Entry M.Body)) (boots : ℕ → ℕ) (most : ℕ) where
  abbrev OfEach : Type 1
  OfEach = ℕ → ℕ → ℕ → Node M.Body → Type 0

  abbrev OfLeader : Type 1
  OfLeader = Node M.Body → Type 0

  abbrev Stood : OfEach → ℕ → ℕ → ℕ → Node M.Body → Type 0
  Stood X j next matched t = settling.Stood M set n c T L boots most X j next matched t

  abbrev Led : OfEach → OfLeader → World M → Type 0
  Led X Y w = settling.Led M set n c T L boots most X Y w

  module _ (enough : IsMajority n set) (in_c : IsIn set c) (ends : last_term L ≡ T) (some : 1 ≤ length L) where
    -- the log is taken by each

    abbrev pub Nothing : OfLeader
    Nothing s = Unit {0}

    abbrev pub Caught : List ℕ → OfEach
    Caught js i next matched u = (Among i js → ⊥) → Done L next matched

    abbrev Nearing : ℕ → List ℕ → ℕ → OfEach
    Nearing j js m i next matched u =
        ((i ≡ j) → Near m L next matched u.log) × ((i ≡ j → ⊥) → (Among i js → ⊥) → Done L next matched)

    pub led_as : (X X' : OfEach) (Y Y' : OfLeader) (w : World M) → Led X Y w
        → ((i next matched : ℕ) (u : Node M.Body) → IsIn set i → (i ≡ c → ⊥) → Stood X i next matched u → X' i next matched u)
        → ((s : Node M.Body) → Leading n T L (boots c) most s → Y s → Y' s) → Led X' Y' w
    led_as X X' Y Y' w h f g =
        record {
          long = h.long;
          leader = h.leader;
          at = h.at;
          leading = h.leading;
          nodes = λ j in_j ne.
              let old = h.nodes j in_j ne in
              let st : Stood X j (item_or h.leader.next j 0) (item_or h.leader.matched j 0) (raised old.0 T) = old.2 in
              (old.0, old.1, record { follows = st.follows; linked = st.linked; more = f j (item_or h.leader.next j 0) (item_or h.leader.matched j 0) (raised old.0 T) in_j ne st });
          more = g h.leader h.leading h.more;
        }

    near_none : (next matched : ℕ) (P : List (Entry M.Body)) → Near 0 L next matched P → Done L next matched
    near_none next matched P (inl d) = d
    near_none next matched P (inr (inl q)) = absurd (omega (arith, q.0))
    near_none next matched P (inr (inr q)) = absurd (omega (arith, q))

    within_pred : (next : ℕ) → next ≤ suc (length L) → pred next < suc (length L)
    within_pred zero h = omega arith
    within_pred (suc next) h = h

    nearer : (j : ℕ) (js : List ℕ) → IsIn set j → (j ≡ c → ⊥) → (m : ℕ) (w : World M) → Led (Nearing j js (suc m)) Nothing w → Leads M set w (exchange M c j w) (Led (Nearing j js m) Nothing)
    nearer j js in_j ne m w h =
        settling.exchange_leads M set n c T L boots most enough in_c ends some (Nearing j js (suc m)) Nothing w h j in_j ne (Nearing j js m) Nothing
        (λ s' t' out. ((λ e. out.near m ((h.nodes j in_j ne).2.more.0 refl)), (λ nj. absurd (nj refl))))
        (λ i next matched u in_i nc nj x. ((λ e. absurd (nj e)), (λ other apart. x.1 other apart)))
        (λ s' t' out. tt)

    taken_by : (r : ℕ) → r ≡ suc (length L + length L) → (j : ℕ) (js : List ℕ) (w : World M) → AreLeft set c (j ∷ js) → Led (Caught (j ∷ js)) Nothing w
        → Leads M set w (times M r (exchange M c j) w) (Led (Caught js) Nothing)
    taken_by r e j js w left h =
        leads_more M set w (times M r (exchange M c j) w) (Led (Nearing j js 0) Nothing) (Led (Caught js) Nothing)
        (leads_times M set (exchange M c j) (λ m v. Led (Nearing j js m) Nothing v)
        (λ m v led. nearer j js (left.in_set j (inl refl)) (left.others j (inl refl)) m v led) r w
        (led_as (Caught (j ∷ js)) (Nearing j js r) Nothing Nothing w h
        (λ i next matched u in_i nc st. (
          (λ same. inr (inr (let b = within_pred next st.linked.next_high in omega arith))),
          (λ other apart. st.more (λ a. ⊎_elim other apart a)),
        ))
        (λ s l y. tt)))
        (λ v led. led_as (Nearing j js 0) (Caught js) Nothing Nothing v led
        (λ i next matched u in_i nc st. (λ apart. ⊎_elim (λ same. near_none next matched u.log (st.more.0 same)) (λ other. st.more.1 other apart) (cases_eq i j)))
        (λ s l y. tt))

    pub caught_up : (w : World M) → Led (Caught (peers set c)) Nothing w → Leads M set w (catch_up M c (peers set c) w) (Led (Caught []) Nothing)
    caught_up w h =
        let r : ℕ = rounds M c w in
        let l : length (log_of (item w c)) ≡ length L = ap (λ z. length (log_of z)) h.at ∙ ap length h.leading.log_is in
        let e : rounds M c w ≡ suc (length L + length L) = omega arith in
        leads_each M set (λ j. times M (rounds M c w) (exchange M c j)) (AreLeft set c) (λ js v. Led (Caught js) Nothing v)
        (λ j js v left led. taken_by (rounds M c w) e j js v left led)
        (λ j js left. left_rest set c j js left) (peers set c) w (peers_left set c) h

    -- and it is known that it is committed

    abbrev pub AllCommitted : OfLeader
    AllCommitted s = s.commit ≡ length L

    abbrev Confirmed : List ℕ → OfEach
    Confirmed js i next matched u = Done L next matched × ((Among i js → ⊥) → (u.commit ≡ length L) × (u.leader ≡ Some c))

    still_done : (w : World M) (X : OfEach) (Y : OfLeader) (h : Led X Y w) (j : ℕ) (in_j : IsIn set j) (ne : j ≡ c → ⊥) (s' t' : Node M.Body) → settling.Out M set n c T L boots most enough in_c ends some X Y w h j in_j ne s' t'
        → Done L (item_or h.leader.next j 0) (item_or h.leader.matched j 0) → Done L (item_or s'.next j 0) (item_or s'.matched j 0)
    still_done w X Y h j in_j ne s' t' out d = near_none (item_or s'.next j 0) (item_or s'.matched j 0) t'.log (out.near 0 (inl d))

    learns : (w : World M) (j : ℕ) → IsIn set j → (j ≡ c → ⊥) → Led (Caught []) Nothing w → Leads M set w (exchange M c j w) (Led (Caught []) AllCommitted)
    learns w j in_j ne h =
        settling.exchange_leads M set n c T L boots most enough in_c ends some (Caught []) Nothing w h j in_j ne (Caught []) AllCommitted
        (λ s' t' out apart. still_done w (Caught []) Nothing h j in_j ne s' t' out ((h.nodes j in_j ne).2.more apart))
        (λ i next matched u in_i nc nj x. x)
        (λ s' t' out. out.commits (λ i in_i nc. ((h.nodes i in_i nc).2.more (λ z. z)).0))

    tells_one : (j : ℕ) (js : List ℕ) (w : World M) → AreLeft set c (j ∷ js) → Led (Confirmed (j ∷ js)) AllCommitted w → Leads M set w (exchange M c j w) (Led (Confirmed js) AllCommitted)
    tells_one j js w left h =
        settling.exchange_leads M set n c T L boots most enough in_c ends some (Confirmed (j ∷ js)) AllCommitted w h j in_j ne (Confirmed js) AllCommitted
        (λ s' t' out. (still_done w (Confirmed (j ∷ js)) AllCommitted h j in_j ne s' t' out (h.nodes j in_j ne).2.more.0, (λ apart. (out.tells (h.nodes j in_j ne).2.more.0 h.more, out.knows))))
        (λ i next matched u in_i nc nj x. (x.0, (λ apart. x.1 (λ a. ⊎_elim nj apart a))))
        (λ s' t' out. out.stays h.more)
      where
        in_j : IsIn set j
        in_j = left.in_set j (inl refl)

        ne : j ≡ c → ⊥
        ne = left.others j (inl refl)

    -- a node has the leader's log, has all of it committed, and knows the leader
    abbrev pub Settled : OfEach
    Settled i next matched u = (u.log ≡ L) × (u.commit ≡ length L) × (u.leader ≡ Some c) × Done L next matched

    confirmed_by : (js : List ℕ) (w : World M) → (js ≡ [] → ⊥) → AreLeft set c js → ((k : ℕ) → IsIn set k → (k ≡ c → ⊥) → Among k js) → Led (Caught []) Nothing w
        → Leads M set w (confirm M c js w) (Led (Confirmed []) AllCommitted)
    confirmed_by [] w some_j left all h = absurd (some_j refl)
    confirmed_by (j ∷ js) w some_j left all h =
        leads_then M set w (exchange M c j) (for_each M (exchange M c) (j ∷ js)) (Led (Caught []) AllCommitted) (Led (Confirmed []) AllCommitted)
        (learns w j (left.in_set j (inl refl)) (left.others j (inl refl)) h)
        (λ v led. leads_each M set (exchange M c) (AreLeft set c) (λ ks x. Led (Confirmed ks) AllCommitted x)
        (λ k ks x l i. tells_one k ks x l i) (λ k ks l. left_rest set c k ks l) (j ∷ js) v left
        (led_as (Caught []) (Confirmed (j ∷ js)) AllCommitted AllCommitted v led
        (λ i next matched u in_i nc st. (st.more (λ z. z), (λ apart. absurd (apart (all i in_i nc))))) (λ s l y. y)))

    pub settled_by : (peers set c ≡ [] → ⊥) → (w : World M) → Led (Caught (peers set c)) Nothing w → Leads M set w (settle M c (peers set c) w) (Led Settled AllCommitted)
    settled_by some_peer w h =
        leads_then M set w (catch_up M c (peers set c)) (confirm M c (peers set c)) (Led (Caught []) Nothing) (Led Settled AllCommitted)
        (caught_up w h)
        (λ v led. leads_more M set v (confirm M c (peers set c) v) (Led (Confirmed []) AllCommitted) (Led Settled AllCommitted)
        (confirmed_by (peers set c) v some_peer (peers_left set c) (λ k in_k nc. all_peers set c k in_k nc) led)
        (λ x done. led_as (Confirmed []) Settled AllCommitted AllCommitted x done
        (λ i next matched u in_i nc st. (whole u st, (st.more.1 (λ z. z)).0, (st.more.1 (λ z. z)).1, st.more.0)) (λ s l y. y)))
      where
        whole : {next matched i : ℕ} (u : Node M.Body) → Stood (Confirmed []) i next matched u → u.log ≡ L
        whole {matched = matched} u st =
            st.follows.short
            (subst (λ z. Begins z u.log) (take-length L)
            (has_less matched (length L) u.log L st.more.0.0 st.linked.matched_in st.linked.matched_has))

    -- each is in this state now
    pub settled_node : (w : World M) (h : Led Settled AllCommitted w) (j : ℕ) → IsIn set j → (j ≡ c → ⊥)
        → (t : Node M.Body) × (item w j ≡ Some t) × Stood Settled j (item_or h.leader.next j 0) (item_or h.leader.matched j 0) t
    settled_node w h j in_j ne =
        let old = h.nodes j in_j ne in
        let st : Stood Settled j (item_or h.leader.next j 0) (item_or h.leader.matched j 0) (raised old.0 T) = old.2 in
        (old.0, old.1, subst (λ z. Stood Settled j (item_or h.leader.next j 0) (item_or h.leader.matched j 0) z) (raised_known old.0 T c st.more.2) st)

-- A cell after a restart: the view's state is the node's again.
use Rattle.std.proofs.Common.{◌≡◌, ℕ, suc, ◌+◌, ◌-◌, ◌≤◌, ◌⊎◌, inl, inr, ⊎_elim, Bool, true, false, List, [], ◌∷◌, ◌++◌, map, length, None, Ok, refl, sym, ap, ◌∙◌, subst, arith}
use Rattle.std.specs.Prelude.{◌↔◌, ◌||◌, not, IsTrue, min}
use Rattle.std.proofs.Math.Nat.{min-eq_left}
use Rattle.raft_log.specs.declared.message.Message.{Message}
use Rattle.raft_log.specs.Node.{Node, is_leader}
use Rattle.raft_log.specs.Seen.{seen}
use Rattle.stable_store.specs.declared.saved.Saved.{Saved}
use Rattle.stable_store.specs.Stores.{IsHonest, Serves}
use Rattle.raft_node.specs.Machine.{Machine}
use Rattle.raft_node.specs.Parts.{Holds, Keeper, saved_by, size_of}
use Rattle.raft_node.specs.Starting.{Begins, MayHaveStood, begun}
use Rattle.raft_node.specs.Stepping.{turned}
use Rattle.raft_node.specs.Steps.{stopped, turn}
use Rattle.raft_node.specs.Steps as steps
use Rattle.world_views.specs.declared.node_event.NodeEvent.TheVariants.{Does, Restart, StopIn}
use Rattle.world_views.specs.Inputs.{NodeInput}
use Rattle.world_views.specs.Own.{EventOf, TurnOf, act_of, own_out, own_state, run}
use Rattle.world_views.proofs.Runs.{run-append}
use Rattle.node_cells.specs.declared.phase.Phase.{Phase}
use Rattle.node_cells.specs.declared.phase.Phase.TheVariants.{Up, DownInTurn, DownInTurns, DownInRestart}
use Rattle.node_cells.specs.Books.{NotedOf, turn_in}
use Rattle.node_cells.specs.Cells.{AreTogether, IsCell, IsIn, IsLater, Shows, Stands, after_input, after_inputs, view_in}
use Rattle.node_cells.specs.Inputs.{Answer, OnlyAppend}
use Rattle.node_cells.specs.Restarts.{AreNoted, AreRestarts, IsAlone, firsts_of, stops_after, stops_before}
use Rattle.node_cells.specs.Sending.{terms_of}
use Rattle.node_cells.specs.Turns.{CellOf}
use Rattle.node_cells.proofs.Appending.{all_append, appended_tells, one_appends}
use Rattle.node_cells.proofs.Showing.{Inner, acted_here, saved_after}

module _ {B : Type 0} where
  -- the run that begins with something saved
  abbrev pub begins_at : ℕ → Saved B → List (Message B) → Node B
  begins_at n v sent = begun n v sent

  up_by : Saved B → ℕ → Saved B
  up_by v r = record v { boot = v.boot + r }

  -- if what was saved is the old except for the boots
  stands_as : (v w : Saved B) (r : ℕ) → w.term ≡ v.term → w.vote ≡ v.vote → w.log ≡ v.log → w.boot ≡ v.boot + r → up_by v r ≡ w
  unfolding up_by
  stands_as v w r term vote log boot = λ d. record { boot = sym boot d; term = sym term d; vote = sym vote d; log = sym log d }

-- lists of one item
pub same_item : {A : Type 0} (x y : A) → x ∷ [] ≡ y ∷ [] → x ≡ y
same_item x y h = cc h

module _ (M : Machine) where
  first_state : (n i : ℕ) (s : Node M.Body) → own_state M n i s Restart ≡ begins_at n (saved_by s) s.sent
  unfolding own_state
  first_state n i s = refl

  before_state : (n i : ℕ) (s : Node M.Body) (x : NodeInput M.Body M.Line) → own_state M n i s (StopIn x false) ≡ begins_at n (saved_by s) s.sent
  unfolding own_state
  before_state n i s x = refl

  after_state : (n i : ℕ) (s : Node M.Body) (x : NodeInput M.Body M.Line) → own_state M n i s (StopIn x true) ≡ begins_at n (saved_by (own_state M n i s (Does x))) s.sent
  unfolding own_state
  after_state n i s x = refl

  again_state : (n i : ℕ) (v : Saved M.Body) (sent : List (Message M.Body)) → own_state M n i (begins_at n v sent) Restart ≡ begins_at n (record v { boot = suc v.boot }) sent
  unfolding own_state
  again_state n i v sent = refl

  restarts_run : (n i : ℕ) (v : Saved M.Body) (sent : List (Message M.Body)) (ts : List (TurnOf M)) → AreRestarts ts → run M n i (begins_at n v sent) ts ≡ begins_at n (up_by v (length ts)) sent
  unfolding up_by
  restarts_run n i v sent [] h = let z : v.boot ≡ v.boot + 0 = omega arith in ap (λ (b : ℕ). begins_at n (record v { boot = b }) sent) z
  restarts_run n i v sent (t ∷ ts) h =
      let z : suc v.boot + length ts ≡ v.boot + suc (length ts) = omega arith in
      ap (λ (e : EventOf M). run M n i (own_state M n i (begins_at n v sent) e) ts) h.0
      ∙ ap (λ (a : Node M.Body). run M n i a ts) (again_state n i v sent)
      ∙ restarts_run n i (record v { boot = suc v.boot }) sent ts h.1
      ∙ ap (λ (b : ℕ). begins_at n (record v { boot = b }) sent) z

  the_event : (e f : EventOf M) (a b : Answer) → ◌≡◌ {A = List (EventOf M × Answer)} ((e, a) ∷ []) ((f, b) ∷ []) → e ≡ f
  the_event e f a b h = let p : EventOf M × Answer = (e, a) in let q : EventOf M × Answer = (f, b) in ap (λ (z : EventOf M × Answer). z.0) (same_item p q h)

  -- nothing comes out of what a restart publishes
  pub first_out : (n i : ℕ) (s : Node M.Body) (p : Phase M.Body M.Line M.Target) (same : Bool) (e : EventOf M) → IsAlone p → firsts_of p same ≡ (e, Ok tt) ∷ [] → steps.Quiet ≡ own_out M n i s e
  unfolding own_out
  first_out n i s Up same e alone h = ap (λ (f : EventOf M). own_out M n i s f) (the_event Restart e (Ok tt) (Ok tt) h)
  first_out n i s (DownInTurn x copy done) same e alone h = ap (λ (f : EventOf M). own_out M n i s f) (the_event (StopIn x (done || not same)) e (Ok tt) (Ok tt) h)
  first_out n i s (DownInTurns inputs copies answers) same e alone h = absurd alone
  first_out n i s DownInRestart same e alone h = ap (λ (f : EventOf M). own_out M n i s f) (the_event Restart e (Ok tt) (Ok tt) h)

  -- one event alone
  one_run : (n i : ℕ) (s : Node M.Body) (e : EventOf M) (a : Answer) (first : List (NotedOf M)) → AreNoted M ((e, a) ∷ []) first → run M n i s (map (turn_in M) first) ≡ own_state M n i s e
  one_run n i s e a [] h = absurd h
  one_run n i s e a (t ∷ []) h = ap (λ (f : EventOf M). own_state M n i s f) h.0
  one_run n i s e a (t ∷ u ∷ first) h = absurd h.2

  -- a stop in the first of some inputs, before that was saved
  before_run : (n i : ℕ) (s : Node M.Body) (xs : List (NodeInput M.Body M.Line)) (first : List (NotedOf M)) → 1 ≤ length xs → AreNoted M (stops_before xs) first
      → run M n i s (map (turn_in M) first) ≡ begins_at n (saved_by s) s.sent
  before_run n i s [] first some h = absurd (omega (arith, some))
  before_run n i s (x ∷ xs) first some h = one_run n i s (StopIn x false) (Ok tt) first h ∙ before_state n i s x

  -- a stop in the last of some inputs that only append, after all were saved
  after_run : (n i : ℕ) (s : Node M.Body) (xs : List (NodeInput M.Body M.Line)) (answers : List Answer) (first : List (NotedOf M)) → is_leader s.role ≡ true → OnlyAppend xs → 1 ≤ length xs
      → length answers ≡ length xs → AreNoted M (stops_after xs answers) first → run M n i s (map (turn_in M) first) ≡ begins_at n (saved_by (after_inputs M n i s xs)) s.sent
  after_run n i s [] answers first leads appends some many h = absurd (omega (arith, some))
  after_run n i s (x ∷ xs) [] first leads appends some many h = absurd (cc many)
  after_run n i s (x ∷ []) (a ∷ answers) first leads appends some many h = one_run n i s (StopIn x true) (Ok tt) first h ∙ after_state n i s x
  after_run n i s (x ∷ y ∷ xs) (a ∷ answers) [] leads appends some many h = absurd h
  after_run n i s (x ∷ y ∷ xs) (a ∷ answers) (t ∷ first) leads appends some many h =
      let s' : Node M.Body = after_input M n i s x in
      let one = one_appends M n i s x leads (appends.0, tt) in
      ap (λ (e : EventOf M). run M n i (own_state M n i s e) (map (turn_in M) first)) h.0
      ∙ after_run n i s' (y ∷ xs) answers first one.leads appends.1 (omega arith) (let e : suc (length answers) ≡ suc (length (y ∷ xs)) = many in omega (arith, e)) h.2
      ∙ ap (λ (l : List (Message M.Body)). begins_at n (saved_by (after_inputs M n i s' (y ∷ xs))) l) one.sent

-- the run that is left begins with this, given what was saved; the memory had the same boot
record Starts {B : Type 0} (n : ℕ) (first : Node B) (sent : List (Message B)) (boot : ℕ) (v : Saved B) (r : ℕ) : Type 0 where
  k : Saved B
  is : first ≡ begins_at n k sent
  later : IsLater r k v
  from : k.boot ≡ boot

module _ (M : Machine) {Setup Hosted Store U : Type 0} (k : Keeper Store M.Body) where
  -- The node of a cell that was down, or up, began its next run with what was saved, v. It is known whether v has the
  -- terms of its memory.
  module _ (c : CellOf M Setup Hosted Store U) (h : IsCell M k c) (sure : (s : Store) (w : Saved M.Body) → Serves (k.condition s) → k.may_stand s w ↔ (w ≡ k.saved s))
      (holds : c.node.down ≡ None → Holds k c.node.store c.node.state) (honest : (view_in c).honest ≡ true) where
    abbrev s : Node M.Body
    s = (view_in c).state

    abbrev n : ℕ
    n = (view_in c).size

    abbrev i : ℕ
    i = suc (view_in c).node

    is_honest : IsHonest (k.condition c.node.store)
    is_honest = sym h.honest ∙ honest

    -- what the store of a node that is up may hold is what is saved of it
    pub up_stands : c.node.down ≡ None → IsIn c.node.state s → Stands k c.node.store 0 (saved_by s)
    up_stands up here w stands =
        let held = holds up is_honest in
        let is : w ≡ saved_by s = (sure c.node.store w held.0).0 stands ∙ held.1 ∙ ap saved_by here in
        let boot : w.boot ≡ s.boot = ap (λ (z : Saved M.Body). z.boot) is in
        record {
          term = ap (λ (z : Saved M.Body). z.term) is;
          vote = ap (λ (z : Saved M.Body). z.vote) is;
          log = ap (λ (z : Saved M.Body). z.log) is;
          low = omega (arith, boot);
          high = omega (arith, boot);
        }

    -- the boot of the state after an input
    same_boot : IsIn c.node.state s → (x : NodeInput M.Body M.Line) → (after_input M n i s x).boot ≡ c.node.state.standing.boot
    same_boot here x = ap (λ (z : Saved M.Body). z.boot) (saved_after M k c h s here x) ∙ (acted_here M k c h (act_of M x)).boot

    abbrev Told : Bool → Saved M.Body → Type 0
    Told same v =
        IsTrue same ↔ (c.node.state.standing.term ≡ v.term) × (c.node.state.standing.vote ≡ v.vote) × (terms_of c.node.state.log ≡ terms_of v.log)

    abbrev StartsAt : List (NotedOf M) → Saved M.Body → Type 0
    StartsAt first v = Starts n (run M n i s (map (turn_in M) first)) s.sent c.node.state.standing.boot v c.refused

    -- what was saved before the turn, if the store has the terms of the memory
    as_before : IsIn c.node.state s → (x : NodeInput M.Body M.Line) (v : Saved M.Body) → (c.node.state.standing.term ≡ v.term) × (c.node.state.standing.vote ≡ v.vote) × (terms_of c.node.state.log ≡ terms_of v.log)
        → IsLater c.refused (saved_by s) v ⊎ IsLater c.refused (saved_by (after_input M n i s x)) v → IsLater c.refused (saved_by s) v
    as_before here x v told (inl l) = l
    as_before here x v told (inr l) =
        let a = acted_here M k c h (act_of M x) in
        let after = saved_after M k c h s here x in
        let terms : terms_of (turned M (act_of M x) c.node []).node.log ≡ terms_of c.node.state.log = ap (λ (z : Saved M.Body). terms_of z.log) (sym after) ∙ ap terms_of (sym l.log) ∙ sym told.2 in
        let log : v.log ≡ s.log = l.log ∙ ap (λ (z : Saved M.Body). z.log) after ∙ a.told terms ∙ ap (λ (z : Node M.Body). z.log) here in
        let boot : (after_input M n i s x).boot ≡ s.boot = same_boot here x ∙ ap (λ (z : Node M.Body). z.boot) here in
        record {
          term = sym told.0 ∙ ap (λ (z : Node M.Body). z.term) here;
          vote = sym told.1 ∙ ap (λ (z : Node M.Body). z.vote) here;
          log = log;
          low = let b = l.low in omega (arith, b, boot);
          high = let b = l.high in omega (arith, b, boot);
        }

    -- what was saved before turns that only appended, so too
    all_as_before : IsIn c.node.state s → is_leader s.role ≡ true → (xs : List (NodeInput M.Body M.Line)) → OnlyAppend xs → (v : Saved M.Body)
        → (c.node.state.standing.term ≡ v.term) × (c.node.state.standing.vote ≡ v.vote) × (terms_of c.node.state.log ≡ terms_of v.log)
        → IsLater c.refused (saved_by s) v ⊎ IsLater c.refused (saved_by (after_inputs M n i s xs)) v → IsLater c.refused (saved_by s) v
    all_as_before here leads xs appends v told (inl l) = l
    all_as_before here leads xs appends v told (inr l) =
        let a = all_append M n i xs s leads appends in
        let terms : terms_of (after_inputs M n i s xs).log ≡ terms_of s.log = ap terms_of (sym l.log) ∙ sym told.2 ∙ ap (λ (z : Node M.Body). terms_of z.log) here in
        let boot : (after_inputs M n i s xs).boot ≡ s.boot = a.boot in
        record {
          term = sym told.0 ∙ ap (λ (z : Node M.Body). z.term) here;
          vote = sym told.1 ∙ ap (λ (z : Node M.Body). z.vote) here;
          log = l.log ∙ appended_tells s (after_inputs M n i s xs) a terms;
          low = let b = l.low in omega (arith, b, boot);
          high = let b = l.high in omega (arith, b, boot);
        }

    -- the store does not hold what the node had in memory
    differs : IsIn c.node.state s → (v : Saved M.Body) → Told false v → IsLater c.refused (saved_by s) v → ⊥
    differs here v told old =
        let t : false ≡ true = told.1 (
          ap (λ (z : Node M.Body). z.term) here ∙ sym old.term,
          ap (λ (z : Node M.Body). z.vote) here ∙ sym old.vote,
          ap (λ (z : Node M.Body). terms_of z.log) here ∙ ap terms_of (sym old.log),
        ) in
        cc t

    starts : (p : Phase M.Body M.Line M.Target) (same : Bool) (v : Saved M.Body) (first : List (NotedOf M)) → Shows M k n i s p c.refused c.node → AreTogether p → (p ≡ Up → c.refused ≡ 0) → k.may_stand c.node.store v → Told same v
        → AreNoted M (firsts_of p same) first → StartsAt first v
    starts Up same v first shows all none stands told noted =
        record {
          k = saved_by s;
          is = one_run M n i s Restart (Ok tt) first noted ∙ first_state M n i s;
          later = subst (λ (r : ℕ). IsLater r (saved_by s) v) (sym (none refl)) (up_stands shows.1 shows.0 v stands);
          from = sym (ap (λ (z : Node M.Body). z.boot) shows.0);
        }
    starts DownInRestart same v first shows all none stands told noted =
        record {
          k = saved_by s;
          is = one_run M n i s Restart (Ok tt) first noted ∙ first_state M n i s;
          later = shows.1 v stands;
          from = sym (ap (λ (z : Node M.Body). z.boot) shows.0);
        }
    starts (DownInTurn x copy true) same v first shows all none stands told noted =
        record {
          k = saved_by (after_input M n i s x);
          is = one_run M n i s (StopIn x true) (Ok tt) first noted ∙ after_state M n i s x;
          later = shows.1 v stands;
          from = sym (ap (λ (z : Node M.Body). z.boot) shows.0);
        }
    starts (DownInTurn x copy false) true v first shows all none stands told noted =
        record {
          k = saved_by s;
          is = one_run M n i s (StopIn x false) (Ok tt) first noted ∙ before_state M n i s x;
          later = as_before shows.0 x v (told.0 refl) (shows.1 v stands);
          from = sym (ap (λ (z : Node M.Body). z.boot) shows.0);
        }
    starts (DownInTurn x copy false) false v first shows all none stands told noted =
        record {
          k = saved_by (after_input M n i s x);
          is = one_run M n i s (StopIn x true) (Ok tt) first noted ∙ after_state M n i s x;
          later = ⊎_elim (λ (old : IsLater c.refused (saved_by s) v). absurd (differs shows.0 v told old)) (λ new. new) (shows.1 v stands);
          from = same_boot shows.0 x;
        }
    starts (DownInTurns inputs copies answers) true v first shows all none stands told noted =
        record {
          k = saved_by s;
          is = before_run M n i s inputs.items first all.0 noted;
          later = all_as_before shows.0 shows.2 inputs.items all.2 v (told.0 refl) (shows.1 v stands);
          from = sym (ap (λ (z : Node M.Body). z.boot) shows.0);
        }
    starts (DownInTurns inputs copies answers) false v first shows all none stands told noted =
        record {
          k = saved_by (after_inputs M n i s inputs.items);
          is = after_run M n i s inputs.items answers.items first shows.2 all.2 all.0 all.1 noted;
          later = ⊎_elim (λ (old : IsLater c.refused (saved_by s) v). absurd (differs shows.0 v told old)) (λ new. new) (shows.1 v stands);
          from = (all_append M n i inputs.items s shows.2 all.2).boot ∙ sym (ap (λ (z : Node M.Body). z.boot) shows.0);
        }

    -- After the first events, and one more restart for each further run that was begun, the view's state is the node's.
    pub restart_shows : (q : Inner M Setup Hosted Store) (same : Bool) (first : List (NotedOf M)) (ts : List (TurnOf M)) → (b : Begins (size_of c.node.state) (MayHaveStood k c.node.store) q.state)
        → AreNoted M (firsts_of c.phase same) first → AreRestarts ts → length ts ≡ min (q.state.standing.boot - c.node.state.standing.boot - 1) c.refused → Told same b.0
        → (let t : Node M.Body = run M n i s (map (turn_in M) first ++ ts) in IsIn q.state t × (t.sent ≡ s.sent))
    restart_shows q same first ts b noted all long told =
        let v : Saved M.Body = b.0 in
        let st = starts c.phase same v first (h.shows honest) h.together h.refused (b.1 is_honest) told noted in
        let now : seen q.state s.sent ≡ begun (size_of c.node.state) v s.sent = b.2 s.sent in
        let boot : q.state.standing.boot ≡ suc v.boot = ap (λ (z : Node M.Body). z.boot) now in
        let low = st.later.low in
        let high = st.later.high in
        let from = st.from in
        let many : length ts ≡ v.boot - st.k.boot = long ∙ (let e : q.state.standing.boot - c.node.state.standing.boot - 1 ≤ c.refused = omega arith in min-eq_left e ∙ omega arith) in
        let sum : v.boot ≡ st.k.boot + length ts = omega arith in
        let is : run M n i s (map (turn_in M) first ++ ts) ≡ begins_at n v s.sent =
        run-append M n i s (map (turn_in M) first) ts
        ∙ ap (λ (a : Node M.Body). run M n i a ts) st.is ∙ restarts_run M n i st.k s.sent ts all
        ∙ ap (λ (z : Saved M.Body). begins_at n z s.sent) (stands_as st.k v (length ts) st.later.term st.later.vote st.later.log sum) in
        let size : n ≡ size_of c.node.state = h.book.opened.0.many ∙ sym h.size in
        let whole : run M n i s (map (turn_in M) first ++ ts) ≡ seen q.state s.sent = is ∙ ap (λ (m : ℕ). begins_at m v s.sent) size ∙ sym now in
        (subst (λ (z : Node M.Body). IsIn q.state z) (sym whole) refl, ap (λ (z : Node M.Body). z.sent) whole)

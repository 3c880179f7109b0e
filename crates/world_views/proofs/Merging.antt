-- The merging law: from the three clauses, by induction on tickets, over the worlds.
use Rattle.std.proofs.Common.{◌≡◌, ◌≢◌, ℕ, zero, suc, ◌+◌, ◌<◌, ◌≤◌, inr, ⊎_elim, Bool, cond, List, [], ◌∷◌, ◌++◌, map, length, set, Option, Some, None, refl, sym, ap, ◌∙◌, subst, arith, append-nil, eq-eqb, ne_eqb, le_refl}
use Rattle.std.proofs.lemmas.List.{map-append}
use mathlib.Core.Option.{some, some-injective, some-ne-none}
use lib.ListN.{get_elem?, length-map}
use native.Mathlib.Decide.{ℕ_discrete}
use mathlib.Core.Logic.{dite}
use Rattle.raft_log.specs.declared.message.Message.{Message}
use Rattle.raft_log.specs.Lists.{item}
use Rattle.raft_log.specs.Node.{Node}
use Rattle.raft_node.specs.Machine.{Machine}
use Rattle.world_views.specs.declared.envelope.Envelope.{Envelope}
use Rattle.world_views.specs.Views.{sender, brings, upto, RisesFrom, start_from, OpenedAt}
use Rattle.world_views.specs.Own.{EventOf, TurnOf, ViewOf, own_state, run, runs, state_at}
use Rattle.world_views.specs.Rule.{IsRule, AreHonest}
use Rattle.world_views.specs.Merged.{PlacedOf, MayBring, Leads, still, on, turns_of, turn_of, AreInOrder, start_in, end_from, end_in, IsMerged}
use Rattle.world_views.proofs.Places.{at_map, at_snoc}
use Rattle.world_views.proofs.Tickets.{upto_all, upto_zero, upto_skips, upto_gains, rises_of, opened_before, order_snoc, turns-append}
use Rattle.world_views.proofs.Runs.{run-append}

module _ {A C : Type 0} where
  same_worlds : (f g : A → C) (xs : List A) → ((i : ℕ) (x : A) → get_elem? xs i ≡ some x → f x ≡ g x) → map f xs ≡ map g xs
  same_worlds f g [] e = refl
  same_worlds f g (x ∷ xs) e = λ d. e 0 x refl d ∷ same_worlds f g xs (λ i y h. e (suc i) y h) d

  one_moves : (f g : A → C) (xs : List A) (i : ℕ) (p : A) (x : C) → get_elem? xs i ≡ some p → g p ≡ x → ((j : ℕ) (q : A) → get_elem? xs j ≡ some q → j ≢ i → g q ≡ f q) → map g xs ≡ set (map f xs) i x
  one_moves f g [] i p x at here there = absurd (some-ne-none p (sym at))
  one_moves f g (q ∷ qs) zero p x at here there = λ d. (ap g (some-injective q p at) ∙ here) d ∷ same_worlds g f qs (λ j r h. there (suc j) r h (λ z. omega arith)) d
  one_moves f g (q ∷ qs) (suc i) p x at here there = λ d. there 0 q refl (λ z. omega arith) d ∷ one_moves f g qs i p x at here (λ j r h ne. there (suc j) r h (λ z. ne (omega arith))) d

module _ (M : Machine) where
  abbrev state_in : (ℕ → Node M.Body) → ℕ → ViewOf M → Node M.Body
  state_in idle d v = runs M v (start_in idle v) (upto d v.turns)

  -- what holds for a node holds for it whatever it would be if it were not opened
  moved : (n i : ℕ) (o : Option (ℕ × Node M.Body)) (s t : Node M.Body) (ts : List (TurnOf M)) (d k : ℕ) (m : Message M.Body) → RisesFrom o ts → (start_from s o).sent ≡ []
      → item (run M n i (start_from s o) (upto d ts)).sent k ≡ Some m → item (run M n i (start_from t o) (upto d ts)).sent k ≡ Some m
  moved n i None s t ts d k m r fresh h =
      absurd (item_none k m (subst (λ (l : List (Message M.Body)). item l k ≡ Some m) (ap (λ (us : List (TurnOf M)). (run M n i s (upto d us)).sent) r ∙ fresh) h))
    where
      item_none : (k : ℕ) (m : Message M.Body) → item [] k ≡ Some m → ⊥
      item_none zero m h = cc h
      item_none (suc k) m h = cc h
  moved n i (Some b) s t ts d k m r fresh h = h

  ends : (n i : ℕ) (o : Option (ℕ × Node M.Body)) (s t : Node M.Body) (ts : List (TurnOf M)) → RisesFrom o ts → t ≡ run M n i (start_from t o) ts → run M n i (start_from s o) ts ≡ end_from s t o
  ends n i None s t ts r is = ap (run M n i s) r
  ends n i (Some b) s t ts r is = sym is

  module _ (n next : ℕ) (views : List (ViewOf M)) (a : IsRule M n next views) (honest : AreHonest M views) (idle : ℕ → Node M.Body) where
    record Reaches (d : ℕ) : Type 0 where
      events : List (PlacedOf M)
      leads : Leads M (map (start_in idle) views) events (map (state_in idle d) views)
      each : (i : ℕ) (v : ViewOf M) → get_elem? views i ≡ some v → turns_of i events ≡ upto d v.turns
      order : AreInOrder (map turn_of events)
      below : (k t : ℕ) (e : EventOf M) → get_elem? (map turn_of events) k ≡ some (t, e) → t < d

    reaches_first : Reaches 0
    reaches_first = record {
      events = [];
      leads = subst (Leads M (map (start_in idle) views) []) (same_worlds (start_in idle) (state_in idle 0) views (λ i v _. ap (runs M v (start_in idle v)) (sym (upto_zero v.turns)))) still;
      each = λ i v _. sym (upto_zero v.turns);
      order = tt;
      below = λ k t e h. absurd (some-ne-none (t, e) (sym h));
    }

    in_world : (i d k : ℕ) (m : Message M.Body) (v : ViewOf M) → get_elem? views i ≡ some v → item (state_at M d v).sent k ≡ Some m → item (state_in idle d v).sent k ≡ Some m
    in_world i d k m v at h = moved v.size (suc v.node) v.opened v.state (idle v.node) v.turns d k m (a.tickets.rises i v at) (a.own i v at).fresh h

    may_bring : (d i k : ℕ) (v : ViewOf M) (e : EventOf M) → get_elem? views i ≡ some v → get_elem? v.turns k ≡ some (d, e) → (o : Option (Envelope M.Body)) → brings e ≡ o → MayBring M (map (state_in idle d) views) i o
    may_bring d i k v e at h None b = tt
    may_bring d i k v e at h (Some m) b =
        let r = a.messages.delivered i k d v e m at h b in let s = r.0 in
        (r.1, s.named, (state_in idle d s.by, at_map (state_in idle d) views (sender m) s.by s.at, in_world (sender m) d m.number m.message s.by s.at (s.sent (honest (sender m) s.by s.at))))

    -- the ticket d is an opening: nothing happens
    passes : (d : ℕ) (v : ViewOf M) → get_elem? views (a.tickets.who d) ≡ some v → OpenedAt v.opened d → Reaches d → Reaches (d + 1)
    passes d v at o r =
        let skips : (i : ℕ) (q : ViewOf M) → get_elem? views i ≡ some q → upto (d + 1) q.turns ≡ upto d q.turns = (λ i q at_q. upto_skips d q.turns (λ k x h.
        let one = a.tickets.once i d q at_q (inr (k, x, h)) in let same : v ≡ q = some-injective v q (sym at ∙ subst (λ (j : ℕ). get_elem? views j ≡ some q) (sym one.1) at_q) in
        opened_before q.opened q.turns d k x (a.tickets.rises i q at_q) (subst (λ (y : ViewOf M). OpenedAt y.opened d) same o) h)) in
        record {
          events = r.events;
          leads = subst (Leads M (map (start_in idle) views) r.events) (same_worlds (state_in idle d) (state_in idle (d + 1)) views (λ i q at_q. ap (runs M q (start_in idle q)) (sym (skips i q at_q)))) r.leads;
          each = λ i q at_q. r.each i q at_q ∙ sym (skips i q at_q);
          order = r.order;
          below = λ k t e h. let lt = r.below k t e h in omega arith;
        }

    -- the ticket d is an event of one node
    steps : (d k : ℕ) (v : ViewOf M) (e : EventOf M) → get_elem? views (a.tickets.who d) ≡ some v → get_elem? v.turns k ≡ some (d, e) → Reaches d → Reaches (d + 1)
    steps d k v e at h r =
        let i : ℕ = a.tickets.who d in let from = rises_of v.opened v.turns k (d, e) (a.tickets.rises i v at) h in
        let gains : upto (d + 1) v.turns ≡ upto d v.turns ++ (d, e) ∷ [] = upto_gains from.0 d v.turns k e from.1 h in
        let skips : (j : ℕ) (q : ViewOf M) → get_elem? views j ≡ some q → j ≢ i → upto (d + 1) q.turns ≡ upto d q.turns =
        (λ j q at_q ne. upto_skips d q.turns (λ l x g. ne (sym (a.tickets.once j d q at_q (inr (l, x, g))).1))) in
        let w : List (Node M.Body) = map (state_in idle d) views in
        let sized : v.size ≡ length w = (a.placed i v at).1 ∙ sym a.sized ∙ sym (length-map views (state_in idle d)) in
        let after : state_in idle (d + 1) v ≡ own_state M (length w) (suc i) (state_in idle d v) e =
        ap (runs M v (start_in idle v)) gains ∙ run-append M v.size (suc v.node) (start_in idle v) (upto d v.turns) ((d, e) ∷ []) ∙ (λ z. own_state M (sized z) (suc ((a.placed i v at).0 z)) (state_in idle d v) e) in
        record {
          events = r.events ++ (i, (d, e)) ∷ [];
          leads = on (i, (d, e)) r.leads (
            may_bring d i k v e at h (brings e) refl,
            (
              state_in idle d v,
              at_map (state_in idle d) views i v at,
              one_moves (state_in idle d) (state_in idle (d + 1)) views i v (own_state M (length w) (suc i) (state_in idle d v) e) at after (λ j q at_q ne. ap (runs M q (start_in idle q)) (skips j q at_q ne)),
            ),
          );
          each = λ j q at_q. turns-append j r.events ((i, (d, e)) ∷ []) ∙ dite (ℕ_discrete j i)
              (λ (same : j ≡ i). let is : v ≡ q = some-injective v q (sym at ∙ subst (λ (x : ℕ). get_elem? views x ≡ some q) same at_q) in
              ap (λ (b : Bool). turns_of j r.events ++ cond b ((d, e) ∷ []) []) (eq-eqb i j (sym same)) ∙ ap (λ (l : List (TurnOf M)). l ++ (d, e) ∷ []) (r.each j q at_q)
              ∙ sym (subst (λ (x : ViewOf M). upto (d + 1) x.turns ≡ upto d x.turns ++ (d, e) ∷ []) is gains))
              (λ ne. ap (λ (b : Bool). turns_of j r.events ++ cond b ((d, e) ∷ []) []) (ne_eqb i j (λ z. ne (sym z))) ∙ append-nil (turns_of j r.events) ∙ r.each j q at_q ∙ sym (skips j q at_q ne));
          order = subst AreInOrder (sym (map-append turn_of r.events ((i, (d, e)) ∷ []))) (order_snoc (map turn_of r.events) d e r.order r.below);
          below = λ l t x g. ⊎_elim (λ old. let lt = r.below l t x old in omega arith) (λ (new : (d, e) ≡ (t, x)). let same : d ≡ t = ap (λ (y : TurnOf M). y.0) new in omega arith)
              (at_snoc (map turn_of r.events) (d, e) (t, x) l (subst (λ (ts : List (TurnOf M)). get_elem? ts l ≡ some (t, x)) (map-append turn_of r.events ((i, (d, e)) ∷ [])) g));
        }

    reaches : (d : ℕ) → d ≤ next → Reaches d
    reaches zero le = reaches_first
    reaches (suc d) le =
        let r = a.tickets.drawn d (omega arith) in let before = reaches d (omega arith) in let is : d + 1 ≡ suc d = omega arith in
        subst Reaches is (⊎_elim (λ o. passes d r.0 r.1 o before) (λ (x : (k : ℕ) × (e : EventOf M) × (get_elem? r.0.turns k ≡ some (d, e))). steps d x.0 r.0 x.1 r.1 x.2 before) r.2)

    -- one list of events leads from the nodes as they were opened to the nodes' states, and each node's events in it are its record
    pub merges : (es : List (PlacedOf M)) × IsMerged M idle views es
    merges =
        let r = reaches next (le_refl next) in
        let whole : (i : ℕ) (v : ViewOf M) → get_elem? views i ≡ some v → upto next v.turns ≡ v.turns = (λ i v at. upto_all next v.turns (λ k t x h. (a.tickets.once i t v at (inr (k, x, h))).0)) in (
          r.events,
          record {
            leads = subst (Leads M (map (start_in idle) views) r.events)
                (same_worlds (state_in idle next) (end_in idle) views
                (λ i v at. ap (runs M v (start_in idle v)) (whole i v at) ∙ ends v.size (suc v.node) v.opened (idle v.node) v.state v.turns (a.tickets.rises i v at) (a.own i v at).state))
                r.leads;
            in_order = r.order;
            records = λ i v at. r.each i v at ∙ whole i v at;
          },
        )

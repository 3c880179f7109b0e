-- From the openings to one history of the group, and so to one list of committed entries.
use Rattle.std.proofs.Common.{◌≡◌, ℕ, zero, suc, ◌+◌, ◌<◌, List, [], ◌∷◌, ◌++◌, map, length, set, take, drop, replicate, Option, Some, None, refl, sym, ap, ◌∙◌, subst, arith, append_assoc, take_all, length-append, le_refl, take-append-drop, ◌⊎◌}
use Rattle.std.specs.Prelude.{slice_get}
use Rattle.std.proofs.Math.ListN.{length-replicate}
use Rattle.std.proofs.Math.Seq.{take-append-add}
use Rattle.std.proofs.lemmas.List.{take-map}
use mathlib.Core.Option.{some, some-injective, some-ne-none}
use lib.ListN.{get_elem?, length-map}
use Rattle.raft_log.specs.declared.entry.Entry.{Entry}
use Rattle.raft_log.specs.Lists.{item, range_from}
use Rattle.raft_log.specs.Node.{Node}
use Rattle.raft_node.specs.Machine.{Machine}
use Rattle.raft_node.specs.Raft.{newborn, restarted}
use Rattle.raft_node.specs.Sound.{sent_first}
use Rattle.raft_node.specs.Steps.{Own}
use Rattle.raft_node.proofs.Items.{length-with_item, item_of_replicate}
use Rattle.agreement.specs.World.{Begins, committed, committed_of}
use Rattle.agreement.specs.World as core
use Rattle.world_run.specs.World as world
use Rattle.world_run.specs.World.{Event, run, outs, outputs, happens, moment}
use Rattle.world_run.proofs.Holds.{one_list}
use Rattle.world_views.specs.Views.{upto, start, start_from, RisesFrom}
use Rattle.world_views.specs.Own.{TurnOf, ViewOf, runs, state_at}
use Rattle.world_views.specs.Own as own
use Rattle.world_views.specs.Rule.{IsRule, AreHonest}
use Rattle.world_views.specs.Merged.{PlacedOf, Leads, IsMerged, turns_of, start_in, end_from, end_in}
use Rattle.world_views.specs.Openings.{sent_by, unsent, idle_as, idle_in, event_in, events_in, world_after, whole, restarts, IsOpenedIn, OpenedAfter, IsNew, IsOpenedOver, IsNow}
use Rattle.world_views.specs.Outputs.{outs_along, outs_at}
use Rattle.world_views.specs.Laws.{AgreeTo, NewStores, HeldStores, OpeningsGoOn, HasHistory, AllAgree, AllAgreeBefore}
use Rattle.world_views.proofs.Places.{got, got_back, below, there, at_map}
use Rattle.world_views.proofs.Sent.{first_unsent}
use Rattle.world_views.proofs.Histories.{onto, at_onto, leads_length, leads_run, run-append, outs-append}
use Rattle.world_views.proofs.Along.{own_run, outs_so, fronts}
use Rattle.world_views.proofs.Tickets.{turns-append, early, take_early}
use Rattle.world_views.proofs.Merging.{merges}

module _ (M : Machine) where
  by_length : (w : List (Node M.Body)) (i : ℕ) (o : Own M) (s : Option (Node M.Body)) → length (world.world_by M w i o s) ≡ length w
  by_length w i o None = refl
  by_length w i o (Some s) = length-with_item w i _

  run_length : (es : List (Event M)) (w : List (Node M.Body)) → length (run M es w) ≡ length w
  run_length [] w = refl
  run_length (e ∷ es) w = run_length es (happens M w e) ∙ by_length w (world.stepper M w e) (world.own_of M w e) (item w (world.stepper M w e))

  -- how many nodes there are
  pub world_length : (n : ℕ) (es : List (Event M)) → length (world_after M n es) ≡ n
  world_length n es = run_length es (core.start n) ∙ length-replicate n (newborn n)

-- the nodes as opened, after what they had sent, are the world from which they were opened

map_at : {A C : Type 0} (f : A → C) (l : List A) (i : ℕ) (b : C) → get_elem? (map f l) i ≡ some b → (a : A) × (get_elem? l i ≡ some a) × (f a ≡ b)
map_at f [] i b e = absurd (some-ne-none b (sym e))
map_at f (x ∷ xs) zero b e = (x, refl, some-injective (f x) b e)
map_at f (x ∷ xs) (suc i) b e = map_at f xs i b e

module _ {B : Type 0} where
  onto_back : (w0 w : List (Node B)) → length w0 ≡ length w → ((i : ℕ) (x s : Node B) → get_elem? w0 i ≡ some x → get_elem? w i ≡ some s → s ≡ unsent x) → onto w0 w ≡ w0
  unfolding onto
  onto_back [] [] long all = refl
  onto_back [] (t ∷ ts) long all = absurd (omega arith)
  onto_back (y ∷ ys) [] long all = absurd (omega arith)
  onto_back (y ∷ ys) (t ∷ ts) long all =
      λ d. (ap (sent_first y.sent) (all 0 y t refl refl) ∙ first_unsent y) d ∷ onto_back ys ts (omega arith) (λ i x s h k. all (suc i) x s h k) d

  idle_is : (w0 : List (Node B)) (i j : ℕ) (x : Node B) → j ≡ i → item w0 (suc i) ≡ Some x → idle_in w0 j ≡ unsent x
  idle_is w0 i j x same at = ap (λ (k : ℕ). idle_as (item w0 (suc k)) (length w0)) same ∙ ap (λ (o : Option (Node B)). idle_as o (length w0)) at

module _ (M : Machine) where
  began_as : (w0 : List (Node M.Body)) (i j : ℕ) (x : Node M.Body) (o : Option (ℕ × Node M.Body)) → j ≡ i → item w0 (suc i) ≡ Some x → IsOpenedIn M w0 (suc i) o → start_from (idle_in w0 j) o ≡ unsent x
  began_as w0 i j x None same at h = idle_is w0 i j x same at
  began_as w0 i j x (Some b) same at h = let is : h.0 ≡ x = cc (h.1, at) in h.2 ∙ ap unsent is

  ended_as : (w0 v : List (Node M.Body)) (i j : ℕ) (x : Node M.Body) (t : Node M.Body) (o : Option (ℕ × Node M.Body)) → j ≡ i → item w0 (suc i) ≡ Some x
      → item v (suc i) ≡ Some (sent_first x.sent (end_from (idle_in w0 j) t o)) → IsNow M w0 v (suc i) t o
  ended_as w0 v i j x t None same at is =
      is ∙ ap (λ (s : Node M.Body). let o : Option (Node M.Body) = Some (sent_first x.sent s) in o) (idle_is w0 i j x same at)
      ∙ ap (λ (s : Node M.Body). let o : Option (Node M.Body) = Some s in o) (first_unsent x) ∙ sym at
  ended_as w0 v i j x t (Some b) same at is =
      is ∙ ap (λ (o : Option (Node M.Body)). let q : Option (Node M.Body) = Some (sent_first (sent_by o) t) in q) (sym at)

  -- a node that was not opened has no turns, whatever it is
  same_outs : (n i : ℕ) (s t : Node M.Body) (o : Option (ℕ × Node M.Body)) (ts : List (TurnOf M)) → RisesFrom o ts → outs_along M n i (start_from s o) ts ≡ outs_along M n i (start_from t o) ts
  same_outs n i s t None ts r = ap (outs_along M n i s) r ∙ sym (ap (outs_along M n i t) r)
  same_outs n i s t (Some b) ts r = refl

  nothing : (xs ys : List (TurnOf M)) → xs ++ ys ≡ [] → xs ≡ []
  nothing [] ys e = refl
  nothing (x ∷ xs) ys e = absurd (cc e)

  -- a node after the first of its turns; one that was not opened stays
  front_so : (n i : ℕ) (s t : Node M.Body) (o : Option (ℕ × Node M.Body)) (ts rest all : List (TurnOf M)) → RisesFrom o all → all ≡ ts ++ rest
      → own.run M n i (start_from s o) ts ≡ end_from s (own.run M n i (start_from t o) ts) o
  front_so n i s t None ts rest all r e = ap (own.run M n i s) (nothing ts rest (sym e ∙ r))
  front_so n i s t (Some b) ts rest all r e = refl

  module _ (n next : ℕ) (before : List (Event M)) (views : List (ViewOf M)) (a : IsRule M n next views) (honest : AreHonest M views) (opened : OpenedAfter M before views) where
    w0 : List (Node M.Body)
    w0 = world_after M (length views) before

    long : length w0 ≡ length views
    unfolding w0
    long = world_length M (length views) before

    starts : List (Node M.Body)
    starts = map (start_in (idle_in w0)) views

    long_starts : length w0 ≡ length starts
    unfolding starts
    long_starts = long ∙ sym (length-map views (start_in (idle_in w0)))

    goes_on : onto w0 starts ≡ w0
    unfolding w0 starts
    goes_on = onto_back w0 starts long_starts (λ i x s h k. let p = map_at (start_in (idle_in w0)) views i s k in
        sym p.2 ∙ began_as w0 i p.0.node x p.0.opened (a.placed i p.0 p.1).0 (got w0 i x h) (opened i p.0 p.1))

    merged : (es : List (PlacedOf M)) × IsMerged M (idle_in w0) views es
    merged = merges M n next views a honest (idle_in w0)

    ends : List (Node M.Body)
    ends = map (end_in (idle_in w0)) views

    leads_in : (es : List (PlacedOf M)) → IsMerged M (idle_in w0) views es → Leads M starts es ends
    unfolding starts ends
    leads_in es m = m.leads

    sized : (i : ℕ) (v : ViewOf M) → get_elem? views i ≡ some v → length starts ≡ v.size
    unfolding starts
    sized i v at = length-map views (start_in (idle_in w0)) ∙ a.sized ∙ sym (a.placed i v at).1

    front_world : (es : List (PlacedOf M)) (k : ℕ) (u : List (Node M.Body)) → Leads M starts (take k es) u → moment M (length views) (whole M before views es) (length before + k) ≡ onto w0 u
    unfolding w0
    front_world es k u l =
        ap (λ (ys : List (Event M)). run M ys (core.start (length views))) (take-append-add before (events_in M w0 es) k ∙ ap (λ (ys : List (Event M)). before ++ ys) (take-map (λ e. event_in M w0 (suc e.0) e.1.1) k es))
        ∙ run-append M before (events_in M w0 (take k es)) (core.start (length views))
        ∙ ap (run M (events_in M w0 (take k es))) (sym goes_on)
        ∙ leads_run M w0 starts (take k es) u long_starts l

    front_node : (es : List (PlacedOf M)) → IsMerged M (idle_in w0) views es → (k : ℕ) (u : List (Node M.Body)) → Leads M starts (take k es) u
        → (i : ℕ) (v : ViewOf M) (s : Node M.Body) → get_elem? views i ≡ some v → get_elem? u i ≡ some s → s ≡ end_from (idle_in w0 v.node) (runs M v (start v) (turns_of i (take k es))) v.opened
    unfolding starts
    front_node es m k u l i v s at_v at_s =
        let ts : List (TurnOf M) = turns_of i (take k es) in
        let parts : v.turns ≡ ts ++ turns_of i (drop k es) =
        sym (m.records i v at_v) ∙ ap (turns_of i) (sym (take-append-drop k es)) ∙ turns-append i (take k es) (drop k es) in
        own_run M starts (take k es) u l i (start_in (idle_in w0) v) s (at_map (start_in (idle_in w0)) views i v at_v) at_s
        ∙ (λ d. own.run M (sized i v at_v d) (suc (sym (a.placed i v at_v).0 d)) (start_in (idle_in w0) v) ts)
        ∙ front_so v.size (suc v.node) (idle_in w0 v.node) v.state v.opened ts (turns_of i (drop k es)) v.turns (a.tickets.rises i v at_v) parts

    -- so are the moments on the way
    moments : (es : List (PlacedOf M)) → IsMerged M (idle_in w0) views es → (k i : ℕ) (v : ViewOf M) → get_elem? views i ≡ some v
        → IsNow M w0 (moment M (length views) (whole M before views es) (length before + k)) (suc i) (runs M v (start v) (turns_of i (take k es))) v.opened
    moments es m k i v at =
        let f = fronts M starts es ends (leads_in es m) (take k es) (drop k es) (sym (take-append-drop k es)) in
        let long_f : length f.0 ≡ length starts = leads_length M starts (take k es) f.0 f.1 in
        let lt : i < length views = below views i v at in
        let x = there w0 i (let l = long in omega arith) in
        let s = there f.0 i (let l = long in let l' = long_starts in omega arith) in
        let after : Node M.Body → Option (Node M.Body) = λ t. Some (sent_first x.0.sent t) in
        let there_is : item (onto w0 f.0) (suc i) ≡ Some (sent_first x.0.sent s.0) = got (onto w0 f.0) i (sent_first x.0.sent s.0) (at_onto w0 f.0 i x.0 s.0 x.1 s.1) in
        ended_as w0 (moment M (length views) (whole M before views es) (length before + k)) i v.node x.0 (runs M v (start v) (turns_of i (take k es))) v.opened (a.placed i v at).0 (got w0 i x.0 x.1)
        (ap (λ (w : List (Node M.Body)). item w (suc i)) (front_world es k f.0 f.1) ∙ there_is ∙ ap after (front_node es m k f.0 f.1 i v s.0 at s.1))

    -- one history of the group leads to the views' states, and what comes out of it came out by the views
    pub history : HasHistory M before views
    unfolding w0 starts ends
    history =
        let es : List (PlacedOf M) = merged.0 in let m = merged.1 in
        let leads : world_after M (length views) (whole M before views es) ≡ onto w0 ends =
        run-append M before (events_in M w0 es) (core.start (length views)) ∙ ap (run M (events_in M w0 es)) (sym goes_on) ∙ leads_run M w0 starts es ends long_starts m.leads in (
          es,
          record {
            merged = m;
            states = λ i p at.
                let x = there w0 i (let lt = below views i p at in let l = long in omega arith) in
                ended_as w0 (world_after M (length views) (whole M before views es)) i p.node x.0 p.state p.opened (a.placed i p at).0 (got w0 i x.0 x.1)
                (ap (λ (w : List (Node M.Body)). item w (suc i)) leads
                ∙ got (onto w0 ends) i (sent_first x.0.sent (end_in (idle_in w0) p)) (at_onto w0 ends i x.0 (end_in (idle_in w0) p) x.1 (at_map (end_in (idle_in w0)) views i p at)));
            moments = moments es m;
            outs = outs M (events_in M w0 es) w0;
            comes_out = outs-append M before (events_in M w0 es) (core.start (length views));
            own_outs = λ i p at.
                ap (λ (w : List (Node M.Body)). outs_at M i es (outs M (events_in M w0 es) w)) (sym goes_on)
                ∙ outs_so M w0 starts es ends long_starts m.leads i (start_in (idle_in w0) p) (at_map (start_in (idle_in w0)) views i p at)
                ∙ ap (outs_along M (length starts) (suc i) (start_in (idle_in w0) p)) (m.records i p at)
                ∙ (λ d. outs_along M (sized i p at d) (suc (sym (a.placed i p at).0 d)) (start_in (idle_in w0) p) p.turns)
                ∙ same_outs p.size (suc p.node) (idle_in w0 p.node) p.state p.opened p.turns (a.tickets.rises i p at);
          },
        )

    committed_at : (v : List (Node M.Body)) (i : ℕ) (s : Node M.Body) (o : Option (ℕ × Node M.Body)) (b : ℕ × Node M.Body) → o ≡ Some b → IsNow M w0 v (suc i) s o → committed v (suc i) ≡ take s.commit s.log
    unfolding w0
    committed_at v i s None b e is = absurd (cc e)
    committed_at v i s (Some c) b e is = ap committed_of is

    -- so of what any two nodes have committed one begins the other
    pub all_agree : AllAgree M before views
    unfolding w0
    all_agree i j p q at_p at_q open_p open_q =
        let h = history in let es : List (Event M) = whole M before views h.0 in let v : List (Node M.Body) = world_after M (length views) es in
        let now : moment M (length views) es (length es) ≡ v = ap (λ (l : List (Event M)). run M l (core.start (length views))) (take_all (length es) es (le_refl (length es))) in
        let one = committed_at v i p.state p.opened open_p.0 open_p.1 (h.1.states i p at_p) in
        let two = committed_at v j q.state q.opened open_q.0 open_q.1 (h.1.states j q at_q) in
        subst (λ (z : List (Entry M.Body) × List (Entry M.Body)). Begins z.0 z.1 ⊎ Begins z.1 z.0) (λ d. (one d, two d))
        (subst (λ (x : List (Node M.Body)). Begins (committed x (suc i)) (committed x (suc j)) ⊎ Begins (committed x (suc j)) (committed x (suc i))) now
        (one_list M (length views) es (length es) (length es) (suc i) (suc j)))

    -- and the same before any two tickets
    pub agree_before : AllAgreeBefore M before views
    unfolding w0
    agree_before i j c d p q at_p at_q open_p open_q =
        let h = history in let es : List (PlacedOf M) = h.0 in
        let u : List (Node M.Body) = moment M (length views) (whole M before views es) (length before + early c es) in
        let v : List (Node M.Body) = moment M (length views) (whole M before views es) (length before + early d es) in
        let one = committed_at u i (runs M p (start p) (turns_of i (take (early c es) es))) p.opened open_p.0 open_p.1 (h.1.moments (early c es) i p at_p) in
        let two = committed_at v j (runs M q (start q) (turns_of j (take (early d es) es))) q.opened open_q.0 open_q.1 (h.1.moments (early d es) j q at_q) in
        let first : runs M p (start p) (turns_of i (take (early c es) es)) ≡ state_at M c p =
        ap (runs M p (start p)) (take_early c i es h.1.merged.in_order ∙ ap (upto c) (h.1.merged.records i p at_p)) in
        let second : runs M q (start q) (turns_of j (take (early d es) es)) ≡ state_at M d q =
        ap (runs M q (start q)) (take_early d j es h.1.merged.in_order ∙ ap (upto d) (h.1.merged.records j q at_q)) in
        subst (λ (z : Node M.Body × Node M.Body). AgreeTo z.0 z.1) (λ e. (first e, second e))
        (subst (λ (z : List (Entry M.Body) × List (Entry M.Body)). Begins z.0 z.1 ⊎ Begins z.1 z.0) (λ e. (one e, two e))
        (one_list M (length views) (whole M before views es) (length before + early c es) (length before + early d es) (suc i) (suc j)))

  -- a restart of every node
  module _ (n : ℕ) where
    found : (y : Node M.Body) (ys zs : List (Node M.Body)) → slice_get (zs ++ y ∷ ys) (length zs) ≡ Some y
    found y ys [] = refl
    found y ys (z ∷ zs) = found y ys zs

    put : (x y : Node M.Body) (ys zs : List (Node M.Body)) → set (zs ++ y ∷ ys) (length zs) x ≡ zs ++ x ∷ ys
    put x y ys [] = refl
    put x y ys (z ∷ zs) = ap (λ (l : List (Node M.Body)). z ∷ l) (put x y ys zs)

    one : (y : Node M.Body) (ys zs : List (Node M.Body)) → length (zs ++ y ∷ ys) ≡ n → happens M (zs ++ y ∷ ys) (world.Restart (suc (length zs))) ≡ zs ++ restarted n y ∷ ys
    one y ys zs e =
        ap (λ (s : Option (Node M.Body)). world.world_by M (zs ++ y ∷ ys) (suc (length zs)) (world.own_of M (zs ++ y ∷ ys) (world.Restart (suc (length zs)))) s) (found y ys zs)
        ∙ ap (λ (k : ℕ). set (zs ++ y ∷ ys) (length zs) (restarted k y)) e
        ∙ put (restarted n y) y ys zs

    restarts_from : (xs ys : List (Node M.Body)) → length (xs ++ ys) ≡ n → run M (map world.Restart (range_from (suc (length xs)) (length ys))) (xs ++ ys) ≡ xs ++ map (restarted n) ys
    restarts_from xs [] e = refl
    restarts_from xs (y ∷ ys) e =
        let more : length (xs ++ restarted n y ∷ []) ≡ suc (length xs) = length-append xs (restarted n y ∷ []) ∙ omega arith in
        let still_long : length ((xs ++ restarted n y ∷ []) ++ ys) ≡ n =
        let a = length-append xs (y ∷ ys) in let b = length-append (xs ++ restarted n y ∷ []) ys in omega arith in
        ap (run M (map world.Restart (range_from (suc (suc (length xs))) (length ys)))) (one y ys xs e ∙ sym (append_assoc xs (restarted n y ∷ []) ys))
        ∙ ap (λ (k : ℕ). run M (map world.Restart (range_from (suc k) (length ys))) ((xs ++ restarted n y ∷ []) ++ ys)) (sym more)
        ∙ restarts_from (xs ++ restarted n y ∷ []) ys still_long
        ∙ append_assoc xs (restarted n y ∷ []) (map (restarted n) ys)

  pub restarts_all : (n : ℕ) (w : List (Node M.Body)) → length w ≡ n → run M (restarts M n) w ≡ map (restarted n) w
  restarts_all n w e = ap (λ (k : ℕ). run M (restarts M k) w) (sym e) ∙ restarts_from n [] w e

  item_map : (f : Node M.Body → Node M.Body) (w : List (Node M.Body)) (k : ℕ) (s : Node M.Body) → item w k ≡ Some s → item (map f w) k ≡ Some (f s)
  item_map f w zero s h = absurd (cc h)
  item_map f w (suc k) s h = got (map f w) k (f s) (at_map f w k s (got_back w k s h))

  module _ (before : List (Event M)) (n i : ℕ) where
    then : world_after M n (before ++ restarts M n) ≡ map (restarted n) (world_after M n before)
    then = run-append M before (restarts M n) (core.start n) ∙ restarts_all n (world_after M n before) (world_length M n before)

    started_anew : (o : Option (ℕ × Node M.Body)) → IsOpenedOver M (world_after M n before) (suc i) o → IsOpenedIn M (world_after M n (before ++ restarts M n)) (suc i) o
    started_anew None h = tt
    started_anew (Some b) h = (
      restarted n h.0,
      ap (λ (v : List (Node M.Body)). item v (suc i)) then ∙ item_map (restarted n) (world_after M n before) (suc i) h.0 h.1,
      h.2 ∙ ap (λ (k : ℕ). unsent (restarted k h.0)) (world_length M n before),
    )

    started_new : (o : Option (ℕ × Node M.Body)) → i < n → IsNew M n o → IsOpenedIn M (world_after M n []) (suc i) o
    started_new None lt h = tt
    started_new (Some b) lt h =
        let first : Node M.Body = newborn n in
        let s = there (replicate n first) i (let l = length-replicate n first in omega arith) in
        let is : item (replicate n first) (suc i) ≡ Some s.0 = got (replicate n first) i s.0 s.1 in
        (s.0, is, h ∙ ap unsent (item_of_replicate n (suc i) first s.0 is))

  -- stores that held what a list of events leaves: the openings are as that list and a restart of every node leave them
  pub held_stores : HeldStores M
  held_stores before views held i p at = started_anew before (length views) i p.opened (held i p at)

  -- new stores: the openings are as no event leaves them
  pub new_stores : NewStores M
  new_stores views new i p at = started_new [] (length views) i p.opened (below views i p at) (new i p at)

  pub openings_go_on : OpeningsGoOn M
  openings_go_on = (new_stores, held_stores)

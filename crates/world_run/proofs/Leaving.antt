-- What leaves the nodes, over all their runs together.
use Rattle.std.proofs.Common.{◌≡◌, ℕ, zero, suc, ◌+◌, ◌<◌, ◌≤◌, Bool, true, false, ◌&&◌, eqb, List, [], ◌∷◌, ◌++◌, ⊎_elim, Option, Some, None, length, take, set, refl, sym, ap, subst, ◌∙◌, arith}
use Rattle.std.specs.Prelude.{◌==◌}
use Rattle.std.proofs.lemmas.Bool.{eqb-true, eq-eqb, cases_lt}
use Rattle.raft_log.specs.Lists.{item, with_item}
use Rattle.raft_log.specs.declared.entry.Entry.{Entry}
use Rattle.raft_log.specs.declared.role.Role.TheVariants.{Leader}
use Rattle.raft_log.specs.declared.node_state.Live.{Live}
use Rattle.raft_log.specs.Node.{Node}
use Rattle.agreement.specs.World.{Begins}
use Rattle.machine_laws.specs.declared.class.Class.{Class}
use Rattle.machine_laws.specs.declared.class.Class.TheVariants.{To, Hand, Rejoin, Nowhere}
use Rattle.raft_node.specs.Machine.{Machine, history}
use Rattle.machine_laws.specs.Runs.{all_effects}
use Rattle.world_run.specs.World.{count, Event, left_of, stepper, own_of, world_by, out_by, outs}
use Rattle.raft_node.specs.Steps.{Turn, is_session, leaves, leaving, applied_history, own, effects_of}
use Rattle.world_run.proofs.Lowers.{Always}
use Rattle.raft_node.proofs.Fares.{Lives, GoesOn, Applied, Step, InRun, NewRun, own_step}
use Rattle.world_run.proofs.Tallies.{bool_cases, and_true, and_makes, not_both, count_append, count_kept, count_none, Keyed, keyed_append, keyed_kept, no_more}
use Rattle.world_run.proofs.Places.{shared, shared_item, sum_at, sum_push, sum_most}

-- the run of a node to which an effect is bound: that of its client, or that which leads in the term of its session
abbrev pub owns : Option ℕ → ℕ → ℕ → ℕ → Bool
owns None run i b = false
owns (Some j) run i b = j == i && run == b

module _ (owner : ℕ → Option ℕ) (boots : ℕ → ℕ) where
  abbrev pub class_key : {P : Type 0} → ℕ → ℕ → Class P → Bool
  class_key i b (To o) = o.0 == i && o.1 == b
  class_key i b (Hand id n line) = owns (owner id.0) (boots id.0) i b
  class_key i b (Rejoin id line) = owns (owner id.0) (boots id.0) i b
  class_key i b Nowhere = false

  owns_unique : (o : Option ℕ) (run i b j d : ℕ) → owns o run i b ≡ true → owns o run j d ≡ true → (i ≡ j) × (b ≡ d)
  owns_unique None run i b j d p q = absurd (cc p)
  owns_unique (Some k) run i b j d p q =
      (sym (eqb-true k i (and_true _ _ p).0) ∙ eqb-true k j (and_true _ _ q).0, sym (eqb-true run b (and_true (k == i) _ p).1) ∙ eqb-true run d (and_true (k == j) _ q).1)

  pub key_unique : {P : Type 0} (c : Class P) (i b j d : ℕ) → class_key i b c ≡ true → class_key j d c ≡ true → (i ≡ j) × (b ≡ d)
  key_unique (To o) i b j d p q = owns_unique (Some o.0) o.1 i b j d p q
  key_unique (Hand id n line) i b j d p q = owns_unique (owner id.0) (boots id.0) i b j d p q
  key_unique (Rejoin id line) i b j d p q = owns_unique (owner id.0) (boots id.0) i b j d p q
  key_unique Nowhere i b j d p q = absurd (cc p)

  module _ (i boot : ℕ) (live : Option Live) (led : (l : Live) → live ≡ Some l → (owner l.id.0 ≡ Some i) × (boots l.id.0 ≡ boot)) where
    session_key : (o : Option Live) → live ≡ o → (id : ℕ × ℕ) → is_session o id ≡ true → owns (owner id.0) (boots id.0) i boot ≡ true
    session_key None e id h = absurd (cc h)
    session_key (Some l) e id h =
        let x : (owner l.id.0 ≡ Some i) × (boots l.id.0 ≡ boot) = led l e in
        let same : l.id.0 ≡ id.0 = eqb-true l.id.0 id.0 (and_true (l.id.0 == id.0) _ h).0 in
        subst (λ z. owns (owner z) (boots z) i boot ≡ true) same
        (subst (λ o. owns o (boots l.id.0) i boot ≡ true) (sym x.0) (and_makes (i == i) (boots l.id.0 == boot) (eq-eqb i i refl) (eq-eqb (boots l.id.0) boot x.1)))

    pub leaves_key : {P : Type 0} (c : Class P) → leaves i boot live c ≡ true → class_key i boot c ≡ true
    leaves_key (To o) h = h
    leaves_key (Hand id n line) h = session_key live refl id h
    leaves_key (Rejoin id line) h = session_key live refl id h
    leaves_key Nowhere h = h

-- a world after a step

set_same : {A : Type 0} (w : List A) (i : ℕ) (x u : A) → item w (suc i) ≡ Some u → item (set w i x) (suc i) ≡ Some x
set_same [] i x u h = absurd (cc h)
set_same (y ∷ w) zero x u h = refl
set_same (y ∷ w) (suc i) x u h = set_same w i x u h

pub item_with_same : {A : Type 0} (w : List A) (i : ℕ) (x u : A) → item w i ≡ Some u → item (with_item w i x) i ≡ Some x
item_with_same w zero x u h = absurd (cc h)
item_with_same w (suc i) x u h = set_same w i x u h

set_other : {A : Type 0} (w : List A) (j i : ℕ) (x : A) → (j ≡ i → ⊥) → item (set w j x) (suc i) ≡ item w (suc i)
set_other [] j i x ne = refl
set_other (y ∷ w) zero zero x ne = absurd (ne refl)
set_other (y ∷ w) zero (suc i) x ne = refl
set_other (y ∷ w) (suc j) zero x ne = refl
set_other (y ∷ w) (suc j) (suc i) x ne = set_other w j i x (λ e. ne (ap suc e))

pub item_with_other : {A : Type 0} (w : List A) (j i : ℕ) (x : A) → (j ≡ i → ⊥) → item (with_item w j x) i ≡ item w i
item_with_other w zero i x ne = refl
item_with_other w (suc j) zero x ne = refl
item_with_other w (suc j) (suc i) x ne = set_other w j i x (λ e. ne (ap suc e))

module _ (M : Machine) (owner : ℕ → Option ℕ) (boots : ℕ → ℕ) (l : List (Entry M.Body)) where
  -- what holds for each node at every moment, l being the agreed list
  pub record Fine (i : ℕ) (s : Node M.Body) : Type 0 where
    pub applied_in : s.applied ≤ s.commit
    pub commit_in : s.commit ≤ length s.log
    pub lives : Lives s
    pub begins : Begins (take s.commit s.log) l
    pub leads : s.role ≡ Leader → (owner s.term ≡ Some i) × (boots s.term ≡ s.boot)

  pub record FineNow (w : List (Node M.Body)) : Type 0 where
    pub each : (i : ℕ) (s : Node M.Body) → item w i ≡ Some s → Fine i s

  abbrev pub key_is : ℕ → ℕ → M.Effect → Bool
  key_is i b e = class_key owner boots i b (M.class e)

  pub front_same : (i : ℕ) (s : Node M.Body) → Fine i s → take s.applied s.log ≡ take s.applied l
  front_same i s f = shared s.log l s.commit s.applied f.begins f.applied_in f.commit_in

  live_led : (i : ℕ) (s : Node M.Body) → Fine i s → (k : Live) → s.live ≡ Some k → (owner k.id.0 ≡ Some i) × (boots k.id.0 ≡ s.boot)
  live_led i s f k e =
      let v : (s.role ≡ Leader) × (k.id.0 ≡ s.term) × (k.id.1 ≤ s.attempts) = f.lives.of k e in
      subst (λ z. (owner z ≡ Some i) × (boots z ≡ s.boot)) (sym v.1) (f.leads v.0)

  leaving_key : (i : ℕ) (s : Node M.Body) → Fine i s → (e : M.Effect) → leaves i s.boot s.live (M.class e) ≡ true → key_is i s.boot e ≡ true
  leaving_key i s f e h = leaves_key owner boots i s.boot s.live (live_led i s f) (M.class e) h

  module _ (test : M.Effect → Bool) (i b : ℕ) where
    -- effects that pass and are bound to this run
    abbrev pub t : M.Effect → Bool
    t e = test e && key_is i b e

    abbrev total : ℕ
    total = count t (all_effects M.effects (history l))

    abbrev sum : ℕ → ℕ
    sum k = sum_at M.effects t l k

    -- how many are still to leave, by the node's place
    record Bound (s : Node M.Body) (c : ℕ) : Type 0 where
      earlier : s.boot < b → c ≤ total
      now : s.boot ≡ b → c + sum s.applied ≤ total
      later : b < s.boot → c ≤ 0

    abbrev Bounded : Option (Node M.Body) → ℕ → Type 0
    Bounded None c = c ≤ 0
    Bounded (Some s) c = Bound s c

    out_of_none : (u : Turn M) → effects_of u.out ≡ [] → count t (effects_of u.out) ≡ 0
    out_of_none u e = ap (count t) e

    -- nothing of another run leaves
    out_none : (j : ℕ) (s : Node M.Body) (u : Turn M) → Fine j s → Step M j s u → ((j ≡ i) × (s.boot ≡ b) → ⊥) → count t (effects_of u.out) ≡ 0
    out_none j s u f (InRun (GoesOn g e)) ne = out_of_none u e
    out_none j s u f (InRun (Applied x lt at e)) ne =
        ap (λ (z : Turn M). count t (effects_of z.out)) e
        ∙ count_none t (λ y. leaves j s.boot s.live (M.class y)) (M.effects (applied_history M s) (suc s.applied) x.body)
        (λ y k p. ne (key_unique owner boots (M.class y) j s.boot i b (leaving_key j s f y k) (and_true (test y) _ p).1))
    out_none j s u f (NewRun bo ap' li e) ne = out_of_none u e

    step_bound : (j : ℕ) (s : Node M.Body) (u : Turn M) (c : ℕ) → Fine j s → Step M j s u → Bound u.node c → Bound s (count t (effects_of u.out) + c)
    step_bound j s u c f (InRun (GoesOn g e)) n =
        let z : count t (effects_of u.out) ≡ 0 = out_of_none u e in
        let same : sum u.node.applied ≡ sum s.applied = ap sum g.applied_is in
        record {
          earlier = λ h. let q : c ≤ total = n.earlier (omega (arith, g.boot_is)) in omega (arith, q, z);
          now = λ h. let q : c + sum u.node.applied ≤ total = n.now (g.boot_is ∙ h) in omega (arith, q, z, same);
          later = λ h. let q : c ≤ 0 = n.later (omega (arith, g.boot_is)) in omega (arith, q, z);
        }
    step_bound j s u c f (InRun (Applied x lt at e)) n =
        let node : Node M.Body = record s { applied = suc s.applied } in
        let m : Bound (record s { applied = suc s.applied }) c = subst (λ (z : Turn M). Bound z.node c) e n in
        let at' : item l (suc s.applied) ≡ Some x = shared_item s.log l s.commit s.applied x f.begins lt at in
        let push : sum (suc s.applied) ≡ sum s.applied + count t (M.effects (history (take s.applied l)) (suc s.applied) x.body) = sum_push M.effects t l s.applied x at' in
        let same : count t (M.effects (applied_history M s) (suc s.applied) x.body) ≡ count t (M.effects (history (take s.applied l)) (suc s.applied) x.body) =
        ap (λ h. count t (M.effects (history h) (suc s.applied) x.body)) (front_same j s f) in
        let out : count t (effects_of u.out) ≡ count t (leaving M j s (M.effects (applied_history M s) (suc s.applied) x.body)) =
        ap (λ (z : Turn M). count t (effects_of z.out)) e in
        let less : count t (leaving M j s (M.effects (applied_history M s) (suc s.applied) x.body)) ≤ count t (M.effects (applied_history M s) (suc s.applied) x.body) =
        count_kept t (λ y. leaves j s.boot s.live (M.class y)) (M.effects (applied_history M s) (suc s.applied) x.body) in
        record {
          earlier = λ h.
              let z : count t (effects_of u.out) ≡ 0 = out_none j s u f (InRun (Applied x lt at e)) (λ p. absurd (omega (arith, p.1, h))) in
              let q : c ≤ total = m.earlier h in
              omega (arith, q, z);
          now = λ h. let q : c + sum (suc s.applied) ≤ total = m.now h in omega (arith, q, push, same, out, less);
          later = λ h.
              let z : count t (effects_of u.out) ≡ 0 = out_none j s u f (InRun (Applied x lt at e)) (λ p. absurd (omega (arith, p.1, h))) in
              let q : c ≤ 0 = m.later h in
              omega (arith, q, z);
        }
    step_bound j s u c f (NewRun bo ap' li e) n =
        let z : count t (effects_of u.out) ≡ 0 = out_of_none u e in
        record {
          earlier = λ h.
              ⊎_elim
              (λ lt. let q : c ≤ total = n.earlier (omega (arith, bo, lt)) in omega (arith, q, z))
              (λ ge. let q : c + sum u.node.applied ≤ total = n.now (omega (arith, bo, ge, h)) in omega (arith, q, z))
              (cases_lt (suc s.boot) b);
          now = λ h. let q : c ≤ 0 = n.later (omega (arith, bo, h)) in omega (arith, q, z, sum_most M.effects t l s.applied);
          later = λ h. let q : c ≤ 0 = n.later (omega (arith, bo, h)) in omega (arith, q, z);
        }

    future : (es : List (Event M)) (w : List (Node M.Body)) → Always M FineNow es w → (o : Option (Node M.Body)) → item w i ≡ o → Bounded o (count t (left_of M (outs M es w)))
    future [] w fine None at = omega arith
    future [] w fine (Some s) at = record { earlier = λ h. omega arith; now = λ h. omega (arith, sum_most M.effects t l s.applied); later = λ h. omega arith }
    future (e ∷ es) w fine o at = by_item (λ v more p at. future es v more p at) (item w (stepper M w e)) refl fine.1
      where
        by_item : ((v : List (Node M.Body)) → Always M FineNow es v → (p : Option (Node M.Body)) → item v i ≡ p → Bounded p (count t (left_of M (outs M es v)))) → (z : Option (Node M.Body)) → item w (stepper M w e) ≡ z → Always M FineNow es (world_by M w (stepper M w e) (own_of M w e) z)
            → Bounded o (count t (effects_of (out_by M w (stepper M w e) (own_of M w e) z) ++ left_of M (outs M es (world_by M w (stepper M w e) (own_of M w e) z))))
        by_item rest None p more = rest w more o at
        by_item rest (Some s) p more =
            let u : Turn M = own M (length w) (stepper M w e) (own_of M w e) s in
            let f : Fine (stepper M w e) s = fine.0.each (stepper M w e) s p in
            let step : Step M (stepper M w e) s (own M (length w) (stepper M w e) (own_of M w e) s) = own_step M (length w) (stepper M w e) s f.lives (own_of M w e) in
            let w' : List (Node M.Body) = with_item w (stepper M w e) (own M (length w) (stepper M w e) (own_of M w e) s).node in
            let parts : count t (effects_of (own M (length w) (stepper M w e) (own_of M w e) s).out ++ left_of M (outs M es (with_item w (stepper M w e) (own M (length w) (stepper M w e) (own_of M w e) s).node)))
            ≡ count t (effects_of (own M (length w) (stepper M w e) (own_of M w e) s).out) + count t (left_of M (outs M es (with_item w (stepper M w e) (own M (length w) (stepper M w e) (own_of M w e) s).node))) =
            count_append t (effects_of (own M (length w) (stepper M w e) (own_of M w e) s).out) (left_of M (outs M es (with_item w (stepper M w e) (own M (length w) (stepper M w e) (own_of M w e) s).node))) in
            subst (λ n. Bounded o n) (sym parts)
            (bool_cases (eqb (stepper M w e) i) _
            (λ h.
            let ji : stepper M w e ≡ i = eqb-true (stepper M w e) i h in
            let here : item (with_item w (stepper M w e) (own M (length w) (stepper M w e) (own_of M w e) s).node) i ≡ Some (own M (length w) (stepper M w e) (own_of M w e) s).node =
            subst (λ k. item (with_item w (stepper M w e) (own M (length w) (stepper M w e) (own_of M w e) s).node) k ≡ Some (own M (length w) (stepper M w e) (own_of M w e) s).node) ji
            (item_with_same w (stepper M w e) _ s p) in
            let is : Some s ≡ o = sym p ∙ (ap (item w) ji ∙ at) in
            subst (λ z. Bounded z (count t (effects_of (own M (length w) (stepper M w e) (own_of M w e) s).out) + count t (left_of M (outs M es (with_item w (stepper M w e) (own M (length w) (stepper M w e) (own_of M w e) s).node))))) is
            (step_bound (stepper M w e) s _ _ f step (rest _ more (Some (own M (length w) (stepper M w e) (own_of M w e) s).node) here)))
            (λ h.
            let ne : stepper M w e ≡ i → ⊥ = λ q. not_both (eqb (stepper M w e) i) (eq-eqb (stepper M w e) i q) h in
            let z : count t (effects_of (own M (length w) (stepper M w e) (own_of M w e) s).out) ≡ 0 = out_none (stepper M w e) s _ f step (λ q. ne q.0) in
            let same : count t (left_of M (outs M es (with_item w (stepper M w e) (own M (length w) (stepper M w e) (own_of M w e) s).node)))
            ≡ count t (effects_of (own M (length w) (stepper M w e) (own_of M w e) s).out) + count t (left_of M (outs M es (with_item w (stepper M w e) (own M (length w) (stepper M w e) (own_of M w e) s).node))) = omega (arith, z) in
            subst (λ n. Bounded o n) same (rest _ more o (item_with_other w (stepper M w e) i _ ne ∙ at))))

    pub bounded : (es : List (Event M)) (w : List (Node M.Body)) → Always M FineNow es w → count t (left_of M (outs M es w)) ≤ count t (all_effects M.effects (history l))
    bounded es w fine = by_item (item w i) refl
      where
        by_item : (o : Option (Node M.Body)) → item w i ≡ o → count t (left_of M (outs M es w)) ≤ total
        by_item None e = let q : count t (left_of M (outs M es w)) ≤ 0 = future es w fine None e in omega (arith, q)
        by_item (Some s) e =
            let q : Bound s (count t (left_of M (outs M es w))) = future es w fine (Some s) e in
            ⊎_elim (λ lt. q.earlier lt)
            (λ ge. ⊎_elim (λ lt. let z : count t (left_of M (outs M es w)) ≤ 0 = q.later lt in omega (arith, z)) (λ le. let z : count t (left_of M (outs M es w)) + sum s.applied ≤ total = q.now (omega (arith, ge, le)) in omega (arith, z)) (cases_lt b s.boot))
            (cases_lt s.boot b)

  -- each effect that leaves is bound to a run
  step_keyed : (j : ℕ) (s : Node M.Body) (u : Turn M) → Fine j s → Step M j s u → Keyed key_is (effects_of u.out)
  step_keyed j s u f (InRun (GoesOn g e)) = subst (Keyed key_is) (sym e) tt
  step_keyed j s u f (InRun (Applied x lt at e)) =
      subst (λ (z : Turn M). Keyed key_is (effects_of z.out)) (sym e)
      (keyed_kept key_is j s.boot (λ y. leaves j s.boot s.live (M.class y)) (M.effects (applied_history M s) (suc s.applied) x.body) (λ y k. leaving_key j s f y k))
  step_keyed j s u f (NewRun bo ap' li e) = subst (Keyed key_is) (sym e) tt

  pub keyed : (es : List (Event M)) (w : List (Node M.Body)) → Always M FineNow es w → Keyed key_is (left_of M (outs M es w))
  keyed [] w fine = tt
  keyed (e ∷ es) w fine = by_item (λ v more. keyed es v more) (item w (stepper M w e)) refl fine.1
    where
      by_item : ((v : List (Node M.Body)) → Always M FineNow es v → Keyed key_is (left_of M (outs M es v))) → (z : Option (Node M.Body)) → item w (stepper M w e) ≡ z → Always M FineNow es (world_by M w (stepper M w e) (own_of M w e) z)
          → Keyed key_is (effects_of (out_by M w (stepper M w e) (own_of M w e) z) ++ left_of M (outs M es (world_by M w (stepper M w e) (own_of M w e) z)))
      by_item rest None p more = rest w more
      by_item rest (Some s) p more =
          let f : Fine (stepper M w e) s = fine.0.each (stepper M w e) s p in
          keyed_append key_is _ _ (step_keyed (stepper M w e) s _ f (own_step M (length w) (stepper M w e) s f.lives (own_of M w e))) (rest _ more)

  pub no_more_leaves : (es : List (Event M)) (w : List (Node M.Body)) → Always M FineNow es w → (test : M.Effect → Bool) → count test (left_of M (outs M es w)) ≤ count test (all_effects M.effects (history l))
  no_more_leaves es w fine test =
      no_more key_is (λ e i b j d p q. key_unique owner boots (M.class e) i b j d p q) test (left_of M (outs M es w)) (all_effects M.effects (history l))
      (keyed es w fine) (λ i b. bounded test i b es w fine)

-- What looks and applies answer, and what stays within a run.
use Rattle.std.proofs.Common.{◌≡◌, ℕ, zero, suc, pred, ◌+◌, ◌<◌, ◌≤◌, Bool, true, false, ltb, eqb, List, [], ◌∷◌, ◌++◌, Option, Some, None, IsTrue, length, take, drop, refl, sym, ap, subst, ◌∙◌, arith, take-append-drop}
use Rattle.std.specs.Prelude.{slice_get, if◌then◌else◌}
use Rattle.std.proofs.lemmas.Bool.{cond_both, ltb-true, ltb-false, eqb-true, eq-eqb}
use Rattle.raft_log.specs.Lists.{item, with_item}
use Rattle.raft_log.specs.declared.entry.Entry.{Entry}
use Rattle.raft_log.specs.declared.role.Role.TheVariants.{Leader}
use Rattle.raft_log.specs.Node.{Node}
use Rattle.agreement.specs.World.{start}
use Rattle.raft_node.specs.Machine.{Machine, history}
use Rattle.world_run.proofs.Places.{came_of}
use Rattle.machine_laws.specs.Runs.{all_effects}
use Rattle.std.specs.Prelude.{filter}
use Rattle.world_run.proofs.Tallies.{All}
use Rattle.node_steps.specs.declared.refusal.Refusal.TheVariants.{BadOrigin, Behind, NoLeader}
use Rattle.node_steps.specs.Asking.{finds_leader, may_ask}
use Rattle.raft_node.specs.Steps.{Out, Left, Looked, Refused, Turn, asked, asks, quiet, refused, leaving, leaves, applied_history, applied, apply_next, looked, own, effects_of}
use Rattle.world_run.specs.World.{Event, Does, Restart, StopIn, Look, Apply, Ask, act_of, begins_run, stepper, own_of, world_by, out_by, happens, out_of, outs, run, moment, agreed, left, left_of}
use Rattle.agreement.proofs.Lists.{begins_length, length_take}
use Rattle.world_run.specs.Laws.{OverAll, LooksAreFaithful, ApplyIsFaithful, AppliedStays, AskedInItsRun, NewIdIsNew, NewRunNewBoot}
use Rattle.world_run.proofs.Lowers.{Always}
use Rattle.raft_node.proofs.Fares.{Lives, stop_boot, GoesOn, Applied, Step, InRun, NewRun, own_step}
use Rattle.world_run.proofs.Tallies.{not_both}
use Rattle.world_run.proofs.Places.{shared, shared_item, history_push, came_append}
use Rattle.world_run.proofs.Leaving.{Fine, FineNow, front_same, item_with_same, item_with_other}
use Rattle.world_run.proofs.Holds.{Whole, whole, fine_at}

module _ (M : Machine) where
  out_at : (es : List (Event M)) (w : List (Node M.Body)) (m : ℕ) (e : Event M) (o : Out M) → slice_get es m ≡ Some e → slice_get (outs M es w) m ≡ Some o → out_of M (run M (take m es) w) e ≡ o
  out_at [] w m e o at out = absurd (cc at)
  out_at (x ∷ es) w zero e o at out = let same : x ≡ e = cc at in subst (λ z. out_of M w z ≡ o) same (cc out)
  out_at (x ∷ es) w (suc m) e o at out = out_at es (happens M w x) m e o at out

  -- looks

  abbrev Plays : List (Entry M.Body) → ℕ → ℕ → M.Target → List M.Played → Type 0
  Plays l from place target lines = (from ≤ place) × (place ≤ length l) × (lines ≡ M.playback (history (take place l)) target)

  module _ (size : ℕ) (es : List (Event M)) (h : Whole M size es) where
    abbrev l : List (Entry M.Body)
    l = agreed M size es

    abbrev FineHere : ℕ → Node M.Body → Type 0
    FineHere i s = Fine M h.owner h.boots (agreed M size es) i s

    applied_short : (i : ℕ) (s : Node M.Body) → FineHere i s → s.applied ≤ length (agreed M size es)
    applied_short i s f =
        omega (arith, f.applied_in, begins_length (take s.commit s.log) (agreed M size es) f.begins, length_take s.commit s.log f.commit_in)

    looked_plays : (i : ℕ) (s : Node M.Body) → FineHere i s → (from place : ℕ) (target : M.Target) (lines : List M.Played) → (looked M s from target).out ≡ Looked place lines → Plays (agreed M size es) from place target lines
    looked_plays i s f from place target lines =
        cond_both (ltb s.applied from) (refused M s (Behind s.applied)) (record { node = s; out = Looked s.applied (M.playback (applied_history M s) target) }) (λ (z : Turn M). z.out ≡ Looked place lines → Plays (agreed M size es) from place target lines)
        (λ c e. absurd (cc e))
        (λ c e.
        let at_place : s.applied ≡ place = cc e in
        let plays : M.playback (applied_history M s) target ≡ lines = cc e in
        let front : take s.applied s.log ≡ take s.applied (agreed M size es) = front_same M h.owner h.boots (agreed M size es) i s f in
        subst (λ p. Plays (agreed M size es) from p target lines) at_place
        (ltb-false s.applied from c, applied_short i s f, sym plays ∙ ap (λ z. M.playback (history z) target) front))

    abbrev Brings : ℕ → Node M.Body → ℕ → List M.Effect → Type 0
    Brings i s place effects =
        (e : Entry M.Body) × (item (agreed M size es) place ≡ Some e) × (effects ≡ leaving M i s (M.effects (history (take (pred place) (agreed M size es))) place e.body))

    applied_brings : (i : ℕ) (s : Node M.Body) → FineHere i s → (place : ℕ) (effects : List M.Effect) → s.applied < s.commit → (o : Option (Entry M.Body)) → item s.log (suc s.applied) ≡ o → (applied M i s o).out ≡ Left place effects → Brings i s place effects
    applied_brings i s f place effects lt None at e = absurd (cc e)
    applied_brings i s f place effects lt (Some x) at e =
        let at_place : suc s.applied ≡ place = cc e in
        let those : leaving M i s (M.effects (applied_history M s) (suc s.applied) x.body) ≡ effects = cc e in
        let front : take s.applied s.log ≡ take s.applied (agreed M size es) = front_same M h.owner h.boots (agreed M size es) i s f in
        subst (λ p. Brings i s p effects) at_place
        (x, shared_item s.log (agreed M size es) s.commit s.applied x f.begins lt at, sym those ∙ ap (λ z. leaving M i s (M.effects (history z) (suc s.applied) x.body)) front)

    apply_brings : (i : ℕ) (s : Node M.Body) → FineHere i s → (place : ℕ) (effects : List M.Effect) → (apply_next M i s).out ≡ Left place effects → Brings i s place effects
    apply_brings i s f place effects =
        cond_both (ltb s.applied s.commit) (applied M i s (item s.log (suc s.applied))) (quiet M s) (λ (z : Turn M). z.out ≡ Left place effects → Brings i s place effects)
        (λ c e. applied_brings i s f place effects (ltb-true s.applied s.commit c) (item s.log (suc s.applied)) refl e)
        (λ c e. absurd (cc e))

    look_out : (w : List (Node M.Body)) → FineNow M h.owner h.boots (agreed M size es) w → (i from place : ℕ) (target : M.Target) (lines : List M.Played) → out_of M w (Does (Look i from target)) ≡ Looked place lines → Plays (agreed M size es) from place target lines
    look_out w now i from place target lines = by_item (item w i) refl
      where
        by_item : (o : Option (Node M.Body)) → item w i ≡ o → out_by M w i (own_of M w (Does (Look i from target))) o ≡ Looked place lines → Plays (agreed M size es) from place target lines
        by_item None at e = absurd (cc e)
        by_item (Some s) at e = looked_plays i s (now.each i s at) from place target lines e

  pub looks_are_faithful : OverAll M LooksAreFaithful
  looks_are_faithful size es zero i from place target lines at out = absurd (cc at)
  looks_are_faithful size es (suc m) i from place target lines at out =
      let h : Whole M size es = whole M size es in
      look_out size es h (moment M size es m) (record { each = λ a s here. fine_at M size es h m a s here }) i from place target lines
      (out_at es (start size) m (Does (Look i from target)) (Looked place lines) at out)

  pub apply_is_faithful : OverAll M ApplyIsFaithful
  apply_is_faithful size es zero i place effects s at here out = absurd (cc at)
  apply_is_faithful size es (suc m) i place effects s at here out =
      let h : Whole M size es = whole M size es in
      apply_brings size es h i s (fine_at M size es h m i s here) place effects
      (subst (λ o. out_by M (moment M size es m) i (own_of M (moment M size es m) (Does (Apply i))) o ≡ Left place effects) here
      (out_at es (start size) m (Does (Apply i)) (Left place effects) at out))

  -- requests

  -- the result of asking for a body, by whether it may be asked for
  abbrev turn_by : ℕ → Node M.Body → M.Body → Bool → Turn M
  turn_by i s body b = if b then (if finds_leader s s.leader then asks M i s body else refused M s NoLeader) else refused M s BadOrigin

  asked_out : (i : ℕ) (s : Node M.Body) (body : M.Body) (out : Out M) → (asked M i s body).out ≡ out → (out ≡ Refused BadOrigin → ⊥) → may_ask i s (M.source body) ≡ true
  asked_out i s body out is fine = by (may_ask i s (M.source body)) is
    where
      by : (b : Bool) → (turn_by i s body b).out ≡ out → b ≡ true
      by true e = refl
      by false e = absurd (fine (sym e))

  pub asked_in_its_run : OverAll M AskedInItsRun
  asked_in_its_run size es zero i body s out at here came fine = absurd (cc at)
  asked_in_its_run size es (suc m) i body s out at here came fine =
      asked_out i s body out
      (subst (λ o. out_by M (moment M size es m) i (own_of M (moment M size es m) (Does (Ask i body))) o ≡ out) here
      (out_at es (start size) m (Does (Ask i body)) out at came)) fine

  -- each effect that leaves is one that the agreed list brings about

  all_left : (P : M.Effect → Type 0) (xs ys : List M.Effect) → All P (xs ++ ys) → All P xs × All P ys
  all_left P [] ys h = (tt, h)
  all_left P (x ∷ xs) ys h = let r : All P xs × All P ys = all_left P xs ys h.1 in ((h.0, r.0), r.1)

  all_join : (P : M.Effect → Type 0) (xs ys : List M.Effect) → All P xs → All P ys → All P (xs ++ ys)
  all_join P [] ys a b = b
  all_join P (x ∷ xs) ys a b = (a.0, all_join P xs ys a.1 b)

  all_kept : (P : M.Effect → Type 0) (k : M.Effect → Bool) (xs : List M.Effect) → All P xs → All P (filter k xs)
  all_kept P k [] h = tt
  all_kept P k (x ∷ xs) h = cond_both (k x) (x ∷ filter k xs) (filter k xs) (All P) (λ e. (h.0, all_kept P k xs h.1)) (λ e. all_kept P k xs h.1)

  all_came : (P : M.Effect → Type 0) (p : ℕ) (xs : List (Entry M.Body)) (h : List (ℕ × M.Body)) → All P (all_effects M.effects (came_of p xs h)) → All P (all_effects M.effects h)
  all_came P p [] h a = a
  all_came P p (x ∷ xs) h a = (all_left P (all_effects M.effects h) (M.effects h p x.body) (all_came P (p + 1) xs ((p, x.body) ∷ h) a)).0

  all_at : (P : M.Effect → Type 0) (l : List (Entry M.Body)) (k : ℕ) (e : Entry M.Body) → item l (suc k) ≡ Some e → All P (all_effects M.effects (history l)) → All P (M.effects (history (take k l)) (suc k) e.body)
  all_at P l k e at a =
      let whole_is : history l ≡ came_of (1 + length (take (suc k) l)) (drop (suc k) l) (history (take (suc k) l)) =
      ap history (sym (take-append-drop (suc k) l)) ∙ came_append 1 (take (suc k) l) (drop (suc k) l) [] in
      let b : All P (all_effects M.effects (history (take (suc k) l))) =
      all_came P (1 + length (take (suc k) l)) (drop (suc k) l) (history (take (suc k) l)) (subst (λ z. All P (all_effects M.effects z)) whole_is a) in
      let c : All P (all_effects M.effects ((suc k, e.body) ∷ history (take k l))) = subst (λ z. All P (all_effects M.effects z)) (history_push l k e at) b in
      (all_left P (all_effects M.effects (history (take k l))) (M.effects (history (take k l)) (suc k) e.body) c).1

  module _ (owner : ℕ → Option ℕ) (boots : ℕ → ℕ) (l : List (Entry M.Body)) (P : M.Effect → Type 0) (those : All P (all_effects M.effects (history l))) where
    step_all : (j : ℕ) (s : Node M.Body) (u : Turn M) → Fine M owner boots l j s → Step M j s u → All P (effects_of u.out)
    step_all j s u f (InRun (GoesOn g e)) = subst (All P) (sym e) tt
    step_all j s u f (InRun (Applied x lt at e)) =
        subst (λ (z : Turn M). All P (effects_of z.out)) (sym e)
        (all_kept P (λ y. leaves j s.boot s.live (M.class y)) (M.effects (applied_history M s) (suc s.applied) x.body)
        (subst (λ z. All P (M.effects (history z) (suc s.applied) x.body)) (sym (front_same M owner boots l j s f))
        (all_at P l s.applied x (shared_item s.log l s.commit s.applied x f.begins lt at) those)))
    step_all j s u f (NewRun bo ap' li e) = subst (All P) (sym e) tt

    outs_all : (es : List (Event M)) (w : List (Node M.Body)) → Always M (FineNow M owner boots l) es w → All P (left_of M (outs M es w))
    outs_all [] w fine = tt
    outs_all (e ∷ es) w fine = by_item (λ v more. outs_all es v more) (item w (stepper M w e)) refl fine.1
      where
        by_item : ((v : List (Node M.Body)) → Always M (FineNow M owner boots l) es v → All P (left_of M (outs M es v))) → (z : Option (Node M.Body)) → item w (stepper M w e) ≡ z → Always M (FineNow M owner boots l) es (world_by M w (stepper M w e) (own_of M w e) z)
            → All P (effects_of (out_by M w (stepper M w e) (own_of M w e) z) ++ left_of M (outs M es (world_by M w (stepper M w e) (own_of M w e) z)))
        by_item rest None p more = rest w more
        by_item rest (Some s) p more =
            let f : Fine M owner boots l (stepper M w e) s = fine.0.each (stepper M w e) s p in
            all_join P _ _ (step_all (stepper M w e) s _ f (own_step M (length w) (stepper M w e) s f.lives (own_of M w e))) (rest _ more)

  -- what holds for each effect that the agreed list brings about holds for each that leaves
  pub leaves_of_agreed : (size : ℕ) (es : List (Event M)) (P : M.Effect → Type 0) → All P (all_effects M.effects (history (agreed M size es))) → All P (left M size es)
  leaves_of_agreed size es P h = let w : Whole M size es = whole M size es in outs_all w.owner w.boots (agreed M size es) P h es (start size) w.fine

  -- what stays within a run

  record Later (s t : Node M.Body) : Type 0 where
    boots_up : s.boot ≤ t.boot
    applied_up : s.boot ≡ t.boot → s.applied ≤ t.applied
    attempts_up : s.boot ≡ t.boot → s.attempts ≤ t.attempts

  later_self : (s : Node M.Body) → Later s s
  later_self s = record { boots_up = omega arith; applied_up = λ e. omega arith; attempts_up = λ e. omega arith }

  later_on : (s t u : Node M.Body) → Later s t → Later t u → Later s u
  later_on s t u a b =
      record {
        boots_up = omega (arith, a.boots_up, b.boots_up);
        applied_up = λ e.
            let x : s.boot ≡ t.boot = omega (arith, a.boots_up, b.boots_up) in
            let y : t.boot ≡ u.boot = omega (arith, a.boots_up, b.boots_up) in
            omega (arith, a.applied_up x, b.applied_up y);
        attempts_up = λ e.
            let x : s.boot ≡ t.boot = omega (arith, a.boots_up, b.boots_up) in
            let y : t.boot ≡ u.boot = omega (arith, a.boots_up, b.boots_up) in
            omega (arith, a.attempts_up x, b.attempts_up y);
      }

  step_later : (i : ℕ) (s : Node M.Body) (u : Turn M) → Step M i s u → Later s u.node
  step_later i s u (InRun (GoesOn g e)) = record { boots_up = omega (arith, g.boot_is); applied_up = λ h. omega (arith, g.applied_is); attempts_up = λ h. g.attempts_up }
  step_later i s u (InRun (Applied x lt at e)) = subst (λ (z : Turn M). Later s z.node) (sym e) (record { boots_up = omega arith; applied_up = λ h. omega arith; attempts_up = λ h. omega arith })
  step_later i s u (NewRun bo ap' li e) = record { boots_up = omega (arith, bo); applied_up = λ h. absurd (omega (arith, bo, h)); attempts_up = λ h. absurd (omega (arith, bo, h)) }

  -- a node that is there is there after an event, in the same run or a later one
  record Next (a : ℕ) (w : List (Node M.Body)) (s : Node M.Body) : Type 0 where
    node : Node M.Body
    here : item w a ≡ Some node
    later : Later s node

  module _ (owner : ℕ → Option ℕ) (boots : ℕ → ℕ) (l : List (Entry M.Body)) (a : ℕ) where
    next : (w : List (Node M.Body)) (e : Event M) (s : Node M.Body) → FineNow M owner boots l w → item w a ≡ Some s → Next a (happens M w e) s
    next w e s fine at = by_item (item w (stepper M w e)) refl
      where
        by_item : (o : Option (Node M.Body)) → item w (stepper M w e) ≡ o → Next a (world_by M w (stepper M w e) (own_of M w e) o) s
        by_item None p = record { node = s; here = at; later = later_self s }
        by_item (Some x) p =
            let f : Fine M owner boots l (stepper M w e) x = fine.each (stepper M w e) x p in
            same_or (stepper M w e) x (own M (length w) (stepper M w e) (own_of M w e) x) p (own_step M (length w) (stepper M w e) x f.lives (own_of M w e))
          where
            same_or : (j : ℕ) (x : Node M.Body) (u : Turn M) → item w j ≡ Some x → Step M j x u → Next a (with_item w j u.node) s
            same_or j x u p step = decide' (eqb j a) refl
              where
                decide' : (b : Bool) → eqb j a ≡ b → Next a (with_item w j u.node) s
                decide' true h =
                    let ja : j ≡ a = eqb-true j a h in
                    let xs : x ≡ s = cc (p, at, ap (item w) ja) in
                    record { node = u.node; here = subst (λ k. item (with_item w j u.node) k ≡ Some u.node) ja (item_with_same w j u.node x p); later = subst (λ z. Later z u.node) xs (step_later j x u step) }
                decide' false h =
                    record { node = s; here = item_with_other w j a u.node (λ q. not_both (eqb j a) (eq-eqb j a q) h) ∙ at; later = later_self s }

    from_here : (es : List (Event M)) (w : List (Node M.Body)) (k : ℕ) (s t : Node M.Body) → Always M (FineNow M owner boots l) es w → item w a ≡ Some s → item (run M (take k es) w) a ≡ Some t → Later s t
    from_here es w zero s t fine x y = let same : s ≡ t = cc (x, y) in subst (Later s) same (later_self s)
    from_here [] w (suc k) s t fine x y = let same : s ≡ t = cc (x, y) in subst (Later s) same (later_self s)
    from_here (e ∷ es) w (suc k) s t fine x y =
        let n : Next a (happens M w e) s = next w e s fine.0 x in
        later_on s n.node t n.later (from_here es (happens M w e) k n.node t fine.1 n.here y)

    between : (es : List (Event M)) (w : List (Node M.Body)) (j k : ℕ) (s t : Node M.Body) → j ≤ k → Always M (FineNow M owner boots l) es w → item (run M (take j es) w) a ≡ Some s → item (run M (take k es) w) a ≡ Some t → Later s t
    between es w zero k s t le fine x y = from_here es w k s t fine x y
    between es w (suc j) zero s t le fine x y = absurd (omega arith)
    between [] w (suc j) (suc k) s t le fine x y = let same : s ≡ t = cc (x, y) in subst (Later s) same (later_self s)
    between (e ∷ es) w (suc j) (suc k) s t le fine x y = between es (happens M w e) j k s t (omega arith) fine.1 x y

  pub applied_stays : OverAll M AppliedStays
  applied_stays size es j k a s t le x y =
      let h : Whole M size es = whole M size es in
      let later : Later s t = between h.owner h.boots (agreed M size es) a es (start size) j k s t le h.fine x y in
      let f = fine_at M size es h j a s x in
      let g = fine_at M size es h k a t y in (
        later.boots_up,
        λ e.
            let up : s.applied ≤ t.applied = later.applied_up e in (
              up,
              shared t.log (agreed M size es) t.commit s.applied g.begins (omega (arith, up, g.applied_in)) g.commit_in
                  ∙ sym (front_same M h.owner h.boots (agreed M size es) a s f),
            ),
      )

  pub new_id_is_new : OverAll M NewIdIsNew
  new_id_is_new size es j k a b s t live le x y e lead same =
      let h : Whole M size es = whole M size es in
      let f = fine_at M size es h j a s x in
      let g = fine_at M size es h k b t y in
      let v : (s.role ≡ Leader) × (live.id.0 ≡ s.term) × (live.id.1 ≤ s.attempts) = f.lives.of live e in
      let terms : t.term ≡ s.term = ap (λ (z : ℕ × ℕ). z.0) same ∙ v.1 in
      let attempt : suc t.attempts ≡ live.id.1 = ap (λ (z : ℕ × ℕ). z.1) same in
      let p : (h.owner s.term ≡ Some a) × (h.boots s.term ≡ s.boot) = f.leads v.0 in
      let q : (h.owner t.term ≡ Some b) × (h.boots t.term ≡ t.boot) = g.leads lead in
      let r : h.owner s.term ≡ Some b = subst (λ z. h.owner z ≡ Some b) terms q.0 in
      let ab : a ≡ b = cc (p.0, r) in
      let boot : s.boot ≡ t.boot = sym p.1 ∙ (ap h.boots (sym terms) ∙ q.1) in
      let later : Later s t = between h.owner h.boots (agreed M size es) a es (start size) j k s t le h.fine x (subst (λ i. item (moment M size es k) i ≡ Some t) (sym ab) y) in
      absurd (omega (arith, later.attempts_up boot, v.2, attempt))

  -- a new run

  begins_boot : (n i : ℕ) (w : List (Node M.Body)) (e : Event M) (s : Node M.Body) → Lives s → IsTrue (begins_run M e) → (own M n i (own_of M w e) s).node.boot ≡ suc s.boot
  begins_boot n i w (Does x) s v b = absurd (cc b)
  begins_boot n i w (Restart j) s v b = refl
  begins_boot n i w (StopIn x after) s v b = stop_boot M n i s v (act_of M w x) after

  run_next : (es : List (Event M)) (w : List (Node M.Body)) (m : ℕ) (e : Event M) → slice_get es m ≡ Some e → run M (take (suc m) es) w ≡ happens M (run M (take m es) w) e
  run_next [] w m e at = absurd (cc at)
  run_next (x ∷ es) w zero e at = let same : x ≡ e = cc at in ap (happens M w) same
  run_next (x ∷ es) w (suc m) e at = run_next es (happens M w x) m e at

  pub new_run_new_boot : OverAll M NewRunNewBoot
  new_run_new_boot size es zero a e s t at x y step b = absurd (cc at)
  new_run_new_boot size es (suc m) a e s t at x y step b =
      let w : List (Node M.Body) = moment M size es m in
      let h : Whole M size es = whole M size es in
      let f = fine_at M size es h m a s x in
      let here : item (moment M size es m) (stepper M (moment M size es m) e) ≡ Some s = subst (λ i. item (moment M size es m) i ≡ Some s) (sym step) x in
      let next : run M (take (suc m) es) (start size) ≡ world_by M (moment M size es m) (stepper M (moment M size es m) e) (own_of M (moment M size es m) e) (Some s) =
      run_next es (start size) m e at ∙ ap (world_by M (moment M size es m) (stepper M (moment M size es m) e) (own_of M (moment M size es m) e)) here in
      let there : item (run M (take (suc m) es) (start size)) (stepper M (moment M size es m) e) ≡ Some (own M (length (moment M size es m)) (stepper M (moment M size es m) e) (own_of M (moment M size es m) e) s).node =
      subst (λ z. item z (stepper M (moment M size es m) e) ≡ Some (own M (length (moment M size es m)) (stepper M (moment M size es m) e) (own_of M (moment M size es m) e) s).node) (sym next)
      (item_with_same (moment M size es m) (stepper M (moment M size es m) e) _ s here) in
      let y' : item (run M (take (suc m) es) (start size)) (stepper M (moment M size es m) e) ≡ Some t = subst (λ i. item (run M (take (suc m) es) (start size)) i ≡ Some t) (sym step) y in
      let is : (own M (length (moment M size es m)) (stepper M (moment M size es m) e) (own_of M (moment M size es m) e) s).node ≡ t = cc (there, y') in
      ap (λ (z : Node M.Body). z.boot) (sym is) ∙ begins_boot (length (moment M size es m)) (stepper M (moment M size es m) e) (moment M size es m) e s f.lives b

-- What leaves after events that end with no session of a term.
use Rattle.std.proofs.Common.{◌≡◌, ℕ, suc, ◌==◌, Bool, true, List, [], ◌∷◌, ◌++◌, filter, length, Option, Some, None, refl, sym, ap, subst, ◌∙◌, arith, append_assoc}
use Rattle.std.proofs.lemmas.List.{take_all}
use Rattle.std.proofs.lemmas.Bool.{cond_both}
use Rattle.irc_line.specs.Lines.{Parts}
use Rattle.wire_bytes.specs.declared.session_id.SessionId.{SessionId}
use Rattle.machine_laws.specs.declared.class.Class.{Class}
use Rattle.machine_laws.specs.declared.class.Class.TheVariants.{To, Hand, Rejoin, Nowhere}
use Rattle.raft_log.specs.declared.node_state.Live.{Live}
use Rattle.raft_log.specs.Lists.{item}
use Rattle.raft_log.specs.Node.{Node}
use Rattle.raft_node.specs.Machine.{Machine}
use Rattle.raft_node.specs.Steps.{Own, Turn, effects_of, applied_history, is_session, leaves, own}
use Rattle.raft_node.proofs.Fares.{Applied, GoesOn, InRun, Lives, NewRun, Step, own_step}
use Rattle.agreement.specs.World.{start}
use Rattle.world_run.specs.World.{Event, happens, left_of, moment, out_by, out_of, outs, own_of, run, stepper}
use Rattle.world_run.proofs.Holds.{fine_at, whole}
use Rattle.world_run.proofs.Tallies.{All}
use Rattle.world_views.proofs.Histories.{run-append}
use Rattle.store_life.proofs.Lists.{both_true, no_way, same_numbers}

-- what passes a test
pub all_passing : {A : Type 0} (P : A → Type 0) (k : A → Bool) (xs : List A) → ((x : A) → k x ≡ true → P x) → All P (filter k xs)
all_passing P k [] f = tt
all_passing P k (x ∷ xs) f =
    cond_both (k x) (x ∷ filter k xs) (filter k xs) (All P) (λ e. (f x e, all_passing P k xs f)) (λ e. all_passing P k xs f)

pub all_join : {A : Type 0} (P : A → Type 0) (xs ys : List A) → All P xs → All P ys → All P (xs ++ ys)
all_join P [] ys a b = b
all_join P (x ∷ xs) ys a b = (a.0, all_join P xs ys a.1 b)

-- it hands out no line of a session of this term
abbrev pub IsForeign : ℕ → Class Parts → Type 0
IsForeign T (To o) = Unit {0}
IsForeign T (Hand id n line) = id.0 ≡ T → ⊥
IsForeign T (Rejoin id line) = Unit {0}
IsForeign T Nowhere = Unit {0}

session_is : (o : Option Live) (T : ℕ) (id : SessionId) → ((live : Live) → o ≡ Some live → live.id.0 ≡ T → ⊥) → is_session o id ≡ true → id.0 ≡ T → ⊥
session_is None T id h e same = no_way e
session_is (Some live) T id h e same = h live refl (same_numbers live.id.0 id.0 (both_true (live.id.0 == id.0) (live.id.1 == id.1) e).0 ∙ same)

leaves_foreign : (i boot T : ℕ) (o : Option Live) (c : Class Parts) → ((live : Live) → o ≡ Some live → live.id.0 ≡ T → ⊥) → leaves i boot o c ≡ true → IsForeign T c
leaves_foreign i boot T o (To origin) h e = tt
leaves_foreign i boot T o (Hand id n line) h e = session_is o T id h e
leaves_foreign i boot T o (Rejoin id line) h e = tt
leaves_foreign i boot T o Nowhere h e = tt

module _ (M : Machine) (size T : ℕ) where
  -- no node of this world has a live session of this term
  abbrev pub HasNone : List (Node M.Body) → Type 0
  HasNone w = (a : ℕ) (s : Node M.Body) (live : Live) → item w a ≡ Some s → s.live ≡ Some live → live.id.0 ≡ T → ⊥

  step_foreign : (j : ℕ) (s : Node M.Body) (u : Turn M) → ((live : Live) → s.live ≡ Some live → live.id.0 ≡ T → ⊥) → Step M j s u → All (λ e. IsForeign T (M.class e)) (effects_of u.out)
  step_foreign j s u h (InRun (GoesOn g e)) = subst (All (λ e. IsForeign T (M.class e))) (sym e) tt
  step_foreign j s u h (InRun (Applied x lt at e)) =
      subst (λ (z : Turn M). All (λ e. IsForeign T (M.class e)) (effects_of z.out)) (sym e)
      (all_passing (λ y. IsForeign T (M.class y)) (λ y. leaves j s.boot s.live (M.class y)) (M.effects (applied_history M s) (suc s.applied) x.body) (λ y k. leaves_foreign j s.boot T s.live (M.class y) h k))
  step_foreign j s u h (NewRun bo ap' li e) = subst (All (λ e. IsForeign T (M.class e))) (sym e) tt

  module _ (before : List (Event M)) (none : (es : List (Event M)) → HasNone (run M (before ++ es) (start size))) where
    out_foreign : (es : List (Event M)) (i : ℕ) (o : Own M) (z : Option (Node M.Body)) → item (run M (before ++ es) (start size)) i ≡ z
        → All (λ e. IsForeign T (M.class e)) (effects_of (out_by M (run M (before ++ es) (start size)) i o z))
    out_foreign es i o None at = tt
    out_foreign es i o (Some s) at =
        let w : List (Node M.Body) = run M (before ++ es) (start size) in
        let now : moment M size (before ++ es) (length (before ++ es)) ≡ w = ap (λ l. run M l (start size)) (take_all (length (before ++ es)) (before ++ es) (omega arith)) in
        let there : item (moment M size (before ++ es) (length (before ++ es))) i ≡ Some s = ap (λ (v : List (Node M.Body)). item v i) now ∙ at in
        let lives : Lives s = (fine_at M size (before ++ es) (whole M size (before ++ es)) (length (before ++ es)) i s there).lives in
        step_foreign i s (own M (length w) i o s) (λ live e same. none es i s live at e same) (own_step M (length w) i s lives o)

    -- what leaves after these events hands out no line of such a session
    pub all_foreign : (later es : List (Event M)) → All (λ e. IsForeign T (M.class e)) (left_of M (outs M later (run M (before ++ es) (start size))))
    all_foreign [] es = tt
    all_foreign (e ∷ later) es =
        let w : List (Node M.Body) = run M (before ++ es) (start size) in
        let next : happens M w e ≡ run M (before ++ (es ++ e ∷ [])) (start size) =
        sym (run-append M (before ++ es) (e ∷ []) (start size)) ∙ ap (λ l. run M l (start size)) (append_assoc before es (e ∷ [])) in
        all_join (λ y. IsForeign T (M.class y)) (effects_of (out_of M w e)) (left_of M (outs M later (happens M w e)))
        (out_foreign es (stepper M w e) (own_of M w e) (item w (stepper M w e)) refl)
        (subst (λ (v : List (Node M.Body)). All (λ y. IsForeign T (M.class y)) (left_of M (outs M later v))) (sym next) (all_foreign later (es ++ e ∷ [])))

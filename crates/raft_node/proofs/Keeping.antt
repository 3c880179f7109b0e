-- A step of a state is saved, or needs no save.
use Rattle.std.proofs.Common.{◌≡◌, ℕ, ◌↔◌, List, [], ◌∷◌, ◌++◌, inl, inr, length, take, Option, Result, Ok, Err, refl, sym, ap, subst, ◌∙◌, arith, append-nil, Bool, true, false, IsTrue, ⊎_elim}
use Rattle.std.specs.Prelude.{OnErr, OnOk}
use Rattle.std.specs.Result.{is_err}
use Rattle.std.proofs.lemmas.List.{take_all}
use Rattle.raft_log.specs.declared.entry.Entry.{Entry}
use Rattle.raft_log.specs.declared.node_state.NodeState.{NodeState}
use Rattle.raft_log.specs.declared.step.Step.{Step}
use Rattle.raft_log.specs.Seen.{seen}
use Rattle.raft_log.specs.Steps.{IsSavable, after, log_after}
use Rattle.stable_store.specs.declared.saved.Saved.{Saved}
use Rattle.stable_store.specs.Changes.{ChangeParts, change}
use Rattle.stable_store.specs.Stores.{IsHonest, MayFollow, NamesNode, Serves, changed}
use Rattle.raft_node.specs.declared.node_fault.Cause.{Cause}
use Rattle.raft_node.specs.declared.node_fault.Cause.TheVariants.{Memory}
use Rattle.raft_node.specs.Kept.{IsKept, IsStill, IsTaken, MayTake}
use Rattle.raft_node.specs.Parts.{Holds, Keeper, MayHold, saved_by}

pub when_err : {A E P : Type 0} (r : Result A E) → is_err r ≡ true → OnErr r P → P
when_err (Ok x) h p = absurd (cc h)
when_err (Err e) h p = p

pub when_ok : {A E P : Type 0} (r : Result A E) → is_err r ≡ false → OnOk r P → P
when_ok (Ok x) h p = p
when_ok (Err e) h p = absurd (cc h)

module _ {B : Type 0} where
  -- what a step saves
  abbrev pub change_of : Step B → ChangeParts B
  change_of step = change step.standing.boot step.standing.term step.standing.vote step.keep step.entries.items

  saved_with : ℕ → ℕ → Option ℕ → List (Entry B) → Saved B
  saved_with boot term vote log = record { boot = boot; term = term; vote = vote; log = log }

  none_added : (log entries : List (Entry B)) (keep : ℕ) → keep ≡ length log → length entries ≡ 0 → log ≡ take keep log ++ entries
  none_added log [] keep e z = sym (append-nil (take keep log) ∙ take_all keep log (omega arith))
  none_added log (x ∷ entries) keep e z = absurd (omega arith)

  -- a step that changes nothing to save leaves what is saved unchanged
  pub saved_still : (state : NodeState B) (step : Step B) → IsSavable state.standing state.log step
      → IsStill state step.standing step.keep (length step.entries.items)
      → saved_by (seen state []) ≡ saved_by (seen (after state step) [])
  saved_still state step s h =
      let logs : state.log ≡ log_after state.log step = none_added state.log step.entries.items step.keep h.2 h.3 in
      cc (s.boot, h.0, h.1, logs)

module _ {Store B : Type 0} (k : Keeper Store B) where
  pub may_take : (store : Store) (state : NodeState B) (step : Step B) → Holds k store state → IsSavable state.standing state.log step
      → NamesNode step.standing.vote → MayTake k store (change_of step)
  may_take store state step h s v honest =
      let r = h honest in (
        r.0,
        subst (λ (x : Saved B). MayFollow x (change_of step)) (sym r.1)
            (record { kept = s.kept; room = s.room; boot = omega (arith, s.boot); term = s.term; vote = v }),
      )

  -- The store holds a step of a state, or did before.
  pub record IsSaved (old : Store) (state after : NodeState B) (new : Store) : Type 0 where
    pub honest : (k.condition new).honest ≡ (k.condition old).honest
    pub passed : IsHonest (k.condition old) → (k.condition new).failures ≡ (k.condition old).failures
    pub stands : Holds k new after
    pub may_hold : MayHold k new state (seen after [])

  pub still_saves : (sure : (s : Store) (v : Saved B) → Serves (k.condition s) → k.may_stand s v ↔ (v ≡ k.saved s))
      → (old new : Store) (state : NodeState B) (step : Step B) → Holds k old state → IsSavable state.standing state.log step
      → IsStill state step.standing step.keep (length step.entries.items) → new ≡ old → IsSaved old state (after state step) new
  still_saves sure old new state step h s t e =
      subst (λ (x : Store). IsSaved old state (after state step) x) (sym e)
      (record {
        honest = refl;
        passed = λ honest. refl;
        stands = λ honest. let r = h honest in (r.0, r.1 ∙ saved_still state step s t);
        may_hold = λ honest v m. let r = h honest in inl ((sure old v r.0).0 m ∙ r.1);
      })

  pub taken_saves : {A : Type 0} (a : A) (old mid new : Store) (state : NodeState B) (step : Step B) → Holds k old state
      → IsTaken k old (change_of step) mid (Ok a) → new ≡ mid → IsSaved old state (after state step) new
  taken_saves a old mid new state step h t e =
      subst (λ (x : Store). IsSaved old state (after state step) x) (sym e) (record {
        honest = t.honest;
        passed = t.passed;
        stands = λ honest.
            let was : IsHonest (k.condition old) = honest_before honest in
            let d = t.done was in
            (d.0, d.1 ∙ ap (λ (x : Saved B). changed x (change_of step)) (h was).1);
        may_hold = λ honest v m.
            let was : IsHonest (k.condition old) = honest_before honest in
            ⊎_elim (λ e. inl (e ∙ (h was).1)) (λ e. inr (e ∙ ap (λ (x : Saved B). changed x (change_of step)) (h was).1)) (t.may_stand was v m);
      })
    where
      honest_before : IsHonest (k.condition mid) → IsHonest (k.condition old)
      honest_before h = subst (λ (b : Bool). IsTrue b) t.honest h

  abbrev made : {A : Type 0} → A → Result A Cause
  made a = Ok a

  -- the step took effect
  pub kept : {A : Type 0} (a : A) (old new : Store) (state now : NodeState B) (step : Step B) → IsSaved old state (after state step) new
      → now ≡ after state step → IsKept k old state (after state step) new now (made a)
  kept a old new state now step h e =
      record { honest = h.honest; stands = (e, h.stands); blamed = tt; may_hold = h.may_hold }

  -- there was no room for it
  pub not_kept : {A : Type 0} (old new : Store) (state now : NodeState B) (step : Step B) → IsSaved old state (after state step) new
      → now ≡ state → IsKept k {A = A} old state (after state step) new now (Err Memory)
  not_kept old new state now step h e =
      record { honest = h.honest; stands = tt; blamed = (e, h.passed); may_hold = h.may_hold }

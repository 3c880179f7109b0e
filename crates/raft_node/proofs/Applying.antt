-- The next entry comes to a node's machine.
use Rattle.std.proofs.Common.{◌≡◌, ℕ, zero, suc, ◌+◌, ◌<◌, inr, List, [], ◌∷◌, ◌++◌, None, Some, Result, Ok, length, map, take, refl, sym, ap, subst, ◌∙◌, arith, length-take}
use Rattle.std.specs.Prelude.{filter}
use Rattle.std.proofs.lemmas.List.{map-append, length-map}
use Rattle.irc_line.specs.Lines.{Parts as LineParts}
use Rattle.machine_laws.specs.declared.class.Class.{Class}
use Rattle.machine_laws.specs.Runs.{History, run}
use Rattle.machine_laws.proofs.Come.{came_one_more}
use Rattle.raft_log.specs.declared.entry.Entry.{Entry}
use Rattle.raft_log.specs.declared.node_state.NodeState.{NodeState}
use Rattle.raft_log.specs.Lists.{item}
use Rattle.raft_log.specs.Positions.{live_of}
use Rattle.raft_node.specs.declared.input.Output.{Output}
use Rattle.raft_node.specs.declared.node_fault.NodeFault.{NodeFault}
use Rattle.raft_node.specs.Machine.{history}
use Rattle.raft_node.specs.Parts.{IsWhole, Keeper, Parts, applied_bodies}
use Rattle.raft_node.specs.Steps.{leaves}
use Rattle.raft_node.specs.Stood.{IsApplied, one_applied}

module _ {B : Type 0} where
  item_in : (log : List (Entry B)) (n : ℕ) (e : Entry B) → item log (suc n) ≡ Some e → n < length log
  item_in [] n e h = absurd (cc h)
  item_in (x ∷ log) zero e h = omega arith
  item_in (x ∷ log) (suc n) e h = omega (arith, item_in log n e h)

  take_item : (log : List (Entry B)) (n : ℕ) (e : Entry B) → item log (suc n) ≡ Some e → take (suc n) log ≡ take n log ++ e ∷ []
  take_item [] n e h = absurd (cc h)
  take_item (x ∷ log) zero e h = let same : x ≡ e = cc h in ap (λ (y : Entry B). y ∷ []) same
  take_item (x ∷ log) (suc n) e h = ap (λ (l : List (Entry B)). x ∷ l) (take_item log n e h)

  -- the history of one more entry
  pub history_more : (log : List (Entry B)) (n : ℕ) (e : Entry B) → item log (suc n) ≡ Some e
      → history (take (suc n) log) ≡ (suc n, e.body) ∷ history (take n log)
  history_more log n e h =
      let body : Entry B → B = λ x. x.body in
      let front : List B = map body (take n log) in
      let count : 1 + length front ≡ suc n = omega (arith, length-map (take n log) body, length-take n log, item_in log n e h) in
      ap (λ (l : List (Entry B)). run (map body l)) (take_item log n e h)
      ∙ (ap (λ (l : List B). run l) (map-append body (take n log) (e ∷ []))
      ∙ (came_one_more 1 front e.body [] ∙ ap (λ (k : ℕ). (k, e.body) ∷ run front) count))

module _ {Setup Hosted Store B : Type 0} (stands : Hosted → Setup → History B → Type 0) (k : Keeper Store B) where
  module _ (n old : Parts Setup Hosted Store B) (same : n ≡ old) (up : old.down ≡ None) (w : IsWhole stands k n) where
    up_here : n.down ≡ None
    up_here = subst (λ (x : Parts Setup Hosted Store B). x.down ≡ None) (sym same) up

    pub runs_here : stands n.machine n.setup (applied_bodies n.state)
    runs_here = w.runs up_here

    module _ (e : Entry B) (lt : n.state.standing.applied < n.state.standing.commit) (at : item n.state.log (suc n.state.standing.applied) ≡ Some e) where
      abbrev next : Hosted → NodeState B → Parts Setup Hosted Store B
      next machine state = record n { machine = machine; state = state }

      one_whole : (machine : Hosted) → stands machine n.setup ((suc n.state.standing.applied, e.body) ∷ applied_bodies n.state) → IsWhole stands k (next machine (one_applied n.state))
      one_whole machine h =
          record {
            in_group = w.in_group;
            sound = (omega arith, w.sound.1, w.sound.2, w.sound.3, w.sound.4);
            counts = w.counts;
            runs = λ x. subst (λ (p : History B). stands machine n.setup p) (sym (history_more n.state.log n.state.standing.applied e at)) h;
            holds = w.holds;
          }

      -- the machine has taken one more body
      pub applied_whole : (machine : Hosted) (place : ℕ) → place ≡ suc n.state.standing.applied
          → stands machine n.setup ((place, e.body) ∷ applied_bodies n.state)
          → IsWhole stands k (next machine (record n.state { standing = record n.state.standing { applied = place } }))
      applied_whole machine place p h =
          subst (λ (m : ℕ). IsWhole stands k (next machine (record n.state { standing = record n.state.standing { applied = m } }))) (sym p)
          (one_whole machine (subst (λ (m : ℕ). stands machine n.setup ((m, e.body) ∷ applied_bodies n.state)) p h))

      module _ {E : Type 0} (effects : Setup → History B → ℕ → B → List E) (class : E → Class LineParts) (output : Output B E) where
        abbrev answered : Result (Output B E) NodeFault
        answered = Ok output

        one_applies : (machine : Hosted) → output.messages.items ≡ [] → output.place ≡ suc n.state.standing.applied
            → output.effects.items ≡ filter (λ x. leaves n.id n.state.standing.boot (live_of n.state.standing.position) (class x)) (effects n.setup (applied_bodies n.state) (suc n.state.standing.applied) e.body)
            → IsApplied effects class k n answered (next machine (one_applied n.state))
        one_applies machine m p f = (
          (
            m,
            inr (record {
              entry = e;
              committed = lt;
              stood = at;
              place = p;
              effects_are = f;
              state = refl;
              is_up = up_here;
              holds = w.holds up_here;
            }),
          ),
          record { id = refl; setup = refl; size = refl; honest = refl },
        )

        pub applies : (machine : Hosted) (place : ℕ) → place ≡ suc n.state.standing.applied → output.messages.items ≡ [] → output.place ≡ place
            → output.effects.items ≡ filter (λ x. leaves n.id n.state.standing.boot (live_of n.state.standing.position) (class x)) (effects n.setup (applied_bodies n.state) place e.body)
            → IsApplied effects class k old answered (next machine (record n.state { standing = record n.state.standing { applied = place } }))
        applies machine place p m o f =
            subst (λ (x : Parts Setup Hosted Store B). IsApplied effects class k x answered (next machine (record n.state { standing = record n.state.standing { applied = place } }))) same
            (subst (λ (a : ℕ). IsApplied effects class k n answered (next machine (record n.state { standing = record n.state.standing { applied = a } }))) (sym p)
            (one_applies machine m (o ∙ p)
            (subst (λ (a : ℕ). output.effects.items ≡ filter (λ x. leaves n.id n.state.standing.boot (live_of n.state.standing.position) (class x)) (effects n.setup (applied_bodies n.state) a e.body)) p f)))

-- A run begins over a store.
use Rattle.std.proofs.Common.{◌≡◌, ℕ, suc, ◌≤◌, ◌↔◌, ◌⊎◌, List, [], ◌++◌, inl, inr, ⊎_elim, IsTrue, Bool, true, false, length, take, Option, Result, Ok, Err, sym, ap, subst, ◌∙◌, arith, append-nil}
use Rattle.std.proofs.Math.Seq.{take-length}
use Rattle.std.proofs.lemmas.Bool.{cases_lt}
use Rattle.std.proofs.lemmas.Result.{on_ok_weaker}
use Rattle.node_steps.specs.declared.refusal.Refusal.TheVariants.{LogFull, TermsSpent, NoLeader, Behind, BadOrigin}
use Rattle.raft_log.specs.declared.entry.Entry.{Entry}
use Rattle.raft_log.specs.declared.node_state.NodeState.{NodeState}
use Rattle.raft_log.specs.Logs.{entry_limit}
use Rattle.raft_log.specs.Node.{Node}
use Rattle.raft_log.specs.Seen.{seen}
use Rattle.stable_store.specs.declared.saved.Saved.{Saved}
use Rattle.stable_store.specs.Changes.{ChangeParts, change}
use Rattle.stable_store.specs.Stores.{HasRisen, IsHonest, MayFollow, MayStandStill, NamesNode, Serves, changed}
use Rattle.raft_node.specs.declared.node_fault.Cause.{Cause}
use Rattle.raft_node.specs.declared.node_fault.Cause.TheVariants.{Store as StoreFailed, Memory}
use Rattle.raft_node.specs.declared.node_fault.NodeFault.{NodeFault}
use Rattle.raft_node.specs.declared.node_fault.NodeFault.TheVariants.{Down, Refused}
use Rattle.raft_node.specs.Kept.{IsTaken, MayTake}
use Rattle.raft_node.specs.Parts.{Keeper, saved_by}
use Rattle.raft_node.specs.Starting.{BeganWith, HasBegun, IsBegun, MayFail, begun}

module _ {B : Type 0} (size : ℕ) (v : Saved B) (state : NodeState B) (began : BeganWith size v state) where
  same : seen state [] ≡ begun size v []
  same = began []

  -- what the new run saves
  abbrev pub first : ChangeParts B
  first = change state.standing.boot state.standing.term state.standing.vote (length state.log) []

  pub first_by : (keep : ℕ) (entries : List (Entry B)) → keep ≡ length state.log → entries ≡ []
      → change state.standing.boot state.standing.term state.standing.vote keep entries ≡ first
  first_by keep entries e f =
      ap (λ (n : ℕ). change state.standing.boot state.standing.term state.standing.vote n entries) e
      ∙ ap (λ (l : List (Entry B)). change state.standing.boot state.standing.term state.standing.vote (length state.log) l) f

  -- it may follow what was saved
  pub first_follows : length state.log ≤ entry_limit → NamesNode state.standing.vote → MayFollow v first
  first_follows few vote =
      let log : state.log ≡ v.log = ap (λ (s : Node B). s.log) same in
      let boot : state.standing.boot ≡ suc v.boot = ap (λ (s : Node B). s.boot) same in
      let term : state.standing.term ≡ v.term = ap (λ (s : Node B). s.term) same in
      record {
        kept = omega (arith, ap (length {A = Entry B}) log);
        room = omega (arith, ap (length {A = Entry B}) log, few);
        boot = omega (arith, boot);
        term = omega (arith, term);
        vote = vote;
      }

  abbrev saved_with : ℕ → ℕ → Option ℕ → List (Entry B) → Saved B
  saved_with boot term vote log = record { boot = boot; term = term; vote = vote; log = log }

  -- and is the state of the run
  pub first_is : changed v first ≡ saved_by (seen state [])
  first_is =
      let log : state.log ≡ v.log = ap (λ (s : Node B). s.log) same in
      let whole : take (length state.log) v.log ++ [] ≡ state.log =
      append-nil (take (length state.log) v.log) ∙ (ap (λ (l : List (Entry B)). take (length l) v.log) log ∙ (take-length v.log ∙ sym log))
      in
      ap (λ (l : List (Entry B)). saved_with state.standing.boot state.standing.term state.standing.vote l) whole

module _ {Store B : Type 0} (k : Keeper Store B) (sure : (s : Store) (v : Saved B) → Serves (k.condition s) → k.may_stand s v ↔ (v ≡ k.saved s)) where
  module _ (size : ℕ) (old new : Store) (v : Saved B) (state : NodeState B) (began : BeganWith size v state)
      (is : IsHonest (k.condition old) → v ≡ k.saved old) (serves : IsHonest (k.condition old) → Serves (k.condition old)) where
    abbrev c : ChangeParts B
    c = first size v state began

    pub may_take_first : (x : ChangeParts B) → x ≡ c → length state.log ≤ entry_limit → NamesNode state.standing.vote → MayTake k old x
    may_take_first x e few vote = subst (λ (y : ChangeParts B). MayTake k old y) (sym e) (λ honest. (serves honest, subst (λ (x : Saved B). MayFollow x c) (is honest) (first_follows size v state began few vote)))

    abbrev done : {A : Type 0} → A → Result A Cause
    done a = Ok a

    abbrev failed : {A : Type 0} → Cause → Result A Cause
    failed cause = Err cause

    stood : IsHonest (k.condition old) → k.may_stand old v
    stood honest = (sure old v (serves honest)).1 (is honest)

    saved_now : IsHonest (k.condition old) → changed (k.saved old) c ≡ saved_by (seen state [])
    saved_now honest = ap (λ (x : Saved B). changed x c) (sym (is honest)) ∙ first_is size v state began

    after_save : {A : Type 0} (r : Result A Cause) → IsTaken k old c new r → IsHonest (k.condition old) → (u : Saved B) → k.may_stand new u
        → k.may_stand old u ⊎ ((w : Saved B) × k.may_stand old w × (u ≡ saved_by (begun size w [])))
    after_save r t honest u m =
        ⊎_elim
        (λ e. inl ((sure old u (serves honest)).1 e))
        (λ e. inr (v, stood honest, e ∙ (saved_now honest ∙ ap (λ (s : Node B). saved_by s) (began []))))
        (t.may_stand honest u m)

    pub begins_saved : {A : Type 0} (a : A) (x : ChangeParts B) → x ≡ c → state.standing.peers.size ≡ size → IsTaken k old x new (done a) → IsBegun k size old (Ok state) new
    begins_saved {A} a x e s h =
        let t : IsTaken k old c new (done a) = subst (λ (y : ChangeParts B). IsTaken k old y new (done a)) e h in
        record {
          honest = t.honest;
          counts = t.counts;
          passed = t.passed;
          answers = (
            (v, stood, began, s),
            λ honest.
                let was : IsHonest (k.condition old) = subst (λ (b : Bool). IsTrue b) t.honest honest in
                let d = t.done was in
                (d.0, d.1 ∙ saved_now was),
          );
          may_begin = after_save (done a) t;
        }

    fails : {A : Type 0} (cause : Cause) → IsTaken k old c new (failed {A = A} cause) → IsBegun k size old (Err (Down cause)) new
    fails {A} StoreFailed t =
        record { honest = t.honest; counts = t.counts; passed = λ honest. tt; answers = λ honest. inl (t.blamed honest); may_begin = after_save (failed {A = A} StoreFailed) t }
    fails {A} Memory t =
        record { honest = t.honest; counts = t.counts; passed = λ honest. tt; answers = t.blamed; may_begin = after_save (failed {A = A} Memory) t }

    pub fails_unsaved : {A : Type 0} (cause : Cause) (x : ChangeParts B) → x ≡ c → IsTaken k old x new (failed {A = A} cause) → IsBegun k size old (Err (Down cause)) new
    fails_unsaved {A} cause x e h =
        fails {A = A} cause (subst (λ (y : ChangeParts B). IsTaken k old y new (failed {A = A} cause)) e h)

module _ {Store B : Type 0} (k : Keeper Store B) (size : ℕ) (old mid new : Store)
    (still : IsHonest (k.condition old) → MayStandStill (k.may_stand old) (k.may_stand mid))
    (honest : (k.condition mid).honest ≡ (k.condition old).honest) (counts : (k.condition old).failures ≤ (k.condition mid).failures)
    (mended : IsHonest (k.condition old) → (k.condition mid).broken ≡ false)
    (passed : IsHonest (k.condition old) → (k.condition mid).failures ≡ (k.condition old).failures) where
  here : IsHonest (k.condition old) → IsHonest (k.condition mid)
  here h = subst (λ (b : Bool). IsTrue b) (sym honest) h

  risen : (a b c : ℕ) → a ≤ b → b ≤ c → HasRisen b c → HasRisen a c
  risen a b c le more (inl lt) = inl (omega arith)
  risen a b c le more (inr top) =
      ⊎_elim (λ lt. inl (omega (arith, lt, top, more))) (λ ge. inr (omega (arith, ge, le, top))) (cases_lt a b)

  still_fails : (fault : NodeFault) → (k.condition mid).failures ≤ (k.condition new).failures → MayFail k mid (k.condition new) fault → MayFail k old (k.condition new) fault
  still_fails (Down Memory) le h = λ was. h (here was) ∙ passed was
  still_fails (Down StoreFailed) le h = λ was.
      ⊎_elim
      (λ r. inl (risen _ _ _ counts le r))
      (λ b. absurd (let clash : true ≡ false = sym b ∙ mended was in cc clash))
      (h (here was))
  still_fails (Refused TermsSpent) le h = λ was. let r = h (here was) in (r.0, still was r.0 r.1, r.2)
  still_fails (Refused LogFull) le h = h
  still_fails (Refused NoLeader) le h = h
  still_fails (Refused (Behind applied)) le h = h
  still_fails (Refused BadOrigin) le h = h

  answers : (result : Result (NodeState B) NodeFault) → (k.condition mid).failures ≤ (k.condition new).failures → HasBegun k size mid result new → HasBegun k size old result new
  answers (Ok state) le h = ((h.0.0, λ was. still was h.0.0 (h.0.1 (here was)), h.0.2, h.0.3), h.1)
  answers (Err fault) le h = still_fails fault le h

  -- a run that begins once the store serves again
  pub begins_again : (result : Result (NodeState B) NodeFault) → IsBegun k size mid result new → IsBegun k size old result new
  begins_again result h =
      record {
        honest = h.honest ∙ honest;
        counts = omega (arith, counts, h.counts);
        passed = λ was. on_ok_weaker {P = (k.condition new).failures ≡ (k.condition mid).failures} {Q = (k.condition new).failures ≡ (k.condition old).failures} result (λ e. e ∙ passed was) (h.passed (here was));
        answers = answers result h.counts h.answers;
        may_begin = λ was v m.
            ⊎_elim (λ x. inl (still was v x)) (λ x. inr (x.0, still was x.0 x.1, x.2)) (h.may_begin (here was) v m);
      }

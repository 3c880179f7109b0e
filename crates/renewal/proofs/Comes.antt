-- Entries whose bodies come one after the other.
use Rattle.std.proofs.Common.{◌≡◌, ℕ, ◌+◌, ◌<◌, List, [], ◌∷◌, Some, length, take, get_or, map, sym, ap, subst, ◌∙◌, add-one, arith, length-take}
use Rattle.std.proofs.lemmas.List.{take_more, map-append, length-map}
use Rattle.std.proofs.lemmas.Option.{get_or_from_slice_get}
use Rattle.raft_log.specs.declared.entry.Entry.{Entry}
use Rattle.raft_log.specs.Lists.{item}
use Rattle.machine_laws.specs.Runs.{History, run}
use Rattle.machine_laws.proofs.Come.{came_one_more}

-- if the first machine had an empty history, this history leads to the machine now
abbrev pub Comes : {S C X : Type 0} → (X → S → History C → Type 0) → X → X → History C → Type 0
Comes {S} stands first now history = (s : S) → stands first s [] → stands now s history

-- one more entry
pub run_more : {E C : Type 0} (f : E → C) (xs : List E) (i : ℕ) (d : E) → i < length xs → run (map f (take (i + 1) xs)) ≡ (i + 1, f (get_or xs i d)) ∷ run (map f (take i xs))
run_more f xs i d h =
    let n : 1 + length (map f (take i xs)) ≡ i + 1 = rw (length-map, length-take) (omega arith) in
    ap (λ l. run (map f l)) (take_more xs i d h)
    ∙ (ap run (map-append f (take i xs) (get_or xs i d ∷ []))
    ∙ (came_one_more 1 (map f (take i xs)) (f (get_or xs i d)) [] ∙ ap (λ p. (p, f (get_or xs i d)) ∷ run (map f (take i xs))) n))

-- one more entry of a log
pub log_more : {B : Type 0} (log : List (Entry B)) (i k : ℕ) (e : Entry B) → i < length log → k ≡ i + 1 → item log k ≡ Some e
    → run (map (λ x. x.body) (take (i + 1) log)) ≡ (k, e.body) ∷ run (map (λ x. x.body) (take i log))
log_more {B} log i k e lt at is =
    let body : Entry B → B = λ x. x.body in
    let there : get_or log i e ≡ e = get_or_from_slice_get log i e e (subst (λ (n : ℕ). item log n ≡ Some e) (at ∙ add-one i) is) in
    run_more body log i e lt
    ∙ (ap (λ (n : ℕ). (n, body (get_or log i e)) ∷ run (map body (take i log))) (sym at) ∙ ap (λ (x : Entry B). (k, x.body) ∷ run (map body (take i log))) there)

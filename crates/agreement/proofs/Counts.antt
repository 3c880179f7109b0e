-- Two majorities share a node. Lists are counted from 1.
use Rattle.std.proofs.Common.{cond, sym, count_by, one-add, ◌≡◌, ℕ, zero, suc, ◌+◌, ◌<◌, Bool, true, false, List, [], ◌∷◌, length, get_or, map, refl, ap, arith}
use Rattle.std.proofs.lemmas.Bool.{ltb-true}
use Rattle.std.proofs.lemmas.List.Recursion.{is_count_by}
use Rattle.raft_log.specs.Lists.{item_or}
use Rattle.raft_log.specs.Votes.{tally}
use Rattle.agreement.specs.Laws.{IsIn, IsMajority}

shared_place : (us vs : List Bool) → length us ≡ length vs → length us < tally us + tally vs → (v : ℕ) × (get_or us v false ≡ true) × (get_or vs v false ≡ true)
shared_place [] [] e h = absurd (omega arith)
shared_place [] (b ∷ vs) e h = absurd (omega arith)
shared_place (a ∷ us) [] e h = absurd (omega arith)
shared_place (true ∷ us) (true ∷ vs) e h = (0, refl, refl)
shared_place (true ∷ us) (false ∷ vs) e h = let r = shared_place us vs (omega arith) (omega arith) in (suc r.0, r.1, r.2)
shared_place (false ∷ us) (true ∷ vs) e h = let r = shared_place us vs (omega arith) (omega arith) in (suc r.0, r.1, r.2)
shared_place (false ∷ us) (false ∷ vs) e h = let r = shared_place us vs (omega arith) (omega arith) in (suc r.0, r.1, r.2)

pub majorities_meet : (n : ℕ) (us vs : List Bool) → IsMajority n us → IsMajority n vs → (v : ℕ) × IsIn us v × IsIn vs v
majorities_meet n us vs mu mv =
    let ea : length us ≡ n = mu.0 in
    let eb : length vs ≡ n = mv.0 in
    let a = ltb-true n (tally us + tally us) mu.1 in
    let b = ltb-true n (tally vs + tally vs) mv.1 in
    let r = shared_place us vs (omega arith) (omega arith) in
    (suc r.0, r.1, r.2)

get_or-map_test : (f : ℕ → Bool) (xs : List ℕ) (j : ℕ) → get_or (map f xs) j false ≡ true → f (get_or xs j 0) ≡ true
get_or-map_test f [] j h = absurd (cc h)
get_or-map_test f (x ∷ xs) zero h = h
get_or-map_test f (x ∷ xs) (suc j) h = get_or-map_test f xs j h

pub item-map_test : (f : ℕ → Bool) (xs : List ℕ) (j : ℕ) → IsIn (map f xs) j → f (item_or xs j 0) ≡ true
item-map_test f xs zero h = absurd (cc h)
item-map_test f xs (suc j) h = get_or-map_test f xs j h

pub length-map_test : (f : ℕ → Bool) (xs : List ℕ) → length (map f xs) ≡ length xs
length-map_test f [] = refl
length-map_test f (x ∷ xs) = ap suc (length-map_test f xs)

-- in std's words
pub tally-count : (us : List Bool) → tally us ≡ count_by (λ b. b) us
tally-count us = is_count_by tally (λ b. b) refl one us
  where
    one : (b : Bool) (vs : List Bool) → tally (b ∷ vs) ≡ cond b (1 + tally vs) (tally vs)
    one true vs = sym (one-add (tally vs))
    one false vs = refl

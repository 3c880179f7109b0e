-- Places of a leader that stay within its log.
use Rattle.std.proofs.Common.{◌≡◌, ℕ, zero, suc, ◌+◌, ◌≤◌, List, length, get_or, All, inl, inr, sym, subst, arith}
use Rattle.std.proofs.lemmas.Bool.{cases_lt}
use Rattle.std.proofs.lemmas.List.Elements.{All-get_or, All-set}
use Rattle.raft_log.specs.declared.role.Role.{Role}
use Rattle.raft_log.specs.Lists.{item_or, with_item}
use Rattle.raft_log.specs.Steps.{PlacesWithin, IsNextWithin}
use Rattle.replication.proofs.Asking.{get_or-past}

all_with_item : (P : ℕ → Type 0) (xs : List ℕ) (n x : ℕ) → P x → All P xs → All P (with_item xs n x)
all_with_item P xs zero x p h = h
all_with_item P xs (suc k) x p h = All-set P xs k x p h

pub match-within : (last : ℕ) (xs : List ℕ) (j : ℕ) → All (λ m. m ≤ last) xs → item_or xs j 0 ≤ last
match-within last xs zero h = omega arith
match-within last xs (suc k) h =
    elim (cases_lt k (length xs)) [
      | inl lt ↦ All-get_or (λ m. m ≤ last) xs k 0 lt h
      | inr ge ↦ let none : get_or xs k 0 ≡ 0 = get_or-past xs k 0 ge in omega arith
    ]

pub next-changed : (last : ℕ) (role : Role) (commit : ℕ) (next next' matched matched' : List ℕ) (j place : ℕ) → 1 ≤ place → place ≤ last + 1
    → next' ≡ with_item next j place → matched' ≡ matched → PlacesWithin last role commit next matched → PlacesWithin last role commit next' matched'
next-changed last role commit next next' matched matched' j place pos le e f w =
    record {
      commit_within = w.commit_within;
      next_within = λ t. subst (λ (xs : List ℕ). All (IsNextWithin last) xs) (sym e) (all_with_item (IsNextWithin last) next j place (pos, omega arith) (w.next_within t));
      match_within = λ t. subst (λ (xs : List ℕ). All (λ m. m ≤ last) xs) (sym f) (w.match_within t);
    }

pub match-changed : (last : ℕ) (role : Role) (commit commit' : ℕ) (next next' matched matched' : List ℕ) (j reached place : ℕ) → reached ≤ last → place ≡ reached + 1
    → next' ≡ with_item next j place → matched' ≡ with_item matched j reached → commit' ≤ last → PlacesWithin last role commit next matched → PlacesWithin last role commit' next' matched'
match-changed last role commit commit' next next' matched matched' j reached place le at e f c w =
    record {
      commit_within = c;
      next_within = λ t. subst (λ (xs : List ℕ). All (IsNextWithin last) xs) (sym e) (all_with_item (IsNextWithin last) next j place (omega arith, omega arith) (w.next_within t));
      match_within = λ t. subst (λ (xs : List ℕ). All (λ m. m ≤ last) xs) (sym f) (all_with_item (λ m. m ≤ last) matched j reached le (w.match_within t));
    }

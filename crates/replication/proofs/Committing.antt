-- The search for what may be committed.
use Rattle.std.proofs.Common.{◌≡◌, ℕ, zero, suc, ◌-◌, ◌<◌, ◌≤◌, ◌==◌, Bool, true, false, ◌&&◌, nat_lt, nat_le, List, length, refl, ap, ◌∙◌, arith, map}
use Rattle.std.proofs.lemmas.Bool.{cond-true, cond-false, lt-ltb, le-ltb, le-leb}
use Rattle.raft_log.specs.declared.entry.Entry.{Entry}
use Rattle.raft_log.specs.Logs.{has_term, term_at}
use Rattle.raft_log.specs.Votes.{majority, commits, commit_place}

module _ {B : Type 0} (size : ℕ) (matches : List ℕ) (log : List (Entry B)) (t c : ℕ) where
  pub place_none : (k : ℕ) → k ≤ c → commit_place size matches log t c k ≡ c
  place_none zero h = refl
  place_none (suc k) h =
      let no : (nat_lt c (suc k) && commits size matches log t (suc k)) ≡ false = ap (λ (b : Bool). b && commits size matches log t (suc k)) (le-ltb c (suc k) h) in
      cond-false (nat_lt c (suc k) && commits size matches log t (suc k)) (suc k) (commit_place size matches log t c k) no ∙ place_none k (omega arith)

  stands : (k : ℕ) → 1 ≤ k → k ≤ length log → (b : Bool) → (term_at log k == t) ≡ b → has_term log t k ≡ b
  stands k pos within b e =
      ap (λ (x : Bool). x && (nat_le k (length log) && (term_at log k == t))) (le-leb 1 k pos)
      ∙ (ap (λ (x : Bool). x && (term_at log k == t)) (le-leb k (length log) within) ∙ e)

  pub place_yes : (k : ℕ) → c < k → k ≤ length log → (term_at log k == t) ≡ true → majority size (map (λ m. nat_le k m) matches) ≡ true → commit_place size matches log t c k ≡ k
  place_yes zero h within e m = absurd (omega arith)
  place_yes (suc k) h within e m =
      let both : commits size matches log t (suc k) ≡ true = ap (λ (b : Bool). b && has_term log t (suc k)) m ∙ stands (suc k) (omega arith) within true e in
      cond-true (nat_lt c (suc k) && commits size matches log t (suc k)) (suc k) (commit_place size matches log t c k) (ap (λ (b : Bool). b && commits size matches log t (suc k)) (lt-ltb c (suc k) h) ∙ both)

  and_false : (a b : Bool) → b ≡ false → (a && b) ≡ false
  and_false true b e = e
  and_false false b e = refl

  pub place_no_term : (k : ℕ) → 0 < k → k ≤ length log → (term_at log k == t) ≡ false → commit_place size matches log t c k ≡ commit_place size matches log t c (k - 1)
  place_no_term zero h within e = absurd (omega arith)
  place_no_term (suc k) h within e =
      let none : commits size matches log t (suc k) ≡ false = and_false (majority size (map (λ m. nat_le (suc k) m) matches)) _ (stands (suc k) (omega arith) within false e) in
      cond-false (nat_lt c (suc k) && commits size matches log t (suc k)) (suc k) (commit_place size matches log t c k) (and_false (nat_lt c (suc k)) _ none)
      ∙ ap (commit_place size matches log t c) (omega arith)

  pub place_no_majority : (k : ℕ) → 0 < k → majority size (map (λ m. nat_le k m) matches) ≡ false → commit_place size matches log t c k ≡ commit_place size matches log t c (k - 1)
  place_no_majority zero h m = absurd (omega arith)
  place_no_majority (suc k) h m =
      let none : commits size matches log t (suc k) ≡ false = ap (λ (b : Bool). b && has_term log t (suc k)) m in
      cond-false (nat_lt c (suc k) && commits size matches log t (suc k)) (suc k) (commit_place size matches log t c k) (and_false (nat_lt c (suc k)) _ none)
      ∙ ap (commit_place size matches log t c) (omega arith)

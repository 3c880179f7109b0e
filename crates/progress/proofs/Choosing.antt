-- One of several nodes has the most up-to-date log.
use Rattle.std.proofs.Common.{◌≡◌, ℕ, ◌<◌, ◌≤◌, Bool, true, false, ◌||◌, eqb, leb, ltb, List, [], ◌∷◌, length, Some, refl, sym, subst, ◌∙◌, arith, inl, inr, ◌⊎◌, ⊎_elim}
use Rattle.std.proofs.lemmas.Bool.{cond_both, eqb-true, eq-eqb, lt-ltb, ltb-true, le-leb, leb-true, and_parts, cases_lt, true≢false}
use Rattle.raft_log.specs.declared.entry.Entry.{Entry}
use Rattle.raft_log.specs.Lists.{item}
use Rattle.raft_log.specs.Logs.{last_term, up_to_date}
use Rattle.raft_log.specs.Node.{Node}
use Rattle.agreement.specs.Laws.{IsIn, IsAsUpToDateAs}
use Rattle.progress.specs.Plans.{log_of, is_as_good, best_of, best_among, candidate, members}
use Rattle.progress.proofs.Members.{Among, member_in, in_member}
use Rattle.progress.proofs.Voting.{both_true}
use Rattle.progress.proofs.Alike.{or_right, or_parts}

or_left : (x y : Bool) → x ≡ true → (x || y) ≡ true
or_left true y h = refl
or_left false y h = absurd (cc h)

abbrev Better : ℕ → ℕ → ℕ → ℕ → Type 0
Better u n v l = (v < u) ⊎ ((u ≡ v) × (l ≤ n))

told : (u n v l : ℕ) → up_to_date u n v l ≡ true → Better u n v l
told u n v l h =
    ⊎_elim (λ a. inl (ltb-true v u a))
    (λ b. let r = and_parts (eqb u v) (leb l n) b in inr (eqb-true u v r.0, leb-true l n r.1))
    (or_parts (ltb v u) _ h)

tells : (u n v l : ℕ) → Better u n v l → up_to_date u n v l ≡ true
tells u n v l (inl a) = or_left (ltb v u) _ (lt-ltb v u a)
tells u n v l (inr b) = or_right (ltb v u) _ (both_true (eqb u v) (leb l n) (eq-eqb u v b.0) (le-leb l n b.1))

module _ {B : Type 0} where
  as_itself : (a : List (Entry B)) → is_as_good a a ≡ true
  as_itself a = tells (last_term a) (length a) (last_term a) (length a) (inr (refl, omega arith))

  either : (a b : List (Entry B)) → is_as_good a b ≡ false → is_as_good b a ≡ true
  either a b h =
      ⊎_elim (λ lt. tells (last_term b) (length b) (last_term a) (length a) (inl lt))
      (λ ge. ⊎_elim
      (λ lt. absurd (true≢false (sym (tells (last_term a) (length a) (last_term b) (length b) (inl lt)) ∙ h)))
      (λ le. same (omega arith)) (cases_lt (last_term b) (last_term a)))
      (cases_lt (last_term a) (last_term b))
    where
      same : last_term a ≡ last_term b → is_as_good b a ≡ true
      same e =
          ⊎_elim
          (λ le. absurd (true≢false (sym (tells (last_term a) (length a) (last_term b) (length b) (inr (e, le))) ∙ h)))
          (λ lt. tells (last_term b) (length b) (last_term a) (length a) (inr (sym e, omega arith)))
          (⊎_elim (λ lt. inr lt) (λ ge. inl ge) (cases_lt (length a) (length b)))

  through : (a b d : List (Entry B)) → is_as_good a b ≡ true → is_as_good b d ≡ true → is_as_good a d ≡ true
  through a b d p q =
      tells (last_term a) (length a) (last_term d) (length d) (join (told (last_term a) (length a) (last_term b) (length b) p) (told (last_term b) (length b) (last_term d) (length d) q))
    where
      join : Better (last_term a) (length a) (last_term b) (length b) → Better (last_term b) (length b) (last_term d) (length d) → Better (last_term a) (length a) (last_term d) (length d)
      join (inl x) (inl y) = inl (omega arith)
      join (inl x) (inr y) = inl (omega (arith, y.0))
      join (inr x) (inl y) = inl (omega (arith, x.0))
      join (inr x) (inr y) = inr (x.0 ∙ y.0, omega (arith, x.1, y.1))

  -- it is one of them, and as good as each
  record IsBest (w : List (Node B)) (i : ℕ) (js : List ℕ) (r : ℕ) : Type 0 where
    one : (r ≡ i) ⊎ Among r js
    first : is_as_good (log_of (item w r)) (log_of (item w i)) ≡ true
    rest : (k : ℕ) → Among k js → is_as_good (log_of (item w r)) (log_of (item w k)) ≡ true

  best : (w : List (Node B)) (i : ℕ) (js : List ℕ) → IsBest w i js (best_of w i js)
  best w i [] = record { one = inl refl; first = as_itself (log_of (item w i)); rest = λ k h. absurd h }
  best w i (j ∷ js) =
      cond_both (is_as_good (log_of (item w i)) (log_of (item w j))) i j (λ z. IsBest w i (j ∷ js) (best_of w z js))
      (λ good. keep good (best w i js)) (λ no_way. swap no_way (best w j js))
    where
      keep : is_as_good (log_of (item w i)) (log_of (item w j)) ≡ true → IsBest w i js (best_of w i js) → IsBest w i (j ∷ js) (best_of w i js)
      keep good h =
          record {
            one = ⊎_elim (λ e. inl e) (λ a. inr (inr a)) h.one;
            first = h.first;
            rest = λ k a. ⊎_elim
                (λ e. subst (λ z. is_as_good (log_of (item w (best_of w i js))) (log_of (item w z)) ≡ true) (sym e) (through (log_of (item w (best_of w i js))) (log_of (item w i)) (log_of (item w j)) h.first good))
                (λ b. h.rest k b) a;
          }

      swap : is_as_good (log_of (item w i)) (log_of (item w j)) ≡ false → IsBest w j js (best_of w j js) → IsBest w i (j ∷ js) (best_of w j js)
      swap no_way h =
          record {
            one = ⊎_elim (λ e. inr (inl e)) (λ a. inr (inr a)) h.one;
            first = through (log_of (item w (best_of w j js))) (log_of (item w j)) (log_of (item w i)) h.first (either (log_of (item w i)) (log_of (item w j)) no_way);
            rest = λ k a. ⊎_elim (λ e. subst (λ z. is_as_good (log_of (item w (best_of w j js))) (log_of (item w z)) ≡ true) (sym e) h.first) (λ b. h.rest k b) a;
          }

  best_member : (w : List (Node B)) (js : List ℕ) (k : ℕ) → Among k js
      → Among (best_among w js) js × ((i : ℕ) → Among i js → is_as_good (log_of (item w (best_among w js))) (log_of (item w i)) ≡ true)
  best_member w [] k h = absurd h
  best_member w (j ∷ js) k h =
      let r : IsBest w j js (best_of w j js) = best w j js in
      (r.one, (λ i a. ⊎_elim (λ e. subst (λ z. is_as_good (log_of (item w (best_of w j js))) (log_of (item w z)) ≡ true) (sym e) r.first) (λ b. r.rest i b) a))

  -- the candidate of a set that has a node is in it, and its log is as up to date as that of each
  pub candidate_in : (set : List Bool) (w : List (Node B)) (k : ℕ) → IsIn set k → IsIn set (candidate set w)
  candidate_in set w k h = member_in set (candidate set w) (best_member w (members set) k (in_member set k h)).0

  pub candidate_good : (set : List Bool) (w : List (Node B)) (k : ℕ) → IsIn set k → (s : Node B) → item w (candidate set w) ≡ Some s → IsAsUpToDateAs set w s.log
  candidate_good set w k h s at i u in_i there =
      let r = (best_member w (members set) k (in_member set k h)).1 i (in_member set i in_i) in
      subst (λ z. is_as_good (log_of z) u.log ≡ true) at (subst (λ z. is_as_good (log_of (item w (candidate set w))) (log_of z) ≡ true) there r)

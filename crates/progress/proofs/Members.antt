-- The members of a set, and its nodes but one.
use Rattle.std.proofs.Common.{◌≡◌, ℕ, zero, suc, ◌+◌, ◌<◌, ◌≤◌, Bool, true, false, eqb, List, [], ◌∷◌, length, get_or, refl, sym, subst, ◌∙◌, arith, inl, inr, ◌⊎◌, ⊎_elim}
use Rattle.std.proofs.lemmas.Bool.{cond-false, cond_both, eq-eqb, cases_eq}
use Rattle.raft_log.specs.Lists.{without}
use Rattle.agreement.specs.Laws.{IsIn}
use Rattle.progress.specs.Plans.{members_from, members, peers}
use Rattle.progress.proofs.Places.{eqb_no}

-- it is one of these
abbrev pub Among : ℕ → List ℕ → Type 0
Among k [] = ⊥
Among k (j ∷ js) = (k ≡ j) ⊎ Among k js

-- each is there once
abbrev pub Apart : List ℕ → Type 0
Apart [] = Unit {0}
Apart (j ∷ js) = (Among j js → ⊥) × Apart js

pub among_dec : (k : ℕ) (js : List ℕ) → Among k js ⊎ (Among k js → ⊥)
among_dec k [] = inr (λ h. h)
among_dec k (j ∷ js) =
    ⊎_elim (λ e. inl (inl e))
    (λ ne. ⊎_elim (λ h. inl (inr h)) (λ nh. inr (λ h. ⊎_elim ne nh h)) (among_dec k js))
    (cases_eq k j)

-- without one

pub among_without : (c k : ℕ) (js : List ℕ) → Among k (without c js) → Among k js × (k ≡ c → ⊥)
among_without c k [] h = absurd h
among_without c k (j ∷ js) h =
    cond_both (eqb j c) (without c js) (j ∷ without c js) (λ z. Among k z → Among k (j ∷ js) × (k ≡ c → ⊥))
    (λ e h. let r = among_without c k js h in (inr r.0, r.1))
    (λ f h.
    ⊎_elim (λ e. (inl e, (λ q. differs f e q))) (λ g. let r = among_without c k js g in (inr r.0, r.1)) h)
    h
  where
    differs : eqb j c ≡ false → k ≡ j → k ≡ c → ⊥
    differs f e q = absurd (cc (f, eq-eqb j c (sym e ∙ q)))

pub without_among : (c k : ℕ) (js : List ℕ) → Among k js → (k ≡ c → ⊥) → Among k (without c js)
without_among c k [] h ne = h
without_among c k (j ∷ js) (inl e) ne =
    subst (λ z. Among k z) (sym (cond-false (eqb j c) (without c js) (j ∷ without c js) (eqb_no j c (λ q. ne (e ∙ q))))) (inl e)
without_among c k (j ∷ js) (inr h) ne =
    cond_both (eqb j c) (without c js) (j ∷ without c js) (λ z. Among k z) (λ e. without_among c k js h ne) (λ f. inr (without_among c k js h ne))

apart_without : (c : ℕ) (js : List ℕ) → Apart js → Apart (without c js)
apart_without c [] h = tt
apart_without c (j ∷ js) h =
    cond_both (eqb j c) (without c js) (j ∷ without c js) (λ z. Apart z) (λ e. apart_without c js h.1)
    (λ f. ((λ g. h.0 (among_without c j js g).0), apart_without c js h.1))

-- members

of_members : (a k : ℕ) (set : List Bool) → Among k (members_from a set) → (i : ℕ) × (k ≡ a + i) × (get_or set i false ≡ true)
of_members a k [] h = absurd h
of_members a k (true ∷ set) (inl e) = (0, e ∙ (omega arith), refl)
of_members a k (true ∷ set) (inr h) = let r = of_members (suc a) k set h in (suc r.0, omega (arith, r.1), r.2)
of_members a k (false ∷ set) h = let r = of_members (suc a) k set h in (suc r.0, omega (arith, r.1), r.2)

to_members : (a k i : ℕ) (set : List Bool) → k ≡ a + i → get_or set i false ≡ true → Among k (members_from a set)
to_members a k i [] e h = absurd (cc h)
to_members a k zero (true ∷ set) e h = inl (omega arith)
to_members a k zero (false ∷ set) e h = absurd (cc h)
to_members a k (suc i) (true ∷ set) e h = inr (to_members (suc a) k i set (omega arith) h)
to_members a k (suc i) (false ∷ set) e h = to_members (suc a) k i set (omega arith) h

apart_members : (a : ℕ) (set : List Bool) → Apart (members_from a set)
apart_members a [] = tt
apart_members a (true ∷ set) = ((λ h. let r = of_members (suc a) a set h in absurd (omega (arith, r.1))), apart_members (suc a) set)
apart_members a (false ∷ set) = apart_members (suc a) set

pub member_in : (set : List Bool) (k : ℕ) → Among k (members set) → IsIn set k
member_in set k h =
    let r = of_members 1 k set h in
    let e : suc r.0 ≡ k = omega (arith, r.1) in
    subst (λ z. IsIn set z) e r.2

pub in_member : (set : List Bool) (k : ℕ) → IsIn set k → Among k (members set)
in_member set zero h = absurd (cc h)
in_member set (suc k) h = to_members 1 (suc k) k set (omega arith) h

within_length : (set : List Bool) (i : ℕ) → get_or set i false ≡ true → i < length set
within_length [] i h = absurd (cc h)
within_length (b ∷ set) zero h = omega arith
within_length (b ∷ set) (suc i) h = let r = within_length set i h in omega arith

pub in_bounds : (set : List Bool) (k : ℕ) → IsIn set k → (1 ≤ k) × (k ≤ length set)
in_bounds set zero h = absurd (cc h)
in_bounds set (suc k) h = let r = within_length set k h in (omega arith, r)

-- the nodes that are to be asked yet: each once, of the set, and not this one
pub record AreLeft (set : List Bool) (c : ℕ) (js : List ℕ) : Type 0 where
  pub apart : Apart js
  pub in_set : (k : ℕ) → Among k js → IsIn set k
  pub others : (k : ℕ) → Among k js → k ≡ c → ⊥

pub peers_left : (set : List Bool) (c : ℕ) → AreLeft set c (peers set c)
peers_left set c =
    record {
      apart = apart_without c (members set) (apart_members 1 set);
      in_set = λ k h. member_in set k (among_without c k (members set) h).0;
      others = λ k h. (among_without c k (members set) h).1;
    }

pub all_peers : (set : List Bool) (c k : ℕ) → IsIn set k → (k ≡ c → ⊥) → Among k (peers set c)
all_peers set c k h ne = without_among c k (members set) (in_member set k h) ne

pub left_rest : (set : List Bool) (c j : ℕ) (js : List ℕ) → AreLeft set c (j ∷ js) → AreLeft set c js
left_rest set c j js h = record { apart = h.apart.1; in_set = λ k a. h.in_set k (inr a); others = λ k a. h.others k (inr a) }

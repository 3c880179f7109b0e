-- That an inflow gave one more thing.
use Rattle.std.proofs.Common.{◌≡◌, ◌&&◌, ℕ, zero, suc, Bool, true, false, nat_eq, List, [], ◌∷◌, ◌++◌, length, refl, sym, ap, ◌∙◌, subst, arith}
use Rattle.std.proofs.Math.Dec.{eqb-suc-zero}
use Rattle.node_threads.specs.declared.inflow.Next.{Next}
use Rattle.node_threads.specs.declared.inflow.Next.TheVariants as next
use Rattle.node_threads.specs.Inflows.{Given, GivenInRound, jobs_in}

-- whether an inflow might wait for what comes after these
pub waits_behind : {A : Type 0} → Bool → List A → Bool
waits_behind may_wait [] = may_wait
waits_behind may_wait (x ∷ xs) = false

with_true : (b : Bool) → (b && true) ≡ b
with_true true = refl
with_true false = refl

with_false : (b : Bool) → (b && false) ≡ false
with_false true = refl
with_false false = refl

-- it might for the first alone
pub first_waits : {A : Type 0} (may_wait : Bool) (xs : List A) (n : ℕ) → length xs ≡ n → (may_wait && nat_eq n 0) ≡ waits_behind may_wait xs
unfolding waits_behind
first_waits may_wait [] n is = ap (λ (m : ℕ). may_wait && nat_eq m 0) (sym is) ∙ with_true may_wait
first_waits may_wait (x ∷ xs) zero is = absurd (omega (arith, is))
first_waits may_wait (x ∷ xs) (suc n) is = ap (λ (b : Bool). may_wait && b) (eqb-suc-zero n) ∙ with_false may_wait

module _ {I J : Type 0} (gives : I → Bool → Next J → I → Type 0) where
  pub given_end : (may_wait : Bool) (xs : List (Next J)) (x : Next J) (i k l : I) → GivenInRound gives may_wait i xs k → gives k (waits_behind may_wait xs) x l
      → GivenInRound gives may_wait i (xs ++ x ∷ []) l
  unfolding waits_behind
  given_end may_wait [] x i k l given gave = (l, subst (λ (z : I). gives z may_wait x l) given gave, refl)
  given_end may_wait (y ∷ xs) x i k l given gave = (given.0, given.1, given_end false xs x given.0 k l given.2 (subst (λ (b : Bool). gives k b x l) (sym (never xs)) gave))
    where
      never : {A : Type 0} (ys : List A) → waits_behind false ys ≡ false
      never [] = refl
      never (y ∷ ys) = refl

  -- it gave them, whether or not it might wait
  pub given_any : (may_wait : Bool) (xs : List (Next J)) (i k : I) → GivenInRound gives may_wait i xs k → Given gives i xs k
  given_any may_wait [] i k h = h
  given_any may_wait (x ∷ xs) i k h = (may_wait, h.0, h.1, given_any false xs h.0 k h.2)

pub jobs_end : {J : Type 0} (xs : List (Next J)) (x : Next J) → jobs_in (xs ++ x ∷ []) ≡ jobs_in xs ++ jobs_in (x ∷ [])
jobs_end [] x = refl
jobs_end (next.Job j ∷ xs) x = ap (λ l. j ∷ l) (jobs_end xs x)
jobs_end (next.Nothing ∷ xs) x = jobs_end xs x
jobs_end (next.Over ∷ xs) x = jobs_end xs x

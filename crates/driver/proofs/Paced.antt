-- Lines that went are paced.
use Rattle.std.proofs.Common.{◌≡◌, ◌≤◌, ◌+◌, ◌*◌, ◌^◌, ◌∷◌, ◌++◌, ℕ, zero, suc, Bool, true, false, List, [], length, refl, ap, subst, arith}
use Rattle.std.specs.Prelude.{pred, nat_le, nat_lt, max, if◌then◌else◌}
use Rattle.std.proofs.lemmas.Bool.Decides.{nat_tests}
use Rattle.irc_line.proofs.Booleans.{and_right}
use Rattle.driver.specs.Pacing.{IsPaced}
use Rattle.driver.specs.Pacing.{may_go, free_after, gone}

module _ (burst line : ℕ) where
  -- each of these lines went in its turn
  abbrev Goes : ℕ → List ℕ → Type 0
  Goes free [] = Unit {0}
  Goes free (now ∷ later) = (may_go burst line free now ≡ true) × Goes (max free now + line) later

  gone_step : (free now : ℕ) (later : List ℕ) (t : Bool) → may_go burst line free now ≡ t
      → Goes (free_after burst line free now) (gone burst line (free_after burst line free now) later)
      → Goes free (if t then now ∷ gone burst line (free_after burst line free now) later else gone burst line (free_after burst line free now) later)
  gone_step free now later true is h =
      let at : free_after burst line free now ≡ max free now + line = ap (λ t. if t then max free now + line else free) is in (
        is,
        subst (λ f. Goes f (gone burst line (free_after burst line free now) later)) at h,
      )
  gone_step free now later false is h =
      let at : free_after burst line free now ≡ free = ap (λ t. if t then max free now + line else free) is in
      subst (λ f. Goes f (gone burst line (free_after burst line free now) later)) at h

  gone_goes : (free : ℕ) (moments : List ℕ) → Goes free (gone burst line free moments)
  gone_goes free [] = tt
  gone_goes free (now ∷ later) =
      gone_step free now later (may_go burst line free now) refl (gone_goes (free_after burst line free now) later)

  goes_behind : (free : ℕ) (before rest : List ℕ) → Goes free (before ++ rest) → (f : ℕ) × Goes f rest
  goes_behind free [] rest h = (free, h)
  goes_behind free (x ∷ before) rest h = goes_behind (max free x + line) before rest h.1

  free_before : (free now : ℕ) → may_go burst line free now ≡ true → free ≤ now + pred burst * line
  free_before free now h =
      let le : nat_le free (now + pred burst * line) ≡ true = and_right (nat_lt now (2 ^ 63)) (nat_le free (now + pred burst * line)) h in
      grind (arith, nat_tests)

  free_grows : (free : ℕ) (between : List ℕ) (last : ℕ) (after : List ℕ) → Goes free (between ++ last ∷ after)
      → free + length between * line ≤ last + pred burst * line
  free_grows free [] last after h = let l = free_before free last h.0 in omega arith
  free_grows free (x ∷ between) last after h =
      let l = free_grows (max free x + line) between last after h.1 in omega arith

pub paced : IsPaced
paced zero line moments before between after first last one is = absurd (omega arith)
paced (suc b) line moments before between after first last one is =
    let all : Goes (suc b) line 0 (before ++ first ∷ (between ++ last ∷ after)) = subst (Goes (suc b) line 0) is (gone_goes (suc b) line 0 moments) in
    let run = goes_behind (suc b) line 0 before (first ∷ between ++ last ∷ after) all in
    let l = free_grows (suc b) line (max run.0 first + line) between last after run.1.1 in
    omega arith

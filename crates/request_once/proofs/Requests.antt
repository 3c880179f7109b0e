-- How what is kept changes with one more body.
use Rattle.std.proofs.Common.{◌≡◌, ℕ, ◌+◌, ◌<◌, ◌≤◌, ◌≢◌, Bool, true, false, List, [], ◌∷◌, ◌++◌, map, refl, ap, ◌∙◌, sym, arith}
use Rattle.std.specs.Prelude.{if◌then◌else◌}
use Rattle.wire_bytes.specs.declared.mark.Mark as mark
use Rattle.wire_bytes.specs.declared.origin.Origin.{Origin}
use Rattle.machine_laws.specs.Runs.{History}
use Rattle.request_once.specs.declared.body.Body.{Body}
use Rattle.request_once.specs.declared.body.Body.TheVariants.{Inner, Asked, Blank, Mark}
use Rattle.request_once.specs.declared.answer.Answer.TheVariants.{Effect, Done, Repeat, Gap, Marked}
use Rattle.machine_laws.specs.Origins.{same_origin}
use Rattle.request_once.specs.Fresh.{asked, fresh, last, plain, answers}
use Rattle.irc_line.proofs.Numbers.{of_eq, of_gt, of_le, of_ne}
use Rattle.machine_laws.proofs.Origins.{same_origin-is}

pub last-nil : (C A : Type 0) (o : Origin) → last {C = C} {A = A} [] o ≡ 0
unfolding last fresh
last-nil C A o = refl

pub plain-nil : {C A : Type 0} (client : Origin → ℕ → A → C) → plain client [] ≡ []
unfolding plain fresh
plain-nil client = refl

module _ {C A : Type 0} where
  pub last-inner : (earlier : History (Body C A)) (place : ℕ) (c : C) (o : Origin) → last ((place, Inner c) ∷ earlier) o ≡ last earlier o
  unfolding last fresh
  last-inner earlier place c o = refl

  pub last-blank : (earlier : History (Body C A)) (place : ℕ) (o : Origin) → last ((place, Blank) ∷ earlier) o ≡ last earlier o
  unfolding last fresh
  last-blank earlier place o = refl

  pub last-mark : (earlier : History (Body C A)) (place : ℕ) (m : mark.Mark) (o : Origin) → last ((place, Mark m) ∷ earlier) o ≡ last earlier o
  unfolding last fresh
  last-mark earlier place m o = refl

  fresh-next : (earlier : History (Body C A)) (place : ℕ) (o : Origin) (n at : ℕ) (a : A) → n ≡ last earlier o + 1 → fresh ((place, Asked o n at a) ∷ earlier) ≡ (place, Asked o n at a) ∷ fresh earlier
  unfolding last fresh
  fresh-next earlier place o n at a e = rw (of_eq n (asked o (fresh earlier) + 1) e)

  fresh-skip : (earlier : History (Body C A)) (place : ℕ) (o : Origin) (n at : ℕ) (a : A) → n ≢ last earlier o + 1 → fresh ((place, Asked o n at a) ∷ earlier) ≡ fresh earlier
  unfolding last fresh
  fresh-skip earlier place o n at a e = rw (of_ne n (asked o (fresh earlier) + 1) e)

  pub last-skip : (earlier : History (Body C A)) (place : ℕ) (o : Origin) (n at : ℕ) (a : A) (p : Origin) → n ≢ last earlier o + 1 → last ((place, Asked o n at a) ∷ earlier) p ≡ last earlier p
  unfolding last
  last-skip earlier place o n at a p e = rw (fresh-skip earlier place o n at a e)

  pub last-next : (earlier : History (Body C A)) (place : ℕ) (o : Origin) (n at : ℕ) (a : A) (p : Origin) → n ≡ last earlier o + 1
      → last ((place, Asked o n at a) ∷ earlier) p ≡ (if same_origin p o then last earlier p + 1 else last earlier p)
  unfolding last
  last-next earlier place o n at a p e = rw (fresh-next earlier place o n at a e)

  module _ (client : Origin → ℕ → A → C) where
    pub plain-inner : (earlier : History (Body C A)) (place : ℕ) (c : C) → plain client ((place, Inner c) ∷ earlier) ≡ (place, c) ∷ plain client earlier
    unfolding plain fresh
    plain-inner earlier place c = refl

    pub plain-blank : (earlier : History (Body C A)) (place : ℕ) → plain client ((place, Blank) ∷ earlier) ≡ plain client earlier
    unfolding plain fresh
    plain-blank earlier place = refl

    pub plain-mark : (earlier : History (Body C A)) (place : ℕ) (m : mark.Mark) → plain client ((place, Mark m) ∷ earlier) ≡ plain client earlier
    unfolding plain fresh
    plain-mark earlier place m = refl

    pub plain-next : (earlier : History (Body C A)) (place : ℕ) (o : Origin) (n at : ℕ) (a : A) → n ≡ last earlier o + 1 → plain client ((place, Asked o n at a) ∷ earlier) ≡ (place, client o at a) ∷ plain client earlier
    unfolding plain
    plain-next earlier place o n at a e = rw (fresh-next earlier place o n at a e)

    pub plain-skip : (earlier : History (Body C A)) (place : ℕ) (o : Origin) (n at : ℕ) (a : A) → n ≢ last earlier o + 1 → plain client ((place, Asked o n at a) ∷ earlier) ≡ plain client earlier
    unfolding plain
    plain-skip earlier place o n at a e = rw (fresh-skip earlier place o n at a e)

    module _ {E : Type 0} (effects : History C → ℕ → C → List E) where
      pub answers-inner : (earlier : History (Body C A)) (place : ℕ) (c : C) → answers client effects earlier place (Inner c) ≡ map Effect (effects (plain client earlier) place c)
      unfolding answers
      answers-inner earlier place c = refl

      pub answers-blank : (earlier : History (Body C A)) (place : ℕ) → answers client effects earlier place Blank ≡ []
      unfolding answers
      answers-blank earlier place = refl

      pub answers-mark : (earlier : History (Body C A)) (place : ℕ) (m : mark.Mark) → answers client effects earlier place (Mark m) ≡ Marked m ∷ []
      unfolding answers
      answers-mark earlier place m = refl

      pub answers-next : (earlier : History (Body C A)) (place : ℕ) (o : Origin) (n at : ℕ) (a : A) → n ≡ last earlier o + 1 → answers client effects earlier place (Asked o n at a) ≡ map Effect (effects (plain client earlier) place (client o at a)) ++ Done o n ∷ []
      unfolding answers
      answers-next earlier place o n at a e = rw (of_eq n (last earlier o + 1) e)

      pub answers-repeat : (earlier : History (Body C A)) (place : ℕ) (o : Origin) (n at : ℕ) (a : A) → n ≤ last earlier o → answers client effects earlier place (Asked o n at a) ≡ Repeat o (last earlier o) ∷ []
      unfolding answers
      answers-repeat earlier place o n at a e =
          let ne : n ≢ last earlier o + 1 = omega arith in
          rw (of_ne n (last earlier o + 1) ne, of_le n (last earlier o) e)

      pub answers-gap : (earlier : History (Body C A)) (place : ℕ) (o : Origin) (n at : ℕ) (a : A) → last earlier o + 1 < n → answers client effects earlier place (Asked o n at a) ≡ Gap o (last earlier o + 1) ∷ []
      unfolding answers
      answers-gap earlier place o n at a e =
          let ne : n ≢ last earlier o + 1 = omega arith in
          rw (of_ne n (last earlier o + 1) ne, of_gt n (last earlier o) (omega arith))

numbers-next_by : {C A : Type 0} (earlier : History (Body C A)) (o p : Origin) (n was : ℕ) (b : Bool) → same_origin p o ≡ b → n ≡ last earlier o + 1 → was ≡ last earlier p
    → (if b then n else was) ≡ (if b then last earlier p + 1 else last earlier p)
numbers-next_by earlier o p n was true s e w = e ∙ ap (λ q. last earlier q + 1) (sym (same_origin-is p o s))
numbers-next_by earlier o p n was false s e w = w

-- the numbers that are kept follow
pub numbers-next : {C A : Type 0} (old new : Origin → ℕ) (earlier : History (Body C A)) (place : ℕ) (o : Origin) (n at : ℕ) (a : A)
    → ((p : Origin) → old p ≡ last earlier p) → n ≡ last earlier o + 1 → ((p : Origin) → new p ≡ (if same_origin p o then n else old p))
    → (p : Origin) → new p ≡ last ((place, Asked o n at a) ∷ earlier) p
numbers-next old new earlier place o n at a h e noted p = noted p ∙ numbers-next_by earlier o p n _ (same_origin p o) refl e (h p) ∙ sym (last-next earlier place o n at a p e)

-- Requests that stay are answered Done, and no others.
use Rattle.std.proofs.Common.{◌≡◌, ℕ, ◌+◌, ◌≤◌, Bool, true, false, List, [], ◌∷◌, ◌++◌, map, refl, ap, ◌∙◌, sym, arith}
use Rattle.std.specs.Prelude.{if◌then◌else◌, ◌==◌, ◌&&◌, nat_le}
use Rattle.wire_bytes.specs.declared.origin.Origin.{Origin}
use Rattle.machine_laws.specs.Runs.{History, all_effects}
use Rattle.machine_laws.specs.Origins.{same_origin}
use Rattle.request_once.specs.declared.body.Body.{Body}
use Rattle.request_once.specs.declared.body.Body.TheVariants.{Inner, Asked, Blank, Mark}
use Rattle.request_once.specs.declared.answer.Answer.{Answer}
use Rattle.request_once.specs.declared.answer.Answer.TheVariants.{Effect, Done}
use Rattle.request_once.specs.Fresh.{asked, fresh, last, plain, refused, answers, times, if_stays, is_done, dones}
use Rattle.request_once.proofs.Stays.{stays_once}

done_by : (b : Bool) (k m : ℕ) → (if b then k + 1 else k) + m ≡ (if b then (k + m) + 1 else k + m)
done_by true k m = omega arith
done_by false k m = refl

not_done : (E : Type 0) (o : Origin) (n : ℕ) (p : Origin) (m was : ℕ) (b : Bool) → nat_le m was ≡ b → dones o n (refused {E = E} p m was ∷ []) ≡ 0
not_done E o n p m was true e = rw e
not_done E o n p m was false e = rw e

module _ {E : Type 0} (o : Origin) (n : ℕ) where
  dones_append : (xs ys : List (Answer E)) → dones o n (xs ++ ys) ≡ dones o n xs + dones o n ys
  dones_append [] ys = omega arith
  dones_append (x ∷ xs) ys = ap (λ k. if is_done o n x then k + 1 else k) (dones_append xs ys) ∙ sym (done_by (is_done o n x) (dones o n xs) (dones o n ys))

  no_dones : (es : List E) → dones o n (map Effect es) ≡ 0
  no_dones [] = refl
  no_dones (e ∷ es) = no_dones es

  one_done : (es : List E) (p : Origin) (m : ℕ) → dones o n (map Effect es ++ Done p m ∷ []) ≡ (if same_origin o p && m == n then 1 else 0)
  one_done es p m = dones_append (map Effect es) (Done p m ∷ []) ∙ ap (λ k. k + (if same_origin o p && m == n then 1 else 0)) (no_dones es) ∙ omega arith

once_more : (k : ℕ) (b : Bool) → k + (if b then 1 else 0) ≡ (if b then k + 1 else k)
once_more k true = refl
once_more k false = omega arith

module _ {C A E : Type 0} (client : Origin → ℕ → A → C) (effects : History C → ℕ → C → List E) (o : Origin) (n : ℕ) where
  asked_by : (earlier : History (Body C A)) (place : ℕ) (p : Origin) (m at : ℕ) (a : A) (b : Bool) → (m == asked p (fresh earlier) + 1) ≡ b
      → times o n (fresh earlier) + dones o n (if b then map Effect (effects (plain client earlier) place (client p at a)) ++ Done p m ∷ [] else refused p m (last earlier p) ∷ []) ≡ times o n (if_stays b (place, Asked p m at a) (fresh earlier))
  asked_by earlier place p m at a true e =
      ap (λ k. times o n (fresh earlier) + k) (one_done o n (effects (plain client earlier) place (client p at a)) p m) ∙ once_more (times o n (fresh earlier)) (same_origin o p && m == n)
  asked_by earlier place p m at a false e =
      ap (λ k. times o n (fresh earlier) + k) (not_done E o n p m (last earlier p) (nat_le m (last earlier p)) refl) ∙ omega arith

  one_body : (earlier : History (Body C A)) (place : ℕ) (x : Body C A) → times o n (fresh earlier) + dones o n (answers client effects earlier place x) ≡ times o n (fresh ((place, x) ∷ earlier))
  unfolding answers fresh last
  one_body earlier place (Inner c) = ap (λ k. times o n (fresh earlier) + k) (no_dones o n (effects (plain client earlier) place c)) ∙ omega arith
  one_body earlier place Blank = omega arith
  one_body earlier place (Mark m) = omega arith
  one_body earlier place (Asked p m at a) = asked_by earlier place p m at a (m == asked p (fresh earlier) + 1) refl

  -- over a whole list, each request that stays is answered Done
  pub dones_stay : (h : History (Body C A)) → dones o n (all_effects (answers client effects) h) ≡ times o n (fresh h)
  unfolding fresh
  dones_stay [] = refl
  dones_stay (x ∷ h) =
      dones_append o n (all_effects (answers client effects) h) (answers client effects h x.0 x.1)
      ∙ (ap (λ k. k + dones o n (answers client effects h x.0 x.1)) (dones_stay h) ∙ one_body h x.0 x.1)

  pub done_once : (h : History (Body C A)) → dones o n (all_effects (answers client effects) h) ≤ 1
  done_once h = let e = dones_stay h in let l = stays_once h o n in omega arith

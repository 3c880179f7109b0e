-- How often a request is asked and comes back.
use Rattle.std.proofs.Common.{◌≡◌, ◌⊎◌, ◌≤◌, ◌+◌, ⊎_elim, ℕ, true, List, [], ◌∷◌, ◌++◌, Option, None, Some, refl, ap, if◌then◌else◌, nat_eq, arith}
use Rattle.std.proofs.lemmas.List.Sums.{sum_by-append}
use Rattle.node_threads.specs.declared.worker_loop.requests.Asked.{Asked}
use Rattle.node_threads.specs.declared.worker_loop.requests.Request.{Request}
use Rattle.node_threads.specs.Fates.{may_come, times}
use Rattle.node_threads.specs.Requests.{at_rest, last_asked}
use Rattle.node_threads.specs.Waiting.{CameBack}

comes_no_more : (asked : Option Asked) (number : ℕ) → may_come number (at_rest asked) ≡ 0
comes_no_more None number = refl
comes_no_more (Some asked) number = refl

none_sooner : (asked now : Option Asked) (number : ℕ) → (now ≡ asked) ⊎ (now ≡ at_rest asked) → may_come number now ≤ may_come number asked
none_sooner asked now number is =
    ⊎_elim (λ (same : now ≡ asked). let eq = ap (may_come number) same in omega (arith, eq))
    (λ (rest : now ≡ at_rest asked). let eq = ap (may_come number) rest in let none = comes_no_more asked number in omega (arith, eq, none)) is

module _ {B : Type 0} where
  pub times_both : (number : ℕ) (xs ys : List (Request B)) → times number (xs ++ ys) ≡ times number xs + times number ys
  times_both number xs ys = sum_by-append (λ (r : Request B). if nat_eq r.note number then 1 else 0) xs ys

  one_time : (number : ℕ) (r : Request B) → times number (r ∷ []) ≡ (if nat_eq r.note number then 1 else 0)
  one_time number r = omega arith

  pub came_once : (asked now : Option Asked) (back : List (Request B)) (number : ℕ) → CameBack asked back now → times number back + may_come number now ≤ may_come number asked
  came_once asked now [] number h = let le = none_sooner asked now number h in omega (arith, le)
  came_once asked now (r ∷ []) number h =
      let was = ap (may_come number) h.1 in
      let time = one_time number r in
      let eq = ap (may_come number) h.2 in
      let none = comes_no_more asked number in
      omega (arith, was, time, eq, none)
  came_once asked now (r ∷ q ∷ more) number h = absurd h

  pub last_once : (term : ℕ) (rs : List (Request B)) (asked : Option Asked) (number : ℕ) → may_come number (last_asked term rs asked) ≤ times number rs + may_come number asked
  last_once term [] asked number = omega arith
  last_once term (r ∷ rs) asked number =
      let rest = last_once term rs (Some (record { note = r.note; term = term; may_return = true })) number in
      let all : times number (r ∷ rs) ≡ times number (r ∷ []) + times number rs = times_both number (r ∷ []) rs in
      let time = one_time number r in
      omega (arith, rest, all, time)

-- Ids of sessions: when they are the same, and which is greater.
use Rattle.std.proofs.Common.{◌≡◌, ℕ, true, false, Option, Some, None, refl, ap, ◌∙◌, arith}
use Rattle.std.proofs.lemmas.Bool.Decides.{nat_tests}
use Rattle.machine_laws.specs.Sessions.{same_session, is_that}
use Rattle.wire_bytes.specs.declared.session_id.SessionId.{SessionId}
use Rattle.session_fence.specs.Sessions.{is_below, is_new}

pub same-is : (a b : SessionId) → same_session a b ≡ true → a ≡ b
same-is a b e =
    let e0 : a.0 ≡ b.0 = grind (arith, nat_tests) in
    let e1 : a.1 ≡ b.1 = grind (arith, nat_tests) in
    let f : ℕ → ℕ → SessionId = λ x y. (x, y) in
    ap (λ x. f x a.1) e0 ∙ ap (λ y. f b.0 y) e1

pub same-itself : (a : SessionId) → same_session a a ≡ true
same-itself a = grind (arith, nat_tests)

pub same-turned : (a b : SessionId) → same_session a b ≡ false → same_session b a ≡ false
same-turned a b e = grind (arith, nat_tests)

pub below-not_same : (a b : SessionId) → is_below a b ≡ true → same_session a b ≡ false
below-not_same a b e = grind (arith, nat_tests)

below-trans : (a b c : SessionId) → is_below a b ≡ true → is_below b c ≡ true → is_below a c ≡ true
below-trans a b c e f = grind (arith, nat_tests)

-- an id above a new one is new
pub new-above : (top : Option SessionId) (a b : SessionId) → is_new top a ≡ true → is_below a b ≡ true → is_new top b ≡ true
new-above None a b e f = refl
new-above (Some t) a b e f = below-trans t a b e f

pub that-is : (now : Option SessionId) (id : SessionId) → is_that now id ≡ true → now ≡ Some id
that-is None id e = cc
that-is (Some a) id e = ap (λ (x : SessionId). Some x) (same-is a id e)

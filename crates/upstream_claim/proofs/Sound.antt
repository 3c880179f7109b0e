-- Each line is claimed once.
use Rattle.std.proofs.Common.{◌≡◌, ℕ, zero, suc, ◌+◌, ◌-◌, ◌<◌, ◌≤◌, Bool, true, false, List, [], ◌∷◌, ◌++◌, length, take, get_or, Option, Some, None, refl, ap, ◌∙◌, sym, arith, inl, inr}
use Rattle.std.specs.Prelude.{◌⊎◌, ◌==◌, nat_lt, if◌then◌else◌, slice_get}
use Rattle.std.proofs.lemmas.List.{length-append, get_or_append_left}
use Rattle.std.proofs.Math.Seq.{get_or-append_seam}
use Rattle.std.proofs.lemmas.Option.{slice_get_within, slice_get_read, get_or_from_slice_get}
use Rattle.irc_line.specs.Lines.{Parts}
use Rattle.machine_laws.specs.Runs.{History}
use Rattle.machine_laws.specs.Sessions.{is_that}
use Rattle.wire_bytes.specs.declared.origin.Origin.{Origin}
use Rattle.wire_bytes.specs.declared.session_id.SessionId.{SessionId}
use Rattle.upstream_claim.specs.declared.command.ClaimsCommand.{ClaimsCommand}
use Rattle.upstream_claim.specs.declared.command.ClaimsCommand.TheVariants.{Inner, Claim}
use Rattle.upstream_claim.specs.Numbered.{Numbered, room, lines_of, is_next, is_taken, with_claim, plain, numbered, numbered_after, outgoing, claimed}
use Rattle.irc_line.proofs.Booleans.{and_left, and_right}
use Rattle.irc_line.proofs.Numbers.{eq_of, ge_of, le_of, lt_of}

pub none_not_some : {A : Type 0} (x : A) → None ≡ Some x → ⊥
none_not_some x e = cc

more_by : {X : Type 0} (xs : List X) (x y : X) (i : ℕ) (b : Bool) → nat_lt i (length xs) ≡ b → slice_get (xs ++ x ∷ []) i ≡ Some y → (slice_get xs i ≡ Some y) ⊎ ((i ≡ length xs) × (x ≡ y))
more_by xs x y i true t e =
    let lt : i < length xs = lt_of i (length xs) t in
    let g : y ≡ get_or xs i y = sym (get_or_from_slice_get (xs ++ x ∷ []) i y y e) ∙ get_or_append_left xs (x ∷ []) y i lt in
    inl (slice_get_read xs (length xs) i y refl lt g)
more_by xs x y i false t e =
    let w : i < length (xs ++ x ∷ []) = slice_get_within (xs ++ x ∷ []) i y e in
    let l : length (xs ++ x ∷ []) ≡ length xs + 1 = length-append xs (x ∷ []) in
    let ge : length xs ≤ i = ge_of i (length xs) t in
    let i_is : i ≡ length xs = omega arith in
    let g : get_or (xs ++ x ∷ []) (length xs) y ≡ y = ap (λ k. get_or (xs ++ x ∷ []) k y) (sym i_is) ∙ get_or_from_slice_get (xs ++ x ∷ []) i y y e in
    inr (i_is, sym (get_or-append_seam xs x [] y) ∙ g)

-- an element of a list with one more at its end
one_more : {X : Type 0} (xs : List X) (x y : X) (i : ℕ) → slice_get (xs ++ x ∷ []) i ≡ Some y → (slice_get xs i ≡ Some y) ⊎ ((i ≡ length xs) × (x ≡ y))
one_more xs x y i e = more_by xs x y i (nat_lt i (length xs)) refl e

length-take_le : {X : Type 0} (n : ℕ) (xs : List X) → length (take n xs) ≤ n
length-take_le zero xs = omega arith
length-take_le (suc n) [] = omega arith
length-take_le (suc n) (x ∷ xs) = let h = length-take_le n xs in omega arith

pub record IsSound (q : Numbered) : Type 0 where
  pub in_order : (i n : ℕ) (id : SessionId) → slice_get q.claimed i ≡ Some (n, id) → n ≡ i + 1
  pub within : length q.claimed ≤ length q.outgoing
  pub waiting : length q.outgoing ≤ length q.claimed + 1000

sound-nil : IsSound (record { outgoing = []; claimed = [] })
sound-nil = record { in_order = λ i n id e. absurd (none_not_some (n, id) e); within = omega arith; waiting = omega arith }

sound-more : (q : Numbered) (xs : List Parts) → IsSound q → IsSound (record { outgoing = q.outgoing ++ take (room q) xs; claimed = q.claimed })
sound-more q xs s =
    let l : length (q.outgoing ++ take (room q) xs) ≡ length q.outgoing + length (take (room q) xs) = length-append q.outgoing (take (room q) xs) in
    let t : length (take (room q) xs) ≤ 1000 - (length q.outgoing - length q.claimed) = length-take_le (room q) xs in
    let w = s.within in
    let m = s.waiting in
    record { in_order = s.in_order; within = rw l (omega arith); waiting = rw l (omega arith) }

added : (q : Numbered) (m : ℕ) (id : SessionId) → IsSound q → m ≡ length q.claimed + 1 → (i n : ℕ) (other : SessionId) → (slice_get q.claimed i ≡ Some (n, other)) ⊎ ((i ≡ length q.claimed) × (◌≡◌ {A = ℕ × SessionId} (m, id) (n, other))) → n ≡ i + 1
added q m id s e i n other (inl f) = s.in_order i n other f
added q m id s e i n other (inr f) = let k : m ≡ n = ap (λ (p : ℕ × SessionId). p.0) f.1 in let j = f.0 in omega arith

sound-claim : (q : Numbered) (id : SessionId) (m : ℕ) → IsSound q → m ≡ length q.claimed + 1 → m ≤ length q.outgoing → IsSound (with_claim q id m)
sound-claim q id m s e le =
    let l : length (q.claimed ++ (m, id) ∷ []) ≡ length q.claimed + 1 = length-append q.claimed ((m, id) ∷ []) in
    let w = s.waiting in
    record { in_order = λ i n other f. added q m id s e i n other (one_more q.claimed (m, id) (n, other) i f); within = rw l (omega arith); waiting = rw l (omega arith) }

sound-taken : (now : Option SessionId) (q : Numbered) (id : SessionId) (m : ℕ) (b : Bool) → is_taken now q id m ≡ b → IsSound q → IsSound (if b then with_claim q id m else q)
sound-taken now q id m true e s =
    let n : is_next q m ≡ true = and_right (is_that now id) _ e in
    let a : m ≡ length q.claimed + 1 = eq_of m _ (and_left _ _ n) in
    let b : m ≤ length q.outgoing = le_of m _ (and_right (m == length q.claimed + 1) _ n) in
    sound-claim q id m s a b
sound-taken now q id m false e s = s

module _ {C E : Type 0} (session : History C → Option SessionId) (sends : E → Option (Origin × Parts)) (effects : History C → ℕ → C → List E) where
  sound-after : (q : Numbered) (below : History C) (place : ℕ) (x : ClaimsCommand C) → IsSound q → IsSound (numbered_after session sends effects q below place x)
  sound-after q below place (Inner c) s = sound-more q (lines_of sends (effects below place c)) s
  sound-after q below place (Claim id m) s = sound-taken (session below) q id m (is_taken (session below) q id m) refl s

  pub sound : (h : History (ClaimsCommand C)) → IsSound (numbered session sends effects h)
  unfolding numbered
  sound [] = sound-nil
  sound (x ∷ earlier) = sound-after (numbered session sends effects earlier) (plain earlier) x.0 x.1 (sound earlier)

  -- the claims that took effect have the numbers from 1 on
  pub claims_in_order : (h : History (ClaimsCommand C)) (i n : ℕ) (id : SessionId) → slice_get (claimed session sends effects h) i ≡ Some (n, id) → n ≡ i + 1
  unfolding claimed
  claims_in_order h i n id e = (sound h).in_order i n id e

  pub claims_once : (h : History (ClaimsCommand C)) (i j n : ℕ) (one other : SessionId) → slice_get (claimed session sends effects h) i ≡ Some (n, one) → slice_get (claimed session sends effects h) j ≡ Some (n, other) → i ≡ j
  claims_once h i j n one other e f =
      let a : n ≡ i + 1 = claims_in_order h i n one e in
      let b : n ≡ j + 1 = claims_in_order h j n other f in
      omega arith

  pub claims_numbered : (h : History (ClaimsCommand C)) (i n : ℕ) (id : SessionId) → slice_get (claimed session sends effects h) i ≡ Some (n, id) → (1 ≤ n) × (n ≤ length (outgoing session sends effects h))
  unfolding claimed outgoing
  claims_numbered h i n id e =
      let a : n ≡ i + 1 = claims_in_order h i n id e in
      let b : i < length (numbered session sends effects h).claimed = slice_get_within _ i (n, id) e in
      let w = (sound h).within in
      (omega arith, omega arith)

  pub few_wait : (h : History (ClaimsCommand C)) → length (outgoing session sends effects h) ≤ length (claimed session sends effects h) + 1000
  unfolding claimed outgoing
  few_wait h = (sound h).waiting

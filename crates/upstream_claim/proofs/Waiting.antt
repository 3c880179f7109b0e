-- What is kept about the lines for upstream follows what came.
use Rattle.std.proofs.Common.{◌≡◌, ℕ, zero, suc, ◌+◌, ◌-◌, ◌<◌, ◌≤◌, Bool, true, false, List, [], ◌∷◌, ◌++◌, length, take, drop, get_or, Option, Some, None, refl, ap, ◌∙◌, sym, arith, append_assoc, inl, inr}
use Rattle.std.specs.Prelude.{◌⊎◌, ◌&&◌, ◌==◌, nat_lt, nat_le, if◌then◌else◌, is_some, slice_get, Result, Ok, Err, OnOk}
use Rattle.std.proofs.lemmas.Bool.Decides.{nat_tests}
use Rattle.std.proofs.lemmas.List.{length-append, length-drop, drop-append-le, drop-drop, get_or-drop, append-nil}
use Rattle.std.proofs.lemmas.Option.{slice_get_within, slice_get_read, get_or_from_slice_get}
use Rattle.irc_line.specs.Lines.{Parts}
use Rattle.wire_bytes.specs.declared.origin.Origin.{Origin}
use Rattle.wire_bytes.specs.declared.session_id.SessionId.{SessionId}
use Rattle.upstream_claim.specs.declared.effect.ClaimsEffect.{ClaimsEffect}
use Rattle.upstream_claim.specs.Numbered.{Numbered, room, line_of, lines_of, answer, answered, room_left, is_next, handed, with_claim}
use Rattle.upstream_claim.specs.States.{IsKept, space, handed_next, claimed_next}
use Rattle.irc_line.proofs.Numbers.{eq_of, lt_of, of_eq, of_ge, of_gt, of_le, of_lt}
use Rattle.upstream_claim.proofs.Sound.{none_not_some}

take_none : {A : Type 0} (n : ℕ) → take {A = A} n [] ≡ []
take_none zero = refl
take_none (suc n) = refl

-- ---- one more effect

some-room : (ws : List Parts) (l : Parts) (n : ℕ) → space ws ≡ n → space (ws ++ take n (l ∷ [])) ≡ n - 1
some-room ws l zero e = ap (λ (xs : List Parts). space xs) (append-nil ws) ∙ e
some-room ws l (suc n) e =
    let t : take n [] ≡ [] = take_none {A = Parts} n in
    let k : length (ws ++ l ∷ take n []) ≡ length ws + 1 = rw t (length-append ws (l ∷ [])) in
    ap (λ m. 1000 - m) k ∙ omega arith

-- the room after a line that is sent
pub room-after : (ws : List Parts) (o : Option (Origin × Parts)) → space (ws ++ take (space ws) (line_of o)) ≡ room_left (space ws) o
room-after ws None = ap (λ (xs : List Parts). space (ws ++ xs)) (take_none (space ws)) ∙ ap (λ (xs : List Parts). space xs) (append-nil ws)
room-after ws (Some p) = some-room ws p.1 (space ws) refl

take-split : (l : Parts) (n : ℕ) (rest : List Parts) → take n ((l ∷ []) ++ rest) ≡ take n (l ∷ []) ++ take (n - 1) rest
take-split l zero rest = refl
take-split l (suc n) rest = ap (λ k. l ∷ take k rest) (omega arith) ∙ ap (λ (xs : List Parts). (l ∷ xs) ++ take (suc n - 1) rest) (sym (take_none n))

take-lines : (n : ℕ) (o : Option (Origin × Parts)) (rest : List Parts) → take n (line_of o ++ rest) ≡ take n (line_of o) ++ take (room_left n o) rest
take-lines n None rest = ap (λ (xs : List Parts). xs ++ take n rest) (sym (take_none n))
take-lines n (Some p) rest = take-split p.1 n rest

module _ {E : Type 0} (sends : E → Option (Origin × Parts)) where
  pub answers-step : (done : List (ClaimsEffect E)) (ws : List Parts) (e : E) (es : List E) (whole : List (ClaimsEffect E)) → done ++ answered sends (space ws) (e ∷ es) ≡ whole
      → (done ++ answer (space ws) e (sends e)) ++ answered sends (space (ws ++ take (space ws) (line_of (sends e)))) es ≡ whole
  answers-step done ws e es whole h = rw (room-after ws (sends e), append_assoc) h

  pub lines-step : (ws : List Parts) (e : E) (es : List E) (whole : List Parts) → ws ++ take (space ws) (lines_of sends (e ∷ es)) ≡ whole
      → (ws ++ take (space ws) (line_of (sends e))) ++ take (space (ws ++ take (space ws) (line_of (sends e)))) (lines_of sends es) ≡ whole
  lines-step ws e es whole h = rw (room-after ws (sends e), append_assoc, ← take-lines (space ws) (sends e) (lines_of sends es)) h

-- ---- what is kept

pub nothing_kept : IsKept 0 [] (record { outgoing = []; claimed = [] })
nothing_kept = record { count = refl; within = omega arith; waiting = refl }

-- the room by what is kept
pub room-kept : (n : ℕ) (ws : List Parts) (q : Numbered) → IsKept n ws q → space ws ≡ room q
room-kept n ws q k = ap (λ (xs : List Parts). 1000 - length xs) k.waiting ∙ ap (λ m. 1000 - m) (length-drop (length q.claimed) q.outgoing)

-- more lines are numbered
pub more-kept : (n m : ℕ) (ws new xs : List Parts) (q : Numbered) → m ≡ n → new ≡ ws ++ take (space ws) xs → IsKept n ws q
    → IsKept m new (record { outgoing = q.outgoing ++ take (room q) xs; claimed = q.claimed })
more-kept n m ws new xs q e f k =
    let r = room-kept n ws q k in
    let l = length-append q.outgoing (take (room q) xs) in
    record {
      count = e ∙ k.count;
      within = let w = k.within in rw l (omega arith);
      waiting = f ∙ (ap (λ x. ws ++ take x xs) r ∙ (ap (λ (x : List Parts). x ++ take (room q) xs) k.waiting ∙ sym (drop-append-le (length q.claimed) q.outgoing (take (room q) xs) k.within)));
    }

chosen : {A : Type 0} (b : Bool) (o : Option A) (x : A) → (if b then o else None) ≡ Some x → (b ≡ true) × (o ≡ Some x)
chosen true o x e = (refl, e)
chosen false o x e = absurd (none_not_some x e)

refused : {A : Type 0} (b : Bool) (o : Option A) → (if b then o else None) ≡ None → (b ≡ false) ⊎ (o ≡ None)
refused true o e = inr e
refused false o e = inl refl

none_by : (ws : List Parts) {c o : ℕ} → slice_get ws 0 ≡ None → length ws ≡ o - c → o ≤ c
none_by [] e f = omega arith
none_by (w ∷ ws) e f = absurd (none_not_some w (sym e))

-- the first line that waits is the next to be claimed
first-waits : (n : ℕ) (ws : List Parts) (q : Numbered) (l : Parts) → IsKept n ws q → slice_get ws 0 ≡ Some l → slice_get q.outgoing (length q.claimed) ≡ Some l
first-waits n ws q l k e =
    let f : slice_get (drop (length q.claimed) q.outgoing) 0 ≡ Some l = ap (λ (xs : List Parts). slice_get xs 0) (sym k.waiting) ∙ e in
    let w : 0 < length (drop (length q.claimed) q.outgoing) = slice_get_within _ 0 l f in
    let d : length (drop (length q.claimed) q.outgoing) ≡ length q.outgoing - length q.claimed = length-drop (length q.claimed) q.outgoing in
    let g : l ≡ get_or q.outgoing (length q.claimed) l = sym (get_or_from_slice_get _ 0 l l f) ∙ (get_or-drop (length q.claimed) q.outgoing 0 l ∙ ap (λ m. get_or q.outgoing m l) (omega arith)) in
    slice_get_read q.outgoing (length q.outgoing) (length q.claimed) l refl (omega arith) g

-- where none waits, there is none to be claimed
none-waits : (n : ℕ) (ws : List Parts) (q : Numbered) → IsKept n ws q → slice_get ws 0 ≡ None → length q.outgoing ≤ length q.claimed
none-waits n ws q k e = none_by ws e (ap length k.waiting ∙ length-drop (length q.claimed) q.outgoing)

-- a claim that found a line
pub found-next : (n : ℕ) (ws : List Parts) (q : Numbered) (m : ℕ) (l : Parts) → IsKept n ws q → (if m == n + 1 then slice_get ws 0 else None) ≡ Some l → (is_next q m ≡ true) × (slice_get q.outgoing (m - 1) ≡ Some l)
found-next n ws q m l k e =
    let c = chosen (m == n + 1) (slice_get ws 0) l e in
    let m_is : m ≡ n + 1 = eq_of m (n + 1) c.0 in
    let count = k.count in
    let at : slice_get q.outgoing (length q.claimed) ≡ Some l = first-waits n ws q l k c.1 in
    let w : length q.claimed < length q.outgoing = slice_get_within _ _ l at in
    let a : (m == length q.claimed + 1) ≡ true = of_eq m _ (omega arith) in
    let b : nat_le m (length q.outgoing) ≡ true = of_le m _ (omega arith) in
    let p : m - 1 ≡ length q.claimed = omega arith in
    (rw (a, b), ap (slice_get q.outgoing) p ∙ at)

past : (c o m : ℕ) (b : Bool) → (m == c + 1) ≡ b → o ≤ c → ((m == c + 1) && nat_le m o) ≡ false
past c o m true e w = let m_is : m ≡ c + 1 = eq_of m (c + 1) e in let f : nat_le m o ≡ false = of_gt m o (omega arith) in rw (e, f)
past c o m false e w = rw e

by_refused : (n : ℕ) (ws : List Parts) (q : Numbered) (m : ℕ) → IsKept n ws q → ((m == n + 1) ≡ false) ⊎ (slice_get ws 0 ≡ None) → is_next q m ≡ false
by_refused n ws q m k (inl e) = let f : (m == length q.claimed + 1) ≡ false = ap (λ x. m == x + 1) (sym k.count) ∙ e in rw f
by_refused n ws q m k (inr e) = past (length q.claimed) (length q.outgoing) m (m == length q.claimed + 1) refl (none-waits n ws q k e)

-- a claim that found none
pub found-none : (n : ℕ) (ws : List Parts) (q : Numbered) (m : ℕ) → IsKept n ws q → (if m == n + 1 then slice_get ws 0 else None) ≡ None → is_next q m ≡ false
found-none n ws q m k e = by_refused n ws q m k (refused (m == n + 1) (slice_get ws 0) e)

-- after the claim of the first line that waits, the others still wait
pub claim-kept : (n : ℕ) (ws : List Parts) (q : Numbered) (id : SessionId) (m : ℕ) (l : Parts) → IsKept n ws q → (if m == n + 1 then slice_get ws 0 else None) ≡ Some l → IsKept (n + 1) (drop 1 ws) (with_claim q id m)
claim-kept n ws q id m l k e =
    let c = chosen (m == n + 1) (slice_get ws 0) l e in
    let at : slice_get q.outgoing (length q.claimed) ≡ Some l = first-waits n ws q l k c.1 in
    let w : length q.claimed < length q.outgoing = slice_get_within _ _ l at in
    let s : length (q.claimed ++ (m, id) ∷ []) ≡ length q.claimed + 1 = length-append q.claimed ((m, id) ∷ []) in
    record {
      count = ap (λ (x : ℕ). x + 1) k.count ∙ sym s;
      within = rw s (omega arith);
      waiting = ap (drop 1) k.waiting ∙ (drop-drop 1 (length q.claimed) q.outgoing ∙ ap (λ x. drop x q.outgoing) (sym s));
    }

-- a claim, by whether it found a line
pub claim-by : {E : Type 0} (found : Option Parts) (n m k : ℕ) (ws new : List Parts) (q : Numbered) (id : SessionId) → IsKept n ws q → found ≡ (if m == n + 1 then slice_get ws 0 else None)
    → new ≡ (if is_some found then drop 1 ws else ws) → k ≡ (if is_some found then n + 1 else n) → IsKept k new (claimed_next q id m) × (handed {E = E} id m found ≡ handed_next q id m)
claim-by (Some l) n m k ws new q id h e f g =
    let p = found-next n ws q m l h (sym e) in
    (rw (p.0, f, g) (claim-kept n ws q id m l h (sym e)), rw (p.0, p.1) refl)
claim-by None n m k ws new q id h e f g =
    let p = found-none n ws q m h (sym e) in
    (rw (p, f, g) h, rw p refl)

is_none : (n : ℕ) → nat_lt 0 n ≡ false → n ≡ 0
is_none n e = grind (arith, nat_tests)

next_by : (n c o w : ℕ) (b : Bool) → nat_lt 0 w ≡ b → n ≡ c → w ≡ o - c → (if nat_lt 0 w then Some (n + 1) else None) ≡ (if nat_lt c o then Some (c + 1) else None)
next_by n c o w true t e f =
    let p : 0 < w = lt_of 0 w t in
    let q : nat_lt c o ≡ true = of_lt c o (omega arith) in
    rw (t, q) (ap (λ (x : ℕ). Some (x + 1)) e)
next_by n c o w false t e f =
    let p : w ≡ 0 = is_none w t in
    let q : nat_lt c o ≡ false = of_ge c o (omega arith) in
    rw (t, q) refl

-- the number of the next line to be claimed
pub next-kept : (n : ℕ) (ws : List Parts) (q : Numbered) → IsKept n ws q → (if nat_lt 0 (length ws) then Some (n + 1) else None) ≡ (if nat_lt (length q.claimed) (length q.outgoing) then Some (length q.claimed + 1) else None)
next-kept n ws q k = next_by n (length q.claimed) (length q.outgoing) (length ws) (nat_lt 0 (length ws)) refl k.count (ap length k.waiting ∙ length-drop (length q.claimed) q.outgoing)

-- ---- what holds after a success

pub ok_both : {A E : Type 0} (r : Result A E) (P Q R : Type 0) → (P → Q → R) → OnOk r P → OnOk r Q → OnOk r R
ok_both (Ok v) P Q R make p q = make p q
ok_both (Err e) P Q R make p q = tt

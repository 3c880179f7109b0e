-- What a playback of some lines shows.
use Rattle.std.proofs.Common.{◌≡◌, ℕ, zero, suc, ◌-◌, ◌≢◌, List, [], ◌∷◌, ◌++◌, map, length, refl, ap, arith, take, length-drop, ◌+◌, ◌<◌, sym, ◌∙◌}
use Rattle.std.proofs.Math.ListN.{get_or}
use Rattle.std.proofs.Math.Seq.{take-length, take-suc}
use Rattle.std.proofs.lemmas.List.{append_assoc, map-append}
use Rattle.std.specs.Prelude.{codes, drop, min}
use Rattle.irc_line.specs.Lines.{Parts, spelling}
use Rattle.buffer_lines.specs.Stamps.{timed, frame, framed, shown_timed}

map_shown : (offset : ℕ) (last : Parts) (ks : List (ℕ × Parts)) → map spelling (map (timed offset) ks ++ last ∷ []) ≡ map (λ k. spelling (timed offset k)) ks ++ spelling last ∷ []
map_shown offset last [] = refl
map_shown offset last (k ∷ ks) = ap (λ xs. spelling (timed offset k) ∷ xs) (map_shown offset last ks)

pub framed_some : (offset : ℕ) (target : List ℕ) (ks : List (ℕ × Parts)) → length ks ≢ 0
    → map spelling (framed offset target ks) ≡ spelling (frame target (codes "Buffer Playback...")) ∷ (map (λ k. spelling (timed offset k)) ks ++ spelling (frame target (codes "Playback Complete.")) ∷ [])
framed_some offset target [] h = absurd (h refl)
framed_some offset target (k ∷ ks) h = ap (λ xs. spelling (frame target (codes "Buffer Playback...")) ∷ xs) (map_shown offset (frame target (codes "Playback Complete.")) (k ∷ ks))

-- what is shown of two lists after this many older lines
shown_two : (offset older : ℕ) (xs ys : List (ℕ × Parts))
    → map (λ k. spelling (timed offset k)) (drop older (xs ++ ys)) ≡ map (λ k. spelling (timed offset k)) (drop (min older (length xs)) xs) ++ map (λ k. spelling (timed offset k)) (drop (older - min older (length xs)) ys)
shown_two offset older [] ys =
    let e : min older 0 ≡ 0 = omega arith in
    let f : older - 0 ≡ older = omega arith in
    rw (e, f) refl
shown_two offset zero (x ∷ xs) ys =
    let e : min 0 (suc (length xs)) ≡ 0 = omega arith in
    rw e (ap (λ zs. spelling (timed offset x) ∷ zs) (map-append (λ k. spelling (timed offset k)) xs ys))
shown_two offset (suc older) (x ∷ xs) ys =
    let e : min (suc older) (suc (length xs)) ≡ suc (min older (length xs)) = omega arith in
    let f : suc older - suc (min older (length xs)) ≡ older - min older (length xs) = omega arith in
    rw (e, f) (shown_two offset older xs ys)

-- what is appended for two lists after this many older lines is what is shown of both
pub shown_behind : (offset older cut : ℕ) (before xs ys : List (ℕ × Parts)) (all : List (List ℕ)) → cut ≡ min older (length xs) → xs ++ ys ≡ before
    → (all ++ map (λ k. spelling (timed offset k)) (drop cut xs)) ++ map (λ k. spelling (timed offset k)) (drop (older - cut) ys) ≡ all ++ map (λ k. spelling (timed offset k)) (drop older before)
shown_behind offset older cut before xs ys all e f =
    rw (e, ← f, shown_two offset older xs ys) (append_assoc all _ _)

-- all but the first n items
pub rest_of : {A : Type 0} (n : ℕ) (xs : List A) → take (length xs - n) (drop n xs) ≡ drop n xs
rest_of n xs = rw (← length-drop n xs) (take-length (drop n xs))

-- what is shown of one more line
pub shown_next : (offset : ℕ) (ks : List (ℕ × Parts)) (i : ℕ) (k : ℕ × Parts) → i < length ks → k ≡ get_or ks i k → shown_timed offset (take (i + 1) ks) ≡ shown_timed offset (take i ks) ++ spelling (timed offset k) ∷ []
shown_next offset ks i k h is =
    let next : i + 1 ≡ suc i = omega arith in
    ap (λ (n : ℕ). shown_timed offset (take n ks)) next ∙ ap (shown_timed offset) (take-suc ks i k h)
    ∙ map-append (λ x. spelling (timed offset x)) (take i ks) (get_or ks i k ∷ [])
    ∙ ap (λ x. shown_timed offset (take i ks) ++ spelling (timed offset x) ∷ []) (sym is)

-- The parts of a text, one by one and all together.
use Rattle.std.proofs.Common.{◌≡◌, ℕ, zero, suc, ◌+◌, ◌<◌, ◌≤◌, List, [], ◌∷◌, ◌++◌, length, map, refl, sym, ap, ◌∙◌, arith, take, drop, append-nil, drop-drop, slice_index_or, ◌-◌}
use Rattle.std.proofs.Math.Seq.{take-suc}
use Rattle.std.specs.List.{concat}
use Rattle.std.proofs.lemmas.List.{append_assoc, length-append}
use Rattle.buffer_lines.specs.Parts.{parts, total}

-- the front of a list
front_of : (xs ys : List ℕ) → take (length xs) (xs ++ ys) ≡ xs
front_of [] ys = refl
front_of (x ∷ xs) ys = ap (λ (zs : List ℕ). x ∷ zs) (front_of xs ys)

rest_of : (xs ys : List ℕ) → drop (length xs) (xs ++ ys) ≡ ys
rest_of [] ys = refl
rest_of (x ∷ xs) ys = rest_of xs ys

-- joined lists, cut where each ends, are these lists again
pub parts_of : (xss : List (List ℕ)) → parts (concat xss) (map length xss) ≡ xss
parts_of [] = refl
parts_of (xs ∷ xss) =
    rw (front_of xs (concat xss), rest_of xs (concat xss)) (ap (λ (yss : List (List ℕ)). xs ∷ yss) (parts_of xss))

-- their lengths add up to the whole length
pub total_of : (xss : List (List ℕ)) → total (map length xss) ≡ length (concat xss)
total_of [] = refl
total_of (xs ∷ xss) = ap (λ (n : ℕ). length xs + n) (total_of xss) ∙ sym (length-append xs (concat xss))

-- one more list
pub concat_push : (xss : List (List ℕ)) (xs : List ℕ) → concat (xss ++ xs ∷ []) ≡ concat xss ++ xs
concat_push [] xs = append-nil xs
concat_push (ys ∷ xss) xs =
    ap (λ (zs : List ℕ). ys ++ zs) (concat_push xss xs) ∙ sym (append_assoc ys (concat xss) xs)

pub lengths_push : (xss : List (List ℕ)) (xs : List ℕ) → map length (xss ++ xs ∷ []) ≡ map length xss ++ length xs ∷ []
lengths_push [] xs = refl
lengths_push (ys ∷ xss) xs = ap (λ (ns : List ℕ). length ys ∷ ns) (lengths_push xss xs)

-- one more part
pub parts_push : (text lengths : List ℕ) (n : ℕ) → parts text (lengths ++ n ∷ []) ≡ parts text lengths ++ take n (drop (total lengths) text) ∷ []
parts_push text [] n = refl
parts_push text (m ∷ lengths) n =
    ap (λ (xss : List (List ℕ)). take m text ∷ xss) (parts_push (drop m text) lengths n
    ∙ ap (λ (xs : List ℕ). parts (drop m text) lengths ++ take n xs ∷ []) (drop-drop (total lengths) m text))

pub total_push : (lengths : List ℕ) (n : ℕ) → total (lengths ++ n ∷ []) ≡ total lengths + n
total_push [] n = omega arith
total_push (m ∷ lengths) n = omega (arith, total_push lengths n)

-- the first parts are not longer than all
pub total_front : (i : ℕ) (lengths : List ℕ) → total (take i lengths) ≤ total lengths
total_front zero lengths = omega arith
total_front (suc i) [] = omega arith
total_front (suc i) (n ∷ lengths) = omega (arith, total_front i lengths)

-- what comes next
pub next_length : (lengths : List ℕ) (i : ℕ) → i < length lengths → take (i + 1) lengths ≡ take i lengths ++ slice_index_or lengths i 0 ∷ []
next_length lengths i h =
    let next : i + 1 ≡ suc i = omega arith in
    ap (λ (n : ℕ). take n lengths) next ∙ take-suc lengths i 0 h

pub total_next : (lengths : List ℕ) (i : ℕ) → i < length lengths → total (take (i + 1) lengths) ≡ total (take i lengths) + slice_index_or lengths i 0
total_next lengths i h =
    ap total (next_length lengths i h) ∙ total_push (take i lengths) (slice_index_or lengths i 0)

pub within_next : (lengths : List ℕ) (i : ℕ) → i < length lengths → total (take i lengths) + slice_index_or lengths i 0 ≤ total lengths
within_next lengths i h = omega (arith, total_next lengths i h, total_front (i + 1) lengths)

pub parts_next : (text lengths : List ℕ) (i from : ℕ) → i < length lengths → from ≡ total (take i lengths)
    → parts text (take (i + 1) lengths) ≡ parts text (take i lengths) ++ take ((from + slice_index_or lengths i 0) - from) (drop from text) ∷ []
parts_next text lengths i from h at =
    let n : ℕ = slice_index_or lengths i 0 in
    let same : (from + n) - from ≡ n = omega arith in
    rw (same, at) (ap (parts text) (next_length lengths i h) ∙ parts_push text (take i lengths) n)

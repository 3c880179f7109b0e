-- The other nodes, by those that remain after one.
use Rattle.std.proofs.Common.{◌≡◌, ◌≢◌, ◌==◌, ◌++◌, Bool, true, false, if◌then◌else◌, append_assoc, append-nil, ℕ, suc, ◌+◌, ◌-◌, ◌<◌, ◌≤◌, List, [], ◌∷◌, sym, ap, ◌∙◌, arith}
use Rattle.raft_log.specs.Lists.{range_from, without}

-- the numbers that remain after this one, without the node's own
abbrev pub left : ℕ → ℕ → ℕ → List ℕ
left own size last = without own (range_from (suc last) (size - last))

left-first : (own size last k : ℕ) → k ≡ last + 1 → last < size → left own size last ≡ (if k == own then left own size k else k ∷ left own size k)
left-first own size last k e h =
    let one : size - last ≡ suc (size - k) = omega arith in
    let next : suc last ≡ k = omega arith in
    ap (λ (n : ℕ). without own (range_from (suc last) n)) one ∙ ap (λ (n : ℕ). without own (range_from n (suc (size - k)))) next

pub left-other : (own size last k : ℕ) (all : List ℕ) → k ≡ last + 1 → last < size → k ≢ own → (all ++ k ∷ []) ++ left own size k ≡ all ++ left own size last
left-other own size last k all e h other =
    let no : (k == own) ≡ false = grind arith in
    append_assoc all (k ∷ []) (left own size k) ∙ ap (λ (t : List ℕ). all ++ t) (sym (left-first own size last k e h ∙ ap (λ (b : Bool). if b then left own size k else k ∷ left own size k) no))

pub left-own : (own size last k : ℕ) (all : List ℕ) → k ≡ last + 1 → last < size → k ≡ own → all ++ left own size k ≡ all ++ left own size last
left-own own size last k all e h same =
    let yes : (k == own) ≡ true = grind arith in
    ap (λ (t : List ℕ). all ++ t) (sym (left-first own size last k e h ∙ ap (λ (b : Bool). if b then left own size k else k ∷ left own size k) yes))

-- none remains
pub left-none : (own size last : ℕ) (all : List ℕ) → size ≤ last → all ++ left own size last ≡ all
left-none own size last all h =
    let none : size - last ≡ 0 = omega arith in
    ap (λ (n : ℕ). all ++ without own (range_from (suc last) n)) none ∙ append-nil all

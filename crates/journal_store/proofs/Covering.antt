-- Which of the ranges that failed syncs left a write covers.
use Rattle.std.proofs.Common.{◌≡◌, inl, inr, ℕ, ◌+◌, ◌≤◌, Bool, true, false, List, [], ◌∷◌, ◌++◌, length, refl, ◌∙◌, ap, arith}
use Rattle.std.specs.Prelude.{◌&&◌, not, nat_le, min, cond}
use Rattle.std.proofs.lemmas.Bool.{and_from, le-leb}
use Rattle.std.proofs.lemmas.List.{length-drop}
use Rattle.journal_store.specs.Disks.{DiskState, IsOneOf, Range, is_not_covered, not_covered, settled_at, synced, synced_but, written_over}
use Rattle.journal_store.specs.Journals.{header}
use Rattle.journal_store.proofs.Overs.{size}

-- all bytes of a range that the file has are written
pub covers : (place n len : ℕ) (r : Range) → place ≤ r.place → min (r.place + r.size) len ≤ place + n → is_not_covered place n len r ≡ false
covers place n len r front back =
    let both : (nat_le place r.place && nat_le (min (r.place + r.size) len) (place + n)) ≡ true = and_from _ _ (le-leb _ _ front) (le-leb _ _ back) in
    ap not both

-- if each range is covered none is left
pub all_covered : (place n len : ℕ) (ranges : List Range) → ((r : Range) → IsOneOf r ranges → is_not_covered place n len r ≡ false) → not_covered place n len ranges ≡ []
all_covered place n len [] each = refl
all_covered place n len (r ∷ ranges) each =
    ap (λ (b : Bool). cond b (r ∷ not_covered place n len ranges) (not_covered place n len ranges)) (each r (inl refl))
    ∙ all_covered place n len ranges (λ q is. each q (inr is))

-- a sync does not change what a read gives
pub synced_bytes : (s : DiskState) → (synced s).bytes ≡ s.bytes
synced_bytes s = of s.left
  where
    of : (left : List Range) → (synced_but left s).bytes ≡ s.bytes
    of [] = refl
    of (r ∷ left) = refl

-- a new journal covers a whole file that is no longer than it
pub short_covered : (bytes : List ℕ) (left : List Range) → length bytes ≤ 9 → not_covered 0 9 (length (written_over bytes 0 (header ++ 0 ∷ []))) left ≡ []
short_covered bytes left short =
    let nine : length (header ++ 0 ∷ []) ≡ 9 = refl in
    let long = size bytes 0 (header ++ 0 ∷ []) (omega arith) in
    all_covered 0 9 (length (written_over bytes 0 (header ++ 0 ∷ []))) left (λ r is. covers 0 9 (length (written_over bytes 0 (header ++ 0 ∷ []))) r (omega arith) (omega (arith, nine, long, short, length-drop 9 bytes)))

-- What is written again as it was read: each file that a crash leaves in between is one that it could leave before,
-- except in that range.
use Rattle.std.proofs.Common.{◌≡◌, ◌⊎◌, inl, inr, ⊎_elim, ℕ, zero, suc, ◌+◌, ◌<◌, ◌≤◌, List, [], ◌∷◌, length, take, get_or, refl, sym, ◌∙◌, ap, arith}
use Rattle.std.proofs.lemmas.Bool.{cases_lt}
use Rattle.journal_store.specs.Disks.{DiskState, IsImage, IsOutside, Within, writing}

-- a file in which this many bytes from a place on are replaced by these
abbrev pub patch : ℕ → ℕ → List ℕ → List ℕ → List ℕ
patch k m bytes [] = []
patch k m [] (x ∷ file) = x ∷ file
patch zero zero (y ∷ bytes) (x ∷ file) = x ∷ file
patch zero (suc m) (y ∷ bytes) (x ∷ file) = y ∷ patch zero m bytes file
patch (suc k) m (y ∷ bytes) (x ∷ file) = x ∷ patch k m bytes file

pub patch_length : (k m : ℕ) (bytes file : List ℕ) → length (patch k m bytes file) ≡ length file
patch_length k m bytes [] = refl
patch_length k m [] (x ∷ file) = refl
patch_length zero zero (y ∷ bytes) (x ∷ file) = refl
patch_length zero (suc m) (y ∷ bytes) (x ∷ file) = ap suc (patch_length zero m bytes file)
patch_length (suc k) m (y ∷ bytes) (x ∷ file) = ap suc (patch_length k m bytes file)

-- outside of the range it is unchanged
pub patch_out : (k m : ℕ) (bytes file : List ℕ) (i : ℕ) → (i < k) ⊎ (k + m ≤ i) → get_or (patch k m bytes file) i 0 ≡ get_or file i 0
patch_out k m bytes [] i out = refl
patch_out k m [] (x ∷ file) i out = refl
patch_out zero zero (y ∷ bytes) (x ∷ file) i out = refl
patch_out zero (suc m) (y ∷ bytes) (x ∷ file) zero out = ⊎_elim (λ l. absurd (omega (arith, l))) (λ r. absurd (omega (arith, r))) out
patch_out zero (suc m) (y ∷ bytes) (x ∷ file) (suc i) out = patch_out zero m bytes file i (⊎_elim (λ l. absurd (omega (arith, l))) (λ r. inr (omega (arith, r))) out)
patch_out (suc k) m (y ∷ bytes) (x ∷ file) zero out = refl
patch_out (suc k) m (y ∷ bytes) (x ∷ file) (suc i) out = patch_out k m bytes file i (⊎_elim (λ l. inl (omega (arith, l))) (λ r. inr (omega (arith, r))) out)

-- within the range it has these bytes
pub patch_in : (k m : ℕ) (bytes file : List ℕ) (i : ℕ) → k ≤ i → i < k + m → i < length file → i < length bytes → get_or (patch k m bytes file) i 0 ≡ get_or bytes i 0
patch_in k m bytes [] i above below lt long = absurd (omega (arith, lt))
patch_in k m [] (x ∷ file) i above below lt long = absurd (omega (arith, long))
patch_in zero zero (y ∷ bytes) (x ∷ file) i above below lt long = absurd (omega (arith, below))
patch_in zero (suc m) (y ∷ bytes) (x ∷ file) zero above below lt long = refl
patch_in zero (suc m) (y ∷ bytes) (x ∷ file) (suc i) above below lt long = patch_in zero m bytes file i (omega arith) (omega (arith, below)) (omega (arith, lt)) (omega (arith, long))
patch_in (suc k) m (y ∷ bytes) (x ∷ file) zero above below lt long = absurd (omega (arith, above))
patch_in (suc k) m (y ∷ bytes) (x ∷ file) (suc i) above below lt long = patch_in k m bytes file i (omega (arith, above)) (omega (arith, below)) (omega (arith, lt)) (omega (arith, long))

-- up to the range it is unchanged
pub patch_front : (k m : ℕ) (bytes file : List ℕ) → take k (patch k m bytes file) ≡ take k file
patch_front k m bytes [] = refl
patch_front k m [] (x ∷ file) = refl
patch_front zero zero (y ∷ bytes) (x ∷ file) = refl
patch_front zero (suc m) (y ∷ bytes) (x ∷ file) = refl
patch_front (suc k) m (y ∷ bytes) (x ∷ file) = ap (λ (l : List ℕ). x ∷ l) (patch_front k m bytes file)

module _ (s : DiskState) (k m : ℕ) (own : IsImage s s.bytes) (fits : k + m ≤ length s.bytes) where
  within_range : (file : List ℕ) → IsImage (writing k m s) file → (i : ℕ) → i < length file → i < s.settled → (out : IsOutside i s.written) → (left : IsOutside i s.left)
      → get_or (patch k m s.bytes file) i 0 ≡ get_or s.bytes i 0
  within_range file im i lt below out left = elim (cases_lt i k) [
    | inl under ↦ patch_out k m s.bytes file i (inl under) ∙ im.stays i lt below (inl under, out) left
    | inr above ↦ elim (cases_lt i (k + m)) [
      | inl under ↦ patch_in k m s.bytes file i (omega (arith, above)) under lt (omega (arith, under, fits))
      | inr behind ↦ patch_out k m s.bytes file i (inr (omega (arith, behind))) ∙ im.stays i lt below (inr (omega (arith, behind)), out) left
    ]
  ]

  -- while a range is written again, a crash leaves a file as before, except in that range
  pub patched_image : (file : List ℕ) → IsImage (writing k m s) file → IsImage s (patch k m s.bytes file)
  patched_image file im = record {
    no_shorter = omega (arith, im.no_shorter, patch_length k m s.bytes file);
    no_longer = omega (arith, im.no_longer, patch_length k m s.bytes file, own.no_longer, fits);
    stays = λ i lt below out left. within_range file im i (omega (arith, lt, patch_length k m s.bytes file)) below out left;
  }

  -- writing a range that was already being written lets a crash leave no other file
  pub rewritten : (bound : DiskState) → Within s (writing k m bound) → (file : List ℕ) → IsImage (writing k m s) file → IsImage (writing k m bound) file
  rewritten bound within file im =
      let as_before = within.leaves (patch k m s.bytes file) (patched_image file im) in
      record {
        no_shorter = omega (arith, as_before.no_shorter, patch_length k m s.bytes file);
        no_longer = omega (arith, as_before.no_longer, patch_length k m s.bytes file);
        stays = λ i lt below out left. sym (patch_out k m s.bytes file i out.0) ∙ as_before.stays i (omega (arith, lt, patch_length k m s.bytes file)) below out left;
      }

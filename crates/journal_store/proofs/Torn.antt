-- What a crash leaves of a file that was synced, and one range written in it.
use Rattle.std.proofs.Common.{◌≡◌, inl, inr, ℕ, ◌+◌, ◌<◌, ◌≤◌, List, length, take, drop, sym, ◌∙◌, arith}
use Rattle.std.proofs.lemmas.List.{ext_get_or, get_or-take, get_or-drop, length-take-le, length-drop}
use Rattle.journal_store.specs.Disks.{IsImage, settled_at, writing}

pub record Torn (at n : ℕ) (old file : List ℕ) : Type 0 where
  pub before : take at file ≡ take at old
  pub after : drop (at + n) file ≡ drop (at + n) old
  pub no_shorter : length old ≤ length file

pub settled_image : (old file : List ℕ) → IsImage (settled_at old) file → file ≡ old
settled_image old file im = ext_get_or 0 file old (omega (arith, im.no_shorter, im.no_longer)) (λ i lt. im.stays i lt (omega (arith, lt, im.no_longer)) tt tt)

pub torn_image : (at n : ℕ) (old file : List ℕ) → at ≤ length old → IsImage (writing at n (settled_at old)) file → Torn at n old file
torn_image at n old file within im = record {
  before = ext_get_or 0 (take at file) (take at old) (omega (arith, front file long, front old within))
      (λ i lt. let small : i < at = omega (arith, lt, front file long) in get_or-take at file i 0 small ∙ (im.stays i (omega (arith, small, long)) (omega (arith, small, within)) (inl small, tt) tt ∙ sym (get_or-take at old i 0 small)));
  after = ext_get_or 0 (drop (at + n) file) (drop (at + n) old) (omega (arith, length-drop (at + n) file, length-drop (at + n) old, im.no_shorter, im.no_longer))
      (λ i lt. get_or-drop (at + n) file i 0 ∙ (im.stays (at + n + i) (omega (arith, lt, length-drop (at + n) file)) (omega (arith, lt, length-drop (at + n) file, im.no_longer)) (inr (omega arith), tt) tt ∙ sym (get_or-drop (at + n) old i 0)));
  no_shorter = im.no_shorter;
}
  where
    long : at ≤ length file
    long = omega (arith, within, im.no_shorter)

    front : (l : List ℕ) → at ≤ length l → length (take at l) ≡ at
    front l h = length-take-le at l h

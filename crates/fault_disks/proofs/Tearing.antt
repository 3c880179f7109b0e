-- A file in which all that is not synced is overwritten is one that a crash may leave.
use Rattle.std.proofs.Common.{◌≡◌, ⊎_elim, ℕ, zero, suc, ◌+◌, ◌-◌, ◌<◌, Bool, true, false, List, [], ◌∷◌, ◌++◌, length, get_or, refl, sym, ◌∙◌, ap, arith, append_assoc}
use Rattle.std.specs.Prelude.{nat_lt, nat_le, ◌&&◌, ◌||◌}
use Rattle.std.proofs.lemmas.Bool.{and_from, lt-ltb, le-leb}
use Rattle.journal_store.specs.Disks.{DiskState, IsImage, IsOutside, Range}
use Rattle.fault_disks.specs.declared.crash.Unsynced.{Unsynced}
use Rattle.fault_disks.specs.declared.crash.Unsynced.TheVariants.{Kept, Overwritten}
use Rattle.fault_disks.specs.Images.{byte_left, bytes_left, is_outside, left_by}
use Rattle.fault_disks.specs.CallLaws.{IsWithin}

or_left : (a b : Bool) → a ≡ true → (a || b) ≡ true
or_left true b h = refl
or_left false b h = absurd cc

or_right : (a b : Bool) → b ≡ true → (a || b) ≡ true
or_right true b h = refl
or_right false b h = h

outside : (i : ℕ) (ranges : List Range) → IsOutside i ranges → is_outside i ranges ≡ true
outside i [] h = refl
outside i (r ∷ ranges) h =
    and_from _ _ (⊎_elim (λ l. or_left (nat_lt i r.place) (nat_le (r.place + r.size) i) (lt-ltb i r.place l)) (λ l. or_right (nat_lt i r.place) (nat_le (r.place + r.size) i) (le-leb (r.place + r.size) i l)) h.0) (outside i ranges h.1)

size : (byte : ℕ) (s : DiskState) (i n : ℕ) → length (bytes_left byte s i n) ≡ n
size byte s i zero = refl
size byte s i (suc n) = ap suc (size byte s (suc i) n)

byte_at : (byte : ℕ) (s : DiskState) (i n k : ℕ) → k < n → get_or (bytes_left byte s i n) k 0 ≡ byte_left byte s (i + k)
byte_at byte s i zero k lt = absurd (omega (arith, lt))
byte_at byte s i (suc n) zero lt = ap (byte_left byte s) (let e : i ≡ i + 0 = omega arith in e)
byte_at byte s i (suc n) (suc k) lt = byte_at byte s (suc i) n k (omega (arith, lt)) ∙ ap (byte_left byte s) (let e : suc i + k ≡ i + suc k = omega arith in e)

kept : (byte : ℕ) (s : DiskState) (i : ℕ) → i < s.settled → IsOutside i s.written → IsOutside i s.left → byte_left byte s i ≡ get_or s.bytes i 0
kept byte s i below out left =
    let both : (nat_lt i s.settled && (is_outside i s.written && is_outside i s.left)) ≡ true = and_from _ _ (lt-ltb i s.settled below) (and_from _ _ (outside i s.written out) (outside i s.left left)) in
    rw both refl

pub left_image : (unsynced : Unsynced) (s : DiskState) → IsWithin s → IsImage s (left_by unsynced s)
left_image Kept s h = record { no_shorter = h.least; no_longer = h.most; stays = λ i lt below out left. refl }
left_image (Overwritten byte) s h = record {
  no_shorter = omega (arith, h.least, h.most, size byte s 0 s.most);
  no_longer = omega (arith, size byte s 0 s.most);
  stays = λ i lt below out left. byte_at byte s 0 s.most i (omega (arith, lt, size byte s 0 s.most)) ∙ (ap (byte_left byte s) (let e : 0 + i ≡ i = omega arith in e) ∙ kept byte s i below out left);
}

-- one more byte of the file
pub goes_on : (byte : ℕ) (s : DiskState) (items more : List ℕ) (i : ℕ) → i < s.most → items ++ bytes_left byte s i (s.most - i) ≡ bytes_left byte s 0 s.most → more ≡ items ++ byte_left byte s i ∷ []
    → more ++ bytes_left byte s (i + 1) (s.most - (i + 1)) ≡ bytes_left byte s 0 s.most
goes_on byte s items more i lt so_far is =
    let left : s.most - i ≡ suc (s.most - (i + 1)) = omega (arith, lt) in
    ap (λ (l : List ℕ). l ++ bytes_left byte s (i + 1) (s.most - (i + 1))) is
    ∙ (append_assoc items (byte_left byte s i ∷ []) (bytes_left byte s (i + 1) (s.most - (i + 1)))
    ∙ (ap (λ (k : ℕ). items ++ byte_left byte s i ∷ bytes_left byte s k (s.most - (i + 1))) (let e : i + 1 ≡ suc i = omega arith in e)
    ∙ (ap (λ (n : ℕ). items ++ bytes_left byte s i n) (sym left) ∙ so_far)))

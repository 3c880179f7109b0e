-- Channels and new ones, merged in one order.
use Rattle.std.proofs.Common.{◌≡◌, ℕ, zero, suc, ◌+◌, ◌∙◌, List, [], ◌∷◌, refl, ap, true, false, drop, arith}
use Rattle.std.specs.Prelude.{slice_get}
use Rattle.buffer_lines.specs.Stamps.{ring}
use Rattle.buffer_targets.specs.Targets.{ChannelLines, channel, none_seen, target}
use Rattle.renewal.specs.Moved.{comes_before, key_of, merged}

-- a new channel whose name comes before the next one
pub merged_new : (size : ℕ) (n : List ℕ) (ns : List (List ℕ)) (c : ChannelLines) (cs : List ChannelLines) → comes_before (key_of c) (n ∷ ns) ≡ true
    → merged size (n ∷ ns) (c ∷ cs) ≡ channel (target n (ring [] size) none_seen) false false ∷ merged size ns (c ∷ cs)
merged_new size n ns c cs e = rw e refl

-- a channel before which no new one comes
pub merged_next : (size : ℕ) (ns : List (List ℕ)) (c : ChannelLines) (cs : List ChannelLines) → comes_before (key_of c) ns ≡ false
    → merged size ns (c ∷ cs) ≡ c ∷ merged size ns cs
merged_next size [] c cs e = refl
merged_next size (n ∷ ns) c cs e = rw e refl

-- the item at a place after some
pub behind_some : {X : Type 0} (k : ℕ) (xs : List X) (i : ℕ) → slice_get (drop k xs) i ≡ slice_get xs (k + i)
behind_some zero xs i = let none : i ≡ 0 + i = omega arith in ap (λ (n : ℕ). slice_get xs n) none
behind_some (suc k) [] i = refl
behind_some (suc k) (x ∷ xs) i =
    let one : suc (k + i) ≡ suc k + i = omega arith in
    behind_some k xs i ∙ ap (λ (n : ℕ). slice_get (x ∷ xs) n) one

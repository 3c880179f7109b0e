-- Lists as blocks: the item after this many, the first ones, and one more block.
use Rattle.std.proofs.Common.{◌≡◌, ℕ, zero, suc, ◌+◌, ◌-◌, ◌*◌, ◌/◌, ◌%◌, min, ◌<◌, ◌≤◌, List, [], ◌∷◌, ◌++◌, length, take, get_or, Some, All, refl, sym, ap, ◌∙◌, arith, append_assoc, length-append}
use Rattle.std.specs.List.{slice_get, flat_map}
use Rattle.std.proofs.Math.Seq.{take-append-add}
use Rattle.std.proofs.Math.Nat.{div-mul-le_self, lt-div-mul-add}
use Rattle.std.proofs.lemmas.Nat.{div-add-mod'}
use Rattle.std.proofs.lemmas.Option.{slice_get_read}
use Rattle.std.proofs.lemmas.List.{append-nil, get_or_append_left, get_or-append_right, take-append-le, take_all}
use Rattle.std.proofs.lemmas.List.Concat.{flat_map-append}
use Rattle.std.proofs.lemmas.List.Elements.{All-head, All-tail}
use Rattle.raft_log.specs.Blocks.{block_size, joined, AreBlocks}

module _ {A : Type 0} where
  abbrev pub Full : List (List A) → Type 0
  Full full = All (λ (b : List A). length b ≡ block_size) full

  abbrev pub blocks : List (List A) → List A
  blocks full = flat_map (λ (b : List A). b) full

  full_head : (b : List A) (full : List (List A)) → Full (b ∷ full) → length b ≡ block_size
  full_head b full h = All-head (λ (b : List A). length b ≡ block_size) b full h

  full_tail : (b : List A) (full : List (List A)) → Full (b ∷ full) → Full full
  full_tail b full h = All-tail (λ (b : List A). length b ≡ block_size) b full h

  pub blocks-len : (full : List (List A)) → Full full → length (blocks full) ≡ length full * 1024
  blocks-len [] h = omega arith
  blocks-len (b ∷ full) h = omega (arith, length-append b (blocks full), full_head b full h, blocks-len full (full_tail b full h))

  pub joined-len : (full : List (List A)) (last : List A) → Full full → length (joined full last) ≡ length full * 1024 + length last
  joined-len full last h = omega (arith, length-append (blocks full) last, blocks-len full h)

  -- an item of a full block
  pub at-full : (full : List (List A)) (last : List A) (q r i : ℕ) (f : List A) (d : A) → Full full → q < length full → r < 1024 → i ≡ q * 1024 + r → get_or (joined full last) i d ≡ get_or (get_or full q f) r d
  at-full [] last q r i f d h lt small e = absurd (omega arith)
  at-full (b ∷ full) last zero r i f d h lt small e =
      let n : length b ≡ 1024 = full_head b full h in
      let same : i ≡ r = omega (arith, e) in
      ap (λ (z : List A). get_or z i d) (append_assoc b (blocks full) last)
      ∙ (get_or_append_left b (blocks full ++ last) d i (omega (arith, n, same)) ∙ ap (λ (z : ℕ). get_or b z d) same)
  at-full (b ∷ full) last (suc q) r i f d h lt small e =
      let n : length b ≡ 1024 = full_head b full h in
      ap (λ (z : List A). get_or z i d) (append_assoc b (blocks full) last)
      ∙ (get_or-append_right b (blocks full ++ last) 1024 i d n (omega (arith, e))
      ∙ at-full full last q r (i - 1024) f d (full_tail b full h) (omega arith) small (omega (arith, e)))

  -- an item of the last block
  pub at-last : (full : List (List A)) (last : List A) (i r : ℕ) (d : A) → Full full → i ≡ length full * 1024 + r → get_or (joined full last) i d ≡ get_or last r d
  at-last full last i r d h e =
      get_or-append_right (blocks full) last (length full * 1024) i d (blocks-len full h) (omega (arith, e))
      ∙ ap (λ (z : ℕ). get_or last z d) (omega (arith, e))

  -- the first items, where they end in a full block
  pub take-full : (full : List (List A)) (last : List A) (q r n : ℕ) (f : List A) → Full full → q < length full → r ≤ 1024 → n ≡ q * 1024 + r
      → take n (joined full last) ≡ joined (take q full) (take r (get_or full q f))
  take-full [] last q r n f h lt small e = absurd (omega arith)
  take-full (b ∷ full) last zero r n f h lt small e =
      let long : length b ≡ 1024 = full_head b full h in
      let same : n ≡ r = omega (arith, e) in
      ap (take n) (append_assoc b (blocks full) last)
      ∙ (take-append-le n b (blocks full ++ last) (omega (arith, long, same, small)) ∙ ap (λ (z : ℕ). take z b) same)
  take-full (b ∷ full) last (suc q) r n f h lt small e =
      let long : length b ≡ 1024 = full_head b full h in
      let m : ℕ = q * 1024 + r in
      let ih : take m (joined full last) ≡ joined (take q full) (take r (get_or full q f)) = take-full full last q r m f (full_tail b full h) (omega arith) small refl in
      ap (take n) (append_assoc b (blocks full) last)
      ∙ (ap (λ (z : ℕ). take z (b ++ (blocks full ++ last))) (omega (arith, e, long))
      ∙ (take-append-add b (blocks full ++ last) m
      ∙ (ap (λ (z : List A). b ++ z) ih ∙ sym (append_assoc b (blocks (take q full)) (take r (get_or full q f))))))

  -- the first items, where they end in the last block
  pub take-last : (full : List (List A)) (last : List A) (r n : ℕ) → Full full → n ≡ length full * 1024 + r → take n (joined full last) ≡ joined full (take r last)
  take-last full last r n h e =
      ap (λ (z : ℕ). take z (joined full last)) (omega (arith, e, blocks-len full h)) ∙ take-append-add (blocks full) last r

  -- one more full block
  pub one-more : (full : List (List A)) (last : List A) → joined (full ++ last ∷ []) [] ≡ joined full last
  one-more full last =
      append-nil (blocks (full ++ last ∷ [])) ∙ (flat_map-append (λ (b : List A). b) full (last ∷ []) ∙ ap (λ (z : List A). blocks full ++ z) (append-nil last))

  -- the length of the list that the blocks make
  pub seen-len : (full : List (List A)) (last v : List A) → joined full last ≡ v → AreBlocks full last → length v ≡ length full * 1024 + length last
  seen-len full last v e h = sym (ap (length {A = A}) e) ∙ joined-len full last h.are_full

  -- the item after this many, in a full block
  pub get-full : (full : List (List A)) (last v : List A) (i : ℕ) (f g : List A) (x : A) → joined full last ≡ v → AreBlocks full last → i < length v → i / 1024 < length full
      → f ≡ get_or full (i / 1024) f → g ≡ f → x ≡ get_or g (i % 1024) x → slice_get v i ≡ Some x
  get-full full last v i f g x e h within lt is_f is_g is_x =
      let small : i % 1024 < 1024 = omega (arith, div-add-mod' i 1024, lt-div-mul-add {a = i} {b = 1024} (omega arith)) in
      slice_get_read v (length v) i x refl within
      (is_x ∙ (ap (λ (z : List A). get_or z (i % 1024) x) (is_g ∙ is_f) ∙ (sym (at-full full last (i / 1024) (i % 1024) i f x h.are_full lt small (sym (div-add-mod' i 1024))) ∙ ap (λ (z : List A). get_or z i x) e)))

  -- the item after this many, in the last block
  pub get-last : (full : List (List A)) (last v : List A) (i r : ℕ) (x : A) → joined full last ≡ v → AreBlocks full last → i < length v → i ≡ length full * 1024 + r → x ≡ get_or last r x → slice_get v i ≡ Some x
  get-last full last v i r x e h within is is_x =
      slice_get_read v (length v) i x refl within (is_x ∙ (sym (at-last full last i r x h.are_full is) ∙ ap (λ (z : List A). get_or z i x) e))

  -- where the first items end: after this many full blocks, in this one
  pub record Cut (full : List (List A)) (last v : List A) (n shared : ℕ) (cut : List A) : Type 0 where
    pub few : n - shared * 1024 ≤ length cut
    pub small : n - shared * 1024 ≤ 1024
    pub within : shared ≤ length full
    pub first : joined (take shared full) (take (n - shared * 1024) cut) ≡ take n v

  pub cut-full : (full : List (List A)) (last v : List A) (n shared : ℕ) (f cut : List A) → joined full last ≡ v → AreBlocks full last → shared ≡ min (n / 1024) (length full) → shared < length full
      → f ≡ get_or full shared f → cut ≡ f → length f ≡ 1024 → Cut full last v n shared cut
  cut-full full last v n shared f cut e h is lt is_f is_cut long =
      let q : shared ≡ n / 1024 = omega (arith, is, lt) in
      let below : shared * 1024 ≤ n = omega (arith, q, div-mul-le_self n 1024) in
      let above : n < shared * 1024 + 1024 = omega (arith, q, lt-div-mul-add {a = n} {b = 1024} (omega arith)) in
      let r : ℕ = n - shared * 1024 in
      let small : r ≤ 1024 = omega arith in
      record {
        few = omega (arith, small, long, ap (length {A = A}) is_cut);
        small = small;
        within = omega arith;
        first = sym (ap (take n) (sym e) ∙ (take-full full last shared r n f h.are_full lt small (omega arith) ∙ ap (λ (z : List A). joined (take shared full) (take r z)) (sym (is_cut ∙ is_f))));
      }

  pub cut-last : (full : List (List A)) (last v : List A) (n shared : ℕ) (cut : List A) → joined full last ≡ v → AreBlocks full last → shared ≡ min (n / 1024) (length full) → length full ≤ shared
      → n ≤ length v → cut ≡ last → Cut full last v n shared cut
  cut-last full last v n shared cut e h is ge within is_cut =
      let q : shared ≡ length full = omega (arith, is, ge) in
      let le : length full ≤ n / 1024 = omega (arith, is, ge) in
      let below : length full * 1024 ≤ n = omega (arith, le, div-mul-le_self n 1024) in
      let len : length v ≡ length full * 1024 + length last = seen-len full last v e h in
      let r : ℕ = n - shared * 1024 in
      let same : length cut ≡ length last = ap (length {A = A}) is_cut in
      let all : take shared full ≡ full = take_all shared full ge in
      record {
        few = omega (arith, q, below, len, within, same);
        small = omega (arith, q, below, len, within, h.few);
        within = omega (arith, q);
        first = sym (ap (take n) (sym e) ∙ (take-last full last r n h.are_full (omega (arith, q, below)) ∙ (ap (λ (z : List (List A)). joined z (take r last)) (sym all) ∙ ap (λ (z : List A). joined (take shared full) (take r z)) (sym is_cut))));
      }

-- A byte 1 at the end, which is dropped or not there.
use Rattle.std.proofs.Common.{◌≡◌, ℕ, suc, ◌-◌, ◌<◌, false, List, [], ◌∷◌, length, take, get_or, refl, sym, subst, ap, ◌∙◌, arith}
use Rattle.std.specs.Prelude.{◌==◌}
use Rattle.std.proofs.lemmas.Bool.Decides.{nat_tests}
use Rattle.chat_log.specs.Texts.{without_mark}

pub mark_dropped : (s : List ℕ) → 0 < length s → get_or s (length s - 1) 0 ≡ 1 → without_mark s ≡ take (length s - 1) s
mark_dropped [] h e = absurd (omega arith)
mark_dropped (b ∷ []) h e = rw e refl
mark_dropped (b ∷ c ∷ s) h e =
    let i : length (b ∷ c ∷ s) - 1 ≡ suc (length s) = omega arith in
    let j : length (c ∷ s) - 1 ≡ length s = omega arith in
    let one : get_or (b ∷ c ∷ s) (suc (length s)) 0 ≡ 1 = subst (λ n. get_or (b ∷ c ∷ s) n 0 ≡ 1) i e in
    let ih : without_mark (c ∷ s) ≡ take (length (c ∷ s) - 1) (c ∷ s) = mark_dropped (c ∷ s) (omega arith) (subst (λ n. get_or (c ∷ s) n 0 ≡ 1) (sym j) one) in
    ap (λ t. b ∷ t) (ih ∙ ap (λ n. take n (c ∷ s)) j) ∙ ap (λ n. take n (b ∷ c ∷ s)) (sym i)

not_one : (b : ℕ) → (b ≡ 1 → ⊥) → (b == 1) ≡ false
not_one b h = grind (arith, nat_tests)

pub mark_absent : (s : List ℕ) → (0 < length s → get_or s (length s - 1) 0 ≡ 1 → ⊥) → without_mark s ≡ s
mark_absent [] h = refl
mark_absent (b ∷ []) h = rw (not_one b (h (omega arith))) refl
mark_absent (b ∷ c ∷ s) h =
    let i : length (b ∷ c ∷ s) - 1 ≡ suc (length s) = omega arith in
    let j : length (c ∷ s) - 1 ≡ length s = omega arith in
    ap (λ t. b ∷ t) (mark_absent (c ∷ s) (λ k e. h (omega arith) (subst (λ n. get_or (b ∷ c ∷ s) n 0 ≡ 1) (sym i) (subst (λ n. get_or (c ∷ s) n 0 ≡ 1) j e))))

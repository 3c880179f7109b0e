-- Beginnings of a log.
use Rattle.std.proofs.Common.{◌≡◌, ℕ, ◌<◌, ◌≤◌, List, [], ◌∷◌, ◌++◌, ◌⊎◌, inl, inr, ⊎_elim, length, take, drop, refl, sym, ap, ◌∙◌, arith, append_assoc, append-nil, length-append, length-take, take-append-drop}
use Rattle.std.proofs.lemmas.Bool.{cases_lt}
use Rattle.raft_log.specs.declared.entry.Entry.{Entry}
use Rattle.raft_log.specs.Logs.{last_after, last_term}
use Rattle.agreement.specs.World.{Begins}

module _ {B : Type 0} where
  pub begins_self : (xs : List (Entry B)) → Begins xs xs
  begins_self xs = ([], append-nil xs)

  pub begins_none : (xs : List (Entry B)) → Begins [] xs
  begins_none xs = (xs, refl)

  pub begins_trans : (xs ys zs : List (Entry B)) → Begins xs ys → Begins ys zs → Begins xs zs
  begins_trans xs ys zs p q = (p.0 ++ q.0, sym (append_assoc xs p.0 q.0) ∙ (ap (λ w. w ++ q.0) p.1 ∙ q.1))

  pub begins_length : (xs ys : List (Entry B)) → Begins xs ys → length xs ≤ length ys
  begins_length xs ys p = omega (arith, sym (ap length p.1) ∙ length-append xs p.0)

  pub begins_shorter : (xs ys zs : List (Entry B)) → Begins xs zs → Begins ys zs → length xs ≤ length ys → Begins xs ys
  begins_shorter [] ys zs p q le = (ys, refl)
  begins_shorter (x ∷ xs) [] zs p q le = absurd (omega arith)
  begins_shorter (x ∷ xs) (y ∷ ys) [] p q le = absurd (cc (p.1))
  begins_shorter (x ∷ xs) (y ∷ ys) (z ∷ zs) p q le =
      let heads : x ≡ y = cc (p.1, q.1) in
      let rest = begins_shorter xs ys zs (p.0, cc (p.1)) (q.0, cc (q.1)) (omega arith) in
      (rest.0, cc (heads, rest.1))

  pub begins_whole : (xs ys : List (Entry B)) → Begins xs ys → length ys ≤ length xs → xs ≡ ys
  begins_whole [] [] p le = refl
  begins_whole [] (y ∷ ys) p le = absurd (omega arith)
  begins_whole (x ∷ xs) [] p le = absurd (cc (p.1))
  begins_whole (x ∷ xs) (y ∷ ys) p le =
      let rest = begins_whole xs ys (p.0, cc (p.1)) (omega arith) in cc (p.1, rest)

  -- two beginnings of one length are one
  pub begins_same : (xs ys zs : List (Entry B)) → Begins xs zs → Begins ys zs → length xs ≡ length ys → xs ≡ ys
  begins_same xs ys zs p q e = begins_whole xs ys (begins_shorter xs ys zs p q (omega arith)) (omega arith)

  pub begins_either : (xs ys zs : List (Entry B)) → Begins xs zs → Begins ys zs → Begins xs ys ⊎ Begins ys xs
  begins_either xs ys zs p q =
      ⊎_elim
      (λ h. inl (begins_shorter xs ys zs p q (omega arith)))
      (λ h. inr (begins_shorter ys xs zs q p h))
      (cases_lt (length xs) (length ys))

  pub begins_take : (k : ℕ) (xs : List (Entry B)) → Begins (take k xs) xs
  begins_take k xs = (drop k xs, take-append-drop k xs)

  pub begins_nil : (xs : List (Entry B)) → Begins xs [] → xs ≡ []
  begins_nil xs p = begins_whole xs [] p (omega arith)

  pub begins_empty : (xs ys : List (Entry B)) → length xs ≤ 0 → Begins xs ys
  begins_empty [] ys h = begins_none ys
  begins_empty (x ∷ xs) ys h = absurd (omega arith)

  -- a beginning of a longer list is one of the list, or the whole
  pub begins_push : (xs ys : List (Entry B)) (e : Entry B) → Begins xs (ys ++ e ∷ []) → Begins xs ys ⊎ (xs ≡ ys ++ e ∷ [])
  begins_push xs ys e p =
      ⊎_elim
      (λ h. inr (begins_whole xs (ys ++ e ∷ []) p (omega (arith, length-append ys (e ∷ [])))))
      (λ h. inl (begins_shorter xs ys (ys ++ e ∷ []) p (e ∷ [], refl) h))
      (cases_lt (length ys) (length xs))

  pub begins_strip : (q xs ys : List (Entry B)) → Begins (q ++ xs) (q ++ ys) → Begins xs ys
  begins_strip [] xs ys p = p
  begins_strip (x ∷ q) xs ys p = begins_strip q xs ys (p.0, cc (p.1))

  pub begins_glue : (q xs ys : List (Entry B)) → Begins xs ys → Begins (q ++ xs) (q ++ ys)
  begins_glue q xs ys p = (p.0, append_assoc q xs p.0 ∙ ap (λ w. q ++ w) p.1)

  pub length_take : (k : ℕ) (xs : List (Entry B)) → k ≤ length xs → length (take k xs) ≡ k
  length_take k xs h = simp length-take (omega arith)

  pub last_after_append : (t : ℕ) (xs ys : List (Entry B)) → last_after t (xs ++ ys) ≡ last_after (last_after t xs) ys
  last_after_append t [] ys = refl
  last_after_append t (x ∷ xs) ys = last_after_append x.term xs ys

  pub last_term_push : (xs : List (Entry B)) (e : Entry B) → last_term (xs ++ e ∷ []) ≡ e.term
  last_term_push xs e = last_after_append 0 xs (e ∷ [])

  -- a log whose last term is above 0 has an entry
  pub has_entry : (xs : List (Entry B)) → 0 < last_term xs → xs ≡ [] → ⊥
  has_entry xs h e = let z : last_term xs ≡ 0 = ap last_term e in absurd (omega arith)

-- What an append leaves of a log.
use Rattle.std.proofs.Common.{◌≡◌, ℕ, zero, suc, ◌-◌, ◌≤◌, true, false, eqb, List, [], ◌∷◌, ◌++◌, ◌⊎◌, inl, inr, ⊎_elim, length, take, drop, refl, sym, ap, subst, ◌∙◌, arith, append_assoc, length-append, eq-eqb, take-add}
use Rattle.std.proofs.lemmas.Bool.{cond_both, cases_Bool, cond-true, cond-false, eqb-true, cases_lt, true≢false}
use Rattle.raft_log.specs.declared.entry.Entry.{Entry}
use Rattle.raft_log.specs.Logs.{last_term, merged, repair, conflicts_within}
use Rattle.agreement.specs.World.{Begins}
use Rattle.agreement.proofs.Lists.{begins_none, begins_trans, begins_shorter, begins_same, begins_take, begins_glue, length_take, last_term_push}
use Rattle.agreement.proofs.Ghost.{Sound}

module _ {B : Type 0} where
  push_same : (q : List (Entry B)) (x e : Entry B) → q ++ x ∷ [] ≡ q ++ e ∷ [] → x ≡ e
  push_same [] x e h = cc
  push_same (y ∷ q) x e h = push_same q x e (cc h)

  -- two logs that agree in term at a place agree up to it
  pub same_front : (l : ℕ → List (Entry B)) (x y : ℕ) (a b p q : List (Entry B)) → Sound l x a → Sound l y b → Begins p a → Begins q b → last_term p ≡ last_term q → length p ≡ length q → p ≡ q
  same_front l x y a b p q sa sb bp bq term len =
      begins_same p q (l (last_term q)) (subst (λ u. Begins p (l u)) term (sa.rooted p bp)) (sb.rooted q bq) len

  pub merged_same : (es rest : List (Entry B)) → Begins es rest → merged rest es ≡ rest
  merged_same [] rest b = refl
  merged_same (e ∷ es) [] b = absurd (cc (b.1))
  merged_same (e ∷ es) (x ∷ rest) b =
      let ex : e ≡ x = cc (b.1) in
      let more : Begins es rest = (b.0, cc (b.1)) in
      cond-true (eqb x.term e.term) (x ∷ merged rest es) (e ∷ es) (eq-eqb x.term e.term (ap (λ z. z.term) (sym ex))) ∙ ap (λ z. x ∷ z) (merged_same es rest more)

  -- the log stays, or it is the leader's
  pub merged_cases : (l : ℕ → List (Entry B)) (x t : ℕ) (es rest q : List (Entry B)) → Sound l x (q ++ rest) → Sound l t (l t) → Begins (q ++ es) (l t) → ((q ++ merged rest es ≡ q ++ rest) × Begins (q ++ es) (q ++ rest)) ⊎ (q ++ merged rest es ≡ q ++ es)
  merged_cases l x t [] rest q own led b = inl (refl, begins_glue q [] rest (begins_none rest))
  merged_cases l x t (e ∷ es) [] q own led b = inr refl
  merged_cases l x t (e ∷ es) (y ∷ rest) q own led b =
      cond_both (eqb y.term e.term) (y ∷ merged rest es) (e ∷ es)
      (λ z. ((q ++ z ≡ q ++ y ∷ rest) × Begins (q ++ e ∷ es) (q ++ y ∷ rest)) ⊎ (q ++ z ≡ q ++ e ∷ es))
      (λ h. same (merged_cases l x t es rest (q ++ y ∷ []) (subst (λ z. Sound l x z) (sym at_rest) own) led (subst (λ z. Begins z (l t)) (sym (at_es h)) b)) h)
      (λ h. inr refl)
    where
      at_rest : (q ++ y ∷ []) ++ rest ≡ q ++ y ∷ rest
      at_rest = append_assoc q (y ∷ []) rest

      front_y : Begins (q ++ y ∷ []) (q ++ y ∷ rest)
      front_y = (rest, append_assoc q (y ∷ []) rest)

      front_e : Begins (q ++ e ∷ []) (l t)
      front_e = begins_trans (q ++ e ∷ []) (q ++ e ∷ es) (l t) (es, append_assoc q (e ∷ []) es) b

      lengths : length (q ++ y ∷ []) ≡ length (q ++ e ∷ [])
      lengths = omega (arith, length-append q (y ∷ []), length-append q (e ∷ []))

      one : eqb y.term e.term ≡ true → y ≡ e
      one h =
          push_same q y e
          (same_front l x t (q ++ y ∷ rest) (l t) (q ++ y ∷ []) (q ++ e ∷ []) own led front_y front_e
          (last_term_push q y ∙ (eqb-true y.term e.term h ∙ sym (last_term_push q e))) lengths)

      at_es : eqb y.term e.term ≡ true → (q ++ y ∷ []) ++ es ≡ q ++ e ∷ es
      at_es h = append_assoc q (y ∷ []) es ∙ ap (λ z. q ++ z ∷ es) (one h)

      same : (((q ++ y ∷ []) ++ merged rest es ≡ (q ++ y ∷ []) ++ rest) × Begins ((q ++ y ∷ []) ++ es) ((q ++ y ∷ []) ++ rest)) ⊎ ((q ++ y ∷ []) ++ merged rest es ≡ (q ++ y ∷ []) ++ es) → eqb y.term e.term ≡ true → ((q ++ y ∷ merged rest es ≡ q ++ y ∷ rest) × Begins (q ++ e ∷ es) (q ++ y ∷ rest)) ⊎ (q ++ y ∷ merged rest es ≡ q ++ e ∷ es)
      same r h =
          ⊎_elim
          (λ a. inl (sym (append_assoc q (y ∷ []) (merged rest es)) ∙ (a.0 ∙ at_rest), subst (λ z. Begins z (q ++ y ∷ rest)) (at_es h) (subst (λ z. Begins ((q ++ y ∷ []) ++ es) z) at_rest a.1)))
          (λ a. inr (sym (append_assoc q (y ∷ []) (merged rest es)) ∙ (a ∙ at_es h)))
          r

  -- what is below the first conflict stays
  kept_front : (c : ℕ) (rest es : List (Entry B)) → conflicts_within rest es c ≡ false → Begins (take c rest) (merged rest es)
  kept_front zero rest es h = begins_none _
  kept_front (suc c) [] es h = begins_none _
  kept_front (suc c) (x ∷ rest) [] h = begins_take (suc c) (x ∷ rest)
  kept_front (suc c) (x ∷ rest) (e ∷ es) h =
      ⊎_elim
      (λ t.
      let b = kept_front c rest es (sym (cond-true (eqb x.term e.term) (conflicts_within rest es c) true t) ∙ h) in
      subst (λ z. Begins (x ∷ take c rest) z) (sym (cond-true (eqb x.term e.term) (x ∷ merged rest es) (e ∷ es) t)) (b.0, ap (λ z. x ∷ z) b.1))
      (λ f. absurd (true≢false (sym (cond-false (eqb x.term e.term) (conflicts_within rest es c) true f) ∙ h)))
      (cases_Bool (eqb x.term e.term))

  pub repair_keeps : (log : List (Entry B)) (prev k : ℕ) (es : List (Entry B)) → k ≤ length log → conflicts_within (drop prev log) es (k - prev) ≡ false → prev ≤ length log → Begins (take k log) (repair log prev es)
  repair_keeps log prev k es kin h pin =
      ⊎_elim
      (λ lt.
      let e : take k log ≡ take prev log ++ take (k - prev) (drop prev log) = ap (λ z. take z log) (omega arith) ∙ take-add prev (k - prev) log in
      subst (λ z. Begins z (repair log prev es)) (sym e) (begins_glue (take prev log) _ _ (kept_front (k - prev) (drop prev log) es h)))
      (λ le.
      begins_trans (take k log) (take prev log) (repair log prev es)
      (begins_shorter (take k log) (take prev log) log (begins_take k log) (begins_take prev log) (omega (arith, length_take k log kin, length_take prev log pin)))
      (merged (drop prev log) es, refl))
      (cases_lt prev k)

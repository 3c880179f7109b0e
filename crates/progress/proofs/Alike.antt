-- A log that takes the entries of another one, with which it agrees wherever the terms do.
use Rattle.std.proofs.Common.{◌≡◌, ℕ, zero, suc, ◌+◌, ◌-◌, ◌≤◌, Bool, true, false, ◌||◌, eqb, leb, min, List, [], ◌∷◌, ◌++◌, length, take, drop, refl, sym, ap, subst, ◌∙◌, arith, inl, inr, ◌⊎◌, ⊎_elim, append_assoc, length-append, length-take, length-drop, take-append-drop, take-add}
use Rattle.std.proofs.lemmas.Bool.{cond-true, cond_both, eqb-true, eq-eqb, le-leb, leb-true, cases_lt, and_parts}
use Rattle.raft_log.specs.declared.entry.Entry.{Entry}
use Rattle.raft_log.specs.Logs.{last_term, term_at, agrees_at, merged, repair, conflicts_within}
use Rattle.agreement.specs.World.{Begins}
use Rattle.agreement.proofs.Repairs.{merged_same}
use Rattle.agreement.proofs.Lists.{begins_self, begins_none, begins_trans, begins_length, begins_shorter, begins_whole, begins_same, begins_take, begins_strip, begins_glue, length_take, last_term_push}
use Rattle.progress.proofs.Voting.{both_true}

pub or_right : (x y : Bool) → y ≡ true → (x || y) ≡ true
or_right true y h = refl
or_right false y h = h

pub or_parts : (x y : Bool) → (x || y) ≡ true → (x ≡ true) ⊎ (y ≡ true)
or_parts true y h = inl refl
or_parts false y h = inr h

module _ {B : Type 0} where
  -- two logs that agree in term at a place agree up to it
  abbrev pub AreAlike : List (Entry B) → List (Entry B) → Type 0
  AreAlike P L = (p : ℕ) → p ≤ length P → p ≤ length L → term_at P p ≡ term_at L p → take p P ≡ take p L

  -- a log begins with the first q entries of another
  abbrev pub Has : ℕ → List (Entry B) → List (Entry B) → Type 0
  Has q P L = Begins (take q L) P

  pub front_is : (xs L : List (Entry B)) → Begins xs L → take (length xs) L ≡ xs
  front_is xs L b = begins_same (take (length xs) L) xs L (begins_take (length xs) L) b (length_take (length xs) L (begins_length xs L b))

  pub has_less : (q r : ℕ) (P L : List (Entry B)) → r ≤ q → q ≤ length L → Has q P L → Has r P L
  has_less q r P L le in_l h =
      begins_trans (take r L) (take q L) P
      (begins_shorter (take r L) (take q L) L (begins_take r L) (begins_take q L) (omega (arith, length_take r L (omega arith), length_take q L in_l))) h

  pub has_front : (q : ℕ) (P L : List (Entry B)) → q ≤ length L → Has q P L → take q P ≡ take q L
  has_front q P L in_l h =
      let n : length (take q L) ≡ q = length_take q L in_l in
      ap (λ z. take z P) (sym n) ∙ front_is (take q L) P h

  pub has_length : (q : ℕ) (P L : List (Entry B)) → q ≤ length L → Has q P L → q ≤ length P
  has_length q P L in_l h = omega (arith, length_take q L in_l, begins_length (take q L) P h)

  -- if the terms agree at a place, the log has all up to it
  pub agrees_has : (q : ℕ) (P L : List (Entry B)) → q ≤ length L → AreAlike P L → agrees_at P q (term_at L q) ≡ true → Has q P L
  agrees_has q P L in_l alike h =
      ⊎_elim
      (λ z. subst (λ k. Has k P L) (sym (eqb-true q 0 z)) (begins_none P))
      (λ r.
      let parts = and_parts (leb q (length P)) (eqb (term_at P q) (term_at L q)) r in
      let same : take q P ≡ take q L = alike q (leb-true q (length P) parts.0) in_l (eqb-true (term_at P q) (term_at L q) parts.1) in
      subst (λ z. Begins z P) same (begins_take q P))
      (or_parts (eqb q 0) _ h)

  pub has_agrees : (q : ℕ) (P L : List (Entry B)) → q ≤ length L → Has q P L → agrees_at P q (term_at L q) ≡ true
  has_agrees q P L in_l h =
      or_right (eqb q 0) _
      (both_true (leb q (length P)) (eqb (term_at P q) (term_at L q)) (le-leb q (length P) (has_length q P L in_l h))
      (eq-eqb (term_at P q) (term_at L q) (ap last_term (has_front q P L in_l h))))

  -- entries of the other log are taken

  push_same : (q : List (Entry B)) (x e : Entry B) → q ++ x ∷ [] ≡ q ++ e ∷ [] → x ≡ e
  push_same [] x e h = cc
  push_same (y ∷ q) x e h = push_same q x e (cc h)

  merged_cases : (es X q L : List (Entry B)) → AreAlike (q ++ X) L → Begins (q ++ es) L → ((merged X es ≡ X) × Begins es X) ⊎ (merged X es ≡ es)
  merged_cases [] X q L alike b = inl (refl, begins_none X)
  merged_cases (e ∷ es) [] q L alike b = inr refl
  merged_cases (e ∷ es) (x ∷ X) q L alike b =
      cond_both (eqb x.term e.term) (x ∷ merged X es) (e ∷ es) (λ z. ((z ≡ x ∷ X) × Begins (e ∷ es) (x ∷ X)) ⊎ (z ≡ e ∷ es))
      (λ h. same (one h) (merged_cases es X (q ++ x ∷ []) L (subst (λ z. AreAlike z L) (sym (append_assoc q (x ∷ []) X)) alike)
      (subst (λ z. Begins z L) (ap (λ y. q ++ y ∷ es) (sym (one h)) ∙ sym (append_assoc q (x ∷ []) es)) b)))
      (λ h. inr refl)
    where
      front_x : Begins (q ++ x ∷ []) (q ++ x ∷ X)
      front_x = (X, append_assoc q (x ∷ []) X)

      front_e : Begins (q ++ e ∷ []) L
      front_e = begins_trans (q ++ e ∷ []) (q ++ e ∷ es) L (es, append_assoc q (e ∷ []) es) b

      lengths : length (q ++ x ∷ []) ≡ length (q ++ e ∷ [])
      lengths = omega (arith, length-append q (x ∷ []), length-append q (e ∷ []))

      at_x : take (length (q ++ x ∷ [])) (q ++ x ∷ X) ≡ q ++ x ∷ []
      at_x = front_is (q ++ x ∷ []) (q ++ x ∷ X) front_x

      at_e : take (length (q ++ x ∷ [])) L ≡ q ++ e ∷ []
      at_e = ap (λ z. take z L) lengths ∙ front_is (q ++ e ∷ []) L front_e

      one : eqb x.term e.term ≡ true → x ≡ e
      one h =
          push_same q x e
          (sym at_x
          ∙ (alike (length (q ++ x ∷ [])) (begins_length (q ++ x ∷ []) (q ++ x ∷ X) front_x) (omega (arith, lengths, begins_length (q ++ e ∷ []) L front_e))
          (ap last_term at_x ∙ (last_term_push q x ∙ (eqb-true x.term e.term h ∙ (sym (last_term_push q e) ∙ sym (ap last_term at_e)))))
          ∙ at_e))

      same : x ≡ e → ((merged X es ≡ X) × Begins es X) ⊎ (merged X es ≡ es) → ((x ∷ merged X es ≡ x ∷ X) × Begins (e ∷ es) (x ∷ X)) ⊎ (x ∷ merged X es ≡ e ∷ es)
      same p (inl r) = inl (ap (λ z. x ∷ z) r.0, (r.1.0, cc (p, r.1.1)))
      same p (inr r) = inr (cc (p, r))

  no_conflict : (c : ℕ) (X es Y : List (Entry B)) → Begins (take c Y) X → Begins es Y → conflicts_within X es c ≡ false
  no_conflict zero X es Y h b = refl
  no_conflict (suc c) [] es Y h b = refl
  no_conflict (suc c) (x ∷ X) [] Y h b = refl
  no_conflict (suc c) (x ∷ X) (e ∷ es) [] h b = absurd (cc (b.1))
  no_conflict (suc c) (x ∷ X) (e ∷ es) (y ∷ Y) h b =
      let ex : x ≡ e = cc (h.1, b.1) in
      cond-true (eqb x.term e.term) (conflicts_within X es c) true (eq-eqb x.term e.term (ap (λ z. z.term) ex))
      ∙ no_conflict c X es Y (h.0, cc (h.1)) (b.0, cc (b.1))

  -- of the first entries from a place on
  module _ (P L : List (Entry B)) (prev count : ℕ) (in_l : prev ≤ length L) (has : Has prev P L) where
    abbrev pub piece : List (Entry B)
    piece = take count (drop prev L)

    abbrev pub up_to : ℕ
    up_to = prev + length (take count (drop prev L))

    abbrev pub taken : List (Entry B)
    taken = repair P prev (take count (drop prev L))

    pub piece_length : length (take count (drop prev L)) ≡ min count (length L - prev)
    piece_length = length-take count (drop prev L) ∙ ap (λ z. min count z) (length-drop prev L)

    pub up_to_in : up_to ≤ length L
    up_to_in = omega (arith, piece_length)

    split_p : take prev L ++ drop prev P ≡ P
    split_p = ap (λ z. z ++ drop prev P) (sym (has_front prev P L in_l has)) ∙ take-append-drop prev P

    split_l : take prev L ++ drop prev L ≡ L
    split_l = take-append-drop prev L

    glued : take prev L ++ piece ≡ take up_to L
    glued =
        sym (front_is (take prev L ++ piece) L (subst (λ z. Begins (take prev L ++ piece) z) split_l (begins_glue (take prev L) piece (drop prev L) (begins_take count (drop prev L)))))
        ∙ ap (λ z. take z L) (omega (arith, length-append (take prev L) piece, length_take prev L in_l))

    pub clear : (k : ℕ) → k ≤ length L → Has k P L → conflicts_within (drop prev P) piece (k - prev) ≡ false
    clear k k_in h =
        ⊎_elim
        (λ lt.
        let front : take k L ≡ take prev L ++ take (k - prev) (drop prev L) = ap (λ z. take z L) (omega arith) ∙ take-add prev (k - prev) L in
        no_conflict (k - prev) (drop prev P) piece (drop prev L)
        (begins_strip (take prev L) (take (k - prev) (drop prev L)) (drop prev P) (subst (λ z. Begins z (take prev L ++ drop prev P)) front (subst (λ z. Begins (take k L) z) (sym split_p) h)))
        (begins_take count (drop prev L)))
        (λ ge. let none : k - prev ≡ 0 = omega arith in ap (λ z. conflicts_within (drop prev P) piece z) none)
        (cases_lt prev k)

    pub taken_cases : AreAlike P L → ((taken ≡ P) × Has up_to P L) ⊎ (taken ≡ take up_to L)
    taken_cases alike =
        ⊎_elim
        (λ r. inl (start ∙ (ap (λ z. take prev L ++ z) r.0 ∙ split_p), subst (λ z. Begins z P) glued (subst (λ z. Begins (take prev L ++ piece) z) split_p (begins_glue (take prev L) piece (drop prev P) r.1))))
        (λ r. inr (start ∙ (ap (λ z. take prev L ++ z) r ∙ glued)))
        (merged_cases piece (drop prev P) (take prev L) L (subst (λ z. AreAlike z L) (sym split_p) alike)
        (subst (λ z. Begins (take prev L ++ piece) z) split_l (begins_glue (take prev L) piece (drop prev L) (begins_take count (drop prev L)))))
      where
        start : taken ≡ take prev L ++ merged (drop prev P) piece
        start = ap (λ z. z ++ merged (drop prev P) piece) (has_front prev P L in_l has)

    pub taken_has : AreAlike P L → Has up_to taken L
    taken_has alike =
        ⊎_elim (λ r. subst (λ z. Begins (take up_to L) z) (sym r.0) r.1) (λ r. subst (λ z. Begins (take up_to L) z) (sym r) (begins_self (take up_to L))) (taken_cases alike)

    stays : Has up_to P L → taken ≡ P
    stays h =
        let b : Begins piece (drop prev P) = begins_strip (take prev L) piece (drop prev P) (subst (λ z. Begins z (take prev L ++ drop prev P)) (sym glued) (subst (λ z. Begins (take up_to L) z) (sym split_p) h)) in
        ap (λ z. take prev P ++ z) (merged_same piece (drop prev P) b) ∙ take-append-drop prev P

    pub taken_keeps : AreAlike P L → (q : ℕ) → q ≤ length L → Has q P L → Has q taken L
    taken_keeps alike q q_in h =
        ⊎_elim
        (λ lt. subst (λ z. Has q z L) (sym (stays (has_less q up_to P L (omega arith) q_in h))) h)
        (λ le. has_less up_to q taken L le up_to_in (taken_has alike))
        (cases_lt up_to q)

    pub taken_alike : AreAlike P L → AreAlike taken L
    taken_alike alike =
        ⊎_elim (λ r. subst (λ z. AreAlike z L) (sym r.0) alike) (λ r. subst (λ z. AreAlike z L) (sym r) (λ p le in_p e. cut p le in_p)) (taken_cases alike)
      where
        cut : (p : ℕ) → p ≤ length (take up_to L) → p ≤ length L → take p (take up_to L) ≡ take p L
        cut p le in_p =
            has_front p (take up_to L) L in_p
            (begins_shorter (take p L) (take up_to L) L (begins_take p L) (begins_take up_to L) (omega (arith, length_take p L in_p)))

    pub taken_short : AreAlike P L → (Begins L P → P ≡ L) → Begins L taken → taken ≡ L
    taken_short alike short b =
        ⊎_elim
        (λ r. r.0 ∙ short (subst (λ z. Begins L z) r.0 b))
        (λ r. sym (begins_whole L taken b (subst (λ z. length z ≤ length L) (sym r) (omega (arith, length_take up_to L up_to_in, up_to_in)))))
        (taken_cases alike)

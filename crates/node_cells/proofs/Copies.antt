-- Copies of inputs, and of what is left of them.
use Rattle.std.proofs.Common.{◌≡◌, ◌≤◌, ℕ, Option, Some, None, List, [], ◌∷◌, ◌++◌, length, sym, ap, ◌∙◌, refl, arith, length-append}
use Rattle.std.specs.Prelude.{MatchOption, get_or, option_to_list}
use Rattle.node_cells.specs.declared.record.Recording.{Recording}
use Rattle.node_cells.specs.Copies.{AreCopies, IsCopy, first_in}

module _ {A : Type 0} where
  heads : (x y : A) (xs ys : List A) → x ∷ xs ≡ y ∷ ys → x ≡ y
  heads x y xs ys e = cc e

  tails : (x y : A) (xs ys : List A) → x ∷ xs ≡ y ∷ ys → xs ≡ ys
  tails x y xs ys e = cc e

  -- the first copy is of the first
  pub first_copy : (r : Recording) (xs copies : List A) (x : A) → 1 ≤ length xs → x ≡ get_or xs 0 x → AreCopies r xs copies → IsCopy r x (first_in copies)
  first_copy r [] copies x some is h = absurd (omega (arith, some))
  first_copy r (y ∷ xs) copies x some is h = λ on. ap first_in (h on) ∙ ap Some (sym is)

  -- if nothing came, nothing was there
  pub none_left : (P : A → Type 0) (o : Option A) (n m : ℕ) → MatchOption o ((n ≡ 0) × (m ≡ 0)) P → o ≡ None → n ≡ 0
  none_left P None n m h e = h.0
  none_left P (Some x) n m h e = absurd (cc e)

  -- the next copy is of the next
  pub next_copy : (r : Recording) (x : A) (rest copies left : List A) (o : Option A) → AreCopies r (x ∷ rest) copies → copies ≡ option_to_list o ++ left → (o ≡ None → length copies ≡ 0)
      → IsCopy r x o × AreCopies r rest left
  next_copy r x rest copies left None h is none = (
    λ on. absurd (let long = ap length (h on) in let nothing = none refl in omega (arith, long, nothing)),
    λ on. absurd (let long = ap length (h on) in let nothing = none refl in omega (arith, long, nothing)),
  )
  next_copy r x rest copies left (Some y) h is none = (
    λ on. ap Some (heads y x left rest (sym is ∙ h on)),
    λ on. tails y x left rest (sym is ∙ h on),
  )

  last_is : (xs ys : List A) (x y : A) → xs ++ x ∷ [] ≡ ys ++ y ∷ [] → (x ≡ y) × (xs ≡ ys)
  last_is [] [] x y e = (heads x y [] [] e, refl)
  last_is [] (b ∷ ys) x y e = absurd (let long = ap length e in let two = length-append ys (y ∷ []) in omega (arith, long, two))
  last_is (a ∷ xs) [] x y e = absurd (let long = ap length e in let two = length-append xs (x ∷ []) in omega (arith, long, two))
  last_is (a ∷ xs) (b ∷ ys) x y e =
      let rest = last_is xs ys x y (tails a b (xs ++ x ∷ []) (ys ++ y ∷ []) e) in
      (rest.0, λ d. heads a b (xs ++ x ∷ []) (ys ++ y ∷ []) e d ∷ rest.1 d)

  -- the last copy is of the last
  pub last_copy : (r : Recording) (front : List A) (x : A) (copies left : List A) (o : Option A) → AreCopies r (front ++ x ∷ []) copies → copies ≡ left ++ option_to_list o → (o ≡ None → length copies ≡ 0)
      → IsCopy r x o × AreCopies r front left
  last_copy r front x copies left None h is none = (
    λ on. absurd (let long = ap length (h on) in let two = length-append front (x ∷ []) in let nothing = none refl in omega (arith, long, two, nothing)),
    λ on. absurd (let long = ap length (h on) in let two = length-append front (x ∷ []) in let nothing = none refl in omega (arith, long, two, nothing)),
  )
  last_copy r front x copies left (Some y) h is none = (
    λ on. ap Some (last_is left front y x (sym is ∙ h on)).0,
    λ on. (last_is left front y x (sym is ∙ h on)).1,
  )

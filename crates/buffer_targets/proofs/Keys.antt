-- Keys and their order, by the comparison of slices.
use Rattle.std.proofs.Common.{◌≡◌, ℕ, true, false, Ordering, Less, Equal, Greater, List, [], ◌∷◌, refl, sym, ap, ◌∙◌, subst, arith}
use Rattle.std.specs.List.{list_all}
use Rattle.std.specs.Ordering.{nat_cmp, is_lt, is_eq, ordering_reverse}
use Rattle.std.specs.Cmp.Lexicographic.{slice_cmp}
use Rattle.std.proofs.lemmas.Bool.Decides.{nat_tests}
use Rattle.std.proofs.lemmas.Cmp.{same_from_slice_cmp, nat_list_cmp_total}
use Rattle.irc_line.specs.Names.{fold_name, same_bytes}
use Rattle.irc_line.specs.Keys.{at_key, is_below, are_rising}
use Rattle.irc_line.proofs.Booleans.{and_left, and_right, and_both, false_of}
use Rattle.irc_line.proofs.Order.{below-trans, below-irrefl, key_is}
use Rattle.irc_line.proofs.SameBytes.{same_bytes-sym}

-- the result of a comparison, as a test
pub less_is_below : (a b : List ℕ) (o : Ordering) → o ≡ slice_cmp nat_cmp a b → is_lt o ≡ is_below a b
less_is_below = same_from_slice_cmp nat_cmp is_lt is_below refl (λ _ _. refl) (λ _ _. refl) (λ x y xs ys o h. grind (arith, nat_tests))

pub equal_is_same : (a b : List ℕ) (o : Ordering) → o ≡ slice_cmp nat_cmp a b → is_eq o ≡ same_bytes a b
equal_is_same = same_from_slice_cmp nat_cmp is_eq same_bytes refl (λ _ _. refl) (λ _ _. refl) (λ x y xs ys o h. grind (arith, nat_tests))

pub below_of_less : (a b : List ℕ) → slice_cmp nat_cmp a b ≡ Less → is_below a b ≡ true
below_of_less a b e = sym (less_is_below a b Less (sym e))

pub above_of_greater : (a b : List ℕ) → slice_cmp nat_cmp a b ≡ Greater → is_below b a ≡ true
above_of_greater a b e = below_of_less b a (nat_list_cmp_total.antisymm b a ∙ ap ordering_reverse e)

pub key_of_equal : (name key : List ℕ) → slice_cmp nat_cmp (fold_name name) key ≡ Equal → at_key key name ≡ true
unfolding at_key
key_of_equal name key e = same_bytes-sym key (fold_name name) ∙ sym (equal_is_same (fold_name name) key Equal (sym e))

-- a name below or above a key does not have it
pub below_is_other : (key name : List ℕ) → is_below (fold_name name) key ≡ true → at_key key name ≡ false
below_is_other key name e = false_of _ (λ h. below-irrefl key (subst (λ k. is_below k key ≡ true) (sym (key_is key name h)) e))

pub above_is_other : (key name : List ℕ) → is_below key (fold_name name) ≡ true → at_key key name ≡ false
above_is_other key name e = false_of _ (λ h. below-irrefl key (subst (λ k. is_below key k ≡ true) (sym (key_is key name h)) e))

-- a name of names that rise is below each later one
pub below_each : (k n : List ℕ) (ns : List (List ℕ)) → is_below k (fold_name n) ≡ true → are_rising (n ∷ ns) ≡ true → list_all (λ m. is_below k (fold_name m)) (n ∷ ns) ≡ true
below_each k n [] e r = and_both _ _ e refl
below_each k n (m ∷ ns) e r = and_both _ _ e (below_each k m ns (below-trans k (fold_name n) (fold_name m) e (and_left _ _ r)) (and_right _ _ r))

pub below_later : (n : List ℕ) (ns : List (List ℕ)) → are_rising (n ∷ ns) ≡ true → list_all (λ m. is_below (fold_name n) (fold_name m)) ns ≡ true
below_later n [] r = refl
below_later n (m ∷ ns) r = below_each (fold_name n) m ns (and_left _ _ r) (and_right _ _ r)

-- The stores of a group, saved one after the other.
use Rattle.std.proofs.Common.{◌≡◌, ℕ, ◌+◌, ◌<◌, add-one, List, [], ◌∷◌, ◌++◌, length, map, take, drop, set, get_or, ap, sym, ◌∙◌, subst, arith}
use Rattle.std.proofs.Math.Seq.{take-suc}
use Rattle.std.proofs.lemmas.List.{drop_more, drop-set-lt, map-append, take_more_set}
use Rattle.std.proofs.lemmas.List.Elements.{All-get_or}
use Rattle.std.specs.List.{All}
use Rattle.raft_log.specs.declared.entry.Entry.{Entry}
use Rattle.stable_store.specs.declared.saved.Saved.{Saved}
use Rattle.journal_folder.specs.Saving.{all_begun_anew, begun_anew}

below_next : (i : ℕ) → i < i + 1
below_next i = omega arith

-- the rest of two lists from a place on, element by element
same_front : {X : Type 0} (xs ys : List X) (i : ℕ) (d : X) → i < length xs → i < length ys → drop i xs ≡ drop i ys → get_or xs i d ∷ drop (i + 1) xs ≡ get_or ys i d ∷ drop (i + 1) ys
same_front xs ys i d h k rest = sym (drop_more xs i d h) ∙ (rest ∙ drop_more ys i d k)

-- if a store is set, the ones after it are unchanged
pub rest_behind : {X : Type 0} (xs ys : List X) (i : ℕ) (new : X) → i < length xs → i < length ys → drop i xs ≡ drop i ys → drop (i + 1) (set xs i new) ≡ drop (i + 1) ys
rest_behind xs ys i new h k rest = drop-set-lt (i + 1) xs i new (below_next i) ∙ ap (λ (zs : List _). drop 1 zs) (same_front xs ys i new h k rest)

-- and the store at the place is the old one
at_front : {X : Type 0} (xs ys : List X) (i : ℕ) (d : X) → i < length xs → i < length ys → drop i xs ≡ drop i ys → get_or xs i d ≡ get_or ys i d
at_front xs ys i d h k rest = ap (λ (zs : List _). get_or zs 0 d) (same_front xs ys i d h k rest)

one_boot_more : (boots : List ℕ) (i boot : ℕ) → i < length boots → boot ≡ get_or boots i boot → take (i + 1) boots ≡ take i boots ++ boot ∷ []
one_boot_more boots i boot h is =
    ap (λ (n : ℕ). take n boots) (add-one i) ∙ (take-suc boots i boot h ∙ ap (λ (b : ℕ). take i boots ++ b ∷ []) (sym is))

module _ {B Store : Type 0} (saved : Store → Saved B) (Honest : Store → Type 0) where
  one_more : (stores : List Store) (new : Store) (boots : List ℕ) (boot term i : ℕ) (log : List (Entry B)) → i < length stores → take (i + 1) boots ≡ take i boots ++ boot ∷ []
      → saved new ≡ begun_anew boot term log → map saved (take i stores) ≡ all_begun_anew (take i boots) term log
      → map saved (take (i + 1) (set stores i new)) ≡ all_begun_anew (take (i + 1) boots) term log
  one_more stores new boots boot term i log lt next is so_far =
      ap (λ (xs : List Store). map saved xs) (take_more_set stores i new lt)
      ∙ (map-append saved (take i stores) (new ∷ [])
      ∙ (ap (λ (xs : List (Saved B)). xs ++ saved new ∷ []) so_far
      ∙ (ap (λ (s : Saved B). all_begun_anew (take i boots) term log ++ s ∷ []) is
      ∙ (sym (map-append (λ (b : ℕ). begun_anew b term log) (take i boots) (boot ∷ []))
      ∙ ap (λ (ns : List ℕ). all_begun_anew ns term log) (sym next)))))

  -- one more store of a group is saved; it is honest if all are
  pub next_saved : (stores olds : List Store) (old new : Store) (boots : List ℕ) (boot term i : ℕ) (log : List (Entry B)) → i < length stores → i < length olds → i < length boots
      → boot ≡ get_or boots i boot → drop i stores ≡ drop i olds → (Honest (get_or stores i old) → saved new ≡ begun_anew boot term log)
      → map saved (take i stores) ≡ all_begun_anew (take i boots) term log → All Honest olds → map saved (take (i + 1) (set stores i new)) ≡ all_begun_anew (take (i + 1) boots) term log
  next_saved stores olds old new boots boot term i log lt lt_olds lt_boots at_boots rest is so_far all =
      let honest : Honest (get_or stores i old) = subst (λ (s : Store). Honest s) (sym (at_front stores olds i old lt lt_olds rest)) (All-get_or Honest olds i old lt_olds all) in
      one_more stores new boots boot term i log lt (one_boot_more boots i boot lt_boots at_boots) (is honest) so_far

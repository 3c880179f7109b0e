-- Items for the nodes of a group, one made for each node in their order.
use Rattle.std.proofs.Common.{◌≡◌, List, [], ◌∷◌, ◌++◌, map, ap, append_assoc, ◌∙◌}
use Rattle.std.proofs.lemmas.List.{map_push}

-- one more is made
pub pushed : {X Y : Type 0} (f : X → Y) (xs ys : List X) (x : X) → ys ≡ xs ++ x ∷ [] → map f ys ≡ map f xs ++ f x ∷ []
pushed f xs ys x is = ap (map f) is ∙ map_push f xs x

-- one more is made for y, and then those for the others
pub one_more : {X Y : Type 0} (f : X → Y) (old mid new : List X) (x : X) (y : Y) (rest : List Y) → mid ≡ old ++ x ∷ [] → f x ≡ y → map f new ≡ map f mid ++ rest
    → map f new ≡ map f old ++ y ∷ rest
one_more {X} {Y} f old mid new x y rest is same all =
    all
    ∙ (ap (λ (ys : List Y). ys ++ rest) (pushed f old mid x is)
    ∙ (append_assoc (map f old) (f x ∷ []) rest
    ∙ ap (λ (z : Y). map f old ++ z ∷ rest) same))

-- Lists that a loop changes, and maps over lists.
use Rattle.std.proofs.Common.{◌≡◌, List, [], ◌∷◌, ◌++◌, map, refl, ap, ◌∙◌, append_assoc, sym}
use Rattle.std.specs.Prelude.{flat_map}

map_at_by : {A B : Type 0} (f g : A → B) (all front xs : List A) → all ≡ front ++ xs
    → ((before : List A) (x : A) (after : List A) → all ≡ before ++ x ∷ after → f x ≡ g x) → map f xs ≡ map g xs
map_at_by f g all front [] e h = refl
map_at_by f g all front (x ∷ xs) e h =
    let next : all ≡ (front ++ x ∷ []) ++ xs = e ∙ sym (append_assoc front (x ∷ []) xs) in
    ap (λ y. y ∷ map f xs) (h front x xs e) ∙ ap (λ ys. g x ∷ ys) (map_at_by f g all (front ++ x ∷ []) xs next h)

-- two functions that agree on each element of a list
pub map_at : {A B : Type 0} (f g : A → B) (xs : List A) → ((before : List A) (x : A) (after : List A) → xs ≡ before ++ x ∷ after → f x ≡ g x) → map f xs ≡ map g xs
map_at f g xs h = map_at_by f g xs [] xs refl h

flat_map_at_by : {A B : Type 0} (f g : A → List B) (all front xs : List A) → all ≡ front ++ xs
    → ((before : List A) (x : A) (after : List A) → all ≡ before ++ x ∷ after → f x ≡ g x) → flat_map f xs ≡ flat_map g xs
flat_map_at_by f g all front [] e h = refl
flat_map_at_by f g all front (x ∷ xs) e h =
    let next : all ≡ (front ++ x ∷ []) ++ xs = e ∙ sym (append_assoc front (x ∷ []) xs) in
    ap (λ y. y ++ flat_map f xs) (h front x xs e) ∙ ap (λ ys. g x ++ ys) (flat_map_at_by f g all (front ++ x ∷ []) xs next h)

pub flat_map_at : {A B : Type 0} (f g : A → List B) (xs : List A) → ((before : List A) (x : A) (after : List A) → xs ≡ before ++ x ∷ after → f x ≡ g x) → flat_map f xs ≡ flat_map g xs
flat_map_at f g xs h = flat_map_at_by f g xs [] xs refl h

pub map_through : {A B C : Type 0} (f : A → B) (g : B → C) (h : A → C) → ((a : A) → g (f a) ≡ h a) → (xs : List A) → map g (map f xs) ≡ map h xs
map_through f g h e [] = refl
map_through f g h e (x ∷ xs) = ap (λ y. y ∷ map g (map f xs)) (e x) ∙ ap (λ ys. h x ∷ ys) (map_through f g h e xs)

pub map_same : {A B : Type 0} (f g : A → B) → ((a : A) → f a ≡ g a) → (xs : List A) → map f xs ≡ map g xs
map_same f g h [] = refl
map_same f g h (x ∷ xs) = ap (λ y. y ∷ map f xs) (h x) ∙ ap (λ ys. g x ∷ ys) (map_same f g h xs)

pub flat_map_through : {A B C : Type 0} (f : A → B) (g : B → List C) (xs : List A) → flat_map g (map f xs) ≡ flat_map (λ a. g (f a)) xs
flat_map_through f g [] = refl
flat_map_through f g (x ∷ xs) = ap (λ ys. g (f x) ++ ys) (flat_map_through f g xs)

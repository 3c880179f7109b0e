-- What a list and a set have once some of their items are removed.
use Rattle.std.proofs.Common.{◌≡◌, Bool, true, false, not, ◌&&◌, ◌||◌, List, [], ◌∷◌, refl, sym, ap, ◌∙◌}
use Rattle.std.specs.Prelude.{if◌then◌else◌, filter}
use Rattle.std.specs.List.{list_any}
use Rattle.irc_line.proofs.Booleans.{and_false}
use Rattle.wire_bytes.specs.declared.origin.Origin.{Origin}
use Rattle.machine_laws.specs.Origins.{same_origin}
use Rattle.buffer_machine.specs.Messages.{is_among}
use Rattle.machine_laws.proofs.Origins.{same_origin-is}

any_step : {A : Type 0} (same : A → A → Bool) (p : A → Bool) (q x : A) (xs : List A) (s k : Bool) → same q x ≡ s → (s ≡ true → p q ≡ k)
    → list_any (same q) (filter p xs) ≡ (p q && list_any (same q) xs) → list_any (same q) (if k then x ∷ filter p xs else filter p xs) ≡ (p q && (s || list_any (same q) xs))
any_step same p q x xs true true e g ih = rw (e, g refl) refl
any_step same p q x xs true false e g ih = ih ∙ rw (g refl) refl
any_step same p q x xs false true e g ih = rw e ih
any_step same p q x xs false false e g ih = ih

-- an item is among those that stay if it is among all and stays
pub any-filter : {A : Type 0} (same : A → A → Bool) → ((a b : A) → same a b ≡ true → a ≡ b) → (p : A → Bool) (q : A) (xs : List A)
    → list_any (same q) (filter p xs) ≡ (p q && list_any (same q) xs)
any-filter same is p q [] = sym (and_false (p q))
any-filter same is p q (x ∷ xs) = any_step same p q x xs (same q x) (p x) refl (λ e. ap p (is q x e)) (any-filter same is p q xs)

-- if a test finds what is in a list, then after one item is removed from both it finds what is in the rest
pub removed-one : {now was : Origin → Bool} {kept : List Origin} (items : List Origin) (o : Origin) → ((q : Origin) → now q ≡ (not (same_origin o q) && was q)) → ((q : Origin) → was q ≡ is_among q items)
    → kept ≡ filter (λ x. not (same_origin o x)) items → (q : Origin) → now q ≡ is_among q kept
removed-one items o e w k q =
    e q
    ∙ (ap (λ b. not (same_origin o q) && b) (w q)
    ∙ sym (ap (is_among q) k ∙ any-filter same_origin same_origin-is (λ x. not (same_origin o x)) q items))

-- and likewise after those that do not stay are removed from both
pub removed-all : {same : Origin → Origin → Bool} {left kept : List Origin} (keys items : List Origin) → ((q : Origin) → list_any (same q) keys ≡ is_among q items) → ((a b : Origin) → same a b ≡ true → same_origin a b ≡ true)
    → (p : Origin → Bool) → left ≡ filter p keys → kept ≡ filter p items → (q : Origin) → list_any (same q) left ≡ is_among q kept
removed-all {same} {left} {kept} keys items e is p l k q =
    ap (list_any (same q)) l
    ∙ (any-filter same (λ a b f. same_origin-is a b (is a b f)) p q keys
    ∙ (ap (λ b. p q && b) (e q)
    ∙ sym (ap (is_among q) k ∙ any-filter same_origin same_origin-is p q items)))

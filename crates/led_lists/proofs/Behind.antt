-- Lists of which a first part came.
use Rattle.std.proofs.Common.{◌≡◌, ℕ, ◌+◌, ◌<◌, ◌≤◌, Bool, true, false, ◌&&◌, if◌then◌else◌, List, [], ◌∷◌, Option, Some, None, length, take, drop, get_or, refl, ap, sym, subst, ◌∙◌, arith, drop-cons, add-one, length-take}
use Rattle.std.proofs.lemmas.List.{take_more}
use Rattle.wire_bytes.specs.declared.origin.Origin.{Origin}
use Rattle.machine_laws.specs.Runs.{History, came, run}
use Rattle.machine_laws.proofs.Come.{came_one_more}
use Rattle.bouncer_tower.specs.Bodies.{TowerBody}
use Rattle.led_lists.specs.declared.leading.Leading.{Leading}
use Rattle.led_lists.specs.Led.{are_led, behind, brought, may_bring, new_leader}

pub came_take_more : (place : ℕ) (xs : List TowerBody) (i : ℕ) (d : TowerBody) (h : History TowerBody) → i < length xs → came place (take (i + 1) xs) h ≡ (i + place, get_or xs i d) ∷ came place (take i xs) h
came_take_more place xs i d h lt =
    let n : place + length (take i xs) ≡ i + place = rw length-take (omega arith) in
    rw (take_more xs i d lt) (came_one_more place (take i xs) (get_or xs i d) h ∙ ap (λ p. (p, get_or xs i d) ∷ came place (take i xs) h) n)

-- the next of these bodies, and those after it
pub next_led : (next : History TowerBody → Option ℕ) (term : ℕ) (client : Origin) (k : Leading) (place : ℕ) (h : History TowerBody) (xs : List TowerBody) (i : ℕ) (d : TowerBody) → i < length xs
    → are_led next term client k place h (drop i xs)
    ≡ (may_bring term client k (next h) (get_or xs i d) && are_led next term client (behind k (get_or xs i d)) (place + 1) ((place, get_or xs i d) ∷ h) (drop (i + 1) xs))
next_led next term client k place h xs i d lt = rw (add-one i, drop-cons xs i d) refl

-- if the machine `before` had an empty history, and the first body and this many of the others came to it, and the
-- leader keeps this after them, then it may bring all the others exactly if it may bring those that are left
abbrev pub Follows : {S X : Type 0} → (X → S → History TowerBody → Type 0) → (S → History TowerBody → Option ℕ) → ℕ → Origin → X → X → TowerBody → Leading → ℕ → List TowerBody → Type 0
Follows {S} stands next term client before now first k i bodies =
    (s : S) → stands before s []
    → stands now s (came 2 (take i bodies) ((1, first) ∷ []))
    × (are_led (next s) term client k (i + 2) (came 2 (take i bodies) ((1, first) ∷ [])) (drop i bodies)
    ≡ are_led (next s) term client new_leader 2 ((1, first) ∷ []) bodies)

some_is : {A : Type 0} (x y : A) → Some x ≡ Some y → x ≡ y
some_is x y e = cc

none_is : {A : Type 0} (x : A) → None ≡ Some x → ⊥
none_is x e = cc

both : (term : ℕ) (client : Origin) (k k' : Leading) (n : Option ℕ) (b : TowerBody) (yes : Bool) → may_bring term client k n b ≡ yes → (if yes then Some (behind k b) else None) ≡ Some k'
    → (may_bring term client k n b ≡ true) × (behind k b ≡ k')
both term client k k' n b true e f = (e, some_is (behind k b) k' f)
both term client k k' n b false e f = absurd (none_is k' f)

-- a body that the leader may bring, with what it keeps then
pub is_brought : (term : ℕ) (client : Origin) (k k' : Leading) (n : Option ℕ) (b : TowerBody) → brought term client k n b ≡ Some k' → (may_bring term client k n b ≡ true) × (behind k b ≡ k')
is_brought term client k k' n b f = both term client k k' n b (may_bring term client k n b) refl f

-- one more of the bodies came, which the leader may bring
pub one_more : (next : History TowerBody → Option ℕ) (term : ℕ) (client : Origin) (k k' : Leading) (first : TowerBody) (xs : List TowerBody) (i : ℕ) (d : TowerBody) (n : Option ℕ) → i < length xs
    → n ≡ next (came 2 (take i xs) ((1, first) ∷ [])) → d ≡ get_or xs i d → (o : Option Leading) → o ≡ brought term client k n d → o ≡ Some k'
    → are_led next term client k' (i + 1 + 2) (came 2 (take (i + 1) xs) ((1, first) ∷ [])) (drop (i + 1) xs)
    ≡ are_led next term client k (i + 2) (came 2 (take i xs) ((1, first) ∷ [])) (drop i xs)
one_more next term client k k' first xs i d n lt en is o by so =
    let h : History TowerBody = came 2 (take i xs) ((1, first) ∷ []) in
    let b : TowerBody = get_or xs i d in
    let f : brought term client k n b ≡ Some k' = subst (λ (x : TowerBody). brought term client k n x ≡ Some k') is (sym by ∙ so) in
    let p : (may_bring term client k n b ≡ true) × (behind k b ≡ k') = is_brought term client k k' n b f in
    let yes : may_bring term client k (next h) b ≡ true = subst (λ (m : Option ℕ). may_bring term client k m b ≡ true) en p.0 in
    let place : i + 2 + 1 ≡ i + 1 + 2 = omega arith in
    sym (
    next_led next term client k (i + 2) h xs i d lt
    ∙ ap (λ (y : Bool). y && are_led next term client (behind k b) (i + 2 + 1) ((i + 2, b) ∷ h) (drop (i + 1) xs)) yes
    ∙ ap (λ (l : Leading). are_led next term client l (i + 2 + 1) ((i + 2, b) ∷ h) (drop (i + 1) xs)) p.1
    ∙ ap (λ (m : ℕ). are_led next term client k' m ((i + 2, b) ∷ h) (drop (i + 1) xs)) place
    ∙ ap (λ (g : History TowerBody). are_led next term client k' (i + 1 + 2) g (drop (i + 1) xs)) (sym (came_take_more 2 xs i d ((1, first) ∷ []) lt)))

-- it came to the machine
pub one_came : (stands : History TowerBody → Type 0) (first : TowerBody) (xs : List TowerBody) (i place : ℕ) (d : TowerBody) → i < length xs → place ≡ i + 2 → d ≡ get_or xs i d
    → stands ((place, d) ∷ came 2 (take i xs) ((1, first) ∷ [])) → stands (came 2 (take (i + 1) xs) ((1, first) ∷ []))
one_came stands first xs i place d lt e f st =
    subst stands (ap (λ (p : ℕ). (p, d) ∷ came 2 (take i xs) ((1, first) ∷ [])) e ∙ ap (λ (b : TowerBody). (i + 2, b) ∷ came 2 (take i xs) ((1, first) ∷ [])) f ∙ sym (came_take_more 2 xs i d ((1, first) ∷ []) lt)) st

-- all bodies came, the first of them first
pub all_came : (xs : List TowerBody) (d : TowerBody) → 1 ≤ length xs → d ≡ get_or xs 0 d → came 2 (drop 1 xs) ((1, d) ∷ []) ≡ run xs
all_came [] d h e = absurd (omega arith)
all_came (x ∷ xs) d h e = ap (λ (b : TowerBody). came 2 xs ((1, b) ∷ [])) e

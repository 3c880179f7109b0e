-- How far a record goes before a ticket, and records whose tickets rise.
use Rattle.std.proofs.Common.{◌≡◌, ℕ, zero, suc, ◌+◌, ◌<◌, ◌≤◌, Bool, true, false, cond, ltb, eqb, List, [], ◌∷◌, ◌++◌, map, take, Option, Some, None, refl, sym, ap, ◌∙◌, subst, arith, lt-ltb, le-ltb, ltb-true, ltb-false}
use mathlib.Core.Option.{some, some-injective, some-ne-none}
use lib.ListN.{get_elem?}
use Rattle.raft_log.specs.Node.{Node}
use Rattle.world_views.specs.declared.node_event.NodeEvent.{NodeEvent}
use Rattle.world_views.specs.Views.{Ticketed, upto, Rises, RisesFrom, OpenedAt}
use Rattle.world_views.specs.Merged.{turns_of, turn_of, AreInOrder}

module _ {B L T : Type 0} where
  more_by : (d d' : ℕ) (t : Ticketed B L T) (ts : List (Ticketed B L T)) → d ≤ d' → (more : List (Ticketed B L T)) × (upto d' ts ≡ upto d ts ++ more) → (b : Bool) → ltb t.0 d ≡ b → (more : List (Ticketed B L T)) × (upto d' (t ∷ ts) ≡ cond b (t ∷ upto d ts) [] ++ more)
  more_by d d' t ts le r true e = let lt : t.0 < d = ltb-true t.0 d e in let lt' : t.0 < d' = omega arith in
      (r.0, ap (λ (c : Bool). cond c (t ∷ upto d' ts) []) (lt-ltb t.0 d' lt') ∙ ap (λ (l : List (Ticketed B L T)). t ∷ l) r.1)
  more_by d d' t ts le r false e = (upto d' (t ∷ ts), refl)

  -- a later ticket sees no fewer turns
  pub upto_more : (d d' : ℕ) (ts : List (Ticketed B L T)) → d ≤ d' → (more : List (Ticketed B L T)) × (upto d' ts ≡ upto d ts ++ more)
  upto_more d d' [] le = ([], refl)
  upto_more d d' (t ∷ ts) le = more_by d d' t ts le (upto_more d d' ts le) (ltb t.0 d) refl

  -- a turn at a later ticket is not seen
  pub upto_before : (d t : ℕ) (e : NodeEvent B L T) (ts : List (Ticketed B L T)) → d ≤ t → upto d (ts ++ (t, e) ∷ []) ≡ upto d ts
  upto_before d t e [] le = ap (λ (c : Bool). cond c ((t, e) ∷ []) []) (le-ltb t d le)
  upto_before d t e (u ∷ us) le = ap (λ (l : List (Ticketed B L T)). cond (ltb u.0 d) (u ∷ l) []) (upto_before d t e us le)

  -- if every ticket is below d, every turn is seen
  pub upto_all : (d : ℕ) (ts : List (Ticketed B L T)) → ((k t : ℕ) (v : NodeEvent B L T) → get_elem? ts k ≡ some (t, v) → t < d) → upto d ts ≡ ts
  upto_all d [] all = refl
  upto_all d (u ∷ us) all = ap (λ (c : Bool). cond c (u ∷ upto d us) []) (lt-ltb u.0 d (all 0 u.0 u.1 refl)) ∙ ap (λ (l : List (Ticketed B L T)). u ∷ l) (upto_all d us (λ k t v h. all (suc k) t v h))

  pub upto_zero : (ts : List (Ticketed B L T)) → upto 0 ts ≡ []
  upto_zero [] = refl
  upto_zero (t ∷ ts) = ap (λ (b : Bool). cond b (t ∷ upto 0 ts) []) (le-ltb t.0 0 (omega arith))

  skips : (d : ℕ) (t : Ticketed B L T) (ts : List (Ticketed B L T)) → (t.0 ≡ d → ⊥) → upto (d + 1) ts ≡ upto d ts → (b : Bool) → ltb t.0 d ≡ b → upto (d + 1) (t ∷ ts) ≡ cond b (t ∷ upto d ts) []
  skips d t ts ne same true e = let lt = ltb-true t.0 d e in let lt' : t.0 < d + 1 = omega arith in ap (λ (b : Bool). cond b (t ∷ upto (d + 1) ts) []) (lt-ltb t.0 (d + 1) lt') ∙ ap (λ (l : List (Ticketed B L T)). t ∷ l) same
  skips d t ts ne same false e = let ge : d ≤ t.0 = ltb-false t.0 d e in let ge' : d + 1 ≤ t.0 = omega arith in ap (λ (b : Bool). cond b (t ∷ upto (d + 1) ts) []) (le-ltb t.0 (d + 1) ge')

  -- no turn has the ticket d
  pub upto_skips : (d : ℕ) (ts : List (Ticketed B L T)) → ((k : ℕ) (v : NodeEvent B L T) → get_elem? ts k ≡ some (d, v) → ⊥) → upto (d + 1) ts ≡ upto d ts
  upto_skips d [] none = refl
  upto_skips d (t ∷ ts) none = skips d t ts (λ same. none 0 t.1 (ap (λ (n : ℕ). some (n, t.1)) same)) (upto_skips d ts (λ k v h. none (suc k) v h)) (ltb t.0 d) refl

  above : (t : ℕ) (ts : List (Ticketed B L T)) (k u : ℕ) (v : NodeEvent B L T) → Rises t ts → get_elem? ts k ≡ some (u, v) → t < u
  above t [] k u v r h = absurd (some-ne-none (u, v) (sym h))
  above t (x ∷ xs) zero u v r h = let is : x.0 ≡ u = ap (λ (y : Ticketed B L T). y.0) (some-injective x (u, v) h) in let lt = r.0 in omega arith
  above t (x ∷ xs) (suc k) u v r h = let lt = r.0 in let lt' = above x.0 xs k u v r.1 h in omega arith

  none_yet : (d u : ℕ) (ts : List (Ticketed B L T)) → Rises u ts → d ≤ u → upto (d + 1) ts ≡ []
  none_yet d u [] r ge = refl
  none_yet d u (y ∷ ys) r ge = let lt = r.0 in let ge' : d + 1 ≤ y.0 = omega arith in ap (λ (b : Bool). cond b (y ∷ upto (d + 1) ys) []) (le-ltb y.0 (d + 1) ge')

  -- the turn with the ticket d comes next
  pub upto_gains : (t d : ℕ) (ts : List (Ticketed B L T)) (k : ℕ) (v : NodeEvent B L T) → Rises t ts → get_elem? ts k ≡ some (d, v) → upto (d + 1) ts ≡ upto d ts ++ (d, v) ∷ []
  upto_gains t d [] k v r h = absurd (some-ne-none (d, v) (sym h))
  upto_gains t d (x ∷ xs) zero v r h = let same : x ≡ (d, v) = some-injective x (d, v) h in let is : x.0 ≡ d = ap (λ (y : Ticketed B L T). y.0) same in let lt : x.0 < d + 1 = omega arith in let ge : d ≤ x.0 = omega arith in
      ap (λ (b : Bool). cond b (x ∷ upto (d + 1) xs) []) (lt-ltb x.0 (d + 1) lt) ∙ (λ i. same i ∷ none_yet d x.0 xs r.1 ge i) ∙ sym (ap (λ (b : Bool). cond b (x ∷ upto d xs) [] ++ (d, v) ∷ []) (le-ltb x.0 d ge))
  upto_gains t d (x ∷ xs) (suc k) v r h = let lt = above x.0 xs k d v r.1 h in let lt' : x.0 < d + 1 = omega arith in
      ap (λ (b : Bool). cond b (x ∷ upto (d + 1) xs) []) (lt-ltb x.0 (d + 1) lt') ∙ ap (λ (l : List (Ticketed B L T)). x ∷ l) (upto_gains x.0 d xs k v r.1 h) ∙ sym (ap (λ (b : Bool). cond b (x ∷ upto d xs) [] ++ (d, v) ∷ []) (lt-ltb x.0 d lt))

  pub rises_of : (o : Option (ℕ × Node B)) (ts : List (Ticketed B L T)) (k : ℕ) (x : Ticketed B L T) → RisesFrom o ts → get_elem? ts k ≡ some x → (t : ℕ) × Rises t ts
  rises_of None ts k x r h = absurd (some-ne-none x (sym (subst (λ (l : List (Ticketed B L T)). get_elem? l k ≡ some x) r h)))
  rises_of (Some b) ts k x r h = (b.0, r)

  -- no turn has the ticket of the opening
  pub opened_before : (o : Option (ℕ × Node B)) (ts : List (Ticketed B L T)) (d k : ℕ) (v : NodeEvent B L T) → RisesFrom o ts → OpenedAt o d → get_elem? ts k ≡ some (d, v) → ⊥
  opened_before None ts d k v r o h = o
  opened_before (Some b) ts d k v r o h = let lt = above b.0 ts k d v r h in omega arith

  pub rises_snoc : (t : ℕ) (ts : List (Ticketed B L T)) (n : ℕ) (e : NodeEvent B L T) → Rises t ts → t < n → ((k d : ℕ) (v : NodeEvent B L T) → get_elem? ts k ≡ some (d, v) → d < n) → Rises t (ts ++ (n, e) ∷ [])
  rises_snoc t [] n e r lt all = (lt, tt)
  rises_snoc t (u ∷ us) n e r lt all = (r.0, rises_snoc u.0 us n e r.1 (all 0 u.0 u.1 refl) (λ k d v h. all (suc k) d v h))

  pub order_snoc : (ts : List (Ticketed B L T)) (d : ℕ) (e : NodeEvent B L T) → AreInOrder ts → ((k t : ℕ) (v : NodeEvent B L T) → get_elem? ts k ≡ some (t, v) → t < d) → AreInOrder (ts ++ (d, e) ∷ [])
  order_snoc [] d e o below = tt
  order_snoc (t ∷ ts) d e o below = rises_snoc t.0 ts d e o (below 0 t.0 t.1 refl) (λ k u v h. below (suc k) u v h)

  turns_by : (i : ℕ) (x : ℕ × (Ticketed B L T)) (xs ys : List (ℕ × Ticketed B L T)) (b : Bool) → turns_of i (xs ++ ys) ≡ turns_of i xs ++ turns_of i ys → cond b (x.1 ∷ turns_of i (xs ++ ys)) (turns_of i (xs ++ ys)) ≡ cond b (x.1 ∷ turns_of i xs) (turns_of i xs) ++ turns_of i ys
  turns_by i x xs ys true e = ap (λ (l : List (Ticketed B L T)). x.1 ∷ l) e
  turns_by i x xs ys false e = e

  pub turns-append : (i : ℕ) (xs ys : List (ℕ × Ticketed B L T)) → turns_of i (xs ++ ys) ≡ turns_of i xs ++ turns_of i ys
  turns-append i [] ys = refl
  turns-append i (x ∷ xs) ys = turns_by i x xs ys (eqb x.0 i) (turns-append i xs ys)

  -- how many of these events come before a ticket, if they are in order
  abbrev pub early : ℕ → List (ℕ × Ticketed B L T) → ℕ
  early d [] = 0
  early d (e ∷ es) = cond (ltb e.1.0 d) (suc (early d es)) 0

  none_early : (t d i : ℕ) (es : List (ℕ × Ticketed B L T)) → Rises t (map turn_of es) → d ≤ t → upto d (turns_of i es) ≡ []
  none_early t d i [] r le = refl
  none_early t d i (e ∷ es) r le =
      let lt : t < e.1.0 = r.0 in let ge : d ≤ e.1.0 = omega arith in
      by_place (eqb e.0 i) (none_early e.1.0 d i es r.1 ge) (le-ltb e.1.0 d ge)
    where
      by_place : (b : Bool) → upto d (turns_of i es) ≡ [] → ltb e.1.0 d ≡ false → upto d (cond b (e.1 ∷ turns_of i es) (turns_of i es)) ≡ []
      by_place true h k = ap (λ (c : Bool). cond c (e.1 ∷ upto d (turns_of i es)) []) k
      by_place false h k = h

  rises_order : (t : ℕ) (ts : List (Ticketed B L T)) → Rises t ts → AreInOrder ts
  rises_order t [] r = tt
  rises_order t (u ∷ us) r = r.1

  -- a node's turns among them are those before the ticket
  pub take_early : (d i : ℕ) (es : List (ℕ × Ticketed B L T)) → AreInOrder (map turn_of es) → turns_of i (take (early d es) es) ≡ upto d (turns_of i es)
  take_early d i [] o = refl
  take_early d i (e ∷ es) o = by_ticket (take_early d i es (rises_order e.1.0 (map turn_of es) o)) (ltb e.1.0 d) refl
    where
      seen : turns_of i (take (early d es) es) ≡ upto d (turns_of i es) → (b : Bool) → ltb e.1.0 d ≡ true
          → cond b (e.1 ∷ turns_of i (take (early d es) es)) (turns_of i (take (early d es) es)) ≡ upto d (cond b (e.1 ∷ turns_of i es) (turns_of i es))
      seen h true q = ap (λ l. e.1 ∷ l) h ∙ sym (ap (λ (c : Bool). cond c (e.1 ∷ upto d (turns_of i es)) []) q)
      seen h false q = h

      unseen : (b : Bool) → ltb e.1.0 d ≡ false → [] ≡ upto d (cond b (e.1 ∷ turns_of i es) (turns_of i es))
      unseen true q = sym (ap (λ (c : Bool). cond c (e.1 ∷ upto d (turns_of i es)) []) q)
      unseen false q = sym (none_early e.1.0 d i es o (ltb-false e.1.0 d q))

      by_ticket : turns_of i (take (early d es) es) ≡ upto d (turns_of i es) → (b : Bool) → ltb e.1.0 d ≡ b
          → turns_of i (take (cond b (suc (early d es)) 0) (e ∷ es)) ≡ upto d (cond (eqb e.0 i) (e.1 ∷ turns_of i es) (turns_of i es))
      by_ticket h true q = seen h (eqb e.0 i) q
      by_ticket h false q = unseen (eqb e.0 i) q

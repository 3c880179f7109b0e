-- The slots: what has which, after each kind of step.
use Rattle.std.proofs.Common.{◌≡◌, ◌≢◌, ℕ, ◌+◌, ◌*◌, ◌<◌, ◌≤◌, ⊎_elim, Bool, cond, eqb, List, length, set, Option, Some, None, refl, sym, ap, ◌∙◌, subst, arith, eq-eqb, ne_eqb, length-set, mul-le-mul_right}
use mathlib.Core.Option.{some, some-injective, some-ne-none}
use mathlib.Core.Option as maybe
use lib.ListN.{get_elem?}
use Rattle.atomic_table.specs.Table.{State}
use Rattle.atomic_table.proofs.Lists.{at_set, set_else}
use Rattle.raft_node.specs.Machine.{Machine}
use Rattle.world_views.specs.declared.envelope.Envelope.{Envelope}
use Rattle.world_views.specs.Own.{ViewOf}
use Rattle.world_views.specs.Rule.{Stands}
use Rattle.ether.specs.Rule.{Spare, Known, Owner, Holds, IsMarked, MayLie, IsStowed, slot_of}
use Rattle.ether.specs.Rule.Spare.{Bank, Home, Out, Gone}
use Rattle.ether.specs.Rule.Owner.{mailbox, seat}
use Rattle.ether.proofs.Changing.{below_length}

pub mailbox-ne-seat : (a id : ℕ) → mailbox a ≡ seat id → ⊥
mailbox-ne-seat a id e = cc

pub seat-injective : (a b : ℕ) → seat a ≡ seat b → a ≡ b
seat-injective a b e = cc

pub mailbox-injective : (a b : ℕ) → mailbox a ≡ mailbox b → a ≡ b
mailbox-injective a b e = cc

-- there are fewer slots than the mark
pub few_slots : (n : ℕ) → n < 8 → n * n + n < 64
few_slots n few =
    let le : n ≤ 7 = omega arith in
    let m : n * n ≤ 7 * n = mul-le-mul_right n le in
    omega arith

-- so a slot's number as a word, with the mark or with none, is of this slot
pub slot_unmarked : (k : ℕ) → k < 64 → k ≡ slot_of k
slot_unmarked k low = omega arith

pub slot_marked : (k : ℕ) → k < 64 → k ≡ slot_of (k + 64)
slot_marked k low = omega arith

-- a seat's slots are unchanged
pub holds_same : {B : Type 0} (owner owner' : ℕ → Owner) (homes homes' : List (maybe.Option (Option (Envelope B)))) (id : ℕ) → length homes' ≡ length homes
    → ((i : ℕ) → i < length homes → owner i ≡ seat id → (owner' i ≡ seat id) × (get_elem? homes' i ≡ get_elem? homes i))
    → (x : Spare) → Holds owner homes id x → Holds owner' homes' id x
holds_same owner owner' homes homes' id long same (Bank k) h =
    λ j le lt.
    let lt' : j < length homes = omega arith in
    let r = h j le lt' in
    let s = same j lt' r.0 in
    (s.0, s.1 ∙ r.1)
holds_same owner owner' homes homes' id long same (Home k) h =
    let s = same k (below_length homes k (some None) h.1) h.0 in
    (s.0, s.1 ∙ h.1)
holds_same owner owner' homes homes' id long same (Out k) h =
    let lt = h.1 in
    let s = same k lt h.0 in
    (s.0, omega arith)
holds_same owner owner' homes homes' id long same Gone h = tt

module _ (M : Machine) where
  abbrev pub SeatOf : Type 0
  SeatOf = Known M.Body M.Line M.Target

  abbrev pub SlotOf : Type 0
  SlotOf = Option (Envelope M.Body)

  abbrev pub HomesOf : Type 0
  HomesOf = List (maybe.Option (Option (Envelope M.Body)))

  abbrev pub StateOf : Type 0
  StateOf = State (Option (Envelope M.Body)) (Known M.Body M.Line M.Target)

  pub lies_still : (n : ℕ) (vs vs' : List (ViewOf M)) (next next' a : ℕ) → ((e : Envelope M.Body) → Stands M vs next e → Stands M vs' next' e)
      → (y : SlotOf) → MayLie M n vs next a y → MayLie M n vs' next' a y
  lies_still n vs vs' next next' a still None h = tt
  lies_still n vs vs' next next' a still (Some e) h = (still e h.0, h.1, h.2, h.3)

module _ (M : Machine) (n next next' : ℕ) (vs vs' : List (ViewOf M)) (s : StateOf M) (r : IsStowed M n next vs s) (still : (e : Envelope M.Body) → Stands M vs next e → Stands M vs' next' e) where
  -- word 0 changes, and no slot changes hands
  pub stays : (id x : ℕ) (v w : SeatOf M) → get_elem? s.views id ≡ some v → w.spare ≡ v.spare → IsStowed M n next' vs' record { words = set s.words 0 x; homes = s.homes; views = set s.views id w }
  stays id x v w at same =
      record {
        owner = r.owner;
        boxes = λ a k pos h.
            let o = r.boxes a k pos (sym (set_else s.words 0 a x (λ z. omega arith)) ∙ h) in
            (o.0, (o.1.0, o.1.1, lies_still M n vs vs' next next' a still o.1.0 o.1.2, o.1.3));
        spares = λ j u h. ⊎_elim
            (λ (here : (j ≡ id) × (w ≡ u)). subst (λ (i : ℕ). Holds r.owner s.homes i u.spare) (sym here.0) (subst (Holds r.owner s.homes id) (sym same ∙ ap (λ (z : SeatOf M). z.spare) here.1) (r.spares id v at)))
            (λ (there : (j ≢ id) × (get_elem? s.views j ≡ some u)). r.spares j u there.1) (at_set s.views id j w u h);
      }

  -- word 0 changes, and the seat takes its spare out
  pub takes_out : (id x k : ℕ) (v w : SeatOf M) → get_elem? s.views id ≡ some v → v.spare ≡ Home k → w.spare ≡ Out k
      → IsStowed M n next' vs' record { words = set s.words 0 x; homes = set s.homes k maybe.none; views = set s.views id w }
  takes_out id x k v w at was is =
      let mine : Holds r.owner s.homes id (Home k) = subst (Holds r.owner s.homes id) was (r.spares id v at) in
      let near : k < length s.homes = below_length s.homes k (some None) mine.1 in
      let long : length (set s.homes k maybe.none) ≡ length s.homes = length-set s.homes k maybe.none in
      record {
        owner = r.owner;
        boxes = λ a i pos h.
            let o = r.boxes a i pos (sym (set_else s.words 0 a x (λ z. omega arith)) ∙ h) in
            (o.0, (o.1.0, set_else s.homes k (slot_of i) maybe.none (λ e. mailbox-ne-seat a id (sym o.0 ∙ ap r.owner e ∙ mine.0)) ∙ o.1.1, lies_still M n vs vs' next next' a still o.1.0 o.1.2, o.1.3));
        spares = λ j u h. ⊎_elim
            (λ (here : (j ≡ id) × (w ≡ u)). subst (λ (i : ℕ). Holds r.owner (set s.homes k maybe.none) i u.spare) (sym here.0)
            (subst (Holds r.owner (set s.homes k maybe.none) id) (sym is ∙ ap (λ (z : SeatOf M). z.spare) here.1) (mine.0, omega arith)))
            (λ (there : (j ≢ id) × (get_elem? s.views j ≡ some u)). holds_same r.owner r.owner s.homes (set s.homes k maybe.none) j long
            (λ i lt o. (o, set_else s.homes k i maybe.none (λ e. there.0 (seat-injective j id (sym o ∙ ap r.owner e ∙ mine.0))))) u.spare (r.spares j u there.1))
            (at_set s.views id j w u h);
      }

  -- the seat's slot k, with y in it, is swapped by the word x for the slot of the word that mailbox a has
  pub swaps : (id a k x word : ℕ) (y : SlotOf M) (homes : HomesOf M) (v w : SeatOf M) → 0 < a → get_elem? s.words a ≡ some word → get_elem? s.views id ≡ some v → r.owner k ≡ seat id → w.spare ≡ Out (slot_of word)
      → get_elem? homes k ≡ some (some y) → ((i : ℕ) → i ≢ k → get_elem? homes i ≡ get_elem? s.homes i) → length homes ≡ length s.homes → MayLie M n vs' next' a y
      → k ≡ slot_of x → IsMarked x y → IsStowed M n next' vs' record { words = set s.words a x; homes = set homes (slot_of word) maybe.none; views = set s.views id w }
  swaps id a k x word y homes v w pos there at mine is here others long lies of mark =
      let f : ℕ = slot_of word in
      let lay = r.boxes a word pos there in
      let apart : k ≢ f = (λ e. mailbox-ne-seat a id (sym lay.0 ∙ ap r.owner (sym e) ∙ mine)) in
      let owner' : ℕ → Owner = λ i. cond (eqb i f) (seat id) (cond (eqb i k) (mailbox a) (r.owner i)) in
      let at_f : owner' f ≡ seat id = ap (λ (b : Bool). cond b (seat id) (cond (eqb f k) (mailbox a) (r.owner f))) (eq-eqb f f refl) in
      let at_k : owner' k ≡ mailbox a = ap (λ (b : Bool). cond b (seat id) (cond (eqb k k) (mailbox a) (r.owner k))) (ne_eqb k f apart) ∙ ap (λ (b : Bool). cond b (mailbox a) (r.owner k)) (eq-eqb k k refl) in
      let at_other : (i : ℕ) → i ≢ f → i ≢ k → owner' i ≡ r.owner i =
      (λ i nf nk. ap (λ (b : Bool). cond b (seat id) (cond (eqb i k) (mailbox a) (r.owner i))) (ne_eqb i f nf) ∙ ap (λ (b : Bool). cond b (mailbox a) (r.owner i)) (ne_eqb i k nk))
      in
      let long' : length (set homes f maybe.none) ≡ length s.homes = length-set homes f maybe.none ∙ long in
      let near : f < length s.homes = below_length s.homes f (some lay.1.0) lay.1.1 in
      record {
        owner = owner';
        boxes = λ b i up h. ⊎_elim
            (λ (same : (b ≡ a) × (x ≡ i)). subst (λ (z : ℕ × ℕ). (owner' (slot_of z.1) ≡ mailbox z.0) × ((u : SlotOf M) × (get_elem? (set homes f maybe.none) (slot_of z.1) ≡ some (some u)) × MayLie M n vs' next' z.0 u × IsMarked z.1 u)) (λ d. (sym same.0 d, same.1 d))
            (subst (λ (j : ℕ). (owner' j ≡ mailbox a) × ((u : SlotOf M) × (get_elem? (set homes f maybe.none) j ≡ some (some u)) × MayLie M n vs' next' a u × IsMarked x u)) of
            (at_k, (y, set_else homes f k maybe.none apart ∙ here, lies, mark))))
            (λ (other : (b ≢ a) × (get_elem? s.words b ≡ some i)).
            let o = r.boxes b i up other.1 in
            let j : ℕ = slot_of i in
            let nf : j ≢ f = (λ e. other.0 (mailbox-injective b a (sym o.0 ∙ ap r.owner e ∙ lay.0))) in
            let nk : j ≢ k = (λ e. mailbox-ne-seat b id (sym o.0 ∙ ap r.owner e ∙ mine)) in
            (at_other j nf nk ∙ o.0, (o.1.0, set_else homes f j maybe.none nf ∙ others j nk ∙ o.1.1, lies_still M n vs vs' next next' b still o.1.0 o.1.2, o.1.3)))
            (at_set s.words a b x i h);
        spares = λ j u h. ⊎_elim
            (λ (same : (j ≡ id) × (w ≡ u)). subst (λ (i : ℕ). Holds owner' (set homes f maybe.none) i u.spare) (sym same.0)
            (subst (Holds owner' (set homes f maybe.none) id) (sym is ∙ ap (λ (z : SeatOf M). z.spare) same.1) (at_f, omega arith)))
            (λ (other : (j ≢ id) × (get_elem? s.views j ≡ some u)). holds_same r.owner owner' s.homes (set homes f maybe.none) j long'
            (λ i lt o.
            let nf : i ≢ f = (λ e. mailbox-ne-seat a j (sym lay.0 ∙ ap r.owner (sym e) ∙ o)) in
            let nk : i ≢ k = (λ e. other.0 (seat-injective j id (sym o ∙ ap r.owner e ∙ mine))) in
            (at_other i nf nk ∙ o, set_else homes f i maybe.none nf ∙ others i nk)) u.spare (r.spares j u other.1))
            (at_set s.views id j w u h);
      }

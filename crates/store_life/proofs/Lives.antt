-- Periods one after the other: no line is handed upstream twice.
use Rattle.std.proofs.Common.{◌≡◌, ℕ, zero, suc, ◌+◌, ◌-◌, ◌<◌, ◌≤◌, ◌⊎◌, inl, inr, ⊎_elim, List, [], ◌∷◌, ◌++◌, map, length, drop, slice_get, Some, refl, sym, ap, ◌∙◌, arith}
use Rattle.irc_line.specs.Lines.{Parts}
use Rattle.machine_laws.specs.Runs as machine
use Rattle.bouncer_tower.specs.Bodies.{outgoing}
use Rattle.raft_node.specs.Machine.{history}
use Rattle.world_views.specs.Laws.{AllDiffer}
use Rattle.renewal.specs.Lists.{settled, settling}
use Rattle.store_life.specs.Periods.{HandsItsLines, IsLife, NoneHandedTwice, Period, SerialsGoOn, WaitingLinesGoOn, base_behind, claimed_after, claimed_before, handed_in, handed_over, serial}
use Rattle.store_life.proofs.Claims.{lines_stay_at, settled_claims}
use Rattle.store_life.proofs.Opened.{made_at}
use Rattle.store_life.proofs.Periods.{hands_its_lines}

-- the items after a place
behind_place : {A : Type 0} (c : ℕ) (xs : List A) (k : ℕ) → slice_get (drop c xs) k ≡ slice_get xs (c + k)
behind_place zero xs k = let e : k ≡ 0 + k = omega arith in ap (slice_get xs) e
behind_place (suc c) [] k = refl
behind_place (suc c) (x ∷ xs) k = let e : suc (c + k) ≡ suc c + k = omega arith in behind_place c xs k ∙ ap (slice_get (x ∷ xs)) e

pub waiting_lines_go_on : WaitingLinesGoOn
waiting_lines_go_on p q f =
    record {
      claims = settled_claims p.settings f.floors (history p.chosen);
      stay = λ i line at. lines_stay_at p.settings 0 (settling f.floors) (history p.chosen) i line at;
      go_on = λ k.
          let xs = outgoing p.settings (settled f.floors (history p.chosen)) in
          sym (behind_place (claimed_before q) (outgoing q.settings (machine.run q.begun)) k)
          ∙ ap (λ (l : List Parts). slice_get l k) f.waits
          ∙ ap (λ (n : ℕ). slice_get (drop n xs) k) (ap length (settled_claims p.settings f.floors (history p.chosen)))
          ∙ behind_place (claimed_after p) xs k;
    }

pub serials_go_on : SerialsGoOn
serials_go_on p q base k a =
    let h : HandsItsLines p = hands_its_lines p a in
    let up : claimed_before p ≤ claimed_after p = h.grows in
    omega (arith, up)

-- a place in two lists joined is one in either
pub split : {A : Type 0} (xs ys : List A) (i : ℕ) (x : A) → slice_get (xs ++ ys) i ≡ Some x → (slice_get xs i ≡ Some x) ⊎ ((j : ℕ) × (i ≡ length xs + j) × (slice_get ys j ≡ Some x))
split [] ys i x e = inr (i, omega arith, e)
split (y ∷ xs) ys zero x e = inl e
split (y ∷ xs) ys (suc i) x e = ⊎_elim (λ a. inl a) (λ b. inr (b.0, omega (arith, b.1), b.2)) (split xs ys i x e)

-- these numbers are within, and those above
abbrev AreWithin : ℕ → List (ℕ × Parts) → Type 0
AreWithin k lines = (i n : ℕ) (line : Parts) → slice_get lines i ≡ Some (n, line) → n ≤ k

abbrev AreAbove : ℕ → List (ℕ × Parts) → Type 0
AreAbove k lines = (i n : ℕ) (line : Parts) → slice_get lines i ≡ Some (n, line) → k < n

differ_joined : (k : ℕ) (xs ys : List (ℕ × Parts)) → AllDiffer xs → AllDiffer ys → AreWithin k xs → AreAbove k ys → AllDiffer (xs ++ ys)
differ_joined k xs ys dx dy low high i j n one other a b =
    ⊎_elim
    (λ x. ⊎_elim (λ y. dx i j n one other x y) (λ y. absurd (let l : n ≤ k = low i n one x in let h : k < n = high y.0 n other y.2 in omega arith)) (split xs ys j (n, other) b))
    (λ x. ⊎_elim (λ y. absurd (let l : n ≤ k = low j n other y in let h : k < n = high x.0 n one x.2 in omega arith))
    (λ y. let e : x.0 ≡ y.0 = dy x.0 y.0 n one other x.2 y.2 in omega (arith, x.1, y.1, e)) (split xs ys j (n, other) b))
    (split xs ys i (n, one) a)

above_joined : (k : ℕ) (xs ys : List (ℕ × Parts)) → AreAbove k xs → AreAbove k ys → AreAbove k (xs ++ ys)
above_joined k xs ys a b i n line at = ⊎_elim (λ x. a i n line x) (λ y. b y.0 n line y.2) (split xs ys i (n, line) at)

module _ (p : Period) (base : ℕ) (h : HandsItsLines p) where
  -- the lines of a period by their serials
  abbrev here : List (ℕ × Parts)
  here = map (λ l. (serial base p l.0, l.1)) (handed_in p)

  -- one of them is a line of the period
  line_at : (i n : ℕ) (line : Parts) → slice_get here i ≡ Some (n, line) → (m : ℕ) × (slice_get (handed_in p) i ≡ Some (m, line)) × (base + (m - claimed_before p) ≡ n) × (claimed_before p < m)
  line_at i n line at =
      let r = made_at (λ (l : ℕ × Parts). (serial base p l.0, l.1)) (handed_in p) i (n, line) at in
      let number : base + (r.0.0 - claimed_before p) ≡ n = ap (λ (x : ℕ × Parts). x.0) r.2 in
      let same : r.0.1 ≡ line = ap (λ (x : ℕ × Parts). x.1) r.2 in
      let there : slice_get (handed_in p) i ≡ Some (r.0.0, line) = r.1 ∙ ap (λ (x : Parts). Some (r.0.0, x)) same in
      (r.0.0, there, number, h.above i r.0.0 line there)

  here_above : AreAbove base here
  here_above i n line at = let r = line_at i n line at in omega (arith, r.2, r.3)

  here_within : AreWithin (base_behind base p) here
  here_within i n line at = let r = line_at i n line at in let low : r.0 ≤ claimed_after p = h.within i r.0 line r.1 in omega (arith, r.2, r.3, low)

  here_differ : AllDiffer here
  here_differ i j n one other a b =
      let x = line_at i n one a in
      let y = line_at j n other b in
      let same : y.0 ≡ x.0 = omega (arith, x.2, x.3, y.2, y.3) in
      h.differ i j x.0 one other x.1 (y.1 ∙ ap (λ (m : ℕ). Some (m, other)) same)

-- all lines of periods that all hand their own
abbrev pub AllHand : List Period → Type 0
AllHand [] = Unit {0}
AllHand (p ∷ later) = HandsItsLines p × AllHand later

life_above : (base : ℕ) (periods : List Period) → AllHand periods → AreAbove base (handed_over base periods)
life_above base [] a = λ i n line at. absurd (cc at)
life_above base (p ∷ later) a =
    above_joined base (here p base a.0) (handed_over (base_behind base p) later) (here_above p base a.0)
    (λ i n line at. let h : base_behind base p < n = life_above (base_behind base p) later a.1 i n line at in omega arith)

life_differs : (base : ℕ) (periods : List Period) → AllHand periods → AllDiffer (handed_over base periods)
life_differs base [] a = λ i j n one other x y. absurd (cc x)
life_differs base (p ∷ later) a =
    differ_joined (base_behind base p) (here p base a.0) (handed_over (base_behind base p) later) (here_differ p base a.0) (life_differs (base_behind base p) later a.1)
    (here_within p base a.0) (life_above (base_behind base p) later a.1)

pub all_hand : (periods : List Period) → IsLife periods → AllHand periods
all_hand [] l = tt
all_hand (p ∷ []) l = (hands_its_lines p l, tt)
all_hand (p ∷ q ∷ later) l = (hands_its_lines p l.0, all_hand (q ∷ later) l.2)

pub none_handed_twice : NoneHandedTwice
none_handed_twice periods l = life_differs 0 periods (all_hand periods l)

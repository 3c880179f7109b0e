-- A pass that knows its view.
use Rattle.std.proofs.Common.{◌≡◌, ℕ, suc, pred, ◌+◌, ◌-◌, ◌*◌, ◌<◌, ◌≤◌, ⊎_elim, Bool, true, false, List, [], ◌∷◌, ◌++◌, length, take, drop, get_or, Option, Some, None, refl, sym, ap, ◌∙◌, subst, arith}
use mathlib.Core.Option.{some}
use lib.ListN.{get_elem?}
use Rattle.atomic_table.specs.Seated.{TableId}
use Rattle.atomic_table.specs.Table.{Me, rest}
use Rattle.raft_log.specs.Node.{Node}
use Rattle.world_views.specs.declared.envelope.Envelope.{Envelope}
use Rattle.world_views.specs.Views.{View}
use Rattle.ether.specs.declared.pass.Pass.{Pass}
use Rattle.ether.specs.Rule.{Known, Look, blank, blanks, known, look_at}
use Rattle.ether.specs.Rule.Spare.{Bank, Home, Out}
use Rattle.ether.specs.Plays.{IsOlder, after_post, after_take, bank_after, carrying, dealt, first_part, holding, number_in, on_first, rest_part}
use Rattle.ether.specs.Passes.{AreNewAt, IsOpen, IsPassAt, IsSamePass, first_or, looks_of, view_of}
use Rattle.ether.proofs.Knowing.{at_end}

abbrev slot_in : {B : Type 0} → List (ℕ × Option (Envelope B)) → Option (Envelope B)
slot_in [] = None
slot_in (c ∷ cs) = c.1

module _ {B L T : Type 0} where
  view_held : (out : Bool) (k : ℕ) (ls : List (Look B)) (v : View B L T) → first_or (blank 0 0) (holding out k ls v).0.views ≡ v
  view_held true k ls v = refl
  view_held false k ls v = refl

  looks_held : (out : Bool) (k : ℕ) (ls : List (Look B)) (v : View B L T) → (holding out k ls v).0.looks ≡ ls
  looks_held true k ls v = refl
  looks_held false k ls v = refl

  pub view_is : (p : Pass B L T) (out : Bool) (ls : List (Look B)) (v : View B L T) → p.seat.me ≡ holding out p.spare ls v → view_of p ≡ v
  view_is p out ls v is = ap (λ (m : Me (Option (Envelope B)) (Known B L T)). first_or (blank 0 0) m.0.views) is ∙ view_held out p.spare ls v

  pub looks_are : (p : Pass B L T) (out : Bool) (ls : List (Look B)) (v : View B L T) → p.seat.me ≡ holding out p.spare ls v → looks_of p ≡ ls
  looks_are p out ls v is = ap (λ (m : Me (Option (Envelope B)) (Known B L T)). m.0.looks) is ∙ looks_held out p.spare ls v

  me_is : (p : Pass B L T) (out : Bool) (ls : List (Look B)) (v : View B L T) → p.seat.me ≡ holding out p.spare ls v → p.seat.me ≡ holding out p.spare (looks_of p) (view_of p)
  me_is p out ls v is = is ∙ (λ d. holding out p.spare (sym (looks_are p out ls v is) d) (sym (view_is p out ls v is) d))

  pub is_pass : (t : TableId) (n : ℕ) (p : Pass B L T) (out : Bool) (ls : List (Look B)) (v : View B L T) → p.seat.me ≡ holding out p.spare ls v → p.seat.table_id ≡ t → v.node ≡ p.node
      → p.node < n → p.spare < 64 → v.size ≡ n → p.ticks ≡ length v.turns → p.ticks ≤ 1152921504606846976 → IsPassAt t n p
  is_pass t n p out ls v is table node near slot size ticks few =
      let same = view_is p out ls v is in
      record {
        of_table = table;
        out = out;
        me = me_is p out ls v is;
        node = ap (λ (x : View B L T). x.node) same ∙ node;
        near = near;
        slot = slot;
        many = ap (λ (x : View B L T). x.size) same ∙ size;
        ticks = ticks ∙ ap (λ (x : View B L T). length x.turns) (sym same);
        few = few;
      }

  pub is_open : (p : Pass B L T) (ls : List (Look B)) (v : View B L T) (b : ℕ × Node B) → p.seat.me ≡ holding true p.spare ls v → v.opened ≡ Some b → IsOpen p
  is_open p ls v b is opened = ((b, ap (λ (x : View B L T). x.opened) (view_is p true ls v is) ∙ opened), me_is p true ls v is)

  -- a pass whose seat knows and holds the same is the same
  pub same_pass : (t : TableId) (n : ℕ) (p q : Pass B L T) → IsPassAt t n p → q.seat.me ≡ p.seat.me → q.seat.table_id ≡ t → q.node ≡ p.node → q.spare ≡ p.spare → q.ticks ≡ p.ticks
      → IsPassAt t n q × IsSamePass p q
  same_pass t n p q is me table node spare ticks =
      let view : view_of q ≡ view_of p = ap (λ (m : Me (Option (Envelope B)) (Known B L T)). first_or (blank 0 0) m.0.views) me in
      let looks : looks_of q ≡ looks_of p = ap (λ (m : Me (Option (Envelope B)) (Known B L T)). m.0.looks) me in
      let held : (out : Bool) → p.seat.me ≡ holding out p.spare (looks_of p) (view_of p) → q.seat.me ≡ holding out q.spare (looks_of q) (view_of q) =
      (λ out h. me ∙ h ∙ (λ d. holding out (sym spare d) (sym looks d) (sym view d))) in
      let few = is.few in (
        record {
          of_table = table;
          out = is.out;
          me = held is.out is.me;
          node = ap (λ (x : View B L T). x.node) view ∙ is.node ∙ sym node;
          near = subst (λ (i : ℕ). i < n) (sym node) is.near;
          slot = subst (λ (k : ℕ). k < 64) (sym spare) is.slot;
          many = ap (λ (x : View B L T). x.size) view ∙ is.many;
          ticks = ticks ∙ is.ticks ∙ ap (λ (x : View B L T). length x.turns) (sym view);
          few = omega arith;
        },
        (view, looks, node, λ o. ((o.0.0, ap (λ (x : View B L T). x.opened) view ∙ o.0.1), held true o.1)),
      )

  pub new_pass : (t : TableId) (n : ℕ) (p : Pass B L T) (i : ℕ) → p.seat.me ≡ holding false p.spare [] (blank n i) → p.seat.table_id ≡ t → i ≡ p.node → p.node < n → p.spare < 64 → p.ticks ≡ 0
      → IsPassAt t n p × (p.node ≡ i) × (view_of p ≡ blank n i) × (looks_of p ≡ [])
  new_pass t n p i is table node near slot ticks =
      (is_pass t n p false [] (blank n i) is table node near slot refl ticks (omega arith), sym node, view_is p false [] (blank n i) is, looks_are p false [] (blank n i) is)

  pub one_more : (t : TableId) (n : ℕ) (ps : List (Pass B L T)) (p : Pass B L T) → AreNewAt t n ps → IsPassAt t n p × (p.node ≡ length ps) × (view_of p ≡ blank n (length ps)) × (looks_of p ≡ [])
      → AreNewAt t n (ps ++ p ∷ [])
  one_more t n ps p are is i q e =
      ⊎_elim (are i q)
      (λ (x : (i ≡ length ps) × (p ≡ q)). subst (λ (y : ℕ × Pass B L T). IsPassAt t n y.1 × (y.1.node ≡ y.0) × (view_of y.1 ≡ blank n y.0) × (looks_of y.1 ≡ [])) (λ k. (sym x.0 k, x.1 k)) is) (at_end ps p q i e)

  -- the blanks from i on: the first, and the rest
  first_blank : (s i n m : ℕ) (vs : List (View B L T)) → n ≡ suc m → vs ≡ blanks s i n → take 1 vs ≡ blank s i ∷ []
  first_blank s i n m vs e is = ap (λ (xs : List (View B L T)). take 1 xs) is ∙ ap (λ (k : ℕ). take 1 (blanks s i k)) e

  rest_blanks : (s i n m : ℕ) (vs : List (View B L T)) → n ≡ suc m → vs ≡ blanks s i n → drop 1 vs ≡ blanks s (i + 1) m
  rest_blanks s i n m vs e is = ap (λ (xs : List (View B L T)). drop 1 xs) is ∙ ap (λ (k : ℕ). drop 1 (blanks s i k)) e

  -- what a deal of node i leaves: the seat is the node's, and the new seat deals on
  pub dealt_seat : (n i : ℕ) (old new : Me (Option (Envelope B)) (Known B L T)) → i < n → old ≡ (known (Bank (n * n + i)) [] (blanks n i (n - i)), []) → new ≡ (first_part 1 (dealt old.0.spare) old.0, old.1)
      → new ≡ holding false (n * n + i) [] (blank n i)
  dealt_seat n i old new lt is e =
      let m : n - i ≡ suc (n - (i + 1)) = omega arith in
      e ∙ ap (λ (x : Me (Option (Envelope B)) (Known B L T)). (first_part 1 (dealt x.0.spare) x.0, x.1)) is ∙ ap (λ (vs : List (View B L T)). (known (Home (n * n + i)) [] vs, [])) (first_blank n i (n - i) (n - (i + 1)) (blanks n i (n - i)) m refl)

  pub dealt_rest : (n i : ℕ) (old new : Me (Option (Envelope B)) (Known B L T)) → i < n → old ≡ (known (Bank (n * n + i)) [] (blanks n i (n - i)), []) → new ≡ (rest_part 1 (bank_after old.0.spare) old.0, [])
      → new ≡ (known (Bank (n * n + (i + 1))) [] (blanks n (i + 1) (n - (i + 1))), [])
  dealt_rest n i old new lt is e =
      let m : n - i ≡ suc (n - (i + 1)) = omega arith in
      let k : n * n + i + 1 ≡ n * n + (i + 1) = omega arith in
      e ∙ ap (λ (x : Me (Option (Envelope B)) (Known B L T)). (rest_part 1 (bank_after x.0.spare) x.0, [])) is ∙ (λ d. (known (Bank (k d)) [] (rest_blanks n i (n - i) (n - (i + 1)) (blanks n i (n - i)) m refl d), []))

  take_keeps : (v : View B L T) (y : Option (Envelope B)) → ((after_take v y).node ≡ v.node) × ((after_take v y).size ≡ v.size) × ((after_take v y).turns ≡ v.turns) × ((after_take v y).opened ≡ v.opened)
  take_keeps v None = (refl, refl, refl, refl)
  take_keeps v (Some e) = (refl, refl, refl, refl)

  took_by : (out : Bool) (k r w : ℕ) (ls : List (Look B)) (v : View B L T) (y : Option (Envelope B)) (m m' : Me (Option (Envelope B)) (Known B L T)) → m ≡ holding out k ls v
      → m' ≡ (known (Out r) (m.0.looks ++ look_at w y ∷ []) (on_first (λ x. after_take x y) m.0.views), (r, y) ∷ []) → m' ≡ carrying r y (ls ++ look_at w y ∷ []) (after_take v y)
  took_by true k r w ls v y m m' is is' = is' ∙ ap (λ (x : Me (Option (Envelope B)) (Known B L T)). (known (Out r) (x.0.looks ++ look_at w y ∷ []) (on_first (λ z. after_take z y) x.0.views), (r, y) ∷ [])) is
  took_by false k r w ls v y m m' is is' = is' ∙ ap (λ (x : Me (Option (Envelope B)) (Known B L T)). (known (Out r) (x.0.looks ++ look_at w y ∷ []) (on_first (λ z. after_take z y) x.0.views), (r, y) ∷ [])) is

  -- a seat whose slot was emptied
  pub emptied : (r : ℕ) (y out : Option (Envelope B)) (ls : List (Look B)) (v : View B L T) (m m' : Me (Option (Envelope B)) (Known B L T)) → m ≡ carrying r y ls v → m.1 ≡ (r, out) ∷ rest m.1
      → m' ≡ (m.0, (r, None) ∷ rest m.1) → (m' ≡ holding true r ls v) × (y ≡ out)
  emptied r y out ls v m m' is had is' =
      let slot_is : m.1 ≡ (r, y) ∷ [] → out ≡ y = (λ h. ap slot_in (sym had ∙ h)) in
      (is' ∙ ap (λ (x : Me (Option (Envelope B)) (Known B L T)). (x.0, (r, None) ∷ rest x.1)) is, sym (slot_is (ap (λ (x : Me (Option (Envelope B)) (Known B L T)). x.1) is)))

  -- the slot that was found is carried by the seat
  pub slot_first : (r : ℕ) (y : Option (Envelope B)) (k : Known B L T) (m : Me (Option (Envelope B)) (Known B L T)) → m ≡ (k, (r, y) ∷ []) → m.1 ≡ (r, y) ∷ rest m.1
  slot_first r y k m is = ap (λ (x : Me (Option (Envelope B)) (Known B L T)). x.1) is ∙ sym (ap (λ (x : Me (Option (Envelope B)) (Known B L T)). (r, y) ∷ rest x.1) is)

  -- what came out of the mailbox is older than what was posted
  pub posted_older : (k : ℕ) (ls ls' : List (Look B)) (v : View B L T) (e : Envelope B) (r : ℕ) (y out : Option (Envelope B)) (m m' : Me (Option (Envelope B)) (Known B L T)) → m ≡ carrying k (Some e) ls v
      → m' ≡ (known (Out r) ls' (on_first (λ x. after_post x (number_in m.1)) m.0.views), (r, y) ∷ [])
      → ((k : ℕ) (e : Envelope B) (looks : List (Look B)) (v : View B L T) → m ≡ carrying k (Some e) looks v → IsOlder v e y)
      → m'.1 ≡ (r, out) ∷ rest m'.1 → IsOlder v e out
  posted_older k ls ls' v e r y out m m' is tells older had =
      let same : out ≡ y = ap slot_in (sym had ∙ ap (λ (x : Me (Option (Envelope B)) (Known B L T)). x.1) tells) in
      subst (IsOlder v e) (sym same) (older k e ls v is)

  -- the pass keeps its look, and with it what came out of the mailbox
  pub looked : (q : Pass B L T) (old : List (Look B)) (r w w' : ℕ) (y out : Option (Envelope B)) (k : Known B L T) (m : Me (Option (Envelope B)) (Known B L T)) (c : List (ℕ × Option (Envelope B)))
      → m ≡ (k, (r, y) ∷ []) → k.looks ≡ old ++ look_at w y ∷ [] → w ≡ w' → m.1 ≡ (r, out) ∷ rest m.1 → q.seat.me ≡ (m.0, c) → looks_of q ≡ old ++ look_at w' out ∷ []
  looked q old r w w' y out k m c is adds box had is' =
      let same : y ≡ out = ap slot_in (sym (ap (λ (x : Me (Option (Envelope B)) (Known B L T)). x.1) is) ∙ had) in
      ap (λ (x : Me (Option (Envelope B)) (Known B L T)). x.0.looks) is' ∙ ap (λ (x : Me (Option (Envelope B)) (Known B L T)). x.0.looks) is ∙ adds ∙ (λ d. old ++ look_at (box d) (same d) ∷ [])

  -- a pass after a take that found a message
  pub took_pass : (t : TableId) (n : ℕ) (p q : Pass B L T) (w : ℕ) (y out : Option (Envelope B)) (m m' : Me (Option (Envelope B)) (Known B L T)) → IsPassAt t n p → m ≡ p.seat.me
      → m' ≡ (known (Out q.spare) (m.0.looks ++ look_at w y ∷ []) (on_first (λ x. after_take x y) m.0.views), (q.spare, y) ∷ []) → m'.1 ≡ (q.spare, out) ∷ rest m'.1
      → q.seat.me ≡ (m'.0, (q.spare, None) ∷ rest m'.1) → q.seat.table_id ≡ t → q.node ≡ p.node → q.spare < 64 → q.ticks ≡ p.ticks → IsPassAt t n q × (IsOpen p → IsOpen q)
  took_pass t n p q w y out m m' is kept took had is' table node slot ticks =
      let ls : List (Look B) = looks_of p ++ look_at w y ∷ [] in
      let v : View B L T = after_take (view_of p) y in
      let empty = emptied q.spare y out ls v m' q.seat.me (took_by is.out p.spare q.spare w (looks_of p) (view_of p) y m m' (kept ∙ is.me) took) had is' in
      let same = take_keeps (view_of p) y in
      let few = is.few in (
        is_pass t n q true ls v empty.0 table (same.0 ∙ is.node ∙ sym node) (subst (λ (i : ℕ). i < n) (sym node) is.near) slot (same.1 ∙ is.many) (ticks ∙ is.ticks ∙ ap length (sym same.2)) (omega arith),
        λ o. is_open q ls v o.0.0 empty.0 (same.3 ∙ o.0.1),
      )

  -- a pass after a post that got an empty slot back
  pub posted_pass : (t : TableId) (n : ℕ) (p q : Pass B L T) (w : ℕ) (e : Envelope B) (y : Option (Envelope B)) (m : Me (Option (Envelope B)) (Known B L T)) → IsPassAt t n p → IsOpen p
      → m ≡ carrying p.spare (Some e) (looks_of p) (view_of p)
      → q.seat.me ≡ (known (Out q.spare) (m.0.looks ++ look_at w y ∷ []) (on_first (λ x. after_post x (number_in m.1)) m.0.views), (q.spare, y) ∷ []) → y ≡ None
      → q.seat.table_id ≡ t → q.node ≡ p.node → q.spare < 64 → q.ticks ≡ p.ticks → IsPassAt t n q × IsOpen q
  posted_pass t n p q w e y m is was carried posts none table node slot ticks =
      let ls : List (Look B) = looks_of p ++ look_at w None ∷ [] in
      let v : View B L T = after_post (view_of p) e.number in
      let held : q.seat.me ≡ holding true q.spare ls v =
      posts
      ∙ ap (λ (x : Me (Option (Envelope B)) (Known B L T)). (known (Out q.spare) (x.0.looks ++ look_at w y ∷ []) (on_first (λ z. after_post z (number_in x.1)) x.0.views), (q.spare, y) ∷ [])) carried
      ∙ ap (λ (x : Option (Envelope B)). carrying q.spare x (looks_of p ++ look_at w x ∷ []) v) none
      in
      let few = is.few in (
        is_pass t n q true ls v held table (is.node ∙ sym node) (subst (λ (i : ℕ). i < n) (sym node) is.near) slot is.many (ticks ∙ is.ticks) (omega arith),
        is_open q ls v was.0.0 held was.0.1,
      )

-- each further word is the number of its slot
pub words_more : (ws : List ℕ) (n : ℕ) → length ws ≡ n + 1 → ((a k : ℕ) → 0 < a → get_elem? ws a ≡ some k → a ≡ k + 1) → (a k : ℕ) → 0 < a → get_elem? (ws ++ n ∷ []) a ≡ some k → a ≡ k + 1
words_more ws n long all a k pos e = ⊎_elim (all a k pos) (λ (x : (a ≡ length ws) × (n ≡ k)). let i = x.0 in let j = x.1 in omega arith) (at_end ws n k a e)

pub first_stays : (ws : List ℕ) (n x : ℕ) → length ws ≡ n + 1 → get_or (ws ++ x ∷ []) 0 0 ≡ get_or ws 0 0
first_stays [] n x long = absurd (omega arith)
first_stays (w ∷ ws) n x long = refl

-- a number that is not 0 comes after another
pub one_behind : (n : ℕ) → 1 ≤ n → n ≡ suc (pred n)
one_behind ℕ.zero h = absurd (omega arith)
one_behind (ℕ.suc n) h = refl

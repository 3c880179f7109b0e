-- How the table begins, how its seats are dealt, and how a seat lends its views to another.
use Rattle.std.proofs.Common.{◌≡◌, ◌≢◌, ℕ, zero, suc, ◌+◌, ◌*◌, ◌<◌, ◌≤◌, ⊎_elim, Bool, cond, leb, ltb, List, [], ◌∷◌, ◌++◌, map, length, set, get_or, slice_index, replicate, None, refl, sym, ap, ◌∙◌, subst, arith, lt-ltb, le-ltb, le-leb}
use Rattle.std.proofs.lemmas.Bool.{lt-leb}
use mathlib.Core.Option.{some, some-injective, some-ne-none}
use lib.ListN.{get_elem?, length-map, length-replicate}
use mathlib.Core.Logic.{dite}
use native.Mathlib.Decide.{dec_le}
use Rattle.atomic_table.specs.Table.{Me, Splits, Joins, opening}
use Rattle.raft_log.specs.Peers.{IsGroupSize}
use Rattle.atomic_table.proofs.Lists.{at_set}
use Rattle.raft_node.specs.Machine.{Machine}
use Rattle.world_views.specs.Own.{ViewOf}
use Rattle.world_views.specs.Rule.{IsRule, IsRun}
use Rattle.world_views.specs.Views.{Drew, RisesFrom, View, total}
use Rattle.ether.specs.Rule.{Spare, Known, Look, Owner, Holds, IsKept, IsMarked, IsStowed, MayLie, blank, blanks, dealer, known, slot_of, spent}
use Rattle.ether.specs.Rule.Spare.{Bank, Home, Gone}
use Rattle.ether.specs.Rule.Owner.{mailbox, seat}
use Rattle.ether.specs.Plays.{both, bank_after, dealt, first_part, rest_part}
use Rattle.ether.proofs.Changing.{below_length}
use Rattle.ether.proofs.Knowing.{at_end, knows_cut, knows_join}
use Rattle.ether.proofs.Stowing.{SeatOf, SlotOf, StateOf, few_slots, holds_same, mailbox-ne-seat, seat-injective, slot_unmarked}

pub few_of : (n : ℕ) → IsGroupSize n → n < 8
few_of n h = ⊎_elim (λ (e : n ≡ 3). omega arith) (λ more. ⊎_elim (λ (e : n ≡ 5). omega arith) (λ (e : n ≡ 7). omega arith) more) h

vacant : {A : Type 0} (a : A) (n i : ℕ) → i < n → get_elem? (map some (replicate n a)) i ≡ some (some a)
vacant a zero i near = absurd (omega arith)
vacant a (suc n) zero near = refl
vacant a (suc n) (suc i) near = vacant a n i (omega arith)

module _ {B L T : Type 0} where
  at_blanks : (n i m k : ℕ) (v : View B L T) → get_elem? (blanks n i m) k ≡ some v → blank n (i + k) ≡ v
  at_blanks n i zero k v e = absurd (some-ne-none v (sym e))
  at_blanks n i (suc m) zero v e = let z : i + 0 ≡ i = omega arith in ap (blank n) z ∙ some-injective (blank n i) v e
  at_blanks n i (suc m) (suc k) v e = let z : i + suc k ≡ i + 1 + k = omega arith in ap (blank n) z ∙ at_blanks n (i + 1) m k v e

  blanks_many : (n i m : ℕ) → (vs : List (View B L T)) → vs ≡ blanks n i m → (length vs ≡ m) × (total vs ≡ 0)
  blanks_many n i zero vs is = (ap length is, ap total is)
  blanks_many n i (suc m) vs is =
      let r = blanks_many n (i + 1) m (blanks n (i + 1) m) refl in
      let l = r.0 in
      let t = r.1 in
      let none : total (blanks {B = B} {L = L} {T = T} n i (suc m)) ≡ 0 = omega arith in
      (ap length is ∙ ap suc l, ap total is ∙ none)

  blank_drew : (n i t : ℕ) (v : View B L T) → blank n i ≡ v → Drew v t → ⊥
  blank_drew n i t v is d = blank_drew_by n i t (subst (λ (x : View B L T). Drew x t) (sym is) d)
    where
      blank_drew_by : (n i t : ℕ) → Drew (blank {B = B} {L = L} {T = T} n i) t → ⊥
      blank_drew_by n i t d = ⊎_elim (λ (o : ⊥). o) (λ x. some-ne-none (t, x.1) (sym x.2)) d

  only_seat : (w v : Known B L T) (id : ℕ) → get_elem? (w ∷ []) id ≡ some v → (id ≡ 0) × (w ≡ v)
  only_seat w v zero e = (refl, some-injective w v e)
  only_seat w v (suc id) e = absurd (some-ne-none v (sym e))

module _ (M : Machine) where
  blank_is_run : (n i : ℕ) → IsRun M (blank n i)
  blank_is_run n i = record { state = refl; fresh = refl; unopened = λ _. refl }

  pub rule_at_first : (n : ℕ) → IsRule M n 0 (blanks n 0 n)
  rule_at_first n =
      record {
        sized = (blanks_many n 0 n (blanks n 0 n) refl).0;
        placed = λ i v e. let z : 0 + i ≡ i = omega arith in (ap (λ (x : ViewOf M). x.node) (sym (at_blanks n 0 n i v e)) ∙ z, ap (λ (x : ViewOf M). x.size) (sym (at_blanks n 0 n i v e)));
        tickets = record {
          who = λ _. 0;
          drawn = λ t lt. absurd (omega arith);
          once = λ i t v e d. absurd (blank_drew n (0 + i) t v (at_blanks n 0 n i v e) d);
          rises = λ i v e. subst (λ (x : ViewOf M). RisesFrom x.opened x.turns) (at_blanks n 0 n i v e) refl;
          counted = (blanks_many n 0 n (blanks n 0 n) refl).1;
          few = λ i v e. subst (λ (x : ViewOf M). length x.turns ≤ 1152921504606846976) (at_blanks n 0 n i v e) (omega arith);
        };
        own = λ i v e. subst (IsRun M) (at_blanks n 0 n i v e) (blank_is_run n (0 + i));
        messages = record {
          heard = λ i k v e at h. absurd (some-ne-none e (sym (subst (λ (x : ViewOf M). get_elem? x.heard k ≡ some e) (sym (at_blanks n 0 n i v at)) h)));
          delivered = λ i k d v x e at h b. absurd (some-ne-none (d, x) (sym (subst (λ (y : ViewOf M). get_elem? y.turns k ≡ some (d, x)) (sym (at_blanks n 0 n i v at)) h)));
        };
      }

  -- the table as it is made: mailbox a holds slot a - 1
  pub begins : (n : ℕ) (ws : List ℕ) → n < 8 → length ws ≡ n * n + 1 → get_or ws 0 0 ≡ 0 → ((a k : ℕ) → 0 < a → get_elem? ws a ≡ some k → a ≡ k + 1)
      → IsKept M n (opening ws (replicate (n * n + n) None) (dealer n))
  begins n ws few wide first boxes =
      let homes = map some (replicate {A = SlotOf M} (n * n + n) None) in
      let long : length homes ≡ n * n + n = length-map (replicate (n * n + n) None) some ∙ length-replicate (n * n + n) None in
      let owner : ℕ → Owner = λ i. cond (ltb i (n * n)) (mailbox (i + 1)) (seat 0) in
      record {
        views = blanks n 0 n;
        few = few;
        wide = wide;
        shelf = long;
        rule = subst (λ (z : ℕ). IsRule M n z (blanks n 0 n)) (sym first) (rule_at_first n);
        known = record {
          holder = λ _. 0;
          place = λ i. i;
          seen = λ id k s v at_s at_v.
              let o = only_seat (dealer n) s id at_s in
              let here : get_elem? (blanks n 0 n) k ≡ some v = subst (λ (x : SeatOf M). get_elem? x.views k ≡ some v) (sym o.1) at_v in
              let z : 0 + k ≡ k = omega arith in
              let is : v.node ≡ k = ap (λ (x : ViewOf M). x.node) (sym (at_blanks n 0 n k v here)) ∙ z in
              (subst (λ (i : ℕ). get_elem? (blanks n 0 n) i ≡ some v) (sym is) here, sym o.0, is);
        };
        stowed = record {
          owner = owner;
          boxes = λ a k pos h.
              let is = boxes a k pos h in
              let low = below_length ws a k h in
              let lt : k < n * n = omega arith in
              let room = few_slots n few in
              subst (λ (j : ℕ). (owner j ≡ mailbox a) × ((y : SlotOf M) × (get_elem? homes j ≡ some (some y)) × MayLie M n (blanks n 0 n) (get_or ws 0 0) a y × IsMarked k y)) (slot_unmarked k (omega arith))
              (ap (λ (b : Bool). cond b (mailbox (k + 1)) (seat 0)) (lt-ltb k (n * n) lt) ∙ ap mailbox (sym is), (None, vacant None (n * n + n) k (omega arith), tt, λ _. refl));
          spares = λ id s at_s.
              let o = only_seat (dealer n) s id at_s in
              subst (λ (x : Spare). Holds owner homes id x) (ap (λ (x : SeatOf M). x.spare) o.1)
              (λ j le lt. (ap (λ (b : Bool). cond b (mailbox (j + 1)) (seat 0)) (le-ltb j (n * n) le) ∙ ap seat (sym o.0), vacant None (n * n + n) j (omega arith)));
        };
      }

  -- a cut in which no slot changes hands
  stows_cut : (n next : ℕ) (vs : List (ViewOf M)) (s : StateOf M) (id : ℕ) (v l r : SeatOf M) → IsStowed M n next vs s → get_elem? s.views id ≡ some v → l.spare ≡ v.spare → r.spare ≡ Gone
      → IsStowed M n next vs record { words = s.words; homes = s.homes; views = set s.views id l ++ r ∷ [] }
  stows_cut n next vs s id v l r o at kept gone =
      record {
        owner = o.owner;
        boxes = o.boxes;
        spares = λ j u h. ⊎_elim
            (λ old. ⊎_elim (λ (here : (j ≡ id) × (l ≡ u)). subst (λ (i : ℕ). Holds o.owner s.homes i u.spare) (sym here.0) (subst (Holds o.owner s.homes id) (sym kept ∙ ap (λ (z : SeatOf M). z.spare) here.1) (o.spares id v at)))
            (λ (there : (j ≢ id) × (get_elem? s.views j ≡ some u)). o.spares j u there.1) (at_set s.views id j l u old))
            (λ (new : (j ≡ length (set s.views id l)) × (r ≡ u)). subst (Holds o.owner s.homes j) (sym gone ∙ ap (λ (z : SeatOf M). z.spare) new.1) tt)
            (at_end (set s.views id l) r u j h);
      }

  pub cuts : (n id c : ℕ) (v : SeatOf M) → Splits (IsKept M n) id v (first_part c v.spare v) (rest_part c Gone v)
  cuts n id c v s r at =
      record {
        views = r.views;
        few = r.few;
        wide = r.wide;
        shelf = r.shelf;
        rule = r.rule;
        known = knows_cut r.views s.views id c v v.spare Gone r.known at;
        stowed = stows_cut n (slice_index s.words 0) r.views s id v (first_part c v.spare v) (rest_part c Gone v) r.stowed at refl refl;
      }

  -- the dealer's seat becomes a node's, with the slot b as its spare, and the new seat has the slots past it
  pub deals : (n id b : ℕ) (ls : List (Look M.Body)) (vs : List (ViewOf M)) → b < n * n + n
      → Splits (IsKept M n) id (known (Bank b) ls vs) (first_part 1 (Home b) (known (Bank b) ls vs)) (rest_part 1 (Bank (b + 1)) (known (Bank b) ls vs))
  deals n id b ls vs room s r at =
      let v : SeatOf M = known (Bank b) ls vs in
      let l : SeatOf M = first_part 1 (Home b) v in
      let w : SeatOf M = rest_part 1 (Bank (b + 1)) v in
      let o = r.stowed in
      let bank = o.spares id v at in
      let fresh : ℕ = length (set s.views id l) in
      let owner' : ℕ → Owner = λ i. cond (leb (b + 1) i) (cond (ltb i (length s.homes)) (seat fresh) (o.owner i)) (o.owner i) in
      let past_bank : (i : ℕ) → b + 1 ≤ i → i < length s.homes → owner' i ≡ seat fresh =
      (λ i le lt. ap (λ (t : Bool). cond t (cond (ltb i (length s.homes)) (seat fresh) (o.owner i)) (o.owner i)) (le-leb (b + 1) i le) ∙ ap (λ (t : Bool). cond t (seat fresh) (o.owner i)) (lt-ltb i (length s.homes) lt))
      in
      let below : (i : ℕ) → i < b + 1 → owner' i ≡ o.owner i = (λ i lt. ap (λ (t : Bool). cond t (cond (ltb i (length s.homes)) (seat fresh) (o.owner i)) (o.owner i)) (lt-leb (b + 1) i lt)) in
      let not_mine : (i : ℕ) → i < length s.homes → (o.owner i ≡ seat id → ⊥) → owner' i ≡ o.owner i =
      (λ i lt ne. dite (dec_le (b + 1) i) (λ le. absurd (ne (bank i (omega arith) lt).0)) (λ gt. below i (omega arith)))
      in
      record {
        views = r.views;
        few = r.few;
        wide = r.wide;
        shelf = r.shelf;
        rule = r.rule;
        known = knows_cut r.views s.views id 1 v (Home b) (Bank (b + 1)) r.known at;
        stowed = record {
          owner = owner';
          boxes = λ a k pos h.
              let lay = o.boxes a k pos h in
              (not_mine (slot_of k) (below_length s.homes (slot_of k) (some lay.1.0) lay.1.1) (λ e. mailbox-ne-seat a id (sym lay.0 ∙ e)) ∙ lay.0, lay.1);
          spares = λ j u h. ⊎_elim
              (λ old. ⊎_elim
              (λ (here : (j ≡ id) × (l ≡ u)). subst (λ (i : ℕ). Holds owner' s.homes i u.spare) (sym here.0) (subst (λ (x : SeatOf M). Holds owner' s.homes id x.spare) here.1
              (let sh = r.shelf in let has = bank b (omega arith) (omega arith) in (below b (omega arith) ∙ has.0, has.1))))
              (λ (there : (j ≢ id) × (get_elem? s.views j ≡ some u)). holds_same o.owner owner' s.homes s.homes j refl (λ i lt mine. (not_mine i lt (λ e. there.0 (seat-injective j id (sym mine ∙ e))) ∙ mine, refl)) u.spare (o.spares j u there.1))
              (at_set s.views id j l u old))
              (λ (new : (j ≡ fresh) × (w ≡ u)). subst (λ (x : SeatOf M). Holds owner' s.homes j x.spare) new.1 (λ i le lt. (past_bank i le lt ∙ ap seat (sym new.0), (bank i (omega arith) lt).1)))
              (at_end (set s.views id l) w u j h);
        };
      }

  pub joins : (n id : ℕ) (v : SeatOf M) (other : ℕ) (w : SeatOf M) → Joins (IsKept M n) id v other w (both v w) spent
  joins n id v other w s r at apart at_w =
      record {
        views = r.views;
        few = r.few;
        wide = r.wide;
        shelf = r.shelf;
        rule = r.rule;
        known = knows_join r.views s.views id v other w r.known at apart at_w;
        stowed = record {
          owner = r.stowed.owner;
          boxes = r.stowed.boxes;
          spares = λ j u h. ⊎_elim (λ (gone : (j ≡ other) × (spent ≡ u)). subst (λ (x : SeatOf M). Holds r.stowed.owner s.homes j x.spare) gone.1 tt)
              (λ (rest : (j ≢ other) × (get_elem? (set s.views id (both v w)) j ≡ some u)). ⊎_elim
              (λ (here : (j ≡ id) × (both v w ≡ u)). subst (λ (i : ℕ). Holds r.stowed.owner s.homes i u.spare) (sym here.0) (subst (λ (x : SeatOf M). Holds r.stowed.owner s.homes id x.spare) here.1 (r.stowed.spares id v at)))
              (λ (there : (j ≢ id) × (get_elem? s.views j ≡ some u)). r.stowed.spares j u there.1)
              (at_set s.views id j (both v w) u rest.1))
              (at_set (set s.views id (both v w)) other j spent u h);
        };
      }

  -- the same for a table that is made for this many nodes, as its maker counts them
  pub begins_as : (n count : ℕ) (ws words : List ℕ) → count ≡ n → IsGroupSize n → words ≡ ws → length ws ≡ count * count + 1 → get_or ws 0 0 ≡ 0
      → ((a k : ℕ) → 0 < a → get_elem? ws a ≡ some k → a ≡ k + 1) → IsKept M n (opening words (replicate (count * count + count) None) (dealer n))
  begins_as n count ws words is size same long first boxes =
      subst (λ (l : List ℕ). IsKept M n (opening l (replicate (count * count + count) None) (dealer n))) (sym same)
      (subst (λ (m : ℕ). IsKept M n (opening ws (replicate (m * m + m) None) (dealer n))) (sym is)
      (begins n ws (few_of n size) (long ∙ ap (λ (m : ℕ). m * m + 1) is) first boxes))

  -- and of the deal of node i
  pub deals_as : (n count id i : ℕ) (vs : List (ViewOf M)) (me : Me (SlotOf M) (SeatOf M)) → me ≡ (known (Bank (count * count + i)) [] vs, []) → n ≡ count → i < count
      → Splits (IsKept M n) id me.0 (first_part 1 (dealt me.0.spare) me.0) (rest_part 1 (bank_after me.0.spare) me.0)
  deals_as n count id i vs me is same near =
      let low : count * count + i < n * n + n = subst (λ (m : ℕ). count * count + i < m * m + m) (sym same) (omega arith) in
      subst (λ (v : SeatOf M). Splits (IsKept M n) id v (first_part 1 (dealt v.spare) v) (rest_part 1 (bank_after v.spare) v)) (sym (ap (λ (m : Me (SlotOf M) (SeatOf M)). m.0) is))
      (deals n id (count * count + i) [] vs low)

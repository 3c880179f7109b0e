-- Each step on the table keeps the rule.
use Rattle.std.proofs.Common.{◌≡◌, ◌≢◌, ℕ, zero, suc, pred, ◌+◌, ◌*◌, ◌<◌, ◌≤◌, inr, Bool, true, false, List, [], ◌∷◌, ◌++◌, length, set, get_or, slice_index, Option, Some, None, refl, sym, ap, ◌∙◌, subst, arith, length-set, suc-mul, mul-le-mul_right}
use mathlib.Core.Option.{some}
use mathlib.Core.Option as maybe
use lib.ListN.{get_elem?}
use mathlib.Core.Logic.{dite}
use native.Mathlib.Decide.{dec_lt}
use Rattle.std.proofs.lemmas.List.{get_or-set_same, get_or-set_other, set-get_or}
use Rattle.atomic_table.specs.Table.{Me, Step, keeps, takes, gives, chain, Allows}
use Rattle.atomic_table.proofs.Lists.{set_here, set_else}
use Rattle.raft_log.specs.Lists.{item}
use Rattle.raft_log.specs.Node.{Node}
use Rattle.raft_node.specs.Machine.{Machine}
use Rattle.world_views.specs.declared.envelope.Envelope.{Envelope}
use Rattle.world_views.specs.Own.{ViewOf}
use Rattle.world_views.specs.Rule.{Stands, IsRule}
use Rattle.world_views.specs.Views.{View, addressee, opening_count, sender, total, upto}
use Rattle.ether.specs.Rule.{Spare, Known, Look, MayLie, IsStowed, IsKept, known, look_at, mailbox_of, slot_of}
use Rattle.ether.specs.Rule.Spare.{Home, Out}
use Rattle.ether.specs.Plays.{IsFrom, IsOlder, after_opening, after_post, after_take, carried_out, carrying, counted, glanced, holding, on_view, opened, opens_seat, out_of, posted, taken}
use Rattle.ether.proofs.Changing.{Changes, below_length, changed, still_stands}
use Rattle.ether.proofs.Changes.{take_changes, nothing_changes, post_changes, own_stands, own_sent}
use Rattle.ether.proofs.Knowing.{knows_change}
use Rattle.world_views.proofs.Tickets.{upto_all}
use Rattle.ether.proofs.Stowing.{SeatOf, SlotOf, HomesOf, StateOf, few_slots, stays, slot_marked, slot_unmarked, swaps, mailbox-ne-seat}

at_word : (l : List ℕ) (i : ℕ) → i < length l → get_elem? l i ≡ some (get_or l i 0)
at_word [] i h = absurd (omega arith)
at_word (x ∷ xs) zero h = refl
at_word (x ∷ xs) (suc i) h = at_word xs i (omega arith)

opened_once : {B : Type 0} (o : Option (ℕ × Node B)) → opening_count o ≤ 1
opened_once None = omega arith
opened_once (Some b) = omega arith

total_few : {B L T : Type 0} (vs : List (View B L T)) → ((i : ℕ) (v : View B L T) → get_elem? vs i ≡ some v → length v.turns ≤ 1152921504606846976) → total vs ≤ length vs * 1152921504606846977
total_few [] few = omega arith
total_few (v ∷ vs) few =
    let r = total_few vs (λ i q e. few (suc i) q e) in
    let a = few 0 v refl in
    let b = opened_once v.opened in
    omega arith

pub same_mailbox : (n f t i j : ℕ) → t < n → j < n → f * n + t ≡ i * n + j → (t ≡ j) × (f ≡ i)
same_mailbox n zero t zero j lt lt' e = (omega arith, refl)
same_mailbox n zero t (suc i) j lt lt' e = let m = suc-mul i n in absurd (omega arith)
same_mailbox n (suc f) t zero j lt lt' e = let m = suc-mul f n in absurd (omega arith)
same_mailbox n (suc f) t (suc i) j lt lt' e =
    let m = suc-mul f n in
    let m' = suc-mul i n in
    let r = same_mailbox n f t i j lt lt' (omega arith) in
    (r.0, ap suc r.1)

-- a mailbox is a word of the table
pub mailbox_low : (n i j : ℕ) → i < n → j < n → mailbox_of n i j < n * n + 1
mailbox_low n i j a b =
    let m : suc i * n ≤ n * n = mul-le-mul_right n a in
    let e = suc-mul i n in
    omega arith

-- what most steps say reads nothing of the step itself
abbrev pub no_step : {S : Type 0} → Step S
no_step = record { slots = 0; word = 0; first = 0; second = 0; said = maybe.none }

-- a take reads the word
abbrev pub at_step : {S : Type 0} → ℕ → Step S
at_step w = record { slots = 0; word = w; first = 0; second = 0; said = maybe.none }

module _ (M : Machine) (n : ℕ) (s : StateOf M) (r : IsKept M n s) where
  pub room : slice_index s.words 0 + 1 < 18446744073709551616
  room =
      let t = total_few r.views r.rule.tickets.few in
      let c = r.rule.tickets.counted in
      let l = r.rule.sized in
      let f = r.few in
      omega arith

  pub word_0 : (x : ℕ) → slice_index (set s.words 0 x) 0 ≡ x
  word_0 x = let w = r.wide in get_or-set_same s.words 0 x 0 (omega arith)

  slots_few : (k : ℕ) → k < length s.homes → k < 64
  slots_few k low =
      let few = few_slots n r.few in
      let l = r.shelf in
      omega arith

  whole : (v : ViewOf M) → get_elem? r.views v.node ≡ some v → upto (slice_index s.words 0) v.turns ≡ v.turns
  whole v at = upto_all (slice_index s.words 0) v.turns (λ j t x h. (r.rule.tickets.once v.node t v at (inr (j, x, h))).0)

  module _ (id : ℕ) (x : Spare) (ls : List (Look M.Body)) (v : ViewOf M) (at : get_elem? s.views id ≡ some (known x ls (v ∷ []))) where
    pub known_at : get_elem? r.views v.node ≡ some v
    known_at = (r.known.seen id 0 (known x ls (v ∷ [])) v at refl).0

    pub changed_kept : (y : Spare) (ls' : List (Look M.Body)) (w : ViewOf M) (words : List ℕ) (homes : HomesOf M) (next : ℕ) → slice_index words 0 ≡ next → length words ≡ length s.words → length homes ≡ length s.homes
        → Changes M r.views (slice_index s.words 0) next v.node v w → IsStowed M n next (set r.views v.node w) record { words = words; homes = homes; views = set s.views id (known y ls' (w ∷ [])) }
        → IsKept M n record { words = words; homes = homes; views = set s.views id (known y ls' (w ∷ [])) }
    changed_kept y ls' w words homes next is long shelf c stowed =
        record {
          views = set r.views v.node w;
          few = r.few;
          wide = long ∙ r.wide;
          shelf = shelf ∙ r.shelf;
          rule = subst (λ (z : ℕ). IsRule M n z (set r.views v.node w)) (sym is) (changed M r.views (slice_index s.words 0) next v.node v w known_at c n r.rule);
          known = knows_change r.views s.views id x y ls ls' v w r.known at c.node;
          stowed = subst (λ (z : ℕ). IsStowed M n z (set r.views v.node w) record { words = words; homes = homes; views = set s.views id (known y ls' (w ∷ [])) }) (sym is) stowed;
        }

    pub still : (w : ViewOf M) (next : ℕ) → Changes M r.views (slice_index s.words 0) next v.node v w → (e : Envelope M.Body) → Stands M r.views (slice_index s.words 0) e → Stands M (set r.views v.node w) next e
    still w next c e h =
        let up = c.up in
        still_stands M r.views (slice_index s.words 0) next v.node v w known_at c (slice_index s.words 0) next e (omega arith) up h

module _ (M : Machine) where
  -- what was in a mailbox of the pair was sent by one node to the other
  older_by : (n : ℕ) (s : StateOf M) (r : IsKept M n s) (v : ViewOf M) (e : Envelope M.Body) (a : ℕ) → get_elem? r.views v.node ≡ some v → v.node < n → addressee e < n
      → a ≡ mailbox_of n v.node (addressee e) → e.message.to ≡ suc (addressee e) → (y : SlotOf M) → MayLie M n r.views (slice_index s.words 0) a y → IsOlder v e y
  older_by n s r v e a at near near' is to None lies = tt
  older_by n s r v e a at near near' is to (Some old) lies =
      let one = lies.1 in
      let same = same_mailbox n (sender old) (addressee old) v.node (addressee e) lies.3 near' (omega arith) in (
        lies.0.named ∙ ap suc same.1,
        lies.2 ∙ ap suc same.0 ∙ sym to,
        λ h. own_sent M n r.views (slice_index s.words 0) v.node v at r.rule old lies.0 same.1 (whole M n s r v at) h,
      )

  carried_is : (k k' : ℕ) (e e' : Envelope M.Body) (ls ls' : List (Look M.Body)) (v v' : ViewOf M) → carrying k (Some e) ls v ≡ carrying k' (Some e') ls' v' → (e ≡ e') × (v ≡ v')
  carried_is k k' e e' ls ls' v v' h =
      let c : Some e ≡ Some e' = ap (λ (m : Me (SlotOf M) (SeatOf M)). slot_in m.1) h in
      let w : (v ∷ []) ≡ (v' ∷ []) = ap (λ (m : Me (SlotOf M) (SeatOf M)). m.0.views) h in
      (cc c, cc w)
    where
      slot_in : List (ℕ × SlotOf M) → SlotOf M
      slot_in [] = None
      slot_in (c ∷ cs) = c.1

  -- a post: the message is in its sender's list
  pub posts_by : (n slots id a : ℕ) (me : Me (SlotOf M) (SeatOf M)) (st : Step (SlotOf M)) (k : ℕ) (ls : List (Look M.Body)) (v : ViewOf M) (e : Envelope M.Body)
      → me ≡ carrying k (Some e) ls v → a ≡ mailbox_of n v.node (addressee e) → v.node < n → e.message.to ≡ suc (addressee e) → addressee e < n
      → e.message.from ≡ suc v.node → (v.honest ≡ true → item v.state.sent e.number ≡ Some e.message) → a < n * n + 1
      → Allows (IsKept M n) slots id me a (λ _. k + 64) (posted st me)
  posts_by n slots id a me st k ls v e is box_is near to near' from sent low =
      subst (λ (m : Me (SlotOf M) (SeatOf M)). Allows (IsKept M n) slots id m a (λ _. k + 64) (posted st m)) (sym is)
      (λ s r wide at _.
      let next : ℕ = slice_index s.words 0 in
      let w : ViewOf M = after_post v e.number in
      let word : ℕ = slice_index s.words a in
      let f : ℕ = slot_of word in
      let pos : 0 < a = omega arith in
      let wd = r.wide in
      let there : get_elem? s.words a ≡ some word = at_word s.words a (omega arith) in
      let lay = r.stowed.boxes a word pos there in
      let mine = r.stowed.spares id (known (Out k) ls (v ∷ [])) at in
      let at_v = known_at M n s r id (Out k) ls v at in
      let apart : f ≢ k = (λ d. mailbox-ne-seat a id (sym lay.0 ∙ ap r.stowed.owner d ∙ mine.0)) in
      let c : Changes M r.views next next v.node v w = post_changes M n r.views next v.node v at_v r.rule e.number in
      let ls' : List (Look M.Body) = ls ++ look_at st.word lay.1.0 ∷ [] in
      let stands : Stands M r.views next e = own_stands M n r.views next v.node v at_v r.rule e from sent (whole M n s r v at_v) in
      let homes : HomesOf M = set s.homes k (some (Some e)) in (
        known (Out f) ls' (w ∷ []),
        chain gives (takes f lay.1.0),
        (tt, set_else s.homes k f (some (Some e)) apart ∙ lay.1.1),
        changed_kept M n s r id (Out k) ls v at (Out f) ls' w (set s.words a (k + 64)) (set homes f maybe.none) next (get_or-set_other s.words a 0 (k + 64) 0 (omega arith)) (length-set s.words a (k + 64))
            (length-set homes f maybe.none ∙ length-set s.homes k _) c
            (swaps M n next next r.views (set r.views v.node w) s r.stowed (still M n s r id (Out k) ls v at w next c) id a k (k + 64) word (Some e) homes (known (Out k) ls (v ∷ [])) (known (Out f) ls' (w ∷ [])) pos there at mine.0 refl
            (set_here s.homes k (some (Some e)) mine.1) (λ i ne. set_else s.homes k i (some (Some e)) ne) (length-set s.homes k (some (Some e)))
            (still M n s r id (Out k) ls v at w next c e stands, box_is ∙ ap (λ (z : ℕ). mailbox_of n z (addressee e)) (sym (ap pred from)), to, near')
            (slot_marked k (slots_few M n s r k mine.1)) (λ lt. absurd (omega arith))),
        (
          lay.1.0,
          refl,
          lay.1.3,
          λ k' e' looks v' h.
              let same = carried_is k k' e e' ls looks v v' h in
              subst (λ (z : Envelope M.Body × ViewOf M). IsOlder z.1 z.0 lay.1.0) (λ d. (same.0 d, same.1 d)) (older_by n s r v e a at_v near near' box_is to lay.1.0 lay.1.2),
        ),
      ))

  is_from : (n : ℕ) (vs : List (ViewOf M)) (next a from node : ℕ) → node < n → a ≡ mailbox_of n from node → (y : SlotOf M) → MayLie M n vs next a y → IsFrom from y
  is_from n vs next a from node near is None lies = tt
  is_from n vs next a from node near is (Some e) lies =
      lies.0.named ∙ ap suc (same_mailbox n (sender e) (addressee e) from node lies.3 near (let one = lies.1 in omega arith)).1

  -- the message in a mailbox of the node is heard
  takes_lying : (n : ℕ) (s : StateOf M) (r : IsKept M n s) (v : ViewOf M) (from a : ℕ) → get_elem? r.views v.node ≡ some v → v.node < n → a ≡ mailbox_of n from v.node → (y : SlotOf M)
      → MayLie M n r.views (slice_index s.words 0) a y → Changes M r.views (slice_index s.words 0) (slice_index s.words 0) v.node v (after_take v y)
  takes_lying n s r v from a at near is None lies = nothing_changes M n r.views (slice_index s.words 0) v.node v at r.rule
  takes_lying n s r v from a at near is (Some e) lies =
      take_changes M n r.views (slice_index s.words 0) v.node v at r.rule e lies.0
      (lies.2 ∙ ap suc (same_mailbox n (sender e) (addressee e) from v.node lies.3 near (let one = lies.1 in omega arith)).0)

  takes_true : (n slots id a from : ℕ) (st : Step (SlotOf M)) (k : ℕ) (ls : List (Look M.Body)) (v : ViewOf M) → a ≡ mailbox_of n from v.node → v.node < n → a < n * n + 1
      → Allows (IsKept M n) slots id (holding true k ls v) a (λ _. k) (taken from st (holding true k ls v))
  takes_true n slots id a from st k ls v is near low s r wide at _ =
      let next : ℕ = slice_index s.words 0 in
      let word : ℕ = slice_index s.words a in
      let f : ℕ = slot_of word in
      let pos : 0 < a = omega arith in
      let wd = r.wide in
      let there : get_elem? s.words a ≡ some word = at_word s.words a (omega arith) in
      let lay = r.stowed.boxes a word pos there in
      let mine = r.stowed.spares id (known (Out k) ls (v ∷ [])) at in
      let y : SlotOf M = lay.1.0 in
      let ls' : List (Look M.Body) = ls ++ look_at st.word y ∷ [] in
      let w : ViewOf M = after_take v y in
      let at_v = known_at M n s r id (Out k) ls v at in
      let apart : f ≢ k = (λ d. mailbox-ne-seat a id (sym lay.0 ∙ ap r.stowed.owner d ∙ mine.0)) in
      let c : Changes M r.views next next v.node v w = takes_lying n s r v from a at_v near is y lay.1.2 in
      let homes : HomesOf M = set s.homes k (some None) in (
        known (Out f) ls' (w ∷ []),
        chain gives (takes f y),
        (tt, set_else s.homes k f (some None) apart ∙ lay.1.1),
        changed_kept M n s r id (Out k) ls v at (Out f) ls' w (set s.words a k) (set homes f maybe.none) next (get_or-set_other s.words a 0 k 0 (omega arith)) (length-set s.words a k)
            (length-set homes f maybe.none ∙ length-set s.homes k _) c
            (swaps M n next next r.views (set r.views v.node w) s r.stowed (still M n s r id (Out k) ls v at w next c) id a k k word None homes (known (Out k) ls (v ∷ [])) (known (Out f) ls' (w ∷ [])) pos there at mine.0 refl
            (set_here s.homes k (some None) mine.1) (λ i ne. set_else s.homes k i (some None) ne) (length-set s.homes k (some None)) tt
            (slot_unmarked k (slots_few M n s r k mine.1)) (λ _. refl)),
        (y, refl, is_from n r.views next a from v.node near is y lay.1.2),
      )

  takes_false : (n slots id a from : ℕ) (st : Step (SlotOf M)) (k : ℕ) (ls : List (Look M.Body)) (v : ViewOf M) → a ≡ mailbox_of n from v.node → v.node < n → a < n * n + 1
      → Allows (IsKept M n) slots id (holding false k ls v) a (λ _. k) (taken from st (holding false k ls v))
  takes_false n slots id a from st k ls v is near low s r wide at _ =
      let next : ℕ = slice_index s.words 0 in
      let word : ℕ = slice_index s.words a in
      let f : ℕ = slot_of word in
      let pos : 0 < a = omega arith in
      let wd = r.wide in
      let there : get_elem? s.words a ≡ some word = at_word s.words a (omega arith) in
      let lay = r.stowed.boxes a word pos there in
      let mine = r.stowed.spares id (known (Home k) ls (v ∷ [])) at in
      let y : SlotOf M = lay.1.0 in
      let ls' : List (Look M.Body) = ls ++ look_at st.word y ∷ [] in
      let w : ViewOf M = after_take v y in
      let at_v = known_at M n s r id (Home k) ls v at in
      let c : Changes M r.views next next v.node v w = takes_lying n s r v from a at_v near is y lay.1.2 in (
        known (Out f) ls' (w ∷ []),
        takes f y,
        lay.1.1,
        changed_kept M n s r id (Home k) ls v at (Out f) ls' w (set s.words a k) (set s.homes f maybe.none) next (get_or-set_other s.words a 0 k 0 (omega arith)) (length-set s.words a k) (length-set s.homes f maybe.none) c
            (swaps M n next next r.views (set r.views v.node w) s r.stowed (still M n s r id (Home k) ls v at w next c) id a k k word None s.homes (known (Home k) ls (v ∷ [])) (known (Out f) ls' (w ∷ [])) pos there at mine.0 refl
            mine.1 (λ i ne. refl) refl tt
            (slot_unmarked k (slots_few M n s r k (below_length s.homes k (some None) mine.1))) (λ _. refl)),
        (y, refl, is_from n r.views next a from v.node near is y lay.1.2),
      )

  -- a seat that keeps one more look
  keeps_look : (n id a : ℕ) (x : Spare) (ls ls' : List (Look M.Body)) (v : ViewOf M) (s : StateOf M) → IsKept M n s → get_elem? s.views id ≡ some (known x ls (v ∷ []))
      → IsKept M n record { words = set s.words a (slice_index s.words a); homes = s.homes; views = set s.views id (known x ls' (v ∷ [])) }
  keeps_look n id a x ls ls' v s r at =
      let next : ℕ = slice_index s.words 0 in
      let w : SeatOf M = known x ls' (v ∷ []) in
      let same : set s.words 0 next ≡ set s.words a (slice_index s.words a) = set-get_or s.words 0 0 ∙ sym (set-get_or s.words a 0) in
      let c : Changes M r.views next next v.node v v = nothing_changes M n r.views next v.node v (known_at M n s r id x ls v at) r.rule in
      subst (λ (ws : List ℕ). IsKept M n record { words = ws; homes = s.homes; views = set s.views id w }) same
      (changed_kept M n s r id x ls v at x ls' v (set s.words 0 next) s.homes next (word_0 M n s r next) (length-set s.words 0 next) refl c
      (stays M n next next r.views (set r.views v.node v) s r.stowed (still M n s r id x ls v at v next c) id next (known x ls (v ∷ [])) w at refl))

  -- a load of a mailbox's word
  glances : (n slots id a : ℕ) (c : List (ℕ × SlotOf M)) (st : Step (SlotOf M)) (x : Spare) (ls : List (Look M.Body)) (v : ViewOf M)
      → Allows (IsKept M n) slots id (known x ls (v ∷ []), c) a (λ w. w) (glanced st (known x ls (v ∷ []), c))
  glances n slots id a c st x ls v s r wide at _ =
      let f : ℕ = slice_index s.words a in
      let ls' : List (Look M.Body) = ls ++ look_at st.word None ∷ [] in
      dite (dec_lt f 64)
      (λ (low : f < 64). (known x ls' (v ∷ []), keeps, tt, keeps_look n id a x ls ls' v s r at, ((λ _. refl), (λ (high : 64 ≤ f). absurd (omega arith)))))
      (λ high. (known x ls (v ∷ []), keeps, tt, keeps_look n id a x ls ls v s r at, ((λ (low : f < 64). absurd (high low)), (λ _. refl))))

  pub glances_by : (n slots id a : ℕ) (me : Me (SlotOf M) (SeatOf M)) (st : Step (SlotOf M)) (out : Bool) (k : ℕ) (ls : List (Look M.Body)) (v : ViewOf M) → me ≡ holding out k ls v
      → Allows (IsKept M n) slots id me a (λ w. w) (glanced st me)
  glances_by n slots id a me st true k ls v is =
      subst (λ (m : Me (SlotOf M) (SeatOf M)). Allows (IsKept M n) slots id m a (λ w. w) (glanced st m)) (sym is) (glances n slots id a ((k, None) ∷ []) st (Out k) ls v)
  glances_by n slots id a me st false k ls v is =
      subst (λ (m : Me (SlotOf M) (SeatOf M)). Allows (IsKept M n) slots id m a (λ w. w) (glanced st m)) (sym is) (glances n slots id a [] st (Home k) ls v)

  -- a take, with the spare out or at home
  pub takes_by : (n slots id a from : ℕ) (me : Me (SlotOf M) (SeatOf M)) (st : Step (SlotOf M)) (out : Bool) (k : ℕ) (ls : List (Look M.Body)) (v : ViewOf M)
      → me ≡ holding out k ls v → a ≡ mailbox_of n from v.node → v.node < n → a < n * n + 1 → Allows (IsKept M n) slots id me a (λ _. k) (taken from st me)
  takes_by n slots id a from me st true k ls v me_is is near low =
      subst (λ (m : Me (SlotOf M) (SeatOf M)). Allows (IsKept M n) slots id m a (λ _. k) (taken from st m)) (sym me_is) (takes_true n slots id a from st k ls v is near low)
  takes_by n slots id a from me st false k ls v me_is is near low =
      subst (λ (m : Me (SlotOf M) (SeatOf M)). Allows (IsKept M n) slots id m a (λ _. k) (taken from st m)) (sym me_is) (takes_false n slots id a from st k ls v is near low)

module _ {B L T : Type 0} where
  by_shape : (out : Bool) (k : ℕ) (ls : List (Look B)) (v : View B L T) (f : View B L T → View B L T) (m m' : Me (Option (Envelope B)) (Known B L T))
      → m ≡ holding out k ls v → m' ≡ (record (on_view f m.0) { spare = out_of m.0.spare }, carried_out m.0.spare m.1) → m' ≡ holding true k ls (f v)
  by_shape true k ls v f m m' is is' = is' ∙ ap (λ (x : Me (Option (Envelope B)) (Known B L T)). (record (on_view f x.0) { spare = out_of x.0.spare }, carried_out x.0.spare x.1)) is
  by_shape false k ls v f m m' is is' = is' ∙ ap (λ (x : Me (Option (Envelope B)) (Known B L T)). (record (on_view f x.0) { spare = out_of x.0.spare }, carried_out x.0.spare x.1)) is

  -- the seat after an opening, wherever the spare was
  pub opened_me : (out : Bool) (k : ℕ) (ls : List (Look B)) (v : View B L T) (h : Bool) (new : Node B) (f : ℕ → Known B L T → Known B L T) (st : Step (Option (Envelope B))) (t : ℕ) (m m' : Me (Option (Envelope B)) (Known B L T))
      → f ≡ opened h new → m ≡ holding out k ls v → opens_seat f st m t m' → m' ≡ holding true k ls (after_opening v t h new)
  opened_me out k ls v h new f st t m m' made is is' =
      by_shape out k ls v (λ w. after_opening w t h new) m m' is (subst (λ (a : ℕ → Known B L T → Known B L T). opens_seat a st m t m') made is')

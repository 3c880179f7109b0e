-- What waits of a client, and is not sent again, was sent after what may be lost.
use Rattle.std.proofs.Common.{◌≡◌, ◌∙◌, ◌++◌, ◌⊎◌, inl, inr, ℕ, suc, ◌<◌, Bool, true, false, List, [], ◌∷◌, refl, sym, ap, subst, ⊎_elim, arith}
use Rattle.std.specs.Prelude.{if◌then◌else◌, length}
use Rattle.std.proofs.lemmas.Bool.{eqb-true, leb-false}
use Rattle.std.proofs.lemmas.List.{append_assoc, append-nil}
use Rattle.wire_bytes.specs.declared.moment.Moment.{Moment}
use Rattle.wire_bytes.specs.declared.origin.Origin.{Origin}
use Rattle.client_gate.specs.declared.request.Request.{Request}
use Rattle.client_gate.specs.declared.settings.Settings.{Settings}
use Rattle.client_gate.specs.Calls.{Call, End, Stands, gate}
use Rattle.client_gate.specs.Gates.{Gate, GateEffect}
use Rattle.driver.specs.declared.client.Asked.{Asked}
use Rattle.driver.specs.declared.client.Client.{Client}
use Rattle.driver.specs.declared.order.Order.{Order}
use Rattle.driver.specs.declared.order.Order.TheVariants.{Write}
use Rattle.driver.specs.Asking.{HearsNode, anew_if, asks_if, held_if, is_idle, is_stuck, may_be_lost, now_asked}
use Rattle.driver.specs.Clients.{asks_of, is_leaving, is_shut}
use Rattle.driver.specs.Crowds.{Ticks}
use Rattle.driver.specs.Leaving.{IsDismissed, Leaves, is_overdue}
use Rattle.driver.specs.Lost.{AreAmong, OthersAreNotLost, is_among}
use Rattle.driver.specs.Once.{Dismissed, Event, Goes, HappenAll, Happening, Happens, Learns, Speaks, Waits, Words, numbers_of, numbers_told}
use Rattle.driver.specs.Serving.{Hears, IsLost, Receives, is_done}
use Rattle.driver.specs.Silence.{IsKept, IsSentOff, held_back, is_to_go, waited}
use Rattle.driver.specs.Telling.{Ordered, next_note, ordered}
use Rattle.driver.proofs.Among.{among_all, among_as, among_either, among_left, among_right, among_then, waiting_of}
use Rattle.driver.proofs.AskedOnce.{told_append, told_asks}
use Rattle.driver.proofs.Retelling.{Retells, dismissed_retells, effect_retells, hears_retell, lost_retells, reads_retell}
use Rattle.driver.proofs.Unasked.{IsOf, effect_of, first_of, of_both, of_rest, of_same, parts_of, reads_of}

-- What an event does to what waits: nothing; it is unchanged, or begins after what was ordered first; or all is sent
-- again after that.
pub data Turn (s : Settings) (calls : List Call) (old : Client) (before : Ordered) (new : Client) (after : Ordered) : Type 0 where
  Still : Stands s calls new.gate → IsOf old new → (told : List Order) → after ≡ ordered before told → Turn s calls old before new after
  Begins :
      (first : List Order) (mid : Ordered) (now : ℕ) → mid ≡ ordered before first → IsOf (first_of mid now s calls old) new
      → Retells s calls mid new after → Turn s calls old before new after
  Again :
      (mid : Ordered) (told : List Order) → Stands s calls new.gate → next_note mid new.origin.0 ≡ new.asked.note → after ≡ ordered mid told
      → AreAmong (waiting_of s calls) (numbers_told told) → Turn s calls old before new after

none_first : (before : Ordered) → before ≡ ordered before []
none_first before = sym (ap (λ (items : List Order). record before { items = items }) (append-nil before.items))

none_told : (before after : Ordered) → after ≡ before → after ≡ ordered before []
none_told before after none = none ∙ none_first before

reads_turn : (shut : Bool) (bytes : List ℕ) (now : ℕ) (at : Moment) (due : ℕ) (s : Settings) (calls : List Call) (old new : Client) (before after : Ordered) → is_shut old ≡ shut → Stands s calls old.gate → Receives bytes now at due s calls old before new after → Turn s calls old before new after
reads_turn true bytes now at due s calls old new before after is stands h =
    let (same, none) = h.shut is in
    Still (subst (λ (client : Client). Stands s calls client.gate) (sym same) stands) (of_same old new same) [] (none_told before after none)
reads_turn false bytes now at due s calls old new before after is stands h =
    Begins [] before now (none_first before) (reads_of bytes now at due s calls old new before after is h)
    (reads_retell false bytes now at due s calls old new before after is stands h)

hears_turn : (e : GateEffect) (nick : List ℕ) (now : ℕ) (at : Moment) (s : Settings) (calls : List Call) (old new : Client) (before after : Ordered) → Hears e nick now at s calls old before new after → Turn s calls old before new after
hears_turn e nick now at s calls old new before after h =
    let first = effect_retells e nick now at s calls old h.told before h.orders h.hears in
    let parts = h.parts first.behind first.stands in
    Begins [] before now (none_first before)
    (of_both (first_of before now s calls old) h.told new (effect_of e nick now at s calls old h.told before h.orders h.hears)
    (parts_of (is_done (gate s first.behind).waiting h.told) at s first.behind h.told new h.orders after parts))
    (hears_retell e nick now at s calls old new before after h)

leaves_of : (now : ℕ) (at : Moment) (s : Settings) (calls : List Call) (old new : Client) (before after : Ordered) → Leaves now at s calls old before new after → IsOf (first_of before now s calls old) new
leaves_of now at s calls old new before after h =
    of_both (first_of before now s calls old) h.told new (of_rest (first_of before now s calls old) _ h.told h.stands.rest refl refl)
    (parts_of (is_done (gate s (End ∷ calls)).waiting h.told) at s (End ∷ calls) h.told new h.orders after h.parts)

dismissed_turn : (leaves : Bool) (now : ℕ) (at : Moment) (s : Settings) (calls : List Call) (old new : Client) (before after : Ordered) → is_leaving old ≡ leaves → Stands s calls old.gate → IsDismissed now at s calls old before new after → Turn s calls old before new after
dismissed_turn true now at s calls old new before after is stands h =
    let (same, none) = h.leaving is in
    Still (subst (λ (client : Client). Stands s calls client.gate) (sym same) stands) (of_same old new same) [] (none_told before after none)
dismissed_turn false now at s calls old new before after is stands h =
    Begins [] before now (none_first before) (leaves_of now at s calls old new before after (h.leaves is))
    (dismissed_retells false now at s calls old new before after is stands h)

lost_turn : (gone : Bool) (now : ℕ) (at : Moment) (s : Settings) (calls : List Call) (old new : Client) (first : List Order) (before mid after : Ordered) → old.is_gone ≡ gone → Stands s calls old.gate → mid ≡ ordered before first → IsLost now at s calls old mid new after → Turn s calls old before new after
lost_turn true now at s calls old new first before mid after is stands start h =
    let r = lost_retells true now at s calls old new mid after is stands h in
    Still (subst (λ (client : Client). Stands s calls client.gate) (sym (h.gone is)) stands) (of_same old new (h.gone is)) (first ++ r.told)
    (r.orders
    ∙ ap (λ (orders : Ordered). ordered orders r.told) start
    ∙ ap (λ (items : List Order). record before { items = items }) (append_assoc before.items first r.told))
lost_turn false now at s calls old new first before mid after is stands start h =
    Begins first mid now start (of_rest (first_of mid now s calls old) _ new (h.stays is).rest refl refl)
    (lost_retells false now at s calls old new mid after is stands h)

again_turn : (again : Bool) (now : ℕ) (at : Moment) (s : Settings) (calls : List Call) (old held new : Client) (first : List Order) (before mid after : Ordered) → Stands s calls held.gate → IsOf old held → mid ≡ ordered before first → after ≡ asks_if again old at (gate s calls).waiting mid → new ≡ anew_if again (now_asked mid now old) held → Turn s calls old before new after
again_turn false now at s calls old held new first before mid after stands own start orders is =
    Still (subst (λ (client : Client). Stands s calls client.gate) (sym is) stands) (of_both old held new own (of_same held new is)) (first ++ [])
    (orders
    ∙ ap (λ (orders : Ordered). ordered orders []) start
    ∙ ap (λ (items : List Order). record before { items = items }) (append_assoc before.items first []))
again_turn true now at s calls old held new first before mid after stands own start orders is =
    let told = asks_of old.origin at (gate s calls).waiting in
    let origin : new.origin ≡ old.origin = ap (λ (c : Client). c.origin) is ∙ own.origin in
    Again mid told (subst (λ (client : Client). Stands s calls client.gate) (sym is) stands)
    (ap (λ (o : Origin). next_note mid o.0) origin ∙ sym (ap (λ (c : Client). c.asked.note) is))
    orders
    (among_as (waiting_of s calls) (waiting_of s calls) (numbers_told told) (sym (told_asks old.origin at (gate s calls).waiting)) (among_all (waiting_of s calls)))

words_turn : (lost : ℕ) (refused : Bool) (now : ℕ) (at : Moment) (s : Settings) (calls : List Call) (old new : Client) (before after : Ordered) → Stands s calls old.gate → HearsNode lost refused now at s calls old before new after → Turn s calls old before new after
words_turn lost refused now at s calls old new before after stands h =
    again_turn (may_be_lost lost old) now at s calls old (held_if refused (gate s calls).waiting old) new [] before before after stands
    (record { asked = refl; origin = refl }) (none_first before) h.orders h.client

kept_turn : (timeout now : ℕ) (at : Moment) (s : Settings) (calls : List Call) (old new : Client) (before after : Ordered) → Stands s calls old.gate → IsKept timeout now at s calls old before new after → Turn s calls old before new after
kept_turn timeout now at s calls old new before after stands k =
    again_turn (is_stuck timeout now old) now at s calls old k.pinged new k.asked.ping before k.told after
    (subst (λ (client : Client). Stands s calls client.gate) (sym k.asked.is_known) stands)
    (of_rest old _ k.pinged k.asked.is_known refl refl) k.asked.orders k.orders k.client

sent_turn : (now : ℕ) (at : Moment) (s : Settings) (calls : List Call) (old new : Client) (before after : Ordered) → Stands s calls old.gate → IsSentOff now at s calls old before new after → Turn s calls old before new after
sent_turn now at s calls old new before after stands sent =
    lost_turn old.is_gone now at s calls old new (Write old.origin.2 sent.line ∷ []) before (ordered before (Write old.origin.2 sent.line ∷ [])) after refl stands refl sent.lost

-- a client that was not read is the same in this
held_turn : (s : Settings) (calls : List Call) (now : ℕ) (old new : Client) (before after : Ordered) → Turn s calls (held_back now old) before new after → Turn s calls old before new after
held_turn s calls now old new before after (Still stands own told orders) = Still stands (record { asked = own.asked; origin = own.origin }) told orders
held_turn s calls now old new before after (Begins first mid at start own r) = Begins first mid at start (record { asked = own.asked; origin = own.origin }) r
held_turn s calls now old new before after (Again mid told stands next orders all) = Again mid told stands next orders all

ticks_turn : (overdue reads slow : Bool) (timeout now : ℕ) (at : Moment) (s : Settings) (calls : List Call) (old new : Client) (before after : Ordered) → is_overdue old now ≡ overdue → is_to_go (waited reads now old) now ≡ slow → Stands s calls old.gate → Ticks reads timeout now at s calls old before new after → Turn s calls old before new after
ticks_turn true reads slow timeout now at s calls old new before after late is stands t =
    lost_turn old.is_gone now at s calls old new [] before before after refl stands (none_first before) (t.overdue late)
ticks_turn false true true timeout now at s calls old new before after late is stands t =
    sent_turn now at s calls old new before after stands (t.slow late is)
ticks_turn false false true timeout now at s calls old new before after late is stands t =
    held_turn s calls now old new before after (sent_turn now at s calls (held_back now old) new before after stands (t.slow late is))
ticks_turn false true false timeout now at s calls old new before after late is stands t =
    kept_turn timeout now at s calls old new before after stands (t.kept late is)
ticks_turn false false false timeout now at s calls old new before after late is stands t =
    held_turn s calls now old new before after (kept_turn timeout now at s calls (held_back now old) new before after stands (t.kept late is))

event_turn : (event : Event) (now : ℕ) (at : Moment) (s : Settings) (calls : List Call) (old new : Client) (before after : Ordered) → Happens event now at old before new after → Stands s calls old.gate → Turn s calls old before new after
event_turn (Speaks bytes due) now at s calls old new before after h stands =
    reads_turn (is_shut old) bytes now at due s calls old new before after refl stands (h s calls stands)
event_turn (Learns e nick) now at s calls old new before after h stands = hears_turn e nick now at s calls old new before after (h s calls stands)
event_turn Goes now at s calls old new before after h stands =
    lost_turn old.is_gone now at s calls old new [] before before after refl stands (none_first before) (h s calls stands)
event_turn Dismissed now at s calls old new before after h stands =
    dismissed_turn (is_leaving old) now at s calls old new before after refl stands (h s calls stands)
event_turn (Words lost refused) now at s calls old new before after h stands =
    words_turn lost refused now at s calls old new before after stands (h s calls stands)
event_turn (Waits reads timeout) now at s calls old new before after h stands =
    ticks_turn (is_overdue old now) reads (is_to_go (waited reads now old) now) timeout now at s calls old new before after refl refl stands (h s calls stands)

-- What waits was sent after orders whose next note is the one by which it was asked first.
pub record Behind (s : Settings) (calls : List Call) (c : Client) (after : Ordered) : Type 0 where
  pub before : Ordered
  pub next : next_note before c.origin.0 ≡ c.asked.note
  pub told : List Order
  pub orders : after ≡ ordered before told
  pub all : AreAmong (waiting_of s calls) (numbers_told told)

abbrev pub IsTold : Settings → List Call → Client → Ordered → Type 0
IsTold s calls c after = (waiting_of s calls ≡ []) ⊎ Behind s calls c after

-- A client after calls of its gate.
pub record Kept (s : Settings) (c : Client) (after : Ordered) : Type 0 where
  pub calls : List Call
  pub stands : Stands s calls c.gate
  pub told : IsTold s calls c after

no_length : (count : ℕ) → suc count ≡ 0 → ⊥
no_length count is = omega (arith, is)

idle_none : (requests : List Request) → is_idle requests ≡ true → numbers_of requests ≡ []
idle_none [] is = refl
idle_none (request ∷ requests) is = absurd (no_length (length requests) (eqb-true (length (request ∷ requests)) 0 is))

none_idle : (requests : List Request) → numbers_of requests ≡ [] → is_idle requests ≡ true
none_idle [] is = refl
none_idle (request ∷ requests) is = absurd (cc is)

-- asked in the next note, if nothing waited
asked_next : (idle : Bool) (asked before : Asked) → idle ≡ true → (if idle then asked else before) ≡ asked
asked_next true asked before is = refl
asked_next false asked before is = absurd (cc is)

asked_still : (idle : Bool) (asked before : Asked) → idle ≡ false → (if idle then asked else before) ≡ before
asked_still true asked before is = absurd (cc is)
asked_still false asked before is = refl

then_told : (first mid last : Ordered) (one two : List Order) → mid ≡ ordered first one → last ≡ ordered mid two → last ≡ ordered first (one ++ two)
then_told first mid last one two is so =
    so
    ∙ ap (λ (orders : Ordered). ordered orders two) is
    ∙ ap (λ (items : List Order). record first { items = items }) (append_assoc first.items one two)

-- it stays so
more_behind : (s : Settings) (calls behind : List Call) (old new : Client) (before after : Ordered) (more : List Order) → IsOf old new → after ≡ ordered before more → AreAmong (waiting_of s behind) (waiting_of s calls ++ numbers_told more) → Behind s calls old before → Behind s behind new after
more_behind s calls behind old new before after more own orders among m =
    let all = numbers_told (m.told ++ more) in
    let both : numbers_told m.told ++ numbers_told more ≡ all = sym (told_append m.told more) in
    record {
      before = m.before;
      next = ap (λ (o : Origin). next_note m.before o.0) own.origin ∙ m.next ∙ sym (ap (λ (a : Asked). a.note) own.asked);
      told = m.told ++ more;
      orders = then_told m.before before after m.told more m.orders orders;
      all =
          among_as (waiting_of s behind) (numbers_told m.told ++ numbers_told more) all both
          (among_then (waiting_of s behind) (waiting_of s calls ++ numbers_told more) (numbers_told m.told ++ numbers_told more) among
          (among_either (waiting_of s calls) (numbers_told more) (numbers_told m.told ++ numbers_told more)
          (among_then (waiting_of s calls) (numbers_told m.told) (numbers_told m.told ++ numbers_told more) m.all (among_left (numbers_told m.told) (numbers_told more)))
          (among_right (numbers_told m.told) (numbers_told more))));
    }

-- something began to wait, or more does
begun_kept : (idle : Bool) (s : Settings) (calls : List Call) (old new : Client) (first : List Order) (before mid after : Ordered) (now : ℕ) → is_idle (gate s calls).waiting ≡ idle → mid ≡ ordered before first → IsOf (first_of mid now s calls old) new → (r : Retells s calls mid new after) → IsTold s calls old before → Behind s r.behind new after
begun_kept true s calls old new first before mid after now is start own r told =
    let asked = own.asked ∙ asked_next (is_idle (gate s calls).waiting) (now_asked mid now old) old.asked is in
    record {
      before = mid;
      next = ap (λ (o : Origin). next_note mid o.0) own.origin ∙ sym (ap (λ (a : Asked). a.note) asked);
      told = r.told;
      orders = r.orders;
      all = subst (λ (numbers : List ℕ). AreAmong (waiting_of s r.behind) (numbers ++ numbers_told r.told)) (idle_none (gate s calls).waiting is) r.among;
    }
begun_kept false s calls old new first before mid after now is start own r told =
    let same : IsOf old new = record { asked = own.asked ∙ asked_still (is_idle (gate s calls).waiting) (now_asked mid now old) old.asked is; origin = own.origin } in
    ⊎_elim
    (λ none. absurd (cc (none_idle (gate s calls).waiting none, is)))
    (λ m.
    more_behind s calls r.behind old new before after (first ++ r.told) same
    (then_told before mid after first r.told start r.orders)
    (among_then (waiting_of s r.behind) (waiting_of s calls ++ numbers_told r.told) (waiting_of s calls ++ numbers_told (first ++ r.told)) r.among
    (among_either (waiting_of s calls) (numbers_told r.told) (waiting_of s calls ++ numbers_told (first ++ r.told))
    (among_left (waiting_of s calls) (numbers_told (first ++ r.told)))
    (among_then (numbers_told r.told) (numbers_told (first ++ r.told)) (waiting_of s calls ++ numbers_told (first ++ r.told))
    (among_as (numbers_told r.told) (numbers_told first ++ numbers_told r.told) (numbers_told (first ++ r.told)) (sym (told_append first r.told)) (among_right (numbers_told first) (numbers_told r.told)))
    (among_right (waiting_of s calls) (numbers_told (first ++ r.told))))))
    m)
    told

turn_kept : (s : Settings) (calls : List Call) (old new : Client) (before after : Ordered) → IsTold s calls old before → Turn s calls old before new after → Kept s new after
turn_kept s calls old new before after told (Still stands own more orders) = record {
  calls = calls;
  stands = stands;
  told =
      ⊎_elim
      (λ none. inl none)
      (λ m. inr (more_behind s calls calls old new before after more own orders (among_left (waiting_of s calls) (numbers_told more)) m))
      told;
}
turn_kept s calls old new before after told (Begins first mid now start own r) = record {
  calls = r.behind;
  stands = r.stands;
  told = inr (begun_kept (is_idle (gate s calls).waiting) s calls old new first before mid after now refl start own r told);
}
turn_kept s calls old new before after told (Again mid more stands next orders all) = record {
  calls = calls;
  stands = stands;
  told = inr (record { before = mid; next = next; told = more; orders = orders; all = all });
}

all_kept : (happenings : List Happening) (s : Settings) (calls : List Call) (old new : Client) (before after : Ordered) → HappenAll happenings old before new after → Stands s calls old.gate → IsTold s calls old before → Kept s new after
unfolding HappenAll
all_kept [] s calls old new before after (same, none) stands told =
    subst (λ (c : Client). Kept s c after) (sym same)
    (subst (λ (orders : Ordered). Kept s old orders) (sym none) (record { calls = calls; stands = stands; told = told }))
all_kept (h ∷ more) s calls old new before after (client, orders, happens, rest) stands told =
    let k = turn_kept s calls old client before orders told (event_turn h.event h.now h.at s calls old client before orders happens stands) in
    all_kept more s k.calls client new orders after rest k.stands k.told

no_number : (number : ℕ) (numbers : List ℕ) → numbers ≡ [] → is_among number numbers ≡ true → ⊥
no_number number numbers none is = absurd (cc (sym (ap (λ (numbers : List ℕ). is_among number numbers) none) ∙ is))

pub others_not_lost : OthersAreNotLost
others_not_lost lost number happenings s calls old new before after happens stands none safe is =
    let k = all_kept happenings s calls old new before after happens stands (inl (ap (λ (requests : List Request). numbers_of requests) none)) in
    let waits : numbers_of new.gate.gate.waiting ≡ waiting_of s k.calls = ap (λ (g : Gate). numbers_of g.waiting) k.stands.led in
    let here : is_among number (waiting_of s k.calls) ≡ true = subst (λ (numbers : List ℕ). is_among number numbers ≡ true) waits is in
    ⊎_elim
    (λ idle. absurd (no_number number (waiting_of s k.calls) idle here))
    (λ m. record {
      before = m.before;
      next = subst (λ (k : ℕ). lost < k) (sym m.next) (leb-false new.asked.note lost safe);
      told = m.told;
      orders = m.orders;
      tells = m.all number here;
    })
    k.told

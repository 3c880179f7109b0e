-- Each waiting request of a client is sent after the last loss.
use Rattle.std.proofs.Common.{◌≡◌, ◌∙◌, ◌++◌, ℕ, Bool, true, false, List, [], ◌∷◌, refl, sym, ap, subst}
use Rattle.std.specs.Prelude.{if◌then◌else◌}
use Rattle.std.proofs.lemmas.List.{append_assoc}
use Rattle.wire_bytes.specs.declared.moment.Moment.{Moment}
use Rattle.wire_bytes.specs.declared.origin.Origin.{Origin}
use Rattle.client_gate.specs.declared.request.Request.{Request}
use Rattle.client_gate.specs.declared.settings.Settings.{Settings}
use Rattle.client_gate.specs.Calls.{Call, Stands, gate}
use Rattle.driver.specs.declared.client.Client.{Client}
use Rattle.driver.specs.declared.order.Order.{Order}
use Rattle.driver.specs.declared.order.Order.TheVariants.{Write}
use Rattle.driver.specs.Asking.{HearsNode, anew_if, held_if, is_stuck, may_be_lost, now_asked}
use Rattle.driver.specs.Clients.{asks_of, is_leaving, is_shut}
use Rattle.driver.specs.Crowds.{Ticks}
use Rattle.driver.specs.Leaving.{is_overdue}
use Rattle.driver.specs.Lost.{AsksAgain}
use Rattle.driver.specs.Once.{Dismissed, Event, Goes, HappenAll, Happening, Happens, Learns, Speaks, Waits, Words, numbers_of, numbers_told}
use Rattle.driver.specs.Silence.{IsKept, IsSentOff, held_back, is_to_go, waited}
use Rattle.driver.specs.Telling.{Ordered, ordered}
use Rattle.driver.proofs.AskedOnce.{told_append, told_asks}
use Rattle.driver.proofs.Among.{among_as, among_left, waiting_of}
use Rattle.driver.proofs.Retelling.{Retells, both_retell, dismissed_retells, hears_retell, lost_retells, nothing_retells, reads_retell}

-- what waits is sent again, or is not
asked_gate : (again : Bool) (c : Client) (note now : ℕ) (s : Settings) (calls : List Call) → Stands s calls c.gate → Stands s calls (anew_if again (record { note = note; at = record { since = now } }) c).gate
asked_gate true c note now s calls stands = stands
asked_gate false c note now s calls stands = stands

words_retell : (lost : ℕ) (refused : Bool) (now : ℕ) (at : Moment) (s : Settings) (calls : List Call) (old new : Client) (before after : Ordered) → Stands s calls old.gate → HearsNode lost refused now at s calls old before new after → Retells s calls before new after
words_retell lost refused now at s calls old new before after stands h = record {
  behind = calls;
  stands =
      subst (λ (client : Client). Stands s calls client.gate) (sym h.client)
      (asked_gate (may_be_lost lost old) (held_if refused (gate s calls).waiting old) (now_asked before now old).note now s calls stands);
  told = if may_be_lost lost old then asks_of old.origin at (gate s calls).waiting else [];
  orders = h.orders;
  among = among_left (waiting_of s calls) _;
}

kept_retells : (timeout now : ℕ) (at : Moment) (s : Settings) (calls : List Call) (old new : Client) (before after : Ordered) → Stands s calls old.gate → IsKept timeout now at s calls old before new after → Retells s calls before new after
kept_retells timeout now at s calls old new before after stands k =
    let ping = k.asked.ping in
    let again = if is_stuck timeout now old then asks_of old.origin at (gate s calls).waiting else [] in
    let pinged = subst (λ (client : Client). Stands s calls client.gate) (sym k.asked.is_known) stands in
    record {
      behind = calls;
      stands =
          subst (λ (client : Client). Stands s calls client.gate) (sym k.client)
          (asked_gate (is_stuck timeout now old) k.pinged (now_asked k.told now old).note now s calls pinged);
      told = ping ++ again;
      orders =
          k.orders
          ∙ ap (λ (orders : Ordered). ordered orders again) k.asked.orders
          ∙ ap (λ (items : List Order). record before { items = items }) (append_assoc before.items ping again);
      among = among_left (waiting_of s calls) _;
    }

sent_retells : (now : ℕ) (at : Moment) (s : Settings) (calls : List Call) (old new : Client) (before after : Ordered) → Stands s calls old.gate → IsSentOff now at s calls old before new after → Retells s calls before new after
sent_retells now at s calls old new before after stands sent =
    let line = Write old.origin.2 sent.line in
    let h = lost_retells old.is_gone now at s calls old new (ordered before (line ∷ [])) after refl stands sent.lost in
    record {
      behind = h.behind;
      stands = h.stands;
      told = line ∷ h.told;
      orders = h.orders ∙ ap (λ (items : List Order). record before { items = items }) (append_assoc before.items (line ∷ []) h.told);
      among = h.among;
    }

ticks_retell : (overdue reads slow : Bool) (timeout now : ℕ) (at : Moment) (s : Settings) (calls : List Call) (old new : Client) (before after : Ordered) → is_overdue old now ≡ overdue → is_to_go (waited reads now old) now ≡ slow → Stands s calls old.gate → Ticks reads timeout now at s calls old before new after → Retells s calls before new after
ticks_retell true reads slow timeout now at s calls old new before after late is stands t =
    lost_retells old.is_gone now at s calls old new before after refl stands (t.overdue late)
ticks_retell false true true timeout now at s calls old new before after late is stands t =
    sent_retells now at s calls old new before after stands (t.slow late is)
ticks_retell false false true timeout now at s calls old new before after late is stands t =
    sent_retells now at s calls (held_back now old) new before after stands (t.slow late is)
ticks_retell false true false timeout now at s calls old new before after late is stands t =
    kept_retells timeout now at s calls old new before after stands (t.kept late is)
ticks_retell false false false timeout now at s calls old new before after late is stands t =
    kept_retells timeout now at s calls (held_back now old) new before after stands (t.kept late is)

event_retells : (event : Event) (now : ℕ) (at : Moment) (s : Settings) (calls : List Call) (old new : Client) (before after : Ordered) → Happens event now at old before new after → Stands s calls old.gate → Retells s calls before new after
event_retells (Speaks bytes due) now at s calls old new before after h stands =
    reads_retell (is_shut old) bytes now at due s calls old new before after refl stands (h s calls stands)
event_retells (Learns e nick) now at s calls old new before after h stands =
    hears_retell e nick now at s calls old new before after (h s calls stands)
event_retells Goes now at s calls old new before after h stands =
    lost_retells old.is_gone now at s calls old new before after refl stands (h s calls stands)
event_retells Dismissed now at s calls old new before after h stands =
    dismissed_retells (is_leaving old) now at s calls old new before after refl stands (h s calls stands)
event_retells (Words lost refused) now at s calls old new before after h stands =
    words_retell lost refused now at s calls old new before after stands (h s calls stands)
event_retells (Waits reads timeout) now at s calls old new before after h stands =
    ticks_retell (is_overdue old now) reads (is_to_go (waited reads now old) now) timeout now at s calls old new before after refl refl stands (h s calls stands)

all_retell : (happenings : List Happening) (s : Settings) (calls : List Call) (old new : Client) (before after : Ordered) → HappenAll happenings old before new after → Stands s calls old.gate → Retells s calls before new after
unfolding HappenAll
all_retell [] s calls old new before after (same, none) stands = nothing_retells s calls old new before after stands same none
all_retell (h ∷ more) s calls old new before after (client, orders, happens, rest) stands =
    let first = event_retells h.event h.now h.at s calls old client before orders happens stands in
    let last = all_retell more s first.behind client new orders after rest first.stands in
    both_retell s calls before orders after client new first last

-- With the report all is sent again.
lost_told : (again : Bool) (origin : Origin) (at : Moment) (requests : List Request) → again ≡ true → numbers_told (if again then asks_of origin at requests else []) ≡ numbers_of requests
lost_told true origin at requests is = told_asks origin at requests
lost_told false origin at requests is = absurd (cc is)

pub asks_again : AsksAgain
unfolding HappenAll
asks_again lost now at refused happenings s calls old new before after (client, orders, happens, rest) stands is =
    let h = happens s calls stands in
    let again = if may_be_lost lost old then asks_of old.origin at (gate s calls).waiting else [] in
    let held = subst (λ (c : Client). Stands s calls c.gate) (sym h.client) (asked_gate (may_be_lost lost old) (held_if refused (gate s calls).waiting old) (now_asked before now old).note now s calls stands) in
    let last = all_retell happenings s calls client new orders after rest held in
    let told : numbers_told again ≡ waiting_of s calls = lost_told (may_be_lost lost old) old.origin at (gate s calls).waiting is in
    record {
      behind = last.behind;
      stands = last.stands;
      told = again ++ last.told;
      orders =
          last.orders
          ∙ ap (λ (orders : Ordered). ordered orders last.told) h.orders
          ∙ ap (λ (items : List Order). record before { items = items }) (append_assoc before.items again last.told);
      all =
          among_as (waiting_of s last.behind) (waiting_of s calls ++ numbers_told last.told) (numbers_told (again ++ last.told))
          (ap (λ (numbers : List ℕ). numbers ++ numbers_told last.told) (sym told) ∙ sym (told_append again last.told))
          last.among;
    }

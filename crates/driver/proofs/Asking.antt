-- Each request of a client is sent once, if nothing is sent again.
use Rattle.std.proofs.Common.{◌≡◌, ◌∙◌, ◌++◌, ℕ, Bool, true, false, List, [], ◌∷◌, Option, Some, None, refl, sym, ap, subst, ⊎_elim}
use Rattle.std.specs.Prelude.{option_to_list}
use Rattle.std.proofs.lemmas.List.{append_assoc, append-nil, map-append}
use Rattle.wire_bytes.specs.declared.moment.Moment.{Moment}
use Rattle.wire_bytes.specs.declared.origin.Origin.{Origin}
use Rattle.buffer_commands.specs.declared.effect.Effect.TheVariants as effect
use Rattle.request_once.specs.declared.answer.Answer.TheVariants as answer
use Rattle.client_gate.specs.declared.fed.Fed.{Fed}
use Rattle.client_gate.specs.declared.request.Request.{Request}
use Rattle.client_gate.specs.declared.settings.Settings.{Settings}
use Rattle.client_gate.specs.Calls.{Call, End, Feed, Hear, Stands, fed_answer, gate}
use Rattle.client_gate.specs.Gates.{GateEffect, Given, given_effect, is_turned_down, last_request}
use Rattle.client_gate.specs.Answers.{given_in}
use Rattle.client_gate.specs.Numbers.{all_requests}
use Rattle.driver.specs.declared.client.Client.{Client}
use Rattle.driver.specs.declared.order.Order.{Order}
use Rattle.driver.specs.declared.order.Order.TheVariants.{Write}
use Rattle.driver.specs.Asking.{HearsNode, anew_if, asks_if, held_if, is_stuck, may_be_lost, now_asked}
use Rattle.driver.specs.Clients.{asked_by, is_leaving, is_shut, last_asks, parting_unless}
use Rattle.driver.specs.Crowds.{Ticks}
use Rattle.driver.specs.Once.{AreQuiet, AsksOnce, Event, Happens, TellsOnce, asks_again, numbers_of, numbers_told}
use Rattle.driver.specs.Leaving.{IsDismissed, Leaves, is_overdue}
use Rattle.driver.specs.Once.{Dismissed, Goes, Learns, Speaks, Waits, Words}
use Rattle.driver.specs.Serving.{Hears, HearsEffect, IsLost, PartsIf, Receives, TakesBy, is_done}
use Rattle.driver.specs.Silence.{IsKept, IsPing, IsSentOff, held_back, is_silent, is_to_go, waited}
use Rattle.driver.specs.Telling.{Ordered, ordered}
use Rattle.driver.proofs.AskedOnce.{both_once, cut_once, ended_once, feed_numbers, hear_numbers, nothing_once, parted_once, passed_once, told_append, told_by}

-- it is closed if this is so
parts_once : (parts : Bool) (at : Moment) (s : Settings) (calls : List Call) (old new : Client) (before after : Ordered) → Stands s calls old.gate → PartsIf parts at s calls old before new after → TellsOnce s calls before new after
parts_once false at s calls old new before after stands (same, none) = nothing_once s calls old new before after stands same none
parts_once true at s calls old new before after stands h = parted_once s calls calls at old new before after refl h

-- what a gate answered went on, or is held back
takes_once : (wrong : Bool) (answer : Given) (now : ℕ) (at : Moment) (due : ℕ) (s : Settings) (calls behind : List Call) (fed : Fed) (c new : Client) (before after : Ordered) → numbers_of (all_requests s behind) ≡ numbers_of (all_requests s calls) ++ numbers_of answer.requests → given_in fed ≡ answer → TakesBy wrong s behind fed now at due c before new after → TellsOnce s calls before new after
takes_once false answer now at due s calls behind fed c new before after more is (orders, stands) =
    passed_once s calls behind answer now at c new before after more (record { fed = fed; is = is; orders = orders; stands = stands })
takes_once true answer now at due s calls behind fed c new before after more is (orders, stands) = record {
  behind = behind;
  stands = stands.gate;
  told = asked_by c at fed.requests.items;
  orders = orders;
  once =
      more
      ∙ ap (λ (given : Given). numbers_of (all_requests s calls) ++ numbers_of given.requests) (sym is)
      ∙ ap (λ numbers. numbers_of (all_requests s calls) ++ numbers) (sym (told_by c at fed.requests.items));
}

reads_by : (shut : Bool) (bytes : List ℕ) (now : ℕ) (at : Moment) (due : ℕ) (s : Settings) (calls : List Call) (old new : Client) (before after : Ordered) → is_shut old ≡ shut → Stands s calls old.gate → Receives bytes now at due s calls old before new after → TellsOnce s calls before new after
reads_by true bytes now at due s calls old new before after is stands h =
    let (same, none) = h.shut is in nothing_once s calls old new before after stands same none
reads_by false bytes now at due s calls old new before after is stands h =
    ⊎_elim
    (λ p. takes_once (is_turned_down (gate s (Feed bytes ∷ calls)).phase) (fed_answer s calls bytes) now at due s calls (Feed bytes ∷ calls) p.fed _ new before after (feed_numbers s calls bytes) p.is p.takes)
    (λ p. cut_once s calls at _ new before after p)
    (h.hears is)

effect_once : (e : GateEffect) (nick : List ℕ) (now : ℕ) (at : Moment) (s : Settings) (calls : List Call) (old new : Client) (before after : Ordered) → HearsEffect e nick now at s calls old before new after → TellsOnce s calls before new after
effect_once e nick now at s calls old new before after h =
    ⊎_elim
    (λ p. passed_once s calls (Hear e ∷ calls) (given_effect s e) now at _ new before after (hear_numbers s calls e) p)
    (λ p. cut_once s calls at _ new before after p)
    h

hears_once : (e : GateEffect) (nick : List ℕ) (now : ℕ) (at : Moment) (s : Settings) (calls : List Call) (old new : Client) (before after : Ordered) → Hears e nick now at s calls old before new after → TellsOnce s calls before new after
hears_once e nick now at s calls old new before after h =
    let first = effect_once e nick now at s calls old h.told before h.orders h.hears in
    both_once s calls before h.orders after h.told new first
    (parts_once (is_done (gate s first.behind).waiting h.told) at s first.behind h.told new h.orders after first.stands (h.parts first.behind first.stands))

-- a client that is to leave asks for that once
pub told_asked : (origin : Origin) (at : Moment) (last : Option Request) → numbers_told (last_asks origin at last) ≡ numbers_of (option_to_list last)
told_asked origin at None = refl
told_asked origin at (Some request) = refl

leaves_once : (now : ℕ) (at : Moment) (s : Settings) (calls : List Call) (old new : Client) (before after : Ordered) → Leaves now at s calls old before new after → TellsOnce s calls before new after
unfolding all_requests
leaves_once now at s calls old new before after h =
    let last = last_request (gate s calls) in
    let first : TellsOnce s calls before h.told h.orders = record {
      behind = End ∷ calls;
      stands = h.stands.gate;
      told = last_asks old.origin at last;
      orders = h.asks;
      once =
          map-append (λ (request : Request). request.number) (all_requests s calls) (option_to_list last)
          ∙ ap (λ numbers. numbers_of (all_requests s calls) ++ numbers) (sym (told_asked old.origin at last));
    } in
    both_once s calls before h.orders after h.told new first
    (parts_once (is_done (gate s (End ∷ calls)).waiting h.told) at s (End ∷ calls) h.told new h.orders after h.stands.gate h.parts)

dismissed_by : (leaves : Bool) (now : ℕ) (at : Moment) (s : Settings) (calls : List Call) (old new : Client) (before after : Ordered) → is_leaving old ≡ leaves → Stands s calls old.gate → IsDismissed now at s calls old before new after → TellsOnce s calls before new after
dismissed_by true now at s calls old new before after is stands h =
    let (same, none) = h.leaving is in nothing_once s calls old new before after stands same none
dismissed_by false now at s calls old new before after is stands h = leaves_once now at s calls old new before after (h.leaves is)

lost_by : (gone : Bool) (now : ℕ) (at : Moment) (s : Settings) (calls : List Call) (old new : Client) (before after : Ordered) → old.is_gone ≡ gone → Stands s calls old.gate → IsLost now at s calls old before new after → TellsOnce s calls before new after
lost_by true now at s calls old new before after is stands h = record {
  behind = calls;
  stands = subst (λ (client : Client). Stands s calls client.gate) (sym (h.gone is)) stands;
  told = parting_unless old.is_gone old.is_attached old.origin at (last_request (gate s calls));
  orders = h.orders;
  once = subst (λ (gone : Bool). numbers_of (all_requests s calls) ≡ numbers_of (all_requests s calls) ++ numbers_told (parting_unless gone old.is_attached old.origin at (last_request (gate s calls)))) (sym is) (ended_once true old.is_attached s calls old.origin at);
}
lost_by false now at s calls old new before after is stands h = record {
  behind = End ∷ calls;
  stands = (h.stays is).gate;
  told = parting_unless old.is_gone old.is_attached old.origin at (last_request (gate s calls));
  orders = h.orders;
  once = subst (λ (gone : Bool). numbers_of (all_requests s (End ∷ calls)) ≡ numbers_of (all_requests s calls) ++ numbers_told (parting_unless gone old.is_attached old.origin at (last_request (gate s calls)))) (sym is) (ended_once false old.is_attached s calls old.origin at);
}

words_once : (lost : ℕ) (refused : Bool) (now : ℕ) (at : Moment) (s : Settings) (calls : List Call) (old new : Client) (before after : Ordered) → may_be_lost lost old ≡ false → Stands s calls old.gate → HearsNode lost refused now at s calls old before new after → TellsOnce s calls before new after
words_once lost refused now at s calls old new before after quiet stands h = record {
  behind = calls;
  stands = subst (λ (client : Client). Stands s calls client.gate) (sym (h.client ∙ ap (λ (b : Bool). anew_if b (now_asked before now old) (held_if refused (gate s calls).waiting old)) quiet)) stands;
  told = [];
  orders = h.orders ∙ ap (λ (b : Bool). asks_if b old at (gate s calls).waiting before) quiet;
  once = sym (append-nil (numbers_of (all_requests s calls)));
}

ping_none : (b : Bool) (client : ℕ) (orders : List Order) → IsPing b client orders → numbers_told orders ≡ []
ping_none false client orders is = ap (λ (orders : List Order). numbers_told orders) is
ping_none true client orders (bytes, are, is) = ap (λ (orders : List Order). numbers_told orders) is

kept_once : (timeout now : ℕ) (at : Moment) (s : Settings) (calls : List Call) (old new : Client) (before after : Ordered) → is_stuck timeout now old ≡ false → Stands s calls old.gate → IsKept timeout now at s calls old before new after → TellsOnce s calls before new after
kept_once timeout now at s calls old new before after quiet stands k =
    let ping = k.asked.ping in
    let same = k.client ∙ ap (λ (b : Bool). anew_if b (now_asked k.told now old) k.pinged) quiet ∙ k.asked.is_known in
    let none = told_append ping [] ∙ ap (λ numbers. numbers ++ []) (ping_none (is_silent old now) old.origin.2 ping k.asked.is_ping) in
    record {
      behind = calls;
      stands = subst (λ (client : Client). Stands s calls client.gate) (sym same) stands;
      told = ping ++ [];
      orders =
          k.orders
          ∙ ap (λ (b : Bool). asks_if b old at (gate s calls).waiting k.told) quiet
          ∙ ap (λ (orders : Ordered). ordered orders []) k.asked.orders
          ∙ ap (λ (items : List Order). record before { items = items }) (append_assoc before.items ping []);
      once = sym (append-nil (numbers_of (all_requests s calls))) ∙ ap (λ numbers. numbers_of (all_requests s calls) ++ numbers) (sym none);
    }

-- a client that is too slow is told so, and then it is lost
sent_once : (now : ℕ) (at : Moment) (s : Settings) (calls : List Call) (old new : Client) (before after : Ordered) → Stands s calls old.gate → IsSentOff now at s calls old before new after → TellsOnce s calls before new after
sent_once now at s calls old new before after stands sent =
    let line = Write old.origin.2 sent.line in
    let h = lost_by old.is_gone now at s calls old new (ordered before (line ∷ [])) after refl stands sent.lost in
    record {
      behind = h.behind;
      stands = h.stands;
      told = line ∷ h.told;
      orders = h.orders ∙ ap (λ (items : List Order). record before { items = items }) (append_assoc before.items (line ∷ []) h.told);
      once = h.once;
    }

ticks_by : (overdue reads slow : Bool) (timeout now : ℕ) (at : Moment) (s : Settings) (calls : List Call) (old new : Client) (before after : Ordered) → is_overdue old now ≡ overdue → is_to_go (waited reads now old) now ≡ slow → is_stuck timeout now old ≡ false → Stands s calls old.gate → Ticks reads timeout now at s calls old before new after → TellsOnce s calls before new after
ticks_by true reads slow timeout now at s calls old new before after late is quiet stands t =
    lost_by old.is_gone now at s calls old new before after refl stands (t.overdue late)
ticks_by false true true timeout now at s calls old new before after late is quiet stands t =
    sent_once now at s calls old new before after stands (t.slow late is)
ticks_by false false true timeout now at s calls old new before after late is quiet stands t =
    sent_once now at s calls (held_back now old) new before after stands (t.slow late is)
ticks_by false true false timeout now at s calls old new before after late is quiet stands t =
    kept_once timeout now at s calls old new before after quiet stands (t.kept late is)
ticks_by false false false timeout now at s calls old new before after late is quiet stands t =
    kept_once timeout now at s calls (held_back now old) new before after quiet stands (t.kept late is)

event_once : (event : Event) (now : ℕ) (at : Moment) (s : Settings) (calls : List Call) (old new : Client) (before after : Ordered) → asks_again event now old ≡ false → Happens event now at old before new after → Stands s calls old.gate → TellsOnce s calls before new after
event_once (Speaks bytes due) now at s calls old new before after quiet h stands =
    reads_by (is_shut old) bytes now at due s calls old new before after refl stands (h s calls stands)
event_once (Learns effect nick) now at s calls old new before after quiet h stands =
    hears_once effect nick now at s calls old new before after (h s calls stands)
event_once Goes now at s calls old new before after quiet h stands =
    lost_by old.is_gone now at s calls old new before after refl stands (h s calls stands)
event_once Dismissed now at s calls old new before after quiet h stands =
    dismissed_by (is_leaving old) now at s calls old new before after refl stands (h s calls stands)
event_once (Words lost refused) now at s calls old new before after quiet h stands =
    words_once lost refused now at s calls old new before after quiet stands (h s calls stands)
event_once (Waits reads timeout) now at s calls old new before after quiet h stands =
    ticks_by (is_overdue old now) reads (is_to_go (waited reads now old) now) timeout now at s calls old new before after refl refl quiet stands (h s calls stands)

pub asks_once : AsksOnce
unfolding AreQuiet
asks_once [] s calls old new before after (same, none) stands = nothing_once s calls old new before after stands same none
asks_once (h ∷ more) s calls old new before after (quiet, client, orders, happens, rest) stands =
    let first = event_once h.event h.now h.at s calls old client before orders quiet happens stands in
    let last = asks_once more s first.behind client new orders after rest first.stands in
    both_once s calls before orders after client new first last

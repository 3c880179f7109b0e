-- What a client asks goes to its own node alone.
use Rattle.std.proofs.Common.{◌≡◌, ◌∙◌, ◌++◌, ℕ, Bool, true, false, List, [], ◌∷◌, Option, Some, None, refl, sym, ap, subst, ⊎_elim}
use Rattle.std.specs.Prelude.{if◌then◌else◌}
use Rattle.std.proofs.lemmas.List.{append_assoc}
use Rattle.wire_bytes.specs.declared.moment.Moment.{Moment}
use Rattle.wire_bytes.specs.declared.origin.Origin.{Origin}
use Rattle.client_gate.specs.declared.fed.Fed.{Fed}
use Rattle.client_gate.specs.declared.request.Request.{Request}
use Rattle.client_gate.specs.declared.settings.Settings.{Settings}
use Rattle.client_gate.specs.Calls.{Call, End, Feed, Hear, Stands, gate}
use Rattle.client_gate.specs.Gates.{GateEffect, given_effect, is_turned_down, last_request}
use Rattle.driver.specs.declared.client.Asked.{Asked}
use Rattle.driver.specs.declared.client.Client.{Client}
use Rattle.driver.specs.declared.order.Order.{Order}
use Rattle.driver.specs.declared.order.Order.TheVariants.{Write}
use Rattle.driver.specs.Asking.{HearsNode, anew_if, held_if, is_stuck, may_be_lost, now_asked}
use Rattle.driver.specs.Clients.{asked_by, asks_of, is_cut, is_leaving, is_shut, last_asks, name_asked, parting_unless, passed}
use Rattle.driver.specs.Crowds.{Ticks}
use Rattle.driver.specs.Cycling.{reworded}
use Rattle.driver.specs.Leaving.{IsDismissed, Leaves, is_overdue}
use Rattle.driver.specs.Once.{AsksOwn, Dismissed, Event, Goes, HappenAll, Happens, Learns, Speaks, TellsOnly, Waits, Words}
use Rattle.driver.specs.Serving.{Hears, HearsEffect, IsLost, Receives, TakesBy, ended_if, is_done}
use Rattle.driver.specs.Silence.{IsKept, IsSentOff, held_back, is_silent, is_to_go, waited}
use Rattle.driver.specs.Telling.{Ordered, ordered}
use Rattle.driver.proofs.OwnOrders.{Owns, both_own, cut_own, nothing_own, only_again, only_all, only_append, only_parting, only_passed, only_ping, parts_own, passed_own, renamed}

-- what a gate answered went on, or is held back
takes_own : (wrong : Bool) (now : ℕ) (at : Moment) (due : ℕ) (s : Settings) (calls : List Call) (fed : Fed) (c new : Client) (before after : Ordered) → TakesBy wrong s calls fed now at due c before new after → Owns s c before new after
takes_own false now at due s calls fed c new before after (orders, stands) = record {
  behind = ended_if (is_cut fed) c.is_gone calls;
  stands = stands.gate;
  origin = ap (λ (client : Client). client.origin) stands.rest;
  told = passed c at (last_request (gate s calls)) fed;
  orders = orders;
  own = only_passed c at (last_request (gate s calls)) fed;
}
takes_own true now at due s calls fed c new before after (orders, stands) = record {
  behind = calls;
  stands = stands.gate;
  origin = ap (λ (client : Client). client.origin) stands.rest;
  told = asked_by c at fed.requests.items;
  orders = orders;
  own = only_all c.is_attached c.origin (name_asked fed.requests.items) at (reworded c.channels c.parting fed.requests.items);
}

pub reads_own : (shut : Bool) (bytes : List ℕ) (now : ℕ) (at : Moment) (due : ℕ) (s : Settings) (calls : List Call) (old new : Client) (before after : Ordered) → is_shut old ≡ shut → Stands s calls old.gate → Receives bytes now at due s calls old before new after → Owns s old before new after
reads_own true bytes now at due s calls old new before after is stands h =
    let (same, none) = h.shut is in nothing_own s calls old new before after stands same none
reads_own false bytes now at due s calls old new before after is stands h =
    ⊎_elim
    (λ p. renamed s old _ new before after refl (takes_own (is_turned_down (gate s (Feed bytes ∷ calls)).phase) now at due s (Feed bytes ∷ calls) p.fed _ new before after p.takes))
    (λ p. renamed s old _ new before after refl (cut_own s calls at _ new before after p))
    (h.hears is)

pub effect_own : (e : GateEffect) (nick : List ℕ) (now : ℕ) (at : Moment) (s : Settings) (calls : List Call) (old new : Client) (before after : Ordered) → HearsEffect e nick now at s calls old before new after → Owns s old before new after
effect_own e nick now at s calls old new before after h =
    ⊎_elim
    (λ p. renamed s old _ new before after refl (passed_own s (Hear e ∷ calls) (given_effect s e) now at _ new before after p))
    (λ p. renamed s old _ new before after refl (cut_own s calls at _ new before after p))
    h

pub hears_own : (e : GateEffect) (nick : List ℕ) (now : ℕ) (at : Moment) (s : Settings) (calls : List Call) (old new : Client) (before after : Ordered) → Hears e nick now at s calls old before new after → Owns s old before new after
hears_own e nick now at s calls old new before after h =
    let first = effect_own e nick now at s calls old h.told before h.orders h.hears in
    both_own s old h.told new before h.orders after first
    (parts_own (is_done (gate s first.behind).waiting h.told) at s first.behind h.told new h.orders after first.stands (h.parts first.behind first.stands))

only_last : (origin : Origin) (at : Moment) (last : Option Request) → TellsOnly origin (last_asks origin at last)
unfolding TellsOnly
only_last origin at None = tt
only_last origin at (Some request) = ((refl, refl), tt)

leaves_own : (now : ℕ) (at : Moment) (s : Settings) (calls : List Call) (old new : Client) (before after : Ordered) → Leaves now at s calls old before new after → Owns s old before new after
leaves_own now at s calls old new before after h =
    let last = last_request (gate s calls) in
    let first : Owns s old before h.told h.orders = record {
      behind = End ∷ calls;
      stands = h.stands.gate;
      origin = ap (λ (client : Client). client.origin) h.stands.rest;
      told = last_asks old.origin at last;
      orders = h.asks;
      own = only_last old.origin at last;
    } in
    both_own s old h.told new before h.orders after first
    (parts_own (is_done (gate s (End ∷ calls)).waiting h.told) at s (End ∷ calls) h.told new h.orders after h.stands.gate h.parts)

pub dismissed_own : (leaves : Bool) (now : ℕ) (at : Moment) (s : Settings) (calls : List Call) (old new : Client) (before after : Ordered) → is_leaving old ≡ leaves → Stands s calls old.gate → IsDismissed now at s calls old before new after → Owns s old before new after
dismissed_own true now at s calls old new before after is stands h =
    let (same, none) = h.leaving is in nothing_own s calls old new before after stands same none
dismissed_own false now at s calls old new before after is stands h = leaves_own now at s calls old new before after (h.leaves is)

pub lost_own : (gone : Bool) (now : ℕ) (at : Moment) (s : Settings) (calls : List Call) (old new : Client) (before after : Ordered) → old.is_gone ≡ gone → Stands s calls old.gate → IsLost now at s calls old before new after → Owns s old before new after
lost_own true now at s calls old new before after is stands h = record {
  behind = calls;
  stands = subst (λ (client : Client). Stands s calls client.gate) (sym (h.gone is)) stands;
  origin = ap (λ (client : Client). client.origin) (h.gone is);
  told = parting_unless old.is_gone old.is_attached old.origin at (last_request (gate s calls));
  orders = h.orders;
  own = only_parting old.is_gone old.is_attached old.origin at (last_request (gate s calls));
}
lost_own false now at s calls old new before after is stands h = record {
  behind = End ∷ calls;
  stands = (h.stays is).gate;
  origin = ap (λ (client : Client). client.origin) (h.stays is).rest;
  told = parting_unless old.is_gone old.is_attached old.origin at (last_request (gate s calls));
  orders = h.orders;
  own = only_parting old.is_gone old.is_attached old.origin at (last_request (gate s calls));
}

anew_gate : (again : Bool) (asked : Asked) (c : Client) → (anew_if again asked c).gate ≡ c.gate
anew_gate true asked c = refl
anew_gate false asked c = refl

anew_origin : (again : Bool) (asked : Asked) (c : Client) → (anew_if again asked c).origin ≡ c.origin
anew_origin true asked c = refl
anew_origin false asked c = refl

pub words_own : (lost : ℕ) (refused : Bool) (now : ℕ) (at : Moment) (s : Settings) (calls : List Call) (old new : Client) (before after : Ordered) → Stands s calls old.gate → HearsNode lost refused now at s calls old before new after → Owns s old before new after
words_own lost refused now at s calls old new before after stands h =
    let again = may_be_lost lost old in
    let asked = now_asked before now old in
    let held = held_if refused (gate s calls).waiting old in
    record {
      behind = calls;
      stands = subst (λ held. Stands s calls held) (sym (ap (λ (client : Client). client.gate) h.client ∙ anew_gate again asked held)) stands;
      origin = ap (λ (client : Client). client.origin) h.client ∙ anew_origin again asked held;
      told = if again then asks_of old.origin at (gate s calls).waiting else [];
      orders = h.orders;
      own = only_again again old.origin at (gate s calls).waiting;
    }

kept_own : (timeout now : ℕ) (at : Moment) (s : Settings) (calls : List Call) (old new : Client) (before after : Ordered) → Stands s calls old.gate → IsKept timeout now at s calls old before new after → Owns s old before new after
kept_own timeout now at s calls old new before after stands k =
    let again = is_stuck timeout now old in
    let asked = now_asked k.told now old in
    let ping = k.asked.ping in
    let asks = if again then asks_of old.origin at (gate s calls).waiting else [] in
    record {
      behind = calls;
      stands = subst (λ held. Stands s calls held) (sym (ap (λ (client : Client). client.gate) k.client ∙ anew_gate again asked k.pinged ∙ ap (λ (client : Client). client.gate) k.asked.is_known)) stands;
      origin = ap (λ (client : Client). client.origin) k.client ∙ anew_origin again asked k.pinged ∙ ap (λ (client : Client). client.origin) k.asked.is_known;
      told = ping ++ asks;
      orders =
          k.orders
          ∙ ap (λ (orders : Ordered). ordered orders asks) k.asked.orders
          ∙ ap (λ (items : List Order). record before { items = items }) (append_assoc before.items ping asks);
      own = only_append old.origin ping asks (only_ping old.origin (is_silent old now) ping k.asked.is_ping) (only_again again old.origin at (gate s calls).waiting);
    }

-- a client that is too slow is told so, and then it is lost
sent_own : (now : ℕ) (at : Moment) (s : Settings) (calls : List Call) (old new : Client) (before after : Ordered) → Stands s calls old.gate → IsSentOff now at s calls old before new after → Owns s old before new after
unfolding TellsOnly
sent_own now at s calls old new before after stands sent =
    let line = Write old.origin.2 sent.line in
    let h = lost_own old.is_gone now at s calls old new (ordered before (line ∷ [])) after refl stands sent.lost in
    record {
      behind = h.behind;
      stands = h.stands;
      origin = h.origin;
      told = line ∷ h.told;
      orders = h.orders ∙ ap (λ (items : List Order). record before { items = items }) (append_assoc before.items (line ∷ []) h.told);
      own = (refl, h.own);
    }

pub ticks_own : (overdue reads slow : Bool) (timeout now : ℕ) (at : Moment) (s : Settings) (calls : List Call) (old new : Client) (before after : Ordered) → is_overdue old now ≡ overdue → is_to_go (waited reads now old) now ≡ slow → Stands s calls old.gate → Ticks reads timeout now at s calls old before new after → Owns s old before new after
ticks_own true reads slow timeout now at s calls old new before after late is stands t =
    lost_own old.is_gone now at s calls old new before after refl stands (t.overdue late)
ticks_own false true true timeout now at s calls old new before after late is stands t =
    sent_own now at s calls old new before after stands (t.slow late is)
ticks_own false false true timeout now at s calls old new before after late is stands t =
    renamed s old (held_back now old) new before after refl (sent_own now at s calls (held_back now old) new before after stands (t.slow late is))
ticks_own false true false timeout now at s calls old new before after late is stands t =
    kept_own timeout now at s calls old new before after stands (t.kept late is)
ticks_own false false false timeout now at s calls old new before after late is stands t =
    renamed s old (held_back now old) new before after refl (kept_own timeout now at s calls (held_back now old) new before after stands (t.kept late is))

pub event_own : (event : Event) (now : ℕ) (at : Moment) (s : Settings) (calls : List Call) (old new : Client) (before after : Ordered) → Happens event now at old before new after → Stands s calls old.gate → Owns s old before new after
event_own (Speaks bytes due) now at s calls old new before after h stands =
    reads_own (is_shut old) bytes now at due s calls old new before after refl stands (h s calls stands)
event_own (Learns effect nick) now at s calls old new before after h stands =
    hears_own effect nick now at s calls old new before after (h s calls stands)
event_own Goes now at s calls old new before after h stands =
    lost_own old.is_gone now at s calls old new before after refl stands (h s calls stands)
event_own Dismissed now at s calls old new before after h stands =
    dismissed_own (is_leaving old) now at s calls old new before after refl stands (h s calls stands)
event_own (Words lost refused) now at s calls old new before after h stands =
    words_own lost refused now at s calls old new before after stands (h s calls stands)
event_own (Waits reads timeout) now at s calls old new before after h stands =
    ticks_own (is_overdue old now) reads (is_to_go (waited reads now old) now) timeout now at s calls old new before after refl refl stands (h s calls stands)

pub asks_own : AsksOwn
unfolding HappenAll TellsOnly
asks_own [] s calls old new before after (same, none) stands =
    let h = nothing_own s calls old new before after stands same none in record { told = h.told; orders = h.orders; own = h.own }
asks_own (h ∷ more) s calls old new before after (client, orders, happens, rest) stands =
    let first = event_own h.event h.now h.at s calls old client before orders happens stands in
    let last = asks_own more s first.behind client new orders after rest first.stands in
    record {
      told = first.told ++ last.told;
      orders =
          last.orders
          ∙ ap (λ (orders : Ordered). ordered orders last.told) first.orders
          ∙ ap (λ (items : List Order). record before { items = items }) (append_assoc before.items first.told last.told);
      own = only_append old.origin first.told last.told first.own (subst (λ (origin : Origin). TellsOnly origin last.told) first.origin last.own);
    }

-- What waits of a client after one call waited before, or was sent by it.
use Rattle.std.proofs.Common.{◌≡◌, ◌∙◌, ◌++◌, ℕ, Bool, true, false, List, [], ◌∷◌, Option, refl, sym, ap, subst, ⊎_elim}
use Rattle.std.specs.Prelude.{◌||◌, if◌then◌else◌}
use Rattle.std.proofs.lemmas.List.{append_assoc, append-nil}
use Rattle.wire_bytes.specs.declared.moment.Moment.{Moment}
use Rattle.client_gate.specs.declared.fed.Fed.{Fed}
use Rattle.client_gate.specs.declared.request.Request.{Request}
use Rattle.client_gate.specs.declared.settings.Settings.{Settings}
use Rattle.client_gate.specs.Calls.{Call, End, Feed, Hear, Refused, Stands, fed_answer, gate}
use Rattle.client_gate.specs.Gates.{GateEffect, Given, given_effect, is_turned_down, last_request}
use Rattle.client_gate.specs.Answers.{given_in}
use Rattle.driver.specs.declared.client.Client.{Client}
use Rattle.driver.specs.declared.order.Order.{Order}
use Rattle.driver.specs.Clients.{asked_by, is_cut, is_leaving, is_shut, is_some_asked, last_asks, parting_unless, passed, written}
use Rattle.driver.specs.Leaving.{IsDismissed, Leaves}
use Rattle.driver.specs.Lost.{AreAmong}
use Rattle.driver.specs.Once.{numbers_of, numbers_told}
use Rattle.driver.specs.Serving.{HasPassed, Hears, HearsEffect, IsCutOff, IsLost, IsParted, PartsIf, Receives, TakesBy, ended, ended_if, is_done}
use Rattle.driver.specs.Telling.{Ordered, ordered}
use Rattle.driver.proofs.Asking.{told_asked}
use Rattle.driver.proofs.AskedOnce.{told_append, told_by, told_written}
use Rattle.driver.proofs.Among.{among_all, among_as, among_both, among_left, among_then, closed_told, end_waiting, ended_told, feed_waiting, from_as, hear_waiting, refused_waiting, waiting_of}

-- What waits of a client waited before, or was sent meanwhile.
pub record Retells (s : Settings) (calls : List Call) (before : Ordered) (new : Client) (after : Ordered) : Type 0 where
  pub behind : List Call
  pub stands : Stands s behind new.gate
  pub told : List Order
  pub orders : after ≡ ordered before told
  pub among : AreAmong (waiting_of s behind) (waiting_of s calls ++ numbers_told told)

passed_told : (c : Client) (at : Moment) (last : Option Request) (fed : Fed) → numbers_told (passed c at last fed) ≡ numbers_of fed.requests.items ++ numbers_told (if is_cut fed then parting_unless c.is_gone (c.is_attached || is_some_asked fed.requests.items) c.origin at last else [])
passed_told c at last fed =
    let bytes = written c.is_gone c.origin.2 fed.reply in
    let asks = asked_by c at fed.requests.items in
    let end = if is_cut fed then parting_unless c.is_gone (c.is_attached || is_some_asked fed.requests.items) c.origin at last else [] in
    told_append (bytes ++ asks) end
    ∙ ap (λ (numbers : List ℕ). numbers ++ numbers_told end) (told_append bytes asks ∙ ap (λ (numbers : List ℕ). numbers ++ numbers_told asks) (told_written c.is_gone c.origin.2 fed.reply) ∙ told_by c at fed.requests.items)

fed_told : (s : Settings) (calls behind : List Call) (c : Client) (at : Moment) (fed : Fed) → AreAmong (waiting_of s behind) (waiting_of s calls ++ numbers_of fed.requests.items) → AreAmong (waiting_of s (ended_if (is_cut fed) c.is_gone behind)) (waiting_of s calls ++ numbers_told (passed c at (last_request (gate s behind)) fed))
fed_told s calls behind c at fed first =
    let attached = c.is_attached || is_some_asked fed.requests.items in
    let end = if is_cut fed then parting_unless c.is_gone attached c.origin at (last_request (gate s behind)) else [] in
    let asked = numbers_of fed.requests.items in
    among_as (waiting_of s (ended_if (is_cut fed) c.is_gone behind)) (waiting_of s calls ++ (asked ++ numbers_told end)) (waiting_of s calls ++ numbers_told (passed c at (last_request (gate s behind)) fed))
    (ap (λ (numbers : List ℕ). waiting_of s calls ++ numbers) (sym (passed_told c at (last_request (gate s behind)) fed)))
    (among_both (waiting_of s calls) (waiting_of s behind) (waiting_of s (ended_if (is_cut fed) c.is_gone behind)) asked (numbers_told end) first
    (closed_told (is_cut fed) c.is_gone attached s behind c.origin at))

given_as : (s : Settings) (calls behind : List Call) (answer : Given) (fed : Fed) → given_in fed ≡ answer → AreAmong (waiting_of s behind) (waiting_of s calls ++ numbers_of answer.requests) → AreAmong (waiting_of s behind) (waiting_of s calls ++ numbers_of fed.requests.items)
given_as s calls behind answer fed is some =
    subst (λ (given : Given). AreAmong (waiting_of s behind) (waiting_of s calls ++ numbers_of given.requests)) (sym is) some

passed_retells : (s : Settings) (calls behind : List Call) (answer : Given) (now : ℕ) (at : Moment) (c new : Client) (before after : Ordered) → AreAmong (waiting_of s behind) (waiting_of s calls ++ numbers_of answer.requests) → HasPassed s behind answer now at c before new after → Retells s calls before new after
passed_retells s calls behind answer now at c new before after some h = record {
  behind = ended_if (is_cut h.fed) c.is_gone behind;
  stands = h.stands.gate;
  told = passed c at (last_request (gate s behind)) h.fed;
  orders = h.orders;
  among = fed_told s calls behind c at h.fed (given_as s calls behind answer h.fed h.is some);
}

-- it is closed
parted_retells : (s : Settings) (calls behind : List Call) (at : Moment) (c new : Client) (before after : Ordered) → waiting_of s behind ≡ waiting_of s calls → IsParted at s behind c before new after → Retells s calls before new after
parted_retells s calls behind at c new before after same h =
    let told = parting_unless c.is_gone c.is_attached c.origin at (last_request (gate s behind)) in
    record {
      behind = ended c.is_gone behind;
      stands = h.stands.gate;
      told = told;
      orders = h.orders;
      among =
          subst (λ (numbers : List ℕ). AreAmong (waiting_of s (ended c.is_gone behind)) (numbers ++ numbers_told told)) same
          (ended_told c.is_gone c.is_attached s behind c.origin at);
    }

cut_retells : (s : Settings) (calls : List Call) (at : Moment) (c new : Client) (before after : Ordered) → IsCutOff s calls at c before new after → Retells s calls before new after
cut_retells s calls at c new before after h = parted_retells s calls (Refused ∷ calls) at c new before after (refused_waiting s calls) h

-- nothing changed
pub nothing_retells : (s : Settings) (calls : List Call) (old new : Client) (before after : Ordered) → Stands s calls old.gate → new ≡ old → after ≡ before → Retells s calls before new after
nothing_retells s calls old new before after stands same none = record {
  behind = calls;
  stands = subst (λ (client : Client). Stands s calls client.gate) (sym same) stands;
  told = [];
  orders = none ∙ sym (ap (λ (items : List Order). record before { items = items }) (append-nil before.items));
  among = among_left (waiting_of s calls) [];
}

-- what is sent first, and then
pub both_retell : (s : Settings) (calls : List Call) (before between after : Ordered) (client new : Client) → (first : Retells s calls before client between) → Retells s first.behind between new after → Retells s calls before new after
both_retell s calls before between after client new first last = record {
  behind = last.behind;
  stands = last.stands;
  told = first.told ++ last.told;
  orders =
      last.orders
      ∙ ap (λ (orders : Ordered). ordered orders last.told) first.orders
      ∙ ap (λ (items : List Order). record before { items = items }) (append_assoc before.items first.told last.told);
  among =
      among_as (waiting_of s last.behind) (waiting_of s calls ++ (numbers_told first.told ++ numbers_told last.told)) (waiting_of s calls ++ numbers_told (first.told ++ last.told))
      (ap (λ (numbers : List ℕ). waiting_of s calls ++ numbers) (sym (told_append first.told last.told)))
      (among_both (waiting_of s calls) (waiting_of s first.behind) (waiting_of s last.behind) (numbers_told first.told) (numbers_told last.told) first.among last.among);
}

parts_retell : (parts : Bool) (at : Moment) (s : Settings) (calls : List Call) (old new : Client) (before after : Ordered) → Stands s calls old.gate → PartsIf parts at s calls old before new after → Retells s calls before new after
parts_retell false at s calls old new before after stands (same, none) = nothing_retells s calls old new before after stands same none
parts_retell true at s calls old new before after stands h = parted_retells s calls calls at old new before after refl h

takes_retell : (wrong : Bool) (answer : Given) (now : ℕ) (at : Moment) (due : ℕ) (s : Settings) (calls behind : List Call) (fed : Fed) (c new : Client) (before after : Ordered) → AreAmong (waiting_of s behind) (waiting_of s calls ++ numbers_of answer.requests) → given_in fed ≡ answer → TakesBy wrong s behind fed now at due c before new after → Retells s calls before new after
takes_retell false answer now at due s calls behind fed c new before after some is (orders, stands) =
    passed_retells s calls behind answer now at c new before after some (record { fed = fed; is = is; orders = orders; stands = stands })
takes_retell true answer now at due s calls behind fed c new before after some is (orders, stands) = record {
  behind = behind;
  stands = stands.gate;
  told = asked_by c at fed.requests.items;
  orders = orders;
  among =
      among_as (waiting_of s behind) (waiting_of s calls ++ numbers_of fed.requests.items) (waiting_of s calls ++ numbers_told (asked_by c at fed.requests.items))
      (ap (λ (numbers : List ℕ). waiting_of s calls ++ numbers) (sym (told_by c at fed.requests.items)))
      (given_as s calls behind answer fed is some);
}

feed_among : (s : Settings) (calls : List Call) (bytes : List ℕ) → AreAmong (waiting_of s (Feed bytes ∷ calls)) (waiting_of s calls ++ numbers_of (fed_answer s calls bytes).requests)
feed_among s calls bytes =
    let all = waiting_of s calls ++ numbers_of (fed_answer s calls bytes).requests in
    from_as all (waiting_of s (Feed bytes ∷ calls)) all (feed_waiting s calls bytes) (among_all all)

pub reads_retell : (shut : Bool) (bytes : List ℕ) (now : ℕ) (at : Moment) (due : ℕ) (s : Settings) (calls : List Call) (old new : Client) (before after : Ordered) → is_shut old ≡ shut → Stands s calls old.gate → Receives bytes now at due s calls old before new after → Retells s calls before new after
reads_retell true bytes now at due s calls old new before after is stands h =
    let (same, none) = h.shut is in nothing_retells s calls old new before after stands same none
reads_retell false bytes now at due s calls old new before after is stands h =
    ⊎_elim
    (λ p. takes_retell (is_turned_down (gate s (Feed bytes ∷ calls)).phase) (fed_answer s calls bytes) now at due s calls (Feed bytes ∷ calls) p.fed _ new before after (feed_among s calls bytes) p.is p.takes)
    (λ p. cut_retells s calls at _ new before after p)
    (h.hears is)

pub effect_retells : (e : GateEffect) (nick : List ℕ) (now : ℕ) (at : Moment) (s : Settings) (calls : List Call) (old new : Client) (before after : Ordered) → HearsEffect e nick now at s calls old before new after → Retells s calls before new after
effect_retells e nick now at s calls old new before after h =
    ⊎_elim
    (λ p.
    passed_retells s calls (Hear e ∷ calls) (given_effect s e) now at _ new before after
    (among_then (waiting_of s (Hear e ∷ calls)) (waiting_of s calls) (waiting_of s calls ++ numbers_of (given_effect s e).requests) (hear_waiting s calls e) (among_left (waiting_of s calls) _)) p)
    (λ p. cut_retells s calls at _ new before after p)
    h

pub hears_retell : (e : GateEffect) (nick : List ℕ) (now : ℕ) (at : Moment) (s : Settings) (calls : List Call) (old new : Client) (before after : Ordered) → Hears e nick now at s calls old before new after → Retells s calls before new after
hears_retell e nick now at s calls old new before after h =
    let first = effect_retells e nick now at s calls old h.told before h.orders h.hears in
    both_retell s calls before h.orders after h.told new first
    (parts_retell (is_done (gate s first.behind).waiting h.told) at s first.behind h.told new h.orders after first.stands (h.parts first.behind first.stands))

leaves_retell : (now : ℕ) (at : Moment) (s : Settings) (calls : List Call) (old new : Client) (before after : Ordered) → Leaves now at s calls old before new after → Retells s calls before new after
leaves_retell now at s calls old new before after h =
    let last = last_request (gate s calls) in
    let all = waiting_of s calls ++ numbers_told (last_asks old.origin at last) in
    let first : Retells s calls before h.told h.orders = record {
      behind = End ∷ calls;
      stands = h.stands.gate;
      told = last_asks old.origin at last;
      orders = h.asks;
      among =
          from_as all (waiting_of s (End ∷ calls)) all
          (end_waiting s calls ∙ ap (λ (numbers : List ℕ). waiting_of s calls ++ numbers) (sym (told_asked old.origin at last)))
          (among_all all);
    } in
    both_retell s calls before h.orders after h.told new first
    (parts_retell (is_done (gate s (End ∷ calls)).waiting h.told) at s (End ∷ calls) h.told new h.orders after h.stands.gate h.parts)

pub dismissed_retells : (leaves : Bool) (now : ℕ) (at : Moment) (s : Settings) (calls : List Call) (old new : Client) (before after : Ordered) → is_leaving old ≡ leaves → Stands s calls old.gate → IsDismissed now at s calls old before new after → Retells s calls before new after
dismissed_retells true now at s calls old new before after is stands h =
    let (same, none) = h.leaving is in nothing_retells s calls old new before after stands same none
dismissed_retells false now at s calls old new before after is stands h = leaves_retell now at s calls old new before after (h.leaves is)

pub lost_retells : (gone : Bool) (now : ℕ) (at : Moment) (s : Settings) (calls : List Call) (old new : Client) (before after : Ordered) → old.is_gone ≡ gone → Stands s calls old.gate → IsLost now at s calls old before new after → Retells s calls before new after
lost_retells true now at s calls old new before after is stands h = record {
  behind = calls;
  stands = subst (λ (client : Client). Stands s calls client.gate) (sym (h.gone is)) stands;
  told = parting_unless old.is_gone old.is_attached old.origin at (last_request (gate s calls));
  orders = h.orders;
  among = among_left (waiting_of s calls) _;
}
lost_retells false now at s calls old new before after is stands h = record {
  behind = End ∷ calls;
  stands = (h.stays is).gate;
  told = parting_unless old.is_gone old.is_attached old.origin at (last_request (gate s calls));
  orders = h.orders;
  among =
      subst (λ (gone : Bool). AreAmong (waiting_of s (End ∷ calls)) (waiting_of s calls ++ numbers_told (parting_unless gone old.is_attached old.origin at (last_request (gate s calls))))) (sym is)
      (ended_told false old.is_attached s calls old.origin at);
}

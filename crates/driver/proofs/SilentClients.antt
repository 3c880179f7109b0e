-- A client that registered is closed for its silence alone, as long as it is not leaving.
use Rattle.std.proofs.Common.{◌≡◌, ◌∙◌, ◌⊎◌, inl, inr, ℕ, Bool, true, false, not, ◌&&◌, ◌||◌, List, [], Option, Some, None, refl, sym, ap, ⊎_elim}
use Rattle.std.specs.Prelude.{if◌then◌else◌, is_some}
use Rattle.wire_bytes.specs.declared.moment.Moment.{Moment}
use Rattle.client_gate.specs.declared.request.Request.{Request}
use Rattle.client_gate.specs.declared.settings.Settings.{Settings}
use Rattle.client_gate.specs.Calls.{Call, Stands, gate}
use Rattle.client_gate.specs.Gates.{GateEffect, Given, is_turned_down}
use Rattle.driver.specs.declared.client.Asked.{Asked}
use Rattle.driver.specs.declared.client.Client.{Client}
use Rattle.driver.specs.declared.client.refusal.Refusal.{Refusal}
use Rattle.driver.specs.declared.timer.Timer.{Timer}
use Rattle.driver.specs.Asking.{anew_if, held_if}
use Rattle.driver.specs.Clients.{has_left, is_cut, is_leaving, is_shut, is_some_asked, leaves_since}
use Rattle.driver.specs.Leaving.{is_late, is_overdue}
use Rattle.driver.specs.Monitors.{at}
use Rattle.driver.specs.Once.{Dismissed, Happens}
use Rattle.driver.specs.Serving.{HearsEffect, IsLost, PartsIf, Receives, TakesBy}
use Rattle.driver.specs.Silence.{waited}
use Rattle.driver.specs.SilentClients.{Silence, read_until}
use Rattle.driver.specs.Telling.{Ordered}
use Rattle.driver.proofs.AskedOnce.{hear_asks_none}
use Rattle.driver.proofs.GoneClients.{not_both, parted_gone}

-- A client after an event is shut, or it is as it was.

pub record Same (old new : Client) : Type 0 where
  pub attached : new.is_attached ≡ old.is_attached
  pub heard : new.heard ≡ old.heard
  pub pinged : new.is_pinged ≡ old.is_pinged
  pub opened : is_shut new ≡ false → is_shut old ≡ false

abbrev pub Stays : Client → Client → Type 0
Stays old new = (is_shut new ≡ true) ⊎ Same old new

gone_shut : (c : Client) → c.is_gone ≡ true → is_shut c ≡ true
gone_shut c is = ap (λ (gone : Bool). (gone || is_some c.leaving) || is_some c.refused) is

-- whatever is joined to what is false
or_open : (a b : Bool) → (a || b) ≡ false → a ≡ false
or_open false b is = refl
or_open true b is = absurd (cc is)

pub same_same : (old new : Client) → new ≡ old → Same old new
same_same old new same = record {
  attached = ap (λ (c : Client). c.is_attached) same;
  heard = ap (λ (c : Client). c.heard) same;
  pinged = ap (λ (c : Client). c.is_pinged) same;
  opened = λ is. sym (ap (λ (c : Client). is_shut c) same) ∙ is;
}

pub same_both : (old mid new : Client) → Same old mid → Same mid new → Same old new
same_both old mid new first last = record {
  attached = last.attached ∙ first.attached;
  heard = last.heard ∙ first.heard;
  pinged = last.pinged ∙ first.pinged;
  opened = λ is. first.opened (last.opened is);
}

-- a client that leaves was not shut before if it is not afterwards
cut_open : (gone cut : Bool) (leaving after : Option Timer) (refused : Bool) → (is_some after ≡ false → is_some leaving ≡ false) → (((gone || cut) || is_some after) || refused) ≡ false → ((gone || is_some leaving) || refused) ≡ false
cut_open true cut leaving after refused stays is = absurd (cc is)
cut_open false true leaving after refused stays is = absurd (cc is)
cut_open false false leaving None refused stays is = ap (λ (b : Bool). b || refused) (stays refl) ∙ is
cut_open false false leaving (Some since) refused stays is = absurd (cc is)

since_stays : (left : Bool) (now : ℕ) (leaving : Option Timer) → is_some (leaves_since left now leaving) ≡ false → is_some leaving ≡ false
since_stays true now leaving is = absurd (cc is)
since_stays false now leaving is = is

or_none : (attached asked : Bool) → asked ≡ false → (attached || asked) ≡ attached
or_none true asked is = refl
or_none false asked is = is

pub fed_stays : (e : GateEffect) (nick : List ℕ) (now : ℕ) (at : Moment) (s : Settings) (calls : List Call) (old new : Client) (before after : Ordered) → HearsEffect e nick now at s calls old before new after → Stays old new
fed_stays e nick now at s calls old new before after h =
    ⊎_elim
    (λ p.
    let none : p.fed.requests.items ≡ [] = ap (λ (given : Given). given.requests) p.is ∙ hear_asks_none s e in
    inr (record {
      attached =
          ap (λ (c : Client). c.is_attached) p.stands.rest
          ∙ or_none old.is_attached (is_some_asked p.fed.requests.items) (ap (λ (requests : List Request). is_some_asked requests) none);
      heard = ap (λ (c : Client). c.heard) p.stands.rest;
      pinged = ap (λ (c : Client). c.is_pinged) p.stands.rest;
      opened = λ is.
          cut_open old.is_gone (is_cut p.fed) old.leaving (leaves_since (has_left p.fed) now old.leaving) (is_some old.refused)
          (since_stays (has_left p.fed) now old.leaving)
          (sym (ap (λ (c : Client). is_shut c) p.stands.rest) ∙ is);
    }))
    (λ p. inl (gone_shut new (parted_gone s _ at _ new before after p)))
    h

pub stays_both : (old mid new : Client) → Stays old mid → (is_shut mid ≡ true → is_shut new ≡ true) → Stays mid new → Stays old new
stays_both old mid new first shut last =
    ⊎_elim
    (λ closed. inl (shut closed))
    (λ one. ⊎_elim (λ closed. inl closed) (λ more. inr (same_both old mid new one more)) last)
    first

pub parts_stay : (parts : Bool) (s : Settings) (calls : List Call) (at : Moment) (old new : Client) (before after : Ordered) → PartsIf parts at s calls old before new after → Stays old new
parts_stay false s calls at old new before after (same, none) = inr (same_same old new same)
parts_stay true s calls at old new before after h = inl (gone_shut new (parted_gone s calls at old new before after h))

pub parts_shut : (parts : Bool) (s : Settings) (calls : List Call) (at : Moment) (old new : Client) (before after : Ordered) → PartsIf parts at s calls old before new after → is_shut old ≡ true → is_shut new ≡ true
parts_shut false s calls at old new before after (same, none) is = ap (λ (c : Client). is_shut c) same ∙ is
parts_shut true s calls at old new before after h is = gone_shut new (parted_gone s calls at old new before after h)

pub lost_shut : (gone : Bool) (now : ℕ) (at : Moment) (s : Settings) (calls : List Call) (old new : Client) (before after : Ordered) → old.is_gone ≡ gone → IsLost now at s calls old before new after → is_shut new ≡ true
lost_shut true now at s calls old new before after is h = gone_shut new (ap (λ (c : Client). c.is_gone) (h.gone is) ∙ is)
lost_shut false now at s calls old new before after is h = gone_shut new (ap (λ (c : Client). c.is_gone) (h.stays is).rest)

leaving_shut : (gone : Bool) (leaving : Option Timer) (since : Timer) (refused : Bool) → leaving ≡ Some since → ((gone || is_some leaving) || refused) ≡ true
leaving_shut true leaving since refused is = refl
leaving_shut false leaving since refused is = ap (λ (leaving : Option Timer). is_some leaving || refused) is

pub dismissed_stays : (leaves : Bool) (now : ℕ) (at : Moment) (s : Settings) (calls : List Call) (old new : Client) (before after : Ordered) → is_leaving old ≡ leaves → Happens Dismissed now at old before new after → Stands s calls old.gate → Stays old new
dismissed_stays true now at s calls old new before after is h stands =
    let (same, none) = (h s calls stands).leaving is in inr (same_same old new same)
dismissed_stays false now at s calls old new before after is h stands =
    let l = (h s calls stands).leaves is in
    let leaving : is_shut l.told ≡ true =
    leaving_shut l.told.is_gone l.told.leaving (record { since = now }) (is_some l.told.refused) (ap (λ (c : Client). c.leaving) l.stands.rest)
    in
    inl (parts_shut _ s _ at l.told new l.orders after l.parts leaving)

pub anew_same : (again : Bool) (asked : Asked) (c : Client) → Same c (anew_if again asked c)
anew_same true asked c = record { attached = refl; heard = refl; pinged = refl; opened = λ is. is }
anew_same false asked c = record { attached = refl; heard = refl; pinged = refl; opened = λ is. is }

pub held_same : (refused : Bool) (waiting : List Request) (c : Client) → Same c (held_if refused waiting c)
held_same refused waiting c = record { attached = refl; heard = refl; pinged = refl; opened = λ is. is }

-- The silence of a client, as the driver knows it.
pub record Is (c : Client) (silence : Silence) : Type 0 where
  pub heard : c.heard ≡ at silence.since
  pub pinged : c.is_pinged ≡ silence.asked

-- that of a client that registered and is not shut
abbrev pub Knows : Client → Silence → Type 0
Knows c silence = c.is_attached ≡ true → is_shut c ≡ false → Is c silence

pub stays_knows : (old new : Client) (silence : Silence) → Stays old new → Knows old silence → Knows new silence
stays_knows old new silence stays knows attached opened =
    ⊎_elim
    (λ closed. not_both (is_shut new) (Is new silence) closed opened)
    (λ (same : Same old new).
    let is = knows (sym same.attached ∙ attached) (same.opened opened) in
    record { heard = same.heard ∙ is.heard; pinged = same.pinged ∙ is.pinged })
    stays

-- it speaks
taken_is : (down : Bool) (s : Settings) (calls : List Call) (fed : _) (now : ℕ) (at : Moment) (due : ℕ) (c new : Client) (before after : Ordered) (silence : Silence) → TakesBy down s calls fed now at due c before new after → Is c silence → Is new silence
taken_is false s calls fed now at due c new before after silence (orders, stands) is =
    record { heard = ap (λ (c : Client). c.heard) stands.rest ∙ is.heard; pinged = ap (λ (c : Client). c.is_pinged) stands.rest ∙ is.pinged }
taken_is true s calls fed now at due c new before after silence (orders, stands) is =
    record { heard = ap (λ (c : Client). c.heard) stands.rest ∙ is.heard; pinged = ap (λ (c : Client). c.is_pinged) stands.rest ∙ is.pinged }

pub spoke_knows : (shut : Bool) (bytes : List ℕ) (now : ℕ) (at : Moment) (due : ℕ) (s : Settings) (calls : List Call) (old new : Client) (before after : Ordered) → is_shut old ≡ shut → Receives bytes now at due s calls old before new after → Knows new (record { since = now; asked = false })
spoke_knows true bytes now at due s calls old new before after is r attached opened =
    let (same, none) = r.shut is in
    not_both (is_shut new) (Is new _) (ap (λ (c : Client). is_shut c) same ∙ is) opened
spoke_knows false bytes now at due s calls old new before after is r attached opened =
    ⊎_elim
    (λ t. taken_is (is_turned_down (gate s _).phase) s _ t.fed now at due _ new before after (record { since = now; asked = false }) t.takes (record { heard = refl; pinged = refl }))
    (λ p. not_both (is_shut new) (Is new (record { since = now; asked = false })) (gone_shut new (parted_gone s _ at _ new before after p)) opened)
    (r.hears is)

-- Time passes.

-- what a client that is not shut has
pub shut_none : (gone : Bool) (leaving : Option Timer) (refused : Option Refusal) → ((gone || is_some leaving) || is_some refused) ≡ false → (gone ≡ false) × (leaving ≡ None) × (refused ≡ None)
shut_none true leaving refused is = absurd (cc is)
shut_none false (Some since) refused is = absurd (cc is)
shut_none false None (Some refusal) is = absurd (cc is)
shut_none false None None is = (refl, refl, refl)

and_no : (b : Bool) → (b && false) ≡ false
and_no true = refl
and_no false = refl

pub late_none : (c : Client) (now : ℕ) → c.leaving ≡ None → is_overdue c now ≡ false
late_none c now is = ap (λ (leaving : Option Timer). not c.is_gone && is_late leaving now) is ∙ and_no (not c.is_gone)

pub where_read : (reads : Bool) (now : ℕ) (c : Client) (silence : Silence) → c.is_attached ≡ true → Is c silence → Is (waited reads now c) (read_until reads now silence)
where_read true now c silence attached is = record { heard = is.heard; pinged = is.pinged }
where_read false now c silence attached is = record {
  heard = ap (λ (attached : Bool). if attached then at now else c.heard) attached;
  pinged = is.pinged;
}

pub waited_shut : (reads : Bool) (now : ℕ) (c : Client) → is_shut (waited reads now c) ≡ is_shut c
waited_shut true now c = refl
waited_shut false now c = refl

pub waited_attached : (reads : Bool) (now : ℕ) (c : Client) → (waited reads now c).is_attached ≡ c.is_attached
waited_attached true now c = refl
waited_attached false now c = refl

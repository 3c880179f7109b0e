-- Orders that ask for a client's requests at its own node alone.
use Rattle.std.proofs.Common.{◌≡◌, ◌∙◌, ◌++◌, ℕ, Bool, true, false, ◌||◌, List, [], ◌∷◌, Option, Some, None, refl, sym, ap, subst}
use Rattle.std.specs.Prelude.{if◌then◌else◌}
use Rattle.std.specs.Global.{Vec}
use Rattle.std.proofs.lemmas.List.{append_assoc, append-nil}
use Rattle.wire_bytes.specs.declared.moment.Moment.{Moment}
use Rattle.wire_bytes.specs.declared.origin.Origin.{Origin}
use Rattle.client_gate.specs.declared.fed.Fed.{Fed}
use Rattle.client_gate.specs.declared.request.Request.{Request}
use Rattle.client_gate.specs.declared.settings.Settings.{Settings}
use Rattle.client_gate.specs.Calls.{Call, Refused, Stands, gate}
use Rattle.client_gate.specs.Gates.{Given, last_request}
use Rattle.driver.specs.declared.client.Client.{Client}
use Rattle.driver.specs.declared.order.Order.{Order}
use Rattle.driver.specs.Clients.{asked_all, asked_by, asks_of, is_cut, is_some_asked, left_news, name_asked, parting_unless, passed, write_some, written}
use Rattle.driver.specs.Cycling.{reworded}
use Rattle.driver.specs.Once.{TellsOnly}
use Rattle.driver.specs.Serving.{HasPassed, IsCutOff, IsParted, PartsIf, ended, ended_if}
use Rattle.driver.specs.Silence.{IsPing}
use Rattle.driver.specs.Telling.{Ordered, ordered}

-- for orders after others
pub only_append : (origin : Origin) (xs ys : List Order) → TellsOnly origin xs → TellsOnly origin ys → TellsOnly origin (xs ++ ys)
unfolding TellsOnly
only_append origin [] ys own more = more
only_append origin (x ∷ xs) ys (is, own) more = (is, only_append origin xs ys own more)

only_asks : (origin : Origin) (at : Moment) (requests : List Request) → TellsOnly origin (asks_of origin at requests)
unfolding TellsOnly asks_of
only_asks origin at [] = tt
only_asks origin at (request ∷ requests) = ((refl, refl), only_asks origin at requests)

pub only_all : (attached : Bool) (origin : Origin) (name : Option (List ℕ)) (at : Moment) (requests : List Request) → TellsOnly origin (asked_all attached origin name at requests)
unfolding TellsOnly asked_all
only_all attached origin name at [] = tt
only_all true origin name at (request ∷ requests) = only_asks origin at (request ∷ requests)
only_all false origin name at (request ∷ requests) = (refl, only_asks origin at (request ∷ requests))

only_some : (origin : Origin) (bytes : Vec ℕ) (items : List ℕ) → TellsOnly origin (write_some origin.2 bytes items)
unfolding TellsOnly
only_some origin bytes [] = tt
only_some origin bytes (byte ∷ more) = (refl, tt)

only_written : (origin : Origin) (gone : Bool) (bytes : Vec ℕ) → TellsOnly origin (written gone origin.2 bytes)
unfolding TellsOnly
only_written origin true bytes = tt
only_written origin false bytes = only_some origin bytes bytes.items

-- it may be logged that a client left
pub only_left : (attached : Bool) (origin : Origin) → TellsOnly origin (left_news attached origin)
unfolding TellsOnly
only_left true origin = (refl, tt)
only_left false origin = tt

pub only_parting : (gone attached : Bool) (origin : Origin) (at : Moment) (last : Option Request) → TellsOnly origin (parting_unless gone attached origin at last)
unfolding TellsOnly parting_unless
only_parting true attached origin at last = tt
only_parting false true origin at None = (refl, (refl, tt))
only_parting false true origin at (Some request) = (refl, (refl, ((refl, refl), tt)))
only_parting false false origin at None = (refl, tt)
only_parting false false origin at (Some request) = (refl, ((refl, refl), tt))

only_end : (close gone attached : Bool) (origin : Origin) (at : Moment) (last : Option Request) → TellsOnly origin (if close then parting_unless gone attached origin at last else [])
unfolding TellsOnly
only_end false gone attached origin at last = tt
only_end true gone attached origin at last = only_parting gone attached origin at last

pub only_passed : (c : Client) (at : Moment) (last : Option Request) (fed : Fed) → TellsOnly c.origin (passed c at last fed)
only_passed c at last fed =
    let bytes = written c.is_gone c.origin.2 fed.reply in
    let asks = asked_by c at fed.requests.items in
    let attached = c.is_attached || is_some_asked fed.requests.items in
    let end = if is_cut fed then parting_unless c.is_gone attached c.origin at last else [] in
    only_append c.origin (bytes ++ asks) end
    (only_append c.origin bytes asks (only_written c.origin c.is_gone fed.reply) (only_all c.is_attached c.origin (name_asked fed.requests.items) at (reworded c.channels c.parting fed.requests.items)))
    (only_end (is_cut fed) c.is_gone attached c.origin at last)

pub only_again : (again : Bool) (origin : Origin) (at : Moment) (waiting : List Request) → TellsOnly origin (if again then asks_of origin at waiting else [])
unfolding TellsOnly
only_again true origin at waiting = only_asks origin at waiting
only_again false origin at waiting = tt

pub only_ping : (origin : Origin) (b : Bool) (orders : List Order) → IsPing b origin.2 orders → TellsOnly origin orders
unfolding TellsOnly
only_ping origin false orders is = subst (λ (orders : List Order). TellsOnly origin orders) (sym is) tt
only_ping origin true orders (bytes, are, is) = subst (λ (orders : List Order). TellsOnly origin orders) (sym is) (refl, tt)

-- A client became another of the same origin, whose gate has had some calls, and what was ordered goes to its node.
pub record Owns (s : Settings) (old : Client) (before : Ordered) (new : Client) (after : Ordered) : Type 0 where
  pub behind : List Call
  pub stands : Stands s behind new.gate
  pub origin : new.origin ≡ old.origin
  pub told : List Order
  pub orders : after ≡ ordered before told
  pub own : TellsOnly old.origin told

pub passed_own : (s : Settings) (behind : List Call) (answer : Given) (now : ℕ) (at : Moment) (c new : Client) (before after : Ordered) → HasPassed s behind answer now at c before new after → Owns s c before new after
passed_own s behind answer now at c new before after h = record {
  behind = ended_if (is_cut h.fed) c.is_gone behind;
  stands = h.stands.gate;
  origin = ap (λ (client : Client). client.origin) h.stands.rest;
  told = passed c at (last_request (gate s behind)) h.fed;
  orders = h.orders;
  own = only_passed c at (last_request (gate s behind)) h.fed;
}

parted_own : (s : Settings) (behind : List Call) (at : Moment) (c new : Client) (before after : Ordered) → IsParted at s behind c before new after → Owns s c before new after
parted_own s behind at c new before after h = record {
  behind = ended c.is_gone behind;
  stands = h.stands.gate;
  origin = ap (λ (client : Client). client.origin) h.stands.rest;
  told = parting_unless c.is_gone c.is_attached c.origin at (last_request (gate s behind));
  orders = h.orders;
  own = only_parting c.is_gone c.is_attached c.origin at (last_request (gate s behind));
}

pub cut_own : (s : Settings) (calls : List Call) (at : Moment) (c new : Client) (before after : Ordered) → IsCutOff s calls at c before new after → Owns s c before new after
cut_own s calls at c new before after h = parted_own s (Refused ∷ calls) at c new before after h

-- for a client of the same origin
pub renamed : (s : Settings) (old c new : Client) (before after : Ordered) → c.origin ≡ old.origin → Owns s c before new after → Owns s old before new after
renamed s old c new before after same h = record {
  behind = h.behind;
  stands = h.stands;
  origin = h.origin ∙ same;
  told = h.told;
  orders = h.orders;
  own = subst (λ (origin : Origin). TellsOnly origin h.told) same h.own;
}

pub nothing_own : (s : Settings) (calls : List Call) (old new : Client) (before after : Ordered) → Stands s calls old.gate → new ≡ old → after ≡ before → Owns s old before new after
unfolding TellsOnly
nothing_own s calls old new before after stands same none = record {
  behind = calls;
  stands = subst (λ (client : Client). Stands s calls client.gate) (sym same) stands;
  origin = ap (λ (client : Client). client.origin) same;
  told = [];
  orders = none ∙ sym (ap (λ (items : List Order). record before { items = items }) (append-nil before.items));
  own = tt;
}

-- what is sent first, and then
pub both_own : (s : Settings) (old client new : Client) (before between after : Ordered) → Owns s old before client between → Owns s client between new after → Owns s old before new after
both_own s old client new before between after first last = record {
  behind = last.behind;
  stands = last.stands;
  origin = last.origin ∙ first.origin;
  told = first.told ++ last.told;
  orders =
      last.orders
      ∙ ap (λ (orders : Ordered). ordered orders last.told) first.orders
      ∙ ap (λ (items : List Order). record before { items = items }) (append_assoc before.items first.told last.told);
  own = only_append old.origin first.told last.told first.own (subst (λ (origin : Origin). TellsOnly origin last.told) first.origin last.own);
}

pub parts_own : (parts : Bool) (at : Moment) (s : Settings) (calls : List Call) (old new : Client) (before after : Ordered) → Stands s calls old.gate → PartsIf parts at s calls old before new after → Owns s old before new after
parts_own false at s calls old new before after stands (same, none) = nothing_own s calls old new before after stands same none
parts_own true at s calls old new before after stands h = parted_own s calls at old new before after h

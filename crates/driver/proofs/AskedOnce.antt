-- The requests of a client in orders are those that its gate numbers.
use Rattle.std.proofs.Common.{◌≡◌, ◌∙◌, ◌++◌, ℕ, Bool, true, false, ◌||◌, List, [], ◌∷◌, Option, Some, None, refl, sym, ap, subst}
use Rattle.std.specs.Prelude.{option_to_list, if◌then◌else◌}
use Rattle.std.specs.Global.{Vec}
use Rattle.std.proofs.lemmas.List.{append_assoc, append-nil, map-append}
use Rattle.std.proofs.lemmas.Grind.{flat_map-append}
use Rattle.machine_laws.specs.Origins.{same_origin}
use Rattle.wire_bytes.specs.declared.moment.Moment.{Moment}
use Rattle.wire_bytes.specs.declared.origin.Origin.{Origin}
use Rattle.buffer_commands.specs.declared.effect.Effect.TheVariants as effect
use Rattle.session_fence.specs.declared.effect.FenceEffect.TheVariants as fence
use Rattle.upstream_claim.specs.declared.effect.ClaimsEffect.TheVariants as claims
use Rattle.request_once.specs.declared.answer.Answer.TheVariants as answer
use Rattle.client_gate.specs.declared.fed.Fed.{Fed}
use Rattle.client_gate.specs.declared.request.Request.{Request}
use Rattle.client_gate.specs.declared.settings.Settings.{Settings}
use Rattle.client_gate.specs.Calls.{Call, Feed, Hear, Refused, Stands, fed_answer, gate}
use Rattle.client_gate.specs.Gates.{GateEffect, Given, given_effect, last_request}
use Rattle.client_gate.specs.Numbers.{all_requests}
use Rattle.driver.specs.declared.client.Client.{Client}
use Rattle.driver.specs.declared.order.Order.{Order}
use Rattle.driver.specs.Clients.{asked_all, asked_by, asks_of, is_cut, is_some_asked, name_asked, parting_unless, passed, welcome, write_some, written}
use Rattle.driver.specs.Cycling.{reworded}
use Rattle.driver.specs.Once.{TellsOnce, number_told, numbers_of, numbers_told}
use Rattle.driver.specs.Serving.{HasPassed, IsCutOff, IsParted, ended, ended_if}
use Rattle.driver.specs.Telling.{Ordered, ordered}
use Rattle.driver.proofs.Cycling.{numbers_kept}

-- the requests in orders, and in those after them
pub told_append : (xs ys : List Order) → numbers_told (xs ++ ys) ≡ numbers_told xs ++ numbers_told ys
told_append xs ys = flat_map-append number_told xs ys

-- the requests of a client, as they are sent
pub told_asks : (origin : Origin) (at : Moment) (requests : List Request) → numbers_told (asks_of origin at requests) ≡ numbers_of requests
unfolding asks_of
told_asks origin at [] = refl
told_asks origin at (request ∷ requests) = ap (λ numbers. request.number ∷ numbers) (told_asks origin at requests)

told_welcome : (attached : Bool) (origin : Origin) (name : Option (List ℕ)) → numbers_told (welcome attached origin name) ≡ []
told_welcome true origin name = refl
told_welcome false origin name = refl

told_all : (attached : Bool) (origin : Origin) (name : Option (List ℕ)) (at : Moment) (requests : List Request) → numbers_told (asked_all attached origin name at requests) ≡ numbers_of requests
unfolding asked_all
told_all attached origin name at [] = refl
told_all attached origin name at (request ∷ requests) =
    told_append (welcome attached origin name) (asks_of origin at (request ∷ requests))
    ∙ ap (λ numbers. numbers ++ numbers_told (asks_of origin at (request ∷ requests))) (told_welcome attached origin name)
    ∙ told_asks origin at (request ∷ requests)

-- as they are sent to the node
pub told_by : (c : Client) (at : Moment) (requests : List Request) → numbers_told (asked_by c at requests) ≡ numbers_of requests
told_by c at requests =
    told_all c.is_attached c.origin (name_asked requests) at (reworded c.channels c.parting requests) ∙ numbers_kept c.channels c.parting requests

told_some : (client : ℕ) (bytes : Vec ℕ) (items : List ℕ) → numbers_told (write_some client bytes items) ≡ []
told_some client bytes [] = refl
told_some client bytes (byte ∷ more) = refl

pub told_written : (gone : Bool) (client : ℕ) (bytes : Vec ℕ) → numbers_told (written gone client bytes) ≡ []
told_written true client bytes = refl
told_written false client bytes = told_some client bytes bytes.items

pub told_last : (attached : Bool) (origin : Origin) (at : Moment) (last : Option Request) → numbers_told (parting_unless false attached origin at last) ≡ numbers_of (option_to_list last)
unfolding parting_unless
told_last true origin at None = refl
told_last true origin at (Some request) = refl
told_last false origin at None = refl
told_last false origin at (Some request) = refl

-- a gate that is ended numbers what the parting sends
pub ended_once : (gone attached : Bool) (s : Settings) (calls : List Call) (origin : Origin) (at : Moment) → numbers_of (all_requests s (ended gone calls)) ≡ numbers_of (all_requests s calls) ++ numbers_told (parting_unless gone attached origin at (last_request (gate s calls)))
unfolding all_requests parting_unless
ended_once true attached s calls origin at = sym (append-nil (numbers_of (all_requests s calls)))
ended_once false attached s calls origin at =
    map-append (λ (request : Request). request.number) (all_requests s calls) (option_to_list (last_request (gate s calls)))
    ∙ ap (λ numbers. numbers_of (all_requests s calls) ++ numbers) (sym (told_last attached origin at (last_request (gate s calls))))

-- if it is closed
closed_once : (close gone attached : Bool) (s : Settings) (calls : List Call) (origin : Origin) (at : Moment) → numbers_of (all_requests s (ended_if close gone calls)) ≡ numbers_of (all_requests s calls) ++ numbers_told (if close then parting_unless gone attached origin at (last_request (gate s calls)) else [])
closed_once false gone attached s calls origin at = sym (append-nil (numbers_of (all_requests s calls)))
closed_once true gone attached s calls origin at = ended_once gone attached s calls origin at

-- what a gate answered is sent, if it numbered exactly that
numbered_once : (s : Settings) (calls : List Call) (c : Client) (at : Moment) (fed : Fed) (earlier : List ℕ) → numbers_of (all_requests s calls) ≡ earlier ++ numbers_of fed.requests.items → numbers_of (all_requests s (ended_if (is_cut fed) c.is_gone calls)) ≡ earlier ++ numbers_told (passed c at (last_request (gate s calls)) fed)
numbered_once s calls c at fed earlier is =
    let bytes = written c.is_gone c.origin.2 fed.reply in
    let asks = asked_by c at fed.requests.items in
    let attached = c.is_attached || is_some_asked fed.requests.items in
    let end = if is_cut fed then parting_unless c.is_gone attached c.origin at (last_request (gate s calls)) else [] in
    let requests = numbers_of fed.requests.items in
    let told =
    told_append (bytes ++ asks) end
    ∙ ap (λ numbers. numbers ++ numbers_told end) (told_append bytes asks ∙ ap (λ numbers. numbers ++ numbers_told asks) (told_written c.is_gone c.origin.2 fed.reply) ∙ told_by c at fed.requests.items)
    in
    closed_once (is_cut fed) c.is_gone attached s calls c.origin at
    ∙ ap (λ numbers. numbers ++ numbers_told end) is
    ∙ append_assoc earlier requests (numbers_told end)
    ∙ ap (λ numbers. earlier ++ numbers) (sym told)

pub passed_once : (s : Settings) (calls behind : List Call) (answer : Given) (now : ℕ) (at : Moment) (c new : Client) (before after : Ordered) → numbers_of (all_requests s behind) ≡ numbers_of (all_requests s calls) ++ numbers_of answer.requests → HasPassed s behind answer now at c before new after → TellsOnce s calls before new after
passed_once s calls behind answer now at c new before after more h = record {
  behind = ended_if (is_cut h.fed) c.is_gone behind;
  stands = h.stands.gate;
  told = passed c at (last_request (gate s behind)) h.fed;
  orders = h.orders;
  once = numbered_once s behind c at h.fed (numbers_of (all_requests s calls)) (more ∙ ap (λ (given : Given). numbers_of (all_requests s calls) ++ numbers_of given.requests) (sym h.is));
}

pub feed_numbers : (s : Settings) (calls : List Call) (bytes : List ℕ) → numbers_of (all_requests s (Feed bytes ∷ calls)) ≡ numbers_of (all_requests s calls) ++ numbers_of (fed_answer s calls bytes).requests
unfolding all_requests
feed_numbers s calls bytes = map-append (λ (request : Request). request.number) (all_requests s calls) (fed_answer s calls bytes).requests

none_by : (b : Bool) (first other : Given) → first.requests ≡ [] → other.requests ≡ [] → (if b then first else other).requests ≡ []
none_by true first other own none = own
none_by false first other own none = none

-- an effect of a request asks for nothing
pub hear_asks_none : (s : Settings) (e : GateEffect) → (given_effect s e).requests ≡ []
hear_asks_none s (answer.Effect (claims.Inner (fence.Inner (effect.Close o)))) = none_by (same_origin s.origin o) _ _ refl refl
hear_asks_none s (answer.Effect (claims.Inner (fence.Inner (effect.Show o x)))) = none_by (same_origin s.origin o) _ _ refl refl
hear_asks_none s (answer.Effect (claims.Inner (fence.Inner (effect.Send o x)))) = refl
hear_asks_none s (answer.Effect (claims.Inner (fence.Inner (effect.Rejoin x)))) = refl
hear_asks_none s (answer.Effect (claims.Inner (fence.Rejoin id x))) = refl
hear_asks_none s (answer.Effect (claims.Busy o)) = none_by (same_origin s.origin o) _ _ refl refl
hear_asks_none s (answer.Effect (claims.Hand id n x)) = refl
hear_asks_none s (answer.Done o n) = refl
hear_asks_none s (answer.Repeat o n) = refl
hear_asks_none s (answer.Gap o n) = refl
hear_asks_none s (answer.Marked m) = refl

pub hear_numbers : (s : Settings) (calls : List Call) (e : GateEffect) → numbers_of (all_requests s (Hear e ∷ calls)) ≡ numbers_of (all_requests s calls) ++ numbers_of (given_effect s e).requests
unfolding all_requests
hear_numbers s calls e =
    map-append (λ (request : Request). request.number) (all_requests s calls) []
    ∙ ap (λ (requests : List Request). numbers_of (all_requests s calls) ++ numbers_of requests) (sym (hear_asks_none s e))

refused_numbers : (s : Settings) (calls : List Call) → numbers_of (all_requests s (Refused ∷ calls)) ≡ numbers_of (all_requests s calls)
unfolding all_requests
refused_numbers s calls = ap (λ (requests : List Request). numbers_of requests) (append-nil (all_requests s calls))

-- it is closed
pub parted_once : (s : Settings) (calls behind : List Call) (at : Moment) (c new : Client) (before after : Ordered) → numbers_of (all_requests s behind) ≡ numbers_of (all_requests s calls) → IsParted at s behind c before new after → TellsOnce s calls before new after
parted_once s calls behind at c new before after same h =
    let told = parting_unless c.is_gone c.is_attached c.origin at (last_request (gate s behind)) in
    record {
      behind = ended c.is_gone behind;
      stands = h.stands.gate;
      told = told;
      orders = h.orders;
      once = ended_once c.is_gone c.is_attached s behind c.origin at ∙ ap (λ numbers. numbers ++ numbers_told told) same;
    }

pub cut_once : (s : Settings) (calls : List Call) (at : Moment) (c new : Client) (before after : Ordered) → IsCutOff s calls at c before new after → TellsOnce s calls before new after
cut_once s calls at c new before after h = parted_once s calls (Refused ∷ calls) at c new before after (refused_numbers s calls) h

-- nothing changed
pub nothing_once : (s : Settings) (calls : List Call) (old new : Client) (before after : Ordered) → Stands s calls old.gate → new ≡ old → after ≡ before → TellsOnce s calls before new after
nothing_once s calls old new before after stands same none = record {
  behind = calls;
  stands = subst (λ (client : Client). Stands s calls client.gate) (sym same) stands;
  told = [];
  orders = none ∙ sym (ap (λ (items : List Order). record before { items = items }) (append-nil before.items));
  once = sym (append-nil (numbers_of (all_requests s calls)));
}

-- what is sent first, and then
pub both_once : (s : Settings) (calls : List Call) (before between after : Ordered) (client new : Client) → (first : TellsOnce s calls before client between) → TellsOnce s first.behind between new after → TellsOnce s calls before new after
both_once s calls before between after client new first last = record {
  behind = last.behind;
  stands = last.stands;
  told = first.told ++ last.told;
  orders =
      last.orders
      ∙ ap (λ (orders : Ordered). ordered orders last.told) first.orders
      ∙ ap (λ (items : List Order). record before { items = items }) (append_assoc before.items first.told last.told);
  once =
      last.once
      ∙ ap (λ numbers. numbers ++ numbers_told last.told) first.once
      ∙ append_assoc (numbers_of (all_requests s calls)) (numbers_told first.told) (numbers_told last.told)
      ∙ ap (λ numbers. numbers_of (all_requests s calls) ++ numbers) (sym (told_append first.told last.told));
}

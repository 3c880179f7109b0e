-- A client that is leaving gets all that it is shown, as long as it is connected.
use Rattle.std.proofs.Common.{◌≡◌, ◌∙◌, ◌++◌, ℕ, Bool, true, false, not, ◌&&◌, ◌||◌, List, [], ◌∷◌, Option, Some, refl, sym, ap, subst, ⊎_elim}
use Rattle.std.specs.Prelude.{if◌then◌else◌, is_some, nat_eq}
use Rattle.std.specs.Global.{Vec}
use Rattle.std.specs.List.{list_any}
use Rattle.driver.proofs.Claiming.{same_eq}
use Rattle.std.proofs.lemmas.List.{append-nil}
use Rattle.wire_bytes.specs.declared.moment.Moment.{Moment}
use Rattle.wire_bytes.specs.declared.origin.Origin.{Origin}
use Rattle.client_gate.specs.declared.request.Request.{Request}
use Rattle.client_gate.specs.declared.settings.Settings.{Settings}
use Rattle.client_gate.specs.Calls.{Call, Hear, Stands, gate}
use Rattle.client_gate.specs.Gates.{GateEffect, Given, given_effect, last_request}
use Rattle.driver.specs.declared.client.Client.{Client}
use Rattle.driver.specs.declared.order.Order.{Order}
use Rattle.driver.specs.declared.order.Order.TheVariants.{Write}
use Rattle.driver.specs.declared.timer.Timer.{Timer}
use Rattle.driver.specs.Asking.{held_if, is_stuck, may_be_lost, now_asked}
use Rattle.driver.specs.Clients.{asked_all, asked_by, is_cut, is_leaving, is_some_asked, leaves_since, name_asked, parting_unless, passed, write_some, written}
use Rattle.driver.specs.Crowds.{Ticks}
use Rattle.driver.specs.Cycling.{reworded}
use Rattle.driver.specs.Farewells.{LeaversAreShownAll, WritesJust, all_shown, bytes_to, closes, shown_by, written_to}
use Rattle.driver.specs.Leaving.{is_overdue}
use Rattle.driver.specs.Once.{Dismissed, Event, Goes, HappenAll, Happening, Happens, Learns, Speaks, Waits, Words}
use Rattle.driver.specs.Serving.{HasPassed, HearsEffect, PartsIf, is_done}
use Rattle.driver.specs.Silence.{IsKept, IsPing, is_silent, waited}
use Rattle.driver.specs.Telling.{Ordered, ordered}
use Rattle.driver.proofs.AskedOnce.{hear_asks_none}
use Rattle.driver.proofs.Cycling.{none_told}
use Rattle.driver.proofs.Owning.{effect_own, event_own}
use Rattle.driver.proofs.GoneClients.{There, again_writes, all_gone, anew_gate, anew_leaving, anew_origin, leaving_so, not_both, not_slow, or_cut, or_gone, parted_gone, parts_gone, same_there, waited_gate, waited_leaving, waited_origin, writes_both, writes_nothing}

-- What a client is shown that is leaving, and is still there.

if_same : (b : Bool) (xs : List ℕ) → b ≡ true → (if b then xs else []) ≡ xs
if_same true xs is = refl
if_same false xs is = absurd (cc is)

some_writes : (client : ℕ) (bytes : Vec ℕ) (items : List ℕ) → bytes.items ≡ items → written_to client (write_some client bytes items) ≡ items
some_writes client bytes [] is = refl
some_writes client bytes (byte ∷ more) is =
    append-nil (bytes_to client (Write client bytes)) ∙ if_same (nat_eq client client) bytes.items (same_eq client) ∙ is

some_closes : (client : ℕ) (bytes : Vec ℕ) (items : List ℕ) → list_any (closes client) (write_some client bytes items) ≡ false
some_closes client bytes [] = refl
some_closes client bytes (byte ∷ more) = refl

written_writes : (gone : Bool) (client : ℕ) (bytes : Vec ℕ) → gone ≡ false → written_to client (written gone client bytes) ≡ bytes.items
written_writes true client bytes is = absurd (cc is)
written_writes false client bytes is = some_writes client bytes bytes.items refl

written_closes : (gone : Bool) (client : ℕ) (bytes : Vec ℕ) → list_any (closes client) (written gone client bytes) ≡ false
written_closes true client bytes = refl
written_closes false client bytes = some_closes client bytes bytes.items

none_asked : (attached : Bool) (origin : Origin) (name : Option (List ℕ)) (at : Moment) (requests : List Request) → requests ≡ [] → asked_all attached origin name at requests ≡ []
unfolding asked_all
none_asked attached origin name at requests is = ap (asked_all attached origin name at) is

no_end : (cut : Bool) (orders : List Order) → cut ≡ false → (if cut then orders else []) ≡ []
no_end true orders is = absurd (cc is)
no_end false orders is = refl

cut_by : (close : Bool) (requests : List Request) → requests ≡ [] → (close && not (is_some_asked requests)) ≡ close
cut_by true requests is = ap (λ (requests : List Request). not (is_some_asked requests)) is
cut_by false requests is = refl

left_by : (close : Bool) (requests : List Request) → requests ≡ [] → (close && is_some_asked requests) ≡ false
left_by true requests is = ap (λ (requests : List Request). is_some_asked requests) is
left_by false requests is = refl

parts_there : (parts : Bool) (s : Settings) (behind : List Call) (at : Moment) (since : Timer) (bytes : List ℕ) (old told new : Client) (before orders after : Ordered) → new.is_gone ≡ false → There s since bytes old before told orders → PartsIf parts at s behind told orders new after → There s since bytes old before new after
parts_there false s behind at since bytes old told new before orders after remains t (same, none) = record {
  behind = t.behind;
  stands = subst (λ (client : Client). Stands s t.behind client.gate) (sym same) t.stands;
  origin = ap (λ (client : Client). client.origin) same ∙ t.origin;
  leaving = ap (λ (client : Client). client.leaving) same ∙ t.leaving;
  writes = subst (λ (after : Ordered). WritesJust old.origin.2 bytes before after) (sym none) t.writes;
}
parts_there true s behind at since bytes old told new before orders after remains t h =
    absurd (cc (parted_gone s behind at told new orders after h, remains))

-- an effect of a request, which shows the client something or nothing, and after which its gate stays
passed_there : (e : GateEffect) (now : ℕ) (at : Moment) (s : Settings) (calls : List Call) (since : Timer) (c told : Client) (before orders : Ordered) → c.is_gone ≡ false → c.leaving ≡ Some since → (p : HasPassed s (Hear e ∷ calls) (given_effect s e) now at c before told orders) → p.fed.close ≡ false → There s since (given_effect s e).reply c before told orders
passed_there e now at s calls since c told before orders here is p stays =
    let fed = p.fed in
    let none : fed.requests.items ≡ [] = ap (λ (given : Given). given.requests) p.is ∙ hear_asks_none s e in
    let whole : is_cut fed ≡ false = cut_by fed.close fed.requests.items none ∙ stays in
    let last = last_request (gate s (Hear e ∷ calls)) in
    let client = c.origin.2 in
    let bytes = written c.is_gone client fed.reply in
    let asks = asked_by c at fed.requests.items in
    let attached = c.is_attached || is_some_asked fed.requests.items in
    let end = if is_cut fed then parting_unless c.is_gone attached c.origin at last else [] in
    let requests = reworded c.channels c.parting fed.requests.items in
    let no_asks : asks ≡ [] = none_asked c.is_attached c.origin (name_asked fed.requests.items) at requests (none_told c.channels c.parting fed.requests.items none) in
    let no_more : end ≡ [] = no_end (is_cut fed) (parting_unless c.is_gone attached c.origin at last) whole in
    let just : passed c at last fed ≡ bytes =
    ap (λ (orders : List Order). (bytes ++ asks) ++ orders) no_more
    ∙ append-nil (bytes ++ asks)
    ∙ ap (λ (orders : List Order). bytes ++ orders) no_asks
    ∙ append-nil bytes
    in
    record {
      behind = _;
      stands = p.stands.gate;
      origin = ap (λ (client : Client). client.origin) p.stands.rest;
      leaving =
          ap (λ (client : Client). client.leaving) p.stands.rest
          ∙ ap (λ (b : Bool). leaves_since b now c.leaving) (left_by fed.close fed.requests.items none)
          ∙ is;
      writes = record {
        told = bytes;
        orders = p.orders ∙ ap (λ (told : List Order). ordered before told) just;
        written = written_writes c.is_gone client fed.reply here ∙ ap (λ (given : Given). given.reply) p.is;
        is_open = written_closes c.is_gone client fed.reply;
      };
    }

-- the same if the gate may close
effect_by : (close : Bool) (e : GateEffect) (now : ℕ) (at : Moment) (s : Settings) (calls : List Call) (since : Timer) (c told : Client) (before orders : Ordered) → told.is_gone ≡ false → c.is_gone ≡ false → c.leaving ≡ Some since → (p : HasPassed s (Hear e ∷ calls) (given_effect s e) now at c before told orders) → p.fed.close ≡ close → There s since (given_effect s e).reply c before told orders
effect_by false e now at s calls since c told before orders remains here is p stays = passed_there e now at s calls since c told before orders here is p stays
effect_by true e now at s calls since c told before orders remains here is p closes =
    let none : p.fed.requests.items ≡ [] = ap (λ (given : Given). given.requests) p.is ∙ hear_asks_none s e in
    let cut : is_cut p.fed ≡ true = cut_by p.fed.close p.fed.requests.items none ∙ closes in
    let gone : told.is_gone ≡ true = ap (λ (client : Client). client.is_gone) p.stands.rest ∙ or_cut c.is_gone (is_cut p.fed) cut in
    absurd (cc (gone, remains))

-- the same for a client whose asking began anew
as_old : (s : Settings) (since : Timer) (bytes : List ℕ) (old c told : Client) (before orders : Ordered) → c.origin ≡ old.origin → There s since bytes c before told orders → There s since bytes old before told orders
as_old s since bytes old c told before orders same t = record {
  behind = t.behind;
  stands = t.stands;
  origin = t.origin ∙ same;
  leaving = t.leaving;
  writes = subst (λ (origin : Origin). WritesJust origin.2 bytes before orders) same t.writes;
}

effect_there : (e : GateEffect) (nick : List ℕ) (now : ℕ) (at : Moment) (s : Settings) (calls : List Call) (since : Timer) (old told : Client) (before orders : Ordered) → told.is_gone ≡ false → old.is_gone ≡ false → old.leaving ≡ Some since → HearsEffect e nick now at s calls old before told orders → There s since (given_effect s e).reply old before told orders
effect_there e nick now at s calls since old told before orders remains here is h =
    ⊎_elim
    (λ p. as_old s since _ old _ told before orders refl (effect_by p.fed.close e now at s calls since _ told before orders remains here is p refl))
    (λ p. not_both told.is_gone (There s since (given_effect s e).reply old before told orders) (parted_gone s _ at _ told before orders p) remains)
    h

-- whether a client was gone that is not
not_gone : (gone : Bool) (new : Bool) → (gone ≡ true → new ≡ true) → new ≡ false → gone ≡ false
not_gone true new stays remains = absurd (cc (stays refl, remains))
not_gone false new stays remains = refl

no_ping : (pinged leaves over : Bool) → leaves ≡ true → not (pinged || leaves || over) ≡ false
no_ping true leaves over is = refl
no_ping false true over is = refl
no_ping false false over is = absurd (cc is)

no_ping_told : (silent : Bool) (client : ℕ) (orders : List Order) → silent ≡ false → IsPing silent client orders → orders ≡ []
no_ping_told true client orders is told = absurd (cc is)
no_ping_told false client orders is told = told

kept_there : (timeout now : ℕ) (at : Moment) (s : Settings) (calls : List Call) (since : Timer) (old new : Client) (before after : Ordered) → Stands s calls old.gate → old.leaving ≡ Some since → IsKept timeout now at s calls old before new after → There s since [] old before new after
kept_there timeout now at s calls since old new before after stands is k =
    let again = is_stuck timeout now old in
    let asked = now_asked k.told now old in
    let quiet : is_silent old now ≡ false = no_ping old.is_pinged (is_leaving old) _ (leaving_so old.is_gone old.leaving since is) in
    let none : k.asked.ping ≡ [] = no_ping_told (is_silent old now) old.origin.2 k.asked.ping quiet k.asked.is_ping in
    let told : k.told ≡ before =
    k.asked.orders ∙ ap (λ (orders : List Order). ordered before orders) none ∙ ap (λ (items : List Order). record before { items = items }) (append-nil before.items)
    in
    record {
      behind = calls;
      stands = subst (λ held. Stands s calls held) (sym (ap (λ (client : Client). client.gate) k.client ∙ anew_gate again asked k.pinged ∙ ap (λ (client : Client). client.gate) k.asked.is_known)) stands;
      origin = ap (λ (client : Client). client.origin) k.client ∙ anew_origin again asked k.pinged ∙ ap (λ (client : Client). client.origin) k.asked.is_known;
      leaving = ap (λ (client : Client). client.leaving) k.client ∙ anew_leaving again asked k.pinged ∙ ap (λ (client : Client). client.leaving) k.asked.is_known ∙ is;
      writes =
          subst (λ (first : Ordered). WritesJust old.origin.2 [] first after) told
          (again_writes old.origin.2 again old.origin at (gate s calls).waiting k.told after k.orders);
    }

-- time passes for a client that is leaving, and is still there afterwards
ticks_there : (reads overdue : Bool) (timeout now : ℕ) (at : Moment) (s : Settings) (calls : List Call) (since : Timer) (old new : Client) (before after : Ordered) → new.is_gone ≡ false → old.is_gone ≡ false → is_overdue old now ≡ overdue → Stands s calls old.gate → old.leaving ≡ Some since → Ticks reads timeout now at s calls old before new after → There s since [] old before new after
ticks_there reads true timeout now at s calls since old new before after remains here late stands is t =
    let gone = ap (λ (client : Client). client.is_gone) ((t.overdue late).stays here).rest in absurd (cc (gone, remains))
ticks_there reads false timeout now at s calls since old new before after remains here late stands is t =
    let w = waited reads now old in
    let leaving = waited_leaving reads now old ∙ is in
    let quick = not_slow (is_leaving w) _ (leaving_so w.is_gone w.leaving since leaving) in
    let held = subst (λ held. Stands s calls held) (sym (waited_gate reads now old)) stands in
    as_old s since [] old w new before after (waited_origin reads now old)
    (kept_there timeout now at s calls since w new before after held leaving (t.kept late quick))

event_there : (event : Event) (now : ℕ) (at : Moment) (s : Settings) (calls : List Call) (since : Timer) (old new : Client) (before after : Ordered) → new.is_gone ≡ false → old.is_gone ≡ false → Happens event now at old before new after → Stands s calls old.gate → old.leaving ≡ Some since → There s since (shown_by s event) old before new after
event_there (Speaks bytes due) now at s calls since old new before after remains here h stands is =
    let (same, none) = (h s calls stands).shut (or_gone (is_leaving old) (is_some old.refused) (leaving_so old.is_gone old.leaving since is)) in
    same_there s calls since old new before after stands is same none
event_there (Learns effect nick) now at s calls since old new before after remains here h stands is =
    let e = h s calls stands in
    let o = effect_own effect nick now at s calls old e.told before e.orders e.hears in
    let parts = e.parts o.behind o.stands in
    let done = is_done (gate s o.behind).waiting e.told in
    let told = not_gone e.told.is_gone new.is_gone (λ gone. parts_gone done s o.behind at e.told new e.orders after gone parts) remains in
    let t = effect_there effect nick now at s calls since old e.told before e.orders told here is e.hears in
    parts_there done s o.behind at since (given_effect s effect).reply old e.told new before e.orders after remains t parts
event_there Goes now at s calls since old new before after remains here h stands is =
    let gone = ap (λ (client : Client). client.is_gone) ((h s calls stands).stays here).rest in absurd (cc (gone, remains))
event_there Dismissed now at s calls since old new before after remains here h stands is =
    let (same, none) = (h s calls stands).leaving (leaving_so old.is_gone old.leaving since is) in
    same_there s calls since old new before after stands is same none
event_there (Words lost refused) now at s calls since old new before after remains here h stands is =
    let w = h s calls stands in
    let again = may_be_lost lost old in
    let asked = now_asked before now old in
    let held = held_if refused (gate s calls).waiting old in
    record {
      behind = calls;
      stands = subst (λ held. Stands s calls held) (sym (ap (λ (client : Client). client.gate) w.client ∙ anew_gate again asked held)) stands;
      origin = ap (λ (client : Client). client.origin) w.client ∙ anew_origin again asked held;
      leaving = ap (λ (client : Client). client.leaving) w.client ∙ anew_leaving again asked held ∙ is;
      writes = again_writes old.origin.2 again old.origin at (gate s calls).waiting before after w.orders;
    }
event_there (Waits reads timeout) now at s calls since old new before after remains here h stands is =
    ticks_there reads (is_overdue old now) timeout now at s calls since old new before after remains here refl stands is (h s calls stands)

all_there : (happenings : List Happening) (s : Settings) (calls : List Call) (since : Timer) (old new : Client) (before after : Ordered) → HappenAll happenings old before new after → Stands s calls old.gate → old.leaving ≡ Some since → old.is_gone ≡ false → new.is_gone ≡ false → WritesJust old.origin.2 (all_shown s happenings) before after
unfolding HappenAll
all_there [] s calls since old new before after (same, none) stands is here remains = writes_nothing old.origin.2 before after none
all_there (h ∷ more) s calls since old new before after (client, orders, happens, rest) stands is here remains =
    let own = event_own h.event h.now h.at s calls old client before orders happens stands in
    let still = not_gone client.is_gone new.is_gone (λ gone. all_gone more s own.behind client new orders after rest own.stands gone) remains in
    let t = event_there h.event h.now h.at s calls since old client before orders still here happens stands is in
    let last = all_there more s t.behind since client new orders after rest t.stands t.leaving still remains in
    writes_both old.origin.2 (shown_by s h.event) (all_shown s more) before orders after t.writes
    (subst (λ (origin : Origin). WritesJust origin.2 (all_shown s more) orders after) t.origin last)

pub shown_all : LeaversAreShownAll
shown_all happenings s calls since old new before after happen stands is remains =
    let here = not_gone old.is_gone new.is_gone (λ gone. all_gone happenings s calls old new before after happen stands gone) remains in
    all_there happenings s calls since old new before after happen stands is here remains

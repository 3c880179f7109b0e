-- What orders write to a client, and that a client that is gone stays so.
use Rattle.std.proofs.Common.{◌≡◌, ◌∙◌, ◌++◌, ℕ, Bool, true, false, not, ◌&&◌, ◌||◌, List, [], ◌∷◌, Option, Some, refl, sym, ap, subst, ⊎_elim}
use Rattle.std.specs.Prelude.{if◌then◌else◌, is_some}
use Rattle.std.specs.List.{list_any}
use Rattle.std.proofs.lemmas.List.{append_assoc, append-nil}
use Rattle.std.proofs.lemmas.Grind.{flat_map-append}
use Rattle.wire_bytes.specs.declared.moment.Moment.{Moment}
use Rattle.wire_bytes.specs.declared.origin.Origin.{Origin}
use Rattle.client_gate.specs.declared.request.Request.{Request}
use Rattle.client_gate.specs.declared.settings.Settings.{Settings}
use Rattle.client_gate.specs.Calls.{Call, Stands, gate}
use Rattle.client_gate.specs.Gates.{GateEffect}
use Rattle.driver.specs.declared.client.Asked.{Asked}
use Rattle.driver.specs.declared.client.Client.{Client}
use Rattle.driver.specs.declared.order.Order.{Order}
use Rattle.driver.specs.declared.timer.Timer.{Timer}
use Rattle.driver.specs.Asking.{anew_if, held_if, is_stuck, may_be_lost, now_asked}
use Rattle.driver.specs.Clients.{asks_of, is_cut, is_leaving, written}
use Rattle.driver.specs.Crowds.{Ticks}
use Rattle.driver.specs.Farewells.{WritesJust, bytes_to, closes, written_to}
use Rattle.driver.specs.Leaving.{is_late}
use Rattle.driver.specs.Once.{Dismissed, Event, Goes, HappenAll, Happening, Happens, Learns, Speaks, Waits, Words}
use Rattle.driver.specs.Serving.{HearsEffect, IsParted, PartsIf, is_done}
use Rattle.driver.specs.Silence.{IsKept, waited}
use Rattle.driver.specs.Telling.{Ordered, ordered}
use Rattle.driver.proofs.Owning.{effect_own, event_own}

-- What is written, and what is closed, by orders after others.

written_append : (client : ℕ) (xs ys : List Order) → written_to client (xs ++ ys) ≡ written_to client xs ++ written_to client ys
written_append client xs ys = flat_map-append (bytes_to client) xs ys

none_closes : (a b c : Bool) → (a || b) ≡ false → (b ≡ false → c ≡ false) → (a || c) ≡ false
none_closes true b c first more = absurd (cc first)
none_closes false b c first more = more first

neither_closes : (client : ℕ) (xs ys : List Order) → list_any (closes client) xs ≡ false → list_any (closes client) ys ≡ false → list_any (closes client) (xs ++ ys) ≡ false
neither_closes client [] ys first last = last
neither_closes client (x ∷ xs) ys first last = none_closes (closes client x) (list_any (closes client) xs) (list_any (closes client) (xs ++ ys)) first (λ rest. neither_closes client xs ys rest last)

pub writes_both : (client : ℕ) (xs ys : List ℕ) (before between after : Ordered) → WritesJust client xs before between → WritesJust client ys between after → WritesJust client (xs ++ ys) before after
writes_both client xs ys before between after first last = record {
  told = first.told ++ last.told;
  orders =
      last.orders
      ∙ ap (λ (orders : Ordered). ordered orders last.told) first.orders
      ∙ ap (λ (items : List Order). record before { items = items }) (append_assoc before.items first.told last.told);
  written =
      written_append client first.told last.told
      ∙ ap (λ bytes. bytes ++ written_to client last.told) first.written
      ∙ ap (λ bytes. xs ++ bytes) last.written;
  is_open = neither_closes client first.told last.told first.is_open last.is_open;
}

pub writes_nothing : (client : ℕ) (before after : Ordered) → after ≡ before → WritesJust client [] before after
writes_nothing client before after none = record {
  told = [];
  orders = none ∙ sym (ap (λ (items : List Order). record before { items = items }) (append-nil before.items));
  written = refl;
  is_open = refl;
}

asks_write : (client : ℕ) (origin : Origin) (at : Moment) (requests : List Request) → written_to client (asks_of origin at requests) ≡ []
unfolding asks_of
asks_write client origin at [] = refl
asks_write client origin at (request ∷ requests) = asks_write client origin at requests

asks_close : (client : ℕ) (origin : Origin) (at : Moment) (requests : List Request) → list_any (closes client) (asks_of origin at requests) ≡ false
unfolding asks_of
asks_close client origin at [] = refl
asks_close client origin at (request ∷ requests) = asks_close client origin at requests

pub again_writes : (client : ℕ) (again : Bool) (origin : Origin) (at : Moment) (requests : List Request) (before after : Ordered) → after ≡ ordered before (if again then asks_of origin at requests else []) → WritesJust client [] before after
again_writes client true origin at requests before after is = record {
  told = asks_of origin at requests;
  orders = is;
  written = asks_write client origin at requests;
  is_open = asks_close client origin at requests;
}
again_writes client false origin at requests before after is = record { told = []; orders = is; written = refl; is_open = refl }

-- A client is still there after an event.
pub record There (s : Settings) (since : Timer) (bytes : List ℕ) (old : Client) (before : Ordered) (new : Client) (after : Ordered) : Type 0 where
  pub behind : List Call
  pub stands : Stands s behind new.gate
  pub origin : new.origin ≡ old.origin
  pub leaving : new.leaving ≡ Some since
  pub writes : WritesJust old.origin.2 bytes before after

pub same_there : (s : Settings) (calls : List Call) (since : Timer) (old new : Client) (before after : Ordered) → Stands s calls old.gate → old.leaving ≡ Some since → new ≡ old → after ≡ before → There s since [] old before new after
same_there s calls since old new before after stands is same none = record {
  behind = calls;
  stands = subst (λ (client : Client). Stands s calls client.gate) (sym same) stands;
  origin = ap (λ (client : Client). client.origin) same;
  leaving = ap (λ (client : Client). client.leaving) same ∙ is;
  writes = writes_nothing old.origin.2 before after none;
}

-- a client that is leaving is read no more
pub leaving_so : (gone : Bool) (leaving : Option Timer) (since : Timer) → leaving ≡ Some since → (gone || is_some leaving) ≡ true
leaving_so true leaving since is = refl
leaving_so false leaving since is = ap (λ (o : Option Timer). is_some o) is

gone_so : (gone : Bool) (leaving : Option Timer) → gone ≡ true → (gone || is_some leaving) ≡ true
gone_so true leaving is = refl
gone_so false leaving is = absurd (cc is)

-- nothing is both true and false
pub not_both : (b : Bool) (P : Type 0) → b ≡ true → b ≡ false → P
not_both true P is other = absurd (cc other)
not_both false P is other = absurd (cc is)

-- A client that is gone stays so.

pub parted_gone : (s : Settings) (calls : List Call) (at : Moment) (old new : Client) (before after : Ordered) → IsParted at s calls old before new after → new.is_gone ≡ true
parted_gone s calls at old new before after h = ap (λ (client : Client). client.is_gone) h.stands.rest

pub parts_gone : (parts : Bool) (s : Settings) (calls : List Call) (at : Moment) (old new : Client) (before after : Ordered) → old.is_gone ≡ true → PartsIf parts at s calls old before new after → new.is_gone ≡ true
parts_gone false s calls at old new before after gone (same, none) = ap (λ (client : Client). client.is_gone) same ∙ gone
parts_gone true s calls at old new before after gone h = parted_gone s calls at old new before after h

anew_gone : (again : Bool) (asked : Asked) (c : Client) → (anew_if again asked c).is_gone ≡ c.is_gone
anew_gone true asked c = refl
anew_gone false asked c = refl

pub anew_leaving : (again : Bool) (asked : Asked) (c : Client) → (anew_if again asked c).leaving ≡ c.leaving
anew_leaving true asked c = refl
anew_leaving false asked c = refl

pub anew_gate : (again : Bool) (asked : Asked) (c : Client) → (anew_if again asked c).gate ≡ c.gate
anew_gate true asked c = refl
anew_gate false asked c = refl

pub anew_origin : (again : Bool) (asked : Asked) (c : Client) → (anew_if again asked c).origin ≡ c.origin
anew_origin true asked c = refl
anew_origin false asked c = refl

pub or_gone : (gone cut : Bool) → gone ≡ true → (gone || cut) ≡ true
or_gone true cut is = refl
or_gone false cut is = absurd (cc is)

pub or_cut : (gone cut : Bool) → cut ≡ true → (gone || cut) ≡ true
or_cut true cut is = refl
or_cut false cut is = is

effect_gone : (e : GateEffect) (nick : List ℕ) (now : ℕ) (at : Moment) (s : Settings) (calls : List Call) (old new : Client) (before after : Ordered) → old.is_gone ≡ true → HearsEffect e nick now at s calls old before new after → new.is_gone ≡ true
effect_gone e nick now at s calls old new before after gone h =
    ⊎_elim
    (λ p. ap (λ (client : Client). client.is_gone) p.stands.rest ∙ or_gone old.is_gone (is_cut p.fed) gone)
    (λ p. parted_gone s _ at _ new before after p)
    h

not_overdue : (gone : Bool) (late : Bool) → gone ≡ true → (not gone && late) ≡ false
not_overdue true late is = refl
not_overdue false late is = absurd (cc is)

pub not_slow : (leaves : Bool) (rest : Bool) → leaves ≡ true → (if leaves then false else rest) ≡ false
not_slow true rest is = refl
not_slow false rest is = absurd (cc is)

waited_gone : (reads : Bool) (now : ℕ) (c : Client) → (waited reads now c).is_gone ≡ c.is_gone
waited_gone true now c = refl
waited_gone false now c = refl

pub waited_leaving : (reads : Bool) (now : ℕ) (c : Client) → (waited reads now c).leaving ≡ c.leaving
waited_leaving true now c = refl
waited_leaving false now c = refl

pub waited_origin : (reads : Bool) (now : ℕ) (c : Client) → (waited reads now c).origin ≡ c.origin
waited_origin true now c = refl
waited_origin false now c = refl

pub waited_gate : (reads : Bool) (now : ℕ) (c : Client) → (waited reads now c).gate ≡ c.gate
waited_gate true now c = refl
waited_gate false now c = refl

kept_gone : (timeout now : ℕ) (at : Moment) (s : Settings) (calls : List Call) (old new : Client) (before after : Ordered) → IsKept timeout now at s calls old before new after → new.is_gone ≡ old.is_gone
kept_gone timeout now at s calls old new before after k =
    ap (λ (client : Client). client.is_gone) k.client
    ∙ anew_gone (is_stuck timeout now old) (now_asked k.told now old) k.pinged
    ∙ ap (λ (client : Client). client.is_gone) k.asked.is_known

ticks_gone : (reads : Bool) (timeout now : ℕ) (at : Moment) (s : Settings) (calls : List Call) (old new : Client) (before after : Ordered) → old.is_gone ≡ true → Ticks reads timeout now at s calls old before new after → new.is_gone ≡ true
ticks_gone reads timeout now at s calls old new before after gone t =
    let early = not_overdue old.is_gone (is_late old.leaving now) gone in
    let w = waited reads now old in
    let still = waited_gone reads now old ∙ gone in
    let quick = not_slow (is_leaving w) _ (gone_so w.is_gone w.leaving still) in
    kept_gone timeout now at s calls w new before after (t.kept early quick) ∙ still

event_gone : (event : Event) (now : ℕ) (at : Moment) (s : Settings) (calls : List Call) (old new : Client) (before after : Ordered) → Happens event now at old before new after → Stands s calls old.gate → old.is_gone ≡ true → new.is_gone ≡ true
event_gone (Speaks bytes due) now at s calls old new before after h stands gone =
    let (same, none) = (h s calls stands).shut (or_gone (is_leaving old) (is_some old.refused) (gone_so old.is_gone old.leaving gone)) in ap (λ (client : Client). client.is_gone) same ∙ gone
event_gone (Learns effect nick) now at s calls old new before after h stands gone =
    let e = h s calls stands in
    let o = effect_own effect nick now at s calls old e.told before e.orders e.hears in
    let told = effect_gone effect nick now at s calls old e.told before e.orders gone e.hears in
    parts_gone (is_done (gate s o.behind).waiting e.told) s o.behind at e.told new e.orders after told (e.parts o.behind o.stands)
event_gone Goes now at s calls old new before after h stands gone =
    ap (λ (client : Client). client.is_gone) ((h s calls stands).gone gone) ∙ gone
event_gone Dismissed now at s calls old new before after h stands gone =
    let (same, none) = (h s calls stands).leaving (gone_so old.is_gone old.leaving gone) in ap (λ (client : Client). client.is_gone) same ∙ gone
event_gone (Words lost refused) now at s calls old new before after h stands gone =
    ap (λ (client : Client). client.is_gone) (h s calls stands).client
    ∙ anew_gone (may_be_lost lost old) (now_asked before now old) (held_if refused (gate s calls).waiting old)
    ∙ gone
event_gone (Waits reads timeout) now at s calls old new before after h stands gone =
    ticks_gone reads timeout now at s calls old new before after gone (h s calls stands)

pub all_gone : (happenings : List Happening) (s : Settings) (calls : List Call) (old new : Client) (before after : Ordered) → HappenAll happenings old before new after → Stands s calls old.gate → old.is_gone ≡ true → new.is_gone ≡ true
unfolding HappenAll
all_gone [] s calls old new before after (same, none) stands gone = ap (λ (client : Client). client.is_gone) same ∙ gone
all_gone (h ∷ more) s calls old new before after (client, orders, happens, rest) stands gone =
    let first = event_own h.event h.now h.at s calls old client before orders happens stands in
    all_gone more s first.behind client new orders after rest first.stands
    (event_gone h.event h.now h.at s calls old client before orders happens stands gone)

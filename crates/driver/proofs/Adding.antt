-- What is written to clients, what goes to the server, and effects that pass, as orders of one kind.
use Rattle.std.proofs.Common.{◌≡◌, ◌∙◌, ◌++◌, ℕ, Bool, true, false, List, [], ◌∷◌, Option, Some, None, refl, sym, ap, subst}
use Rattle.std.specs.Global.{Vec}
use Rattle.std.specs.BTreeMap.{keys}
use Rattle.std.proofs.lemmas.List.{append_assoc, append-nil}
use Rattle.machine_laws.specs.Origins.{same_origin}
use Rattle.machine_laws.specs.declared.class.Class.{Class}
use Rattle.machine_laws.specs.declared.class.Class.TheVariants.{Hand, Nowhere, Rejoin, To}
use Rattle.bouncer_tower.specs.Hosting.{class_of}
use Rattle.client_gate.specs.Calls.{gate}
use Rattle.client_gate.specs.Gates.{GateEffect}
use Rattle.irc_line.specs.Lines.{Parts, parameter}
use Rattle.wire_bytes.specs.declared.moment.Moment.{Moment}
use Rattle.wire_bytes.specs.declared.origin.Origin.{Origin}
use Rattle.driver.specs.declared.client.Client.{Client}
use Rattle.driver.specs.declared.clients.Clients.{Clients}
use Rattle.driver.specs.declared.driver.Driver.{Driver}
use Rattle.driver.specs.declared.link.Stage.{Stage}
use Rattle.driver.specs.declared.order.Order.{Order}
use Rattle.driver.specs.declared.order.Order.TheVariants.{Log, Write}
use Rattle.driver.specs.declared.eviction.Eviction.{Eviction}
use Rattle.driver.specs.declared.news.News.TheVariants.{Evicted}
use Rattle.driver.specs.Crowds.{Told, told as crowd}
use Rattle.driver.specs.Driving.{told_of}
use Rattle.driver.specs.Evicting.{IsEvicted, IsEvictedIf, IsToldWhy, eviction_in}
use Rattle.driver.specs.Kicks.{KickEach, KicksClient, RejoinsIf}
use Rattle.driver.specs.Opening.{closed, has_open, joined_as}
use Rattle.driver.specs.Learning.{LearnsIf, LearnsNick, nick_learnt}
use Rattle.driver.specs.Links.{is_session_of}
use Rattle.driver.specs.Nicks.{AreWritten, IsNamedIn, IsWritten, IsWrittenIf, is_misnamed, is_reached, nick_in}
use Rattle.driver.specs.Passing.{HearsOne, PassEach, Passes, PassesBy, ReachesClient}
use Rattle.driver.specs.Rewording.{reworded}
use Rattle.driver.specs.Rosters.{AreOthersSame, client_at}
use Rattle.driver.specs.Telling.{Ordered, ordered}
use Rattle.driver.proofs.Growing.{AllAre, AllGood, Good, Grows, all_append, by_number, good_as, grows_both, one_grows, or_this, same_grows}
use Rattle.driver.proofs.Owning.{hears_own}

-- More is ordered, all of this kind.
pub record Adds (P : Order → Type 0) (before after : Ordered) : Type 0 where
  pub told : List Order
  pub orders : after ≡ ordered before told
  pub all : AllAre P told

pub nothing_adds : (P : Order → Type 0) (before after : Ordered) → after ≡ before → Adds P before after
unfolding AllAre
nothing_adds P before after none = record {
  told = [];
  orders = none ∙ sym (ap (λ (items : List Order). record before { items = items }) (append-nil before.items));
  all = tt;
}

pub one_adds : (P : Order → Type 0) (order : Order) (before after : Ordered) → after ≡ ordered before (order ∷ []) → P order → Adds P before after
unfolding AllAre
one_adds P order before after orders is = record { told = order ∷ []; orders = orders; all = (is, tt) }

pub adds_both : (P : Order → Type 0) (before between after : Ordered) → Adds P before between → Adds P between after → Adds P before after
adds_both P before between after first last = record {
  told = first.told ++ last.told;
  orders =
      last.orders
      ∙ ap (λ (orders : Ordered). ordered orders last.told) first.orders
      ∙ ap (λ (items : List Order). record before { items = items }) (append_assoc before.items first.told last.told);
  all = all_append P first.told last.told first.all last.all;
}

-- if the clients stay
pub adds_grow : (P : Order → Type 0) (old new : Told) → AllGood P old.clients → new.clients ≡ old.clients → Adds P old.orders new.orders → Grows P old new
adds_grow P old new good same adds = record {
  told = adds.told;
  orders = adds.orders;
  all = adds.all;
  good = subst (λ (clients : Clients). AllGood P clients) (sym same) good;
}

pub written_if : (P : Order → Type 0) (is : Bool) (client : ℕ) (text : List ℕ) (before after : Ordered) → ((line : Vec ℕ) → P (Write client line)) → IsWrittenIf is client text before after → Adds P before after
written_if P false client text before after fits none = nothing_adds P before after none
written_if P true client text before after fits (line, says, orders) = one_adds P (Write client line) before after orders (fits line)

pub written_adds : (P : Order → Type 0) (clients : Clients) (number : ℕ) (found : Option Client) (text : List ℕ) (before after : Ordered) → client_at clients number ≡ found → AllGood P clients → IsWritten found text before after → Adds P before after
written_adds P clients number None text before after is good none = nothing_adds P before after none
written_adds P clients number (Some c) text before after is good w =
    written_if P (is_reached c) c.origin.2 text before after (λ line. (good number c is).fits (Write c.origin.2 line) refl) w

pub named_adds : (P : Order → Type 0) (clients : Clients) (number : ℕ) (found : Option Client) (nick : List ℕ) (before after : Ordered) → client_at clients number ≡ found → AllGood P clients → IsNamedIn found nick before after → Adds P before after
named_adds P clients number None nick before after is good none = nothing_adds P before after none
named_adds P clients number (Some c) nick before after is good w =
    written_if P (is_misnamed c nick) c.origin.2 _ before after (λ line. (good number c is).fits (Write c.origin.2 line) refl) w

pub all_written_add : (P : Order → Type 0) (numbers : List ℕ) (clients : Clients) (text : List ℕ) (before after : Ordered) → AllGood P clients → AreWritten numbers clients text before after → Adds P before after
unfolding AreWritten
all_written_add P [] clients text before after good none = nothing_adds P before after none
all_written_add P (number ∷ numbers) clients text before after good (behind, first, more) =
    adds_both P before behind after
    (written_adds P clients number (client_at clients number) text before behind refl good first)
    (all_written_add P numbers clients text behind after good more)

-- Clients that have a channel open are kicked from it.

kicked_good : (P : Order → Type 0) (channel : List ℕ) (number : ℕ) (c : Client) (old new : Clients) → AllGood P old → AreOthersSame number old new → Good P c → client_at new number ≡ Some (record c { channels = closed channel c.channels }) → AllGood P new
kicked_good P channel number c old new good others here is n d found =
    by_number number n (Good P d)
    (λ same.
    let at_number = subst (λ (k : ℕ). client_at new k ≡ Some d) (sym same) found in
    good_as P (record c { channels = closed channel c.channels }) d (ap (or_this c) (sym is ∙ at_number))
    (record { settings = here.settings; calls = here.calls; stands = here.stands; fits = here.fits }))
    (λ apart. good n d (sym (others n apart) ∙ found))

kick_of : (P : Order → Type 0) (channel text : List ℕ) (number : ℕ) (c : Client) (has : Bool) (old new : Told) → client_at old.clients number ≡ Some c → has_open channel c.channels ≡ has → AllGood P old.clients → KicksClient channel text number old new → Grows P old new
kick_of P channel text number c false old new is has good k = same_grows P old new good (k.stays c is has)
kick_of P channel text number c true old new is has good k =
    let adds = written_adds P old.clients number (Some c) text old.orders new.orders is good (k.written c is has) in
    record {
      told = adds.told;
      orders = adds.orders;
      all = adds.all;
      good = kicked_good P channel number c old.clients new.clients good k.others (good number c is) (k.closes c is has);
    }

kick_by : (P : Order → Type 0) (channel text : List ℕ) (number : ℕ) (found : Option Client) (old new : Told) → client_at old.clients number ≡ found → AllGood P old.clients → KicksClient channel text number old new → Grows P old new
kick_by P channel text number None old new is good k = same_grows P old new good (k.nobody is)
kick_by P channel text number (Some c) old new is good k = kick_of P channel text number c (has_open channel c.channels) old new is refl good k

kicks_grow : (P : Order → Type 0) (channel text : List ℕ) (numbers : List ℕ) (old new : Told) → AllGood P old.clients → KickEach channel text numbers old new → Grows P old new
unfolding KickEach
kicks_grow P channel text [] old new good same =
    same_grows P old new good (ap (λ (told : Told). told.clients) same, ap (λ (told : Told). told.orders) same)
kicks_grow P channel text (number ∷ numbers) old new good (behind, kicks, more) =
    let first = kick_by P channel text number (client_at old.clients number) old behind refl good kicks in
    grows_both P old behind new first (kicks_grow P channel text numbers behind new first.good more)

rejoins_grow : (P : Order → Type 0) (is : Bool) (line : Parts) (nick : List ℕ) (old new : Told) → AllGood P old.clients → RejoinsIf is line nick old new → Grows P old new
rejoins_grow P false line nick old new good same = same_grows P old new good same
rejoins_grow P true line nick old new good kicks = kicks_grow P (parameter 0 line) _ (keys old.clients.all) old new good kicks

heard_of : (P : Order → Type 0) (now : ℕ) (at : Moment) (nick : List ℕ) (origin : Origin) (effect : GateEffect) (c : Client) (same : Bool) (old new : Told) → client_at old.clients origin.2 ≡ Some c → same_origin c.origin origin ≡ same → AllGood P old.clients → HearsOne now at nick origin effect old new → Grows P old new
heard_of P now at nick origin effect c false old new is own good h =
    same_grows P old new good (h.stranger c is own)
heard_of P now at nick origin effect c true old new is own good h =
    one_grows P origin.2 _ _ old new c is (is, own) good h.others h.served
    (λ s calls client stands e. hears_own effect nick now at s calls c client old.orders new.orders e)

heard_by : (P : Order → Type 0) (now : ℕ) (at : Moment) (nick : List ℕ) (origin : Origin) (effect : GateEffect) (found : Option Client) (old new : Told) → client_at old.clients origin.2 ≡ found → AllGood P old.clients → HearsOne now at nick origin effect old new → Grows P old new
heard_by P now at nick origin effect None old new is good h = same_grows P old new good (h.nobody is)
heard_by P now at nick origin effect (Some c) old new is good h = heard_of P now at nick origin effect c (same_origin c.origin origin) old new is refl good h

-- A client that the buffers close gets the reason.

why_adds : (P : Order → Type 0) (why : Option Eviction) (c : Client) (before after : Ordered) → Good P c → IsToldWhy why c before after → Adds P before after
unfolding AllAre
why_adds P None c before after good none = nothing_adds P before after none
why_adds P (Some why) c before after good (line, says, orders) = record {
  told = Log (Evicted c.origin why) ∷ Write c.origin.2 line ∷ [];
  orders = orders;
  all = (good.fits (Log (Evicted c.origin why)) refl, (good.fits (Write c.origin.2 line) refl, tt));
}

evicted_if : (P : Order → Type 0) (own : Bool) (c : Client) (effect : GateEffect) (before after : Ordered) → Good P c → IsEvictedIf own c effect before after → Adds P before after
evicted_if P false c effect before after good none = nothing_adds P before after none
evicted_if P true c effect before after good told =
    why_adds P (eviction_in (gate good.settings good.calls).waiting c effect) c before after good (told good.settings good.calls good.stands)

evicted_by : (P : Order → Type 0) (clients : Clients) (origin : Origin) (effect : GateEffect) (found : Option Client) (before after : Ordered) → client_at clients origin.2 ≡ found → AllGood P clients → IsEvicted found origin effect before after → Adds P before after
evicted_by P clients origin effect None before after is good none = nothing_adds P before after none
evicted_by P clients origin effect (Some c) before after is good told =
    evicted_if P (same_origin c.origin origin) c effect before after (good origin.2 c is) told

reached_grows : (P : Order → Type 0) (now : ℕ) (at : Moment) (nick : List ℕ) (origin : Origin) (effect : GateEffect) (old new : Told) → AllGood P old.clients → ReachesClient now at nick origin effect old new → Grows P old new
reached_grows P now at nick origin effect old new good r =
    let behind = crowd old.clients r.told in
    grows_both P old behind new
    (adds_grow P old behind good refl (evicted_by P old.clients origin effect (client_at old.clients origin.2) old.orders r.told refl good r.evicts))
    (heard_by P now at nick origin (reworded nick effect) (client_at old.clients origin.2) behind new refl good r.hears)

-- An effect passes.
pub pass_by : (P : Order → Type 0) (class : Class Parts) (now : ℕ) (at : Moment) (stage : Stage) (nick : List ℕ) (node : ℕ) (effect : GateEffect) (old new : Told) → AllGood P old.clients → PassesBy class now at stage nick node effect old new → Grows P old new
pass_by P (To origin) now at stage nick node effect old new good r = reached_grows P now at nick origin effect old new good r
pass_by P (Rejoin session line) now at stage nick node effect old new good rejoins =
    rejoins_grow P (is_session_of stage node) line nick old new good rejoins
pass_by P (Hand session number line) now at stage nick node effect old new good same =
    same_grows P old new good (ap (λ (told : Told). told.clients) same, ap (λ (told : Told). told.orders) same)
pass_by P Nowhere now at stage nick node effect old new good same =
    same_grows P old new good (ap (λ (told : Told). told.clients) same, ap (λ (told : Told). told.orders) same)

-- A nick is learnt: what is ordered is written to clients, and all else that matters here stays.
pub record Learnt (P : Order → Type 0) (old new : Driver) : Type 0 where
  pub adds : Adds P old.orders new.orders
  pub monitors : new.monitors ≡ old.monitors
  pub clients : new.clients ≡ old.clients

learns_if : (P : Order → Type 0) (nick : Option (List ℕ)) (old new : Driver) → AllGood P old.clients → LearnsIf nick old new → Learnt P old new
learns_if P None old new good same = record {
  adds = nothing_adds P old.orders new.orders (ap (λ (driver : Driver). driver.orders) same);
  monitors = ap (λ (driver : Driver). driver.monitors) same;
  clients = ap (λ (driver : Driver). driver.clients) same;
}
learns_if P (Some nick) old new good l = record {
  adds = all_written_add P (keys old.clients.all) old.clients _ old.orders new.orders good l.written;
  monitors = ap (λ (driver : Driver). driver.monitors) l.rest;
  clients = ap (λ (driver : Driver). driver.clients) l.rest;
}

pub learnt_good : (P : Order → Type 0) (effect : GateEffect) (old new : Driver) → AllGood P old.clients → LearnsNick effect old new → AllGood P new.clients
learnt_good P effect old new good l =
    subst (λ (clients : Clients). AllGood P clients) (sym (learns_if P (nick_learnt old.given old.settings.nick (joined_as effect)) old new good l).clients) good

-- an effect passes, and the monitors stay
pub passes_one : (P : Order → Type 0) (now : ℕ) (at : Moment) (node : ℕ) (effect : GateEffect) (old new : Driver) → AllGood P old.clients → Passes now at node effect old new → Grows P (told_of old) (told_of new) × (new.monitors ≡ old.monitors)
passes_one P now at node effect old new good p =
    let l = learns_if P (nick_learnt old.given old.settings.nick (joined_as effect)) old p.learnt good p.learns in
    let first = adds_grow P (told_of old) (told_of p.learnt) good l.clients l.adds in
    let last = pass_by P (class_of effect) now at p.learnt.link.stage (nick_in p.learnt) node effect (told_of p.learnt) (told_of new) first.good p.passes in
    (grows_both P (told_of old) (told_of p.learnt) (told_of new) first last, ap (λ (driver : Driver). driver.monitors) p.rest ∙ l.monitors)

pub passes_grow : (P : Order → Type 0) (now : ℕ) (at : Moment) (node : ℕ) (effects : List GateEffect) (old new : Driver) → AllGood P old.clients → PassEach now at node effects old new → Grows P (told_of old) (told_of new) × (new.monitors ≡ old.monitors)
unfolding PassEach
passes_grow P now at node [] old new good same = (
  same_grows P (told_of old) (told_of new) good (ap (λ (driver : Driver). driver.clients) same, ap (λ (driver : Driver). driver.orders) same),
  ap (λ (driver : Driver). driver.monitors) same,
)
passes_grow P now at node (effect ∷ effects) old new good (behind, passes, more) =
    let (first, monitors) = passes_one P now at node effect old behind good passes in
    let (last, rest) = passes_grow P now at node effects behind new first.good more in
    (grows_both P (told_of old) (told_of behind) (told_of new) first last, rest ∙ monitors)

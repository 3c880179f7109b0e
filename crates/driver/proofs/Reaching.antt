-- Effects reach the clients that they are for.
use Rattle.std.proofs.Common.{◌≡◌, ◌∙◌, ◌++◌, ℕ, ◌≤◌, Bool, true, false, List, [], ◌∷◌, Option, Some, None, refl, sym, ap, subst, arith}
use Rattle.std.proofs.lemmas.List.{append-nil}
use Rattle.bouncer_tower.specs.Hosting.{class_of}
use Rattle.client_gate.specs.Calls.{gate}
use Rattle.client_gate.specs.Gates.{GateEffect}
use Rattle.std.specs.BTreeMap.{keys}
use Rattle.irc_line.specs.Lines.{Parts, parameter}
use Rattle.machine_laws.specs.Origins.{same_origin}
use Rattle.machine_laws.specs.declared.class.Class.{Class}
use Rattle.machine_laws.specs.declared.class.Class.TheVariants.{Hand, Nowhere, Rejoin, To}
use Rattle.machine_laws.proofs.Origins.{same_origin-is}
use Rattle.wire_bytes.specs.declared.moment.Moment.{Moment}
use Rattle.wire_bytes.specs.declared.origin.Origin.{Origin}
use Rattle.driver.specs.declared.client.Client.{Client}
use Rattle.driver.specs.declared.clients.Clients.{Clients}
use Rattle.driver.specs.declared.driver.Driver.{Driver}
use Rattle.driver.specs.declared.link.Stage.{Stage}
use Rattle.driver.specs.declared.order.Order.{Order}
use Rattle.driver.specs.declared.eviction.Eviction.{Eviction}
use Rattle.driver.specs.declared.news.News.TheVariants.{Evicted}
use Rattle.driver.specs.declared.order.Order.TheVariants.{Log, Write}
use Rattle.driver.specs.Crowds.{IsSame, Told, told as crowd}
use Rattle.driver.specs.Driving.{told_of}
use Rattle.driver.specs.Evicting.{IsEvicted, IsEvictedIf, IsToldWhy, eviction_in}
use Rattle.driver.specs.Nicks.{nick_in}
use Rattle.driver.specs.Once.{TellsOnly, TellsOwn}
use Rattle.driver.specs.Passing.{HearsOne, PassEach, PassesBy, ReachesClient}
use Rattle.driver.specs.Rewording.{reworded}
use Rattle.driver.specs.Kicks.{KickEach, KicksClient, RejoinsIf}
use Rattle.driver.specs.Links.{is_session_of}
use Rattle.driver.specs.Opening.{closed, has_open}
use Rattle.driver.specs.Reaching.{AreSameButOpen, EffectsReach, ReachEach, Reaches, ReachesBy}
use Rattle.driver.specs.Rosters.{client_at}
use Rattle.driver.specs.Telling.{Ordered, ordered}
use Rattle.driver.specs.Waking.{awake}
use Rattle.driver.proofs.Adding.{learnt_good, passes_one}
use Rattle.driver.proofs.Growing.{AllGood, Good, by_number}
use Rattle.driver.proofs.OneClaim.{led_sound, new_sound}
use Rattle.driver.proofs.ClientCalls.{or_client}
use Rattle.driver.proofs.Heard.{then_orders}
use Rattle.driver.proofs.Owning.{hears_own}
use Rattle.driver.proofs.OwnOrders.{only_append}
use Rattle.driver.proofs.Quiet.{NoClaim}

-- if nothing happens
same_reaches : (origin : Origin) (old new : Told) → IsSame old new → Reaches origin old new
unfolding TellsOnly
same_reaches origin old new (same, none) = record {
  others = λ number c is _. subst (λ (clients : Clients). client_at clients number ≡ Some c) (sym same) is;
  own = record {
    told = [];
    orders = none ∙ sym (ap (λ (items : List Order). record old.orders { items = items }) (append-nil old.orders.items));
    own = tt;
  };
}

-- the client of the origin is not a client of another one
others_stay : (origin : Origin) (c : Client) (old new : Told) → client_at old.clients origin.2 ≡ Some c → same_origin c.origin origin ≡ true → ((other : ℕ) → (origin.2 ≡ other → ⊥) → client_at new.clients other ≡ client_at old.clients other) → (number : ℕ) (d : Client) → client_at old.clients number ≡ Some d → same_origin d.origin origin ≡ false → client_at new.clients number ≡ Some d
others_stay origin c old new is own others number d found apart =
    by_number origin.2 number (client_at new.clients number ≡ Some d)
    (λ same.
    let here = subst (λ (k : ℕ). client_at old.clients k ≡ Some d) (sym same) found in
    let one : c ≡ d = ap (or_client c) (sym is ∙ here) in
    absurd (cc (subst (λ (x : Client). same_origin x.origin origin ≡ true) one own, apart)))
    (λ other. others number other ∙ found)

reach_of : (n now : ℕ) (at : Moment) (nick : List ℕ) (origin : Origin) (effect : GateEffect) (c : Client) (same : Bool) (old new : Told) → client_at old.clients origin.2 ≡ Some c → same_origin c.origin origin ≡ same → AllGood (NoClaim n) old.clients → HearsOne now at nick origin effect old new → Reaches origin old new
reach_of n now at nick origin effect c false old new is own good h = same_reaches origin old new (h.stranger c is own)
reach_of n now at nick origin effect c true old new is own good h =
    let g = good origin.2 c is in
    let b = h.served g.settings g.calls c (is, own) g.stands in
    let o = hears_own effect nick now at g.settings g.calls c b.client old.orders new.orders b.happened in
    record {
      others = others_stay origin c old new is own h.others;
      own = record {
        told = o.told;
        orders = o.orders;
        own = subst (λ (origin : Origin). TellsOnly origin o.told) (same_origin-is c.origin origin own) o.own;
      };
    }

reach_by : (n now : ℕ) (at : Moment) (nick : List ℕ) (origin : Origin) (effect : GateEffect) (found : Option Client) (old new : Told) → client_at old.clients origin.2 ≡ found → AllGood (NoClaim n) old.clients → HearsOne now at nick origin effect old new → Reaches origin old new
reach_by n now at nick origin effect None old new is good h = same_reaches origin old new (h.nobody is)
reach_by n now at nick origin effect (Some c) old new is good h = reach_of n now at nick origin effect c (same_origin c.origin origin) old new is refl good h

-- a client that the buffers close gets the reason

tells_none : (origin : Origin) (before after : Ordered) → after ≡ before → TellsOwn origin before after
unfolding TellsOnly
tells_none origin before after none = record {
  told = [];
  orders = none ∙ sym (ap (λ (items : List Order). record before { items = items }) (append-nil before.items));
  own = tt;
}

why_own : (why : Option Eviction) (c : Client) (before after : Ordered) → IsToldWhy why c before after → TellsOwn c.origin before after
unfolding TellsOnly
why_own None c before after none = tells_none c.origin before after none
why_own (Some why) c before after (line, says, orders) = record {
  told = Log (Evicted c.origin why) ∷ Write c.origin.2 line ∷ [];
  orders = orders;
  own = (refl, (refl, tt));
}

evicted_own_if : (n : ℕ) (origin : Origin) (effect : GateEffect) (c : Client) (same : Bool) (before after : Ordered) → same_origin c.origin origin ≡ same → Good (NoClaim n) c → IsEvictedIf same c effect before after → TellsOwn origin before after
evicted_own_if n origin effect c false before after own good none = tells_none origin before after none
evicted_own_if n origin effect c true before after own good told =
    subst (λ (origin : Origin). TellsOwn origin before after) (same_origin-is c.origin origin own)
    (why_own (eviction_in (gate good.settings good.calls).waiting c effect) c before after (told good.settings good.calls good.stands))

evicted_own : (n : ℕ) (origin : Origin) (effect : GateEffect) (clients : Clients) (found : Option Client) (before after : Ordered) → client_at clients origin.2 ≡ found → AllGood (NoClaim n) clients → IsEvicted found origin effect before after → TellsOwn origin before after
evicted_own n origin effect clients None before after is good none = tells_none origin before after none
evicted_own n origin effect clients (Some c) before after is good told =
    evicted_own_if n origin effect c (same_origin c.origin origin) before after refl (good origin.2 c is) told

own_both : (origin : Origin) (before between after : Ordered) → TellsOwn origin before between → TellsOwn origin between after → TellsOwn origin before after
own_both origin before between after first last = record {
  told = first.told ++ last.told;
  orders = then_orders before between after first.told last.told first.orders last.orders;
  own = only_append origin first.told last.told first.own last.own;
}

reaches_client : (n now : ℕ) (at : Moment) (nick : List ℕ) (origin : Origin) (effect : GateEffect) (old new : Told) → AllGood (NoClaim n) old.clients → ReachesClient now at nick origin effect old new → Reaches origin old new
reaches_client n now at nick origin effect old new good r =
    let behind = crowd old.clients r.told in
    let reaches = reach_by n now at nick origin (reworded nick effect) (client_at old.clients origin.2) behind new refl good r.hears in
    record {
      others = reaches.others;
      own =
          own_both origin old.orders r.told new.orders
          (evicted_own n origin effect old.clients (client_at old.clients origin.2) old.orders r.told refl good r.evicts) reaches.own;
    }

-- clients that are kicked from a channel

same_open : (old new : Clients) → new ≡ old → AreSameButOpen old new
same_open old new same = record {
  same = λ number c is. (c, subst (λ (clients : Clients). client_at clients number ≡ Some c) (sym same) is, refl);
}

kick_open : (channel text : List ℕ) (number : ℕ) (c : Client) (has : Bool) (old new : Told) → client_at old.clients number ≡ Some c → has_open channel c.channels ≡ has → KicksClient channel text number old new → AreSameButOpen old.clients new.clients
kick_open channel text number c false old new is has k = let (same, none) = k.stays c is has in same_open old.clients new.clients same
kick_open channel text number c true old new is has k = record {
  same = λ n d found.
      by_number number n ((e : Client) × (client_at new.clients n ≡ Some e) × (e ≡ record d { channels = e.channels }))
      (λ same.
      let here = subst (λ (k : ℕ). client_at old.clients k ≡ Some d) (sym same) found in
      let one : c ≡ d = ap (or_client c) (sym is ∙ here) in
      let closes = subst (λ (x : Client). client_at new.clients number ≡ Some (record x { channels = closed channel x.channels })) one (k.closes c is has) in
      (record d { channels = closed channel d.channels }, subst (λ (k : ℕ). client_at new.clients k ≡ Some (record d { channels = closed channel d.channels })) same closes, refl))
      (λ apart. (d, k.others n apart ∙ found, refl));
}

kick_open_by : (channel text : List ℕ) (number : ℕ) (found : Option Client) (old new : Told) → client_at old.clients number ≡ found → KicksClient channel text number old new → AreSameButOpen old.clients new.clients
kick_open_by channel text number None old new is k = let (same, none) = k.nobody is in same_open old.clients new.clients same
kick_open_by channel text number (Some c) old new is k = kick_open channel text number c (has_open channel c.channels) old new is refl k

open_both : (old behind new : Clients) → AreSameButOpen old behind → AreSameButOpen behind new → AreSameButOpen old new
open_both old behind new first last = record {
  same = λ number c is.
      let (d, here, same) = first.same number c is in
      let (e, there, more) = last.same number d here in
      (e, there, more ∙ ap (λ (x : Client). record x { channels = e.channels }) same);
}

kicks_open : (channel text : List ℕ) (numbers : List ℕ) (old new : Told) → KickEach channel text numbers old new → AreSameButOpen old.clients new.clients
unfolding KickEach
kicks_open channel text [] old new same = same_open old.clients new.clients (ap (λ (told : Told). told.clients) same)
kicks_open channel text (number ∷ numbers) old new (behind, kicks, more) =
    open_both old.clients behind.clients new.clients
    (kick_open_by channel text number (client_at old.clients number) old behind refl kicks)
    (kicks_open channel text numbers behind new more)

rejoins_open : (is : Bool) (line : Parts) (nick : List ℕ) (old new : Told) → RejoinsIf is line nick old new → AreSameButOpen old.clients new.clients
rejoins_open false line nick old new (same, none) = same_open old.clients new.clients same
rejoins_open true line nick old new kicks = kicks_open (parameter 0 line) _ (keys old.clients.all) old new kicks

reaches_by : (n : ℕ) (class : Class Parts) (now : ℕ) (at : Moment) (stage : Stage) (nick : List ℕ) (node : ℕ) (effect : GateEffect) (old new : Told) → AllGood (NoClaim n) old.clients → PassesBy class now at stage nick node effect old new → ReachesBy class old new
reaches_by n (To origin) now at stage nick node effect old new good r = reaches_client n now at nick origin effect old new good r
reaches_by n (Rejoin session line) now at stage nick node effect old new good rejoins = rejoins_open (is_session_of stage node) line nick old new rejoins
reaches_by n (Hand session number line) now at stage nick node effect old new good same = ap (λ (told : Told). told.clients) same
reaches_by n Nowhere now at stage nick node effect old new good same = ap (λ (told : Told). told.clients) same

reach_each : (n now : ℕ) (at : Moment) (node : ℕ) (effects : List GateEffect) (old new : Driver) → AllGood (NoClaim n) old.clients → PassEach now at node effects old new → ReachEach effects old new
unfolding PassEach ReachEach
reach_each n now at node [] old new good same = same
reach_each n now at node (effect ∷ effects) old new good (behind, passes, more) =
    let (first, monitors) = passes_one (NoClaim n) now at node effect old behind good passes in
    let learnt = learnt_good (NoClaim n) effect old passes.learnt good passes.learns in
    let nick = nick_in passes.learnt in (
      passes.learnt,
      behind,
      passes.learns,
      reaches_by n (class_of effect) now at passes.learnt.link.stage nick node effect (told_of passes.learnt) (told_of behind) learnt passes.passes,
      reach_each n now at node effects behind new first.good more,
    )

pub effects_reach : EffectsReach
effects_reach steps now at node status effects progress refused before new led report =
    let low : 1 ≤ 1 = omega (arith) in
    let sound = led_sound 1 steps led.first before low (new_sound 1 led.settings led.now led.first led.is_new) led.calls in
    let h = report.hears in
    reach_each 1 now at node effects (awake now before) h.passed sound.good h.passes

-- What clients, and a look at the log and the nodes, do for the connection to the server: nothing.
use Rattle.std.proofs.Common.{◌≡◌, ◌∙◌, ℕ, zero, suc, ◌-◌, Bool, true, false, List, [], ◌∷◌, Option, Some, None, refl, sym, ap, subst, slice_get}
use Rattle.std.specs.Prelude.{if◌then◌else◌, ◌+◌}
use Rattle.std.specs.BTreeMap.{keys}
use Rattle.wire_bytes.specs.declared.moment.Moment.{Moment}
use Rattle.wire_bytes.specs.declared.origin.Origin.{Origin}
use Rattle.driver.specs.Guarding.{due_at}
use Rattle.driver.specs.declared.absence.Absence.TheVariants as absence
use Rattle.driver.specs.declared.client.Client.{Client}
use Rattle.driver.specs.declared.clients.Clients.{Clients}
use Rattle.driver.specs.declared.driver.Driver.{Driver}
use Rattle.driver.specs.declared.level.Level.{Level}
use Rattle.driver.specs.declared.news.News.TheVariants as news
use Rattle.driver.specs.declared.node_monitor.NodeMonitor.{NodeMonitor}
use Rattle.driver.specs.declared.order.Order.{Order}
use Rattle.driver.specs.declared.order.Order.TheVariants as order
use Rattle.driver.specs.Once.{IsFor}
use Rattle.driver.specs.Absences.{CutsBy, HangNodes, HangsIf, TellsGroupIf, WatchesNodes, begins_in, goes_on, group_news, hang_limit, hangs_news, is_new, is_short}
use Rattle.driver.specs.Arriving.{boot_at, next_number, turned_away_by}
use Rattle.driver.specs.Calls.{ConnectsTo, Goes as GoesCall, Orders, Speaks}
use Rattle.driver.specs.Clients.{is_shut}
use Rattle.driver.specs.Crowds.{told as crowd}
use Rattle.driver.specs.Driving.{orders_at, told_of}
use Rattle.driver.specs.Filling.{TellsLevelIf, WatchesFor}
use Rattle.driver.specs.Hearing.{turned_away_news}
use Rattle.driver.specs.Monitors.{is_over}
use Rattle.driver.specs.Nicks.{nick_in}
use Rattle.driver.specs.Quitting.{Connection}
use Rattle.driver.specs.Links.{is_open}
use Rattle.driver.specs.declared.link.Stage.{Stage}
use Rattle.driver.specs.Rosters.{client_at, is_attached_in}
use Rattle.driver.specs.Telling.{Ordered, ordered}
use Rattle.driver.proofs.Answered.{answers_empty_if}
use Rattle.driver.proofs.Adding.{Adds, adds_both, adds_grow, all_written_add, nothing_adds, one_adds}
use Rattle.driver.proofs.ClientCalls.{arrive_good, comes_add}
use Rattle.driver.proofs.Growing.{AllAre, AllGood, cuts_grow, one_grows}
use Rattle.driver.proofs.Owning.{lost_own, reads_own}
use Rattle.driver.proofs.Quiet.{NoClaim, quiet_client}
use Rattle.driver.proofs.Quitting.{Fits, Goes, Inner, StandsAs, adds_goes, goes_both, inner_client, inner_goes, moved_goes, same_goes}
use Rattle.driver.proofs.Used.{of_inner}

-- Clients.

as_good : (P Q : Order → Type 0) (clients : Clients) → ((origin : Origin) (o : Order) → IsFor origin o → Q o) → AllGood P clients → AllGood Q clients
as_good P Q clients fits good number c found =
    let g = good number c found in
    record { settings = g.settings; calls = g.calls; stands = g.stands; fits = fits c.origin }

away_inner : (away : Bool) (id : ℕ) → AllAre Inner (if away then [] else order.Log (news.TurnedAway id) ∷ [])
unfolding AllAre
away_inner true id = tt
away_inner false id = (tt, tt)

turned_inner : (boot : Option ℕ) (monitors : List NodeMonitor) (node : ℕ) → AllAre Inner (turned_away_by boot monitors node)
unfolding AllAre
turned_inner None monitors node = of_inner turned_away_news (slice_get monitors (node - 1)) (λ d. away_inner d.visitors.has_turned_away d.id)
turned_inner (Some boot) monitors node = tt

pub connect_goes : (now node : ℕ) (c : Connection) (old new : Driver) → Fits c old.link → AllGood Inner old.clients → ConnectsTo now node old new → Goes 0 c old new
connect_goes now node c old new fits good k =
    let boot = boot_at old.monitors node in
    let quiet : AllGood (NoClaim 1) old.clients = as_good Inner (NoClaim 1) old.clients (λ origin o own. quiet_client 1 origin o own) good in
    let behind = arrive_good 1 node boot (next_number old.monitors node old.numbered) old.settings.password.items (nick_in old) now old.clients new.clients quiet k.others k.arrived in
    inner_goes 0 c old new fits (ap (λ (driver : Driver). driver.link) k.rest)
    (record {
      told = turned_away_by boot old.monitors node;
      orders = k.orders;
      all = turned_inner boot old.monitors node;
      good = as_good (NoClaim 1) Inner new.clients inner_client behind;
    })

nobody_goes : (c : Connection) (old new : Driver) → Fits c old.link → AllGood Inner old.clients → new.link ≡ old.link → (new.clients ≡ old.clients) × (new.orders ≡ old.orders) → Goes 0 c old new
nobody_goes c old new fits good link (clients, orders) =
    adds_goes 0 c old new fits good link clients (nothing_adds Inner old.orders new.orders orders)

-- what fits with what waits fits with what is left of it
speaks_fits : (bytes : List ℕ) (now : ℕ) (at : Moment) (number : ℕ) (c : Connection) (old new : Driver) → Speaks bytes now at number old new → Fits c old.link → Fits c new.link
speaks_fits bytes now at number c old new s fits =
    let stage : new.link.stage ≡ old.link.stage = ap (λ (driver : Driver). driver.link.stage) s.rest in
    record {
      stands = subst (λ (stage : Stage). StandsAs c stage) (sym stage) fits.stands;
      empty = λ closed.
          answers_empty_if (is_attached_in (client_at new.clients number)) s.comes.words now number _ _ s.comes.answers
          (fits.empty (sym (ap is_open stage) ∙ closed));
    }

pub speaks_go : (bytes : List ℕ) (now : ℕ) (at : Moment) (number : ℕ) (found : Option Client) (c : Connection) (old new : Driver) → client_at old.clients number ≡ found → Fits c old.link → AllGood Inner old.clients → Speaks bytes now at number old new → Goes 0 c old new
speaks_go bytes now at number None c old new is fits good s =
    let (clients, orders) = s.nobody is in
    moved_goes 0 c old new fits (λ d has. speaks_fits bytes now at number d old new s has)
    (adds_grow Inner (told_of old) (told_of new) good clients (nothing_adds Inner old.orders new.orders orders))
speaks_go bytes now at number (Some client) c old new is fits good s =
    let behind = crowd new.clients s.comes.told in
    let g =
    one_grows Inner number _ _ (told_of old) behind client is is good s.others s.comes.served
    (λ gs calls next stands h. reads_own (is_shut client) bytes now at (due_at old.guard now) gs calls client next old.orders s.comes.told refl stands h.receives)
    in
    let greeted = comes_add Inner bytes now at number old new g.good (λ origin. tt) s.comes in
    let all = adds_both Inner old.orders s.comes.told new.orders (record { told = g.told; orders = g.orders; all = g.all }) greeted in
    moved_goes 0 c old new fits (λ d has. speaks_fits bytes now at number d old new s has)
    (record { told = all.told; orders = all.orders; all = all.all; good = g.good })

pub loses_go : (now : ℕ) (at : Moment) (number : ℕ) (found : Option Client) (c : Connection) (old new : Driver) → client_at old.clients number ≡ found → Fits c old.link → AllGood Inner old.clients → GoesCall now at number old new → Goes 0 c old new
loses_go now at number None c old new is fits good s =
    nobody_goes c old new fits good (ap (λ (driver : Driver). driver.link) s.rest) (s.nobody is)
loses_go now at number (Some client) c old new is fits good s =
    inner_goes 0 c old new fits (ap (λ (driver : Driver). driver.link) s.rest)
    (one_grows Inner number _ _ (told_of old) (told_of new) client is is good s.others s.served
    (λ gs calls next stands h. lost_own client.is_gone now at gs calls client next old.orders new.orders refl stands h))

-- Only orders are given.
pub given_goes : (gives : Ordered → Ordered → Type 0) (c : Connection) (old new : Driver) → Fits c old.link → AllGood Inner old.clients → (o : Orders gives old new) → Adds Inner old.orders new.orders → Goes 0 c old new
given_goes gives c old new fits good o adds =
    adds_goes 0 c old new fits good (ap (λ (driver : Driver). driver.link) o.rest) (ap (λ (driver : Driver). driver.clients) o.rest) adds

-- The log and the nodes are looked at.

level_goes : (rises : Bool) (node : ℕ) (level : Level) (c : Connection) (old new : Driver) → Fits c old.link → AllGood Inner old.clients → TellsLevelIf rises node level old new → Goes 0 c old new
level_goes false node level c old new fits good same = same_goes 0 c old new fits good same
level_goes true node level c old new fits good t =
    adds_goes 0 c old new fits good (ap (λ (driver : Driver). driver.link) t.rest) (ap (λ (driver : Driver). driver.clients) t.rest)
    (adds_both Inner old.orders (ordered old.orders (order.Log (news.LogFills node level) ∷ [])) new.orders
    (one_adds Inner (order.Log (news.LogFills node level)) old.orders _ refl tt)
    (all_written_add Inner (keys old.clients.all) old.clients _ _ new.orders good t.written))

pub watch_goes : (leader : Option ℕ) (c : Connection) (old new : Driver) → Fits c old.link → AllGood Inner old.clients → WatchesFor leader old new → Goes 0 c old new
watch_goes None c old new fits good same = same_goes 0 c old new fits good same
watch_goes (Some node) c old new fits good w = level_goes _ node _ c old new fits good w

hangs_inner : (d : NodeMonitor) → AllAre Inner (hangs_news d)
unfolding AllAre
hangs_inner d = (tt, tt)

hang_goes : (now node : ℕ) (hangs : Option ℕ) (c : Connection) (old new : Driver) → Fits c old.link → AllGood Inner old.clients → HangsIf hangs now node old new → Goes 0 c old new
hang_goes now node None c old new fits good same = same_goes 0 c old new fits good same
hang_goes now node (Some boot) c old new fits good h =
    let said = orders_at hangs_news old.monitors node in
    let behind = ordered old.orders said in
    let g = cuts_grow Inner absence.Hanging node (keys old.clients.all) (crowd old.clients behind) (told_of new) good h.cut in
    let all =
    adds_both Inner old.orders behind new.orders
    (record { told = said; orders = refl; all = of_inner hangs_news (slice_get old.monitors (node - 1)) hangs_inner })
    (record { told = g.told; orders = g.orders; all = g.all })
    in
    inner_goes 0 c old new fits (ap (λ (driver : Driver). driver.link) h.rest)
    (record { told = all.told; orders = all.orders; all = all.all; good = g.good })

hang_all_go : (count now node : ℕ) (c : Connection) (old new : Driver) → Fits c old.link → AllGood Inner old.clients → HangNodes count now node old new → Goes 0 c old new
unfolding HangNodes
hang_all_go zero now node c old new fits good same = same_goes 0 c old new fits good same
hang_all_go (suc count) now node c old new fits good (mid, one, more) =
    let first = hang_goes now node (begins_in old.settings.timeout_ms now (slice_get old.monitors (node - 1))) c old mid fits good one in
    goes_both 0 c old mid new first (hang_all_go count now (node + 1) first.last mid new first.fits first.good more)

cuts_go : (now : ℕ) (going long : Bool) (c : Connection) (old new : Driver) → Fits c old.link → AllGood Inner old.clients → CutsBy going long now old new → Goes 0 c old new
cuts_go now false long c old new fits good is =
    adds_goes 0 c old new fits good (ap (λ (driver : Driver). driver.link) is) (ap (λ (driver : Driver). driver.clients) is)
    (nothing_adds Inner old.orders new.orders (ap (λ (driver : Driver). driver.orders) is))
cuts_go now true false c old new fits good same = same_goes 0 c old new fits good same
cuts_go now true true c old new fits good all = hang_all_go 7 now 1 c old new fits good all

group_inner : (short : Bool) → Inner (order.Log (group_news short))
group_inner true = tt
group_inner false = tt

group_goes : (tells short : Bool) (c : Connection) (old new : Driver) → Fits c old.link → AllGood Inner old.clients → TellsGroupIf tells short old new → Goes 0 c old new
group_goes false short c old new fits good same = same_goes 0 c old new fits good same
group_goes true short c old new fits good t =
    adds_goes 0 c old new fits good (ap (λ (driver : Driver). driver.link) t.rest) (ap (λ (driver : Driver). driver.clients) t.rest)
    (adds_both Inner old.orders (ordered old.orders (order.Log (group_news short) ∷ [])) new.orders
    (one_adds Inner (order.Log (group_news short)) old.orders _ refl (group_inner short))
    (all_written_add Inner (keys old.clients.all) old.clients _ _ new.orders good t.written))

pub watches_go : (now : ℕ) (c : Connection) (old new : Driver) → Fits c old.link → AllGood Inner old.clients → WatchesNodes now old new → Goes 0 c old new
watches_go now c old new fits good w =
    let first =
    adds_goes 0 c old w.hastens fits good (ap (λ (driver : Driver). driver.link) w.is_hastened) (ap (λ (driver : Driver). driver.clients) w.is_hastened)
    (nothing_adds Inner old.orders w.hastens.orders (ap (λ (driver : Driver). driver.orders) w.is_hastened))
    in
    let next =
    cuts_go now (goes_on w.hastens now) (is_over w.hastens.going_on (hang_limit w.hastens.settings.timeout_ms) now) first.last w.hastens w.seen first.fits first.good w.cuts
    in
    let both = goes_both 0 c old w.hastens w.seen first next in
    goes_both 0 c old w.seen new both (group_goes (is_new (is_short old now) w.seen.is_short) (is_short old now) both.last w.seen new both.fits both.good w.tells)

-- What clients, and a look at the log and the nodes, do to the phase of a session: nothing.
use Rattle.std.proofs.Common.{◌≡◌, ℕ, zero, suc, ◌-◌, Bool, true, false, List, [], ◌∷◌, Option, Some, None, refl, ap, slice_get}
use Rattle.std.specs.Prelude.{◌+◌, if◌then◌else◌}
use Rattle.std.specs.BTreeMap.{keys}
use Rattle.wire_bytes.specs.declared.moment.Moment.{Moment}
use Rattle.wire_bytes.specs.declared.origin.Origin.{Origin}
use Rattle.driver.specs.declared.absence.Absence.TheVariants as absence
use Rattle.driver.specs.declared.client.Client.{Client}
use Rattle.driver.specs.declared.clients.Clients.{Clients}
use Rattle.driver.specs.declared.driver.Driver.{Driver}
use Rattle.driver.specs.declared.level.Level.{Level}
use Rattle.driver.specs.declared.news.News.TheVariants as news
use Rattle.driver.specs.declared.node_monitor.NodeMonitor.{NodeMonitor}
use Rattle.driver.specs.declared.order.Order.{Order}
use Rattle.driver.specs.declared.order.Order.TheVariants as order
use Rattle.driver.specs.Absences.{CutsBy, HangNodes, HangsIf, TellsGroupIf, WatchesNodes, begins_in, goes_on, group_news, hang_limit, hangs_news, is_new, is_short}
use Rattle.driver.specs.Arriving.{boot_at, next_number, turned_away_by}
use Rattle.driver.specs.Calls.{ConnectsTo, Goes as GoesCall, Speaks}
use Rattle.driver.specs.Clients.{is_shut}
use Rattle.driver.specs.Crowds.{told as crowd}
use Rattle.driver.specs.Driving.{orders_at, orders_of, told_of}
use Rattle.driver.specs.Filling.{TellsLevelIf, WatchesFor}
use Rattle.driver.specs.Guarding.{due_at}
use Rattle.driver.specs.Hearing.{turned_away_news}
use Rattle.driver.specs.Monitors.{is_over}
use Rattle.driver.specs.Nicks.{nick_in}
use Rattle.driver.specs.Once.{IsFor}
use Rattle.driver.specs.Ordering.{Phase}
use Rattle.driver.specs.Rosters.{client_at}
use Rattle.driver.specs.Telling.{ordered}
use Rattle.driver.proofs.Adding.{adds_both, all_written_add, nothing_adds, one_adds}
use Rattle.driver.proofs.ClientCalls.{arrive_good, comes_add}
use Rattle.driver.proofs.Growing.{AllAre, AllGood, cuts_grow, one_grows}
use Rattle.driver.proofs.Owning.{lost_own, reads_own}
use Rattle.driver.proofs.Phases.{Calm, Goes, StandsAs, adds_goes, calm_client, calm_goes, goes_both, same_goes}
use Rattle.driver.proofs.Quiet.{NoClaim, quiet_client}

-- Clients.

as_good : (P Q : Order → Type 0) (clients : Clients) → ((origin : Origin) (o : Order) → IsFor origin o → Q o) → AllGood P clients → AllGood Q clients
as_good P Q clients fits good number c found =
    let g = good number c found in
    record { settings = g.settings; calls = g.calls; stands = g.stands; fits = fits c.origin }

pub of_calm : (orders : NodeMonitor → List Order) (found : Option NodeMonitor) → ((monitor : NodeMonitor) → AllAre Calm (orders monitor)) → AllAre Calm (orders_of orders found)
unfolding AllAre
of_calm orders None all = tt
of_calm orders (Some monitor) all = all monitor

away_calm : (away : Bool) (id : ℕ) → AllAre Calm (if away then [] else order.Log (news.TurnedAway id) ∷ [])
unfolding AllAre
away_calm true id = tt
away_calm false id = (tt, tt)

turned_calm : (boot : Option ℕ) (monitors : List NodeMonitor) (node : ℕ) → AllAre Calm (turned_away_by boot monitors node)
unfolding AllAre
turned_calm None monitors node = of_calm turned_away_news (slice_get monitors (node - 1)) (λ d. away_calm d.visitors.has_turned_away d.id)
turned_calm (Some boot) monitors node = tt

pub connect_goes : (now node : ℕ) (phase : Phase) (old new : Driver) → StandsAs phase old.link.stage → AllGood Calm old.clients → ConnectsTo now node old new → Goes phase old new
connect_goes now node phase old new stands good k =
    let boot = boot_at old.monitors node in
    let quiet : AllGood (NoClaim 1) old.clients = as_good Calm (NoClaim 1) old.clients (λ origin o own. quiet_client 1 origin o own) good in
    let behind = arrive_good 1 node boot (next_number old.monitors node old.numbered) old.settings.password.items (nick_in old) now old.clients new.clients quiet k.others k.arrived in
    calm_goes phase old new stands (ap (λ (driver : Driver). driver.link.stage) k.rest)
    (record {
      told = turned_away_by boot old.monitors node;
      orders = k.orders;
      all = turned_calm boot old.monitors node;
      good = as_good (NoClaim 1) Calm new.clients calm_client behind;
    })

nobody_goes : (phase : Phase) (old new : Driver) → StandsAs phase old.link.stage → AllGood Calm old.clients → new.link.stage ≡ old.link.stage → (new.clients ≡ old.clients) × (new.orders ≡ old.orders) → Goes phase old new
nobody_goes phase old new stands good stage (clients, orders) =
    adds_goes phase old new stands good stage clients (nothing_adds Calm old.orders new.orders orders)

pub speaks_go : (bytes : List ℕ) (now : ℕ) (at : Moment) (number : ℕ) (found : Option Client) (phase : Phase) (old new : Driver) → client_at old.clients number ≡ found → StandsAs phase old.link.stage → AllGood Calm old.clients → Speaks bytes now at number old new → Goes phase old new
speaks_go bytes now at number None phase old new is stands good s =
    nobody_goes phase old new stands good (ap (λ (driver : Driver). driver.link.stage) s.rest) (s.nobody is)
speaks_go bytes now at number (Some client) phase old new is stands good s =
    let behind = crowd new.clients s.comes.told in
    let g =
    one_grows Calm number _ _ (told_of old) behind client is is good s.others s.comes.served
    (λ gs calls next known h. reads_own (is_shut client) bytes now at (due_at old.guard now) gs calls client next old.orders s.comes.told refl known h.receives)
    in
    let greeted = comes_add Calm bytes now at number old new g.good (λ origin. tt) s.comes in
    let all = adds_both Calm old.orders s.comes.told new.orders (record { told = g.told; orders = g.orders; all = g.all }) greeted in
    calm_goes phase old new stands (ap (λ (driver : Driver). driver.link.stage) s.rest)
    (record { told = all.told; orders = all.orders; all = all.all; good = g.good })

pub loses_go : (now : ℕ) (at : Moment) (number : ℕ) (found : Option Client) (phase : Phase) (old new : Driver) → client_at old.clients number ≡ found → StandsAs phase old.link.stage → AllGood Calm old.clients → GoesCall now at number old new → Goes phase old new
loses_go now at number None phase old new is stands good s =
    nobody_goes phase old new stands good (ap (λ (driver : Driver). driver.link.stage) s.rest) (s.nobody is)
loses_go now at number (Some client) phase old new is stands good s =
    calm_goes phase old new stands (ap (λ (driver : Driver). driver.link.stage) s.rest)
    (one_grows Calm number _ _ (told_of old) (told_of new) client is is good s.others s.served
    (λ gs calls next known h. lost_own client.is_gone now at gs calls client next old.orders new.orders refl known h))

-- The log and the nodes are looked at.

level_goes : (rises : Bool) (node : ℕ) (level : Level) (phase : Phase) (old new : Driver) → StandsAs phase old.link.stage → AllGood Calm old.clients → TellsLevelIf rises node level old new → Goes phase old new
level_goes false node level phase old new stands good same = same_goes phase old new stands good same
level_goes true node level phase old new stands good t =
    adds_goes phase old new stands good (ap (λ (driver : Driver). driver.link.stage) t.rest) (ap (λ (driver : Driver). driver.clients) t.rest)
    (adds_both Calm old.orders (ordered old.orders (order.Log (news.LogFills node level) ∷ [])) new.orders
    (one_adds Calm (order.Log (news.LogFills node level)) old.orders _ refl tt)
    (all_written_add Calm (keys old.clients.all) old.clients _ _ new.orders good t.written))

pub watch_goes : (leader : Option ℕ) (phase : Phase) (old new : Driver) → StandsAs phase old.link.stage → AllGood Calm old.clients → WatchesFor leader old new → Goes phase old new
watch_goes None phase old new stands good same = same_goes phase old new stands good same
watch_goes (Some node) phase old new stands good w = level_goes _ node _ phase old new stands good w

hangs_calm : (d : NodeMonitor) → AllAre Calm (hangs_news d)
unfolding AllAre
hangs_calm d = (tt, tt)

hang_goes : (now node : ℕ) (hangs : Option ℕ) (phase : Phase) (old new : Driver) → StandsAs phase old.link.stage → AllGood Calm old.clients → HangsIf hangs now node old new → Goes phase old new
hang_goes now node None phase old new stands good same = same_goes phase old new stands good same
hang_goes now node (Some boot) phase old new stands good h =
    let said = orders_at hangs_news old.monitors node in
    let behind = ordered old.orders said in
    let g = cuts_grow Calm absence.Hanging node (keys old.clients.all) (crowd old.clients behind) (told_of new) good h.cut in
    let all =
    adds_both Calm old.orders behind new.orders
    (record { told = said; orders = refl; all = of_calm hangs_news (slice_get old.monitors (node - 1)) hangs_calm })
    (record { told = g.told; orders = g.orders; all = g.all })
    in
    calm_goes phase old new stands (ap (λ (driver : Driver). driver.link.stage) h.rest)
    (record { told = all.told; orders = all.orders; all = all.all; good = g.good })

hang_all_go : (count now node : ℕ) (phase : Phase) (old new : Driver) → StandsAs phase old.link.stage → AllGood Calm old.clients → HangNodes count now node old new → Goes phase old new
unfolding HangNodes
hang_all_go zero now node phase old new stands good same = same_goes phase old new stands good same
hang_all_go (suc count) now node phase old new stands good (mid, one, more) =
    let first = hang_goes now node (begins_in old.settings.timeout_ms now (slice_get old.monitors (node - 1))) phase old mid stands good one in
    goes_both phase old mid new first (hang_all_go count now (node + 1) first.last mid new first.stands first.good more)

cuts_go : (now : ℕ) (going long : Bool) (phase : Phase) (old new : Driver) → StandsAs phase old.link.stage → AllGood Calm old.clients → CutsBy going long now old new → Goes phase old new
cuts_go now false long phase old new stands good is =
    adds_goes phase old new stands good (ap (λ (driver : Driver). driver.link.stage) is) (ap (λ (driver : Driver). driver.clients) is)
    (nothing_adds Calm old.orders new.orders (ap (λ (driver : Driver). driver.orders) is))
cuts_go now true false phase old new stands good same = same_goes phase old new stands good same
cuts_go now true true phase old new stands good all = hang_all_go 7 now 1 phase old new stands good all

group_calm : (short : Bool) → Calm (order.Log (group_news short))
group_calm true = tt
group_calm false = tt

group_goes : (tells short : Bool) (phase : Phase) (old new : Driver) → StandsAs phase old.link.stage → AllGood Calm old.clients → TellsGroupIf tells short old new → Goes phase old new
group_goes false short phase old new stands good same = same_goes phase old new stands good same
group_goes true short phase old new stands good t =
    adds_goes phase old new stands good (ap (λ (driver : Driver). driver.link.stage) t.rest) (ap (λ (driver : Driver). driver.clients) t.rest)
    (adds_both Calm old.orders (ordered old.orders (order.Log (group_news short) ∷ [])) new.orders
    (one_adds Calm (order.Log (group_news short)) old.orders _ refl (group_calm short))
    (all_written_add Calm (keys old.clients.all) old.clients _ _ new.orders good t.written))

pub watches_go : (now : ℕ) (phase : Phase) (old new : Driver) → StandsAs phase old.link.stage → AllGood Calm old.clients → WatchesNodes now old new → Goes phase old new
watches_go now phase old new stands good w =
    let first =
    adds_goes phase old w.hastens stands good (ap (λ (driver : Driver). driver.link.stage) w.is_hastened) (ap (λ (driver : Driver). driver.clients) w.is_hastened)
    (nothing_adds Calm old.orders w.hastens.orders (ap (λ (driver : Driver). driver.orders) w.is_hastened))
    in
    let next =
    cuts_go now (goes_on w.hastens now) (is_over w.hastens.going_on (hang_limit w.hastens.settings.timeout_ms) now) first.last w.hastens w.seen first.stands first.good w.cuts
    in
    let both = goes_both phase old w.hastens w.seen first next in
    goes_both phase old w.seen new both (group_goes (is_new (is_short old now) w.seen.is_short) (is_short old now) both.last w.seen new both.stands both.good w.tells)

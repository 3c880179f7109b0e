-- What time does to the connection to the server.
use Rattle.std.proofs.Common.{◌≡◌, ◌∙◌, ℕ, zero, suc, Bool, true, false, List, Option, Some, None, refl, sym, ap, subst}
use Rattle.std.specs.Prelude.{◌+◌}
use Rattle.std.specs.BTreeMap.{keys}
use Rattle.wire_bytes.specs.declared.moment.Moment.{Moment}
use Rattle.driver.specs.declared.driver.Driver.{Driver}
use Rattle.driver.specs.declared.link.Stage.{Stage}
use Rattle.driver.specs.declared.link.Stage.TheVariants.{Closing, Connecting, Idle, Open}
use Rattle.driver.specs.declared.news.Ending.TheVariants.{Silent}
use Rattle.driver.specs.declared.node_monitor.NodeMonitor.{NodeMonitor}
use Rattle.driver.specs.declared.retirement.Retirement.{Retirement}
use Rattle.driver.specs.declared.settings.Settings.{Settings}
use Rattle.driver.specs.Links.{is_open}
use Rattle.driver.specs.Driving.{AsksServer, Ticks, round_of, told_of}
use Rattle.driver.specs.Quitting.{Connection}
use Rattle.driver.specs.Retiring.{retirement_at}
use Rattle.driver.specs.Rounds.{Round, SpreadsAll, SpreadsBy, ask_orders, retired, retirement_due}
use Rattle.driver.specs.Servers.{AsksForWord, is_quiet}
use Rattle.driver.specs.Waking.{awake}
use Rattle.driver.proofs.Adding.{Adds, adds_both, nothing_adds}
use Rattle.driver.proofs.Growing.{AllAre, AllGood, ticks_grow}
use Rattle.driver.proofs.Parted.{silent_goes}
use Rattle.driver.proofs.Quitting.{Fits, Goes, Inner, StandsAs, adds_goes, goes_both, inner_goes}
use Rattle.driver.proofs.Used.{nodes_go, says_go}

-- Time passes.

ask_inner : (due : Option Retirement) (monitor : NodeMonitor) → AllAre Inner (ask_orders due monitor)
unfolding AllAre
ask_inner None monitor = tt
ask_inner (Some retirement) monitor = (tt, tt)

spreads_add : (count : ℕ) (settings : Settings) (now leader node : ℕ) (monitors : List NodeMonitor) (old new : Round) → SpreadsAll count settings now leader node monitors old new → Adds Inner old.orders new.orders
unfolding SpreadsAll
spreads_add zero settings now leader node monitors old new same = nothing_adds Inner old.orders new.orders (ap (λ (round : Round). round.orders) same)
spreads_add (suc count) settings now leader node monitors old new (mid, s, more) =
    let due = retirement_due settings now (retired settings now s.own (retirement_at old.retirements node)) in
    adds_both Inner old.orders mid.orders new.orders
    (record { told = ask_orders due s.via; orders = s.orders; all = ask_inner due s.via })
    (spreads_add count settings now leader (node + 1) monitors mid new more)

spreads_by : (leader : Option ℕ) (settings : Settings) (now : ℕ) (monitors : List NodeMonitor) (old new : Round) → SpreadsBy leader settings now monitors old new → Adds Inner old.orders new.orders
spreads_by None settings now monitors old new same = nothing_adds Inner old.orders new.orders (ap (λ (round : Round). round.orders) same)
spreads_by (Some leader) settings now monitors old new s = spreads_add 7 settings now leader 1 monitors old new s

woken_goes : (now : ℕ) (c : Connection) (old new : Driver) → Goes now c (awake now old) new → Goes now c old new
woken_goes now c old new g = record { last = g.last; told = g.told; orders = g.orders; leads = g.leads; fits = g.fits; good = g.good }

pub stage_link : (stage : Stage) (old new : Driver) → old.link.stage ≡ stage → new.link.stage ≡ stage → new.link ≡ record old.link { stage = new.link.stage } → new.link ≡ old.link
stage_link stage old new is same link = link ∙ ap (λ (stage : Stage). record old.link { stage = stage }) (same ∙ sym is)

-- A server that is quiet is sent a PING.
asks_go : (now : ℕ) (c : Connection) (asks : Bool) (stage : Stage) (old new : Driver) → is_quiet stage now ≡ asks → old.link.stage ≡ stage → Fits c old.link → AllGood Inner old.clients → new.link ≡ record old.link { stage = new.link.stage } → new.clients ≡ old.clients → AsksForWord asks now stage old.orders new.link.stage new.orders → Goes now c old new
asks_go now c false stage old new quiet is fits good link clients (same, none) =
    adds_goes now c old new fits good (stage_link stage old new is same link) clients (nothing_adds Inner old.orders new.orders none)
asks_go now c true (Idle since wait) old new quiet is fits good link clients asks = absurd (cc quiet)
asks_go now c true (Closing since wait) old new quiet is fits good link clients asks = absurd (cc quiet)
asks_go now c true (Connecting node) old new quiet is fits good link clients asks = absurd (cc quiet)
asks_go now c true (Open session) old new quiet is fits good link clients (ping, are, orders, asked) =
    says_go now c ping old new (subst (λ (stage : Stage). StandsAs c stage) is fits.stands) (ap is_open asked) orders clients good

pings_go : (now : ℕ) (c : Connection) (old new : Driver) → Fits c old.link → AllGood Inner old.clients → AsksServer now old new → Goes now c old new
pings_go now c old new fits good a =
    asks_go now c (is_quiet old.link.stage now) old.link.stage old new refl refl fits good
    (ap (λ (driver : Driver). driver.link) a.rest) (ap (λ (driver : Driver). driver.clients) a.rest) a.asks

pub ticks_go : (now : ℕ) (at : Moment) (c : Connection) (old new : Driver) → Fits c old.link → AllGood Inner old.clients → Ticks now at old new → Goes now c old new
ticks_go now at c old new fits good t =
    let pinged = woken_goes now c old t.pinged (pings_go now c (awake now old) t.pinged fits good t.pings) in
    let left = silent_goes now pinged.last Silent t.pinged t.left pinged.fits pinged.good t.leaves in
    let served =
    inner_goes now left.last t.left t.served left.fits (ap (λ (driver : Driver). driver.link) t.is_served)
    (ticks_grow Inner at t.left.settings.timeout_ms now t.left.monitors (keys t.left.clients.all) (told_of t.left) (told_of t.served) left.good t.clients)
    in
    let asked = nodes_go 7 now 1 served.last t.served t.asked served.fits served.good t.nodes in
    let last =
    adds_goes now asked.last t.asked new asked.fits asked.good (ap (λ (driver : Driver). driver.link) t.rest) (ap (λ (driver : Driver). driver.clients) t.rest)
    (spreads_by t.retired.leader t.asked.settings now t.asked.monitors (round_of t.asked) (round_of new) t.retired.spreads)
    in
    goes_both now c old t.pinged new pinged
    (goes_both now pinged.last t.pinged t.left new left
    (goes_both now left.last t.left t.served new served (goes_both now served.last t.served t.asked new asked last)))

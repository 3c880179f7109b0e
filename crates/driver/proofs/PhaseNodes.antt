-- What time does to the phase of a session.
use Rattle.std.proofs.Common.{◌≡◌, ℕ, zero, suc, ◌+◌, ◌-◌, Bool, true, false, List, Option, Some, None, refl, sym, ap, subst, slice_get}
use Rattle.std.specs.Prelude.{if◌then◌else◌}
use Rattle.std.specs.BTreeMap.{keys}
use Rattle.wire_bytes.specs.declared.moment.Moment.{Moment}
use Rattle.bouncer_tower.specs.Bodies.{TowerBody}
use Rattle.buffer_commands.specs.declared.wire_line.WireLine.{WireLine}
use Rattle.node_notes.specs.declared.note.Note.{Note}
use Rattle.node_notes.specs.declared.note.Note.TheVariants as note
use Rattle.node_notes.specs.declared.status.Status.{Status}
use Rattle.node_notes.specs.Notes.{leads}
use Rattle.driver.specs.declared.clients.Clients.{Clients}
use Rattle.driver.specs.declared.driver.Driver.{Driver}
use Rattle.driver.specs.declared.driver.writing.TheConstants.{MOST_AT_ONCE}
use Rattle.driver.specs.declared.link.Stage.{Stage}
use Rattle.driver.specs.declared.link.Stage.TheVariants.{Closing, Connecting, Idle, Open}
use Rattle.driver.specs.declared.news.Ending.TheVariants.{Silent}
use Rattle.driver.specs.declared.node_monitor.NodeMonitor.{NodeMonitor}
use Rattle.driver.specs.declared.node_monitor.standing.Outage.{Outage}
use Rattle.driver.specs.declared.order.Order.{Order}
use Rattle.driver.specs.declared.order.Order.TheVariants as order
use Rattle.driver.specs.declared.retirement.Retirement.{Retirement}
use Rattle.driver.specs.declared.settings.Settings.{Settings}
use Rattle.driver.specs.Dropping.{TellsDroppedIf, drop_end}
use Rattle.driver.specs.Driving.{AsksServer, Claims, ServesIf, TickNodes, Ticks, TicksMonitor, TicksNode, clocked, orders_of, round_of, tick_orders, told_of}
use Rattle.driver.specs.Leading.{is_older, is_that}
use Rattle.driver.specs.Links.{may_connect, node_of}
use Rattle.driver.specs.Monitors.{claim_at, claim_due, claim_if, is_over, is_to_beat, note_at, note_for, note_up, patience, told}
use Rattle.driver.specs.Ordering.{Phase}
use Rattle.driver.specs.Retiring.{restart_at, restart_if, retirement_at}
use Rattle.driver.specs.Rounds.{Round, SpreadsAll, SpreadsBy, ask_orders, retired, retirement_due}
use Rattle.driver.specs.Servers.{AsksForWord, is_quiet, is_silent}
use Rattle.driver.specs.Waking.{awake}
use Rattle.driver.specs.Writing.{may_claim}
use Rattle.driver.proofs.Adding.{Adds, adds_both, all_written_add, nothing_adds, one_adds}
use Rattle.driver.proofs.Growing.{AllAre, AllGood, all_append, ticks_grow}
use Rattle.driver.proofs.PhaseClients.{of_calm}
use Rattle.driver.proofs.PhaseEnds.{connects_by, leaves_if, older_goes}
use Rattle.driver.proofs.Phases.{Calm, CalmNote, Goes, StandsAs, adds_goes, calm_goes, goes_both, moved_goes, same_goes}
use Rattle.driver.proofs.Writing.{lines_add, lines_rest}

-- What a node gets from the clock, and from the retirement of its runs.

abbrev pub CalmIf : Option (Note TowerBody WireLine) → Type 0
CalmIf None = Unit {0}
CalmIf (Some came) = CalmNote came

told_calm : (id : ℕ) (came : Option (Note TowerBody WireLine)) → CalmIf came → AllAre Calm (told id came)
unfolding AllAre
told_calm id None is = tt
told_calm id (Some came) is = (is, tt)

calm_if : (b : Bool) (came : Note TowerBody WireLine) → CalmNote came → CalmIf (if b then Some came else None)
calm_if true came is = is
calm_if false came is = tt

calm_either : (b : Bool) (one other : Option (Note TowerBody WireLine)) → CalmIf one → CalmIf other → CalmIf (if b then one else other)
calm_either true one other first last = first
calm_either false one other first last = last

calm_up : (monitor : NodeMonitor) (settings : Settings) (now : ℕ) (status : Status) → CalmIf (note_up monitor settings now status)
unfolding note_up
calm_up monitor settings now status =
    calm_either (leads status) _ _
    (calm_if (is_to_beat monitor settings now) note.Beat tt)
    (calm_if (is_over monitor.following.last_leader_contact (patience settings monitor.id) now) (note.Timeout monitor.progress.contacts) tt)

calm_for : (monitor : NodeMonitor) (settings : Settings) (now : ℕ) (status : Option Status) (down : Option Outage) → CalmIf (note_for monitor settings now status down)
unfolding note_for
calm_for monitor settings now None down = tt
calm_for monitor settings now (Some status) (Some outage) = calm_if (is_over outage.since outage.wait_ms now) note.Restart tt
calm_for monitor settings now (Some status) None = calm_up monitor settings now status

calm_restart : (monitor : NodeMonitor) (floor : Option ℕ) → CalmIf (restart_if monitor floor)
calm_restart monitor None = tt
calm_restart monitor (Some floor) = calm_if _ note.Restart tt

calm_claim : (may : Bool) (due : Option ((ℕ × ℕ) × ℕ)) → CalmIf (claim_if may due)
calm_claim may None = tt
calm_claim true (Some line) = tt
calm_claim false (Some line) = tt

monitor_goes : (now node : ℕ) (phase : Phase) (old new : Driver) → StandsAs phase old.link.stage → AllGood Calm old.clients → TicksMonitor now node old new → Goes phase old new
monitor_goes now node phase old new stands good t =
    let orders = tick_orders old.orders old.retirements.all old.settings now in
    let all =
    of_calm orders (slice_get old.monitors (node - 1)) (λ d.
    let clock = clocked old.orders old.settings now d in
    all_append Calm (told d.id (note_at d old.settings now)) (told clock.id (restart_at old.retirements.all clock))
    (told_calm d.id (note_at d old.settings now) (calm_for d old.settings now d.status d.down))
    (told_calm clock.id (restart_at old.retirements.all clock) (calm_restart clock _)))
    in
    adds_goes phase old new stands good (ap (λ (driver : Driver). driver.link.stage) t.rest) (ap (λ (driver : Driver). driver.clients) t.rest)
    (record { told = orders_of orders (slice_get old.monitors (node - 1)); orders = t.orders; all = all })

-- The leader is served.

claims_go : (now node : ℕ) (phase : Phase) (old new : Driver) → StandsAs phase old.link.stage → AllGood Calm old.clients → Claims now node old new → Goes phase old new
claims_go now node phase old new stands good claims =
    let may = may_claim old now in
    let orders : NodeMonitor → List Order = λ d. told d.id (claim_at d old.settings now may) in
    adds_goes phase old new stands good (ap (λ (driver : Driver). driver.link.stage) claims.rest) (ap (λ (driver : Driver). driver.clients) claims.rest)
    (record {
      told = orders_of orders (slice_get old.monitors (node - 1));
      orders = claims.orders;
      all = of_calm orders (slice_get old.monitors (node - 1)) (λ d. told_calm d.id (claim_at d old.settings now may) (calm_claim may (claim_due d old.settings now)));
    })

drop_goes : (ended : Option ℕ) (phase : Phase) (old new : Driver) → StandsAs phase old.link.stage → AllGood Calm old.clients → TellsDroppedIf ended old new → Goes phase old new
drop_goes None phase old new stands good same = same_goes phase old new stands good same
drop_goes (Some count) phase old new stands good t =
    adds_goes phase old new stands good (ap (λ (driver : Driver). driver.link.stage) t.rest) (ap (λ (driver : Driver). driver.clients) t.rest)
    (all_written_add Calm (keys old.clients.all) old.clients _ old.orders new.orders good t.written)

serves_go : (now node : ℕ) (serves : Bool) (phase : Phase) (old new : Driver) → StandsAs phase old.link.stage → AllGood Calm old.clients → ServesIf serves now node old new → Goes phase old new
serves_go now node false phase old new stands good same = same_goes phase old new stands good same
serves_go now node true phase old new stands good s =
    let rest = lines_rest MOST_AT_ONCE now node old s.written s.writes in
    let written =
    adds_goes phase old s.written stands good (ap (λ (driver : Driver). driver.link.stage) rest) (ap (λ (driver : Driver). driver.clients) rest)
    (lines_add Calm MOST_AT_ONCE now node old s.written (λ bytes. tt) s.writes)
    in
    let claimed = claims_go now node written.last s.written s.claimed written.stands written.good s.claims in
    let both = goes_both phase old s.written s.claimed written claimed in
    let connected =
    connects_by now node both.last (may_connect s.claimed.link.stage now) s.claimed s.connected refl both.stands both.good s.connects.orders s.connects.stage
    (ap (λ (driver : Driver). driver.clients) s.connects.rest)
    in
    let all = goes_both phase old s.claimed s.connected both connected in
    goes_both phase old s.connected new all (drop_goes (drop_end s.connected node) all.last s.connected new all.stands all.good s.ends)

-- A node ticks.
pub node_goes : (now node : ℕ) (phase : Phase) (old new : Driver) → StandsAs phase old.link.stage → AllGood Calm old.clients → TicksNode now node old new → Goes phase old new
node_goes now node phase old new stands good t =
    let first = monitor_goes now node phase old t.told stands good t.ticks in
    let left = older_goes (is_older (node_of t.told.link.stage) t.leader) now first.last t.told t.left first.stands first.good t.leaves in
    let both = goes_both phase old t.told t.left first left in
    goes_both phase old t.left new both (serves_go now node (is_that t.leader node) both.last t.left new both.stands both.good t.serves)

nodes_go : (count now node : ℕ) (phase : Phase) (old new : Driver) → StandsAs phase old.link.stage → AllGood Calm old.clients → TickNodes count now node old new → Goes phase old new
unfolding TickNodes
nodes_go zero now node phase old new stands good same = same_goes phase old new stands good same
nodes_go (suc count) now node phase old new stands good (mid, t, more) =
    let first = node_goes now node phase old mid stands good t in
    goes_both phase old mid new first (nodes_go count now (node + 1) first.last mid new first.stands first.good more)

-- Time passes.

ask_calm : (due : Option Retirement) (monitor : NodeMonitor) → AllAre Calm (ask_orders due monitor)
unfolding AllAre
ask_calm None monitor = tt
ask_calm (Some retirement) monitor = (tt, tt)

spreads_add : (count : ℕ) (settings : Settings) (now leader node : ℕ) (monitors : List NodeMonitor) (old new : Round) → SpreadsAll count settings now leader node monitors old new → Adds Calm old.orders new.orders
unfolding SpreadsAll
spreads_add zero settings now leader node monitors old new same = nothing_adds Calm old.orders new.orders (ap (λ (round : Round). round.orders) same)
spreads_add (suc count) settings now leader node monitors old new (mid, s, more) =
    let due = retirement_due settings now (retired settings now s.own (retirement_at old.retirements node)) in
    adds_both Calm old.orders mid.orders new.orders
    (record { told = ask_orders due s.via; orders = s.orders; all = ask_calm due s.via })
    (spreads_add count settings now leader (node + 1) monitors mid new more)

spreads_by : (leader : Option ℕ) (settings : Settings) (now : ℕ) (monitors : List NodeMonitor) (old new : Round) → SpreadsBy leader settings now monitors old new → Adds Calm old.orders new.orders
spreads_by None settings now monitors old new same = nothing_adds Calm old.orders new.orders (ap (λ (round : Round). round.orders) same)
spreads_by (Some leader) settings now monitors old new s = spreads_add 7 settings now leader 1 monitors old new s

woken_goes : (now : ℕ) (phase : Phase) (old new : Driver) → Goes phase (awake now old) new → Goes phase old new
woken_goes now phase old new g = record { last = g.last; told = g.told; orders = g.orders; leads = g.leads; stands = g.stands; good = g.good }

-- a server that is quiet is sent a PING
asked_stands : (now : ℕ) (asks : Bool) (stage : Stage) (old new : Driver) (phase : Phase) → is_quiet stage now ≡ asks → AsksForWord asks now stage old.orders new.link.stage new.orders → StandsAs phase stage → StandsAs phase new.link.stage
asked_stands now false stage old new phase quiet (same, none) is = subst (λ (stage : Stage). StandsAs phase stage) (sym same) is
asked_stands now true (Idle since wait) old new phase quiet asks is = absurd (cc quiet)
asked_stands now true (Closing since wait) old new phase quiet asks is = absurd (cc quiet)
asked_stands now true (Connecting node) old new phase quiet asks is = absurd (cc quiet)
asked_stands now true (Open session) old new phase quiet (ping, are, orders, asked) has =
    subst (λ (stage : Stage). StandsAs phase stage) (sym asked)
    (record {
      nick = has.nick;
      calls = has.calls;
      after = has.after;
      is_live = has.is_live;
      done = has.done;
      all = has.all;
      opened = has.opened;
      phase_is = has.phase_is;
    })

asked_adds : (now : ℕ) (asks : Bool) (stage : Stage) (old new : Driver) → AsksForWord asks now stage old.orders new.link.stage new.orders → Adds Calm old.orders new.orders
asked_adds now false stage old new (same, none) = nothing_adds Calm old.orders new.orders none
asked_adds now true stage old new (ping, are, orders, asked) = one_adds Calm (order.Send ping) old.orders new.orders orders tt

pings_go : (now : ℕ) (phase : Phase) (old new : Driver) → StandsAs phase old.link.stage → AllGood Calm old.clients → AsksServer now old new → Goes phase old new
pings_go now phase old new stands good a =
    let adds = asked_adds now (is_quiet old.link.stage now) old.link.stage old new a.asks in
    let clients = ap (λ (driver : Driver). driver.clients) a.rest in
    moved_goes phase old new stands (λ next is. asked_stands now (is_quiet old.link.stage now) old.link.stage old new next refl a.asks is)
    (record { told = adds.told; orders = adds.orders; all = adds.all; good = subst (λ (clients : Clients). AllGood Calm clients) (sym clients) good })

pub ticks_go : (now : ℕ) (at : Moment) (phase : Phase) (old new : Driver) → StandsAs phase old.link.stage → AllGood Calm old.clients → Ticks now at old new → Goes phase old new
ticks_go now at phase old new stands good t =
    let pinged = woken_goes now phase old t.pinged (pings_go now phase (awake now old) t.pinged stands good t.pings) in
    let left = leaves_if (is_silent t.pinged.link.stage now) now Silent pinged.last t.pinged t.left pinged.stands pinged.good t.leaves in
    let served =
    calm_goes left.last t.left t.served left.stands (ap (λ (driver : Driver). driver.link.stage) t.is_served)
    (ticks_grow Calm at t.left.settings.timeout_ms now t.left.monitors (keys t.left.clients.all) (told_of t.left) (told_of t.served) left.good t.clients)
    in
    let asked = nodes_go 7 now 1 served.last t.served t.asked served.stands served.good t.nodes in
    let last =
    adds_goes asked.last t.asked new asked.stands asked.good (ap (λ (driver : Driver). driver.link.stage) t.rest) (ap (λ (driver : Driver). driver.clients) t.rest)
    (spreads_by t.retired.leader t.asked.settings now t.asked.monitors (round_of t.asked) (round_of new) t.retired.spreads)
    in
    goes_both phase old t.pinged new pinged
    (goes_both pinged.last t.pinged t.left new left
    (goes_both left.last t.left t.served new served (goes_both served.last t.served t.asked new asked last)))

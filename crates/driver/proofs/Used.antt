-- What goes to the server, what a node gets, and when the server is connected to, for the connection to the server.
use Rattle.std.proofs.Common.{◌≡◌, ◌∙◌, ℕ, zero, suc, ◌+◌, ◌-◌, Bool, true, false, List, [], ◌∷◌, Option, Some, None, refl, sym, ap, subst, slice_get}
use Rattle.std.specs.BTreeMap.{keys}
use Rattle.std.specs.Prelude.{if◌then◌else◌}
use Rattle.std.specs.Global.{Vec}
use Rattle.irc_line.specs.Names.{same_bytes}
use Rattle.bouncer_tower.specs.Bodies.{TowerBody}
use Rattle.buffer_commands.specs.declared.wire_line.WireLine.{WireLine}
use Rattle.node_notes.specs.declared.note.Note.{Note}
use Rattle.driver.specs.declared.driver.Driver.{Driver}
use Rattle.driver.specs.declared.driver.writing.TheConstants.{MOST_AT_ONCE}
use Rattle.driver.specs.declared.link.Stage.{Stage}
use Rattle.driver.specs.declared.link.Stage.TheVariants.{Closing, Connecting, Idle, Open}
use Rattle.driver.specs.Dropping.{TellsDroppedIf, drop_end}
use Rattle.driver.specs.declared.node_monitor.NodeMonitor.{NodeMonitor}
use Rattle.driver.specs.declared.order.Order.{Order}
use Rattle.driver.specs.declared.order.Order.TheVariants as order
use Rattle.driver.specs.declared.outgoing.Piece.{Piece}
use Rattle.driver.specs.Driving.{Claims, ServesIf, TickNodes, TicksMonitor, TicksNode, clocked, orders_of, quit_line, tick_orders}
use Rattle.driver.specs.Leading.{is_older, is_that}
use Rattle.driver.specs.Links.{is_open, may_connect, node_of}
use Rattle.driver.specs.Monitors.{claim_at, note_at, told}
use Rattle.driver.specs.Outgoing.{Waiting, nothing_waits}
use Rattle.driver.specs.Quitting.{Connection, Gone, Over, Told, Used, asked_behind, said_behind}
use Rattle.driver.specs.Retiring.{restart_at}
use Rattle.driver.specs.Telling.{ordered}
use Rattle.driver.specs.Writing.{GoesOutIf, WriteLines, WritesLine, are_due, may_claim, may_write, piece_at, piece_of}
use Rattle.driver.proofs.Adding.{all_written_add}
use Rattle.driver.proofs.Growing.{AllAre, AllGood, all_append}
use Rattle.driver.proofs.Parted.{older_goes, open_used, used_open}
use Rattle.driver.proofs.Quitting.{Fits, Goes, Inner, IsUsed, StandsAs, adds_goes, goes_both, one_goes, same_goes}
use Rattle.driver.proofs.Writing.{idle_same}

-- Something is said.

-- a connection is used on
pub record Said (quits : Bool) (c : Connection) : Type 0 where
  pub next : Connection
  pub is : said_behind quits c ≡ Some next
  pub used : IsUsed next

said_by : (quits : Bool) → IsUsed (if quits then Told else Used)
said_by true = tt
said_by false = tt

pub said_used : (quits : Bool) (c : Connection) → IsUsed c → Said quits c
said_used quits Gone used = absurd used
said_used quits Used used = record { next = if quits then Told else Used; is = refl; used = said_by quits }
said_used quits Told used = record { next = if quits then Told else Used; is = refl; used = said_by quits }
said_used quits (Over since) used = absurd used

pub not_both : (b : Bool) (P : Type 0) → b ≡ true → b ≡ false → P
not_both b P here there = absurd (cc (here, there))

-- if the connection has a session before and after
pub says_go : (now : ℕ) (c : Connection) (bytes : Vec ℕ) (old new : Driver) → IsUsed c → is_open new.link.stage ≡ true → new.orders ≡ ordered old.orders (order.Send bytes ∷ []) → new.clients ≡ old.clients → AllGood Inner old.clients → Goes now c old new
says_go now c bytes old new used up orders clients good =
    let s = said_used (same_bytes bytes.items quit_line) c used in
    one_goes now c s.next (order.Send bytes) old new s.is orders clients
    (record {
      stands = open_used s.next new.link.stage up s.used;
      empty = λ closed. not_both (is_open new.link.stage) (new.link.waiting ≡ nothing_waits) up closed;
    })
    good

-- Lines go out.

-- nothing does if nothing waits
none_next : (may due : Bool) → piece_at may due nothing_waits ≡ None
none_next true true = refl
none_next true false = refl
none_next false due = refl

found_goes : (now : ℕ) (c : Connection) (due : Bool) (found : Option Piece) (old new : Driver) → is_open old.link.stage ≡ true → Fits c old.link → AllGood Inner old.clients → GoesOutIf now due found old new → Goes now c old new
found_goes now c due None old new up fits good same = same_goes now c old new fits good same
found_goes now c due (Some piece) old new up fits good g =
    says_go now c g.sent.bytes old new (used_open c old.link.stage up fits.stands)
    (ap (λ (driver : Driver). is_open driver.link.stage) g.rest ∙ up)
    g.sent.orders
    (ap (λ (driver : Driver). driver.clients) g.rest)
    good

line_by : (now node : ℕ) (c : Connection) (up : Bool) (old new : Driver) → is_open old.link.stage ≡ up → Fits c old.link → AllGood Inner old.clients → WritesLine now node old new → Goes now c old new
line_by now node c true old new up fits good w =
    found_goes now c (are_due (slice_get old.monitors (node - 1))) (piece_of now node old) old new up fits good w
line_by now node c false old new up fits good w =
    let due = are_due (slice_get old.monitors (node - 1)) in
    let none : piece_of now node old ≡ None =
    ap (λ (waiting : Waiting). piece_at (may_write old now) due waiting) (fits.empty up) ∙ none_next (may_write old now) due
    in
    same_goes now c old new fits good (idle_same now due (piece_of now node old) old new none w)

lines_go : (count now node : ℕ) (c : Connection) (old new : Driver) → Fits c old.link → AllGood Inner old.clients → WriteLines count now node old new → Goes now c old new
unfolding WriteLines
lines_go zero now node c old new fits good same = same_goes now c old new fits good same
lines_go (suc count) now node c old new fits good (mid, one, more) =
    let first = line_by now node c (is_open old.link.stage) old mid refl fits good one in
    goes_both now c old mid new first (lines_go count now node first.last mid new first.fits first.good more)

-- What a node gets.

pub told_inner : (id : ℕ) (came : Option (Note TowerBody WireLine)) → AllAre Inner (told id came)
unfolding AllAre
told_inner id None = tt
told_inner id (Some came) = (tt, tt)

pub of_inner : (orders : NodeMonitor → List Order) (found : Option NodeMonitor) → ((d : NodeMonitor) → AllAre Inner (orders d)) → AllAre Inner (orders_of orders found)
unfolding AllAre
of_inner orders None all = tt
of_inner orders (Some d) all = all d

claims_go : (now node : ℕ) (c : Connection) (old new : Driver) → Fits c old.link → AllGood Inner old.clients → Claims now node old new → Goes now c old new
claims_go now node c old new fits good claims =
    let may = may_claim old now in
    let orders : NodeMonitor → List Order = λ d. told d.id (claim_at d old.settings now may) in
    adds_goes now c old new fits good (ap (λ (driver : Driver). driver.link) claims.rest) (ap (λ (driver : Driver). driver.clients) claims.rest)
    (record {
      told = orders_of orders (slice_get old.monitors (node - 1));
      orders = claims.orders;
      all = of_inner orders (slice_get old.monitors (node - 1)) (λ d. told_inner d.id (claim_at d old.settings now may));
    })

monitor_goes : (now node : ℕ) (c : Connection) (old new : Driver) → Fits c old.link → AllGood Inner old.clients → TicksMonitor now node old new → Goes now c old new
monitor_goes now node c old new fits good t =
    let orders = tick_orders old.orders old.retirements.all old.settings now in
    let all =
    of_inner orders (slice_get old.monitors (node - 1)) (λ d.
    let clock = clocked old.orders old.settings now d in
    all_append Inner (told d.id (note_at d old.settings now)) (told clock.id (restart_at old.retirements.all clock))
    (told_inner d.id (note_at d old.settings now))
    (told_inner clock.id (restart_at old.retirements.all clock)))
    in
    adds_goes now c old new fits good (ap (λ (driver : Driver). driver.link) t.rest) (ap (λ (driver : Driver). driver.clients) t.rest)
    (record { told = orders_of orders (slice_get old.monitors (node - 1)); orders = t.orders; all = all })

-- The server is connected to.

tried_gone : (now : ℕ) (c : Connection) (stage : Stage) → may_connect stage now ≡ true → StandsAs c stage → (c ≡ Gone) × (is_open stage ≡ false)
tried_gone now c (Idle since wait) is stands = (stands, refl)
tried_gone now c (Closing since wait) is stands = absurd (cc is)
tried_gone now c (Connecting node) is stands = absurd (cc is)
tried_gone now c (Open session) is stands = absurd (cc is)

connects_by : (now node : ℕ) (c : Connection) (may : Bool) (old new : Driver) → may_connect old.link.stage now ≡ may → Fits c old.link → AllGood Inner old.clients → new.orders ≡ ordered old.orders (if may then order.Connect ∷ [] else []) → new.link.stage ≡ (if may then Connecting node else old.link.stage) → new ≡ record old { orders = new.orders; link = record old.link { stage = new.link.stage } } → Goes now c old new
unfolding AllAre
connects_by now node c true old new is fits good orders stage rest =
    let (gone, closed) = tried_gone now c old.link.stage is fits.stands in
    one_goes now c Used order.Connect old new (ap asked_behind gone) orders (ap (λ (driver : Driver). driver.clients) rest)
    (record {
      stands = subst (λ (stage : Stage). StandsAs Used stage) (sym stage) tt;
      empty = λ _. ap (λ (driver : Driver). driver.link.waiting) rest ∙ fits.empty closed;
    })
    good
connects_by now node c false old new is fits good orders stage rest =
    adds_goes now c old new fits good
    (ap (λ (driver : Driver). driver.link) rest ∙ ap (λ (stage : Stage). record old.link { stage = stage }) stage)
    (ap (λ (driver : Driver). driver.clients) rest)
    (record { told = []; orders = orders; all = tt })

-- a drop ends
drop_goes : (now : ℕ) (c : Connection) (ended : Option ℕ) (old new : Driver) → Fits c old.link → AllGood Inner old.clients → TellsDroppedIf ended old new → Goes now c old new
drop_goes now c None old new fits good same = same_goes now c old new fits good same
drop_goes now c (Some count) old new fits good t =
    adds_goes now c old new fits good (ap (λ (driver : Driver). driver.link) t.rest) (ap (λ (driver : Driver). driver.clients) t.rest)
    (all_written_add Inner (keys old.clients.all) old.clients _ old.orders new.orders good t.written)

serves_go : (now node : ℕ) (c : Connection) (serves : Bool) (old new : Driver) → Fits c old.link → AllGood Inner old.clients → ServesIf serves now node old new → Goes now c old new
serves_go now node c false old new fits good same = same_goes now c old new fits good same
serves_go now node c true old new fits good s =
    let written = lines_go MOST_AT_ONCE now node c old s.written fits good s.writes in
    let claimed = claims_go now node written.last s.written s.claimed written.fits written.good s.claims in
    let both = goes_both now c old s.written s.claimed written claimed in
    let connected =
    connects_by now node both.last (may_connect s.claimed.link.stage now) s.claimed s.connected refl both.fits both.good s.connects.orders s.connects.stage s.connects.rest
    in
    let all = goes_both now c old s.claimed s.connected both connected in
    goes_both now c old s.connected new all (drop_goes now all.last (drop_end s.connected node) s.connected new all.fits all.good s.ends)

-- A node ticks.
pub node_goes : (now node : ℕ) (c : Connection) (old new : Driver) → Fits c old.link → AllGood Inner old.clients → TicksNode now node old new → Goes now c old new
node_goes now node c old new fits good t =
    let first = monitor_goes now node c old t.told fits good t.ticks in
    let left = older_goes now first.last (is_older (node_of t.told.link.stage) t.leader) t.leader t.told t.left refl first.fits first.good t.leaves in
    let both = goes_both now c old t.told t.left first left in
    goes_both now c old t.left new both (serves_go now node both.last (is_that t.leader node) t.left new both.fits both.good t.serves)

pub nodes_go : (count now node : ℕ) (c : Connection) (old new : Driver) → Fits c old.link → AllGood Inner old.clients → TickNodes count now node old new → Goes now c old new
unfolding TickNodes
nodes_go zero now node c old new fits good same = same_goes now c old new fits good same
nodes_go (suc count) now node c old new fits good (mid, t, more) =
    let first = node_goes now node c old mid fits good t in
    goes_both now c old mid new first (nodes_go count now (node + 1) first.last mid new first.fits first.good more)

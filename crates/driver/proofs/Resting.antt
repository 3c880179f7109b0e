-- What leaves a node in its state, up or down: the end of a session, claims, and the turns of all nodes.
use Rattle.std.proofs.Common.{◌≡◌, ◌∙◌, ◌++◌, ℕ, zero, suc, ◌+◌, ◌-◌, ◌≤◌, Bool, true, false, List, [], ◌∷◌, Option, Some, None, refl, sym, ap, subst, slice_get}
use Rattle.std.specs.BTreeMap.{keys}
use Rattle.std.specs.Prelude.{◌&&◌, if◌then◌else◌, is_some, nat_eq}
use Rattle.std.proofs.lemmas.Bool.{eqb-true}
use Rattle.node_notes.specs.declared.note.Note.TheVariants as note
use Rattle.node_notes.specs.declared.status.Status.{Status}
use Rattle.node_notes.specs.Notes.{leads, leads_up}
use Rattle.raft_log.specs.declared.role.Role.{Role}
use Rattle.raft_log.specs.declared.role.Role.TheVariants.{Follower, Candidate, Leader}
use Rattle.raft_node.specs.declared.node_fault.Cause.{Cause}
use Rattle.driver.specs.declared.clients.Clients.{Clients}
use Rattle.driver.specs.declared.node_monitor.NodeMonitor.{NodeMonitor}
use Rattle.driver.specs.declared.driver.Driver.{Driver}
use Rattle.driver.specs.declared.link.Stage.{Stage}
use Rattle.driver.specs.declared.link.Stage.TheVariants.{Closing, Connecting, Idle, Open}
use Rattle.driver.specs.Dropping.{TellsDroppedIf, drop_end}
use Rattle.driver.specs.declared.news.Ending.{Ending}
use Rattle.driver.specs.declared.news.Ending.TheVariants.{LedNoMore}
use Rattle.driver.specs.declared.order.Order.TheVariants as order
use Rattle.driver.specs.Monitors.{claim_due, claim_if, monitor_claimed, told}
use Rattle.driver.specs.Driving.{AsksServer, Claims, Connects, Ends, LeavesIf, LeavesOlder, QuitsIf, ServesIf, TickNodes, TicksNode, closed_of, closed_orders, orders_of}
use Rattle.driver.specs.Hearing.{boot_if, boot_up}
use Rattle.driver.specs.Leading.{IsLeader, is_older, is_that, term_at, term_in, term_of}
use Rattle.driver.specs.Links.{end_of, ending, may_connect, node_of, status_at, status_in, is_open}
use Rattle.driver.specs.Servers.{AsksForWord, is_quiet}
use Rattle.driver.specs.Telling.{Ordered, ordered}
use Rattle.driver.specs.declared.driver.writing.TheConstants.{MOST_AT_ONCE}
use Rattle.driver.specs.Writing.{WriteLines, may_claim}
use Rattle.driver.proofs.Adding.{Adds, all_written_add, nothing_adds, one_adds}
use Rattle.driver.proofs.Claiming.{claim_change, claim_orders, claimed_id}
use Rattle.driver.proofs.Monitors.{Ids, ids_changed}
use Rattle.driver.proofs.Growing.{AllAre, AllGood, all_append}
use Rattle.driver.proofs.Keeping.{Line}
use Rattle.driver.proofs.Writing.{lines_add, lines_rest}
use Rattle.driver.proofs.Led.{that_is}
use Rattle.driver.proofs.Restarts.{Plain, both_false, told_apart}
use Rattle.driver.proofs.Staying.{KeepsStanding, StandsAs, Stays, Steady, both_last, changed_as, monitor_stays, is_down_so, orders_stay, own_stands, same_stays, stays_both}

-- a node that is up in some run is not down
boot_none : (boot : ℕ) (down : Option Cause) → is_some (boot_if boot down) ≡ true → is_some down ≡ false
boot_none boot None is = refl
boot_none boot (Some cause) is = absurd (cc is)

up_so : (status : Option Status) → is_some (boot_up status) ≡ true → is_down_so status ≡ false
up_so None is = absurd (cc is)
up_so (Some status) is = boot_none status.boot status.down is

pub up_by : (down : Bool) (found : Option NodeMonitor) → StandsAs down found → is_some (boot_up (status_in found)) ≡ true → down ≡ false
up_by down None at up = at
up_by down (Some d) (is, so) up = sym so ∙ up_so d.status up

-- the node itself, if it is up in some run
pub up_own : (n m : ℕ) (down : Bool) (monitors : List NodeMonitor) → StandsAs down (slice_get monitors (n - 1)) → is_some (boot_up (status_at monitors m)) ≡ true → nat_eq m n ≡ true → down ≡ false
up_own n m down monitors at up own =
    let same : m ≡ n = eqb-true m n own in
    up_by down (slice_get monitors (n - 1)) at (subst (λ (k : ℕ). is_some (boot_up (status_at monitors k)) ≡ true) same up)

-- and if it leads
leads_none : (role : Role) (down : Option Cause) → leads_up role down ≡ true → is_some down ≡ false
leads_none Leader None is = refl
leads_none Leader (Some cause) is = absurd (cc is)
leads_none Follower down is = absurd (cc is)
leads_none Candidate down is = absurd (cc is)

leads_if : (b : Bool) (t term : ℕ) → (if b then Some t else None) ≡ Some term → b ≡ true
leads_if true t term is = refl
leads_if false t term is = absurd (cc is)

pub lead_so : (status : Option Status) (term : ℕ) → term_of status ≡ Some term → is_down_so status ≡ false
lead_so None term is = absurd (cc is)
lead_so (Some status) term is = leads_none status.role status.down (leads_if (leads status) status.term term is)

pub lead_by : (down : Bool) (found : Option NodeMonitor) (term : ℕ) → StandsAs down found → term_in found ≡ Some term → down ≡ false
lead_by down None term at is = at
lead_by down (Some d) term (here, so) is = sym so ∙ lead_so d.status term is

pub lead_own : (n m : ℕ) (down : Bool) (monitors : List NodeMonitor) → StandsAs down (slice_get monitors (n - 1)) → IsLeader monitors (Some m) → m ≡ n → down ≡ false
lead_own n m down monitors at (term, own) same =
    lead_by down (slice_get monitors (n - 1)) term at (subst (λ (k : ℕ). term_at monitors k ≡ Some term) same own.leads)

-- The end of a session.

end_plain : (n : ℕ) (down given : Bool) (node : ℕ) (why : Ending) → Plain n down (order.Log (end_of given node why))
end_plain n down true node why = (tt, refl)
end_plain n down false node why = (tt, refl)

ending_plain : (n : ℕ) (down : Bool) (stage : Stage) (why : Ending) → AllAre (Plain n down) (ending stage why)
unfolding AllAre
ending_plain n down (Idle since wait) why = tt
ending_plain n down (Closing since wait) why = tt
ending_plain n down (Connecting node) why = ((tt, refl), tt)
ending_plain n down (Open session) why = (end_plain n down session.is_opened session.node why, tt)

closed_by : (n : ℕ) (down : Bool) (m : ℕ) (tells : Bool) → (tells ≡ true → nat_eq m n ≡ true → down ≡ false) → AllAre (Plain n down) (closed_orders (if tells then Some m else None))
unfolding AllAre
closed_by n down m true up = ((told_apart down (nat_eq m n) note.Closed (both_false down (nat_eq m n) (λ own. up refl own)), refl), tt)
closed_by n down m false up = tt

closed_plain : (n : ℕ) (down : Bool) (monitors : List NodeMonitor) (node : Option ℕ) (lost : Bool) → StandsAs down (slice_get monitors (n - 1)) → AllAre (Plain n down) (closed_orders (closed_of monitors node lost))
unfolding AllAre
closed_plain n down monitors None lost at = tt
closed_plain n down monitors (Some m) lost at =
    closed_by n down m (lost && is_some (boot_up (status_at monitors m)))
    (λ is own. up_own n m down monitors at (both_last lost (is_some (boot_up (status_at monitors m))) is) own)

pub ends_stay : (n now : ℕ) (down : Bool) (why : Ending) (old new : Driver) → Steady n down old → Ends now why old new → Stays n down old new
ends_stay n now down why old new steady e =
    let node = closed_of old.monitors (node_of old.link.stage) e.lost in
    orders_stay n down old new steady
    (ap (λ (driver : Driver). driver.monitors) e.rest)
    (ap (λ (driver : Driver). driver.clients) e.rest)
    (record {
      told = ending old.link.stage why ++ closed_orders node;
      orders = e.orders;
      all =
          all_append (Plain n down) (ending old.link.stage why) (closed_orders node)
          (ending_plain n down old.link.stage why)
          (closed_plain n down old.monitors (node_of old.link.stage) e.lost steady.at);
    })

asks_by : (n : ℕ) (asks : Bool) (now : ℕ) (down : Bool) (old new : Driver) → Steady n down old → new ≡ record old { orders = new.orders; link = record old.link { stage = new.link.stage } } → AsksForWord asks now old.link.stage old.orders new.link.stage new.orders → Stays n down old new
asks_by n false now down old new steady rest (stage, orders) =
    orders_stay n down old new steady (ap (λ (driver : Driver). driver.monitors) rest) (ap (λ (driver : Driver). driver.clients) rest)
    (nothing_adds (Plain n down) old.orders new.orders orders)
asks_by n true now down old new steady rest (ping, is, orders, stage) =
    orders_stay n down old new steady (ap (λ (driver : Driver). driver.monitors) rest) (ap (λ (driver : Driver). driver.clients) rest)
    (one_adds (Plain n down) (order.Send ping) old.orders new.orders orders (tt, refl))

pub asks_stay : (n now : ℕ) (down : Bool) (old new : Driver) → Steady n down old → AsksServer now old new → Stays n down old new
asks_stay n now down old new steady a = asks_by n (is_quiet old.link.stage now) now down old new steady a.rest a.asks

pub leaves_stay : (n : ℕ) (leaves : Bool) (now : ℕ) (down : Bool) (why : Ending) (old new : Driver) → Steady n down old → LeavesIf leaves now why old new → Stays n down old new
leaves_stay n false now down why old new steady same = same_stays n down old new steady same
leaves_stay n true now down why old new steady l =
    let first =
    orders_stay n down old l.closed steady
    (ap (λ (driver : Driver). driver.monitors) l.rest)
    (ap (λ (driver : Driver). driver.clients) l.rest)
    (one_adds (Plain n down) order.Disconnect old.orders l.closed.orders l.orders (tt, refl))
    in
    stays_both n down old l.closed new first (ends_stay n now down why l.closed new first.steady l.ends)

quits_stay : (n : ℕ) (is : Bool) (now : ℕ) (down : Bool) (old new : Driver) → Steady n down old → QuitsIf is now old new → Stays n down old new
quits_stay n false now down old new steady l = leaves_stay n true now down LedNoMore old new steady l
quits_stay n true now down old new steady q =
    let first =
    orders_stay n down old q.said steady
    (ap (λ (driver : Driver). driver.monitors) q.says.rest)
    (ap (λ (driver : Driver). driver.clients) q.says.rest)
    (one_adds (Plain n down) (order.Send q.says.bytes) old.orders q.said.orders q.says.orders (tt, refl))
    in
    let second = ends_stay n now down LedNoMore q.said q.ended first.steady q.ends in
    let last =
    orders_stay n down q.ended new second.steady
    (ap (λ (driver : Driver). driver.monitors) q.rest)
    (ap (λ (driver : Driver). driver.clients) q.rest)
    (nothing_adds (Plain n down) q.ended.orders new.orders (ap (λ (driver : Driver). driver.orders) q.rest))
    in
    stays_both n down old q.said new first (stays_both n down q.said q.ended new second last)

-- the connection of an older leader is left
older_stays : (n : ℕ) (leaves : Bool) (now : ℕ) (down : Bool) (old new : Driver) → Steady n down old → LeavesOlder leaves now old new → Stays n down old new
older_stays n false now down old new steady same = same_stays n down old new steady same
older_stays n true now down old new steady q = quits_stay n (is_open old.link.stage) now down old new steady q

-- and the monitors are unchanged
quits_monitors : (is : Bool) (now : ℕ) (old new : Driver) → QuitsIf is now old new → new.monitors ≡ old.monitors
quits_monitors false now old new l = ap (λ (driver : Driver). driver.monitors) l.ends.rest ∙ ap (λ (driver : Driver). driver.monitors) l.rest
quits_monitors true now old new q =
    ap (λ (driver : Driver). driver.monitors) q.rest
    ∙ ap (λ (driver : Driver). driver.monitors) q.ends.rest
    ∙ ap (λ (driver : Driver). driver.monitors) q.says.rest

pub older_monitors : (leaves : Bool) (now : ℕ) (old new : Driver) → LeavesOlder leaves now old new → new.monitors ≡ old.monitors
older_monitors false now old new same = ap (λ (driver : Driver). driver.monitors) same
older_monitors true now old new q = quits_monitors (is_open old.link.stage) now old new q

connects_fit : (n : ℕ) (down may : Bool) (before after : Ordered) → after ≡ ordered before (if may then order.Connect ∷ [] else []) → Adds (Plain n down) before after
unfolding AllAre
connects_fit n down true before after is = record { told = order.Connect ∷ []; orders = is; all = ((tt, refl), tt) }
connects_fit n down false before after is = record { told = []; orders = is; all = tt }

connects_stay : (n now node : ℕ) (down : Bool) (old new : Driver) → Steady n down old → Connects now node old new → Stays n down old new
connects_stay n now node down old new steady c =
    orders_stay n down old new steady
    (ap (λ (driver : Driver). driver.monitors) c.rest)
    (ap (λ (driver : Driver). driver.clients) c.rest)
    (connects_fit n down (may_connect old.link.stage now) old.orders new.orders c.orders)

-- lines go out
writes_stay : (n count now node : ℕ) (down : Bool) (old new : Driver) → Steady n down old → WriteLines count now node old new → Stays n down old new
writes_stay n count now node down old new steady w =
    let rest = lines_rest count now node old new w in
    orders_stay n down old new steady
    (ap (λ (driver : Driver). driver.monitors) rest)
    (ap (λ (driver : Driver). driver.clients) rest)
    (lines_add (Plain n down) count now node old new (λ bytes. (tt, refl)) w)

-- The node that leads claims, and it is up.

claimed_keeps : (orders : Ordered) (now : ℕ) (may : Bool) (due : Option Line) (d : NodeMonitor) → (is_some (monitor_claimed orders d now may due).down ≡ is_some d.down) × (is_down_so (monitor_claimed orders d now may due).status ≡ is_down_so d.status)
claimed_keeps orders now may None d = (refl, refl)
claimed_keeps orders now true (Some line) d = (refl, refl)
claimed_keeps orders now false (Some line) d = (refl, refl)

claim_plain : (n : ℕ) (down : Bool) (id : ℕ) (may : Bool) (due : Option Line) → (nat_eq id n ≡ true → down ≡ false) → AllAre (Plain n down) (told id (claim_if may due))
unfolding AllAre
claim_plain n down id may None up = tt
claim_plain n down id true (Some line) up = ((told_apart down (nat_eq id n) note.Claim (both_false down (nat_eq id n) up), refl), tt)
claim_plain n down id false (Some line) up = tt

claims_plain : (n now node : ℕ) (down may : Bool) (old : Driver) (found : Option NodeMonitor) → 1 ≤ n → Steady n down old → IsLeader old.monitors (Some node) → slice_get old.monitors (node - 1) ≡ found → AllAre (Plain n down) (orders_of (claim_orders old now may) found)
unfolding AllAre
claims_plain n now node down may old None low steady leader is = tt
claims_plain n now node down may old (Some d) low steady (term, leader) is =
    claim_plain n down d.id may (claim_due d old.settings now)
    (λ own. lead_by down (Some d) term (own_stands n node down old.monitors d low steady.ids steady.at is own) (subst (λ (found : Option NodeMonitor). term_in found ≡ Some term) is leader.leads))

claims_stay : (n now node : ℕ) (down : Bool) (old new : Driver) → 1 ≤ n → Steady n down old → IsLeader old.monitors (Some node) → Claims now node old new → Stays n down old new
claims_stay n now node down old new low steady leads c =
    let may = may_claim old now in
    let change = claim_change old now may in
    let keeps : KeepsStanding change = λ d. claimed_keeps old.orders now may (claim_due d old.settings now) d in
    record {
      adds = record {
        told = orders_of (claim_orders old now may) (slice_get old.monitors (node - 1));
        orders = c.orders;
        all = claims_plain n now node down may old (slice_get old.monitors (node - 1)) low steady leads refl;
      };
      steady = record {
        good = subst (λ (clients : Clients). AllGood (Plain n down) clients) (sym (ap (λ (driver : Driver). driver.clients) c.rest)) steady.good;
        ids =
            subst (λ (monitors : List NodeMonitor). Ids monitors) (sym c.monitors)
            (ids_changed change (λ d. claimed_id old.orders now may (claim_due d old.settings now) d) old.monitors node steady.ids);
        at =
            subst (λ (monitors : List NodeMonitor). StandsAs down (slice_get monitors (n - 1))) (sym c.monitors)
            (changed_as n node down change old.monitors keeps steady.at);
      };
    }

-- a drop ends
drop_stays : (n : ℕ) (down : Bool) (ended : Option ℕ) (old new : Driver) → Steady n down old → TellsDroppedIf ended old new → Stays n down old new
drop_stays n down None old new steady same = same_stays n down old new steady same
drop_stays n down (Some count) old new steady t =
    orders_stay n down old new steady (ap (λ (driver : Driver). driver.monitors) t.rest) (ap (λ (driver : Driver). driver.clients) t.rest)
    (all_written_add (Plain n down) (keys old.clients.all) old.clients _ old.orders new.orders steady.good t.written)

serves_stay : (n : ℕ) (serves : Bool) (now node : ℕ) (down : Bool) (leader : Option ℕ) (old new : Driver) → 1 ≤ n → Steady n down old → IsLeader old.monitors leader → is_that leader node ≡ serves → ServesIf serves now node old new → Stays n down old new
serves_stay n false now node down leader old new low steady leads is same = same_stays n down old new steady same
serves_stay n true now node down leader old new low steady leads is s =
    let own = subst (λ (leader : Option ℕ). IsLeader old.monitors leader) (that_is leader node is) leads in
    let first = writes_stay n MOST_AT_ONCE now node down old s.written steady s.writes in
    let same = ap (λ (driver : Driver). driver.monitors) (lines_rest MOST_AT_ONCE now node old s.written s.writes) in
    let own_still = subst (λ (monitors : List NodeMonitor). IsLeader monitors (Some node)) (sym same) own in
    let second = claims_stay n now node down s.written s.claimed low first.steady own_still s.claims in
    let connects = connects_stay n now node down s.claimed s.connected second.steady s.connects in
    let last = stays_both n down s.claimed s.connected new connects (drop_stays n down (drop_end s.connected node) s.connected new connects.steady s.ends) in
    stays_both n down old s.written new first (stays_both n down s.written s.claimed new second last)

-- A node ticks.
pub node_stays : (n now node : ℕ) (down : Bool) (old new : Driver) → 1 ≤ n → Steady n down old → TicksNode now node old new → Stays n down old new
node_stays n now node down old new low steady t =
    let first = monitor_stays n now node down old t.told low steady t.ticks in
    let older = is_older (node_of t.told.link.stage) t.leader in
    let left = older_stays n older now down t.told t.left first.steady t.leaves in
    let leads =
    subst (λ (monitors : List NodeMonitor). IsLeader monitors t.leader) (sym (older_monitors older now t.told t.left t.leaves)) t.is_leader
    in
    let served = serves_stay n (is_that t.leader node) now node down t.leader t.left new low left.steady leads refl t.serves in
    stays_both n down old t.left new (stays_both n down old t.told t.left first left) served

pub nodes_stay : (n count now node : ℕ) (down : Bool) (old new : Driver) → 1 ≤ n → Steady n down old → TickNodes count now node old new → Stays n down old new
unfolding TickNodes
nodes_stay n zero now node down old new low steady same = same_stays n down old new steady same
nodes_stay n (suc count) now node down old new low steady (behind, t, more) =
    let first = node_stays n now node down old behind low steady t in
    stays_both n down old behind new first (nodes_stay n count now (node + 1) down behind new low first.steady more)

-- What time sends a node, as the clock finds its monitor.
use Rattle.std.proofs.Common.{◌≡◌, ◌∙◌, ◌++◌, ℕ, zero, suc, ◌+◌, ◌-◌, ◌<◌, ◌≤◌, Bool, true, false, List, [], Option, Some, None, refl, sym, ap, subst, slice_get, ⊎_elim, arith}
use Rattle.std.specs.Prelude.{option_map}
use Rattle.std.specs.BTreeMap.{keys}
use Rattle.std.proofs.lemmas.List.{append_assoc, append-nil}
use Rattle.std.proofs.lemmas.Option.{slice_get-map}
use Rattle.wire_bytes.specs.declared.moment.Moment.{Moment}
use Rattle.driver.specs.declared.driver.Driver.{Driver}
use Rattle.driver.specs.declared.driver.writing.TheConstants.{MOST_AT_ONCE}
use Rattle.driver.specs.declared.news.Ending.{Ending}
use Rattle.driver.specs.declared.news.Ending.TheVariants.{Silent}
use Rattle.driver.specs.declared.node_monitor.NodeMonitor.{NodeMonitor}
use Rattle.driver.specs.declared.order.Order.{Order}
use Rattle.driver.specs.declared.settings.Settings.{Settings}
use Rattle.driver.specs.Dropping.{TellsDroppedIf, drop_end}
use Rattle.driver.specs.Driving.{LeavesIf, LeavesOlder, QuitsIf, ServesIf, TickNodes, Ticks, TicksNode, clock_told, clocked, orders_of, round_of, tick_orders, ticked, told_of}
use Rattle.driver.specs.Leading.{is_older, is_that}
use Rattle.driver.specs.Links.{is_open, node_of}
use Rattle.driver.specs.Monitors.{claim_due, monitor_claimed, note_at, told}
use Rattle.driver.specs.Retiring.{restart_at}
use Rattle.driver.specs.Servers.{is_silent}
use Rattle.driver.specs.Telling.{Ordered, ordered}
use Rattle.driver.specs.Waking.{awake, slept, waited_longer}
use Rattle.driver.specs.Writing.{may_claim}
use Rattle.driver.proofs.Claiming.{node_apart, node_result, nodes_behind, serves_own, sound_behind}
use Rattle.driver.proofs.Growing.{by_number, ticks_grow}
use Rattle.driver.proofs.Keeping.{Keeps, Result, Sound, asks_keep, keeps_both, leaves_keep, monitor_keeps, older_keep}
use Rattle.driver.proofs.Moves.{Base, Found, Rests, base, changed_here, changed_rests, claimed_core, core, monitors_of, other_rests, restarted_core, rests_both, rests_by, rests_same}
use Rattle.driver.proofs.Quiet.{NoClaim}
use Rattle.driver.proofs.Reporting.{awake_keeps, grows_keep, spreads_by}
use Rattle.driver.proofs.Writing.{lines_rest}

-- More is ordered.
pub record More (before after : Ordered) : Type 0 where
  pub told : List Order
  pub orders : after ≡ ordered before told

pub more_none : (before : Ordered) → More before before
more_none before = record {
  told = [];
  orders = sym (ap (λ (items : List Order). record before { items = items }) (append-nil before.items));
}

pub more_both : (before between after : Ordered) → More before between → More between after → More before after
more_both before between after first last = record {
  told = first.told ++ last.told;
  orders =
      last.orders
      ∙ ap (λ (orders : Ordered). ordered orders last.told) first.orders
      ∙ ap (λ (items : List Order). record before { items = items }) (append_assoc before.items first.told last.told);
}

pub kept_more : (n : ℕ) (old new : Driver) → Keeps n old new → More old.orders new.orders
kept_more n old new k = record { told = k.adds.told; orders = k.adds.orders }

pub result_more : (n : ℕ) (old new : Driver) → Result n old new → More old.orders new.orders
result_more n old new r =
    ⊎_elim (λ k. kept_more n old new k) (λ c. record { told = c.told; orders = c.orders }) r

-- The clock finds this monitor, and sends its node what is due.
pub record Clocks (n now : ℕ) (settings : Settings) (found : NodeMonitor) (old new : Driver) : Type 0 where
  pub own : NodeMonitor
  pub from : core own ≡ core found
  pub before : Ordered
  pub first : More old.orders before
  pub behind : NodeMonitor
  pub is : slice_get new.monitors (n - 1) ≡ Some behind
  pub same : core behind ≡ core (clocked before settings now own)
  pub last : More (ordered before (told own.id (note_at own settings now))) new.orders

pub rests_clock : (n now : ℕ) (settings : Settings) (d : NodeMonitor) (old mid new : Driver) → More old.orders mid.orders → (f : Found n d mid) → Clocks n now settings f.behind mid new → Clocks n now settings d old new
rests_clock n now settings d old mid new more f c = record {
  own = c.own;
  from = c.from ∙ f.same;
  before = c.before;
  first = more_both old.orders mid.orders c.before more c.first;
  behind = c.behind;
  is = c.is;
  same = c.same;
  last = c.last;
}

clock_rests : (n now : ℕ) (settings : Settings) (d : NodeMonitor) (old mid new : Driver) → Clocks n now settings d old mid → More mid.orders new.orders → Rests n mid new → Clocks n now settings d old new
clock_rests n now settings d old mid new c more r =
    let f = r.found c.behind c.is in
    record {
      own = c.own;
      from = c.from;
      before = c.before;
      first = c.first;
      behind = f.behind;
      is = f.is;
      same = f.same ∙ c.same;
      last = more_both (ordered c.before (told c.own.id (note_at c.own settings now))) mid.orders new.orders c.last more;
    }

-- The connection to the server.

ended_rests : (n : ℕ) (quits : Bool) (now : ℕ) (old new : Driver) → QuitsIf quits now old new → Rests n old new
ended_rests n false now old new l = rests_same n old new (ap monitors_of l.ends.rest ∙ ap monitors_of l.rest) (ap base l.ends.rest ∙ ap base l.rest)
ended_rests n true now old new q =
    rests_same n old new
    (ap monitors_of q.rest ∙ ap monitors_of q.ends.rest ∙ ap monitors_of q.says.rest)
    (ap base q.rest ∙ ap base q.ends.rest ∙ ap base q.says.rest)

older_rests : (n : ℕ) (older : Bool) (now : ℕ) (old new : Driver) → LeavesOlder older now old new → Rests n old new
older_rests n false now old new same = rests_by n old new same
older_rests n true now old new q = ended_rests n (is_open old.link.stage) now old new q

leaves_rest : (n : ℕ) (leaves : Bool) (now : ℕ) (why : Ending) (old new : Driver) → LeavesIf leaves now why old new → Rests n old new
leaves_rest n false now why old new same = rests_by n old new same
leaves_rest n true now why old new l = rests_same n old new (ap monitors_of l.ends.rest ∙ ap monitors_of l.rest) (ap base l.ends.rest ∙ ap base l.rest)

drop_rests : (n : ℕ) (ended : Option ℕ) (old new : Driver) → TellsDroppedIf ended old new → Rests n old new
drop_rests n None old new same = rests_by n old new same
drop_rests n (Some count) old new t = rests_same n old new (ap monitors_of t.rest) (ap base t.rest)

serves_rest : (n : ℕ) (serves : Bool) (now node : ℕ) (old new : Driver) → ServesIf serves now node old new → Rests n old new
serves_rest n false now node old new same = rests_by n old new same
serves_rest n true now node old new s =
    let lines = lines_rest MOST_AT_ONCE now node old s.written s.writes in
    let first = rests_same n old s.written (ap monitors_of lines) (ap base lines) in
    let may = may_claim s.written now in
    let next =
    changed_rests n node (λ d. monitor_claimed s.written.orders d now may (claim_due d s.written.settings now))
    (λ d. claimed_core s.written.orders now may (claim_due d s.written.settings now) d) s.written s.claimed s.claims.monitors (ap base s.claims.rest)
    in
    let third = rests_same n s.claimed s.connected (ap monitors_of s.connects.rest) (ap base s.connects.rest) in
    let last = rests_both n s.claimed s.connected new third (drop_rests n (drop_end s.connected node) s.connected new s.ends) in
    rests_both n old s.claimed new (rests_both n old s.written s.claimed first next) last

-- A node ticks.

pub node_rests : (n now node : ℕ) (old new : Driver) → (n - 1 ≡ node - 1 → ⊥) → TicksNode now node old new → Rests n old new
node_rests n now node old new apart t =
    let first = other_rests n node (ticked old.orders old.retirements.all old.settings now) old t.told apart t.ticks.monitors (ap base t.ticks.rest) in
    let next = older_rests n (is_older (node_of t.told.link.stage) t.leader) now t.told t.left t.leaves in
    let last = serves_rest n (is_that t.leader node) now node t.left new t.serves in
    rests_both n old t.left new (rests_both n old t.told t.left first next) last

-- the node itself
pub node_clocks : (n now : ℕ) (d : NodeMonitor) (old new : Driver) → 1 ≤ n → Sound n old → slice_get old.monitors (n - 1) ≡ Some d → TicksNode now n old new → Clocks n now old.settings d old new
node_clocks n now d old new low sound is t =
    let change : NodeMonitor → NodeMonitor = ticked old.orders old.retirements.all old.settings now in
    let behind = clocked old.orders old.settings now d in
    let note = told d.id (note_at d old.settings now) in
    let more = told behind.id (restart_at old.retirements.all behind) in
    let k = monitor_keeps n now n old t.told sound t.ticks in
    let here : slice_get t.told.monitors (n - 1) ≡ Some (change d) =
    ap (λ (monitors : List NodeMonitor). slice_get monitors (n - 1)) t.ticks.monitors ∙ changed_here n change old.monitors d is
    in
    let orders : t.told.orders ≡ ordered (ordered old.orders note) more =
    t.ticks.orders
    ∙ ap (λ (found : Option NodeMonitor). ordered old.orders (orders_of (tick_orders old.orders old.retirements.all old.settings now) found)) is
    ∙ sym (ap (λ (items : List Order). record old.orders { items = items }) (append_assoc old.orders.items note more))
    in
    let first : Clocks n now old.settings d old t.told = record {
      own = d;
      from = refl;
      before = old.orders;
      first = more_none old.orders;
      behind = change d;
      is = here;
      same = restarted_core (clock_told old.orders old.settings now d) (restart_at old.retirements.all behind) behind;
      last = record { told = more; orders = orders };
    } in
    let older = is_older (node_of t.told.link.stage) t.leader in
    let left = older_keep n older now t.told t.left k.sound t.leaves in
    let second = clock_rests n now old.settings d old t.told t.left first (kept_more n t.told t.left left) (older_rests n older now t.told t.left t.leaves) in
    let served = serves_own n (is_that t.leader n) now t.left new low left.sound t.serves in
    clock_rests n now old.settings d old t.left new second (result_more n t.left new served) (serves_rest n (is_that t.leader n) now n t.left new t.serves)

-- those after it
behind_rest : (n count now node : ℕ) (old new : Driver) → 1 ≤ n → n < node → TickNodes count now node old new → Rests n old new
unfolding TickNodes
behind_rest n zero now node old new low past same = rests_by n old new same
behind_rest n (suc count) now node old new low past (mid, t, more) =
    rests_both n old mid new (node_rests n now node old mid (λ e. omega (arith, e, low, past)) t)
    (behind_rest n count now (node + 1) mid new low (omega (arith, past)) more)

-- all nodes
nodes_clock : (n count now node : ℕ) (d : NodeMonitor) (old new : Driver) → 1 ≤ n → 1 ≤ node → node ≤ n → n < node + count → Sound n old → slice_get old.monitors (n - 1) ≡ Some d → TickNodes count now node old new → Clocks n now old.settings d old new
unfolding TickNodes
nodes_clock n zero now node d old new low low_node before within sound is same = absurd (omega (arith, before, within))
nodes_clock n (suc count) now node d old new low low_node before within sound is (mid, t, more) =
    by_number node n (Clocks n now old.settings d old new)
    (λ same.
    let own = subst (λ (k : ℕ). TicksNode now k old mid) same t in
    let first = node_clocks n now d old mid low sound is own in
    let sound_mid = sound_behind n old mid (node_result n now n old mid low low sound own) in
    let past : n < node + 1 = omega (arith, same) in
    clock_rests n now old.settings d old mid new first
    (kept_more n mid new (nodes_behind n count now (node + 1) mid new low past sound_mid more))
    (behind_rest n count now (node + 1) mid new low past more))
    (λ apart.
    let k = node_apart n now node old mid low low_node apart sound t in
    let r = node_rests n now node old mid (λ e. apart (omega (arith, e, low, low_node))) t in
    let f = r.found d is in
    let rest =
    nodes_clock n count now (node + 1) f.behind mid new low (omega (arith)) (omega (arith, before, apart)) (omega (arith, within)) k.sound f.is more
    in
    rests_clock n now old.settings d old mid new (kept_more n old mid k) f
    (subst (λ (settings : Settings). Clocks n now settings f.behind mid new) (ap (λ (b : Base). b.settings) r.based) rest))

-- the driver is awake
abbrev pub woken : Driver → ℕ → NodeMonitor → NodeMonitor
woken old now d = waited_longer (slept old.ran old.settings.timeout_ms now) d

pub woken_is : (n now : ℕ) (d : NodeMonitor) (old : Driver) → slice_get old.monitors (n - 1) ≡ Some d → slice_get (awake now old).monitors (n - 1) ≡ Some (woken old now d)
woken_is n now d old is =
    slice_get-map (waited_longer (slept old.ran old.settings.timeout_ms now)) old.monitors (n - 1)
    ∙ ap (λ (found : Option NodeMonitor). option_map (waited_longer (slept old.ran old.settings.timeout_ms now)) found) is

-- What time does to a node.
pub record TickClocks (n now : ℕ) (d : NodeMonitor) (old new : Driver) : Type 0 where
  pub clocks : Clocks n now old.settings (woken old now d) old new
  pub based : base new ≡ base (awake now old)

pub node_based : (now node : ℕ) (old new : Driver) → TicksNode now node old new → base new ≡ base old
node_based now node old new t =
    (serves_rest 1 (is_that t.leader node) now node t.left new t.serves).based
    ∙ (older_rests 1 (is_older (node_of t.told.link.stage) t.leader) now t.told t.left t.leaves).based
    ∙ ap base t.ticks.rest

nodes_based : (count now node : ℕ) (old new : Driver) → TickNodes count now node old new → base new ≡ base old
unfolding TickNodes
nodes_based zero now node old new same = ap base same
nodes_based (suc count) now node old new (mid, t, more) = nodes_based count now (node + 1) mid new more ∙ node_based now node old mid t

pub tick_clocks : (n now : ℕ) (at : Moment) (d : NodeMonitor) (old new : Driver) → 1 ≤ n → n ≤ 7 → Sound n old → slice_get old.monitors (n - 1) ≡ Some d → Ticks now at old new → TickClocks n now d old new
tick_clocks n now at d old new low high sound is t =
    let up = awake now old in
    let first = awake_keeps n now old sound in
    let pinged = asks_keep n now up t.pinged first.sound t.pings in
    let silent = is_silent t.pinged.link.stage now in
    let left = leaves_keep n silent now Silent t.pinged t.left pinged.sound t.leaves in
    let served =
    grows_keep n t.left t.served left.sound (ap monitors_of t.is_served)
    (ticks_grow (NoClaim n) at t.left.settings.timeout_ms now t.left.monitors (keys t.left.clients.all) (told_of t.left) (told_of t.served) left.sound.good t.clients)
    in
    let keeps = keeps_both n up t.left t.served (keeps_both n up t.pinged t.left pinged left) served in
    let rests =
    rests_both n up t.left t.served
    (rests_both n up t.pinged t.left (rests_same n up t.pinged (ap monitors_of t.pings.rest) (ap base t.pings.rest)) (leaves_rest n silent now Silent t.pinged t.left t.leaves))
    (rests_same n t.left t.served (ap monitors_of t.is_served) (ap base t.is_served))
    in
    let f = rests.found (woken old now d) (woken_is n now d old is) in
    let nodes =
    subst (λ (settings : Settings). Clocks n now settings f.behind t.served t.asked) (ap (λ (b : Base). b.settings) rests.based)
    (nodes_clock n 7 now 1 f.behind t.served t.asked low (omega (arith)) low (omega (arith, high)) served.sound f.is t.nodes)
    in
    let before = rests_clock n now old.settings (woken old now d) up t.served t.asked (kept_more n up t.served keeps) f nodes in
    let adds = spreads_by n t.retired.leader t.asked.settings now t.asked.monitors (round_of t.asked) (round_of new) t.retired.spreads in
    let c =
    clock_rests n now old.settings (woken old now d) up t.asked new before
    (record { told = adds.told; orders = adds.orders })
    (rests_same n t.asked new (ap monitors_of t.rest) (ap base t.rest))
    in
    record {
      clocks = record {
        own = c.own;
        from = c.from;
        before = c.before;
        first = c.first;
        behind = c.behind;
        is = c.is;
        same = c.same;
        last = c.last;
      };
      based = ap base t.rest ∙ nodes_based 7 now 1 t.served t.asked t.nodes ∙ rests.based;
    }

-- How a node comes to its turn as nodes tick.
use Rattle.std.proofs.Common.{◌≡◌, ℕ, zero, suc, ◌+◌, ◌<◌, ◌≤◌, true, Option, Some, refl, ap, subst, arith}
use Rattle.std.specs.BTreeMap.{keys}
use Rattle.wire_bytes.specs.declared.moment.Moment.{Moment}
use Rattle.driver.specs.declared.driver.Driver.{Driver}
use Rattle.driver.specs.declared.news.Ending.TheVariants.{Silent}
use Rattle.driver.specs.Driving.{ServesIf, TickNodes, Ticks, TicksNode, round_of, told_of}
use Rattle.driver.specs.Leading.{IsLeader, is_older, is_that}
use Rattle.driver.specs.Links.{node_of}
use Rattle.driver.specs.Servers.{is_silent}
use Rattle.driver.specs.Waking.{awake}
use Rattle.driver.proofs.Claiming.{node_apart, node_result, nodes_behind, serves_own, sound_behind}
use Rattle.driver.proofs.Growing.{by_number, ticks_grow}
use Rattle.driver.proofs.Keeping.{Keeps, Sound, asks_keep, keeps_both, leaves_keep, monitor_keeps, older_keep, orders_keep, same_keeps}
use Rattle.driver.proofs.Moves.{monitors_of}
use Rattle.driver.proofs.Quiet.{NoClaim}
use Rattle.driver.proofs.Reporting.{awake_keeps, grows_keep, spreads_by}
use Rattle.driver.proofs.Stood.{Goes, awake_goes, goes_both, goes_leader, goes_of, leaves_goes, left_goes, node_goes, node_leads, pace_of, settings_of, waiting_of}

-- A node's turn to be served, and what holds for it if this node is the leader of the greatest
-- term.
pub record Turn (n now : ℕ) (old new : Driver) : Type 0 where
  pub here : Driver
  pub keeps : Keeps n old here
  pub leader : Option ℕ
  pub behind : Driver
  pub serves : ServesIf (is_that leader n) now n here behind
  pub last : Keeps n behind new
  pub leads : IsLeader old.monitors (Some n) → is_that leader n ≡ true
  pub goes : IsLeader old.monitors (Some n) → Goes now old here

pub node_turn : (n now : ℕ) (old new : Driver) → 1 ≤ n → Sound n old → TicksNode now n old new → Turn n now old new
node_turn n now old new low sound t =
    let first = monitor_keeps n now n old t.told sound t.ticks in
    let keeps = keeps_both n old t.told t.left first (older_keep n (is_older (node_of t.told.link.stage) t.leader) now t.told t.left first.sound t.leaves) in
    let served = serves_own n (is_that t.leader n) now t.left new low keeps.sound t.serves in
    record {
      here = t.left;
      keeps = keeps;
      leader = t.leader;
      behind = new;
      serves = t.serves;
      last = same_keeps n new new (sound_behind n t.left new served) refl;
      leads = λ leads. node_leads n now old new t leads;
      goes = λ leads. left_goes now n old new t;
    }

turn_last : (n now : ℕ) (old mid new : Driver) → Turn n now old mid → Keeps n mid new → Turn n now old new
turn_last n now old mid new t k = record {
  here = t.here;
  keeps = t.keeps;
  leader = t.leader;
  behind = t.behind;
  serves = t.serves;
  last = keeps_both n t.behind mid new t.last k;
  leads = t.leads;
  goes = t.goes;
}

turn_first : (n now : ℕ) (old mid new : Driver) → Keeps n old mid → (IsLeader old.monitors (Some n) → Goes now old mid) → Turn n now mid new → Turn n now old new
turn_first n now old mid new k goes t = record {
  here = t.here;
  keeps = keeps_both n old mid t.here k t.keeps;
  leader = t.leader;
  behind = t.behind;
  serves = t.serves;
  last = t.last;
  leads = λ leads. t.leads (goes_leader n now old mid (goes leads) leads);
  goes = λ leads. goes_both now old mid t.here (goes leads) (t.goes (goes_leader n now old mid (goes leads) leads));
}

nodes_turn : (n count now node : ℕ) (old new : Driver) → 1 ≤ n → 1 ≤ node → node ≤ n → n < node + count → Sound n old → TickNodes count now node old new → Turn n now old new
unfolding TickNodes
nodes_turn n zero now node old new low low_node before within sound same = absurd (omega (arith, before, within))
nodes_turn n (suc count) now node old new low low_node before within sound (mid, t, more) =
    by_number node n (Turn n now old new)
    (λ same.
    let own = subst (λ (k : ℕ). TicksNode now k old mid) same t in
    let sound_mid = sound_behind n old mid (node_result n now n old mid low low sound own) in
    turn_last n now old mid new (node_turn n now old mid low sound own)
    (nodes_behind n count now (node + 1) mid new low (omega (arith, same)) sound_mid more))
    (λ apart.
    let k = node_apart n now node old mid low low_node apart sound t in
    turn_first n now old mid new k
    (λ leads. node_goes n now node old mid apart t leads)
    (nodes_turn n count now (node + 1) mid new low (omega (arith)) (omega (arith, before, apart)) (omega (arith, within)) k.sound more))

-- as time passes
pub tick_turn : (n now : ℕ) (at : Moment) (old new : Driver) → 1 ≤ n → n ≤ 7 → Sound n old → Ticks now at old new → Turn n now old new
tick_turn n now at old new low high sound t =
    let up = awake now old in
    let first = awake_keeps n now old sound in
    let pinged = asks_keep n now up t.pinged first.sound t.pings in
    let silent = is_silent t.pinged.link.stage now in
    let left = leaves_keep n silent now Silent t.pinged t.left pinged.sound t.leaves in
    let served =
    grows_keep n t.left t.served left.sound (ap monitors_of t.is_served)
    (ticks_grow (NoClaim n) at t.left.settings.timeout_ms now t.left.monitors (keys t.left.clients.all) (told_of t.left) (told_of t.served) left.sound.good t.clients)
    in
    let keeps = keeps_both n old up t.served first (keeps_both n up t.left t.served (keeps_both n up t.pinged t.left pinged left) served) in
    let goes =
    goes_both now old up t.served (awake_goes now old)
    (goes_both now up t.left t.served
    (goes_both now up t.pinged t.left
    (goes_of now up t.pinged (ap monitors_of t.pings.rest) (ap waiting_of t.pings.rest) (ap pace_of t.pings.rest) (ap settings_of t.pings.rest))
    (leaves_goes silent now Silent t.pinged t.left t.leaves))
    (goes_of now t.left t.served (ap monitors_of t.is_served) (ap waiting_of t.is_served) (ap pace_of t.is_served) (ap settings_of t.is_served)))
    in
    let nodes = nodes_turn n 7 now 1 t.served t.asked low (omega (arith)) low (omega (arith, high)) served.sound t.nodes in
    let sound_asked = nodes.last.sound in
    let word =
    orders_keep n t.asked new sound_asked (ap monitors_of t.rest) (ap (λ (driver : Driver). driver.clients) t.rest)
    (spreads_by n t.retired.leader t.asked.settings now t.asked.monitors (round_of t.asked) (round_of new) t.retired.spreads)
    in
    turn_last n now old t.asked new (turn_first n now old t.served t.asked keeps (λ leads. goes) nodes) word

-- The connection to the server belongs to the leader of the greatest term, or there is none.
use Rattle.std.proofs.Common.{◌≡◌, ◌∙◌, ℕ, suc, zero, ◌+◌, ◌-◌, ◌<◌, ◌≤◌, Bool, true, false, not, List, Option, Some, None, length, refl, sym, ap, subst, set, slice_get, ⊎_elim, arith}
use Rattle.std.specs.Prelude.{if◌then◌else◌}
use Rattle.std.proofs.lemmas.Bool.{cases_lt, eqb-true}
use Rattle.std.proofs.lemmas.List.{get_or-set_same, get_or-set_other, length-set}
use Rattle.std.proofs.lemmas.Option.{slice_get-get_or, slice_get_past, slice_get_within}
use Rattle.driver.specs.declared.backoff.Backoff.{Backoff}
use Rattle.driver.specs.declared.node_monitor.NodeMonitor.{NodeMonitor}
use Rattle.driver.specs.declared.driver.Driver.{Driver}
use Rattle.driver.specs.declared.link.Stage.{Stage}
use Rattle.driver.specs.declared.link.Stage.TheVariants.{Closing, Idle, Connecting, Open}
use Rattle.driver.specs.Dropping.{TellsDroppedIf, drop_end}
use Rattle.driver.specs.Monitors.{claim_due, monitor_claimed}
use Rattle.driver.specs.Driving.{Claims, Connects, LeavesOlder, QuitsIf, ServesIf, TickNodes, TicksNode, changed_at, changed_if}
use Rattle.driver.specs.Leading.{IsLeader, is_older, is_that, term_at, term_in, term_of}
use Rattle.driver.specs.Led.{IsOf, IsOfLeader, IsOfLeaderHeard, IsOfLeaderTicked}
use Rattle.driver.specs.Links.{idle_behind, is_open, lingering, may_connect, node_of}
use Rattle.driver.specs.Telling.{Ordered}
use Rattle.driver.specs.declared.driver.writing.TheConstants.{MOST_AT_ONCE}
use Rattle.driver.specs.Writing.{may_claim}
use Rattle.driver.proofs.Leading.{leader_kept}
use Rattle.driver.proofs.Writing.{lines_rest}

-- one of two monitors at the same place leads in the term in which the other leads, if their nodes have the same state
term_same : (monitors : List NodeMonitor) (i : ℕ) (d v : NodeMonitor) → slice_get monitors i ≡ Some d → v.status ≡ d.status → term_in (slice_get (set monitors i v) i) ≡ term_in (slice_get monitors i)
term_same monitors i d v is same =
    let within : i < length monitors = slice_get_within monitors i d is in
    let inside : i < length (set monitors i v) = subst (λ n. i < n) (sym (length-set monitors i v)) within in
    ap term_in (slice_get-get_or (set monitors i v) i d inside)
    ∙ ap (λ (monitor : NodeMonitor). term_of monitor.status) (get_or-set_same monitors i v d within)
    ∙ ap term_of same
    ∙ sym (ap term_in is)

-- and at another place nothing changes
term_other : (monitors : List NodeMonitor) (i j : ℕ) (d v : NodeMonitor) → (j ≡ i → ⊥) → term_in (slice_get (set monitors i v) j) ≡ term_in (slice_get monitors j)
term_other monitors i j d v apart =
    ⊎_elim
    (λ h.
    let inside : j < length (set monitors i v) = subst (λ n. j < n) (sym (length-set monitors i v)) h in
    ap term_in (slice_get-get_or (set monitors i v) j d inside)
    ∙ ap (λ (monitor : NodeMonitor). term_of monitor.status) (get_or-set_other monitors i j v d apart)
    ∙ sym (ap term_in (slice_get-get_or monitors j d h)))
    (λ h.
    let past : length (set monitors i v) ≤ j = subst (λ n. n ≤ j) (sym (length-set monitors i v)) h in
    ap term_in (slice_get_past (set monitors i v) j past) ∙ sym (ap term_in (slice_get_past monitors j h)))
    (cases_lt j (length monitors))

term_kept : (monitors : List NodeMonitor) (i j : ℕ) (d v : NodeMonitor) → slice_get monitors i ≡ Some d → v.status ≡ d.status → term_in (slice_get (set monitors i v) j) ≡ term_in (slice_get monitors j)
term_kept monitors i j d v is same =
    ⊎_elim
    (λ h. term_other monitors i j d v (λ e. omega (arith, h, e)))
    (λ le.
    ⊎_elim
    (λ h. term_other monitors i j d v (λ e. omega (arith, h, e)))
    (λ ge.
    let e : i ≡ j = omega (arith, le, ge) in
    subst (λ n. term_in (slice_get (set monitors i v) n) ≡ term_in (slice_get monitors n)) e (term_same monitors i d v is same))
    (cases_lt i j))
    (cases_lt j i)

-- a change that keeps a node's state keeps who leads
terms_kept : (change : NodeMonitor → NodeMonitor) → ((monitor : NodeMonitor) → (change monitor).status ≡ monitor.status) → (monitors : List NodeMonitor) (node other : ℕ) (at : Option NodeMonitor) → slice_get monitors (node - 1) ≡ at → term_in (slice_get (changed_if change monitors (node - 1) at) (other - 1)) ≡ term_at monitors other
terms_kept change same monitors node other None is = refl
terms_kept change same monitors node other (Some monitor) is = term_kept monitors (node - 1) (other - 1) monitor (change monitor) is (same monitor)

-- a claim keeps its node's state
claimed_stands : (orders : Ordered) (now : ℕ) (may : Bool) (due : Option ((ℕ × ℕ) × ℕ)) (monitor : NodeMonitor) → (monitor_claimed orders monitor now may due).status ≡ monitor.status
claimed_stands orders now may None monitor = refl
claimed_stands orders now true (Some line) monitor = refl
claimed_stands orders now false (Some line) monitor = refl

-- a connection that is gone belongs to no node
pub idle_of_none : (stage : Stage) (backoff : Backoff) (now : ℕ) → node_of (idle_behind stage backoff now) ≡ None
idle_of_none (Idle since wait) backoff now = refl
idle_of_none (Closing since wait) backoff now = refl
idle_of_none (Connecting node) backoff now = refl
idle_of_none (Open session) backoff now = refl

-- the node that leads is that one
pub that_is : (leader : Option ℕ) (node : ℕ) → is_that leader node ≡ true → leader ≡ Some node
that_is None node is = absurd (cc is)
that_is (Some other) node is = ap Some (eqb-true other node is)

shown : (b : Bool) → not b ≡ false → b ≡ true
shown true is = refl
shown false is = sym is

of_not_older : (own leader : Option ℕ) → is_older own leader ≡ false → IsOf own leader
of_not_older None leader is = tt
of_not_older (Some node) leader is = that_is leader node (shown (is_that leader node) is)

-- a connection that was left belongs to no node
lingers_none : (stage : Stage) (backoff : Backoff) (now : ℕ) → node_of (lingering (idle_behind stage backoff now)) ≡ None
lingers_none (Idle since wait) backoff now = refl
lingers_none (Closing since wait) backoff now = refl
lingers_none (Connecting node) backoff now = refl
lingers_none (Open session) backoff now = refl

quit_of : (is : Bool) (now : ℕ) (told left : Driver) (leader : Option ℕ) → QuitsIf is now told left → (left.monitors ≡ told.monitors) × IsOf (node_of left.link.stage) leader
quit_of false now told left leader h = (
  ap (λ (driver : Driver). driver.monitors) h.ends.rest ∙ ap (λ (driver : Driver). driver.monitors) h.rest,
  subst (λ (own : Option ℕ). IsOf own leader) (sym (ap node_of h.ends.stage ∙ idle_of_none h.closed.link.stage h.closed.link.backoff now)) tt,
)
quit_of true now told left leader q = (
  ap (λ (driver : Driver). driver.monitors) q.rest ∙ ap (λ (driver : Driver). driver.monitors) q.ends.rest ∙ ap (λ (driver : Driver). driver.monitors) q.says.rest,
  subst (λ (own : Option ℕ). IsOf own leader)
      (sym (ap (λ (driver : Driver). node_of driver.link.stage) q.rest ∙ ap (λ (stage : Stage). node_of (lingering stage)) q.ends.stage ∙ lingers_none q.said.link.stage q.said.link.backoff now))
      tt,
)

-- a connection of another node is left
left_of : (older : Bool) (now : ℕ) (told left : Driver) (leader : Option ℕ) → is_older (node_of told.link.stage) leader ≡ older → LeavesOlder older now told left → (left.monitors ≡ told.monitors) × IsOf (node_of left.link.stage) leader
left_of false now told left leader is same =
    (ap (λ (driver : Driver). driver.monitors) same, subst (λ (driver : Driver). IsOf (node_of driver.link.stage) leader) (sym same) (of_not_older (node_of told.link.stage) leader is))
left_of true now told left leader is q = quit_of (is_open told.link.stage) now told left leader q

-- the server is connected to for the node that leads
connects_of : (may : Bool) (stage : Stage) (node : ℕ) (leader : Option ℕ) → leader ≡ Some node → IsOf (node_of stage) leader → IsOf (node_of (if may then Connecting node else stage)) leader
connects_of true stage node leader is own = is
connects_of false stage node leader is own = own

-- the node that leads claims, and the server is connected to for it
claimed_of : (now node : ℕ) (old claimed new : Driver) (leader : Option ℕ) → is_that leader node ≡ true → Claims now node old claimed → Connects now node claimed new → IsLeader old.monitors leader → IsOf (node_of old.link.stage) leader → IsOfLeader new
claimed_of now node old claimed new leader is claims connects leads own =
    let may = may_claim old now in
    let claim : NodeMonitor → NodeMonitor = λ monitor. monitor_claimed old.orders monitor now may (claim_due monitor old.settings now) in
    let monitors = ap (λ (driver : Driver). driver.monitors) connects.rest ∙ claims.monitors in
    let stage = ap (λ (driver : Driver). driver.link.stage) claims.rest in
    let same = λ (other : ℕ). terms_kept claim (λ monitor. claimed_stands old.orders now may (claim_due monitor old.settings now) monitor) old.monitors node other (slice_get old.monitors (node - 1)) refl in
    record {
      leader = leader;
      is_leader = subst (λ (monitors : List NodeMonitor). IsLeader monitors leader) (sym monitors) (leader_kept old.monitors (changed_at claim old.monitors node) leader same leads);
      is_of =
          subst
          (λ (stage : Stage). IsOf (node_of stage) leader)
          (sym (connects.stage ∙ ap (λ (stage : Stage). if may_connect stage now then Connecting node else stage) stage))
          (connects_of (may_connect old.link.stage now) old.link.stage node leader (that_is leader node is) own);
    }

-- a drop ends
dropped_of : (ended : Option ℕ) (old new : Driver) → TellsDroppedIf ended old new → IsOfLeader old → IsOfLeader new
dropped_of None old new same of = subst IsOfLeader (sym same) of
dropped_of (Some count) old new t of = record {
  leader = of.leader;
  is_leader = subst (λ (monitors : List NodeMonitor). IsLeader monitors of.leader) (sym (ap (λ (driver : Driver). driver.monitors) t.rest)) of.is_leader;
  is_of = subst (λ (stage : Stage). IsOf (node_of stage) of.leader) (sym (ap (λ (driver : Driver). driver.link.stage) t.rest)) of.is_of;
}

served_of : (serves : Bool) (now node : ℕ) (left new : Driver) (leader : Option ℕ) → is_that leader node ≡ serves → ServesIf serves now node left new → IsLeader left.monitors leader → IsOf (node_of left.link.stage) leader → IsOfLeader new
served_of false now node left new leader is same leads own = record {
  leader = leader;
  is_leader = subst (λ (driver : Driver). IsLeader driver.monitors leader) (sym same) leads;
  is_of = subst (λ (driver : Driver). IsOf (node_of driver.link.stage) leader) (sym same) own;
}
served_of true now node left new leader is h leads own =
    let rest = lines_rest MOST_AT_ONCE now node left h.written h.writes in
    let leads_still = subst (λ (monitors : List NodeMonitor). IsLeader monitors leader) (sym (ap (λ (driver : Driver). driver.monitors) rest)) leads in
    let own_still = subst (λ (stage : Stage). IsOf (node_of stage) leader) (sym (ap (λ (driver : Driver). driver.link.stage) rest)) own in
    dropped_of (drop_end h.connected node) h.connected new h.ends
    (claimed_of now node h.written h.claimed h.connected leader is h.claims h.connects leads_still own_still)

node_of_leader : (now node : ℕ) (old new : Driver) → TicksNode now node old new → IsOfLeader new
node_of_leader now node old new h =
    let (monitors, own) = left_of (is_older (node_of h.told.link.stage) h.leader) now h.told h.left h.leader refl h.leaves in
    served_of (is_that h.leader node) now node h.left new h.leader refl h.serves (subst (λ (monitors : List NodeMonitor). IsLeader monitors h.leader) (sym monitors) h.is_leader) own

nodes_of_leader : (count now node : ℕ) (old new : Driver) → TickNodes (suc count) now node old new → IsOfLeader new
unfolding TickNodes
nodes_of_leader zero now node old new (behind, ticks, same) = subst IsOfLeader (sym same) (node_of_leader now node old behind ticks)
nodes_of_leader (suc count) now node old new (behind, ticks, more) = nodes_of_leader count now (node + 1) behind new more

pub heard_of_leader : IsOfLeaderHeard
heard_of_leader now at node status effects progress refused old new h = node_of_leader now node h.begun new h.ticks

pub ticked_of_leader : IsOfLeaderTicked
ticked_of_leader now at old new h =
    let last = nodes_of_leader 6 now 1 h.served h.asked h.nodes in
    subst IsOfLeader (sym h.rest) (record { leader = last.leader; is_leader = last.is_leader; is_of = last.is_of })

-- The node that the connection to the server belongs to: the leader of the greatest term.
use Rattle.std.specs.Prelude.{◌≡◌, ◌≤◌, ◌<◌, ℕ, ◌-◌, Bool, false, nat_eq, nat_lt, not, if◌then◌else◌, List, Option, Some, None, slice_get}
use Rattle.node_notes.specs.declared.status.Status.{Status}
use Rattle.node_notes.specs.Notes.{leads}
use Rattle.driver.specs.declared.node_monitor.NodeMonitor.{NodeMonitor}
use Rattle.driver.specs.declared.leader.Leader.{Leader}
use Rattle.wire_bytes.specs.Limits.{node_limit}

-- the term in which a node in this state leads, if it is up and leads
abbrev pub term_of : Option Status → Option ℕ
term_of None = None
term_of (Some status) = if leads status then Some status.term else None

-- the term in which this monitor's node leads, if there is a monitor and its node leads
abbrev pub term_in : Option NodeMonitor → Option ℕ
term_in None = None
term_in (Some monitor) = term_of monitor.status

-- the term in which this node leads, if it does
abbrev pub term_at : List NodeMonitor → ℕ → Option ℕ
term_at monitors node = term_in (slice_get monitors (node - 1))

-- None of the nodes from node 1 up to this one leads.
abbrev pub NoneLeads : List NodeMonitor → ℕ → Type 0
NoneLeads monitors last = (other : ℕ) → 1 ≤ other → other ≤ last → term_at monitors other ≡ None

-- Nodes up to this one that lead do so in this term or before it.
abbrev pub NoneLeadsAbove : List NodeMonitor → ℕ → ℕ → Type 0
NoneLeadsAbove monitors last term = (other t : ℕ) → 1 ≤ other → other ≤ last → term_at monitors other ≡ Some t → t ≤ term

-- Nodes before this one that lead do so before this term.
abbrev pub AllLeadBefore : List NodeMonitor → ℕ → ℕ → Type 0
AllLeadBefore monitors node term = (other t : ℕ) → 1 ≤ other → other < node → term_at monitors other ≡ Some t → t < term

-- Of the nodes from node 1 up to this last one, this node leads in the greatest term, which is this one; if several do,
-- it is the first of them.
pub record LeadsMost (monitors : List NodeMonitor) (last node term : ℕ) : Type 0 where
  pub low : 1 ≤ node
  pub high : node ≤ last
  pub leads : term_at monitors node ≡ Some term
  pub none_above : NoneLeadsAbove monitors last term
  pub is_first : AllLeadBefore monitors node term

-- This is the leader of the greatest term among the nodes up to this one, and that is the term; without them none
-- leads.
abbrev pub IsBest : List NodeMonitor → ℕ → Option Leader → Type 0
IsBest monitors last None = NoneLeads monitors last
IsBest monitors last (Some best) = LeadsMost monitors last best.node best.term

-- a node that leads in a greater term than the best so far, or the first one that leads, is the best
abbrev pub better : Option Leader → ℕ → Option ℕ → Option Leader
better best node None = best
better None node (Some term) = Some (record { node = node; term = term })
better (Some best) node (Some term) = if nat_lt best.term term then Some (record { node = node; term = term }) else Some best

-- This node, one of the seven, is the leader of the greatest term, the first if there are several; without it none of
-- the seven leads.
abbrev pub IsLeader : List NodeMonitor → Option ℕ → Type 0
IsLeader monitors None = NoneLeads monitors node_limit
IsLeader monitors (Some node) = (term : ℕ) × LeadsMost monitors node_limit node term

-- this is that node
abbrev pub is_that : Option ℕ → ℕ → Bool
is_that None node = false
is_that (Some other) node = nat_eq other node

-- a connection belongs to a node that is not the leader of the greatest term
abbrev pub is_older : Option ℕ → Option ℕ → Bool
is_older None leader = false
is_older (Some node) leader = not (is_that leader node)

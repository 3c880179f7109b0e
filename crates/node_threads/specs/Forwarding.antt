-- The request that is on its way to the leader.
use Rattle.std.specs.Prelude.{ℕ, suc, Bool, true, false, not, nat_eq, List, [], ◌∷◌, Option, Some, None, if◌then◌else◌}
use Rattle.world_views.specs.Inputs.{NodeInput}
use Rattle.raft_node.specs.declared.input.Input.TheVariants.{Timeout, Beat, Deliver, Ask, Opened, Closed, Heard, Claim, Apply}

-- whether an input is a request
abbrev pub is_request : {B L : Type 0} → NodeInput B L → Bool
is_request Timeout = false
is_request Beat = false
is_request (Deliver envelope) = false
is_request (Ask body) = true
is_request Opened = false
is_request Closed = false
is_request (Heard at line) = false
is_request Claim = false
is_request Apply = false

-- The node to which a request was last posted, if nothing was posted to it since, after a message was posted to this
-- node: a request, or another one.
abbrev pub after_post : Bool → ℕ → Option ℕ → Option ℕ
after_post true node forwarded = Some node
after_post false node None = None
after_post false node (Some to) = if nat_eq to node then None else Some to

-- and after messages were posted to these nodes
abbrev pub forwarded_after : Bool → List ℕ → Option ℕ → Option ℕ
forwarded_after is_request [] forwarded = forwarded
forwarded_after is_request (node ∷ nodes) forwarded = forwarded_after is_request nodes (after_post is_request node forwarded)

-- the leader that this node knows, if the last message posted to it is a request
abbrev pub request_at : Option ℕ → Option ℕ → Option ℕ
request_at forwarded None = None
request_at None (Some leader) = None
request_at (Some to) (Some leader) = if nat_eq to leader then Some leader else None

-- whether the node knows a leader, and the last message posted to it is no request
abbrev pub asks_first : Option ℕ → Option ℕ → Bool
asks_first forwarded None = false
asks_first None (Some leader) = true
asks_first (Some to) (Some leader) = not (nat_eq to leader)

-- whether the mailbox from the node at this place belongs to the node of this number
abbrev pub is_left : Option ℕ → ℕ → Bool
is_left None place = false
is_left (Some node) place = nat_eq node (suc place)

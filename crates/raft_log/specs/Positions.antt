-- The position of a node in its term, and what it knows in it.
use Rattle.std.specs.Prelude.{ℕ, Option, None}
use Rattle.raft_log.specs.declared.role.Role.{Role}
use Rattle.raft_log.specs.declared.role.Role.TheVariants.{Follower as FollowerRole, Candidate as CandidateRole, Leader as LeaderRole}
use Rattle.raft_log.specs.declared.node_state.Live.{Live}
use Rattle.raft_log.specs.declared.position.Position.{Position}
use Rattle.raft_log.specs.declared.position.Position.TheVariants.{Follower, Candidate, Leader}

-- the role of a position
abbrev pub role_of : Position → Role
role_of (Follower leader) = FollowerRole
role_of Candidate = CandidateRole
role_of (Leader live) = LeaderRole

-- the leader that a follower knows
abbrev pub leader_of : Position → Option ℕ
leader_of (Follower leader) = leader
leader_of Candidate = None
leader_of (Leader live) = None

-- the session that a leader holds
abbrev pub live_of : Position → Option Live
live_of (Follower leader) = None
live_of Candidate = None
live_of (Leader live) = live

-- What bodies say about a node's runs.
use Rattle.std.specs.Prelude.{ℕ, suc, ◌-◌, ◌==◌, nat_lt, max, Bool, true, false, if◌then◌else◌, List, [], ◌∷◌, Option, None, Some}
use Rattle.bouncer_tower.specs.Bodies.{Claimed, Sessioned, TowerBody}
use Rattle.buffer_commands.specs.declared.command.Command.{Command}
use Rattle.buffer_commands.specs.declared.command.Command.TheVariants.{Client, NodeGone}
use Rattle.session_fence.specs.declared.command.FenceCommand.TheVariants as fence
use Rattle.upstream_claim.specs.declared.command.ClaimsCommand.TheVariants as claims
use Rattle.request_once.specs.declared.body.Body.TheVariants as body
use Rattle.wire_bytes.specs.declared.origin.Origin.{Origin}
use Rattle.raft_log.specs.declared.entry.Entry.{Entry}
use Rattle.stable_store.specs.declared.saved.Saved.{Saved}

-- the boot of a client, if it is of this node
abbrev pub boot_of : ℕ → Origin → ℕ
boot_of node o = if o.0 == node then o.1 else 0

-- that of a client, or the floor below which the node's runs are gone
abbrev pub boot_in_command : ℕ → Command → ℕ
boot_in_command node (Client o at action) = boot_of node o
boot_in_command node (NodeGone gone floor) = if gone == node then floor else 0
boot_in_command node _ = 0

-- the boot that a command for the buffers mentions; an opening, an end or a line of a session mentions none
abbrev pub boot_in_session : ℕ → Sessioned → ℕ
boot_in_session node (fence.Inner c) = boot_in_command node c
boot_in_session node _ = 0

-- the boot that a command for the fence mentions; a claim of a line mentions none
abbrev pub boot_in_claims : ℕ → Claimed → ℕ
boot_in_claims node (claims.Inner c) = boot_in_session node c
boot_in_claims node (claims.Claim id number) = 0

-- the boot of a node that a body mentions: that of the client that asks, or of the run that made a mark, or the floor
-- below which its runs are gone; else 0
abbrev pub boot_in : ℕ → TowerBody → ℕ
boot_in node (body.Inner c) = boot_in_claims node c
boot_in node (body.Asked o number at action) = boot_of node o
boot_in node body.Blank = 0
boot_in node (body.Mark m) = if m.node == node then m.boot else 0

-- whether a command for the buffers says that runs of a node below a floor are gone
abbrev pub is_floor_command : Command → Bool
is_floor_command (NodeGone gone floor) = true
is_floor_command _ = false

-- whether one for the fence does
abbrev pub is_floor_session : Sessioned → Bool
is_floor_session (fence.Inner c) = is_floor_command c
is_floor_session _ = false

-- whether one for the claims does
abbrev pub is_floor_claims : Claimed → Bool
is_floor_claims (claims.Inner c) = is_floor_session c
is_floor_claims (claims.Claim id number) = false

-- whether a body does
abbrev pub is_floor : TowerBody → Bool
is_floor (body.Inner c) = is_floor_claims c
is_floor (body.Asked o number at action) = false
is_floor body.Blank = false
is_floor (body.Mark m) = false

-- The run of a node that has begun according to a body: the boot that it mentions. If runs below a floor are gone, the
-- one below the floor had begun; a run of the floor itself may never begin
abbrev pub run_in : ℕ → TowerBody → ℕ
run_in node b = if is_floor b then boot_in node b - 1 else boot_in node b

-- the last run of a node that has begun according to the entries of a list
abbrev pub last_run : ℕ → List (Entry TowerBody) → ℕ
last_run node [] = 0
last_run node (e ∷ es) = max (run_in node e.body) (last_run node es)

-- the last run of a node that has begun according to logs of a group
abbrev pub run_told : ℕ → List (Saved TowerBody) → ℕ
run_told node [] = 0
run_told node (saved ∷ group) = max (last_run node saved.log) (run_told node group)

-- A store is older than its group shows: a log of the group mentions a later run of its node. It is an older copy of
-- the node's journal, or the journal of another node
abbrev pub is_older : ℕ → Saved TowerBody → List (Saved TowerBody) → Bool
is_older node saved group = nat_lt saved.boot (run_told node group)

-- the ones that exist
abbrev pub those_there : {A : Type 0} → List (Option A) → List A
those_there [] = []
those_there (None ∷ xs) = those_there xs
those_there (Some x ∷ xs) = x ∷ those_there xs

-- the first node whose store is older than its group shows, if there is one; these are the stores from this node on, as
-- far as they exist
abbrev pub first_older : ℕ → List (Option (Saved TowerBody)) → List (Saved TowerBody) → Option ℕ
first_older node [] group = None
first_older node (None ∷ owns) group = first_older (suc node) owns group
first_older node (Some own ∷ owns) group = if is_older node own group then Some node else first_older (suc node) owns group

-- the first of them among all stores that exist
abbrev pub first_of_group : List (Option (Saved TowerBody)) → Option ℕ
first_of_group owns = first_older 1 owns (those_there owns)

-- the greatest boot of a node that the entries of a list mention
abbrev pub greatest_boot : ℕ → List (Entry TowerBody) → ℕ
greatest_boot node [] = 0
greatest_boot node (e ∷ es) = max (boot_in node e.body) (greatest_boot node es)

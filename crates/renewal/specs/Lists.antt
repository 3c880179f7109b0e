-- Lists of bodies that are renewed. A history has each body with its place, the newest first.
use Rattle.std.specs.Prelude.{◌≡◌, ◌⊎◌, ℕ, ◌+◌, ◌≤◌, ◌<◌, Bool, true, false, if◌then◌else◌, is_some, ◌==◌, List, [], ◌∷◌, ◌++◌, length, map, drop, filter}
use Rattle.std.specs.List.{list_all}
use Rattle.irc_line.specs.Lines.{Parts}
use Rattle.wire_bytes.specs.declared.origin.Origin.{Origin}
use Rattle.wire_bytes.specs.declared.session_id.SessionId.{SessionId}
use Rattle.wire_bytes.specs.Limits.{number_limit}
use Rattle.irc_line.specs.Keys.{is_in}
use Rattle.buffer_targets.specs.Targets.{ChannelLines, channel_names}
use Rattle.machine_laws.specs.Origins.{same_origin}
use Rattle.machine_laws.specs.Runs.{History, came_at, run}
use Rattle.buffer_commands.specs.Settings.{Settings}
use Rattle.buffer_commands.specs.declared.command.Command.TheVariants as command
use Rattle.session_fence.specs.declared.command.FenceCommand.TheVariants as fence
use Rattle.upstream_claim.specs.declared.command.ClaimsCommand.TheVariants as claims
use Rattle.request_once.specs.declared.body.Body.TheVariants as body
use Rattle.buffer_machine.specs.Buffers.{joined}
use Rattle.buffer_machine.specs.Crowd.{attached, floor, ids, is_id_in}
use Rattle.buffer_machine.specs.Held.{commands, held}
use Rattle.raft_log.specs.declared.entry.Entry.{Entry}
use Rattle.bouncer_tower.specs.Bodies.{Claimed, Sessioned, TowerBody, claimed, outgoing, plain, session}
use Rattle.bouncer_tower.specs.Hosting.{of_buffers}
use Rattle.led_lists.specs.Led.{IsLed}
use Rattle.renewal.specs.Bounds.{lines_counted, most_bodies, targets_counted}
use Rattle.renewal.specs.Moved.{moved}

-- the bodies that say that the runs of these nodes below their floors are gone with all their clients, and that no
-- session is in force; each node comes with its floor
abbrev pub settling : List (ℕ × ℕ) → List TowerBody
settling floors = map (λ f. of_buffers (command.NodeGone f.0 f.1)) floors ++ of_buffers command.Down ∷ []

-- a history followed by these
abbrev pub settled : List (ℕ × ℕ) → History TowerBody → History TowerBody
settled floors h = came_at 0 (settling floors) h

-- the lines that clients sent and that wait to go upstream, in their order
abbrev pub waiting : Settings → History TowerBody → List Parts
waiting s h = drop (length (claimed s h)) (outgoing s h)

-- a session of this term
abbrev pub is_of : ℕ → SessionId → Bool
is_of term id = id.0 == term

-- what a leader of this term brings about its sessions, and what a node brings: that another is gone
abbrev pub is_session_brought : ℕ → Sessioned → Bool
is_session_brought term (fence.Opened id) = is_of term id
is_session_brought term (fence.Shut id) = is_of term id
is_session_brought term (fence.Heard id n at line) = is_of term id
is_session_brought term (fence.Inner (command.NodeGone node floor)) = true
is_session_brought term (fence.Inner c) = false

abbrev pub is_claim_brought : ℕ → Claimed → Bool
is_claim_brought term (claims.Claim id n) = is_of term id
is_claim_brought term (claims.Inner c) = is_session_brought term c

-- a body of a kind that nodes bring: from a leader of this term, from this client, or that a node is gone
abbrev pub is_brought : ℕ → Origin → TowerBody → Bool
is_brought term client body.Blank = true
is_brought term client (body.Asked o n at a) = same_origin client o
is_brought term client (body.Inner c) = is_claim_brought term c
is_brought term client (body.Mark m) = false

-- the part of a history up to the last body after which a session was in force; empty if none ever was
abbrev pub last_live : History TowerBody → History TowerBody
last_live [] = []
last_live (x ∷ earlier) = if is_some (session (x ∷ earlier)) then x ∷ earlier else last_live earlier

-- whether the own nick was in the channel of a key when a session was last in force
abbrev pub was_joined : Settings → History TowerBody → List ℕ → Bool
was_joined s h c = joined s (commands (plain (last_live h))) c

-- these are the channels that the own nick was in when a session was last in force
abbrev pub AreNoted : Settings → History TowerBody → List (List ℕ) → Type 0
AreNoted s h names = (c : List ℕ) → is_in c names ≡ was_joined s h c

-- the same, unless a session is in force
abbrev pub WereNoted : Settings → History TowerBody → List (List ℕ) → Type 0
WereNoted s h names = is_some (session h) ≡ false → AreNoted s h names

-- the names of the channels that are joined
abbrev pub joined_names : List ChannelLines → List (List ℕ)
joined_names cs = channel_names (filter (λ c. c.joined) cs)

-- a session may end with a body that opens another or that shuts it
abbrev pub may_end_below : Sessioned → Bool
may_end_below (fence.Opened id) = true
may_end_below (fence.Shut id) = true
may_end_below _ = false

abbrev pub may_end_of : Claimed → Bool
may_end_of (claims.Inner c) = may_end_below c
may_end_of (claims.Claim id n) = false

abbrev pub may_end : TowerBody → Bool
may_end (body.Inner c) = may_end_of c
may_end _ = false

-- A list of bodies under one setup is renewed by another under a second setup, given the names of clients that are
-- forgotten and the channels that the own nick was in: what is held is moved, nobody is attached and no channel joined,
-- the floors are the same, and the same lines wait to go upstream. The new list has only bodies of kinds that nodes
-- bring, of one term and one client, and one leader brings it
pub record BegunAnew (s t : Settings) (forgotten : List (List ℕ)) (was : List ℕ → Bool) (term : ℕ) (client : Origin) (old : History TowerBody) (new : List TowerBody) : Type 0 where
  pub gone : attached s (commands (plain old)) ≡ []
  pub nobody : attached t (commands (plain (run new))) ≡ []
  pub unjoined : (c : List ℕ) → joined t (commands (plain (run new))) c ≡ false
  pub floors : (node : ℕ) → node < 8 → floor (commands (plain (run new))) node ≡ floor (commands (plain old)) node
  pub holding : held t (commands (plain (run new))) ≡ moved s t forgotten was (held s (commands (plain old)))
  pub waits : waiting t (run new) ≡ waiting s old
  pub brought : list_all (is_brought term client) new ≡ true
  pub led : IsLed t term client new

-- how many bodies may renew a list of one setup under a second one, if there are this many nodes
abbrev pub most : Settings → Settings → History TowerBody → ℕ → ℕ
most s t old nodes = most_bodies (held s (commands (plain old))) (length t.channels + length (waiting s old) + nodes)

-- Logs

-- an entry of a term
abbrev pub entry_of : {B : Type 0} → ℕ → B → Entry B
entry_of term b = record { term = term; body = b }

-- the bodies of entries
abbrev pub bodies_of : {B : Type 0} → List (Entry B) → List B
bodies_of entries = map (λ e. e.body) entries

-- each of these nodes, from this one on, with a floor two above its greatest run: one above that of the renewal
abbrev pub floors_from : ℕ → List ℕ → List (ℕ × ℕ)
floors_from node [] = []
floors_from node (boot ∷ boots) = (node, boot + 2) ∷ floors_from (node + 1) boots

-- for all nodes, node 1 first
abbrev pub floors_of : List ℕ → List (ℕ × ℕ)
floors_of boots = floors_from 1 boots

-- after the first of these runs, or after this term, no number is left; or there is no run
abbrev pub IsSpent : List ℕ → ℕ → Type 0
IsSpent [] term = Unit {0}
IsSpent (boot ∷ boots) term = (number_limit < boot + 1) ⊎ (number_limit < term + 1)

-- one of these runs leaves no number for its floor
abbrev pub AreSpent : List ℕ → Type 0
AreSpent [] = ⊥
AreSpent (boot ∷ boots) = (number_limit < boot + 2) ⊎ AreSpent boots

-- the client of a renewal: its run of node 1 is above the greatest one
abbrev pub client_of : List ℕ → Origin
client_of [] = (1, 1, 1)
client_of (boot ∷ boots) = (1, boot + 1, 1)

-- a log's bodies, after which all clients of the runs up to these are gone and no channel is joined
abbrev pub settled_log : List ℕ → List (Entry TowerBody) → History TowerBody
settled_log boots old = settled (floors_of boots) (run (bodies_of old))

-- each of these is the name of a client in a list
abbrev pub are_known : Settings → History TowerBody → List (List ℕ) → Bool
are_known s h names = list_all (λ id. is_id_in id (ids s (commands (plain h)))) names

-- A log of one setup is renewed by another of a second setup, without the names of clients that are forgotten, where
-- these are the greatest run of each node and the greatest term: once all clients of these runs are gone and no channel
-- is joined, its bodies are renewed by those of the other, which are no more than allowed; all entries of the other are
-- of the next term
pub record IsRenewal (s t : Settings) (forgotten : List (List ℕ)) (boots : List ℕ) (term : ℕ) (old new : List (Entry TowerBody)) : Type 0 where
  pub begun : BegunAnew s t forgotten (was_joined s (run (bodies_of old))) (term + 1) (client_of boots) (settled_log boots old) (bodies_of new)
  pub known : are_known s (settled_log boots old) forgotten ≡ true
  pub parted : (c : List ℕ) → joined s (commands (plain (settled_log boots old))) c ≡ false
  pub few : length new ≤ most s t (settled_log boots old) (length boots)
  pub terms : new ≡ map (entry_of (term + 1)) (bodies_of new)

-- what is held after a history, counted in targets and in lines that they keep
pub record AreCounted (s : Settings) (h : History TowerBody) (targets lines : ℕ) : Type 0 where
  pub in_targets : targets ≡ targets_counted (held s (commands (plain h)))
  pub in_lines : lines ≡ lines_counted (held s (commands (plain h)))

-- Worked cases, computed on the definitions.
use Rattle.std.specs.Prelude.{◌≡◌, ℕ, suc, List, [], ◌∷◌, ◌++◌, map, length, drop, Option, Some, None, codes, refl}
use Rattle.irc_line.specs.Names.{same_name, is_name, is_channel}
use Rattle.irc_line.specs.Keys.{at_key}
use Rattle.irc_line.specs.Lines.{spelling}
use Rattle.buffer_lines.specs.Keeping.{stored_by, stays, kept_since, kept as kept_lines}
use Rattle.buffer_lines.specs.Stamps.{stamped, timed}
use Rattle.wire_bytes.specs.declared.origin.Origin.{Origin}
use Rattle.buffer_commands.specs.Settings.{plain}
use Rattle.buffer_commands.specs.declared.command.Verb.TheVariants.{Privmsg}
use Rattle.buffer_commands.specs.declared.command.Action.TheVariants as action
use Rattle.buffer_machine.specs.Messages.{bare}
use Rattle.buffer_machine.specs.Buffers.{nick, channels, queries, stored_query, is_removed, is_pushed_out, removes_target, targets, is_known, made_as, joined, detached, size, stored, emptied, kept, playback}
use Rattle.buffer_machine.specs.Crowd.{floor, crowd, attached, ids, id_of, holds}
use Rattle.buffer_machine.specs.Effects.{named, is_channel_known, open_channels, closings, shown, sent, effects}
use Rattle.session_fence.specs.Sessions as sessions
use Rattle.session_fence.specs.declared.effect.FenceEffect.TheVariants as fence_effect
use Rattle.upstream_claim.specs.Numbered as lines
use Rattle.upstream_claim.specs.declared.effect.ClaimsEffect.TheVariants as claims_effect
use Rattle.request_once.specs.Fresh as requests
use Rattle.request_once.specs.declared.body.Body.TheVariants.{Asked, Mark}
use Rattle.request_once.specs.declared.answer.Answer.TheVariants as answer
use Rattle.bouncer_tower.specs.Bodies as bodies
use Rattle.bouncer_tower.specs.Hosting as hosting
use Rattle.bouncer_tower.specs.Bodies.{TowerBody, TowerEffect}
use Rattle.raft_log.specs.declared.role.Role.{Role}
use Rattle.raft_log.specs.declared.role.Role.TheVariants.{Follower, Leader}
use Rattle.raft_log.specs.Node.{Node}
use Rattle.raft_log.specs.Logs.{last_term}
use Rattle.agreement.specs.World.{start}
use Rattle.node_steps.specs.declared.refusal.Refusal.TheVariants.{Behind, BadOrigin}
use Rattle.raft_node.specs.Steps.{Out, Quiet, Left, Looked, Refused, Missing}
use Rattle.world_run.specs.World.{Input, Timeout, Beat, Deliver, Ask, Opened, Claim, Apply, Look, Event, Does, Restart, outputs, run, handed}
use Rattle.wire_bytes.specs.declared.mark.Mark as mark
use Rattle.headline.specs.Tower.{tower}

abbrev E : Type 0
E = Event (tower plain)

abbrev t : ℕ
t = 1700000000

abbrev x : List ℕ
x = codes "#x"

abbrev o : Origin
o = (1, 1, 1)

abbrev a1 : TowerBody
a1 = Asked o 1 t (action.Attach None)

abbrev s2 : TowerBody
s2 = Asked o 2 t (action.Say Privmsg x (codes "hi"))

abbrev d2 : TowerBody
d2 = Asked o 2 t (action.Detach x)

abbrev s3 : TowerBody
s3 = Asked o 3 t (action.Say Privmsg x (codes "hi"))

-- a mark of node 1
abbrev mark_of : ℕ → ℕ → mark.Mark
mark_of boot number = record { node = 1; boot = boot; number = number }

abbrev does : List (Input (tower plain)) → List E
does xs = map (λ y. Does y) xs

-- what comes out, by the event's number
abbrev said : ℕ → List (Out (tower plain)) → List (ℕ × Out (tower plain))
said k [] = []
said k (Quiet ∷ os) = said (suc k) os
said k (Left place es ∷ os) = (k, Left place es) ∷ said (suc k) os
said k (Looked place ls ∷ os) = (k, Looked place ls) ∷ said (suc k) os
said k (Refused r ∷ os) = (k, Refused r) ∷ said (suc k) os
said k (Missing ∷ os) = (k, Missing) ∷ said (suc k) os

abbrev number : Option ℕ → ℕ
number None = 0
number (Some v) = v

-- role, term, vote, log, last, commit, applied
abbrev line : Node TowerBody → Role × ℕ × ℕ × ℕ × ℕ × ℕ × ℕ
line s = (s.role, s.term, number s.vote, length s.log, last_term s.log, s.commit, s.applied)

abbrev two_requests : List E
two_requests =
    does (Timeout 1 ∷ Deliver 1 1 ∷ Deliver 2 1 ∷ Ask 1 a1 ∷ Ask 1 s2 ∷ Beat 1 ∷ Deliver 1 3 ∷ Deliver 2 2 ∷ Apply 1 ∷ Apply 1 ∷ [])

abbrev a_claim_of_an_older_session : List E
a_claim_of_an_older_session =
    two_requests
    ++ does (Apply 1 ∷ Opened 1 ∷ Claim 1 ∷ Beat 1 ∷ Deliver 1 5 ∷ Deliver 2 3 ∷ [])
    ++ Restart 1
    ∷ does (Timeout 2 ∷ Deliver 2 5 ∷ Deliver 3 1 ∷ Opened 2 ∷ Apply 2 ∷ Apply 2 ∷ Apply 2 ∷ Claim 2 ∷ Beat 2 ∷ Deliver 2 6 ∷ Deliver 1 7 ∷ Apply 2 ∷ Apply 2 ∷ Apply 2 ∷ Apply 2 ∷ Apply 2 ∷ [])

abbrev a_look_at_another_node : List E
a_look_at_another_node =
    does (Timeout 1 ∷ Deliver 1 1 ∷ Deliver 2 1 ∷ Ask 1 a1 ∷ Ask 1 d2 ∷ Ask 1 s3 ∷ Beat 1 ∷ Deliver 1 4 ∷ Deliver 3 1 ∷ Beat 1 ∷ Deliver 1 6 ∷ Apply 3 ∷ Apply 3 ∷ Look 3 3 x ∷ Apply 3 ∷ Look 3 3 x ∷ Apply 3 ∷ Look 3 4 x ∷ [])

two_requests_nodes : map line (run (tower plain) two_requests (start 3)) ≡ (Leader, 1, 1, 3, 1, 3, 2) ∷ (Follower, 1, 1, 3, 1, 0, 0) ∷ (Follower, 0, 0, 0, 0, 0, 0) ∷ []
unfolding bodies.next_claim lines.next_claim lines.outgoing lines.claimed lines.numbered lines.plain bodies.accepted requests.plain requests.fresh requests.last
two_requests_nodes = refl

two_requests_said : said 1 (outputs (tower plain) 3 two_requests) ≡ (9, Left 1 []) ∷ (10, Left 2 (answer.Done o 1 ∷ [])) ∷ []
unfolding bodies.next_claim bodies.accepted requests.answers requests.plain requests.fresh requests.last lines.answers lines.next_claim lines.outgoing lines.claimed lines.numbered lines.plain sessions.answers sessions.plain sessions.commands sessions.session sessions.lines_taken effects sent shown closings open_channels named is_channel_known playback kept emptied stored size removes_target is_pushed_out is_removed detached joined made_as is_known targets channels queries stored_query nick attached crowd ids id_of holds floor at_key spelling stamped timed same_name is_name is_channel kept_lines kept_since stays stored_by
two_requests_said = refl

a_claim_of_an_older_session_nodes : map line (run (tower plain) a_claim_of_an_older_session (start 3)) ≡ (Follower, 2, 0, 8, 2, 3, 0) ∷ (Leader, 2, 2, 8, 2, 8, 8) ∷ (Follower, 2, 2, 0, 0, 0, 0) ∷ []
unfolding bodies.next_claim bodies.accepted requests.answers requests.plain requests.fresh requests.last lines.answers lines.next_claim lines.outgoing lines.claimed lines.numbered lines.plain sessions.answers sessions.plain sessions.commands sessions.session sessions.lines_taken effects sent shown closings open_channels named is_channel_known playback kept emptied stored size removes_target is_pushed_out is_removed detached joined made_as is_known targets channels queries stored_query nick attached crowd ids id_of holds floor at_key spelling stamped timed same_name is_name is_channel kept_lines kept_since stays stored_by
a_claim_of_an_older_session_nodes = refl

a_claim_of_an_older_session_said : said 1 (outputs (tower plain) 3 a_claim_of_an_older_session)
    ≡ (9, Left 1 []) ∷ (10, Left 2 (answer.Done o 1 ∷ [])) ∷ (11, Left 3 (answer.Done o 2 ∷ []))
    ∷ (22, Left 1 []) ∷ (23, Left 2 []) ∷ (24, Left 3 []) ∷ (29, Left 4 []) ∷ (30, Left 5 []) ∷ (31, Left 6 [])
    ∷ (32, Left 7 (answer.Effect (claims_effect.Inner (fence_effect.Rejoin (2, 1) (bare (codes "JOIN") (x ∷ [])))) ∷ [])) ∷ (33, Left 8 []) ∷ []
unfolding bodies.next_claim bodies.accepted requests.answers requests.plain requests.fresh requests.last lines.answers lines.next_claim lines.outgoing lines.claimed lines.numbered lines.plain sessions.answers sessions.plain sessions.commands sessions.session sessions.lines_taken effects sent shown closings open_channels named is_channel_known playback kept emptied stored size removes_target is_pushed_out is_removed detached joined made_as is_known targets channels queries stored_query nick attached crowd ids id_of holds floor at_key spelling stamped timed same_name is_name is_channel kept_lines kept_since stays stored_by
a_claim_of_an_older_session_said = refl

a_claim_of_an_older_session_handed : handed (tower plain) 3 a_claim_of_an_older_session ≡ []
unfolding bodies.next_claim bodies.accepted requests.answers requests.plain requests.fresh requests.last lines.answers lines.next_claim lines.outgoing lines.claimed lines.numbered lines.plain sessions.answers sessions.plain sessions.commands sessions.session sessions.lines_taken effects sent shown closings open_channels named is_channel_known playback kept emptied stored size removes_target is_pushed_out is_removed detached joined made_as is_known targets channels queries stored_query nick attached crowd ids id_of holds floor at_key spelling stamped timed same_name is_name is_channel kept_lines kept_since stays stored_by
a_claim_of_an_older_session_handed = refl

a_look_at_another_node_said : said 1 (outputs (tower plain) 3 a_look_at_another_node)
    ≡ (12, Left 1 []) ∷ (13, Left 2 []) ∷ (14, Refused (Behind 2)) ∷ (15, Left 3 [])
    ∷ (16, Looked 3 []) ∷ (17, Left 4 [])
    ∷ (18, Looked 4 (codes ":***!bouncer@local PRIVMSG #x :Buffer Playback..." ∷ codes ":me!bouncer@local PRIVMSG #x :[22:13:20] hi" ∷ codes ":***!bouncer@local PRIVMSG #x :Playback Complete." ∷ [])) ∷ []
unfolding hosting.playback bodies.plain bodies.unclaimed bodies.next_claim bodies.accepted requests.answers requests.plain requests.fresh requests.last lines.answers lines.next_claim lines.outgoing lines.claimed lines.numbered lines.plain sessions.answers sessions.plain sessions.commands sessions.session sessions.lines_taken effects sent shown closings open_channels named is_channel_known playback kept emptied stored size removes_target is_pushed_out is_removed detached joined made_as is_known targets channels queries stored_query nick attached crowd ids id_of holds floor at_key spelling stamped timed same_name is_name is_channel kept_lines kept_since stays stored_by
a_look_at_another_node_said = refl

a_look_at_another_node_nodes : map line (run (tower plain) a_look_at_another_node (start 3)) ≡ (Leader, 1, 1, 4, 1, 4, 0) ∷ (Follower, 1, 1, 0, 0, 0, 0) ∷ (Follower, 1, 0, 4, 1, 4, 4) ∷ []
a_look_at_another_node_nodes = refl

-- a line that is handed: its session is opened, and the places of both are applied under it
abbrev handing : List E
handing = two_requests ++ does (Apply 1 ∷ Opened 1 ∷ Claim 1 ∷ Beat 1 ∷ Deliver 1 5 ∷ Deliver 2 3 ∷ Apply 1 ∷ Apply 1 ∷ Claim 1 ∷ [])

handing_handed : handed (tower plain) 3 handing ≡ (1, bare (codes "PRIVMSG") (x ∷ codes "hi" ∷ [])) ∷ []
unfolding bodies.next_claim bodies.accepted requests.answers requests.plain requests.fresh requests.last lines.answers lines.next_claim lines.outgoing lines.claimed lines.numbered lines.plain sessions.answers sessions.plain sessions.commands sessions.session sessions.lines_taken effects sent shown closings open_channels named is_channel_known playback kept emptied stored size removes_target is_pushed_out is_removed detached joined made_as is_known targets channels queries stored_query nick attached crowd ids id_of holds floor at_key spelling stamped timed same_name is_name is_channel kept_lines kept_since stays stored_by
handing_handed = refl

handing_said : said 11 (drop 10 (outputs (tower plain) 3 handing))
    ≡ (11, Left 3 (answer.Done o 2 ∷ [])) ∷ (17, Left 4 (answer.Effect (claims_effect.Inner (fence_effect.Rejoin (1, 1) (bare (codes "JOIN") (x ∷ [])))) ∷ []))
    ∷ (18, Left 5 (answer.Effect (claims_effect.Hand (1, 1) 1 (bare (codes "PRIVMSG") (x ∷ codes "hi" ∷ []))) ∷ [])) ∷ []
unfolding bodies.next_claim bodies.accepted requests.answers requests.plain requests.fresh requests.last lines.answers lines.next_claim lines.outgoing lines.claimed lines.numbered lines.plain sessions.answers sessions.plain sessions.commands sessions.session sessions.lines_taken effects sent shown closings open_channels named is_channel_known playback kept emptied stored size removes_target is_pushed_out is_removed detached joined made_as is_known targets channels queries stored_query nick attached crowd ids id_of holds floor at_key spelling stamped timed same_name is_name is_channel kept_lines kept_since stays stored_by
handing_said = refl

-- a mark is asked by its own node in its own run, and answered there
abbrev marking : List E
marking =
    does (Timeout 1 ∷ Deliver 1 1 ∷ Deliver 2 1 ∷ Ask 1 (Mark (mark_of 1 7)) ∷ Ask 1 (Mark (mark_of 2 7)) ∷ Ask 2 (Mark (mark_of 1 7)) ∷ Beat 1 ∷ Deliver 1 3 ∷ Deliver 2 2 ∷ Apply 1 ∷ Apply 1 ∷ Beat 1 ∷ Deliver 1 5 ∷ Apply 2 ∷ Apply 2 ∷ [])

marking_said : said 1 (outputs (tower plain) 3 marking)
    ≡ (5, Refused BadOrigin) ∷ (6, Refused BadOrigin) ∷ (10, Left 1 []) ∷ (11, Left 2 (answer.Marked (mark_of 1 7) ∷ [])) ∷ (14, Left 1 []) ∷ (15, Left 2 []) ∷ []
unfolding bodies.next_claim bodies.accepted requests.answers requests.plain requests.fresh requests.last lines.answers lines.next_claim lines.outgoing lines.claimed lines.numbered lines.plain sessions.answers sessions.plain sessions.commands sessions.session sessions.lines_taken effects sent shown closings open_channels named is_channel_known playback kept emptied stored size removes_target is_pushed_out is_removed detached joined made_as is_known targets channels queries stored_query nick attached crowd ids id_of holds floor at_key spelling stamped timed same_name is_name is_channel kept_lines kept_since stays stored_by
marking_said = refl

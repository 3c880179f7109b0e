-- What a node must know about bodies and effects.
use Rattle.std.specs.Prelude.{ℕ, Bool, ◌&&◌, nat_le, if◌then◌else◌, List, [], ◌∷◌, ◌++◌, map}
use Rattle.irc_line.specs.Lines.{Parts, spelling}
use Rattle.irc_line.specs.Names.{fold_name}
use Rattle.wire_bytes.specs.declared.mark.Mark as mark
use Rattle.machine_laws.specs.Runs.{History, all_effects}
use Rattle.machine_laws.specs.Classes.{Handed, handed_by}
use Rattle.machine_laws.specs.declared.class.Class.{Class}
use Rattle.machine_laws.specs.declared.class.Class.TheVariants.{To, Hand, Rejoin, Nowhere}
use Rattle.machine_laws.specs.declared.class.Source.{Source}
use Rattle.machine_laws.specs.declared.class.Source.TheVariants as source
use Rattle.buffer_commands.specs.Settings.{Settings}
use Rattle.buffer_machine.specs.Buffers as buffers
use Rattle.buffer_machine.specs.Held.{commands}
use Rattle.buffer_commands.specs.declared.command.Command.{Command}
use Rattle.buffer_commands.specs.declared.command.Command.TheVariants as command
use Rattle.buffer_commands.specs.declared.effect.Effect.{Effect}
use Rattle.buffer_commands.specs.declared.effect.Effect.TheVariants as effect
use Rattle.session_fence.specs.declared.command.FenceCommand.TheVariants as fence
use Rattle.session_fence.specs.declared.effect.FenceEffect.{FenceEffect}
use Rattle.session_fence.specs.declared.effect.FenceEffect.TheVariants as fence_effect
use Rattle.upstream_claim.specs.declared.command.ClaimsCommand.TheVariants as claims
use Rattle.upstream_claim.specs.declared.effect.ClaimsEffect.{ClaimsEffect}
use Rattle.upstream_claim.specs.declared.effect.ClaimsEffect.TheVariants as claims_effect
use Rattle.request_once.specs.declared.body.Body.TheVariants as body
use Rattle.request_once.specs.declared.answer.Answer.TheVariants as answer
use Rattle.bouncer_tower.specs.Bodies.{Sessioned, Claimed, TowerBody, TowerEffect, answers, plain}

-- a command for the buffers, for the sessions, and the claim of a line, as bodies
abbrev pub of_buffers : Command → TowerBody
of_buffers c = body.Inner (claims.Inner (fence.Inner c))

-- a command for the sessions as a body
abbrev pub of_sessions : Sessioned → TowerBody
of_sessions c = body.Inner (claims.Inner c)

-- a command for the claims as a body
abbrev pub of_claims : Claimed → TowerBody
of_claims c = body.Inner c

-- Who may bring a body: a request, its client; a mark, the run of its node; that a node is gone, another node; anything
-- else, only the leader

-- who may bring a command for the buffers: a node, if it says that another is gone; else only the leader
abbrev pub command_source : Command → Source
command_source (command.NodeGone node floor) = source.Node
command_source _ = source.Leader

-- who may bring a command for the sessions: for one that goes to the buffers, whoever may bring that; else only the
-- leader
abbrev pub session_source : Sessioned → Source
session_source (fence.Inner c) = command_source c
session_source _ = source.Leader

-- who may bring a command for the claims: for one that goes to the sessions, whoever may bring that; for a claim, only
-- the leader
abbrev pub claim_source : Claimed → Source
claim_source (claims.Inner c) = session_source c
claim_source (claims.Claim id n) = source.Leader

-- who may bring a body: the request's client, the mark's run, for a blank the leader, else whoever may bring the
-- command
abbrev pub source_of : TowerBody → Source
source_of (body.Inner c) = claim_source c
source_of (body.Asked o n at a) = source.Client o
source_of body.Blank = source.Leader
source_of (body.Mark m) = source.Run m.node m.boot

-- Where an effect goes

-- to its client; a line that has no number goes nowhere
abbrev pub buffer_class : Effect → Class Parts
buffer_class (effect.Close o) = To o
buffer_class (effect.Show o shown) = To o
buffer_class (effect.Send o line) = Nowhere
buffer_class (effect.Rejoin line) = Nowhere

-- where an effect of the sessions goes: a line that joins a channel again, upstream; else as for the buffers
abbrev pub session_class : FenceEffect Effect → Class Parts
session_class (fence_effect.Inner e) = buffer_class e
session_class (fence_effect.Rejoin id line) = Rejoin id line

-- where an effect of the claims goes: a claimed line upstream, Busy to its client; else as for the sessions
abbrev pub claim_class : ClaimsEffect (FenceEffect Effect) → Class Parts
claim_class (claims_effect.Inner e) = session_class e
claim_class (claims_effect.Busy o) = To o
claim_class (claims_effect.Hand id n line) = Hand id n line

-- this is the number of a node
abbrev pub is_node : ℕ → Bool
is_node n = nat_le 1 n && nat_le n 7

-- the answer to a mark goes to the run of its node, as the client 0; nowhere if there is no such node
abbrev pub mark_class : mark.Mark → Class Parts
mark_class m = if is_node m.node then To (m.node, m.boot, 0) else Nowhere

-- where an effect of the tower goes: an answer to its client, the answer to a mark to its run; else as for the claims
abbrev pub class_of : TowerEffect → Class Parts
class_of (answer.Effect e) = claim_class e
class_of (answer.Done o n) = To o
class_of (answer.Repeat o n) = To o
class_of (answer.Gap o n) = To o
class_of (answer.Marked m) = mark_class m

-- what an effect hands out, by where it goes
abbrev pub hand_of : TowerEffect → List Handed
hand_of e = handed_by (class_of e)

-- the lines that effects hand out, in order: number, session, line
abbrev pub hands : List TowerEffect → List Handed
hands [] = []
hands (e ∷ es) = hand_of e ++ hands es

-- the lines that the bodies of a history handed out, in order
abbrev pub handed_over : Settings → History TowerBody → List Handed
handed_over s h = hands (all_effects (answers s) h)

-- what is played back for a target after a history
unfoldable pub playback : Settings → History TowerBody → List ℕ → List (List ℕ)
playback s h target = map spelling (buffers.playback s (commands (plain h)) (fold_name target))

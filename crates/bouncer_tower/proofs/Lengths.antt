-- How long the spellings of bodies are.
use Rattle.std.proofs.Common.{◌≡◌, ℕ, ◌+◌, ◌≤◌, leb, List, ◌++◌, length, IsTrue, true, arith}
use Rattle.std.specs.Prelude.{◌&&◌, Some, None}
use Rattle.std.specs.Int.{w16, to_be_bytes}
use Rattle.std.proofs.lemmas.Bool.{leb-true}
use Rattle.std.proofs.lemmas.List.{length-append}
use Rattle.irc_line.specs.Names.{is_name, is_channel, is_text}
use Rattle.irc_line.specs.Lines.{Parts, spelling}
use Rattle.irc_line.proofs.Building.{channel_name}
use Rattle.wire_bytes.specs.FieldCodecs.{both_true, wide16, wide64}
use Rattle.wire_bytes.specs.Contents.{sized, spelled_line, FitsLine}
use Rattle.wire_bytes.specs.Values.{spelled_number, spelled_origin, spelled_session, spelled_mark}
use Rattle.wire_bytes.specs.declared.mark.Mark as mark
use Rattle.wire_bytes.specs.declared.origin.Origin.{Origin}
use Rattle.wire_bytes.specs.declared.session_id.SessionId.{SessionId}
use Rattle.buffer_commands.specs.Spellings.{spelled_action, spelled_command, spelled_size, FitsAction, FitsCommand, spelled_verb}
use Rattle.buffer_commands.specs.declared.command.Action.{Action}
use Rattle.buffer_commands.specs.declared.command.Action.TheVariants as action
use Rattle.buffer_commands.specs.declared.command.Command.{Command}
use Rattle.buffer_commands.specs.declared.command.Command.TheVariants as command
use Rattle.session_fence.specs.declared.command.FenceCommand.TheVariants as fence
use Rattle.upstream_claim.specs.declared.command.ClaimsCommand.TheVariants as claims
use Rattle.request_once.specs.declared.body.Body.TheVariants as body
use Rattle.bouncer_tower.specs.Bodies.{Sessioned, Claimed, TowerBody}
use Rattle.bouncer_tower.specs.Spellings.{spelled_sessioned, spelled_claimed, spelled_body, FitsSessioned, FitsClaimed, FitsBody}

number_length : (n : ℕ) → length (spelled_number n) ≡ 8
unfolding spelled_number
number_length n = wide64.len n

origin_length : (o : Origin) → length (spelled_origin o) ≡ 17
unfolding spelled_origin
origin_length o = omega (arith, length-append (spelled_number o.1) (spelled_number o.2), number_length o.1, number_length o.2)

session_length : (id : SessionId) → length (spelled_session id) ≡ 16
unfolding spelled_session
session_length id = omega (arith, length-append (spelled_number id.0) (spelled_number id.1), number_length id.0, number_length id.1)

mark_length : (m : mark.Mark) → length (spelled_mark m) ≡ 17
unfolding spelled_mark
mark_length m = omega (arith, length-append (spelled_number m.boot) (spelled_number m.number), number_length m.boot, number_length m.number)

sized_length : (bytes : List ℕ) → length (sized bytes) ≡ 2 + length bytes
unfolding sized
sized_length bytes = omega (arith, length-append (to_be_bytes w16 (length bytes)) bytes, wide16.len (length bytes))

size_length : (n : ℕ) → length (spelled_size n) ≡ 2
unfolding spelled_size
size_length n = wide16.len n

name_short : (name : List ℕ) → IsTrue (is_name name) → length (sized name) ≤ 66
unfolding is_name
name_short name h =
    let sizes : (leb 1 (length name) && leb (length name) 64) ≡ true = (both_true _ _ (both_true _ _ h).0).0 in
    omega (arith, sized_length name, leb-true (length name) 64 (both_true (leb 1 (length name)) (leb (length name) 64) sizes).1)

channel_short : (name : List ℕ) → IsTrue (is_channel name) → length (sized name) ≤ 66
channel_short name h = name_short name (channel_name name h)

text_short : (text : List ℕ) → IsTrue (is_text text) → length (sized text) ≤ 512
unfolding is_text
text_short text h = omega (arith, sized_length text, leb-true (length text) 510 (both_true (leb (length text) 510) _ h).0)

line_short : (line : Parts) → FitsLine line → length (spelled_line line) ≤ 513
unfolding spelled_line
line_short line h = omega (arith, sized_length (spelling line), h.1)

action_short : (a : Action) → FitsAction a → length (spelled_action a) ≤ 580
unfolding spelled_action
action_short (action.Attach None) h = omega arith
action_short (action.Attach (Some id)) h = omega (arith, name_short id h)
action_short action.Leave h = omega arith
action_short (action.Say v n t) h =
    omega (arith, length-append (spelled_verb v ++ sized n) (sized t), length-append (spelled_verb v) (sized n), name_short n h.0.1, text_short t h.1)
action_short (action.Join c) h = omega (arith, channel_short c h)
action_short (action.Part c) h = omega (arith, channel_short c h)
action_short (action.Detach c) h = omega (arith, channel_short c h)
action_short (action.Reattach c) h = omega (arith, channel_short c h)
action_short (action.Play n) h = omega (arith, name_short n h)
action_short (action.Clear n) h = omega (arith, name_short n h)
action_short action.ClearChannels h = omega arith
action_short action.ClearQueries h = omega arith
action_short action.ClearAll h = omega arith
action_short (action.SetBuffer n k) h = omega (arith, length-append (sized n) (spelled_size k), name_short n h.0, size_length k)
action_short (action.Pass p) h = omega (arith, line_short p h)

command_short : (c : Command) → FitsCommand c → length (spelled_command c) ≤ 606
unfolding spelled_command
command_short (command.Client o at a) h =
    omega (arith, length-append (spelled_origin o ++ spelled_number at) (spelled_action a), length-append (spelled_origin o) (spelled_number at), origin_length o, number_length at, action_short a h.1)
command_short (command.Upstream at p) h = omega (arith, length-append (spelled_number at) (spelled_line p), number_length at, line_short p h.1)
command_short (command.NodeGone n floor) h = omega (arith, number_length floor)
command_short command.Up h = omega arith
command_short command.Down h = omega arith

sessioned_short : (c : Sessioned) → FitsSessioned c → length (spelled_sessioned c) ≤ 607
sessioned_short (fence.Inner c) h = omega (arith, command_short c h)
sessioned_short (fence.Opened id) h = omega (arith, session_length id)
sessioned_short (fence.Shut id) h = omega (arith, session_length id)
sessioned_short (fence.Heard id n at p) h =
    omega (
      arith,
      length-append ((spelled_session id ++ spelled_number n) ++ spelled_number at) (spelled_line p),
      length-append (spelled_session id ++ spelled_number n) (spelled_number at),
      length-append (spelled_session id) (spelled_number n),
      session_length id,
      number_length n,
      number_length at,
      line_short p h.1,
    )

claimed_short : (c : Claimed) → FitsClaimed c → length (spelled_claimed c) ≤ 608
claimed_short (claims.Inner c) h = omega (arith, sessioned_short c h)
claimed_short (claims.Claim id n) h = omega (arith, length-append (spelled_session id) (spelled_number n), session_length id, number_length n)

body_short : (x : TowerBody) → FitsBody x → length (spelled_body x) ≤ 614
body_short (body.Inner c) h = omega (arith, claimed_short c h)
body_short (body.Asked o n at a) h =
    omega (
      arith,
      length-append ((spelled_origin o ++ spelled_number n) ++ spelled_number at) (spelled_action a),
      length-append (spelled_origin o ++ spelled_number n) (spelled_number at),
      length-append (spelled_origin o) (spelled_number n),
      origin_length o,
      number_length n,
      number_length at,
      action_short a h.1,
    )
body_short body.Blank h = omega arith
body_short (body.Mark m) h = omega (arith, mark_length m)

-- a body that fits is spelled in no more bytes than a log accepts
pub body_fits_a_log : (x : TowerBody) → FitsBody x → length (spelled_body x) ≤ 65536
body_fits_a_log x h = omega (arith, body_short x h)

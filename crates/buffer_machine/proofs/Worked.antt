-- Worked cases, computed on the definitions.
use Rattle.std.specs.Prelude.{◌≡◌, ℕ, ◌+◌, false, List, [], ◌∷◌, ◌++◌, map, codes, None, Some, refl}
use Rattle.irc_line.specs.Names.{same_name, is_name, is_channel}
use Rattle.irc_line.specs.Keys.{at_key}
use Rattle.irc_line.specs.Lines.{spelling, line_of}
use Rattle.buffer_lines.specs.Keeping.{stored_by, stays, kept_since, kept as kept_lines}
use Rattle.buffer_lines.specs.Stamps.{stamped, timed}
use Rattle.machine_laws.specs.Runs.{came, all_effects}
use Rattle.wire_bytes.specs.declared.origin.Origin.{Origin}
use Rattle.buffer_commands.specs.Settings.{Settings, plain}
use Rattle.buffer_commands.specs.declared.command.Verb.TheVariants.{Privmsg}
use Rattle.buffer_commands.specs.declared.command.Action.TheVariants.{Attach, Leave, Say, Join, Part, Detach, Reattach, Play, Clear, ClearQueries, ClearAll, SetBuffer, Pass}
use Rattle.buffer_commands.specs.declared.command.Command.{Command}
use Rattle.buffer_commands.specs.declared.command.Command.TheVariants.{Client, Upstream, NodeGone, Up, Down}
use Rattle.buffer_commands.specs.declared.effect.Effect.{Effect}
use Rattle.buffer_commands.specs.declared.effect.Effect.TheVariants.{Close, Show, Send, Rejoin}
use Rattle.buffer_machine.specs.Messages.{bare}
use Rattle.buffer_machine.specs.Buffers.{nick, channels, queries, stored_query, is_removed, is_pushed_out, removes_target, targets, is_known, made_as, joined, detached, size, stored, emptied, kept, playback}
use Rattle.buffer_machine.specs.Crowd.{attached, crowd, floor, holds, id_of, ids}
use Rattle.buffer_machine.specs.Marks.{mark, placed, playback_for, sees, unseen}
use Rattle.buffer_machine.specs.Effects.{named, is_channel_known, open_channels, closings, shown, sent, effects}

abbrev t : ℕ
t = 1700000000

abbrev x : List ℕ
x = codes "#x"

abbrev says : ℕ → List ℕ → Command
says at text = Upstream at (line_of (codes "a!b@c") (codes "PRIVMSG") (x ∷ text ∷ []))

-- two clients of a node, and one of two runs of another node
abbrev first : Origin
first = (1, 1, 1)

abbrev second : Origin
second = (1, 1, 2)

abbrev gone : Origin
gone = (2, 1, 1)

abbrev again : Origin
again = (2, 2, 1)

abbrev all : Settings → List Command → List Effect
all s commands = all_effects (λ h place x. effects s (map (λ y. y.1) h) x) (came 1 commands [])

abbrev begins : List ℕ
begins = codes ":***!bouncer@local PRIVMSG #x :Buffer Playback..."

abbrev ends : List ℕ
ends = codes ":***!bouncer@local PRIVMSG #x :Playback Complete."

-- what came while nobody was attached is played only to the client that attaches first
played_once : all plain (says t (codes "hi") ∷ Client first (t + 60) (Attach None) ∷ Client second (t + 61) (Attach None) ∷ [])
    ≡ Show first begins ∷ Show first (codes ":a!b@c PRIVMSG #x :[22:13:20] hi") ∷ Show first ends ∷ []
unfolding effects sent shown closings open_channels named is_channel_known playback kept emptied stored size removes_target is_pushed_out is_removed detached joined made_as is_known targets channels queries stored_query nick attached ids crowd floor id_of holds mark sees placed unseen playback_for at_key spelling stamped timed same_name is_name is_channel kept_lines kept_since stays stored_by
played_once = refl

-- a client that gives a name is played what that name has not seen, whatever others were played
two_devices : all plain (Client first t (Attach (Some (codes "a"))) ∷ Client first t Leave ∷ says t (codes "hi") ∷ Client second t (Attach (Some (codes "b"))) ∷ says (t + 1) (codes "yo") ∷ Client first t (Attach (Some (codes "a"))) ∷ [])
    ≡ Show second begins ∷ Show second (codes ":a!b@c PRIVMSG #x :[22:13:20] hi") ∷ Show second ends ∷ Show second (codes ":a!b@c PRIVMSG #x :yo") ∷ Show first begins ∷ Show first (codes ":a!b@c PRIVMSG #x :[22:13:20] hi") ∷ Show first (codes ":a!b@c PRIVMSG #x :[22:13:21] yo") ∷ Show first ends ∷ []
unfolding effects sent shown closings open_channels named is_channel_known playback kept emptied stored size removes_target is_pushed_out is_removed detached joined made_as is_known targets channels queries stored_query nick attached ids crowd floor id_of holds mark sees placed unseen playback_for at_key spelling stamped timed same_name is_name is_channel kept_lines kept_since stays stored_by
two_devices = refl

-- if only one client may be attached, the earlier one is closed, and again when it asks for something later
one_client_alone : all (record plain { many_clients = false }) (Client first t (Attach None) ∷ Client second t (Attach None) ∷ says t (codes "hi") ∷ Client first t (Play x) ∷ [])
    ≡ Close first ∷ Show second (codes ":a!b@c PRIVMSG #x :hi") ∷ Close first ∷ []
unfolding effects sent shown closings open_channels named is_channel_known playback kept emptied stored size removes_target is_pushed_out is_removed detached joined made_as is_known targets channels queries stored_query nick attached ids crowd floor id_of holds mark sees placed unseen playback_for at_key spelling stamped timed same_name is_name is_channel kept_lines kept_since stays stored_by
one_client_alone = refl

-- a run that is gone is no longer attached and cannot attach again; the next run can
a_run_is_gone : all plain (Client gone t (Attach None) ∷ NodeGone 2 2 ∷ says t (codes "hi") ∷ Client gone t (Attach None) ∷ Client again t (Attach None) ∷ [])
    ≡ Close gone ∷ Show again begins ∷ Show again (codes ":a!b@c PRIVMSG #x :[22:13:20] hi") ∷ Show again ends ∷ []
unfolding effects sent shown closings open_channels named is_channel_known playback kept emptied stored size removes_target is_pushed_out is_removed detached joined made_as is_known targets channels queries stored_query nick attached ids crowd floor id_of holds mark sees placed unseen playback_for at_key spelling stamped timed same_name is_name is_channel kept_lines kept_since stays stored_by
a_run_is_gone = refl

-- what a client says is shown to the others and sent, and nothing is kept while someone is attached
said_to_the_others : all plain (Client first t (Attach None) ∷ Client second t (Attach None) ∷ Client first t (Say Privmsg (codes "#X") (codes "hi")) ∷ Client second t Leave ∷ Client first t (Play x) ∷ [])
    ≡ Show second (codes ":me!bouncer@local PRIVMSG #X :hi") ∷ Send first (bare (codes "PRIVMSG") (codes "#X" ∷ codes "hi" ∷ [])) ∷ []
unfolding effects sent shown closings open_channels named is_channel_known playback kept emptied stored size removes_target is_pushed_out is_removed detached joined made_as is_known targets channels queries stored_query nick attached ids crowd floor id_of holds mark sees placed unseen playback_for at_key spelling stamped timed same_name is_name is_channel kept_lines kept_since stays stored_by
said_to_the_others = refl

-- an unknown target
no_such_target : all plain (Client first t (Attach None) ∷ Client first t (Play (codes "#y")) ∷ []) ≡ Show first (codes ":*status!bouncer@local PRIVMSG me :No such target.") ∷ []
unfolding effects sent shown closings open_channels named is_channel_known playback kept emptied stored size removes_target is_pushed_out is_removed detached joined made_as is_known targets channels queries stored_query nick attached ids crowd floor id_of holds mark sees placed unseen playback_for at_key spelling stamped timed same_name is_name is_channel kept_lines kept_since stays stored_by
no_such_target = refl

-- the bouncer's own answer to the first client
abbrev status_first : List ℕ → Effect
status_first text = Show first (codes ":*status!bouncer@local PRIVMSG me :" ++ text)

-- what is kept is removed by name, in whatever case it is written, and so is all of it; an unknown name is not
cleared : all (record plain { clears_channels = false }) (Client first t (Attach None) ∷ says t (codes "hi") ∷ Client first t (Clear (codes "#y")) ∷ Client first t ClearQueries ∷ Client first t (Play x) ∷ Client first t (Clear (codes "#X")) ∷ Client first t (Play x) ∷ [])
    ≡ Show first (codes ":a!b@c PRIVMSG #x :hi") ∷ status_first (codes "No such target.") ∷ status_first (codes "Done.")
    ∷ Show first begins ∷ Show first (codes ":a!b@c PRIVMSG #x :[22:13:20] hi") ∷ Show first ends ∷ status_first (codes "Done.") ∷ []
unfolding effects sent shown closings open_channels named is_channel_known playback kept emptied stored size removes_target is_pushed_out is_removed detached joined made_as is_known targets channels queries stored_query nick attached ids crowd floor id_of holds mark sees placed unseen playback_for at_key spelling stamped timed same_name is_name is_channel kept_lines kept_since stays stored_by
cleared = refl

-- a line is sent as it is, for a client that is attached
passed_on : all plain (Client second t (Pass (bare (codes "WHOIS") (x ∷ []))) ∷ Client first t (Attach None) ∷ Client first t (Pass (bare (codes "WHOIS") (x ∷ []))) ∷ Client first t ClearAll ∷ [])
    ≡ Close second ∷ Send first (bare (codes "WHOIS") (x ∷ [])) ∷ status_first (codes "Done.") ∷ []
unfolding effects sent shown closings open_channels named is_channel_known playback kept emptied stored size removes_target is_pushed_out is_removed detached joined made_as is_known targets channels queries stored_query nick attached ids crowd floor id_of holds mark sees placed unseen playback_for at_key spelling stamped timed same_name is_name is_channel kept_lines kept_since stays stored_by
passed_on = refl

-- a line that was dropped because of the size does not come back with a larger one
sized_and_sized_again : all (record plain { clears_channels = false })
    (Client first t (Attach None) ∷ says t (codes "one") ∷ says t (codes "two") ∷ Client first t (SetBuffer (codes "#X") 1) ∷ Client first t (SetBuffer x 50) ∷ Client first t (Play x) ∷ [])
    ≡ Show first (codes ":a!b@c PRIVMSG #x :one") ∷ Show first (codes ":a!b@c PRIVMSG #x :two") ∷ status_first (codes "Done.") ∷ status_first (codes "Done.")
    ∷ Show first begins ∷ Show first (codes ":a!b@c PRIVMSG #x :[22:13:20] two") ∷ Show first ends ∷ []
unfolding effects sent shown closings open_channels named is_channel_known playback kept emptied stored size removes_target is_pushed_out is_removed detached joined made_as is_known targets channels queries stored_query nick attached ids crowd floor id_of holds mark sees placed unseen playback_for at_key spelling stamped timed same_name is_name is_channel kept_lines kept_since stays stored_by
sized_and_sized_again = refl

-- a size that is refused: it is past the limit, or the target is unknown
no_such_size : all plain (Client first t (Attach None) ∷ Client first t (SetBuffer (codes "#y") 501) ∷ Client first t (SetBuffer (codes "#y") 500) ∷ [])
    ≡ status_first (codes "Size is past 500.") ∷ status_first (codes "No such target.") ∷ []
unfolding effects sent shown closings open_channels named is_channel_known playback kept emptied stored size removes_target is_pushed_out is_removed detached joined made_as is_known targets channels queries stored_query nick attached ids crowd floor id_of holds mark sees placed unseen playback_for at_key spelling stamped timed same_name is_name is_channel kept_lines kept_since stays stored_by
no_such_size = refl

-- when there is an upstream each channel is joined again, in the order of their folded names
joined_again : all (record plain { channels = codes "#A" ∷ codes "#b" ∷ [] }) (Up ∷ Down ∷ []) ≡ Rejoin (bare (codes "JOIN") (codes "#A" ∷ [])) ∷ Rejoin (bare (codes "JOIN") (codes "#b" ∷ [])) ∷ []
unfolding effects sent shown closings open_channels named is_channel_known playback kept emptied stored size removes_target is_pushed_out is_removed detached joined made_as is_known targets channels queries stored_query nick attached ids crowd floor id_of holds mark sees placed unseen playback_for at_key spelling stamped timed same_name is_name is_channel kept_lines kept_since stays stored_by
joined_again = refl

-- lines kept past a new size are dropped, and a larger size later brings none of them back; a channel that is attached
-- again is shown with what was kept
attached_again : all plain
    (Client first t (Attach None) ∷ Client first t (Detach x) ∷ says t (codes "one") ∷ says (t + 1) (codes "two") ∷ says (t + 2) (codes "three") ∷ Client first t (SetBuffer x 2) ∷ Client first t (SetBuffer x 50) ∷ Client first t (Reattach x) ∷ [])
    ≡ Show first (codes ":me!bouncer@local PART #x") ∷ status_first (codes "Done.") ∷ status_first (codes "Done.")
    ∷ Show first (codes ":me!bouncer@local JOIN #x") ∷ Show first begins ∷ Show first (codes ":a!b@c PRIVMSG #x :[22:13:21] two") ∷ Show first (codes ":a!b@c PRIVMSG #x :[22:13:22] three") ∷ Show first ends
    ∷ Send first (bare (codes "JOIN") (x ∷ [])) ∷ []
unfolding effects sent shown closings open_channels named is_channel_known playback kept emptied stored size removes_target is_pushed_out is_removed detached joined made_as is_known targets channels queries stored_query nick attached ids crowd floor id_of holds mark sees placed unseen playback_for at_key spelling stamped timed same_name is_name is_channel kept_lines kept_since stays stored_by
attached_again = refl

-- a target of size 0 keeps nothing
nothing_kept : all plain (Client first t (Attach None) ∷ Client first t (SetBuffer x 0) ∷ Client first t (Detach x) ∷ says t (codes "hi") ∷ Client first t (Play x) ∷ [])
    ≡ status_first (codes "Done.") ∷ Show first (codes ":me!bouncer@local PART #x") ∷ []
unfolding effects sent shown closings open_channels named is_channel_known playback kept emptied stored size removes_target is_pushed_out is_removed detached joined made_as is_known targets channels queries stored_query nick attached ids crowd floor id_of holds mark sees placed unseen playback_for at_key spelling stamped timed same_name is_name is_channel kept_lines kept_since stays stored_by
nothing_kept = refl

-- a Join attaches a detached channel again, in whatever case its name is written; it is shown under the name it was
-- made with
joined_in_another_case : all plain (Upstream t (line_of (codes "me!u@h") (codes "JOIN") (x ∷ [])) ∷ Client first t (Attach None) ∷ Client first t (Detach (codes "#X")) ∷ says t (codes "hi") ∷ Client first t (Join (codes "#X")) ∷ [])
    ≡ Show first (codes ":me!bouncer@local JOIN #x") ∷ Send first (bare (codes "NAMES") (x ∷ [])) ∷ Show first (codes ":me!bouncer@local PART #x")
    ∷ Show first (codes ":me!bouncer@local JOIN #x") ∷ Show first begins ∷ Show first (codes ":a!b@c PRIVMSG #x :[22:13:20] hi") ∷ Show first ends
    ∷ Send first (bare (codes "NAMES") (x ∷ [])) ∷ []
unfolding effects sent shown closings open_channels named is_channel_known playback kept emptied stored size removes_target is_pushed_out is_removed detached joined made_as is_known targets channels queries stored_query nick attached ids crowd floor id_of holds mark sees placed unseen playback_for at_key spelling stamped timed same_name is_name is_channel kept_lines kept_since stays stored_by
joined_in_another_case = refl

-- where only one query is allowed, the later one stays
one_query : all (record plain { most_queries = 1 })
    (Upstream t (line_of (codes "bob!b@c") (codes "PRIVMSG") (codes "me" ∷ codes "yo" ∷ [])) ∷ Upstream t (line_of (codes "carol!d@e") (codes "PRIVMSG") (codes "me" ∷ codes "yo" ∷ [])) ∷ Client first t (Attach None) ∷ [])
    ≡ Show first (codes ":***!bouncer@local PRIVMSG carol :Buffer Playback...") ∷ Show first (codes ":carol!d@e PRIVMSG me :[22:13:20] yo") ∷ Show first (codes ":***!bouncer@local PRIVMSG carol :Playback Complete.") ∷ []
unfolding effects sent shown closings open_channels named is_channel_known playback kept emptied stored size removes_target is_pushed_out is_removed detached joined made_as is_known targets channels queries stored_query nick attached ids crowd floor id_of holds mark sees placed unseen playback_for at_key spelling stamped timed same_name is_name is_channel kept_lines kept_since stays stored_by
one_query = refl

-- the own nick changes with the server's welcome, which is shown to nobody, and with a NICK line of its own
another_nick : all plain (Client first t (Attach None) ∷ Upstream t (line_of (codes "s") (codes "001") (codes "you" ∷ codes "hello" ∷ [])) ∷ Upstream t (line_of (codes "you!u@h") (codes "NICK") (codes "they" ∷ [])) ∷ Client first t ClearAll ∷ [])
    ≡ Show first (codes ":you!u@h NICK they") ∷ Show first (codes ":*status!bouncer@local PRIVMSG they :Done.") ∷ []
unfolding effects sent shown closings open_channels named is_channel_known playback kept emptied stored size removes_target is_pushed_out is_removed detached joined made_as is_known targets channels queries stored_query nick attached ids crowd floor id_of holds mark sees placed unseen playback_for at_key spelling stamped timed same_name is_name is_channel kept_lines kept_since stays stored_by
another_nick = refl

-- a channel is made by a JOIN of the own nick and goes with its PART; an unknown one is requested as it was written
made_and_gone : all plain
    (Client first t (Attach None) ∷ Client first t (Join (codes "#Y")) ∷ Upstream t (line_of (codes "me!u@h") (codes "JOIN") (codes "#Y" ∷ [])) ∷ Client first t (Join (codes "#y")) ∷ Client first t (Play (codes "#y"))
    ∷ Client first t (Part (codes "#y")) ∷ Upstream t (line_of (codes "me!u@h") (codes "PART") (codes "#y" ∷ [])) ∷ Client first t (Play (codes "#Y")) ∷ Client first t (Part x) ∷ Up ∷ [])
    ≡ Send first (bare (codes "JOIN") (codes "#Y" ∷ [])) ∷ Show first (codes ":me!u@h JOIN #Y") ∷ Send first (bare (codes "PART") (codes "#Y" ∷ [])) ∷ Show first (codes ":me!u@h PART #y")
    ∷ status_first (codes "No such target.") ∷ []
unfolding effects sent shown closings open_channels named is_channel_known playback kept emptied stored size removes_target is_pushed_out is_removed detached joined made_as is_known targets channels queries stored_query nick attached ids crowd floor id_of holds mark sees placed unseen playback_for at_key spelling stamped timed same_name is_name is_channel kept_lines kept_since stays stored_by
made_and_gone = refl

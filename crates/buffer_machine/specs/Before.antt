-- The buffers as they were before clients could give names: what each changed definition says if no client ever did.
use Rattle.std.specs.Prelude.{ℕ, Bool, false, not, ◌&&◌, ◌||◌, if◌then◌else◌, ◌==◌, nat_lt, List, [], ◌∷◌, ◌++◌, map, filter, flat_map, Option, None, codes}
use Rattle.std.specs.List.{list_all}
use Rattle.irc_line.specs.Names.{fold_name, is_channel}
use Rattle.irc_line.specs.Lines.{Parts}
use Rattle.wire_bytes.specs.declared.origin.Origin.{Origin}
use Rattle.buffer_commands.specs.Settings.{Settings}
use Rattle.buffer_commands.specs.declared.command.Action.{Action}
use Rattle.buffer_commands.specs.declared.command.Action.TheVariants.{Attach, Leave, Join, Reattach}
use Rattle.buffer_commands.specs.declared.command.Command.{Command}
use Rattle.buffer_commands.specs.declared.command.Command.TheVariants.{Client, Upstream, NodeGone}
use Rattle.buffer_commands.specs.declared.effect.Effect.{Effect}
use Rattle.buffer_commands.specs.declared.effect.Effect.TheVariants.{Close}
use Rattle.machine_laws.specs.Origins.{same_origin}
use Rattle.buffer_machine.specs.Messages.{is_among, is_none_of, own_line}
use Rattle.buffer_machine.specs.Crowd.{attached, can_attach, floor, is_naming}
use Rattle.buffer_machine.specs.Buffers.{channels, clears, detached, is_cleared, is_known, joined, nick, playback, plays, queries, query_aim, removes_target, said, stored_where}
use Rattle.buffer_machine.specs.Effects.{if_some, is_channel_known, is_shown, named, open_channels, sent, show_all, show_each, shown_by, status}

-- no command gives a name
abbrev pub is_unnamed : List Command → Bool
is_unnamed history = list_all (λ x. not (is_naming x)) history

-- whether a command was an Attach that was taken
abbrev pub was_taken : Settings → List Command → Command → Bool
was_taken s earlier (Client o at (Attach id)) = can_attach (floor earlier o.0) (attached s earlier) o
was_taken s earlier _ = false

-- who was attached after one more command
abbrev pub attached_before : Bool → (ℕ → ℕ) → List Origin → Command → List Origin
attached_before many floors was (Client o at (Attach id)) =
    if can_attach (floors o.0) was o then ((if many then was else []) ++ o ∷ []) else was
attached_before many floors was (Client o at Leave) = filter (λ x. not (same_origin o x)) was
attached_before many floors was (NodeGone n floor) = filter (λ x. not (x.0 == n && nat_lt x.1 floor)) was
attached_before many floors was _ = was

-- the one line that a command added to a target
abbrev pub stored_before : Settings → List ℕ → List Command → Command → Option (ℕ × Parts)
stored_before s t earlier x =
    let os = attached s earlier in
    let own = nick s earlier in
    stored_where (not (clears s t) || is_none_of os || (is_channel t && detached s earlier t)) (channels s earlier) own t (said os own x)

-- the query that a command stored a line in
abbrev pub stored_query_before : Settings → List Command → Command → Option (List ℕ)
stored_query_before s earlier x =
    let os = attached s earlier in
    let own = nick s earlier in
    if not s.clears_queries || is_none_of os then query_aim (channels s earlier) own (said os own x) else None

-- whether a command emptied a target
abbrev pub emptied_before : Settings → List ℕ → List Command → Command → Bool
emptied_before s t earlier x =
    let os = attached s earlier in
    is_cleared os (is_channel t) t (is_known s earlier t) x
    || (clears s t && plays (was_taken s earlier x) os (is_channel t && detached s earlier t) t (is_known s earlier t) x)
    || removes_target s earlier t x

-- who was closed
abbrev pub closed_before : Bool → Bool → ℕ → List Origin → Command → List Effect
closed_before many taken floor os (Client o at (Attach id)) =
    if taken then (if many then [] else map Close os) else (if nat_lt o.1 floor && not (is_among o os) then Close o ∷ [] else [])
closed_before many taken floor os (Client o at _) = if is_among o os then [] else Close o ∷ []
closed_before many taken floor os _ = []

-- who was closed by a command
abbrev pub closings_before : Settings → List Command → Command → List Effect
closings_before s earlier (Client o at a) =
    closed_before s.many_clients (was_taken s earlier (Client o at a)) (floor earlier o.0) (attached s earlier) (Client o at a)
closings_before s earlier _ = []

-- a channel that was attached again, shown to all: that it is joined, and what was kept
abbrev pub again_before : Settings → List Command → List Origin → List ℕ → List ℕ → List Effect
again_before s earlier os own c = show_each os (own_line own (codes "JOIN") (named s earlier c) ∷ playback s earlier (fold_name c))

-- what was shown by an action of an attached client: a channel that was attached again was played to all in one way
abbrev pub by_before : Settings → List Command → List Origin → List ℕ → Origin → Action → List Effect
by_before s earlier os own o (Join c) = if detached s earlier (fold_name c) then again_before s earlier os own c else []
by_before s earlier os own o (Reattach c) =
    if not (is_channel_known s earlier c)
    then status own o (codes "No such target.")
    else
    if detached s earlier (fold_name c) then again_before s earlier os own c else []
by_before s earlier os own o a = shown_by s earlier os own o a

-- what a client was shown when its Attach was taken
abbrev pub attaching_before : Settings → List Command → List ℕ → Origin → List Effect
attaching_before s earlier own o =
    flat_map (λ c. show_all o (if_some (joined s earlier (fold_name c)) (own_line own (codes "JOIN") c ∷ []) ++ playback s earlier (fold_name c))) (open_channels s earlier)
    ++ flat_map (λ q. show_all o (playback s earlier (fold_name q))) (queries s earlier)

-- who was shown what by a command
abbrev pub shown_before : Settings → List Command → Command → List Effect
shown_before s earlier (Client o at (Attach id)) =
    if was_taken s earlier (Client o at (Attach id)) then attaching_before s earlier (nick s earlier) o else []
shown_before s earlier (Client o at a) =
    if is_among o (attached s earlier) then by_before s earlier (attached s earlier) (nick s earlier) o a else []
shown_before s earlier (Upstream at line) = if is_shown s earlier line then show_each (attached s earlier) (line ∷ []) else []
shown_before s earlier _ = []

-- all of it, in this order; what was sent has not changed
abbrev pub effects_before : Settings → List Command → Command → List Effect
effects_before s earlier x = closings_before s earlier x ++ shown_before s earlier x ++ sent s earlier x

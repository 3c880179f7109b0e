-- The machine holds the channels of a history after one step, whatever the command.
use Rattle.std.proofs.Common.{◌≡◌, ℕ, List, ◌∷◌, length, map, refl, false, ◌&&◌}
use Rattle.std.specs.Prelude.{codes}
use Rattle.irc_line.specs.Names.{fold_name}
use Rattle.irc_line.proofs.Booleans.{and_false}
use Rattle.buffer_targets.specs.Targets.{counted, with_joined}
use Rattle.buffer_commands.specs.Settings.{Settings}
use Rattle.buffer_commands.specs.declared.command.Action.TheVariants.{Attach, Leave, Say, Join, Part, Detach, Reattach, Play, Clear, ClearChannels, ClearQueries, ClearAll, SetBuffer, Pass}
use Rattle.buffer_commands.specs.declared.command.Command.{Command}
use Rattle.buffer_commands.specs.declared.command.Command.TheVariants.{Client, Upstream, NodeGone, Up, Down}
use Rattle.buffer_machine.specs.Messages.{is_own, is_own_kick}
use Rattle.buffer_machine.specs.Buffers.{nick, channels, detached, size, kept, said}
use Rattle.buffer_machine.specs.Crowd.{attached, floor}
use Rattle.buffer_machine.specs.Steps.{channels_after}
use Rattle.buffer_machine.specs.NameSteps.{here_of}
use Rattle.buffer_machine.specs.Held.{IsSound, channel_held, held, names_held, seen_held}
use Rattle.buffer_machine.proofs.SeenLists.{again_list}
use Rattle.buffer_machine.proofs.Unnamed.{ids-more}
use Rattle.buffer_machine.proofs.Unknown.{removed-is}
use Rattle.buffer_machine.proofs.Next.{seen-channel, unsaid}
use Rattle.buffer_machine.proofs.OneChannel.{same}
use Rattle.buffer_machine.proofs.ChannelsStep.{empties_channels, quiet_told, mapped, quiet_held, attach-held, play-held, clear-held, clear_channels-held, clear_all-held, clear_queries-held, size-held, detach-held, again-held, lines, fits}
use Rattle.buffer_machine.proofs.ChannelsStoring.{storing-held}
use Rattle.buffer_machine.proofs.ChannelsCome.{line_by, part-held, said_alone}

-- the floor of the node of a command's client
abbrev pub floor_now : List Command → Command → ℕ
floor_now earlier (Client o at action) = floor earlier o.0
floor_now earlier _ = 0

-- ---- any command

pub channels-step : (s : Settings) → IsSound s → (earlier : List Command) (x : Command)
    → channels_after s (floor_now earlier x) (held s earlier) x ≡ map (channel_held s (x ∷ earlier)) (channels s (x ∷ earlier))
channels-step s sound earlier (Client o at (Attach id)) = attach-held s sound earlier o at id
channels-step s sound earlier (Client o at Leave) = quiet_held s sound earlier (Client o at Leave) (λ k. removed-is s earlier k (Client o at Leave)) refl (λ c. refl)
    (λ c k i. quiet_told s sound earlier (Client o at Leave) c k i (removed-is s earlier (fold_name c) (Client o at Leave)) (unsaid s earlier (Client o at Leave) (fold_name c) refl) refl refl)
channels-step s sound earlier (Client o at (Say verb name text)) =
    storing-held s sound earlier (Client o at (Say verb name text)) (said (attached s earlier) (nick s earlier) (Client o at (Say verb name text))) (λ k. removed-is s earlier k (Client o at (Say verb name text))) refl refl (said_alone s earlier o at verb name text) (λ c. refl)
channels-step s sound earlier (Client o at (Join t)) = again-held s sound earlier o t (Client o at (Join t)) (λ k. removed-is s earlier k (Client o at (Join t))) refl refl (λ c. refl)
    (λ c k i. seen-channel s sound earlier (Client o at (Join t)) c (counted (length (kept s earlier (fold_name c))) 0 (here_of (names_held s earlier)) (seen_held s earlier (fold_name c))) k i (removed-is s earlier (fold_name c) (Client o at (Join t))) (unsaid s earlier (Client o at (Join t)) (fold_name c) refl) refl
    (λ e. again_list s earlier (Client o at (Join t)) (fold_name c) (ids-more s (Client o at (Join t)) earlier)))
channels-step s sound earlier (Client o at (Part t)) = part-held s sound earlier o at t
channels-step s sound earlier (Client o at (Detach t)) = detach-held s sound earlier o at t
channels-step s sound earlier (Client o at (Reattach t)) = again-held s sound earlier o t (Client o at (Reattach t)) (λ k. removed-is s earlier k (Client o at (Reattach t))) refl refl (λ c. refl)
    (λ c k i. seen-channel s sound earlier (Client o at (Reattach t)) c (counted (length (kept s earlier (fold_name c))) 0 (here_of (names_held s earlier)) (seen_held s earlier (fold_name c))) k i (removed-is s earlier (fold_name c) (Client o at (Reattach t))) (unsaid s earlier (Client o at (Reattach t)) (fold_name c) refl) refl
    (λ e. again_list s earlier (Client o at (Reattach t)) (fold_name c) (ids-more s (Client o at (Reattach t)) earlier)))
channels-step s sound earlier (Client o at (Play t)) = play-held s sound earlier o at t
channels-step s sound earlier (Client o at (Clear t)) = clear-held s sound earlier o at t
channels-step s sound earlier (Client o at ClearChannels) = clear_channels-held s sound earlier o at
channels-step s sound earlier (Client o at ClearQueries) = clear_queries-held s sound earlier o at
channels-step s sound earlier (Client o at ClearAll) = clear_all-held s sound earlier o at
channels-step s sound earlier (Client o at (SetBuffer t n)) = size-held s sound earlier o at t n
channels-step s sound earlier (Client o at (Pass line)) = quiet_held s sound earlier (Client o at (Pass line)) (λ k. removed-is s earlier k (Client o at (Pass line))) refl (λ c. refl)
    (λ c k i. quiet_told s sound earlier (Client o at (Pass line)) c k i (removed-is s earlier (fold_name c) (Client o at (Pass line))) (unsaid s earlier (Client o at (Pass line)) (fold_name c) refl) refl refl)
channels-step s sound earlier (Upstream at line) =
    line_by s sound earlier at line (is_own (codes "JOIN") (nick s earlier) line) (is_own (codes "PART") (nick s earlier) line) (is_own_kick (nick s earlier) line) refl refl refl
channels-step s sound earlier (NodeGone node boot) = quiet_held s sound earlier (NodeGone node boot) (λ k. removed-is s earlier k (NodeGone node boot)) refl (λ c. refl)
    (λ c k i. quiet_told s sound earlier (NodeGone node boot) c k i (removed-is s earlier (fold_name c) (NodeGone node boot)) (unsaid s earlier (NodeGone node boot) (fold_name c) refl) refl refl)
channels-step s sound earlier Up = quiet_held s sound earlier Up (λ k. removed-is s earlier k Up) refl (λ c. refl)
    (λ c k i. quiet_told s sound earlier Up c k i (removed-is s earlier (fold_name c) Up) (unsaid s earlier Up (fold_name c) refl) refl refl)
channels-step s sound earlier Down =
    mapped s sound earlier Down (with_joined false) (λ k. removed-is s earlier k Down) refl
    (λ c k i. same c (lines s earlier c) (size s (fold_name c) earlier) (fits s earlier c) (seen_held s earlier (fold_name c)) (seen_held s (Down ∷ earlier) (fold_name c)) false (detached s earlier (fold_name c)) (empties_channels s earlier Down && false) (and_false (empties_channels s earlier Down))
    (quiet_told s sound earlier Down c k i (removed-is s earlier (fold_name c) Down) (unsaid s earlier Down (fold_name c) refl) refl refl))

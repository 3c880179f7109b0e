-- What the machine answers is what its definitions say, whatever the command.
use Rattle.std.proofs.Common.{◌≡◌, ℕ, List, [], ◌∷◌, refl, ap, ◌∙◌, sym, Bool, true, false}
use Rattle.std.specs.Prelude.{if◌then◌else◌, codes}
use Rattle.irc_line.specs.Names.{fold_name}
use Rattle.irc_line.specs.Lines.{Parts}
use Rattle.wire_bytes.specs.declared.origin.Origin.{Origin}
use Rattle.buffer_commands.specs.Settings.{Settings}
use Rattle.buffer_commands.specs.declared.command.Verb.{Verb}
use Rattle.buffer_commands.specs.declared.command.Action.TheVariants.{Attach, Leave, Say, Join, Part, Detach, Reattach, Play, Clear, ClearChannels, ClearQueries, ClearAll, SetBuffer, Pass}
use Rattle.buffer_commands.specs.declared.command.Command.{Command}
use Rattle.buffer_commands.specs.declared.command.Command.TheVariants.{Client, Upstream, NodeGone, Up, Down}
use Rattle.buffer_commands.specs.declared.effect.Effect.TheVariants.{Close, Rejoin}
use Rattle.buffer_machine.specs.Messages.{is_among, channel_of, bare}
use Rattle.buffer_machine.specs.Buffers.{nick, channels, is_known, is_past}
use Rattle.buffer_machine.specs.Crowd.{attached, floor}
use Rattle.buffer_machine.specs.Effects.{status, closings, shown, sent, effects}
use Rattle.buffer_machine.specs.Answering.{closed_out, answers, answers_taking}
use Rattle.buffer_machine.specs.Held.{IsSound, channel_held, held}
use Rattle.buffer_machine.proofs.Lists.{map_through}
use Rattle.buffer_machine.proofs.Found.{found-detached}
use Rattle.buffer_machine.proofs.Playing.{asked-is, done-is}
use Rattle.buffer_machine.proofs.AnyChannel.{floor_now}
use Rattle.std.proofs.lemmas.List.{append-nil}
use Rattle.buffer_machine.proofs.EffectsStep.{attach-is, detach-is, join-is, part-is, parts_by, reattach-is, shows_by}

-- ---- the other commands

leave-is : (s : Settings) (h : List Command) (o : Origin) (at : ℕ) → closed_out o (attached s h) ≡ effects s h (Client o at Leave)
unfolding effects closings shown sent
leave-is s h o at = shows_by (is_among o (attached s h)) [] (Close o ∷ [])

say-is : (s : Settings) (h : List Command) (o : Origin) (at : ℕ) (verb : Verb) (name text : List ℕ) → answers s (floor h o.0) (held s h) (Client o at (Say verb name text)) ≡ effects s h (Client o at (Say verb name text))
unfolding effects closings shown sent
say-is s h o at verb name text = rw (found-detached s h (fold_name name)) (parts_by (is_among o (attached s h)) _ _ _ (Close o ∷ []) refl)

play-is : (s : Settings) (h : List Command) (o : Origin) (at : ℕ) (t : List ℕ) → answers s (floor h o.0) (held s h) (Client o at (Play t)) ≡ effects s h (Client o at (Play t))
unfolding effects closings shown sent
play-is s h o at t = ap (λ es. if is_among o (attached s h) then es else Close o ∷ []) (asked-is s h o (fold_name t)) ∙ shows_by (is_among o (attached s h)) _ (Close o ∷ [])

clear-is : (s : Settings) (h : List Command) (o : Origin) (at : ℕ) (t : List ℕ) → answers s (floor h o.0) (held s h) (Client o at (Clear t)) ≡ effects s h (Client o at (Clear t))
unfolding effects closings shown sent
clear-is s h o at t = ap (λ es. if is_among o (attached s h) then es else Close o ∷ []) (done-is s h o (fold_name t)) ∙ shows_by (is_among o (attached s h)) _ (Close o ∷ [])

clear_channels-is : (s : Settings) (h : List Command) (o : Origin) (at : ℕ) → answers s (floor h o.0) (held s h) (Client o at ClearChannels) ≡ effects s h (Client o at ClearChannels)
unfolding effects closings shown sent
clear_channels-is s h o at = shows_by (is_among o (attached s h)) _ (Close o ∷ [])

clear_queries-is : (s : Settings) (h : List Command) (o : Origin) (at : ℕ) → answers s (floor h o.0) (held s h) (Client o at ClearQueries) ≡ effects s h (Client o at ClearQueries)
unfolding effects closings shown sent
clear_queries-is s h o at = shows_by (is_among o (attached s h)) _ (Close o ∷ [])

clear_all-is : (s : Settings) (h : List Command) (o : Origin) (at : ℕ) → answers s (floor h o.0) (held s h) (Client o at ClearAll) ≡ effects s h (Client o at ClearAll)
unfolding effects closings shown sent
clear_all-is s h o at = shows_by (is_among o (attached s h)) _ (Close o ∷ [])

size_by : (nick : List ℕ) (o : Origin) (past known : Bool)
    → (if past then status nick o (codes "Size is past 500.") else status nick o (if known then codes "Done." else codes "No such target."))
    ≡ status nick o (if past then codes "Size is past 500." else if known then codes "Done." else codes "No such target.")
size_by nick o true known = refl
size_by nick o false known = refl

size-is : (s : Settings) (h : List Command) (o : Origin) (at : ℕ) (t : List ℕ) (n : ℕ) → answers s (floor h o.0) (held s h) (Client o at (SetBuffer t n)) ≡ effects s h (Client o at (SetBuffer t n))
unfolding effects closings shown sent
size-is s h o at t n =
    ap (λ es. if is_among o (attached s h) then (if is_past n then status (nick s h) o (codes "Size is past 500.") else es) else Close o ∷ []) (done-is s h o (fold_name t))
    ∙ (ap (λ es. if is_among o (attached s h) then es else Close o ∷ []) (size_by (nick s h) o (is_past n) (is_known s h (fold_name t)))
    ∙ shows_by (is_among o (attached s h)) _ (Close o ∷ []))

pass-is : (s : Settings) (h : List Command) (o : Origin) (at : ℕ) (line : Parts) → answers s (floor h o.0) (held s h) (Client o at (Pass line)) ≡ effects s h (Client o at (Pass line))
unfolding effects closings shown sent
pass-is s h o at line = parts_by (is_among o (attached s h)) _ [] _ (Close o ∷ []) refl

line-is : (s : Settings) (h : List Command) (at : ℕ) (line : Parts) → answers_taking (held s h) line ≡ effects s h (Upstream at line)
unfolding effects closings shown sent
line-is s h at line = rw (found-detached s h (fold_name (channel_of line))) (sym (append-nil _))

gone-is : (s : Settings) (h : List Command) (node boot : ℕ) → [] ≡ effects s h (NodeGone node boot)
unfolding effects closings shown sent
gone-is s h node boot = refl

up-is : (s : Settings) (h : List Command) → answers s 0 (held s h) Up ≡ effects s h Up
unfolding effects closings shown sent
up-is s h = map_through (channel_held s h) (λ c. Rejoin (bare (codes "JOIN") (c.target.name ∷ []))) (λ c. Rejoin (bare (codes "JOIN") (c ∷ []))) (λ c. refl) (channels s h)

down-is : (s : Settings) (h : List Command) → [] ≡ effects s h Down
unfolding effects closings shown sent
down-is s h = refl

pub effects-step : (s : Settings) → IsSound s → (h : List Command) (x : Command) → answers s (floor_now h x) (held s h) x ≡ effects s h x
effects-step s sound h (Client o at (Attach id)) = attach-is s sound h o at id
effects-step s sound h (Client o at Leave) = leave-is s h o at
effects-step s sound h (Client o at (Say verb name text)) = say-is s h o at verb name text
effects-step s sound h (Client o at (Join c)) = join-is s h o at c
effects-step s sound h (Client o at (Part c)) = part-is s h o at c
effects-step s sound h (Client o at (Detach c)) = detach-is s h o at c
effects-step s sound h (Client o at (Reattach c)) = reattach-is s h o at c
effects-step s sound h (Client o at (Play t)) = play-is s h o at t
effects-step s sound h (Client o at (Clear t)) = clear-is s h o at t
effects-step s sound h (Client o at ClearChannels) = clear_channels-is s h o at
effects-step s sound h (Client o at ClearQueries) = clear_queries-is s h o at
effects-step s sound h (Client o at ClearAll) = clear_all-is s h o at
effects-step s sound h (Client o at (SetBuffer t n)) = size-is s h o at t n
effects-step s sound h (Client o at (Pass line)) = pass-is s h o at line
effects-step s sound h (Upstream at line) = line-is s h at line
effects-step s sound h (NodeGone node boot) = gone-is s h node boot
effects-step s sound h Up = up-is s h
effects-step s sound h Down = down-is s h

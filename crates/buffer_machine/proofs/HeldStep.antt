-- The machine holds what its definitions say after one step.
use Rattle.std.proofs.Common.{◌≡◌, ℕ, List, ◌∷◌, refl, ap, ◌∙◌}
use Rattle.buffer_commands.specs.Settings.{Settings}
use Rattle.buffer_commands.specs.declared.command.Command.{Command}
use Rattle.buffer_commands.specs.declared.effect.Effect.{Effect}
use Rattle.buffer_machine.specs.Answering.{answers}
use Rattle.buffer_machine.specs.Buffers.{nick, nick_after}
use Rattle.buffer_machine.specs.Crowd.{attached, ids, is_taken}
use Rattle.buffer_machine.specs.Effects.{effects}
use Rattle.buffer_machine.specs.Held.{Held, IsSound, held, names_held}
use Rattle.buffer_machine.specs.Steps.{after}
use Rattle.buffer_machine.specs.NameSteps.{names_after}
use Rattle.buffer_machine.proofs.AnyChannel.{floor_now, channels-step}
use Rattle.buffer_machine.proofs.AnyEffects.{effects-step}
use Rattle.buffer_machine.proofs.FloorLemmas.{attached-step, one_floor}
use Rattle.buffer_machine.proofs.Holders.{names-step}
use Rattle.buffer_machine.proofs.AnyQuery.{queries-step}

nick-more : (s : Settings) (earlier : List Command) (x : Command) → nick_after (nick s earlier) x ≡ nick s (x ∷ earlier)
unfolding nick
nick-more s earlier x = refl

names-now : (s : Settings) (earlier : List Command) (x : Command) → names_after s.many_clients (is_taken (λ _. floor_now earlier x) (attached s earlier) (ids s earlier) x) (names_held s earlier) x ≡ names_held s (x ∷ earlier)
names-now s earlier x = ap (λ b. names_after s.many_clients b (names_held s earlier) x) (one_floor s earlier x) ∙ names-step s earlier x

-- what is held after one more command
pub held-step : (s : Settings) → IsSound s → (earlier : List Command) (x : Command) → after s (floor_now earlier x) (held s earlier) x ≡ held s (x ∷ earlier)
held-step s sound earlier x =
    rw (nick-more s earlier x, attached-step s earlier x, names-now s earlier x, channels-step s sound earlier x, queries-step s sound earlier x) refl

-- ---- what the machine's parts hold

pub held-from : (s t : Settings) (floor : ℕ) (b c : Held) (earlier : List Command) (x : Command) → IsSound s → c ≡ after t floor b x → t ≡ s → floor ≡ floor_now earlier x → b ≡ held s earlier → c ≡ held s (x ∷ earlier)
held-from s t floor b c earlier x sound e f g i = e ∙ rw (f, g, i) (held-step s sound earlier x)

pub effects-from : (s t : Settings) (floor : ℕ) (b : Held) (es : List Effect) (earlier : List Command) (x : Command) → IsSound s → es ≡ answers t floor b x → t ≡ s → floor ≡ floor_now earlier x → b ≡ held s earlier → es ≡ effects s earlier x
effects-from s t floor b es earlier x sound e f g i = e ∙ rw (f, g, i) (effects-step s sound earlier x)

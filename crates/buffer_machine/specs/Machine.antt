-- What the machine is after a history.
use Rattle.std.specs.Prelude.{◌≡◌, false, ℕ, List}
use Rattle.machine_laws.specs.Runs.{History}
use Rattle.buffer_commands.specs.Settings.{Settings}
use Rattle.buffer_commands.specs.declared.command.Command.{Command}
use Rattle.buffer_commands.specs.declared.effect.Effect.{Effect}
use Rattle.buffer_machine.specs.Effects.{effects}
use Rattle.buffer_machine.specs.Held.{Held, commands, IsSound, AreFloors, held, holding}
use Rattle.buffer_machine.specs.declared.buffers.Buffers.{Buffers}
use Rattle.buffer_machine.specs.declared.machine.BufferMachine.{BufferMachine}

-- what the machine's parts hold
abbrev pub held_of : Buffers → Held
held_of b = holding b.nick b.clients b.names b.channels b.queries

-- the machine holds its setup, the floors, the own nick, the clients that are attached and what each target keeps, and
-- memory never ran out
pub record Stands (m : BufferMachine) (s : Settings) (history : History Command) : Type 0 where
  pub setup : m.setup ≡ s
  pub sound : IsSound s
  pub floors : AreFloors m.floors (commands history)
  pub buffers : held_of m.buffers ≡ held s (commands history)
  pub whole : m.spoilt ≡ false

-- what a command brings about, at any place
abbrev pub effects_at : Settings → History Command → ℕ → Command → List Effect
effects_at s history place x = effects s (commands history) x

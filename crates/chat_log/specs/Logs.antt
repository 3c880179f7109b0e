-- The chat of the state that a file stands for.
use Rattle.std.specs.Prelude.{ℕ, List, map, Option, Result, Ok, Err}
use Rattle.machine_laws.specs.Runs.{run}
use Rattle.stable_store.specs.declared.saved.Saved.{Saved}
use Rattle.stable_store.specs.declared.store_fault.StoreFault.{StoreFault}
use Rattle.buffer_commands.specs.Settings as settings
use Rattle.buffer_commands.specs.declared.command.Command.{Command}
use Rattle.buffer_machine.specs.Held.{commands}
use Rattle.bouncer_tower.specs.Bodies.{TowerBody, plain}
use Rattle.chat_log.specs.declared.choice.Extent.{Extent}
use Rattle.chat_log.specs.Chats.{chat_text}

-- the bodies of a saved log, the oldest first
abbrev pub bodies : Saved TowerBody → List TowerBody
bodies saved = map (λ e. e.body) saved.log

-- the commands of the buffers that these bodies give at the places from 1 on, the newest first; repeated bodies, and
-- lines of sessions that are over, give none
abbrev pub plain_commands : List TowerBody → List Command
plain_commands list = commands (plain (run list))

-- the chat of the state that a file stands for, or why the file is refused
unfoldable pub chat_of : Extent → Option (List ℕ) → Result (Saved TowerBody) StoreFault
    → Result (List ℕ) StoreFault
chat_of extent target (Ok saved) =
    Ok (chat_text settings.plain extent target (plain_commands (bodies saved)))
chat_of extent target (Err fault) = Err fault

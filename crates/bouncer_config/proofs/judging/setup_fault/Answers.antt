use Rattle.std.proofs.Common.{sym}
use Rattle.buffer_commands.specs.Settings.{default_options}
use Rattle.bouncer_config.proofs.Places.{no_setup_fault}
use Rattle.bouncer_config.proofs.judging.setup_fault.Goals as goal

pub returns-in-Ok : goal.returns-in-Ok
returns-in-Ok c = sym (no_setup_fault c.args.channels.items default_options (rw c.default.ensures at c.in-Ok.ensures.limits))

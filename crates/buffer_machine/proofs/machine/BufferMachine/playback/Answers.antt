use Rattle.irc_line.specs.Names.{fold_name}
use Rattle.buffer_machine.specs.Held.{commands}
use Rattle.buffer_machine.specs.Machine.{held_of}
use Rattle.buffer_machine.proofs.Playing.{played-held}
use Rattle.buffer_machine.proofs.machine.BufferMachine.playback.Goals as goal

pub returns : goal.returns
returns c = λ s history h.
    rw (c.offset.ensures, h.setup, played-held s (commands history) (fold_name c.args.target.now) (held_of c.args.self.now.buffers) h.buffers) at c.played_at.ensures

use Rattle.std.proofs.Common.{◌∙◌, refl}
use Rattle.buffer_machine.proofs.FloorLemmas.{floors-new}
use Rattle.buffer_machine.proofs.Beginning.{held-none}
use Rattle.buffer_machine.proofs.machine.BufferMachineMachine.start.Goals as goal

pub returns : goal.returns
returns c = record {
  setup = c.in_ok-copy.ensures;
  sound = c.keeps_its_limits.ensures;
  floors = floors-new;
  buffers = c.in_ok-buffers.ensures ∙ held-none c.args.setup.now c.keeps_its_limits.ensures;
  whole = refl;
}

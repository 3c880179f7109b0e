use Rattle.std.proofs.Common.{◌≡◌, take}
use Rattle.buffer_machine.specs.NameSteps.{flags}
use Rattle.buffer_machine.proofs.client_names.flags_of.Given as goal

abbrev pub invariant-loop-holder : goal.invariant-loop-holder
invariant-loop-holder l = l.here ≡ flags (take l.holder-index l.holders)

use Rattle.std.proofs.Common.{◌≡◌, drop}
use Rattle.buffer_machine.specs.NameSteps.{index_of}
use Rattle.buffer_machine.proofs.client_names.name_in.Given as goal

abbrev pub invariant-loop-holder : goal.invariant-loop-holder
invariant-loop-holder l = index_of l.origin l.holders ≡ index_of l.origin (drop l.holder-index l.holders)

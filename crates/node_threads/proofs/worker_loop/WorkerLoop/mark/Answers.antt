use Rattle.std.proofs.Common.{Err, refl}
use Rattle.node_cells.specs.declared.cell_fault.CellFault.TheVariants.{Memory}
use Rattle.node_threads.proofs.worker_loop.WorkerLoop.mark.Goals as goal

pub returns-then-has_further-clause-mark : goal.returns-then-has_further-clause-mark
returns-then-has_further-clause-mark g c = record { answer = Err Memory; result_is = refl; asked = refl }

pub returns-then-has_further-clause-gathered : goal.returns-then-has_further-clause-gathered
returns-then-has_further-clause-gathered g c = record { answer = Err Memory; asked = refl; gathers = (refl, refl, refl) }

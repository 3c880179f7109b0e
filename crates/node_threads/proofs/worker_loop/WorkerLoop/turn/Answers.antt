use Rattle.std.proofs.Common.{Err, refl}
use Rattle.node_cells.specs.declared.cell_fault.CellFault.TheVariants.{Memory}
use Rattle.node_threads.proofs.worker_loop.WorkerLoop.turn.Goals as goal

pub returns-then-has_further-clause-turn : goal.returns-then-has_further-clause-turn
returns-then-has_further-clause-turn g c = record { answer = Err Memory; turned = refl }

pub returns-then-has_further-clause-gathered : goal.returns-then-has_further-clause-gathered
returns-then-has_further-clause-gathered g c = record { answer = Err Memory; turned = refl; gathers = (c.fail.ensures, refl, refl) }

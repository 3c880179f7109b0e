use Rattle.std.specs.Prelude.{◌≡◌}
use Rattle.node_threads.proofs.worker_loop.WorkerLoop.wait_for_store.Given as goal

abbrev pub invariant-loop : goal.invariant-loop
invariant-loop g l =
    (l.cell ≡ l.fn.cell) × ((store : g.row.S.Denot) → g.L.Opener.gives l.opener store → g.L.Opener.gives l.fn.opener store)

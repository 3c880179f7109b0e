-- A worker may go to any thread, as its parts may.
use denote.RattleType.{RattleType}
use denote.Enum.Declared.{shape}
use denote.Enum.Enum as enum
use denote.Param.Send.{IsSend, IsSync, enum_send, recorded_send}
use denote.Param.SendFields.{declared_send}
use Rattle.std.proofs.Crossing as heap
use Rattle.wire_bytes.specs.declared.copied.Copied as copied
use Rattle.wire_bytes.specs.declared.wire.Wire as wire
use Rattle.machine_laws.specs.declared.hosted.Hosted as hosted
use Rattle.machine_laws.specs.declared.machine.Machine as machine
use Rattle.machine_laws.specs.declared.marking.Marking as marking
use Rattle.stable_store.specs.declared.stable.Stable as stable
use Rattle.node_cells.specs.declared.upstream.Upstream as upstream
use Rattle.node_cells.proofs.Crossing.{cell_send}
use Rattle.node_cells.proofs.unopened_cell.UnopenedCell.TheSendSync as unopened
use Rattle.node_threads.specs.contracts.job.Job as waiting
use Rattle.node_threads.specs.contracts.place.Place as place
use Rattle.node_threads.specs.contracts.worker.Worker as worker
use Rattle.crossbeam_channel.proofs.channel.Receiver.TheSendSync as receiver
use Rattle.node_threads.proofs.job.Job.TheSendSync as job
use Rattle.node_threads.proofs.worker_loop.WorkerLoop.TheSendSync as loop

module _ (M S U N A L T P Setup C E : RattleType) (marking-M : marking.Ghosts M.Denot A.Denot L.Denot T.Denot P.Denot Setup.Denot C.Denot E.Denot)
    (g : hosted.Ghosts M.Denot A.Denot L.Denot T.Denot P.Denot Setup.Denot C.Denot E.Denot) (machine-M : machine.Ghosts M.Denot Setup.Denot C.Denot E.Denot)
    (copied-Setup : copied.Ghosts Setup.Denot) (wire-C : wire.Ghosts C.Denot) (copied-C : copied.Ghosts C.Denot) (copied-E : copied.Ghosts E.Denot) (wire-A : wire.Ghosts A.Denot)
    (copied-A : copied.Ghosts A.Denot) (wire-L : wire.Ghosts L.Denot) (copied-L : copied.Ghosts L.Denot) (wire-T : wire.Ghosts T.Denot) (copied-T : copied.Ghosts T.Denot)
    (copied-P : copied.Ghosts P.Denot) (stable-S : stable.Ghosts S.Denot C.Denot) (upstream-U : upstream.Ghosts U.Denot) where
  -- the node of a worker may go to any thread, if its cell and its opener may
  pub place_send : IsSend M → IsSend S → IsSend U → IsSend N → IsSend L → IsSend T → IsSend P → IsSend Setup → IsSend C → IsSend E → IsSync Setup → IsSync C
      → IsSend (place.the_row M S U N A L T P Setup C E marking-M g machine-M copied-Setup wire-C copied-C copied-E wire-A copied-A wire-L copied-L wire-T copied-T copied-P stable-S upstream-U)
  place_send m s u n l t p setup c e setup-sync c-sync =
      let here = place.the_type M S U N A L T P Setup C E marking-M g machine-M copied-Setup wire-C copied-C copied-E wire-A copied-A wire-L copied-L wire-T copied-T copied-P stable-S upstream-U in
      let cell = cell_send M S U A L T P Setup C E marking-M g machine-M copied-Setup wire-C copied-C copied-E wire-A copied-A wire-L copied-L wire-T copied-T copied-P stable-S upstream-U m s u l t p setup c e setup-sync c-sync in
      let late = unopened.the_send M U A L T P Setup C E marking-M g machine-M copied-Setup wire-C copied-C copied-E wire-A copied-A wire-L copied-L wire-T copied-T copied-P upstream-U u setup c setup-sync c-sync in
      recorded_send (enum.Enum (shape here)) here.D here.to here.to_one (enum_send (shape here) ((cell, tt), ((late, (n, tt)), tt)))

  module _ (G O : RattleType) where
    -- so may its worker, if its outlet may
    pub worker_send : IsSend M → IsSend S → IsSend U → IsSend N → IsSend G → IsSend O → IsSend L → IsSend T → IsSend P → IsSend Setup → IsSend C → IsSend E → IsSync G → IsSync Setup → IsSync C
        → IsSend (worker.the_row M S U N G O A L T P Setup C E marking-M g machine-M copied-Setup wire-C copied-C copied-E wire-A copied-A wire-L copied-L wire-T copied-T copied-P stable-S upstream-U)
    worker_send m s u n gate outlet l t p setup c e gate-sync setup-sync c-sync =
        let node = place_send m s u n l t p setup c e setup-sync c-sync in
        let inbox = receiver.the_send (waiting.the_row M A L T P Setup C E) _ _ (job.the_send M A L T P Setup C E l t p c) heap.send heap.sync heap.frees in
        declared_send (worker.the_type M S U N G O A L T P Setup C E marking-M g machine-M copied-Setup wire-C copied-C copied-E wire-A copied-A wire-L copied-L wire-T copied-T copied-P stable-S upstream-U) (node, (inbox, (loop.the_send M G O A L T P Setup C E gate outlet l t p c e gate-sync, tt)))

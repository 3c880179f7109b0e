-- The cell of a node may go to any thread, as its parts may: the part of an input that only clauses see owns nothing.
use denote.Builtin as builtin
use denote.Enum.Declared.{shape}
use denote.Enum.Enum as enum
use denote.RattleType.{RattleType}
use denote.Struct.Field.{row_field}
use denote.Param.Send.{IsSend, IsSync, enum_send, recorded_send, sendable, view_send}
use denote.Param.SendFields.{as_row_send, declared_send}
use denote.Hole.{as_row}
use Rattle.std.specs.contracts.option.Option as Option
use Rattle.std.specs.contracts.result.Result as Result
use Rattle.std.proofs.Crossing as std
use Rattle.std.proofs.Crossing.{Vec-send, crosses}
use Rattle.wire_bytes.specs.contracts.number.Number as Number
use Rattle.wire_bytes.specs.declared.copied.Copied as copied
use Rattle.wire_bytes.specs.declared.wire.Wire as wire
use Rattle.machine_laws.specs.declared.hosted.Hosted as hosted
use Rattle.machine_laws.specs.declared.machine.Machine as machine
use Rattle.machine_laws.specs.declared.marking.Marking as marking
use Rattle.stable_store.specs.declared.stable.Stable as stable
use Rattle.node_steps.specs.contracts.refusal.Refusal as Refusal
use Rattle.raft_node.proofs.node.Node.TheSendSync as node
use Rattle.recorder.proofs.node_line.NodeFields.TheSendSync as fields
use Rattle.raft_node.proofs.input.Input.TheSendSync as input
use Rattle.world_views.proofs.envelope.Envelope.TheSendSync as envelope
use Rattle.raft_node.specs.contracts.input.Input as Input
use Rattle.world_views.specs.contracts.envelope.Envelope as Envelope
use Rattle.node_cells.specs.declared.upstream.Upstream as upstream
use Rattle.node_cells.specs.contracts.phase.Phase as Phase
use Rattle.node_cells.specs.contracts.told_input.ToldInput as ToldInput
use Rattle.node_cells.specs.contracts.cell.NodeCell as NodeCell
use Rattle.node_cells.specs.contracts.cell.NodeCell.TheInside as inside
use Rattle.node_cells.proofs.book.Book.TheSendSync as book

answer_send : IsSend (Result.the_row builtin.unit Refusal.the_row)
answer_send = search (sendable, crosses) depth 40

module _ (C L T : RattleType) (g : wire.Ghosts C.Denot) where
  told_send : IsSend (ToldInput.the_row C L T g)
  told_send = search (sendable, crosses) depth 40

  copy_send : IsSend (Input.the_row (Envelope.the_row C g) C L) → IsSend (Option.the_field (Input.the_row (Envelope.the_row C g) C L)).row
  copy_send one = search (sendable, crosses) depth 12

  -- each part of it by itself, since one search does not reach them all
  phase_send : IsSend (Input.the_row (Envelope.the_row C g) C L) → IsSend (Phase.the_row C L T g)
  phase_send one =
      let phase = Phase.the_type C L T g in
      let all_told = Vec-send (ToldInput.the_row C L T g) told_send in
      let copies = Vec-send (Input.the_row (Envelope.the_row C g) C L) one in
      let answers = Vec-send (Result.the_row builtin.unit Refusal.the_row) answer_send in
      recorded_send (enum.Enum (shape phase)) phase.D phase.to phase.to_one
      (enum_send (shape phase) (tt, ((told_send, (copy_send one, (search sendable, tt))), ((all_told, (copies, (answers, tt))), (tt, tt)))))

number_send : IsSend Number.the_row
number_send = search (sendable, crosses) depth 40

maybe_send : IsSend (as_row (Option.the_field Number.the_row))
maybe_send = search (number_send, sendable, crosses) depth 40

module _ (M S U A L T P Setup C E : RattleType) (marking-M : marking.Ghosts M.Denot A.Denot L.Denot T.Denot P.Denot Setup.Denot C.Denot E.Denot)
    (g : hosted.Ghosts M.Denot A.Denot L.Denot T.Denot P.Denot Setup.Denot C.Denot E.Denot) (machine-M : machine.Ghosts M.Denot Setup.Denot C.Denot E.Denot) (copied-Setup : copied.Ghosts Setup.Denot) (wire-C : wire.Ghosts C.Denot) (copied-C : copied.Ghosts C.Denot)
    (copied-E : copied.Ghosts E.Denot) (wire-A : wire.Ghosts A.Denot) (copied-A : copied.Ghosts A.Denot) (wire-L : wire.Ghosts L.Denot) (copied-L : copied.Ghosts L.Denot)
    (wire-T : wire.Ghosts T.Denot) (copied-T : copied.Ghosts T.Denot) (copied-P : copied.Ghosts P.Denot) (stable-S : stable.Ghosts S.Denot C.Denot)
    (upstream-U : upstream.Ghosts U.Denot) where
  -- the cell of a node may go to any thread
  pub cell_send : IsSend M → IsSend S → IsSend U → IsSend L → IsSend T → IsSend P → IsSend Setup → IsSend C → IsSend E → IsSync Setup → IsSync C
      → IsSend (NodeCell.the_row M S U A L T P Setup C E marking-M g machine-M copied-Setup wire-C copied-C copied-E wire-A copied-A wire-L copied-L wire-T copied-T copied-P stable-S upstream-U)
  cell_send m s u l t p setup c e setup-sync c-sync =
      view_send (inside.the_row M S U A L T P Setup C E marking-M g machine-M copied-Setup wire-C copied-C copied-E wire-A copied-A wire-L copied-L wire-T copied-T copied-P stable-S upstream-U) _ _ _ _
      (declared_send (inside.the_type M S U A L T P Setup C E marking-M g machine-M copied-Setup wire-C copied-C copied-E wire-A copied-A wire-L copied-L wire-T copied-T copied-P stable-S upstream-U) (
        std.send,
        (book.the_send M A L T P Setup C E g machine-M copied-Setup wire-C copied-C copied-E wire-A copied-A wire-L copied-L wire-T copied-T copied-P l t p setup c e setup-sync c-sync, (node.the_send M S A L T P Setup C E g machine-M wire-C wire-A wire-L wire-T stable-S m s setup c c-sync, (as_row_send (row_field U) u, (phase_send C L T wire-C (input.the_send (Envelope.the_row C wire-C) C L (envelope.the_send C wire-C c c-sync) c l), (search sendable, (fields.the_send, (number_send, (maybe_send, tt)))))))),
      ))

use Rattle.std.proofs.Common.{rules, arith, ◌∙◌, ◌≡◌, ◌≤◌, ◌+◌, ◌-◌, ◌^◌, ℕ, suc, List, length, IfOk, IfErr, sym, ap, subst}
use Rattle.raft_node.specs.Hosts.{hosted}
use Rattle.raft_node.specs.Machine.{Machine}
use Rattle.world_views.specs.Inputs.{NodeInput}
use Rattle.node_cells.specs.Books.{room_for}
use Rattle.node_cells.specs.Cells.{CellParts, view_in}
use Rattle.node_cells.specs.Together.{AreNoTurns, AreTurned}
use Rattle.node_cells.proofs.cell.NodeCell.turn_all.Given as given
use Rattle.node_cells.proofs.cell.NodeCell.turn_all.Goals as goal

abbrev machine : (g : given.Over) → g.row.M-Setup.Denot → Machine
machine g s =
    hosted g.M.Hosted.blank g.M.Hosted.opened g.M.Hosted.shut g.M.Hosted.heard g.M.Hosted.claim g.M.Hosted.source (g.M.Machine.effects s)
    (g.M.Hosted.next_claim s) (g.M.Hosted.playback s) g.M.Hosted.class

pub run_all-requires-clause-room : goal.run_all-requires-clause-room
run_all-requires-clause-room g c =
    let same : c.in-Ok-inputs_of.told.items ≡ c.args.inputs.items = c.in-Ok-inputs_of.ensures.1 in
    let made = c.in_ok-make_room.ensures in
    let long : length c.in-Ok-inputs_of.told.items ≡ length c.args.inputs.items = ap (λ (l : List (NodeInput g.row.M-Command.Denot g.row.M-Line.Denot)). length l) same in
    let count : suc (c.len.result - 1) ≡ length c.in-Ok-inputs_of.told.items = (let len = c.len.ensures in let ok = c.args.inputs.ok.0 in let some = c.requires.some in omega (arith, len, ok, some, long)) in
    subst (λ (z : CellParts g.row.M-Setup.Denot g.row.M.Denot g.row.S.Denot g.row.M-Command.Denot g.row.M-Line.Denot g.row.M-Target.Denot g.row.M-Effect.Denot g.row.M-Played.Denot g.row.U.Denot).
    (room_for z.recording (length c.in-Ok-inputs_of.told.items) ≤ c.make_room.new.self.room) × (length (view_in z).turns + length c.in-Ok-inputs_of.told.items ≤ 2 ^ 60)) (sym made.0)
    (subst (λ (n : ℕ). (room_for c.args.self.now.parts.recording n ≤ c.make_room.new.self.room) × (length (view_in c.args.self.now.parts).turns + n ≤ 2 ^ 60)) count (made.1, made.2))

pub returns-clause-done : goal.returns-clause-done
returns-clause-done g c =
    let same : c.in-Ok-inputs_of.told.items ≡ c.args.inputs.items = c.in-Ok-inputs_of.ensures.1 in
    let parts : c.make_room.new.self.parts ≡ c.args.self.now.parts = search rules in
    subst (λ (z : CellParts g.row.M-Setup.Denot g.row.M.Denot g.row.S.Denot g.row.M-Command.Denot g.row.M-Line.Denot g.row.M-Target.Denot g.row.M-Effect.Denot g.row.M-Played.Denot g.row.U.Denot × List (NodeInput g.row.M-Command.Denot g.row.M-Line.Denot)).
    IfOk c.run_all.result (λ answers. AreTurned (machine g z.0.ether.setup) z.0 z.1 answers.items c.run_all.new.self.parts)) (λ d. (parts d, same d)) c.run_all.ensures.done

pub returns-clause-failed : goal.returns-clause-failed
returns-clause-failed g c =
    let same : c.in-Ok-inputs_of.told.items ≡ c.args.inputs.items = c.in-Ok-inputs_of.ensures.1 in
    let parts : c.make_room.new.self.parts ≡ c.args.self.now.parts = search rules in
    subst (λ (z : CellParts g.row.M-Setup.Denot g.row.M.Denot g.row.S.Denot g.row.M-Command.Denot g.row.M-Line.Denot g.row.M-Target.Denot g.row.M-Effect.Denot g.row.M-Played.Denot g.row.U.Denot × List (NodeInput g.row.M-Command.Denot g.row.M-Line.Denot)).
    IfErr c.run_all.result (λ fault. AreNoTurns (machine g z.0.ether.setup) z.0 z.1 fault c.run_all.new.self.parts)) (λ d. (parts d, same d)) c.run_all.ensures.failed

pub run_all-requires-clause-copied : goal.run_all-requires-clause-copied
run_all-requires-clause-copied g c = λ on. c.in-Ok.ensures.copies (c.recording.ensures ∙ on) ∙ c.deref-2.ensures.value ∙ sym c.in-Ok-inputs_of.ensures.1

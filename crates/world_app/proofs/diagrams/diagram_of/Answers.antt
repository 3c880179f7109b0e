use Rattle.std.proofs.Common.{◌≡◌, ◌+◌, ℕ, subst, ◌∙◌, arith}
use Rattle.std.proofs.lemmas.List.{length-map}
use Rattle.world_run.specs.Groups.{IsGroup, node_in, nodes_in}
use Rattle.world_run.specs.Told.{event_of}
use Rattle.world_run.specs.World.{happens}
use Rattle.world_app.specs.Delivered.{arrow_in, arrows_of}
use Rattle.world_app.specs.Diagrams.{sent_in}
use Rattle.world_app.specs.SendingRows.{AreEmpty}
use Rattle.world_app.proofs.Known.{arrow_is, at_first}
use Rattle.world_app.proofs.Onward.{arrows_begin, arrows_on, known_next, rows_begin, rows_on}
use Rattle.world_app.proofs.diagrams.diagram_of.Invariants.{machine}
use Rattle.world_app.proofs.diagrams.diagram_of.Goals as goal

pub loop-place-init : goal.loop-place-init
loop-place-init g c =
    let m = machine g c.args.setup.now in
    let es = c.args.events.now in
    let size = c.args.size in
    let e = c.in_ok-group.ensures in
    let w = nodes_in c.in_ok-group.group.cells.items in
    let rows = c.in_ok-sending_rows.sending_rows.items in
    let count : c.len.result ≡ size = omega (arith, c.len.ensures, e.group.1) in
    let empty = subst (λ (n : ℕ). AreEmpty n rows) count c.in_ok-sending_rows.ensures in (
      e.setup.0,
      e.setup.1,
      e.group,
      at_first m size es w rows e.nodes empty,
      rows_begin m es size w c.new-rows.result.items e.nodes c.new-rows.ensures.items,
      arrows_begin m (sent_in m size es) es size w c.new-arrows.result.items e.nodes c.new-arrows.ensures.items,
    )

pub loop-place-preserved : goal.loop-place-preserved
loop-place-preserved g c =
    let i = c.loop-place.invariant in
    let m = machine g c.args.setup.now in
    let es = c.args.events.now in
    let size = c.args.size in
    let k = c.loop-place.place in
    let e = c.index-events-place.result in
    let old = c.loop-place.group.cells.items in
    let new = c.row_of.new.group.cells.items in
    let rows = c.loop-place.sending_rows.items in
    let lt = c.loop-place-test.true in
    let at = c.index-events-place.is in
    let nodes = subst (λ s. nodes_in new ≡ happens (machine g s) (nodes_in old) (event_of (machine g s) e)) i.0 c.in_ok-row.ensures.nodes in
    let group = subst (λ (n : ℕ). IsGroup c.args.setup.now n new) i.1 (subst (λ s. IsGroup s c.loop-place.group.size new) i.0 c.in_ok-row.ensures.group) in
    let noted = rw c.deref-in-loop-place-2.ensures.value at c.in_ok-note_all.ensures in
    let more = rw (c.deref.ensures.value, c.deref-in-loop-place.ensures.value) at c.in_ok-push_arrow.ensures in
    let here = arrow_is m size es k (k + 1) _ (nodes_in old) rows e (length-map old node_in ∙ i.2.1) i.3 in (
      c.row_of.ensures.same.0 ∙ i.0,
      c.row_of.ensures.same.1 ∙ i.1,
      group,
      known_next m size es k e (nodes_in old) (nodes_in new) rows c.note_all.new.rows.items lt at nodes noted i.3,
      rows_on m es k e (nodes_in old) (nodes_in new) c.in_ok-row.row c.loop-place.rows.items c.push.new.self.items _ lt at nodes c.in_ok-row.ensures.row c.in_ok-push.ensures.items i.4,
      arrows_on m (sent_in m size es) es k e (nodes_in old) (nodes_in new) (arrows_of (arrow_in (nodes_in old) rows (k + 1) e)) c.loop-place.arrows.items c.push_arrow.new.arrows.items _ lt at nodes here more i.5,
    )

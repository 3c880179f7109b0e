use Rattle.std.proofs.Common.{◌+◌, ◌++◌, length, arith, ap, ◌∙◌, sym, append_assoc, take, ℕ}
use Rattle.std.specs.Prelude.{slice_index_or}
use Rattle.buffer_lines.specs.Parts.{parts}
use Rattle.buffer_lines.proofs.Parts.{parts_next, total_next, within_next}
use Rattle.buffer_lines.proofs.line_ring.push_parts.Goals as goal

pub overflow_add-to : goal.overflow_add-to
overflow_add-to c =
    let next = within_next c.args.lengths.now c.loop-length.length-index c.loop-length-test.true in
    let at = c.loop-length.invariant.from in
    let few = c.requires.within in
    let same = ap (length {A = ℕ}) c.as_slice.ensures in
    grind (arith, next, at, few, same)

pub part-requires : goal.part-requires
part-requires c =
    let next = within_next c.args.lengths.now c.loop-length.length-index c.loop-length-test.true in
    let at = c.loop-length.invariant.from in
    record { within = (omega arith, omega (arith, next, at, c.requires.within)) }

pub loop-length-preserved : goal.loop-length-preserved
loop-length-preserved c = record {
  from =
      ap (λ n. n + slice_index_or c.args.lengths.now c.loop-length.length-index 0) c.loop-length.invariant.from
      ∙ sym (total_next c.args.lengths.now c.loop-length.length-index c.loop-length-test.true);
  all =
      c.in_ok-push.ensures.items
      ∙ rw (c.loop-length.invariant.all, c.in_ok-part.ensures.part) (append_assoc c.args.all.now.items (parts c.args.text.now (take c.loop-length.length-index c.args.lengths.now)) _)
      ∙ ap (λ xs. c.args.all.now.items ++ xs) (sym (parts_next c.args.text.now c.args.lengths.now c.loop-length.length-index c.loop-length.from c.loop-length-test.true c.loop-length.invariant.from));
}

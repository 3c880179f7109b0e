use Rattle.std.proofs.Common.{ℕ, sym, ◌∙◌}
use Rattle.std.proofs.lemmas.Result.{err_from_is_err_and}
use Rattle.wire_bytes.specs.Fields.{Reading, both, byte_within}
use Rattle.wire_bytes.specs.Values.{number, mark_of, mark_taken}
use Rattle.wire_bytes.proofs.Steps.{behind-none, through-read, through-stops}
use Rattle.wire_bytes.proofs.mark.MarkWire.take.Goals as goal

abbrev parts : Reading (ℕ × (ℕ × ℕ))
parts = both (byte_within 0 255) (both number number)

pub returns-in_err-node-clause-err : goal.returns-in_err-node-clause-err
unfolding mark_taken
returns-in_err-node-clause-err c =
    let p = err_from_is_err_and c.from_residual.result c.from_residual.ensures.1 in
    rw (p.1, p.2) (λ h. sym (behind-none mark_taken c.args.input.now)
    ∙ through-stops mark_of parts 0 c.args.input.now _ (behind-none parts c.args.input.now ∙ c.in_err-node.ensures.err h))

pub returns-clause-ok : goal.returns-clause-ok
unfolding mark_taken
returns-clause-ok c =
    sym (behind-none mark_taken c.args.input.now)
    ∙ through-read mark_of parts 0 c.args.input.now _ _ (behind-none parts c.args.input.now ∙ c.in_ok-node.ensures.ok)

use Rattle.std.proofs.Common.{sym, ◌∙◌}
use Rattle.std.proofs.lemmas.Result.{err_from_is_err_and}
use Rattle.wire_bytes.specs.Fields.{byte_within}
use Rattle.wire_bytes.proofs.Steps.{behind-none, through-read, through-stops}
use Rattle.buffer_commands.specs.Spellings.{verb_of, verb}
use Rattle.buffer_commands.proofs.verb.VerbWire.take.Goals as goal

pub returns-in_err-byte-clause-err : goal.returns-in_err-byte-clause-err
unfolding verb
returns-in_err-byte-clause-err c =
    let p = err_from_is_err_and c.from_residual.result c.from_residual.ensures.1 in
    rw (p.1, p.2) (λ h. sym (behind-none verb c.args.input.now)
    ∙ through-stops verb_of (byte_within 0 1) 0 c.args.input.now _ (behind-none (byte_within 0 1) c.args.input.now ∙ sym c.in_err-byte.ensures.value))

pub returns-clause-ok : goal.returns-clause-ok
unfolding verb
returns-clause-ok c =
    rw c.verb_named.ensures (sym (behind-none verb c.args.input.now)
    ∙ through-read verb_of (byte_within 0 1) 0 c.args.input.now _ _ (behind-none (byte_within 0 1) c.args.input.now ∙ sym c.in_ok-byte.ensures.value))

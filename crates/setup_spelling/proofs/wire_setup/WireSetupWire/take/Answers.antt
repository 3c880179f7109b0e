use Rattle.std.proofs.Common.{sym, ◌∙◌}
use Rattle.std.proofs.lemmas.Result.{err_from_is_err_and}
use Rattle.wire_bytes.specs.Contents.{name}
use Rattle.wire_bytes.specs.Fields.{both}
use Rattle.wire_bytes.proofs.Steps.{behind-none, through-read, through-stops}
use Rattle.setup_spelling.specs.Spelling.{channels, options_taken, settings, setup_taken}
use Rattle.setup_spelling.proofs.wire_setup.WireSetupWire.take.Goals as goal

pub returns-in_err-nick-clause-err : goal.returns-in_err-nick-clause-err
unfolding setup_taken
returns-in_err-nick-clause-err c =
    let p = err_from_is_err_and c.from_residual.result c.from_residual.ensures.1 in
    let parts = both (both name channels) options_taken in
    rw (p.1, p.2) (λ h. sym (behind-none setup_taken c.args.input.now) ∙ through-stops settings parts 0 c.args.input.now _ (behind-none parts c.args.input.now ∙ c.in_err-nick.ensures.err h))

pub returns-clause-ok : goal.returns-clause-ok
unfolding setup_taken
returns-clause-ok c =
    let parts = both (both name channels) options_taken in
    rw c.made-setup.ensures (sym (behind-none setup_taken c.args.input.now) ∙ through-read settings parts 0 c.args.input.now _ _ (behind-none parts c.args.input.now ∙ c.in_ok-nick.ensures.ok))

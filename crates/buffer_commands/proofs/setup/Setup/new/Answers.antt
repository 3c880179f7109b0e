use Rattle.std.proofs.lemmas.Result.{err_from_is_err_and}
use Rattle.buffer_commands.proofs.Limits.{no_fault, one_fault}
use Rattle.buffer_commands.proofs.setup.Setup.new.Goals as goal

pub returns-in_err-check-clause-limits : goal.returns-in_err-check-clause-limits
returns-in_err-check-clause-limits c =
    let p = err_from_is_err_and c.from_residual.result c.from_residual.ensures.1 in
    rw p.1 (one_fault c.args.channels.items c.args.options _ (rw c.as_slice.ensures.value at c.in_err-check.ensures))

pub within_limits-requires : goal.within_limits-requires
within_limits-requires c = no_fault c.args.channels.items c.args.options (rw c.as_slice.ensures.value at c.in_ok-check.ensures)

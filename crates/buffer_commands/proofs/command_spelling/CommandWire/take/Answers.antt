use Rattle.std.proofs.Common.{rules, ◌≡◌, ◌<◌, length, get_or, refl}
use Rattle.std.proofs.lemmas.Result.{err_from_is_err_and}
use Rattle.wire_bytes.proofs.Steps.{choice-read, through-stops}
use Rattle.wire_bytes.specs.Fields.{both}
use Rattle.wire_bytes.specs.Values.{origin, moment}
use Rattle.buffer_commands.specs.Spellings.{client_of, client_taken, action, command, command_cases}
use Rattle.buffer_commands.proofs.Fronts.{front_is}
use Rattle.buffer_commands.proofs.command_spelling.CommandWire.take.Goals as goal

pub returns-in_err-origin-in-1-clause-err : goal.returns-in_err-origin-in-1-clause-err
unfolding command
returns-in_err-origin-in-1-clause-err c =
    let p = err_from_is_err_and c.from_residual.result c.from_residual.ensures.1 in
    let kind : get_or c.args.input.now 0 0 ≡ 1 = search rules in
    let some : 0 < length c.args.input.now = search rules in
    rw (p.1, p.2) (λ h. choice-read command_cases c.args.input.now 1 client_taken _ (front_is c.args.input.now 1 some kind) refl
    (through-stops client_of (both (both origin moment) action) 1 c.args.input.now _ (c.in_err-origin-in-1.ensures.err h)))

use Rattle.irc_line.proofs.Fronts.{front_on_err}
use Rattle.irc_line.proofs.spelling.push_spelling.Goals as goal

pub returns-clause-err : goal.returns-clause-err
returns-clause-err c =
    front_on_err c.push_parameters.result c.args.out.now.items _ c.args.command.now c.push_prefix.new.out.items c.extend_from_slice.new.self.items c.push_parameters.new.out.items c.in_ok-push_prefix.ensures.ok c.in_ok-extend_from_slice.ensures.items c.push_parameters.ensures.err

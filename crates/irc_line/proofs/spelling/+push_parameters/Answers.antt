use Rattle.irc_line.proofs.Fronts.{front_on_err}
use Rattle.irc_line.proofs.spelling.+push_parameters.Goals as goal

pub returns-in_ok-extend_from_slice-in-len1-up-clause-err : goal.returns-in_ok-extend_from_slice-in-len1-up-clause-err
returns-in_ok-extend_from_slice-in-len1-up-clause-err t c =
    front_on_err c.push_parameters.result c.args.out.now.items _ _ c.push.new.self.items c.extend_from_slice.new.self.items c.push_parameters.new.out.items c.in_ok-push-in-len1-up.ensures.items c.in_ok-extend_from_slice-in-len1-up.ensures.items c.push_parameters.ensures.err

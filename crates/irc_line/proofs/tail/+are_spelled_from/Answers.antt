use Rattle.std.proofs.Common.{sym, ◌∙◌, ◌∷◌}
use Rattle.irc_line.proofs.Comparisons.{same_none, same_some}
use Rattle.irc_line.specs.Comparing.{spelled_behind}
use Rattle.irc_line.specs.Reading.{parameters_of}
use Rattle.irc_line.proofs.tail.+are_spelled_from.Goals as goal

pub returns-in-None-behind_parameter : goal.returns-in-None-behind_parameter
returns-in-None-behind_parameter t c =
    let next = c.in-Some.next.now in
    let rest = c.in-Some.rest.now in
    rw c.in-Some.ensures.whole
    (sym (same_none (32 ∷ c.args.parameter.now) (spelled_behind c.args.command.now (next ∷ parameters_of rest)) c.args.bytes.now (sym c.in-None-behind_parameter.ensures)))

pub returns-in-Some-behind_parameter : goal.returns-in-Some-behind_parameter
returns-in-Some-behind_parameter t c =
    let next = c.in-Some.next.now in
    let rest = c.in-Some.rest.now in
    rw c.in-Some.ensures.whole
    (c.are_spelled_from.ensures
    ∙ sym (same_some (32 ∷ c.args.parameter.now) (spelled_behind c.args.command.now (next ∷ parameters_of rest)) c.args.bytes.now c.in-Some-behind_parameter.bytes.now (sym c.in-Some-behind_parameter.ensures)))

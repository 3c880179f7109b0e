use Rattle.std.proofs.Common.{◌∙◌}
use Rattle.std.specs.Prelude.{option_map}
use Rattle.irc_line.specs.Lines.{Parts}
use Rattle.irc_line.specs.Reading.{drafted}
use Rattle.irc_line.proofs.Comparisons.{prefix_absent, command_absent, parameters_compared}
use Rattle.irc_line.proofs.draft.Draft.is_spelled.Goals as goal

pub returns-in_default : goal.returns-in_default
returns-in_default c =
    let d = c.self.inside in
    let p : Parts = drafted (option_map (λ x. x.now) d.prefix) d.command.now d.tail.now in
    rw (← c.self.view_is) (prefix_absent p c.args.bytes.now c.in_default.ensures)

pub returns-in-None : goal.returns-in-None
returns-in-None c =
    let d = c.self.inside in
    let p : Parts = drafted (option_map (λ x. x.now) d.prefix) d.command.now d.tail.now in
    rw (← c.self.view_is) (command_absent p c.args.bytes.now c.in-Some.bytes.now c.in-Some.ensures c.in-None.ensures)

pub returns-in-Some-behind_upper : goal.returns-in-Some-behind_upper
returns-in-Some-behind_upper c =
    let d = c.self.inside in
    let p : Parts = drafted (option_map (λ x. x.now) d.prefix) d.command.now d.tail.now in
    rw (← c.self.view_is) (c.are_spelled.ensures ∙ parameters_compared p c.args.bytes.now c.in-Some.bytes.now c.in-Some-behind_upper.bytes.now c.in-Some.ensures c.in-Some-behind_upper.ensures)

use Rattle.std.proofs.Common.{rules, ◌≡◌, ◌<◌, length, get_or, refl}
use Rattle.wire_bytes.specs.Codecs.{behind-done}
use Rattle.wire_bytes.specs.Fields.{done}
use Rattle.wire_bytes.proofs.Steps.{choice-read}
use Rattle.buffer_commands.specs.declared.command.Action.TheVariants.{ClearChannels, ClearQueries}
use Rattle.buffer_commands.specs.Spellings.{action, action_cases}
use Rattle.buffer_commands.proofs.Fronts.{front_is}
use Rattle.buffer_commands.proofs.action_spelling.ActionWire.take.Goals as goal

pub returns-in-10-clause-ok : goal.returns-in-10-clause-ok
unfolding action
returns-in-10-clause-ok c =
    let kind : get_or c.args.input.now 0 0 ≡ 10 = search rules in
    let some : 0 < length c.args.input.now = search rules in
    choice-read action_cases c.args.input.now 10 (done ClearChannels) _ (front_is c.args.input.now 10 some kind) refl (behind-done 1 ClearChannels c.args.input.now)

pub returns-in-11-clause-ok : goal.returns-in-11-clause-ok
unfolding action
returns-in-11-clause-ok c =
    let kind : get_or c.args.input.now 0 0 ≡ 11 = search rules in
    let some : 0 < length c.args.input.now = search rules in
    choice-read action_cases c.args.input.now 11 (done ClearQueries) _ (front_is c.args.input.now 11 some kind) refl (behind-done 1 ClearQueries c.args.input.now)

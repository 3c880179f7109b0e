use Rattle.std.proofs.Common.{rules, ◌≡◌, true, false, ◌+◌, length, Ok, sym, ap, ◌∙◌}
use Rattle.std.specs.Prelude.{is_ok}
use Rattle.std.proofs.lemmas.Result.{err_from_is_err_and}
use Rattle.std.proofs.lemmas.Grind.{common_steps}
use Rattle.irc_line.specs.Names.{is_channel}
use Rattle.wire_bytes.specs.Contents.{name}
use Rattle.buffer_commands.proofs.Channels.{stops, refused, given, named_given, channel_given}
use Rattle.buffer_commands.proofs.channel_name.ChannelNameWire.take.Goals as goal

pub returns-in_err-take_sized-clause-err : goal.returns-in_err-take_sized-clause-err
returns-in_err-take_sized-clause-err c =
    let p = err_from_is_err_and c.from_residual.result c.from_residual.ensures.1 in
    rw (p.1, p.2) (λ h. stops c.args.input.now _ c.in_err-take_sized.ensures.err)

pub returns-then-not-is_channel_name-clause-err : goal.returns-then-not-is_channel_name-clause-err
returns-then-not-is_channel_name-clause-err c =
    let no : is_channel c.in_ok-take_sized.field-0.now ≡ false = search (rules, common_steps) in
    λ _. refused c.args.input.now c.in_ok-take_sized.field-0.now c.in_ok-take_sized.ensures.ok no

pub returns-in_err-name-clause-memory : goal.returns-in_err-name-clause-memory
returns-in_err-name-clause-memory c =
    let p = err_from_is_err_and c.from_residual-in_err-name.result c.from_residual-in_err-name.ensures.1 in
    let yes : is_channel c.in_ok-take_sized.field-0.now ≡ true = search (rules, common_steps) in
    rw p.1 (λ h. ap (λ r. is_ok r) (given c.args.input.now c.in_ok-take_sized.field-0.now c.in_ok-take_sized.ensures.ok yes))

pub returns-in_err-name-clause-err : goal.returns-in_err-name-clause-err
returns-in_err-name-clause-err c =
    let p = err_from_is_err_and c.from_residual-in_err-name.result c.from_residual-in_err-name.ensures.1 in
    let yes : is_channel c.in_ok-take_sized.field-0.now ≡ true = search (rules, common_steps) in
    let ok : name c.args.input.now ≡ Ok (c.in_ok-take_sized.field-0.now, 2 + length c.in_ok-take_sized.field-0.now) = named_given c.args.input.now c.in_ok-take_sized.field-0.now c.in_ok-take_sized.ensures.ok yes in
    rw (p.1, p.2) (λ h. absurd (let bad = c.in_err-name.ensures.err h in cc))

pub invariant_of-result : goal.invariant_of-result
invariant_of-result c =
    let yes : is_channel c.in_ok-take_sized.field-0.now ≡ true = search (rules, common_steps) in
    channel_given c.args.input.now c.in_ok-take_sized.field-0.now c.in_ok-name.name c.in_ok-name.len c.in_ok-take_sized.ensures.ok yes c.in_ok-name.ensures.ok

pub returns-clause-ok : goal.returns-clause-ok
returns-clause-ok c =
    let yes : is_channel c.in_ok-take_sized.field-0.now ≡ true = search (rules, common_steps) in
    let ok : name c.args.input.now ≡ Ok (c.in_ok-take_sized.field-0.now, 2 + length c.in_ok-take_sized.field-0.now) = named_given c.args.input.now c.in_ok-take_sized.field-0.now c.in_ok-take_sized.ensures.ok yes in
    let got : name c.args.input.now ≡ Ok (c.in_ok-name.name, c.in_ok-name.len) = c.in_ok-name.ensures.ok in
    given c.args.input.now c.in_ok-take_sized.field-0.now c.in_ok-take_sized.ensures.ok yes ∙ sym ok ∙ got

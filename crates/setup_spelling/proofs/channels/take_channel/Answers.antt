use Rattle.std.proofs.Common.{sym, ◌∙◌}
use Rattle.std.proofs.lemmas.Result.{err_from_is_err_and}
use Rattle.setup_spelling.specs.Spelling.{last_of}
use Rattle.setup_spelling.proofs.NameSteps.{channel_read, channel_stops, no_channel, not_after}
use Rattle.setup_spelling.proofs.channels.take_channel.Goals as goal
use Rattle.setup_spelling.proofs.channels.take_channel.Goals.{else-is_channel-via-then-is_channel+else-comes_after, else-is_channel-via-else-is_channel}

pub returns-in_err-name-clause-err : goal.returns-in_err-name-clause-err
returns-in_err-name-clause-err c =
    let p = err_from_is_err_and c.from_residual.result c.from_residual.ensures.1 in
    rw (p.1, p.2) (λ h. channel_stops c.args.place (last_of c.args.before.now) c.args.input.now _ (c.in_err-name.ensures.err h))

pub returns-then-comes_after-clause-ok : goal.returns-then-comes_after-clause-ok
returns-then-comes_after-clause-ok c =
    channel_read c.args.place (last_of c.args.before.now) c.args.input.now _ _ c.in_ok-name.ensures.ok (sym c.is_channel.ensures ∙ c.if-is_channel.true) (sym c.comes_after.ensures ∙ c.if-comes_after.true)

pub returns-else-is_channel-clause-err : goal.returns-else-is_channel-clause-err
returns-else-is_channel-clause-err c = λ _.
    elim c.else-is_channel.branch [
      | else-is_channel-via-then-is_channel+else-comes_after w ↦
          not_after c.args.place (last_of c.args.before.now) c.args.input.now _ _ c.in_ok-name.ensures.ok (sym c.is_channel.ensures ∙ w.if-is_channel.true) (sym w.comes_after.ensures ∙ w.if-comes_after.false)
      | else-is_channel-via-else-is_channel w ↦ no_channel c.args.place (last_of c.args.before.now) c.args.input.now _ _ c.in_ok-name.ensures.ok (sym c.is_channel.ensures ∙ w.if-is_channel.false)
    ]

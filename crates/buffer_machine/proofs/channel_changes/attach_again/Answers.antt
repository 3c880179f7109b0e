use Rattle.std.proofs.Common.{◌≡◌, ◌∙◌, sym, false}
use Rattle.irc_line.specs.Names.{fold_name}
use Rattle.buffer_targets.specs.Targets.{channel_of_key}
use Rattle.buffer_machine.proofs.NobodySees.{again_kept}
use Rattle.buffer_machine.proofs.channel_changes.attach_again.Goals as goal

pub returns-else-clears_channels : goal.returns-else-clears_channels
returns-else-clears_channels c =
    let off : c.args.setup.now.clears_channels ≡ false = sym c.clears_channels.ensures ∙ c.if-clears_channels.false in
    rw off (again_kept c.args.names.now (fold_name c.args.name.now) c.args.channels.now c.set_detached_at.new.self (channel_of_key (fold_name c.args.name.now) c.args.channels.now) (sym c.is_detached_at.ensures ∙ c.if-is_detached_at.true) (sym c.is_empty.ensures.none ∙ c.if-not-is_empty.false) c.set_detached_at.ensures)

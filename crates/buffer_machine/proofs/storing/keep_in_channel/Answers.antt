use Rattle.std.proofs.Common.{◌∙◌, sym, false, take}
use Rattle.std.specs.Prelude.{replicate}
use Rattle.buffer_machine.specs.Machine.{held_of}
use Rattle.buffer_machine.proofs.NobodySees.{kept_hidden, kept_open, nobody_taken}
use Rattle.buffer_machine.proofs.storing.keep_in_channel.Goals as goal

pub returns-then-is_detached : goal.returns-then-is_detached
returns-then-is_detached c = λ key stands.
    kept_hidden key c.args.line (held_of c.args.buffers.now) c.store_at.new.self (take c.count-count.result (replicate 64 false)) (sym (c.is_detached.ensures key stands) ∙ c.if-is_detached.true) (nobody_taken c.count-count.result c.args.buffers.now.names.ids c.count-count.ensures.count c.count-count.ensures.within) (c.store_at.ensures key stands)

pub returns-else-is_detached : goal.returns-else-is_detached
returns-else-is_detached c = λ key stands.
    kept_open key c.args.line (held_of c.args.buffers.now) c.store_at-else-is_detached.new.self c.here.result.now (sym (c.is_detached.ensures key stands) ∙ c.if-is_detached.false) c.here.ensures (c.store_at-else-is_detached.ensures key stands)

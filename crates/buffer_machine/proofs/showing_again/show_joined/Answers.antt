use Rattle.std.proofs.Common.{◌∙◌, ap}
use Rattle.std.specs.Prelude.{flat_map}
use Rattle.buffer_machine.specs.Effects.{copies}
use Rattle.buffer_machine.specs.Answering.{each_shown_joined}
use Rattle.buffer_machine.proofs.Joined.{all_same}
use Rattle.buffer_machine.proofs.showing_again.show_joined.Goals as goal

pub returns : goal.returns
returns c =
    c.in_ok-effects.ensures
    ∙ (ap (λ os. flat_map (copies c.in_ok-lines.lines.items) os) c.as_slice-clients.ensures
    ∙ (all_same c.offset-2.result c.args.buffers.now.nick c.args.channel.now c.args.buffers.now.clients c.args.buffers.now.names.holders c.in_ok-lines.lines.items (c.is_empty.ensures.nobody c.if-not-is_empty.false) c.in_ok-lines.ensures
    ∙ ap (λ n. each_shown_joined n c.args.buffers.now.nick c.args.channel.now c.args.buffers.now.clients c.args.buffers.now.names.holders) c.offset-2.ensures))

use Rattle.std.proofs.Common.{◌≡◌, ◌∷◌, ◌++◌, map, ap, ◌∙◌}
use Rattle.std.specs.Prelude.{codes}
use Rattle.irc_line.specs.Lines.{spelling}
use Rattle.buffer_machine.specs.Effects.{copies}
use Rattle.buffer_machine.specs.Messages.{own_line}
use Rattle.buffer_machine.specs.Answering.{played_by, reader_next, shown_joined}
use Rattle.buffer_machine.proofs.Joined.{each_step}
use Rattle.buffer_machine.proofs.Shows.{show_all_is}
use Rattle.buffer_machine.proofs.showing_again.show_each_joined.Goals as goal

pub loop-origin-preserved : goal.loop-origin-preserved
loop-origin-preserved c =
    let lines : c.in_ok-lines.lines.items ≡ map spelling (own_line c.args.buffers.now.nick (codes "JOIN") c.args.channel.now.target.name ∷ played_by c.args.offset c.next_reader-reader.result.0 c.args.channel.now.target) = c.in_ok-lines.ensures in
    let shown : c.show_lines.new.effects.items ≡ c.loop-origin.effects.items ++ copies c.in_ok-lines.lines.items c.origin-item.result = c.in_ok-show_lines.ensures in
    let more : c.show_lines.new.effects.items ≡ c.loop-origin.effects.items ++ shown_joined c.args.offset c.args.buffers.now.nick c.args.channel.now (reader_next c.origin-item.result c.loop-origin.rest.now) c.origin-item.result =
    shown ∙ ap (λ es. c.loop-origin.effects.items ++ es) (ap (λ ls. copies ls c.origin-item.result) lines ∙ (show_all_is c.origin-item.result (own_line c.args.buffers.now.nick (codes "JOIN") c.args.channel.now.target.name ∷ played_by c.args.offset c.next_reader-reader.result.0 c.args.channel.now.target) ∙ ap (λ i. shown_joined c.args.offset c.args.buffers.now.nick c.args.channel.now i c.origin-item.result) c.next_reader-reader.ensures.reader)) in
    rw c.next_reader-reader.ensures.left
    (each_step c.args.offset c.args.buffers.now.nick c.args.channel.now c.as_slice-clients.result.now c.loop-origin.rest.now c.loop-origin.origin-index c.origin-item.result c.loop-origin.effects.items c.show_lines.new.effects.items _ c.loop-origin-test.true c.origin-item.is c.loop-origin.invariant more)

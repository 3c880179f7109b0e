use Rattle.std.proofs.Common.{◌≡◌, ◌++◌, drop}
use Rattle.buffer_machine.specs.Answering.{each_shown_joined}
use Rattle.buffer_machine.proofs.showing_again.show_each_joined.Given as goal

abbrev pub invariant-loop-origin : goal.invariant-loop-origin
invariant-loop-origin l =
    l.effects.items ++ each_shown_joined l.offset l.buffers.nick l.channel (drop l.origin-index l.clients) l.rest ≡ each_shown_joined l.offset l.buffers.nick l.channel l.clients l.initial.rest

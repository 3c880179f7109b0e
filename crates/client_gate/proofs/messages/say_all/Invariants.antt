use Rattle.std.proofs.Common.{◌≡◌, map}
use Rattle.std.specs.Prelude.{flat_map}
use Rattle.std.specs.Vec.Iter.{into_iter_items}
use Rattle.client_gate.specs.Serving.{said_to}
use Rattle.client_gate.specs.Words.{pieces}
use Rattle.irc_line.specs.Lines.{parameter}
use Rattle.client_gate.specs.Turns.{all_done}
use Rattle.client_gate.proofs.messages.say_all.Given as goal

abbrev pub invariant-loop-target : goal.invariant-loop-target
invariant-loop-target l =
    all_done l.nick l.turn (flat_map (said_to l.nick l.verb l.text) (map (λ x. x.now) (into_iter_items l.target-iterator)))
    ≡ all_done l.nick l.initial.turn (flat_map (said_to l.nick l.verb (parameter 1 l.line)) (pieces 44 (parameter 0 l.line)))

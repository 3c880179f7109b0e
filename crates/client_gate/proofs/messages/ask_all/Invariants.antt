use Rattle.std.proofs.Common.{◌≡◌, map}
use Rattle.std.specs.Prelude.{flat_map}
use Rattle.std.specs.Vec.Iter.{into_iter_items}
use Rattle.client_gate.specs.Serving.{about_word, about_words}
use Rattle.client_gate.specs.Turns.{all_done}
use Rattle.client_gate.proofs.messages.ask_all.Given as goal

abbrev pub invariant-loop-word : goal.invariant-loop-word
invariant-loop-word l =
    all_done l.nick l.turn (flat_map (about_word l.nick l.verb) (map (λ x. x.now) (into_iter_items l.word-iterator))) ≡ all_done l.nick l.initial.turn (about_words l.nick l.verb l.list)

use Rattle.std.proofs.Common.{◌≡◌, ◌++◌, drop}
use Rattle.recorder.specs.EffectWords.{answer_lines}
use Rattle.recorder.proofs.effects.push_answers.Given as goal

abbrev pub invariant-loop-answer : goal.invariant-loop-answer
invariant-loop-answer g l =
    l.out.items ++ answer_lines g.E.Words.words l.place (drop l.answer-index l.answers) ≡ l.initial.out.items ++ answer_lines g.E.Words.words l.place l.answers

use Rattle.std.proofs.Common.{◌≡◌}
use Rattle.std.specs.Vec.Iter.{into_iter_items}
use Rattle.driver.specs.declared.driver.Driver.{Driver}
use Rattle.driver.specs.Answering.{AnswersAll, answered_as}
use Rattle.driver.proofs.driver.Driver.answer_each.Given as goal

-- once what is left is answered, all is; nothing changes but what words may change
abbrev pub invariant-loop-word : goal.invariant-loop-word
invariant-loop-word l =
    ((new : Driver) → AnswersAll (into_iter_items l.word-iterator) l.now.ms l.number l.self new
    → AnswersAll l.fn.words.items l.now.ms l.number l.initial.self new)
    × (l.self ≡ answered_as l.self l.initial.self)

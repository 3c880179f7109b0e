use Rattle.std.proofs.Common.{◌≡◌, ◌∙◌, sym, []}
use Rattle.std.proofs.lemmas.List.{nil_from_length}
use Rattle.std.specs.Vec.Iter.{into_iter_items}
use Rattle.driver.proofs.Answered.{answer_rest, rest_both}
use Rattle.driver.proofs.Listing.{answer_more, answer_none}
use Rattle.driver.proofs.driver.Driver.answer_each.Goals as goal

pub loop-word-preserved : goal.loop-word-preserved
loop-word-preserved c = (
  λ new more.
      c.loop-word.invariant.0 new
      (answer_more c.args.now.now.ms c.args.number c.in-Some.word (into_iter_items c.loop-word.word-iterator) (into_iter_items c.next.new.self) c.loop-word.self c.answer.new.self new c.in-Some.ensures.steps.0 c.in_ok-answer.ensures.answered more),
  rest_both c.args.self.now c.loop-word.self c.answer.new.self c.loop-word.invariant.1
      (answer_rest c.in-Some.word c.args.now.now.ms c.args.number c.loop-word.self c.answer.new.self c.in_ok-answer.ensures.answered),
)

pub returns-clause-answered : goal.returns-clause-answered
returns-clause-answered c =
    let left = into_iter_items c.loop-word.word-iterator in
    let none : left ≡ [] = nil_from_length left (sym c.loop-word.word-iterator.rest.ok.0 ∙ c.in-None.ensures.steps.0) in
    c.loop-word.invariant.0 c.loop-word.self (answer_none c.args.now.now.ms c.args.number left c.loop-word.self none)

use Rattle.std.proofs.Common.{rules, ◌≡◌, Some, None}
use Rattle.std.proofs.lemmas.Grind.{common_steps}
use Rattle.recorder.specs.Kinds.{kind_of_word}
use Rattle.recorder.specs.Splits.{split_at}
use Rattle.recorder.proofs.Beginnings.{input_read, no_input, no_kind}
use Rattle.recorder.proofs.input.read_input.Goals as goal

pub returns-in-Some-of_word : goal.returns-in-Some-of_word
returns-in-Some-of_word g c =
    let s : split_at 32 c.args.line.now ≡ Some (c.in-Some.word.now, c.in-Some.rest.now) = search (rules, common_steps) in
    let k : kind_of_word c.in-Some.word.now ≡ Some c.in-Some-of_word.kind = search (rules, common_steps) in
    input_read g.B.Wire.spelled g.B.Wire.fits c.args.line.now _ _ _ c.read_fields.result s k c.read_fields.ensures

pub returns-in-None-of_word : goal.returns-in-None-of_word
returns-in-None-of_word g c =
    let s : split_at 32 c.args.line.now ≡ Some (c.in-Some.word.now, c.in-Some.rest.now) = search (rules, common_steps) in
    let k : kind_of_word c.in-Some.word.now ≡ None = search (rules, common_steps) in
    no_kind g.B.Wire.spelled g.B.Wire.fits c.args.line.now _ _ s k

pub returns-in-None : goal.returns-in-None
returns-in-None g c =
    let s : split_at 32 c.args.line.now ≡ None = search (rules, common_steps) in
    no_input g.B.Wire.spelled g.B.Wire.fits c.args.line.now s

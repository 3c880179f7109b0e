use Rattle.std.proofs.Common.{rules, ◌≡◌, Some, None}
use Rattle.std.proofs.lemmas.Grind.{common_steps}
use Rattle.recorder.specs.Splits.{split_at}
use Rattle.recorder.proofs.Fronts.{no_front, other_front, front_is}
use Rattle.recorder.proofs.fields.number_first.Goals as goal

pub returns-in-Some-read_number : goal.returns-in-Some-read_number
returns-in-Some-read_number c =
    let s : split_at 32 c.args.bytes.now ≡ Some (c.in-Some.front.now, c.in-Some.tail.now) = search (rules, common_steps) in
    (c.in-Some-read_number.ensures.0, front_is c.args.bytes.now _ _ _ s c.in-Some-read_number.ensures.1)

pub returns-in-None-read_number : goal.returns-in-None-read_number
returns-in-None-read_number c =
    let s : split_at 32 c.args.bytes.now ≡ Some (c.in-Some.front.now, c.in-Some.tail.now) = search (rules, common_steps) in
    λ p h e. c.in-None-read_number.ensures p.0 h (other_front c.args.bytes.now _ _ s p h e)

pub returns-in-None : goal.returns-in-None
returns-in-None c =
    let s : split_at 32 c.args.bytes.now ≡ None = search (rules, common_steps) in
    λ p h e. no_front c.args.bytes.now s p h e

use Rattle.std.proofs.Common.{rules, ◌≡◌, None, subst, arith}
use Rattle.std.proofs.lemmas.Grind.{common_steps}
use Rattle.std.specs.Prelude.{Option}
use Rattle.irc_line.specs.Lines.{Parts, spelling}
use Rattle.wire_bytes.specs.Contents.{FitsLine}
use Rattle.recorder.specs.EventText.{number_and}
use Rattle.recorder.specs.Readings.{ReadsAs}
use Rattle.recorder.proofs.ByKind.{behind_node, behind_number, one_number, of_heard}
use Rattle.recorder.proofs.input.read_heard.Goals as goal

pub returns-then-seconds-gt-LAST_SECOND : goal.returns-then-seconds-gt-LAST_SECOND
returns-then-seconds-gt-LAST_SECOND g c =
    let rest = c.args.rest.now in
    let front = c.in-Some-number_first in
    of_heard g.B.Wire.spelled g.B.Wire.fits (λ _. ⊥) rest (λ n at l node limit fit e.
    let first : number_and at (spelling l) ≡ c.in-Some.behind.now = behind_node rest c.in-Some.behind.now c.in-Some.node c.in-Some.ensures.0 c.in-Some.ensures.1 n (number_and at (spelling l)) node e in
    let one = one_number c.in-Some.node-1-own.given.0.0.1.now front.spelled.now front.seconds front.ensures.0 front.ensures.1 at (spelling l) (omega (arith, limit)) (search (rules, common_steps)) in
    omega (arith, one, limit, c.if-seconds-gt-LAST_SECOND.true))

pub returns-in-None-2 : goal.returns-in-None-2
returns-in-None-2 g c =
    let rest = c.args.rest.now in
    let front = c.in-Some-number_first in
    let none : ReadsAs spelling FitsLine front.spelled.now None =
    subst (λ (o : Option Parts). ReadsAs spelling FitsLine front.spelled.now o) c.in-None-2.is c.in_ok-line-in-Some-number_first.ensures in
    of_heard g.B.Wire.spelled g.B.Wire.fits (λ _. ⊥) rest (λ n at l node limit fit e.
    let first : number_and at (spelling l) ≡ c.in-Some.behind.now = behind_node rest c.in-Some.behind.now c.in-Some.node c.in-Some.ensures.0 c.in-Some.ensures.1 n (number_and at (spelling l)) node e in
    none l fit (behind_number c.in-Some.node-1-own.given.0.0.1.now front.spelled.now front.seconds front.ensures.0 front.ensures.1 at (spelling l) (omega (arith, limit)) (search (rules, common_steps))))

pub returns-in-None-number_first : goal.returns-in-None-number_first
returns-in-None-number_first g c =
    let rest = c.args.rest.now in
    of_heard g.B.Wire.spelled g.B.Wire.fits (λ _. ⊥) rest (λ n at l node limit fit e.
    let first : number_and at (spelling l) ≡ c.in-Some.behind.now = behind_node rest c.in-Some.behind.now c.in-Some.node c.in-Some.ensures.0 c.in-Some.ensures.1 n (number_and at (spelling l)) node e in
    c.in-None-number_first.ensures (at, spelling l) (omega (arith, limit)) (search (rules, common_steps)))

pub returns-in-None : goal.returns-in-None
returns-in-None g c = of_heard g.B.Wire.spelled g.B.Wire.fits (λ _. ⊥) c.args.rest.now (λ n at l node limit fit e. c.in-None.ensures (n, number_and at (spelling l)) node e)

use Rattle.std.proofs.Common.{rules, ◌≡◌, subst}
use Rattle.std.proofs.lemmas.Grind.{common_steps}
use Rattle.std.specs.Prelude.{Option}
use Rattle.hex.specs.Hex.{encode_lower}
use Rattle.recorder.specs.Readings.{FitsDigits, ReadsAs, digits_of}
use Rattle.recorder.proofs.ByKind.{behind_node, of_ask}
use Rattle.recorder.proofs.input.read_ask.Goals as goal

pub returns-in-None-2 : goal.returns-in-None-2
returns-in-None-2 g c =
    let w = g.B.Wire in
    let rest = c.args.rest.now in
    let none = subst (λ (o : Option g.row.B.Denot). ReadsAs (digits_of w.spelled) (FitsDigits w.fits w.spelled) c.in-Some.node-1-own.given.0.0.1.now o) c.in-None-2.is c.in_ok-body-in-Some.ensures in
    of_ask w.spelled w.fits (λ _. ⊥) rest (λ n b node fit e.
    let behind : encode_lower (w.spelled b) ≡ c.in-Some.digits.now = behind_node rest c.in-Some.digits.now c.in-Some.node c.in-Some.ensures.0 c.in-Some.ensures.1 n (encode_lower (w.spelled b)) node e in
    none b fit (search (rules, common_steps)))

pub returns-in-None : goal.returns-in-None
returns-in-None g c = of_ask g.B.Wire.spelled g.B.Wire.fits (λ _. ⊥) c.args.rest.now (λ n b node fit e. c.in-None.ensures (n, encode_lower (g.B.Wire.spelled b)) node e)

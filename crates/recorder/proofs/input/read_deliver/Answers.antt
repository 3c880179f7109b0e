use Rattle.std.proofs.Common.{rules, ◌≡◌}
use Rattle.std.proofs.lemmas.Grind.{common_steps}
use Rattle.std.specs.Prelude.{decimal}
use Rattle.recorder.proofs.ByKind.{behind_node, of_deliver}
use Rattle.recorder.proofs.input.read_deliver.Goals as goal

pub returns-in-None-read_number : goal.returns-in-None-read_number
returns-in-None-read_number g c =
    let rest = c.args.rest.now in
    of_deliver g.B.Wire.spelled g.B.Wire.fits (λ _. ⊥) rest (λ n k node small e.
    let behind : decimal k ≡ c.in-Some.digits.now = behind_node rest c.in-Some.digits.now c.in-Some.node c.in-Some.ensures.0 c.in-Some.ensures.1 n (decimal k) node e in
    c.in-None-read_number.ensures k small (search (rules, common_steps)))

pub returns-in-None : goal.returns-in-None
returns-in-None g c = of_deliver g.B.Wire.spelled g.B.Wire.fits (λ _. ⊥) c.args.rest.now (λ n k node small e. c.in-None.ensures (n, decimal k) node e)

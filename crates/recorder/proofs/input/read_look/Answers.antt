use Rattle.std.proofs.Common.{rules, ◌≡◌, ℕ, List, None, subst}
use Rattle.std.proofs.lemmas.Grind.{common_steps}
use Rattle.std.specs.Prelude.{Option}
use Rattle.recorder.specs.EventText.{number_and}
use Rattle.recorder.specs.Readings.{IsNameText, ReadsAs, own_text}
use Rattle.recorder.proofs.ByKind.{behind_node, behind_number, of_look}
use Rattle.recorder.proofs.input.read_look.Goals as goal

pub returns-in-None-2 : goal.returns-in-None-2
returns-in-None-2 g c =
    let rest = c.args.rest.now in
    let front = c.in-Some-number_first in
    let none : ReadsAs own_text IsNameText front.target.now None =
    subst (λ (o : Option (List ℕ)). ReadsAs own_text IsNameText front.target.now o) c.in-None-2.is c.in_ok-target-in-Some-number_first.ensures in
    of_look g.B.Wire.spelled g.B.Wire.fits (λ _. ⊥) rest (λ n place target node limit fit e.
    let first : number_and place target ≡ c.in-Some.behind.now = behind_node rest c.in-Some.behind.now c.in-Some.node c.in-Some.ensures.0 c.in-Some.ensures.1 n (number_and place target) node e in
    none target fit (behind_number c.in-Some.node-1-own.given.0.0.1.now front.target.now front.place front.ensures.0 front.ensures.1 place target limit (search (rules, common_steps))))

pub returns-in-None-number_first : goal.returns-in-None-number_first
returns-in-None-number_first g c =
    let rest = c.args.rest.now in
    of_look g.B.Wire.spelled g.B.Wire.fits (λ _. ⊥) rest (λ n place target node limit fit e.
    let first : number_and place target ≡ c.in-Some.behind.now = behind_node rest c.in-Some.behind.now c.in-Some.node c.in-Some.ensures.0 c.in-Some.ensures.1 n (number_and place target) node e in
    c.in-None-number_first.ensures (place, target) limit (search (rules, common_steps)))

pub returns-in-None : goal.returns-in-None
returns-in-None g c = of_look g.B.Wire.spelled g.B.Wire.fits (λ _. ⊥) c.args.rest.now (λ n place target node limit fit e. c.in-None.ensures (n, number_and place target) node e)

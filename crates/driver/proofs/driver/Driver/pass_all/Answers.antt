use Rattle.std.proofs.Common.{rules, ◌≡◌, ◌+◌, ◌∷◌, ◌∙◌, [], List, ap, sym, drop, get_or}
use Rattle.std.proofs.lemmas.List.{at_drop_more, drop_all}
use Rattle.client_gate.specs.Gates.{GateEffect}
use Rattle.driver.proofs.Passing.{pass_more, pass_none}
use Rattle.driver.proofs.driver.Driver.pass_all.Goals as goal

pub loop-effect-preserved : goal.loop-effect-preserved
loop-effect-preserved c new more =
    let now = c.args.now.now in
    let effects = c.args.effects.now in
    let i = c.loop-effect.effect-index in
    let effect = c.effect-item.result in
    let same : effect ≡ get_or effects i effect = search rules in
    let split : drop i effects ≡ effect ∷ drop (i + 1) effects =
    at_drop_more (λ (left : List GateEffect). left) effects i effect c.loop-effect-test.true ∙ ap (λ (effect : GateEffect). effect ∷ drop (i + 1) effects) (sym same) in
    c.loop-effect.invariant new
    (pass_more now.ms now.at c.args.node effect (drop i effects) (drop (i + 1) effects) c.loop-effect.self c.pass.new.self new split c.in_ok-pass.ensures more)

pub returns : goal.returns
returns c =
    let effects = c.args.effects.now in
    let i = c.loop-effect.effect-index in
    let last = c.loop-effect.self in
    let none : drop i effects ≡ [] = drop_all i effects (search rules) in
    c.loop-effect.invariant last (pass_none c.args.now.now.ms c.args.now.now.at c.args.node (drop i effects) last none)

use Rattle.std.proofs.Common.{ap, ◌∙◌}
use Rattle.irc_line.specs.declared.line.Line.{Line}
use denote.Bor.{Bor}
use Rattle.world_run.proofs.Handing.{all_are_told, hand_told, none_told}
use Rattle.world_run.proofs.handed.push_handed.Goals.{in-Hand+in_ok-push, in_default}
use Rattle.world_run.proofs.handed.push_handed.Goals as goal

pub loop-effect-preserved : goal.loop-effect-preserved
loop-effect-preserved g c =
    let effects = c.args.effects.now in
    let k = c.loop-effect.effect-index in
    let lines = c.loop-effect.lines.items in
    elim c.match-class.branch [
      | in-Hand+in_ok-push w ↦
          hand_told g.M.Hosted.class (λ (l : Bor Line). l.now) effects k c.effect-item.result c.class.result w.in-Hand.field-0 w.in-Hand.number w.in-Hand.line lines c.match-class.lines.items _
          c.loop-effect-test.true c.effect-item.is c.class.ensures w.in-Hand.is (ap (λ v. v.items) w.lines-is ∙ w.in_ok-push.ensures.items) c.loop-effect.invariant
      | in_default w ↦
          none_told g.M.Hosted.class (λ (l : Bor Line). l.now) effects k c.effect-item.result c.class.result lines c.match-class.lines.items _
          c.loop-effect-test.true c.effect-item.is c.class.ensures w.in_default.not-Hand (ap (λ v. v.items) w.lines-is) c.loop-effect.invariant
    ]

pub returns : goal.returns
returns g c = all_are_told g.M.Hosted.class c.args.effects.now c.loop-effect.effect-index _ _ c.loop-effect-test.false c.loop-effect.invariant

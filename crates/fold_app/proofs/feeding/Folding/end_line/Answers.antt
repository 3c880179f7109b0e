use Rattle.std.proofs.Common.{rules, ◌≡◌, ◌++◌, [], refl, sym, ap, ◌∙◌}
use Rattle.std.proofs.lemmas.Result.{on_ok_weaker, IfErr-weaker}
use Rattle.std.proofs.lemmas.Grind.{common_steps}
use Rattle.fold_app.proofs.Carrying.{line_folded, line_bad}
use Rattle.fold_app.proofs.feeding.Folding.end_line.Goals as goal

pub returns-then-is_empty-clause-folded : goal.returns-then-is_empty-clause-folded
returns-then-is_empty-clause-folded g c =
    let f = c.args.self.now in
    let empty : f.begun.items ≡ [] = search (rules, common_steps) in
    on_ok_weaker c.fold_line.result (λ x. line_folded g.M.Machine.stands g.M.Machine.effects c.args.machine.now f c.args.end.now c.args.end.now _ _ x.0 c.requires.line (ap (λ t. t ++ c.args.end.now) empty) x.1 x.2 refl empty) c.fold_line.ensures.applied

pub returns-then-is_empty-clause-err : goal.returns-then-is_empty-clause-err
returns-then-is_empty-clause-err g c =
    let f = c.args.self.now in
    let empty : f.begun.items ≡ [] = search (rules, common_steps) in
    IfErr-weaker c.fold_line.result _ _ (λ e bad other. line_bad g.M.Machine.stands g.M.Machine.effects c.args.machine.now f c.args.end.now c.args.end.now e c.requires.line (ap (λ t. t ++ c.args.end.now) empty) (bad other)) c.fold_line.ensures.err

pub returns-clause-folded : goal.returns-clause-folded
returns-clause-folded g c =
    on_ok_weaker c.fold_line-folded.result (λ x. line_folded g.M.Machine.stands g.M.Machine.effects c.args.machine.now c.args.self.now c.args.end.now _ _ _ x.0 c.requires.line (sym (c.deref.ensures.value ∙ c.in_ok-extend_from_slice.ensures.items)) x.1 x.2 refl c.clear.ensures.items) c.fold_line-folded.ensures.applied

pub returns-clause-err : goal.returns-clause-err
returns-clause-err g c =
    IfErr-weaker c.fold_line-folded.result _ _ (λ e bad other. line_bad g.M.Machine.stands g.M.Machine.effects c.args.machine.now c.args.self.now c.args.end.now _ e c.requires.line (sym (c.deref.ensures.value ∙ c.in_ok-extend_from_slice.ensures.items)) (bad other)) c.fold_line-folded.ensures.err

use Rattle.std.proofs.Common.{◌∷◌, ◌++◌, [], arith, ◌∙◌}
use Rattle.std.proofs.lemmas.Result.{err_from_is_err_and}
use Rattle.fold_app.proofs.Carrying.{folds_more, fails_more, cut_length, cut_gone}
use Rattle.fold_app.proofs.feeding.Folding.feed_lines.Goals as goal

pub returns-in_err-end_line-clause-err : goal.returns-in_err-end_line-clause-err
returns-in_err-end_line-clause-err g c =
    let inv = c.loop-end.invariant in
    let gone = inv.3.0 in
    let p = err_from_is_err_and c.from_residual.result c.from_residual.ensures.1 in
    rw p.1 (λ other.
    fails_more g.M.Machine.stands g.M.Machine.effects c.args.machine.now c.args.self.now gone c.loop-end.machine c.loop-end.self (c.in-Some.end.now ++ 10 ∷ []) c.in-Some.behind.now c.args.piece.now p.0
    inv.3.2 (rw p.2 (c.in_err-end_line.ensures.err (rw p.2 at other))) (cut_gone gone c.loop-end.rest.now c.in-Some.end.now c.in-Some.behind.now c.args.piece.now c.in-Some.ensures.1 inv.3.1))

pub loop-end-preserved : goal.loop-end-preserved
loop-end-preserved g c =
    let inv = c.loop-end.invariant in
    let gone = inv.3.0 in
    let end = c.in-Some.end.now in
    let behind = c.in-Some.behind.now in (
      omega (arith, inv.0, c.in_ok-end_line.ensures.room, cut_length c.loop-end.rest.now end behind c.in-Some.ensures.1),
      c.in_ok-end_line.ensures.whole,
      c.in_ok-end_line.ensures.kept ∙ inv.2,
      (
        gone ++ (end ++ 10 ∷ []),
        cut_gone gone c.loop-end.rest.now end behind c.args.piece.now c.in-Some.ensures.1 inv.3.1,
        folds_more g.M.Machine.stands g.M.Machine.effects c.args.machine.now c.args.self.now gone c.loop-end.machine c.loop-end.self (end ++ 10 ∷ []) c.end_line.new.machine c.end_line.new.self inv.3.2 c.in_ok-end_line.ensures.folded,
      ),
    )

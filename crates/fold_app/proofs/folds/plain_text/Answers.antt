use Rattle.std.proofs.lemmas.Result.{IfOk-weaker, IfErr-weaker}
use Rattle.buffer_commands.specs.Settings.{plain}
use Rattle.fold_app.specs.Fold.{plain_answers}
use Rattle.fold_app.proofs.Carrying.{if_known}
use Rattle.fold_app.proofs.folds.plain_text.Goals as goal

pub returns-clause-ok : goal.returns-clause-ok
unfolding plain_answers
returns-clause-ok g c =
    IfOk-weaker c.fold_reads.result _ _ (λ text. if_known (g.R.Read.remaining c.args.input.now) _ _ (λ bytes h. h plain (rw c.in_ok-setup.ensures at c.in_ok-machine.ensures))) c.fold_reads.ensures.ok

pub returns-clause-line : goal.returns-clause-line
unfolding plain_answers
returns-clause-line g c =
    IfErr-weaker c.fold_reads.result _ _ (λ e h kind. if_known (g.R.Read.remaining c.args.input.now) _ _ (λ bytes k. k plain) (h kind)) c.fold_reads.ensures.line

use Rattle.std.proofs.Common.{rules, ◌≡◌, ◌<◌, [], None, length, sym, ap, ◌∙◌}
use Rattle.std.proofs.lemmas.Grind.{common_steps}
use Rattle.std.proofs.lemmas.Result.{err_from_is_err_and}
use Rattle.fold_app.proofs.Carrying.{gives_found, gives_bad, gives_good, gives_even}
use Rattle.fold_app.specs.Fold.{judged_line}
use Rattle.fold_app.proofs.feeding.Folding.finish.Goals as goal
use Rattle.fold_app.proofs.feeding.Folding.finish.Goals.{then-not-is_empty+in_ok-fold_line, else-not-is_empty}

pub returns-in-Some-clause-err : goal.returns-in-Some-clause-err
returns-in-Some-clause-err g c = gives_found g.M.Machine.stands g.M.Machine.effects c.args.machine.now c.args.self c.in-Some.fault c.in-Some.is

pub returns-in_err-fold_line-clause-err : goal.returns-in_err-fold_line-clause-err
returns-in_err-fold_line-clause-err g c =
    let f = c.args.self in
    let none : f.fault ≡ None = search (rules, common_steps) in
    let some : 0 < length f.begun.items = search (rules, common_steps) in
    let p = err_from_is_err_and c.from_residual.result c.from_residual.ensures.1 in
    rw (p.1, p.2) (gives_bad g.M.Machine.stands g.M.Machine.effects c.args.machine.now f c.in_err-fold_line.field-0.0 none some (λ other. ap (judged_line _) (sym c.deref.ensures.value) ∙ c.in_err-fold_line.ensures.err other) c.in_err-fold_line.ensures.fault)

pub returns-clause-ok : goal.returns-clause-ok
returns-clause-ok g c =
    let f = c.args.self in
    let none : f.fault ≡ None = search (rules, common_steps) in
    elim c.if-not-is_empty.branch [
      | then-not-is_empty+in_ok-fold_line w ↦
          let some : 0 < length f.begun.items = search (rules, common_steps) in
          let x = w.in_ok-fold_line.ensures.applied in
          rw w.self-is (gives_good g.M.Machine.stands g.M.Machine.effects c.args.machine.now f x.0 _ _ none some (ap (judged_line _) (sym w.deref.ensures.value) ∙ x.1) x.2)
      | else-not-is_empty w ↦
          let empty : f.begun.items ≡ [] = search (rules, common_steps) in
          rw w.self-is (gives_even g.M.Machine.stands g.M.Machine.effects c.args.machine.now f none empty)
    ]

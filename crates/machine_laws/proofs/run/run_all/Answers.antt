use Rattle.std.proofs.Common.{◌+◌, ◌∷◌, get_or, subst, take, inr, rules}
use Rattle.std.proofs.lemmas.Result.{err_from_is_err_and}
use Rattle.machine_laws.specs.Runs.{run}
use Rattle.machine_laws.proofs.Come.{after_some}
use Rattle.machine_laws.proofs.run.run_all.Goals as goal

pub returns-in_err-append-clause-refused : goal.returns-in_err-append-clause-refused
returns-in_err-append-clause-refused g c = λ s st.
    let p = err_from_is_err_and c.from_residual-in_err-append.result c.from_residual-in_err-append.ensures.1 in
    let stands = g.M.Machine.stands c.apply.new.self s in
    let item = c.command-item.result in
    let came : stands ((c.loop-command.place + 1, item) ∷ run (take c.loop-command.command-index c.args.commands.now)) = c.in_ok-effects.ensures.stands s _ (c.loop-command.invariant.1 s st).0 in
    let placed : stands ((c.loop-command.command-index + 1, item) ∷ run (take c.loop-command.command-index c.args.commands.now)) = subst (λ n. stands ((n + 1, item) ∷ run (take c.loop-command.command-index c.args.commands.now))) c.loop-command.invariant.0 came in
    let known : stands ((c.loop-command.command-index + 1, get_or c.args.commands.now c.loop-command.command-index item) ∷ run (take c.loop-command.command-index c.args.commands.now)) = subst (λ x. stands ((c.loop-command.command-index + 1, x) ∷ run (take c.loop-command.command-index c.args.commands.now))) c.command-item.is placed in
    rw p.1 (inr (after_some stands c.args.commands.now c.loop-command.command-index item (search rules) known))

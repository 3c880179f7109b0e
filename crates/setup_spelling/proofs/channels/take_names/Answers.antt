use Rattle.std.proofs.Common.{sym, ap, ◌∙◌, arith}
use Rattle.std.proofs.lemmas.Result.{err_from_is_err_and}
use Rattle.setup_spelling.specs.Spelling.{last_of}
use Rattle.setup_spelling.proofs.NameSteps.{joined, joined-nothing, names_end, names_stop, one_more}
use Rattle.setup_spelling.proofs.channels.take_names.Goals as goal

pub returns-in_err-name-clause-err : goal.returns-in_err-name-clause-err
returns-in_err-name-clause-err c =
    let p = err_from_is_err_and c.from_residual.result c.from_residual.ensures.1 in
    rw (p.1, p.2) (λ h.
    let stops = rw c.deref.ensures.value at (c.in_err-name.ensures.err h) in
    sym c.loop-left.invariant.same ∙ ap (joined c.loop-left.names.items) (names_stop c.args.input.now c.loop-left.end c.loop-left.left (last_of c.loop-left.names.items) _ (omega arith) stops))

pub loop-left-preserved : goal.loop-left-preserved
loop-left-preserved c =
    let read = rw c.deref.ensures.value at c.in_ok-name.ensures.ok in
    record {
      same = one_more c.args.input.now c.args.place c.args.count c.loop-left.end c.in_ok-name.next c.loop-left.left c.loop-left.names.items c.push.new.self.items c.in_ok-name.name (omega arith) c.in_ok-push.ensures.items c.loop-left.invariant.same read;
      within = c.in_ok-name.ensures.within;
    }

pub returns-clause-ok : goal.returns-clause-ok
returns-clause-ok c =
    sym c.loop-left.invariant.same
    ∙ (ap (joined c.loop-left.names.items) (names_end c.args.input.now c.loop-left.end c.loop-left.left (last_of c.loop-left.names.items) (omega arith))
    ∙ joined-nothing c.loop-left.names.items c.loop-left.end)

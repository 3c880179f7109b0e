use Rattle.std.proofs.Common.{Bool, false, slice_index_or, subst}
use Rattle.bouncer_run.specs.Turns.{MayBeRead}
use Rattle.bouncer_run.proofs.Elements.{all_of_them, one_more}
use Rattle.bouncer_run.proofs.queue.first.Goals as goal

pub loop-index-preserved : goal.loop-index-preserved
loop-index-preserved c =
    let tokens = c.args.tokens.now in
    let index = c.loop-index.index in
    one_more (λ token. MayBeRead c.args.driver.now token false)
    tokens index 0 c.loop-index-test.true c.loop-index.invariant
    (subst (λ (reads : Bool). MayBeRead c.args.driver.now (slice_index_or tokens index 0) reads) c.if-may_be_read.false c.may_be_read.ensures)

pub returns-clause-nobody : goal.returns-clause-nobody
returns-clause-nobody c =
    all_of_them (λ token. MayBeRead c.args.driver.now token false)
    c.args.tokens.now c.loop-index.index c.loop-index-test.false c.loop-index.invariant

use Rattle.std.proofs.Common.{sym, ◌∙◌, ap}
use Rattle.upstream_claim.specs.Numbered.{handed}
use Rattle.upstream_claim.proofs.Waiting.{claim-by}
use Rattle.upstream_claim.proofs.step.hand.Goals as goal

pub returns-in-Some-clause-answers : goal.returns-in-Some-clause-answers
returns-in-Some-clause-answers g c = λ q k.
    let b = claim-by {E = g.row.E.Denot} c.claim.result c.args.unclaimed.now.count c.args.number c.claim.new.self.count c.args.unclaimed.now.lines.items c.claim.new.self.lines.items q c.args.id k c.claim.ensures.line c.claim.ensures.lines c.claim.ensures.count in
    let e = ap (handed {E = g.row.E.Denot} c.args.id c.args.number) (sym c.in-Some.is) ∙ b.1 in
    rw (← e) (rw c.value.ensures.value at c.single.ensures)

pub returns-in-Some-clause-kept : goal.returns-in-Some-clause-kept
returns-in-Some-clause-kept g c = λ q k.
    (claim-by {E = g.row.E.Denot} c.claim.result c.args.unclaimed.now.count c.args.number c.claim.new.self.count c.args.unclaimed.now.lines.items c.claim.new.self.lines.items q c.args.id k c.claim.ensures.line c.claim.ensures.lines c.claim.ensures.count).0

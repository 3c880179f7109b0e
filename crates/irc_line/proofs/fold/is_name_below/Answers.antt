use Rattle.std.proofs.Common.{sym, ◌∙◌, rules, ◌≤◌, length}
use Rattle.irc_line.proofs.Order.{below_ends}
use Rattle.irc_line.proofs.fold.is_name_below.Goals as goal

pub returns : goal.returns
returns c =
    let within_a : c.loop-i.i ≤ length c.args.a.now = search rules in
    let within_b : c.loop-i.i ≤ length c.args.b.now = search rules in
    sym (below_ends c.args.a.now c.args.b.now c.loop-i.i within_a within_b (λ l. search rules)) ∙ c.loop-i.invariant

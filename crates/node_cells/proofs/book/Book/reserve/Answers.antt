use Rattle.std.proofs.Common.{rules, arith, ◌+◌, ◌^◌, ◌≤◌, length, suc, subst}
use Rattle.ether.specs.Passes.{view_of}
use Rattle.node_cells.specs.Books.{BookParts}
use Rattle.node_cells.proofs.book.Book.reserve.Given as given
use Rattle.node_cells.proofs.book.Book.reserve.Goals as goal

abbrev BookOf : given.Over → Type 0
BookOf g = BookParts g.row.M-Setup.Denot g.row.M-Command.Denot g.row.M-Line.Denot g.row.M-Target.Denot g.row.M-Effect.Denot g.row.M-Played.Denot

pub returns-else-is_err : goal.returns-else-is_err
returns-else-is_err g c =
    let ticks = c.self.invariant.opened.0.ticks in
    let few : c.self.inside.pass.ticks + c.args.count + 1 ≤ 2 ^ 60 = search rules in
    record {
      room = search rules;
      none_made = search rules;
      tickets = subst (λ (z : BookOf g). length (view_of z.pass).turns + suc c.args.count ≤ 2 ^ 60) c.self.view_is (omega (arith, ticks, few));
      same = search rules;
    }

pub returns-in-Off : goal.returns-in-Off
returns-in-Off g c =
    let ticks = c.self.invariant.opened.0.ticks in
    let few : c.self.inside.pass.ticks + c.args.count + 1 ≤ 2 ^ 60 = search rules in
    record {
      room = search rules;
      none_made = search rules;
      tickets = subst (λ (z : BookOf g). length (view_of z.pass).turns + suc c.args.count ≤ 2 ^ 60) c.self.view_is (omega (arith, ticks, few));
      same = search rules;
    }

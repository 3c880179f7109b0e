use Rattle.std.proofs.Common.{rules, ◌≤◌, ◌≡◌, false}
use Rattle.std.specs.Option.{is_some}
use Rattle.driver.specs.declared.driver.writing.TheConstants.{MOST_AT_ONCE}
use Rattle.driver.specs.Writing.{piece_of}
use Rattle.driver.proofs.Writing.{write_last, write_more, write_none}
use Rattle.driver.proofs.driver.Driver.write_lines.Goals as goal

pub loop-preserved : goal.loop-preserved
loop-preserved c new more =
    c.loop.invariant new
    (write_more c.loop.counter MOST_AT_ONCE c.args.now.now.ms c.args.node c.loop.self c.write_line.new.self new c.loop-test.true c.in_ok-write_line.ensures.written more)

pub returns-then-not-branch : goal.returns-then-not-branch
returns-then-not-branch c =
    let none : is_some (piece_of c.args.now.now.ms c.args.node c.loop.self) ≡ false = search rules in
    c.loop.invariant c.write_line.new.self
    (write_last c.loop.counter MOST_AT_ONCE c.args.now.now.ms c.args.node c.loop.self c.write_line.new.self c.loop-test.true none c.in_ok-write_line.ensures.written)

pub returns : goal.returns
returns c =
    let over : MOST_AT_ONCE ≤ c.loop.counter = search rules in
    c.loop.invariant c.loop.self (write_none c.loop.counter MOST_AT_ONCE c.args.now.now.ms c.args.node c.loop.self over)

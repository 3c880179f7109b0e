use Rattle.std.proofs.Common.{◌≡◌, ◌∙◌, sym, []}
use Rattle.std.proofs.lemmas.List.{nil_from_length}
use Rattle.std.specs.Vec.Iter.{into_iter_items}
use Rattle.driver.specs.Crowds.{LeavesClient, told}
use Rattle.driver.proofs.Crowds.{leave_more, leave_none}
use Rattle.driver.proofs.clients.Clients.leave_runs_below.Goals as goal

pub loop-number-preserved : goal.loop-number-preserved
loop-number-preserved c new more =
    let old = told c.loop-number.self c.loop-number.orders in
    let behind = told c.leave_if_below.new.self c.leave_if_below.new.orders in
    let always = c.leave_if_below.ensures in
    let done = c.in_ok-leave_if_below.ensures in
    let does : LeavesClient c.args.now.now.at c.args.node c.args.boot c.in-Some.number old behind =
    record { others = always.others; nobody = always.nobody; stays = always.stays; leaves = done.leaves; orders = done.told } in
    c.loop-number.invariant new
    (leave_more c.args.now.now.at c.args.node c.args.boot c.in-Some.number (into_iter_items c.loop-number.number-iterator) (into_iter_items c.next.new.self) old behind new c.in-Some.ensures.steps.0 does more)

pub returns : goal.returns
returns c =
    let left = into_iter_items c.loop-number.number-iterator in
    let last = told c.loop-number.self c.loop-number.orders in
    let none : left ≡ [] = nil_from_length left (sym c.loop-number.number-iterator.rest.ok.0 ∙ c.in-None.ensures.steps.0) in
    c.loop-number.invariant last (leave_none c.args.now.now.at c.args.node c.args.boot left last none)

use Rattle.std.proofs.Common.{◌≡◌, ◌∙◌, sym, []}
use Rattle.std.proofs.lemmas.List.{nil_from_length}
use Rattle.std.specs.Vec.Iter.{into_iter_items}
use Rattle.driver.specs.Crowds.{DismissesClient, told}
use Rattle.driver.proofs.Crowds.{dismiss_more, dismiss_none}
use Rattle.driver.proofs.clients.Clients.dismiss_all.Goals as goal

pub loop-number-preserved : goal.loop-number-preserved
loop-number-preserved c new more =
    let old = told c.loop-number.self c.loop-number.orders in
    let behind = told c.dismiss.new.self c.dismiss.new.orders in
    let always = c.dismiss.ensures in
    let does : DismissesClient c.args.now.now.at c.args.now.now.ms c.in-Some.number old behind =
    record { others = always.others; nobody = always.nobody; served = c.in_ok-dismiss.ensures.served } in
    c.loop-number.invariant new
    (dismiss_more c.args.now.now.at c.args.now.now.ms c.in-Some.number (into_iter_items c.loop-number.number-iterator) (into_iter_items c.next.new.self) old behind new c.in-Some.ensures.steps.0 does more)

pub returns : goal.returns
returns c =
    let left = into_iter_items c.loop-number.number-iterator in
    let last = told c.loop-number.self c.loop-number.orders in
    let none : left ≡ [] = nil_from_length left (sym c.loop-number.number-iterator.rest.ok.0 ∙ c.in-None.ensures.steps.0) in
    c.loop-number.invariant last (dismiss_none c.args.now.now.at c.args.now.now.ms left last none)

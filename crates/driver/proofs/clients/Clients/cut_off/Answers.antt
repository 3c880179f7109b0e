use Rattle.std.proofs.Common.{◌≡◌, ◌∙◌, sym, []}
use Rattle.std.proofs.lemmas.List.{nil_from_length}
use Rattle.std.specs.Vec.Iter.{into_iter_items}
use Rattle.driver.specs.Crowds.{CutsClient, told}
use Rattle.driver.proofs.Crowds.{cut_more, cut_none}
use Rattle.driver.proofs.clients.Clients.cut_off.Goals as goal

pub loop-number-preserved : goal.loop-number-preserved
loop-number-preserved c new more =
    let old = told c.loop-number.self c.loop-number.orders in
    let behind = told c.cut_if_of.new.self c.cut_if_of.new.orders in
    let always = c.cut_if_of.ensures in
    let done = c.in_ok-cut_if_of.ensures in
    let does : CutsClient c.args.why c.args.node c.in-Some.number old behind =
    record { others = always.others; nobody = always.nobody; stays = always.stays; leaves = done.leaves; told = done.told } in
    c.loop-number.invariant new
    (cut_more c.args.why c.args.node c.in-Some.number (into_iter_items c.loop-number.number-iterator) (into_iter_items c.next.new.self) old behind new c.in-Some.ensures.steps.0 does more)

pub returns : goal.returns
returns c =
    let left = into_iter_items c.loop-number.number-iterator in
    let last = told c.loop-number.self c.loop-number.orders in
    let none : left ≡ [] = nil_from_length left (sym c.loop-number.number-iterator.rest.ok.0 ∙ c.in-None.ensures.steps.0) in
    c.loop-number.invariant last (cut_none c.args.why c.args.node left last none)

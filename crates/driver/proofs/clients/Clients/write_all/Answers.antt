use Rattle.std.proofs.Common.{◌≡◌, ◌∙◌, sym, []}
use Rattle.std.proofs.lemmas.List.{nil_from_length}
use Rattle.std.specs.Vec.Iter.{into_iter_items}
use Rattle.driver.proofs.Nicks.{write_more, write_none}
use Rattle.driver.proofs.clients.Clients.write_all.Goals as goal

pub loop-number-preserved : goal.loop-number-preserved
loop-number-preserved c new more =
    c.loop-number.invariant new
    (write_more c.args.self.now c.args.text.now c.in-Some.number (into_iter_items c.loop-number.number-iterator) (into_iter_items c.next.new.self) c.loop-number.orders c.write_to.new.orders new c.in-Some.ensures.steps.0 c.in_ok-write_to.ensures more)

pub returns : goal.returns
returns c =
    let left = into_iter_items c.loop-number.number-iterator in
    let none : left ≡ [] = nil_from_length left (sym c.loop-number.number-iterator.rest.ok.0 ∙ c.in-None.ensures.steps.0) in
    c.loop-number.invariant c.loop-number.orders (write_none c.args.self.now c.args.text.now left c.loop-number.orders none)

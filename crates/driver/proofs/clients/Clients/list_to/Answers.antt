use Rattle.std.proofs.Common.{◌≡◌, ◌∙◌, sym, []}
use Rattle.std.proofs.lemmas.List.{nil_from_length}
use Rattle.std.specs.Vec.Iter.{into_iter_items}
use Rattle.driver.specs.Rosters.{client_at}
use Rattle.driver.proofs.Listing.{list_more, list_none}
use Rattle.driver.proofs.clients.Clients.list_to.Goals as goal

pub loop-listed-preserved : goal.loop-listed-preserved
loop-listed-preserved c new more =
    c.loop-listed.invariant new
    (list_more c.args.self.now (client_at c.args.self.now c.args.number) c.args.nick.now c.in-Some.listed (into_iter_items c.loop-listed.listed-iterator) (into_iter_items c.next.new.self) c.loop-listed.orders c.list_one.new.orders new c.in-Some.ensures.steps.0 c.in_ok-list_one.ensures more)

pub returns : goal.returns
returns c =
    let left = into_iter_items c.loop-listed.listed-iterator in
    let none : left ≡ [] = nil_from_length left (sym c.loop-listed.listed-iterator.rest.ok.0 ∙ c.in-None.ensures.steps.0) in
    c.loop-listed.invariant c.loop-listed.orders (list_none c.args.self.now (client_at c.args.self.now c.args.number) c.args.nick.now left c.loop-listed.orders none)

use Rattle.std.proofs.Common.{◌≡◌, ◌∙◌, sym, []}
use Rattle.std.proofs.lemmas.List.{nil_from_length}
use Rattle.std.specs.Vec.Iter.{into_iter_items}
use Rattle.driver.specs.Crowds.{told}
use Rattle.driver.specs.Kicks.{KicksClient}
use Rattle.driver.proofs.Kicks.{kick_more, kick_none}
use Rattle.driver.proofs.clients.Clients.kick_all.Goals as goal

pub loop-number-preserved : goal.loop-number-preserved
loop-number-preserved c new more =
    let old = told c.loop-number.self c.loop-number.orders in
    let behind = told c.kick.new.self c.kick.new.orders in
    let always = c.kick.ensures in
    let done = c.in_ok-kick.ensures in
    let does : KicksClient c.args.channel.now c.args.text.now c.in-Some.number old behind =
    record { others = always.others; nobody = always.nobody; stays = always.stays; closes = done.closes; written = done.written } in
    c.loop-number.invariant new
    (kick_more c.args.channel.now c.args.text.now c.in-Some.number (into_iter_items c.loop-number.number-iterator) (into_iter_items c.next.new.self) old behind new c.in-Some.ensures.steps.0 does more)

pub returns : goal.returns
returns c =
    let left = into_iter_items c.loop-number.number-iterator in
    let last = told c.loop-number.self c.loop-number.orders in
    let none : left ≡ [] = nil_from_length left (sym c.loop-number.number-iterator.rest.ok.0 ∙ c.in-None.ensures.steps.0) in
    c.loop-number.invariant last (kick_none c.args.channel.now c.args.text.now left last none)

use Rattle.std.proofs.Common.{◌≡◌, ◌∙◌, sym, subst, List, []}
use Rattle.std.proofs.lemmas.List.{nil_from_length}
use Rattle.std.specs.Vec.Iter.{into_iter_items}
use Rattle.driver.specs.declared.order.Order.{Order}
use Rattle.bouncer_run.specs.Deliveries.{AreDone}
use Rattle.bouncer_run.specs.Responses.{HearsAll}
use Rattle.bouncer_run.specs.Sendings.{IsSent, sent_by}
use Rattle.bouncer_run.specs.Submissions.{AreTold, notes_in}
use Rattle.bouncer_run.proofs.Delivered.{none_done, one_done}
use Rattle.bouncer_run.proofs.Responded.{none_heard}
use Rattle.bouncer_run.proofs.Sent.{none_sent}
use Rattle.bouncer_run.proofs.Submitted.{none_told, one_told}
use Rattle.bouncer_run.proofs.carrying.carry_out_each.Goals as goal

pub loop-order-preserved : goal.loop-order-preserved
loop-order-preserved g c =
    let left = into_iter_items c.next.new.self in
    record {
      clients = λ new more. c.loop-order.invariant.clients new
          (subst (λ (l : List Order). AreDone l c.loop-order.sockets new) (sym c.in-Some.ensures.steps.0)
          (one_done c.in-Some.order left c.loop-order.sockets c.carry_out.new.sockets new c.in_ok-carry_out.ensures.clients more));
      server = λ new more. c.loop-order.invariant.server new
          (subst (λ (l : List Order). IsSent l c.loop-order.sockets.server new) (sym c.in-Some.ensures.steps.0)
          (λ waiting awaits. more (sent_by c.in-Some.order waiting) (c.in_ok-carry_out.ensures.server waiting awaits)));
      heard = λ new driver more. c.loop-order.invariant.heard new driver
          (subst (λ (l : List Order). HearsAll c.args.now.now l c.loop-order.sockets new c.loop-order.driver driver) (sym c.in-Some.ensures.steps.0)
          (c.carry_out.new.sockets, c.carry_out.new.driver, c.in_ok-carry_out.ensures.heard, more));
      notes = λ new more. c.loop-order.invariant.notes new
          (subst (λ (l : List Order). AreTold g.N.Nodes.has_told (notes_in l) c.loop-order.nodes new) (sym c.in-Some.ensures.steps.0)
          (one_told g.N.Nodes.has_told c.in-Some.order left c.loop-order.nodes c.carry_out.new.nodes new c.in_ok-carry_out.ensures.notes more));
    }

pub returns-clause-clients : goal.returns-clause-clients
returns-clause-clients g c =
    let left = into_iter_items c.loop-order.order-iterator in
    let none : left ≡ [] = nil_from_length left (sym c.loop-order.order-iterator.rest.ok.0 ∙ c.in-None.ensures.steps.0) in
    c.loop-order.invariant.clients c.loop-order.sockets (none_done left c.loop-order.sockets none)

pub returns-clause-server : goal.returns-clause-server
returns-clause-server g c =
    let left = into_iter_items c.loop-order.order-iterator in
    let none : left ≡ [] = nil_from_length left (sym c.loop-order.order-iterator.rest.ok.0 ∙ c.in-None.ensures.steps.0) in
    c.loop-order.invariant.server c.loop-order.sockets.server (none_sent left c.loop-order.sockets.server none)

pub returns-clause-heard : goal.returns-clause-heard
returns-clause-heard g c =
    let left = into_iter_items c.loop-order.order-iterator in
    let none : left ≡ [] = nil_from_length left (sym c.loop-order.order-iterator.rest.ok.0 ∙ c.in-None.ensures.steps.0) in
    c.loop-order.invariant.heard c.loop-order.sockets c.loop-order.driver (none_heard c.args.now.now left c.loop-order.sockets c.loop-order.driver none)

pub returns-clause-notes : goal.returns-clause-notes
returns-clause-notes g c =
    let left = into_iter_items c.loop-order.order-iterator in
    let none : left ≡ [] = nil_from_length left (sym c.loop-order.order-iterator.rest.ok.0 ∙ c.in-None.ensures.steps.0) in
    c.loop-order.invariant.notes c.loop-order.nodes (none_told g.N.Nodes.has_told left c.loop-order.nodes none)

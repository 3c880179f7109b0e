use Rattle.std.proofs.Common.{ap, sym, ◌∙◌}
use Rattle.world_app.specs.declared.kinds.MessageKind.{MessageKind}
use Rattle.world_app.specs.declared.delivered.Delivery.{Delivery}
use Rattle.world_app.proofs.Found.{message_found, no_message}
use Rattle.world_app.proofs.delivered.delivery_at.Goals as goal

pub returns-in_err-index : goal.returns-in_err-index
returns-in_err-index g c =
    let none = no_message c.args.cells.now c.args.sender c.in_ok-node.node c.args.number c.index-cells-node.result c.sent-sent.result.now (sym c.value.ensures.value ∙ c.in_ok-node.ensures.some.0) c.in_ok-node.ensures.some.1 c.index-cells-node.is c.sent-sent.ensures c.in_err-index.ensures.none in
    c.from_residual-in_err-index.ensures ∙ none

pub returns : goal.returns
returns g c =
    message_found c.args.cells.now c.args.sender c.in_ok-node.node c.args.number c.in_ok-index.index c.index-cells-node.result c.sent-sent.result.now c.index-sent-index.result _ (sym c.value.ensures.value ∙ c.in_ok-node.ensures.some.0) c.in_ok-node.ensures.some.1 c.index-cells-node.is c.sent-sent.ensures
    c.in_ok-index.ensures.some.0 c.in_ok-index.ensures.some.1 c.index-sent-index.is (ap (λ (k : MessageKind). let d : Delivery = record { addressee = c.index-sent-index.result.to; kind = k } in d) c.kind_of.ensures)

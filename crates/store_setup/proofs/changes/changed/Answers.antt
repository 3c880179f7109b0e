use Rattle.std.proofs.Common.{sym, ◌∙◌}
use Rattle.std.proofs.lemmas.Result.{IfOk-weaker}
use Rattle.store_setup.proofs.SameSetups.{none_differs, none_differs_where_same}
use Rattle.store_setup.proofs.changes.changed.Goals as goal

pub returns-clause-same : goal.returns-clause-same
returns-clause-same c =
    IfOk-weaker c.changed_of.result _ _
    (λ v h. (
      λ none. none_differs c.args.store.now c.args.setup.now c.args.nodes (sym h ∙ none),
      λ same. h ∙ none_differs_where_same c.args.store.now c.args.setup.now c.args.nodes same,
    ))
    c.changed_of.ensures

use Rattle.buffer_targets.proofs.QueryEdits.{index_newest}
use Rattle.buffer_targets.proofs.index.keep_newest.Goals as goal

pub returns-clause-index : goal.returns-clause-index
returns-clause-index c =
    rw (c.drop_first.ensures, c.drop_places.ensures) (index_newest _ c.args.targets.now.items c.args.places.now.items c.requires)

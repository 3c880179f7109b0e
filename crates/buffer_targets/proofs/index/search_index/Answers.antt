use Rattle.std.proofs.Common.{rules}
use Rattle.std.proofs.lemmas.Fn.{always_returns_same}
use Rattle.irc_line.specs.Names.{fold_name}
use Rattle.buffer_targets.specs.Places.{compared_at}
use Rattle.buffer_targets.specs.Targets.{query_names}
use Rattle.buffer_targets.proofs.Indexes.{index_searched}
use Rattle.buffer_targets.proofs.index.search_index.Goals as goal

-- the closure compares the key of the target at a place
pub returns-clause-place : goal.returns-clause-place
returns-clause-place c =
    let facts = c.binary_search_by.ensures in
    let by_key = facts.position (compared_at (query_names c.args.targets.now) (fold_name c.args.name.now)) (always_returns_same _ _ _ (λ a r g called. search rules)) in
    index_searched (fold_name c.args.name.now) (query_names c.args.targets.now) c.args.places.now c.requires _ facts.bound by_key

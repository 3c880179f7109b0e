use Rattle.std.proofs.Common.{rules, ◌≡◌, length}
use Rattle.buffer_targets.proofs.QueryEdits.{index_added}
use Rattle.buffer_targets.proofs.index.insert.Goals as goal

pub returns-clause-index : goal.returns-clause-index
returns-clause-index c =
    let many : c.len.result ≡ length c.args.targets.now.items = search rules in
    rw (c.in_ok-push.ensures.items, c.in_ok-reserve.ensures.items, c.in_ok-insert.ensures.items, many)
    (index_added c.args.targets.now.items c.args.places.now.items c.args.target c.args.gap c.requires.index c.requires.gap)

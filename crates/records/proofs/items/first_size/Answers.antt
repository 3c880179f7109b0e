use Rattle.std.proofs.Common.{rules, ◌≡◌, Some, None}
use Rattle.std.specs.Prelude.{decimal}
use Rattle.std.proofs.lemmas.Grind.{common_steps}
use Rattle.raft_log.specs.Peers.{IsGroupSize}
use Rattle.recorder.specs.Splits.{split_at}
use Rattle.records.proofs.LineFronts.{line_read, no_end, no_line, size_lacks}
use Rattle.records.proofs.items.first_size.Goals as goal

pub returns-in-Some-group_size : goal.returns-in-Some-group_size
returns-in-Some-group_size c =
    let s : split_at 10 c.args.text.now ≡ Some (c.in-Some.word.now, c.in-Some.behind.now) = search (rules, common_steps) in
    (c.in-Some-group_size.ensures.0, line_read decimal IsGroupSize size_lacks c.args.text.now _ _ c.in-Some-group_size.size s c.in-Some-group_size.ensures.1)

pub returns-in-None-group_size : goal.returns-in-None-group_size
returns-in-None-group_size c =
    let s : split_at 10 c.args.text.now ≡ Some (c.in-Some.word.now, c.in-Some.behind.now) = search (rules, common_steps) in
    no_line decimal IsGroupSize size_lacks c.args.text.now _ _ s c.in-None-group_size.ensures

pub returns-in-None : goal.returns-in-None
returns-in-None c =
    let s : split_at 10 c.args.text.now ≡ None = search (rules, common_steps) in
    no_end decimal IsGroupSize size_lacks c.args.text.now s

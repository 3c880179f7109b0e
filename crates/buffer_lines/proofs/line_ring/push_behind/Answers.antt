use Rattle.std.proofs.Common.{rules, ◌≡◌, ◌++◌, ◌-◌, drop, length, map}
use Rattle.std.specs.Prelude.{min}
use Rattle.irc_line.specs.Lines.{spelling}
use Rattle.buffer_lines.specs.Stamps.{timed}
use Rattle.buffer_lines.proofs.Framed.{rest_of, shown_behind}
use Rattle.buffer_lines.proofs.line_ring.push_behind.Goals as goal

pub returns : goal.returns
returns c =
    let cut : c.min-cut.result ≡ min c.args.older (length c.as_slices.result.0.now) = search rules in
    let one : c.push_played.new.all.items ≡ c.args.all.now.items ++ map (λ k. spelling (timed c.args.offset k)) (drop c.min-cut.result c.as_slices.result.0.now) = rw (rest_of c.min-cut.result c.as_slices.result.0.now) at c.in_ok-push_played.ensures in
    let two : c.push_played-2.new.all.items ≡ c.push_played.new.all.items ++ map (λ k. spelling (timed c.args.offset k)) (drop (c.args.older - c.min-cut.result) c.as_slices.result.1.now) = rw (rest_of (c.args.older - c.min-cut.result) c.as_slices.result.1.now) at c.in_ok-push_played-2.ensures in
    rw (two, one) (shown_behind c.args.offset c.args.older c.min-cut.result c.args.lines.now.items c.as_slices.result.0.now c.as_slices.result.1.now c.args.all.now.items cut c.as_slices.ensures)

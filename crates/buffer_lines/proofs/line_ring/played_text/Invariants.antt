use Rattle.std.proofs.Common.{◌≡◌, length, map, take}
use Rattle.std.specs.List.{concat}
use Rattle.buffer_lines.specs.Stamps.{shown_timed}
use Rattle.buffer_lines.proofs.line_ring.played_text.Given as goal

-- this many lines are played
abbrev pub invariant-loop-line : goal.invariant-loop-line
invariant-loop-line l = record {
  text : l.text.items ≡ concat (shown_timed l.offset (take l.line-index l.lines));
  lengths : l.lengths.items ≡ map length (shown_timed l.offset (take l.line-index l.lines));
}

use Rattle.std.proofs.Common.{◌≡◌, ◌++◌, take}
use Rattle.buffer_lines.specs.Parts.{parts, total}
use Rattle.buffer_lines.proofs.line_ring.push_parts.Given as goal

-- this many parts are appended
abbrev pub invariant-loop-length : goal.invariant-loop-length
invariant-loop-length l = record {
  from : l.from ≡ total (take l.length-index l.lengths);
  all : l.all.items ≡ l.initial.all.items ++ parts l.text (take l.length-index l.lengths);
}

use Rattle.std.proofs.Common.{◌≡◌, ◌≤◌, None, length}
use Rattle.wire_bytes.specs.Fields.{behind}
use Rattle.setup_spelling.specs.Spelling.{channels_after, last_of}
use Rattle.setup_spelling.proofs.NameSteps.{joined}
use Rattle.setup_spelling.proofs.channels.take_names.Given as goal

abbrev pub invariant-loop-left : goal.invariant-loop-left
invariant-loop-left l = record {
  same : joined l.names.items (behind l.end (channels_after l.left (last_of l.names.items)) l.input) ≡ behind l.place (channels_after l.count None) l.input;
  within : l.end ≤ length l.input;
}

abbrev pub decreases-loop-left : goal.decreases-loop-left
decreases-loop-left l = l.left

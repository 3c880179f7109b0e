use Rattle.std.proofs.Common.{◌≡◌, ◌≤◌, ◌++◌, length, take, drop, vec_capacity}
use Rattle.setup_spelling.specs.Spelling.{spelled_names}
use Rattle.setup_spelling.proofs.channels.put_names.Given as goal

abbrev pub invariant-loop-name : goal.invariant-loop-name
invariant-loop-name l = record {
  whole : l.out.items ++ spelled_names (drop l.name-index l.names) ≡ l.fn.out.items ++ spelled_names l.names;
  front : take l.len l.out.items ≡ l.fn.out.items;
  within : l.len ≤ length l.out.items;
  room : vec_capacity l.fn.out ≤ vec_capacity l.out;
}

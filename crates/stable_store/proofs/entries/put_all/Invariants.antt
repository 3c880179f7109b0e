use Rattle.std.proofs.Common.{◌≡◌, ◌≤◌, ◌++◌, length, take, drop, vec_capacity}
use Rattle.raft_log.specs.Entries.{FitsEntry, spelled_entry}
use Rattle.stable_store.specs.Lists.{AllFit, spelled_all}
use Rattle.stable_store.proofs.entries.put_all.Given as goal

abbrev pub invariant-loop-entry : goal.invariant-loop-entry
invariant-loop-entry g l = record {
  whole : l.out.items ++ spelled_all (spelled_entry g.B.Wire.spelled) (drop l.entry-index l.entries) ≡ l.fn.out.items ++ spelled_all (spelled_entry g.B.Wire.spelled) l.entries;
  fit : AllFit (FitsEntry g.B.Wire.fits g.B.Wire.spelled) (drop l.entry-index l.entries);
  front : take l.len l.out.items ≡ l.fn.out.items;
  within : l.len ≤ length l.out.items;
  room : vec_capacity l.fn.out ≤ vec_capacity l.out;
}

use Rattle.std.proofs.Common.{◌≡◌, length, take}
use Rattle.raft_log.proofs.sharing.are_same.Given as goal

abbrev pub invariant-loop-place : goal.invariant-loop-place
invariant-loop-place g l =
    (take l.place l.some ≡ take l.place l.others) × (length l.some ≡ length l.others)

use Rattle.std.proofs.Common.{◌≡◌, ◌-◌, ◌≤◌, ◌++◌}
use Rattle.fault_disks.specs.Images.{bytes_left}
use Rattle.fault_disks.proofs.crash.overwritten.Given as goal

abbrev pub invariant-loop-place : goal.invariant-loop-place
invariant-loop-place l = (l.place ≤ l.most) × (l.file.items ++ bytes_left l.byte l.state l.place (l.state.most - l.place) ≡ bytes_left l.byte l.state 0 l.state.most)

abbrev pub decreases-loop-place : goal.decreases-loop-place
decreases-loop-place l = l.most - l.place

use Rattle.std.proofs.Common.{rules, ◌≡◌, ◌<◌, ◌∷◌, [], ◌++◌, arith}
use Rattle.fault_disks.specs.Images.{byte_left}
use Rattle.fault_disks.proofs.Tearing.{goes_on}
use Rattle.fault_disks.proofs.crash.overwritten.Goals as goal

pub loop-place-preserved : goal.loop-place-preserved
loop-place-preserved c =
    let more : c.push.new.self.items ≡ c.loop-place.file.items ++ byte_left c.args.byte c.args.state.now c.loop-place.place ∷ [] = search rules in
    let lt : c.loop-place.place < c.args.state.now.most = search rules in
    (omega (arith, c.loop-place-test.true), goes_on c.args.byte c.args.state.now c.loop-place.file.items c.push.new.self.items c.loop-place.place lt c.loop-place.invariant.1 more)

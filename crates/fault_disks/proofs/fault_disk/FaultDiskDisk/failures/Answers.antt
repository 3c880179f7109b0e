use Rattle.std.proofs.Common.{rules, ◌≡◌}
use Rattle.fault_disks.specs.Calls.{failed}
use Rattle.fault_disks.specs.CallLaws.{none_left}
use Rattle.fault_disks.proofs.fault_disk.FaultDiskDisk.failures.Goals as goal

pub returns-clause-unfailed : goal.returns-clause-unfailed
returns-clause-unfailed c = λ h none.
    let passed : failed c.args.self.now.calls ≡ 0 = search (rules, none) in
    none_left c.args.self.now.first c.args.self.now.calls passed

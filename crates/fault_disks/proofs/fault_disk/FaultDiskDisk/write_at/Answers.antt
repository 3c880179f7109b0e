use Rattle.std.proofs.Common.{rules, ◌≡◌, arith}
use Rattle.fault_disks.specs.declared.call.Call.TheVariants.{Write}
use Rattle.fault_disks.proofs.Recording.{cause_of, write_runs, write_written}
use Rattle.fault_disks.proofs.fault_disk.FaultDiskDisk.write_at.Goals as goal

pub returns-clause-runs : goal.returns-clause-runs
returns-clause-runs c = λ h.
    let same : c.in_ok-bytes.bytes.items ≡ c.args.bytes.now = search rules in
    write_runs c.record.result _ _ c.args.place c.in_ok-bytes.bytes c.args.bytes.now same (c.requires h) c.record.ensures

pub returns-clause-written : goal.returns-clause-written
returns-clause-written c = λ h.
    let same : c.in_ok-bytes.bytes.items ≡ c.args.bytes.now = search rules in
    write_written c.record.result _ _ c.args.place c.in_ok-bytes.bytes c.args.bytes.now same (omega (arith, c.if-place-ge-LIMIT.false, c.if-bytes-ge-LIMIT.false)) c.record.ensures

pub returns-clause-cause : goal.returns-clause-cause
returns-clause-cause c = cause_of c.record.result (Write c.args.place c.in_ok-bytes.bytes) _ _ c.record.ensures

use Rattle.fault_disks.specs.declared.call.Call.TheVariants.{Sync}
use Rattle.fault_disks.proofs.Recording.{cause_of, sync_runs, sync_synced}
use Rattle.fault_disks.proofs.fault_disk.FaultDiskDisk.sync.Goals as goal

pub returns-clause-runs : goal.returns-clause-runs
returns-clause-runs c = λ h. sync_runs c.record.result _ _ c.record.ensures

pub returns-clause-synced : goal.returns-clause-synced
returns-clause-synced c = λ h. sync_synced c.record.result _ _ c.record.ensures

pub returns-clause-cause : goal.returns-clause-cause
returns-clause-cause c = cause_of c.record.result Sync _ _ c.record.ensures

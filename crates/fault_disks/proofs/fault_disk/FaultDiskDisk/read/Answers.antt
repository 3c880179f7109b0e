use Rattle.std.proofs.Common.{Ok, Err, refl}
use Rattle.std.proofs.lemmas.Result.{err_from_is_err_and}
use Rattle.fault_disks.specs.declared.call.Call.TheVariants.{Read}
use Rattle.fault_disks.proofs.Recording.{cause_err, cause_memory, cause_of, cause_ok, looked_same}
use Rattle.fault_disks.proofs.fault_disk.FaultDiskDisk.read.Goals as goal

pub returns-in_err-state-clause-cause : goal.returns-in_err-state-clause-cause
returns-in_err-state-clause-cause c =
    let p = err_from_is_err_and c.from_residual.result c.from_residual.ensures.1 in
    rw (p.1, p.2) (cause_memory c.in_err-state.field-0.0 _ c.in_err-state.ensures.memory)

pub returns-in_err-record-clause-same : goal.returns-in_err-record-clause-same
returns-in_err-record-clause-same c = λ h. looked_same {T = Unit {0}} (Err c.in_err-record.field-0.0) (Read c.args.place c.args.len) _ _ (λ passed states. refl) c.in_err-record.ensures

pub returns-in_err-record-clause-cause : goal.returns-in_err-record-clause-cause
returns-in_err-record-clause-cause c =
    let p = err_from_is_err_and c.from_residual-in_err-record.result c.from_residual-in_err-record.ensures.1 in
    rw (p.1, p.2) (cause_err c.in_err-record.field-0.0 _ _ (cause_of {T = Unit {0}} (Err c.in_err-record.field-0.0) (Read c.args.place c.args.len) _ _ c.in_err-record.ensures))

pub returns-clause-same : goal.returns-clause-same
returns-clause-same c = λ h. looked_same (Ok c.in_ok-record.field-0) (Read c.args.place c.args.len) _ _ (λ passed states. refl) c.in_ok-record.ensures

pub returns-clause-cause : goal.returns-clause-cause
returns-clause-cause c = cause_ok c.in_ok-record.field-0 _ _ _ (cause_of (Ok c.in_ok-record.field-0) (Read c.args.place c.args.len) _ _ c.in_ok-record.ensures)

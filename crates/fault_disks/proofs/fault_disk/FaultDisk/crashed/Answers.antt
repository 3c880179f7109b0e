use Rattle.std.proofs.Common.{rules, ◌≡◌, List, ℕ, subst, sym}
use Rattle.journal_store.specs.Disks.{IsImage, now}
use Rattle.fault_disks.specs.Calls.{moments}
use Rattle.fault_disks.specs.Images.{left_by}
use Rattle.fault_disks.specs.CallLaws.{moments_within}
use Rattle.fault_disks.proofs.Tearing.{left_image}
use Rattle.fault_disks.proofs.fault_disk.FaultDisk.crashed.Goals as goal

pub returns-clause-image : goal.returns-clause-image
returns-clause-image c =
    let is : c.in_ok-left_by.field-0.items ≡ left_by c.args.unsynced (now (moments c.args.self.now)) = search rules in
    subst (λ (l : List ℕ). IsImage (now (moments c.args.self.now)) l) (sym is) (left_image c.args.unsynced (now (moments c.args.self.now)) (moments_within c.args.self.now.first c.args.self.now.calls))

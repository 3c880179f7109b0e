use Rattle.std.proofs.Common.{IsTrue, Bool, ◌+◌, length, ap, subst, arith}
use Rattle.journal_store.specs.Disks.{now}
use Rattle.journal_store.proofs.Overs.{size}
use Rattle.journal_store.proofs.put.put_behind_gate.Goals as goal

pub put-requires-2 : goal.put-requires-2
put-requires-2 g c = λ h.
    let before = subst (λ (b : Bool). IsTrue b) c.put.ensures.honest h in
    let within = c.requires.within before in
    let long = size (now (g.D.Disk.states c.args.disk.now)).bytes (c.args.place + 1) c.args.bytes.now (omega (arith, within)) in
    omega (arith, ap length (c.in_ok-put.ensures.written before), long)

use Rattle.std.proofs.lemmas.Result.{on_ok_weaker}
use Rattle.bouncer_run.proofs.Delivered.{write_done}
use Rattle.bouncer_run.proofs.carrying.carry_out.Goals as goal

pub returns-in-Write-clause-clients : goal.returns-in-Write-clause-clients
returns-in-Write-clause-clients g c =
    on_ok_weaker c.write.result
    (λ client. write_done c.args.order c.in-Write.number c.in-Write.bytes c.as_slice.result.now c.args.sockets.now c.write.new.self
    c.in-Write.is c.as_slice.ensures.value client c.write.ensures.others)
    c.write.ensures.client

use Rattle.world_app.proofs.Told.{told_so}
use Rattle.world_app.proofs.running.events_text.Goals as goal

pub returns-in-Ok : goal.returns-in-Ok
returns-in-Ok c =
    told_so c.args.setup.now c.world_text.result (λ v. v.items) c.args.size c.args.events.now c.in-Ok.world c.world_text.ensures
    (rw c.value.ensures.value at c.in-Ok.ensures.world)

use Rattle.std.proofs.Common.{List, subst, OnOk}
use Rattle.machine_laws.specs.Runs.{came_at}
use Rattle.renewal.proofs.anew.come_as.Goals as goal

pub returns : goal.returns
returns g c = λ s h xs e st.
    subst (λ (ys : List g.row.M-Command.Denot). OnOk c.come.result (g.M.Machine.stands c.come.new.machine s (came_at 0 ys h))) e (c.come.ensures s h st)

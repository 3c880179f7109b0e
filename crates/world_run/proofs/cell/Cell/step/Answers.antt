use Rattle.std.proofs.Common.{sym, ◌∙◌}
use Rattle.world_run.proofs.Owned.{given_none, given_left, step_done, step_declined}
use Rattle.world_run.proofs.cell.Cell.step.Goals as goal

pub returns-then-value-eq0 : goal.returns-then-value-eq0
returns-then-value-eq0 g c =
    rw (sym c.self.view_is) (step_done _ _ _ _ _ _ _ _ c.in-Ok.output _ c.step.ensures c.in-Ok.is c.in_ok-append-in-Ok.ensures.items
    (given_none c.in-Ok.output.place c.in-Ok.output.effects.items (sym c.value.ensures.value ∙ c.if-value-eq0.true)))

pub returns-in-Ok : goal.returns-in-Ok
returns-in-Ok g c =
    rw (sym c.self.view_is) (step_done _ _ _ _ _ _ _ _ c.in-Ok.output _ c.step.ensures c.in-Ok.is c.in_ok-append-in-Ok.ensures.items
    (given_left c.in-Ok.output.place c.in-Ok.output.effects.items (λ e. c.if-value-eq0.false (c.value.ensures.value ∙ e))))

pub returns-in-Err-Refused : goal.returns-in-Err-Refused
returns-in-Err-Refused g c = rw (sym c.self.view_is) (step_declined _ _ _ _ _ _ _ c.in-Err-Refused.field-0 c.in-Err-Refused.refusal c.step.ensures c.in-Err-Refused.is c.in-Err-Refused.field-0-is)

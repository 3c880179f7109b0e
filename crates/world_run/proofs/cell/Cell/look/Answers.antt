use Rattle.std.proofs.Common.{sym}
use Rattle.world_run.proofs.Owned.{look_done, look_declined}
use Rattle.world_run.proofs.cell.Cell.look.Goals as goal

pub returns-in-Ok : goal.returns-in-Ok
returns-in-Ok g c = rw (sym c.self.view_is) (look_done _ _ _ _ _ _ c.in-Ok.looked c.look.ensures c.in-Ok.is)

pub returns-in-Err-Refused : goal.returns-in-Err-Refused
returns-in-Err-Refused g c = rw (sym c.self.view_is) (look_declined _ _ _ _ _ _ c.in-Err-Refused.field-0 c.in-Err-Refused.refusal c.look.ensures c.in-Err-Refused.is c.in-Err-Refused.field-0-is)

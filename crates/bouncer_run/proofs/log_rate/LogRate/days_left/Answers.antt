use Rattle.std.proofs.Common.{Some, rules}
use Rattle.bouncer_run.proofs.Marks.{leaves_room}
use Rattle.bouncer_run.proofs.log_rate.LogRate.days_left.Goals as goal

pub returns-clause-room : goal.returns-clause-room
returns-clause-room c = leaves_room c.args.at c.args.entries c.args.self.now (Some _) (search rules)

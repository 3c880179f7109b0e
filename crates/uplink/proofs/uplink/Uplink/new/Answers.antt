use Rattle.std.proofs.Common.{rules, refl}
use Rattle.uplink.proofs.Moments.{new_after}
use Rattle.uplink.proofs.uplink.Uplink.new.Goals as goal

pub returns-clause-after : goal.returns-clause-after
returns-clause-after c = new_after _ c.args.nick refl (search rules)

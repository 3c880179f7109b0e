use Rattle.std.proofs.Common.{rules}
use Rattle.uplink.proofs.Nicks.{next_is}
use Rattle.uplink.proofs.passing.next_nick.Goals as goal

pub returns : goal.returns
returns c = next_is c.args.nick.now c.from_bytes.result c.as_bytes.ensures.name (search rules)

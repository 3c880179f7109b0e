use Rattle.std.proofs.Common.{rules, not, ◌&&◌}
use Rattle.std.specs.Prelude.{◌==◌, nat_lt}
use Rattle.std.proofs.lemmas.Fn.{filter_same}
use Rattle.buffer_machine.proofs.clients.remove_from.Goals as goal

pub returns : goal.returns
returns c = filter_same _ (λ x. not (x.0 == c.args.node && nat_lt x.1 c.args.floor)) _ (λ x b q r. search rules) _ _ c.retain.ensures.filtered

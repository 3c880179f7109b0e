use Rattle.std.proofs.Common.{rules, not, ◌&&◌}
use Rattle.std.specs.Prelude.{◌==◌, nat_lt}
use Rattle.std.proofs.lemmas.Fn.{filter_same}
use Rattle.buffer_machine.proofs.client_names.drop_run.Goals as goal

pub returns : goal.returns
returns c = filter_same _ (λ h. not (h.0.0 == c.args.node && nat_lt h.0.1 c.args.floor)) _ (λ x b q r. search rules) _ _ c.retain.ensures.filtered

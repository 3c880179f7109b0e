use Rattle.std.proofs.Common.{rules, not}
use Rattle.std.proofs.lemmas.Fn.{filter_same}
use Rattle.machine_laws.specs.Origins.{same_origin}
use Rattle.buffer_machine.proofs.client_names.drop_client.Goals as goal

pub returns : goal.returns
returns c = filter_same _ (λ h. not (same_origin c.args.origin h.0)) _ (λ x b q r. search rules) _ _ c.retain.ensures.filtered

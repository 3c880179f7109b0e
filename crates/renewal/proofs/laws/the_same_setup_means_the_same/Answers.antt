use Rattle.std.proofs.Common.{◌∙◌}
use Rattle.machine_laws.specs.Runs.{run}
use Rattle.bouncer_tower.specs.Bodies.{plain}
use Rattle.buffer_machine.specs.Held.{commands}
use Rattle.renewal.specs.Lists.{bodies_of, settled_log, was_joined}
use Rattle.renewal.proofs.Changes.{same_setup}
use Rattle.renewal.proofs.Parts.{is_renewed}
use Rattle.renewal.proofs.laws.the_same_setup_means_the_same.Goals as goal

pub returns : goal.returns
returns c = λ s boots term old new sound r.
    is_renewed s (commands (plain (settled_log boots old))) (commands (plain (run (bodies_of new)))) sound r.begun.floors
    (r.begun.holding ∙ same_setup s (was_joined s (run (bodies_of old))) (commands (plain (settled_log boots old))) r.begun.gone r.parted) r.begun.nobody

use Rattle.bouncer_run.proofs.SomeFolders.{some_folders}
use Rattle.bouncer_run.proofs.reading.read.Goals as goal

pub returns-in-Ok-read_config-clause-folders : goal.returns-in-Ok-read_config-clause-folders
returns-in-Ok-read_config-clause-folders g c =
    let said = c.in-Ok-read_config.ensures.ok in
    some_folders c.args.path.now said.text c.in-Ok-read_config.config c.place.new.self said.says c.in_ok-place-in-Ok-read_config.ensures.ok

use Rattle.journal_store.proofs.Standing.{read_alike}
use Rattle.journal_store.specs.Payloads.{payloads}
use Rattle.stable_store.specs.Stores.{nothing_saved}
use Rattle.journal_store.proofs.laws.both_versions_are_read_alike.Goals as goal

pub returns : goal.returns
returns g c = read_alike (payloads g.B.Wire.taken) nothing_saved

use Rattle.file_disk.proofs.Headers.{read_as_before}
use Rattle.file_disk.proofs.header.renewed_journals_are_read_alike.Goals as goal

pub returns : goal.returns
returns g c = read_as_before g.B.Wire.taken

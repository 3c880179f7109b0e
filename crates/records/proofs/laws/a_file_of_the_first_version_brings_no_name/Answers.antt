use Rattle.records.proofs.OneReading.{first_brings_no_name}
use Rattle.records.proofs.laws.a_file_of_the_first_version_brings_no_name.Goals as goal

pub returns : goal.returns
returns g c = first_brings_no_name g.S.Wire.spelled g.S.Wire.fits g.B.Wire.spelled g.B.Wire.fits g.B.Dated.brings_name

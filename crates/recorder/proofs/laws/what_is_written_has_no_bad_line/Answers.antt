use Rattle.recorder.proofs.Apart.{none_is_bad, one_first_bad}
use Rattle.recorder.proofs.laws.what_is_written_has_no_bad_line.Goals as goal

pub returns : goal.returns
returns g c = record { written = none_is_bad g.B.Wire.spelled g.B.Wire.fits; first = one_first_bad g.B.Wire.spelled g.B.Wire.fits }

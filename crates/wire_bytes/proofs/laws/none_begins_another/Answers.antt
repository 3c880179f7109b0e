use Rattle.wire_bytes.proofs.Fronts.{same_value, no_rest}
use Rattle.wire_bytes.proofs.laws.none_begins_another.Goals as goal

pub returns : goal.returns
returns g c =
    let w = g.W.Wire in
    let back = g.met.W.Wire.is_codec.read_back in
    record { value = same_value w.spelled w.fits w.taken back; rest = no_rest w.spelled w.fits w.taken back }

use Rattle.wire_bytes.proofs.Fronts.{front_read, none_refused}
use Rattle.wire_bytes.proofs.laws.the_front_is_read.Goals as goal

pub returns : goal.returns
returns g c =
    let w = g.W.Wire in
    let back = g.met.W.Wire.is_codec.read_back in
    record { only = g.met.W.Wire.is_codec.one_spelling; always = front_read w.spelled w.fits w.taken back; refused = none_refused w.spelled w.fits w.taken back }

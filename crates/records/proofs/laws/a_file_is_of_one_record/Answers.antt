use Rattle.std.proofs.Common.{[], sym, ◌∙◌}
use Rattle.std.proofs.lemmas.List.{append-nil}
use Rattle.wire_bytes.proofs.Fronts.{same_value}
use Rattle.records.proofs.NoFault.{no_fault}
use Rattle.records.proofs.OneReading.{one_reading}
use Rattle.records.proofs.laws.a_file_is_of_one_record.Goals as goal

pub returns : goal.returns
returns g c =
    let s = g.S.Wire in
    let w = g.B.Wire in
    record {
      one = one_reading s.spelled s.fits w.spelled w.fits g.B.Dated.brings_name
          (λ a b h k e. same_value s.spelled s.fits s.taken g.met.S.Wire.is_codec.read_back a b [] h k (e ∙ sym (append-nil (s.spelled b))))
          (λ a b h k e. same_value w.spelled w.fits w.taken g.met.B.Wire.is_codec.read_back a b [] h k (e ∙ sym (append-nil (w.spelled b))));
      no_fault = no_fault s.spelled s.fits w.spelled w.fits g.B.Dated.brings_name;
    }

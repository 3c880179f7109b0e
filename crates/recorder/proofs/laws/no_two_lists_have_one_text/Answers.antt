use Rattle.std.proofs.Common.{[], sym, ◌∙◌}
use Rattle.std.proofs.lemmas.List.{append-nil}
use Rattle.wire_bytes.proofs.Fronts.{same_value}
use Rattle.recorder.proofs.Apart.{own_text}
use Rattle.recorder.proofs.laws.no_two_lists_have_one_text.Goals as goal

pub returns : goal.returns
returns g c =
    let w = g.B.Wire in
    own_text w.spelled w.fits (λ a b h k e. same_value w.spelled w.fits w.taken g.met.B.Wire.is_codec.read_back a b [] h k (e ∙ sym (append-nil (w.spelled b))))

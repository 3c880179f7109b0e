use Rattle.std.proofs.Common.{rules, ◌≡◌, [], false, sym, ◌∙◌}
use Rattle.std.proofs.lemmas.Grind.{common_steps}
use Rattle.std.proofs.lemmas.List.{append-nil}
use Rattle.wire_bytes.proofs.Fronts.{same_value}
use Rattle.records.specs.RecordReading.{may_hold}
use Rattle.records.proofs.Holding.{read_other}
use Rattle.records.proofs.items.read_held.Goals as goal

pub returns-else-may_hold : goal.returns-else-may_hold
returns-else-may_hold g c =
    let w = g.B.Wire in
    let read = rw c.in-Some.is at c.in_ok-event.ensures in
    let other : may_hold g.B.Dated.brings_name c.args.version c.in-Some.event ≡ false = search (rules, common_steps) in
    read_other w.spelled w.fits g.B.Dated.brings_name
    (λ a b h k e. same_value w.spelled w.fits w.taken g.met.B.Wire.is_codec.read_back a b [] h k (e ∙ sym (append-nil (w.spelled b))))
    c.args.version c.args.line.now c.in-Some.event read other

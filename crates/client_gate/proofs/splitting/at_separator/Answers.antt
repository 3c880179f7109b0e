use Rattle.std.proofs.Common.{sym, ◌∷◌, ◌++◌, ap, ◌∙◌, take, ◌+◌}
use Rattle.std.proofs.lemmas.List.{take_rest}
use Rattle.client_gate.proofs.Separators.{at_place, no_place}
use Rattle.client_gate.proofs.splitting.at_separator.Goals as goal

pub returns-in-None : goal.returns-in-None
returns-in-None c = no_place c.args.separator c.args.bytes.now (sym c.in-None.ensures)

pub returns-in-Some : goal.returns-in-Some
returns-in-Some c =
    let bytes = c.args.bytes.now in
    let place = c.in-Some.place in
    let cut = at_place c.args.separator bytes place (sym c.in-Some.ensures) in
    (cut.1.0, cut.1.1 ∙ ap (λ t. take place bytes ++ c.args.separator ∷ t) (sym (take_rest bytes (place + 1))))

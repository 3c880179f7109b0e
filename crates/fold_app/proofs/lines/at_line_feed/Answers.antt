use Rattle.std.proofs.Common.{sym, ◌∷◌, ◌++◌, ap, ◌∙◌, take, ◌+◌}
use Rattle.std.proofs.lemmas.List.{take_rest}
use Rattle.irc_line.proofs.Splitting.{IsCut, at_line_feed, no_line_feed}
use Rattle.fold_app.proofs.lines.at_line_feed.Goals as goal

pub returns-in-None : goal.returns-in-None
returns-in-None c = no_line_feed c.args.bytes.now (sym c.in-None.ensures)

pub returns-in-Some : goal.returns-in-Some
returns-in-Some c =
    let bytes = c.args.bytes.now in
    let place = c.in-Some.place in
    let cut : IsCut bytes place = at_line_feed bytes place (sym c.in-Some.ensures) in
    (cut.front, cut.whole ∙ ap (λ t. take place bytes ++ 10 ∷ t) (sym (take_rest bytes (place + 1))))

use Rattle.std.proofs.Common.{◌≡◌, sym, ap, ◌∙◌, map, rules}
use Rattle.std.proofs.lemmas.Result.{on_ok_weaker}
use Rattle.client_gate.specs.StatusWords.{asked_by, said_by}
use Rattle.client_gate.specs.Turns.{noted}
use Rattle.client_gate.specs.Words.{words}
use Rattle.client_gate.proofs.status.tell_status.Goals as goal

pub returns : goal.returns
returns c =
    let are_words = ap (map (λ x. x.now)) c.as_slice.ensures.value ∙ c.in_ok-words.ensures in
    let said : c.of_words.result ≡ said_by (words c.args.text.now) = search rules in
    let told = c.in_ok-tell-in-None.ensures in
    rw (ap asked_by (sym are_words) ∙ sym c.in_ok-action.ensures ∙ c.in-None.is)
    (on_ok_weaker c.note.result (λ is. is ∙ ap (λ word. noted word c.tell.new.self) said ∙ ap (noted (said_by (words c.args.text.now))) told) c.note.ensures)

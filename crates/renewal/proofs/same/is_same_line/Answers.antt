use Rattle.std.proofs.Common.{◌≡◌, ◌∙◌, sym}
use Rattle.irc_line.proofs.Canonical.{one_line}
use Rattle.irc_line.proofs.SameBytes.{same_bytes-eq}
use Rattle.renewal.proofs.Tests.{of_true}
use Rattle.renewal.proofs.same.is_same_line.Goals as goal

pub returns : goal.returns
returns c = λ e.
    let same : c.spelling.result.now ≡ c.spelling-2.result.now = same_bytes-eq _ _ (sym c.is_same.ensures ∙ of_true c.is_same.result e) in
    one_line c.args.b.now c.args.a.now c.spelling-2.ensures.line c.spelling.ensures.line
    (sym c.spelling-2.ensures.value ∙ (sym same ∙ c.spelling.ensures.value))

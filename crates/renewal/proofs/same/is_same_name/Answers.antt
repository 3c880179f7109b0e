use Rattle.std.proofs.Common.{◌≡◌, ◌∙◌, sym}
use Rattle.irc_line.proofs.SameBytes.{same_bytes-eq}
use Rattle.renewal.proofs.Tests.{of_true}
use Rattle.renewal.proofs.same.is_same_name.Goals as goal

pub returns : goal.returns
returns c = λ e.
    let same : c.as_bytes.result.now ≡ c.as_bytes-2.result.now = same_bytes-eq _ _ (sym c.is_same.ensures ∙ of_true c.is_same.result e) in
    sym c.as_bytes-2.ensures.value ∙ (sym same ∙ c.as_bytes.ensures.value)

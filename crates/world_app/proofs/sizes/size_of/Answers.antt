use Rattle.std.proofs.Common.{◌∙◌}
use Rattle.world_app.proofs.Told.{too_long}
use Rattle.world_app.proofs.sizes.size_of.Goals as goal

pub returns-else-number-lt-PAST_DIGITS : goal.returns-else-number-lt-PAST_DIGITS
returns-else-number-lt-PAST_DIGITS c =
    too_long c.in_ok-number.number _ c.in_ok-number.ensures.0 (c.in_ok-number.ensures.1 ∙ c.as_bytes.ensures.value) c.if-number-lt-PAST_DIGITS.false

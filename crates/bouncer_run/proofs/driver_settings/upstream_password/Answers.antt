use Rattle.std.proofs.Common.{sym, ◌∙◌}
use Rattle.bouncer_run.proofs.PasswordTexts.{text_of_copy}
use Rattle.bouncer_run.proofs.driver_settings.upstream_password.Goals as goal

pub returns : goal.returns
returns c =
    text_of_copy c.from_bytes.result c.in_ok-bytes.bytes.items c.in-Some.password (c.in_ok-bytes.ensures.items ∙ c.as_bytes.ensures.value)
    c.as_bytes.ensures.password c.from_bytes.ensures
    ∙ sym c.in-Some.is

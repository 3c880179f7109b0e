use Rattle.std.proofs.Common.{List, ℕ, ap, ◌∙◌}
use Rattle.buffer_commands.specs.Settings.{settings_of}
use Rattle.setup_spelling.proofs.wire_setup.made.Goals as goal

pub returns : goal.returns
returns c =
    let made = rw c.unwrap.ensures at c.new.ensures.ok in
    made ∙ (ap (λ (names : List (List ℕ)). settings_of c.args.nick names c.options_of-options.result) c.into_names.ensures.names ∙ c.options_of-options.ensures.value c.args.nick c.args.channels)

-- What is logged.
use Rattle.std.specs.Prelude.{Bool, true, false, not}
use Rattle.bouncer_config.specs.declared.log_level.LogLevel.{LogLevel}
use Rattle.bouncer_config.specs.declared.log_level.LogLevel.TheVariants.{Quiet, Info, Debug}

-- an event is logged, which is a detail or not
abbrev pub is_told : LogLevel → Bool → Bool
is_told Quiet detail = false
is_told Info detail = not detail
is_told Debug detail = true

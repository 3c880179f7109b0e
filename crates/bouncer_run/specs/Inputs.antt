-- Whether standard input is read.
use Rattle.std.specs.Prelude.{Bool, true, false}
use Rattle.bouncer_config.specs.declared.input_end.InputEnd.{InputEnd}
use Rattle.bouncer_config.specs.declared.input_end.InputEnd.TheVariants.{Stops, Ignored}

-- it is read if its end is to stop the bouncer
abbrev pub is_read : InputEnd → Bool
is_read Stops = true
is_read Ignored = false

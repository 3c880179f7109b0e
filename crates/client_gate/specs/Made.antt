-- The settings of a gate.
use Rattle.std.specs.Prelude.{ℕ, List}
use Rattle.wire_bytes.specs.declared.origin.Origin.{Origin}
use Rattle.client_gate.specs.declared.settings.Settings.{Settings}

-- settings of an origin, a password and a nick
abbrev pub made : Origin → List ℕ → List ℕ → Settings
made origin password nick = record { origin = origin; password = password; nick = nick }

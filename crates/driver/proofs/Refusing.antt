-- A client whose password may be wrong.
use Rattle.std.proofs.Common.{◌≡◌, ◌∷◌, ◌∙◌, ℕ, Bool, true, false, List}
use Rattle.wire_bytes.specs.declared.moment.Moment.{Moment}
use Rattle.client_gate.specs.declared.fed.Fed.{Fed}
use Rattle.client_gate.specs.declared.settings.Settings.{Settings}
use Rattle.client_gate.specs.Calls.{Call, Held}
use Rattle.driver.specs.declared.client.Client.{Client}
use Rattle.driver.specs.Serving.{TakesBy}
use Rattle.driver.specs.Telling.{Ordered}

-- what a gate answered goes on, whatever gate the client had before
pub takes_of : (wrong : Bool) (s : Settings) (calls : List Call) (fed : Fed) (now : ℕ) (at : Moment) (due : ℕ) (c : Client) (held : Held) (before : Ordered) (new : Client) (after : Ordered) → TakesBy wrong s calls fed now at due (record c { gate = held }) before new after → TakesBy wrong s calls fed now at due c before new after
takes_of false s calls fed now at due c held before new after (orders, stands) = (orders, record { gate = stands.gate; rest = stands.rest })
takes_of true s calls fed now at due c held before new after (orders, stands) = (orders, record { gate = stands.gate; rest = stands.rest })

-- The requests of a whole list of calls.
use Rattle.std.specs.Prelude.{◌≡◌, ℕ, ◌+◌, List, [], ◌∷◌, ◌++◌, option_to_list}
use Rattle.client_gate.specs.declared.request.Request.{Request}
use Rattle.client_gate.specs.declared.settings.Settings.{Settings}
use Rattle.client_gate.specs.Gates.{last_request}
use Rattle.client_gate.specs.Calls.{Call, Feed, Hear, End, Refused, fed_answer, gate}

-- the requests that a call numbers, after these calls
abbrev pub numbered_by : Settings → List Call → Call → List Request
numbered_by s earlier (Feed bytes) = (fed_answer s earlier bytes).requests
numbered_by s earlier (Hear effect) = []
numbered_by s earlier End = option_to_list (last_request (gate s earlier))
numbered_by s earlier Refused = []

-- all requests that these calls numbered, in order
unfoldable pub all_requests : Settings → List Call → List Request
all_requests s [] = []
all_requests s (call ∷ earlier) = all_requests s earlier ++ numbered_by s earlier call

-- these requests have the numbers from this one on, each once and in order
abbrev pub AreNumberedFrom : ℕ → List Request → Type 0
AreNumberedFrom n [] = Unit {0}
AreNumberedFrom n (r ∷ rs) = (r.number ≡ n) × AreNumberedFrom (n + 1) rs

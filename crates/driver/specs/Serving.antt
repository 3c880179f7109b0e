-- What a client's bytes do, what an effect of its requests does, and what its end does.
use Rattle.std.specs.Prelude.{◌≡◌, ◌⊎◌, ◌&&◌, is_some, ℕ, Bool, true, false, List, [], ◌∷◌}
use Rattle.client_gate.specs.declared.fed.Fed.{Fed}
use Rattle.client_gate.specs.declared.request.Request.{Request}
use Rattle.client_gate.specs.declared.settings.Settings.{Settings}
use Rattle.client_gate.specs.declared.status_word.StatusWord.{StatusWord}
use Rattle.client_gate.specs.Answers.{given_in}
use Rattle.client_gate.specs.Calls.{Call, End, Feed, Hear, Refused, Stands, fed_answer, gate}
use Rattle.client_gate.specs.Gates.{GateEffect, Given, given_effect, is_turned_down, last_request}
use Rattle.wire_bytes.specs.declared.moment.Moment.{Moment}
use Rattle.driver.specs.declared.client.Asked.{Asked}
use Rattle.driver.specs.declared.client.Client.{Client}
use Rattle.driver.specs.Asking.{begun, held_behind, is_idle, now_asked}
use Rattle.driver.specs.Clients.{asked_by, behind_fed, is_cut, is_shut, kept_back, parting_unless, passed}
use Rattle.driver.specs.Monitors.{at}
use Rattle.driver.specs.Opening.{open_behind}
use Rattle.driver.specs.Telling.{Ordered, ordered}

-- a client after bytes of it came: it was heard from
abbrev pub spoke : Asked → ℕ → List Request → Client → Client
spoke asked now waiting c = record (begun asked waiting c) { heard = at now; is_pinged = false }

-- a client after an effect of a request, under this nick
abbrev pub answered : Asked → GateEffect → List ℕ → List Request → Client → Client
answered asked effect nick waiting c =
    let behind = begun asked waiting c in
    record behind { is_held_up = held_behind effect behind.is_held_up; channels = open_behind nick effect behind.channels }

-- a client whose connection is gone
abbrev pub gone_from : Asked → List Request → Client → Client
gone_from asked waiting c = record (begun asked waiting c) { is_gone = true }

-- what came to the gate of a client that is hung up: the end, the first time
abbrev pub ended : Bool → List Call → List Call
ended true calls = calls
ended false calls = End ∷ calls

-- what came to the gate of a client that is hung up, if it is
abbrev pub ended_if : Bool → Bool → List Call → List Call
ended_if false gone calls = calls
ended_if true gone calls = ended gone calls

-- The client is this one, with a gate that has had these calls.
pub record StandsSo (s : Settings) (calls : List Call) (c new : Client) : Type 0 where
  pub gate : Stands s calls new.gate
  pub rest : new ≡ record c { gate = new.gate }

-- The gate, after these calls, gave this answer, and the answer went on, with these orders.
pub record HasPassed (s : Settings) (calls : List Call) (answer : Given) (now : ℕ) (at : Moment) (c : Client) (before : Ordered) (new : Client) (after : Ordered) : Type 0 where
  pub fed : Fed
  pub is : given_in fed ≡ answer
  pub orders : after ≡ ordered before (passed c at (last_request (gate s calls)) fed)
  pub stands : StandsSo s (ended_if (is_cut fed) c.is_gone calls) (behind_fed now c fed) new

-- A client whose gate has had these calls is closed, unless its connection is gone already.
pub record IsParted (at : Moment) (s : Settings) (calls : List Call) (old : Client) (before : Ordered) (new : Client) (after : Ordered) : Type 0 where
  pub orders : after ≡ ordered before (parting_unless old.is_gone old.is_attached old.origin at (last_request (gate s calls)))
  pub stands : StandsSo s (ended old.is_gone calls) (record old { is_gone = true }) new

-- if this is so; else nothing changes
abbrev pub PartsIf : Bool → Moment → Settings → List Call → Client → Ordered → Client → Ordered → Type 0
PartsIf false at s calls old before new after = (new ≡ old) × (after ≡ before)
PartsIf true at s calls old before new after = IsParted at s calls old before new after

-- a client is leaving, and all its requests are done
abbrev pub is_done : List Request → Client → Bool
is_done waiting c = is_some c.leaving && is_idle waiting

-- The gate ran out of memory: the client is closed.
abbrev pub IsCutOff : Settings → List Call → Moment → Client → Ordered → Client → Ordered → Type 0
IsCutOff s calls at c before new after = IsParted at s (Refused ∷ calls) c before new after

-- What a gate answered goes on; if the password is wrong, what it wrote is held back until this moment, and nothing is
-- closed.
abbrev pub TakesBy : Bool → Settings → List Call → Fed → ℕ → Moment → ℕ → Client → Ordered → Client → Ordered → Type 0
TakesBy false s calls fed now moment due c before new after =
    (after ≡ ordered before (passed c moment (last_request (gate s calls)) fed))
    × StandsSo s (ended_if (is_cut fed) c.is_gone calls) (behind_fed now c fed) new
TakesBy true s calls fed now moment due c before new after =
    (after ≡ ordered before (asked_by c moment fed.requests.items)) × StandsSo s calls (kept_back due c fed) new

-- The gate, after these calls, gave this answer, and it went on, or is held back.
pub record HasTaken (s : Settings) (calls : List Call) (answer : Given) (now : ℕ) (moment : Moment) (due : ℕ) (c : Client) (before : Ordered) (new : Client) (after : Ordered) : Type 0 where
  pub fed : Fed
  pub is : given_in fed ≡ answer
  pub takes : TakesBy (is_turned_down (gate s calls).phase) s calls fed now moment due c before new after

-- Bytes came from a client; if nothing more may be taken from it, they do nothing.
pub record Receives (bytes : List ℕ) (now : ℕ) (moment : Moment) (due : ℕ) (s : Settings) (calls : List Call) (old : Client) (before : Ordered) (new : Client) (after : Ordered) : Type 0 where
  pub hears :
      let heard = spoke (now_asked before now old) now (gate s calls).waiting old in
      is_shut old ≡ false
      → HasTaken s (Feed bytes ∷ calls) (fed_answer s calls bytes) now moment due heard before new after
      ⊎ IsCutOff s calls moment heard before new after
  pub shut : is_shut old ≡ true → (new ≡ old) × (after ≡ before)

-- What a client said to the bouncer by bytes that asks for nothing: what its gate gave; nothing if nothing is taken
-- from it, or if memory ran out, so that it is gone.
abbrev pub Says : Bool → Bool → List StatusWord → List StatusWord → Type 0
Says true gone given words = words ≡ []
Says false gone given words = (words ≡ given) ⊎ ((gone ≡ true) × (words ≡ []))

-- Bytes came from a client, by which it said these words to the bouncer that ask for nothing.
pub record ReceivesWords (bytes : List ℕ) (words : List StatusWord) (now : ℕ) (moment : Moment) (due : ℕ) (s : Settings) (calls : List Call) (old : Client) (before : Ordered) (new : Client) (after : Ordered) : Type 0 where
  pub receives : Receives bytes now moment due s calls old before new after
  pub says : Says (is_shut old) new.is_gone (fed_answer s calls bytes).words words

-- An effect of a request of a client came; a request that was left out is not sent again at once.
abbrev pub HearsEffect : GateEffect → List ℕ → ℕ → Moment → Settings → List Call → Client → Ordered → Client → Ordered → Type 0
HearsEffect effect nick now moment s calls old before new after =
    HasPassed s (Hear effect ∷ calls) (given_effect s effect) now moment (answered (now_asked before now old) effect nick (gate s calls).waiting old) before new after
    ⊎ IsCutOff s calls moment (begun (now_asked before now old) (gate s calls).waiting old) before new after

-- An effect of a request of a client came; if the client is leaving, and all its requests are done by that, it is
-- closed.
pub record Hears (effect : GateEffect) (nick : List ℕ) (now : ℕ) (moment : Moment) (s : Settings) (calls : List Call) (old : Client) (before : Ordered) (new : Client) (after : Ordered) : Type 0 where
  pub told : Client
  pub orders : Ordered
  pub hears : HearsEffect effect nick now moment s calls old before told orders
  pub parts :
      (behind : List Call) → Stands s behind told.gate
      → PartsIf (is_done (gate s behind).waiting told) moment s behind told orders new after

-- A client's connection is gone, or is closed; if it was gone before nothing changes.
pub record IsLost (now : ℕ) (moment : Moment) (s : Settings) (calls : List Call) (old : Client) (before : Ordered) (new : Client) (after : Ordered) : Type 0 where
  pub orders : after ≡ ordered before (parting_unless old.is_gone old.is_attached old.origin moment (last_request (gate s calls)))
  pub gone : old.is_gone ≡ true → new ≡ old
  pub stays : old.is_gone ≡ false → StandsSo s (End ∷ calls) (gone_from (now_asked before now old) (gate s calls).waiting old) new

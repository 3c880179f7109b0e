-- What is promised over a list of bodies: requests that are dropped, blanks and marks change nothing, and each line is handed out once.
use Rattle.std.specs.Prelude.{◌≡◌, ◌≤◌, ◌+◌, ◌-◌, ◌++◌, ◌∷◌, ℕ, Some, false, true, List, length, map, slice_get, take}
use Rattle.irc_line.specs.Lines.{Parts}
use Rattle.machine_laws.specs.Classes.{Handed}
use Rattle.machine_laws.specs.Runs.{History}
use Rattle.wire_bytes.specs.declared.origin.Origin.{Origin}
use Rattle.wire_bytes.specs.declared.session_id.SessionId.{SessionId}
use Rattle.buffer_commands.specs.Settings.{Settings}
use Rattle.buffer_commands.specs.declared.command.Action.{Action}
use Rattle.request_once.specs.declared.body.Body.TheVariants.{Asked}
use Rattle.request_once.specs.Fresh.{fresh, is_blank_or_mark, stays}
use Rattle.bouncer_tower.specs.Bodies.{TowerBody, answers, claimed, outgoing}
use Rattle.bouncer_tower.specs.Hosting.{hands}

-- a request that is not the next of its origin does not change the value of this function, then or later
abbrev pub IgnoresDropped : {X : Type 0} → (History TowerBody → X) → Type 0
IgnoresDropped what =
    (later earlier : History TowerBody) (place : ℕ) (origin : Origin) (number at : ℕ) (action : Action)
    → stays (fresh earlier) (Asked origin number at action) ≡ false
    → what (later ++ (place, Asked origin number at action) ∷ earlier) ≡ what (later ++ earlier)

-- a blank or a mark does not change the value of this function, then or later
abbrev pub IgnoresBlanksAndMarks : {X : Type 0} → (History TowerBody → X) → Type 0
IgnoresBlanksAndMarks what =
    (later earlier : History TowerBody) (place : ℕ) (body : TowerBody) → is_blank_or_mark body ≡ true → what (later ++ (place, body) ∷ earlier) ≡ what (later ++ earlier)

-- the numbers of these claims are those from 1 on
abbrev pub AreInOrder : List (ℕ × SessionId) → Type 0
AreInOrder claims = (i n : ℕ) (id : SessionId) → slice_get claims i ≡ Some (n, id) → n ≡ i + 1

-- no two of these claims have the same number
abbrev pub AreDifferent : List (ℕ × SessionId) → Type 0
AreDifferent claims = (i j n : ℕ) (one other : SessionId) → slice_get claims i ≡ Some (n, one) → slice_get claims j ≡ Some (n, other) → i ≡ j

-- no two of these lines have the same number
abbrev pub HaveDifferentNumbers : List Handed → Type 0
HaveDifferentNumbers lines =
    (i j n : ℕ) (one other : SessionId) (line another : Parts) → slice_get lines i ≡ Some ((n, one), line) → slice_get lines j ≡ Some ((n, other), another) → i ≡ j

-- each of these claims is for one of these lines
abbrev pub AreOf : List Parts → List (ℕ × SessionId) → Type 0
AreOf lines claims = (i n : ℕ) (id : SessionId) → slice_get claims i ≡ Some (n, id) → (1 ≤ n) × (n ≤ length lines)

-- the claims that a body adds are those of the lines that it hands out
abbrev pub AddsItsHands : Settings → History TowerBody → ℕ → TowerBody → Type 0
AddsItsHands s h place body = claimed s ((place, body) ∷ h) ≡ claimed s h ++ map (λ k. k.0) (hands (answers s h place body))

-- each line that a body hands out is the line of its number
abbrev pub HandsOutLines : Settings → History TowerBody → ℕ → TowerBody → Type 0
HandsOutLines s h place body =
    (i n : ℕ) (id : SessionId) (line : Parts) → slice_get (hands (answers s h place body)) i ≡ Some ((n, id), line) → slice_get (outgoing s h) (n - 1) ≡ Some line

-- a line that was numbered keeps its number
abbrev pub KeepsNumbers : Settings → History TowerBody → ℕ → TowerBody → Type 0
KeepsNumbers s h place body = take (length (outgoing s h)) (outgoing s ((place, body) ∷ h)) ≡ outgoing s h

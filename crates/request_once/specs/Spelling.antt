-- Bodies as bytes: a kind byte, 0 for a command of the machine below, 1 for a numbered request, 2 for a blank and 3 for
-- a mark, followed by its fields.
use Rattle.std.specs.Prelude.{ℕ, List, [], ◌∷◌, ◌++◌}
use Rattle.wire_bytes.specs.Fields.{Reading, done, through, both, choice}
use Rattle.wire_bytes.specs.Wants.{Wants, wants_behind, wants_choice}
use Rattle.wire_bytes.specs.Values.{spelled_origin, spelled_number, spelled_mark, FitsOrigin, FitsNumber, FitsMoment, FitsMark, origin, number, moment, mark_taken}
use Rattle.wire_bytes.specs.declared.origin.Origin.{Origin}
use Rattle.request_once.specs.declared.body.Body.{Body}
use Rattle.request_once.specs.declared.body.Body.TheVariants.{Inner, Asked, Blank, Mark}

-- a request: its origin, its number, its moment and its action
abbrev pub spelled_asked : {A : Type 0} → (A → List ℕ) → Origin → ℕ → ℕ → A → List ℕ
spelled_asked action o n at a = ((spelled_origin o ++ spelled_number n) ++ spelled_number at) ++ action a

-- a request needs memory only for its action
abbrev pub asked_wants : Wants → Wants
asked_wants action = wants_behind (both (both origin number) moment) action

-- which inputs may need memory: a command of the machine below and a request
abbrev pub body_wants : Wants → Wants → Wants
body_wants command action = wants_choice ((0, command) ∷ (1, asked_wants action) ∷ [])

module _ {C A : Type 0} where
  -- the kind byte
  abbrev pub body_kind : Body C A → ℕ
  body_kind (Inner c) = 0
  body_kind (Asked o n at a) = 1
  body_kind Blank = 2
  body_kind (Mark m) = 3

  -- what follows the kind byte
  abbrev pub spelled_parts : (C → List ℕ) → (A → List ℕ) → Body C A → List ℕ
  spelled_parts command action (Inner c) = command c
  spelled_parts command action (Asked o n at a) = spelled_asked action o n at a
  spelled_parts command action Blank = []
  spelled_parts command action (Mark m) = spelled_mark m

  -- a body as bytes
  abbrev pub spelled_body : (C → List ℕ) → (A → List ℕ) → Body C A → List ℕ
  spelled_body command action body = body_kind body ∷ spelled_parts command action body

  -- each of its values is within its limits
  abbrev pub FitsBody : (C → Type 0) → (A → Type 0) → Body C A → Type 0
  FitsBody command action (Inner c) = command c
  FitsBody command action (Asked o n at a) = ((FitsOrigin o × FitsNumber n) × FitsMoment at) × action a
  FitsBody command action Blank = Unit {0}
  FitsBody command action (Mark m) = FitsMark m

  -- a command below, after the kind byte
  abbrev pub inner_taken : Reading C → Reading (Body C A)
  inner_taken command = through Inner command

  -- a request, from its parts as they are read
  abbrev pub asked_of : ((Origin × ℕ) × ℕ) × A → Body C A
  asked_of p = Asked p.0.0.0 p.0.0.1 p.0.1 p.1

  -- a request
  abbrev pub asked_taken : Reading A → Reading (Body C A)
  asked_taken action = through asked_of (both (both (both origin number) moment) action)

  -- a mark, after the kind byte
  abbrev pub marking_taken : Reading (Body C A)
  marking_taken = through Mark mark_taken

  -- the body at the front of an input
  abbrev pub body_taken : Reading C → Reading A → Reading (Body C A)
  body_taken command action = choice ((0, inner_taken command) ∷ (1, asked_taken action) ∷ (2, done Blank) ∷ (3, marking_taken) ∷ [])

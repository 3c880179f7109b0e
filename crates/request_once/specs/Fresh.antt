-- Requests that their clients number. A history has each body with its place, the newest first.
use Rattle.std.specs.Prelude.{◌≡◌, ℕ, ◌+◌, Bool, true, false, ◌&&◌, if◌then◌else◌, ◌==◌, nat_le, List, [], ◌∷◌, ◌++◌, map, Option, Some, None, unwrap_or}
use Rattle.machine_laws.specs.Runs.{History}
use Rattle.machine_laws.specs.Origins.{same_origin}
use Rattle.wire_bytes.specs.declared.origin.Origin.{Origin}
use Rattle.request_once.specs.declared.body.Body.{Body}
use Rattle.request_once.specs.declared.body.Body.TheVariants.{Inner, Asked, Blank, Mark}
use Rattle.request_once.specs.declared.answer.Answer.{Answer}
use Rattle.request_once.specs.declared.answer.Answer.TheVariants.{Effect, Done, Repeat, Gap, Marked}

module _ {C A : Type 0} where
  -- a request of this origin
  abbrev pub is_asked_by : Origin → Body C A → Bool
  is_asked_by o (Inner c) = false
  is_asked_by o (Asked p n at a) = same_origin o p
  is_asked_by o Blank = false
  is_asked_by o (Mark m) = false

  -- how many requests of an origin there are
  abbrev pub asked : Origin → History (Body C A) → ℕ
  asked o [] = 0
  asked o (x ∷ earlier) = if is_asked_by o x.1 then asked o earlier + 1 else asked o earlier

  -- a body stays, unless it is a request whose number is not one more than the number of its origin's earlier requests
  -- that stayed
  abbrev pub stays : History (Body C A) → Body C A → Bool
  stays kept (Inner c) = true
  stays kept (Asked o n at a) = n == asked o kept + 1
  stays kept Blank = true
  stays kept (Mark m) = true

  -- the history with this body, where it stays
  abbrev pub if_stays : Bool → ℕ × Body C A → History (Body C A) → History (Body C A)
  if_stays true x kept = x ∷ kept
  if_stays false x kept = kept

  -- the bodies that stay
  unfoldable pub fresh : History (Body C A) → History (Body C A)
  fresh [] = []
  fresh (x ∷ earlier) = let kept = fresh earlier in if_stays (stays kept x.1) x kept

  -- the number of an origin's last request that stayed, 0 if none did
  unfoldable pub last : History (Body C A) → Origin → ℕ
  last bodies o = asked o (fresh bodies)

  -- a request of this origin and number
  abbrev pub is_request : Origin → ℕ → Body C A → Bool
  is_request o n (Inner c) = false
  is_request o n (Asked p m at a) = same_origin o p && m == n
  is_request o n Blank = false
  is_request o n (Mark m) = false

  -- how many requests there are of this origin and number
  abbrev pub times : Origin → ℕ → History (Body C A) → ℕ
  times o n [] = 0
  times o n (x ∷ earlier) = if is_request o n x.1 then times o n earlier + 1 else times o n earlier

-- a blank or a mark
abbrev pub is_blank_or_mark : {C A : Type 0} → Body C A → Bool
is_blank_or_mark (Inner c) = false
is_blank_or_mark (Asked o n at a) = false
is_blank_or_mark Blank = true
is_blank_or_mark (Mark m) = true

-- the command of a body, where `client` makes that of a client's request; a blank and a mark have none
abbrev pub plain_one : {C A : Type 0} → (Origin → ℕ → A → C) → Body C A → Option C
plain_one client (Inner c) = Some c
plain_one client (Asked o n at a) = Some (client o at a)
plain_one client Blank = None
plain_one client (Mark m) = None

-- a history with one more command at a place, if there is one
abbrev pub with_command : {C : Type 0} → ℕ → Option C → History C → History C
with_command place None earlier = earlier
with_command place (Some c) earlier = (place, c) ∷ earlier

-- the commands of bodies, each at its place
abbrev pub plain_of : {C A : Type 0} → (Origin → ℕ → A → C) → History (Body C A) → History C
plain_of client [] = []
plain_of client (x ∷ earlier) = with_command x.0 (plain_one client x.1) (plain_of client earlier)

-- the commands of the bodies that stay, each at its place
unfoldable pub plain : {C A : Type 0} → (Origin → ℕ → A → C) → History (Body C A) → History C
plain client bodies = plain_of client (fresh bodies)

-- what a request brings about that is not the next of its origin
abbrev pub refused : {E : Type 0} → Origin → ℕ → ℕ → Answer E
refused o n was = if nat_le n was then Repeat o was else Gap o (was + 1)

-- what a body brings about at a place
unfoldable pub answers : {C A E : Type 0} → (Origin → ℕ → A → C) → (History C → ℕ → C → List E) → History (Body C A) → ℕ → Body C A → List (Answer E)
answers client effects earlier place (Inner c) = map Effect (effects (plain client earlier) place c)
answers client effects earlier place (Asked o n at a) =
    if n == last earlier o + 1
    then map Effect (effects (plain client earlier) place (client o at a)) ++ Done o n ∷ []
    else refused o n (last earlier o) ∷ []
answers client effects earlier place Blank = []
answers client effects earlier place (Mark m) = Marked m ∷ []

-- a map holds the numbers of the last requests that stayed
abbrev pub HasNumbers : {C A : Type 0} → (Origin → Option ℕ) → History (Body C A) → Type 0
HasNumbers numbers bodies = (o : Origin) → unwrap_or (numbers o) 0 ≡ last bodies o

-- the numbers after one more request of an origin
abbrev pub IsNoted : (Origin → Option ℕ) → (Origin → Option ℕ) → Origin → ℕ → Type 0
IsNoted old new origin number = (o : Origin) → unwrap_or (new o) 0 ≡ (if same_origin o origin then number else unwrap_or (old o) 0)

-- an answer says that the request of this origin and number took effect
abbrev pub is_done : {E : Type 0} → Origin → ℕ → Answer E → Bool
is_done o n (Done p m) = same_origin o p && m == n
is_done o n _ = false

-- how many answers say so
abbrev pub dones : {E : Type 0} → Origin → ℕ → List (Answer E) → ℕ
dones o n [] = 0
dones o n (e ∷ es) = if is_done o n e then dones o n es + 1 else dones o n es

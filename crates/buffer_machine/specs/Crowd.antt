-- Who is attached after the commands that came, and by which names. A history is the list of these commands, the newest
-- first. A client may give a name when it attaches; it is then played what that name has not seen.
use Rattle.std.specs.Prelude.{ℕ, Bool, true, false, not, ◌&&◌, ◌||◌, if◌then◌else◌, ◌==◌, nat_lt, nat_le, max, List, [], ◌∷◌, ◌++◌, length, Option, Some, None, filter}
use Rattle.std.specs.List.{list_any}
use Rattle.irc_line.specs.Names.{same_bytes}
use Rattle.wire_bytes.specs.declared.origin.Origin.{Origin}
use Rattle.buffer_commands.specs.Settings.{Settings}
use Rattle.buffer_commands.specs.declared.command.Action.{Action}
use Rattle.buffer_commands.specs.declared.command.Action.TheVariants.{Attach, Leave}
use Rattle.buffer_commands.specs.declared.command.Command.{Command}
use Rattle.buffer_commands.specs.declared.command.Command.TheVariants.{Client, NodeGone}
use Rattle.machine_laws.specs.Origins.{same_origin}
use Rattle.buffer_machine.specs.Messages.{is_among}
use Rattle.buffer_targets.specs.declared.seen.TheConstants.{READERS}

-- a node's floor after one more command
abbrev pub floor_after : ℕ → ℕ → Command → ℕ
floor_after was node (NodeGone n floor) = if n == node then max was floor else was
floor_after was node _ = was

-- the greatest floor that was set for a node, 0 if none was
unfoldable pub floor : List Command → ℕ → ℕ
floor [] node = 0
floor (x ∷ earlier) node = floor_after (floor earlier node) node x

-- the only request that a client may make that is not attached
abbrev pub is_attach : Action → Bool
is_attach (Attach id) = true
is_attach _ = false

-- Names of clients, compared byte by byte: they are not folded

-- at most this many names are known
abbrev pub id_limit : ℕ
id_limit = READERS

-- a name is one of these
abbrev pub is_id_in : List ℕ → List (List ℕ) → Bool
is_id_in id ids = list_any (same_bytes id) ids

-- this is the name that is given
abbrev pub is_id : List ℕ → Option (List ℕ) → Bool
is_id id None = false
is_id id (Some given) = same_bytes id given

-- the list is not empty
abbrev pub is_some_of : {A : Type 0} → List A → Bool
is_some_of [] = false
is_some_of (x ∷ xs) = true

-- there is room for the name that a client gives: it gives none, or the name is known, or fewer than the limit are
-- known
abbrev pub may_name : List (List ℕ) → Option (List ℕ) → Bool
may_name ids None = true
may_name ids (Some id) = is_id_in id ids || nat_lt (length ids) id_limit

-- the names with the one that a client gives, which comes last if it is new
abbrev pub with_id : Option (List ℕ) → List (List ℕ) → List (List ℕ)
with_id None ids = ids
with_id (Some id) ids = if is_id_in id ids then ids else ids ++ id ∷ []

-- whether a command is an Attach that gives a name
abbrev pub is_naming : Command → Bool
is_naming (Client o at (Attach (Some id))) = true
is_naming _ = false

-- Who is attached

-- whether an origin is not attached and its boot is not below its node's floor
abbrev pub can_attach : ℕ → List Origin → Origin → Bool
can_attach floor was o = not (is_among o was) && nat_le floor o.1

-- whether a command is an Attach that is taken: its origin can attach, and there is room for its name
abbrev pub is_taken : (ℕ → ℕ) → List Origin → List (List ℕ) → Command → Bool
is_taken floors was ids (Client o at (Attach id)) = can_attach (floors o.0) was o && may_name ids id
is_taken floors was ids _ = false

-- who is attached after one more command, by whether it is an Attach that is taken
abbrev pub attached_after : Bool → Bool → List Origin → Command → List Origin
attached_after many taken was (Client o at (Attach id)) = if taken then ((if many then was else []) ++ o ∷ []) else was
attached_after many taken was (Client o at Leave) = filter (λ x. not (same_origin o x)) was
attached_after many taken was (NodeGone n floor) = filter (λ x. not (x.0 == n && nat_lt x.1 floor)) was
attached_after many taken was _ = was

-- the names after one more command, by whether it is an Attach that is taken
abbrev pub ids_after : Bool → List (List ℕ) → Command → List (List ℕ)
ids_after taken was (Client o at (Attach id)) = if taken then with_id id was else was
ids_after taken was _ = was

-- who is attached, and which names were given: each depends on the other
pub record Crowd : Type 0 where
  pub order : List Origin
  pub ids : List (List ℕ)

-- both, from what they were and whether the command is an Attach that is taken
abbrev pub crowd_by : Bool → Bool → Crowd → Command → Crowd
crowd_by many taken was x = record { order = attached_after many taken was.order x; ids = ids_after taken was.ids x }

-- both after one more command
abbrev pub crowd_after : Bool → (ℕ → ℕ) → Crowd → Command → Crowd
crowd_after many floors was x = crowd_by many (is_taken floors was.order was.ids x) was x

-- both after a history
unfoldable pub crowd : Settings → List Command → Crowd
crowd s [] = record { order = []; ids = [] }
crowd s (x ∷ earlier) = crowd_after s.many_clients (floor earlier) (crowd s earlier) x

-- the origins that are attached, in the order in which they attached
unfoldable pub attached : Settings → List Command → List Origin
attached s history = (crowd s history).order

-- the names that clients gave when they attached, in the order in which they first came; none is ever forgotten
unfoldable pub ids : Settings → List Command → List (List ℕ)
ids s history = (crowd s history).ids

-- whether a command is an Attach that is taken after a history
abbrev pub takes : Settings → List Command → Command → Bool
takes s earlier x = is_taken (floor earlier) (attached s earlier) (ids s earlier) x

-- Who has which name

-- the name of an origin after one more command, by whether it is an Attach that is taken
abbrev pub id_after : Bool → Option (List ℕ) → Origin → Command → Option (List ℕ)
id_after taken was o (Client p at (Attach id)) = if taken && same_origin p o then id else was
id_after taken was o _ = was

-- the name that an origin gave when it last attached, if it gave one
unfoldable pub id_of : Settings → List Command → Origin → Option (List ℕ)
id_of s [] o = None
id_of s (x ∷ earlier) o = id_after (takes s earlier x) (id_of s earlier o) o x

-- an origin of this name is attached
unfoldable pub holds : Settings → List Command → List ℕ → Bool
holds s history id = list_any (λ o. is_id id (id_of s history o)) (attached s history)

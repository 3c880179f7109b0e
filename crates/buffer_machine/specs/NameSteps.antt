-- One step of the machine, on the names of clients that it holds: who is here, and what is held next.
use Rattle.std.specs.Prelude.{ℕ, zero, suc, ◌==◌, Bool, not, ◌&&◌, if◌then◌else◌, nat_lt, List, [], ◌∷◌, ◌++◌, filter, find, option_map, Option, Some}
use Rattle.std.specs.List.{list_all, list_any}
use Rattle.buffer_targets.specs.Targets.{readers}
use Rattle.wire_bytes.specs.declared.origin.Origin.{Origin}
use Rattle.buffer_commands.specs.declared.command.Action.TheVariants.{Attach, Leave}
use Rattle.buffer_commands.specs.declared.command.Command.{Command}
use Rattle.buffer_commands.specs.declared.command.Command.TheVariants.{Client, NodeGone}
use Rattle.machine_laws.specs.Origins.{same_origin}
use Rattle.buffer_machine.specs.Crowd.{is_taken, with_id}
use Rattle.buffer_machine.specs.Held.{Held, Names, holder, names_of}

-- whether an attached client has each reader, for this many readers from this one on
abbrev pub flags_from : ℕ → ℕ → List (Origin × ℕ) → List Bool
flags_from i zero holders = []
flags_from i (suc more) holders = list_any (λ h. h.1 == i) holders ∷ flags_from (suc i) more holders

-- the readers with an attached client, one reader for each name
abbrev pub here_from : ℕ → List (Origin × ℕ) → List (List ℕ) → List Bool
here_from i holders [] = []
here_from i holders (id ∷ ids) = list_any (λ h. h.1 == i) holders ∷ here_from (suc i) holders ids

-- the readers who are here, out of all that there may be
abbrev pub flags : List (Origin × ℕ) → List Bool
flags holders = flags_from 0 readers holders

-- each has a place below this one
abbrev pub stand_below : ℕ → List (Origin × ℕ) → Bool
stand_below n holders = list_all (λ h. nat_lt h.1 n) holders

-- a client attached by a name, after all others
abbrev pub with_holder : Origin → List ℕ → Names → Names
with_holder o id was = names_of (with_id (Some id) was.ids) (was.holders ++ holder (with_id (Some id) was.ids) o (Some id))

-- the readers who are here, of the names that are held
abbrev pub here_of : Names → List Bool
here_of names = here_from 0 names.holders names.ids

-- the readers who see what comes for a channel now, by whether it is detached: nobody sees what comes for a detached
-- one
abbrev pub here_in : Names → Bool → List Bool
here_in names hidden = here_of (if hidden then names_of names.ids [] else names)

-- the place of the name of an attached origin, if it has one
abbrev pub index_of : Origin → List (Origin × ℕ) → Option ℕ
index_of o holders = option_map (λ h. h.1) (find (λ h. same_origin o h.0) holders)

-- whether a command is an Attach that is taken, by what is held
abbrev pub taken_now : ℕ → Held → Command → Bool
taken_now floor h x = is_taken (λ _. floor) h.clients h.names.ids x

-- the names of clients after a command
abbrev pub names_after : Bool → Bool → Names → Command → Names
names_after many taken was (Client o at (Attach id)) =
    if taken
    then names_of (with_id id was.ids) ((if many then was.holders else []) ++ holder (with_id id was.ids) o id)
    else was
names_after many taken was (Client o at Leave) = names_of was.ids (filter (λ h. not (same_origin o h.0)) was.holders)
names_after many taken was (NodeGone n floor) =
    names_of was.ids (filter (λ h. not (h.0.0 == n && nat_lt h.0.1 floor)) was.holders)
names_after many taken was _ = was

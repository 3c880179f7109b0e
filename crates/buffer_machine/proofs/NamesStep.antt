-- The names of clients after one more command: they are all different, and the name of each client is among them.
use Rattle.std.proofs.Common.{◌≡◌, ℕ, suc, Bool, true, false, not, List, [], ◌∷◌, ◌++◌, map, length, refl, ap, ◌∙◌, append_assoc}
use Rattle.std.specs.Prelude.{if◌then◌else◌, flat_map, Option, Some, None}
use Rattle.std.specs.List.{list_any}
use Rattle.irc_line.proofs.Booleans.{and_left, and_right, not_true, or_second}
use Rattle.irc_line.proofs.SameBytes.{same_bytes-refl}
use Rattle.irc_line.specs.Names.{same_bytes}
use Rattle.wire_bytes.specs.declared.origin.Origin.{Origin}
use Rattle.machine_laws.specs.Origins.{same_origin}
use Rattle.buffer_commands.specs.Settings.{Settings}
use Rattle.buffer_commands.specs.declared.command.Action.TheVariants.{Attach, Leave, Say, Join, Part, Detach, Reattach, Play, Clear, ClearChannels, ClearQueries, ClearAll, SetBuffer, Pass}
use Rattle.buffer_commands.specs.declared.command.Command.{Command}
use Rattle.buffer_commands.specs.declared.command.Command.TheVariants.{Client, Upstream, NodeGone, Up, Down}
use Rattle.buffer_machine.specs.Crowd.{attached, holds, id_after, id_of, ids, ids_after, is_id, is_id_in, takes, with_id}
use Rattle.buffer_machine.specs.Held.{holder, names_held}
use Rattle.buffer_machine.specs.NameSteps.{here_from, here_of}
use Rattle.buffer_machine.proofs.Standings.{any_holder, are_new, new_more}
use Rattle.buffer_machine.proofs.Unnamed.{id-begin, id-more, ids-begin, ids-more}
use Rattle.buffer_machine.proofs.NameCount.{in_with}

-- ---- the names are all different

new_with : (id : List ℕ) (was : List (List ℕ)) (b : Bool) → is_id_in id was ≡ b → are_new [] was ≡ true → are_new [] (if b then was else was ++ id ∷ []) ≡ true
new_with id was true e h = h
new_with id was false e h = rw (new_more [] was id, h, e) refl

new_after : (taken : Bool) (was : List (List ℕ)) (x : Command) → are_new [] was ≡ true → are_new [] (ids_after taken was x) ≡ true
new_after true was (Client o at (Attach None)) h = h
new_after true was (Client o at (Attach (Some id))) h = new_with id was (is_id_in id was) refl h
new_after false was (Client o at (Attach id)) h = h
new_after taken was (Client o at Leave) h = h
new_after taken was (Client o at (Say verb name text)) h = h
new_after taken was (Client o at (Join c)) h = h
new_after taken was (Client o at (Part c)) h = h
new_after taken was (Client o at (Detach c)) h = h
new_after taken was (Client o at (Reattach c)) h = h
new_after taken was (Client o at (Play t)) h = h
new_after taken was (Client o at (Clear t)) h = h
new_after taken was (Client o at ClearChannels) h = h
new_after taken was (Client o at ClearQueries) h = h
new_after taken was (Client o at ClearAll) h = h
new_after taken was (Client o at (SetBuffer t n)) h = h
new_after taken was (Client o at (Pass line)) h = h
new_after taken was (Upstream at line) h = h
new_after taken was (NodeGone node boot) h = h
new_after taken was Up h = h
new_after taken was Down h = h

pub ids_differ : (s : Settings) (history : List Command) → are_new [] (ids s history) ≡ true
ids_differ s [] = rw (ids-begin s) refl
ids_differ s (x ∷ earlier) = rw (ids-more s x earlier) (new_after (takes s earlier x) (ids s earlier) x (ids_differ s earlier))

-- ---- the name of each client is among them

-- a name is among these, if there is one
abbrev pub has_id : List (List ℕ) → Option (List ℕ) → Bool
has_id ids None = true
has_id ids (Some id) = is_id_in id ids

in_last : (id : List ℕ) (was : List (List ℕ)) → is_id_in id (was ++ id ∷ []) ≡ true
in_last id [] = rw (same_bytes-refl id) refl
in_last id (x ∷ xs) = or_second (same_bytes id x) (is_id_in id (xs ++ id ∷ [])) (in_last id xs)

-- the name that a client gives is among the names once it is added
pub given_in : (id : List ℕ) (was : List (List ℕ)) → is_id_in id (with_id (Some id) was) ≡ true
given_in id was = by (is_id_in id was) refl
  where
    by : (b : Bool) → is_id_in id was ≡ b → is_id_in id (if b then was else was ++ id ∷ []) ≡ true
    by true e = e
    by false e = in_last id was

has_with : (given id : Option (List ℕ)) (was : List (List ℕ)) → has_id was id ≡ true → has_id (with_id given was) id ≡ true
has_with given None was e = refl
has_with given (Some id) was e = in_with id given was e

has_given : (given : Option (List ℕ)) (was : List (List ℕ)) → has_id (with_id given was) given ≡ true
has_given None was = refl
has_given (Some id) was = given_in id was

has_after : (taken : Bool) (was : List (List ℕ)) (id : Option (List ℕ)) (o : Origin) (x : Command) → has_id was id ≡ true → has_id (ids_after taken was x) (id_after taken id o x) ≡ true
has_after true was id o (Client p at (Attach given)) h = by (same_origin p o)
  where
    by : (b : Bool) → has_id (with_id given was) (if b then given else id) ≡ true
    by true = has_given given was
    by false = has_with given id was h
has_after false was id o (Client p at (Attach given)) h = h
has_after taken was id o (Client p at Leave) h = h
has_after taken was id o (Client p at (Say verb name text)) h = h
has_after taken was id o (Client p at (Join c)) h = h
has_after taken was id o (Client p at (Part c)) h = h
has_after taken was id o (Client p at (Detach c)) h = h
has_after taken was id o (Client p at (Reattach c)) h = h
has_after taken was id o (Client p at (Play t)) h = h
has_after taken was id o (Client p at (Clear t)) h = h
has_after taken was id o (Client p at ClearChannels) h = h
has_after taken was id o (Client p at ClearQueries) h = h
has_after taken was id o (Client p at ClearAll) h = h
has_after taken was id o (Client p at (SetBuffer t n)) h = h
has_after taken was id o (Client p at (Pass line)) h = h
has_after taken was id o (Upstream at line) h = h
has_after taken was id o (NodeGone node boot) h = h
has_after taken was id o Up h = h
has_after taken was id o Down h = h

pub id_known : (s : Settings) (history : List Command) (o : Origin) → has_id (ids s history) (id_of s history o) ≡ true
id_known s [] o = rw (id-begin s o) refl
id_known s (x ∷ earlier) o = rw (ids-more s x earlier, id-more s x earlier o) (has_after (takes s earlier x) (ids s earlier) (id_of s earlier o) o x (id_known s earlier o))

-- ---- who is here

length_last : (front : List (List ℕ)) (id : List ℕ) → length (front ++ id ∷ []) ≡ suc (length front)
length_last [] id = refl
length_last (x ∷ xs) id = ap suc (length_last xs id)

here_by : (s : Settings) (h : List Command) (front ids : List (List ℕ)) → are_new front ids ≡ true
    → here_from (length front) (flat_map (λ o. holder (front ++ ids) o (id_of s h o)) (attached s h)) ids ≡ map (holds s h) ids
unfolding holds
here_by s h front [] e = refl
here_by s h front (id ∷ ids) e =
    let first : is_id_in id front ≡ false = not_true (is_id_in id front) (and_left (not (is_id_in id front)) (are_new (front ++ id ∷ []) ids) e) in
    let rest = and_right (not (is_id_in id front)) (are_new (front ++ id ∷ []) ids) e in
    let longer : length (front ++ id ∷ []) ≡ suc (length front) = length_last front id in
    let joined : (front ++ id ∷ []) ++ ids ≡ front ++ id ∷ ids = append_assoc front (id ∷ []) ids in
    ap (λ b. b ∷ here_from (suc (length front)) (flat_map (λ o. holder (front ++ id ∷ ids) o (id_of s h o)) (attached s h)) ids) (any_holder front id ids (id_of s h) (attached s h) first)
    ∙ ap (λ bs. list_any (λ o. is_id id (id_of s h o)) (attached s h) ∷ bs) (rw (longer, joined) at (here_by s h (front ++ id ∷ []) ids rest))

-- the readers who are here are the names with an attached client
pub here-is : (s : Settings) (h : List Command) → here_of (names_held s h) ≡ map (holds s h) (ids s h)
here-is s h = here_by s h [] (ids s h) (ids_differ s h)

pub nobody_here : (i : ℕ) (ids : List (List ℕ)) → here_from i [] ids ≡ map (λ id. false) ids
nobody_here i [] = refl
nobody_here i (id ∷ ids) = ap (λ bs. false ∷ bs) (nobody_here (suc i) ids)

-- How many names there are: none goes, and none comes past the limit.
use Rattle.std.proofs.Common.{◌≡◌, ℕ, Bool, true, false, ◌&&◌, ◌||◌, List, [], ◌∷◌, ◌++◌, refl}
use Rattle.std.specs.Prelude.{if◌then◌else◌, nat_lt, Option, Some, None, length}
use Rattle.std.proofs.Common.{◌<◌, ◌≤◌, arith}
use Rattle.std.proofs.lemmas.Bool.Decides.{nat_tests}
use Rattle.std.proofs.lemmas.List.{length-append}
use Rattle.irc_line.specs.Names.{same_bytes}
use Rattle.buffer_commands.specs.Settings.{Settings}
use Rattle.buffer_commands.specs.declared.command.Action.TheVariants.{Attach, Leave, Say, Join, Part, Detach, Reattach, Play, Clear, ClearChannels, ClearQueries, ClearAll, SetBuffer, Pass}
use Rattle.buffer_commands.specs.declared.command.Command.{Command}
use Rattle.buffer_commands.specs.declared.command.Command.TheVariants.{Client, Upstream, NodeGone, Up, Down}
use Rattle.buffer_machine.specs.Crowd.{attached, id_limit, is_id_in, may_name, with_id, can_attach, floor, ids, ids_after, takes}
use Rattle.buffer_machine.proofs.Unnamed.{ids-begin, ids-more}

-- ---- how many names there are

few_with : (id : Option (List ℕ)) (was : List (List ℕ)) → may_name was id ≡ true → length was ≤ 64 → length (with_id id was) ≤ 64
few_with None was m h = h
few_with (Some id) was m h = few_by id was (is_id_in id was) refl m h
  where
    few_by : (id : List ℕ) (was : List (List ℕ)) (b : Bool) → is_id_in id was ≡ b → (b || nat_lt (length was) id_limit) ≡ true → length was ≤ 64 → length (if b then was else was ++ id ∷ []) ≤ 64
    few_by id was true e m h = h
    few_by id was false e m h =
        let room : length was < 64 = grind (arith, nat_tests) in
        omega (arith, room, length-append was (id ∷ []))

few_after : (s : Settings) (earlier : List Command) (x : Command) → length (ids s earlier) ≤ 64 → length (ids_after (takes s earlier x) (ids s earlier) x) ≤ 64
few_after s earlier (Client o at (Attach id)) h = few_if (can_attach (floor earlier o.0) (attached s earlier) o) (may_name (ids s earlier) id) refl
  where
    few_if : (a b : Bool) → may_name (ids s earlier) id ≡ b → length (if a && b then with_id id (ids s earlier) else ids s earlier) ≤ 64
    few_if true true e = few_with id (ids s earlier) e h
    few_if true false e = h
    few_if false b e = h
few_after s earlier (Client o at Leave) h = h
few_after s earlier (Client o at (Say verb name text)) h = h
few_after s earlier (Client o at (Join c)) h = h
few_after s earlier (Client o at (Part c)) h = h
few_after s earlier (Client o at (Detach c)) h = h
few_after s earlier (Client o at (Reattach c)) h = h
few_after s earlier (Client o at (Play t)) h = h
few_after s earlier (Client o at (Clear t)) h = h
few_after s earlier (Client o at ClearChannels) h = h
few_after s earlier (Client o at ClearQueries) h = h
few_after s earlier (Client o at ClearAll) h = h
few_after s earlier (Client o at (SetBuffer t n)) h = h
few_after s earlier (Client o at (Pass line)) h = h
few_after s earlier (Upstream at line) h = h
few_after s earlier (NodeGone node boot) h = h
few_after s earlier Up h = h
few_after s earlier Down h = h

pub few_ids : (s : Settings) (history : List Command) → length (ids s history) ≤ 64
few_ids s [] = rw ids-begin (omega arith)
few_ids s (x ∷ earlier) = rw (ids-more s x earlier) (few_after s earlier x (few_ids s earlier))

in_one : (id given : List ℕ) (b : Bool) (xs : List (List ℕ)) → (b || is_id_in id xs) ≡ true → (is_id_in id xs ≡ true → is_id_in id (xs ++ given ∷ []) ≡ true) → (b || is_id_in id (xs ++ given ∷ [])) ≡ true
in_one id given true xs f ih = refl
in_one id given false xs f ih = ih f

in_append : (id given : List ℕ) (xs : List (List ℕ)) → is_id_in id xs ≡ true → is_id_in id (xs ++ given ∷ []) ≡ true
in_append id given [] f = cc
in_append id given (x ∷ xs) f = in_one id given (same_bytes id x) xs f (in_append id given xs)

pub in_with : (id : List ℕ) (given : Option (List ℕ)) (was : List (List ℕ)) → is_id_in id was ≡ true → is_id_in id (with_id given was) ≡ true
in_with id None was e = e
in_with id (Some given) was e = in_by (is_id_in given was)
  where
    in_by : (b : Bool) → is_id_in id (if b then was else was ++ given ∷ []) ≡ true
    in_by true = e
    in_by false = in_append id given was e

in_after : (taken : Bool) (was : List (List ℕ)) (id : List ℕ) (x : Command) → is_id_in id was ≡ true → is_id_in id (ids_after taken was x) ≡ true
in_after true was id (Client o at (Attach given)) e = in_with id given was e
in_after false was id (Client o at (Attach given)) e = e
in_after taken was id (Client o at Leave) e = e
in_after taken was id (Client o at (Say verb name text)) e = e
in_after taken was id (Client o at (Join c)) e = e
in_after taken was id (Client o at (Part c)) e = e
in_after taken was id (Client o at (Detach c)) e = e
in_after taken was id (Client o at (Reattach c)) e = e
in_after taken was id (Client o at (Play t)) e = e
in_after taken was id (Client o at (Clear t)) e = e
in_after taken was id (Client o at ClearChannels) e = e
in_after taken was id (Client o at ClearQueries) e = e
in_after taken was id (Client o at ClearAll) e = e
in_after taken was id (Client o at (SetBuffer t n)) e = e
in_after taken was id (Client o at (Pass line)) e = e
in_after taken was id (Upstream at line) e = e
in_after taken was id (NodeGone node boot) e = e
in_after taken was id Up e = e
in_after taken was id Down e = e

pub id_stays : (s : Settings) (x : Command) (earlier : List Command) (id : List ℕ) → is_id_in id (ids s earlier) ≡ true → is_id_in id (ids s (x ∷ earlier)) ≡ true
id_stays s x earlier id e = rw (ids-more s x earlier) (in_after (takes s earlier x) (ids s earlier) id x e)

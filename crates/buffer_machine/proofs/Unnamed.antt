-- If no client ever gives a name, everything is as it was before clients could.
use Rattle.std.proofs.Common.{◌≡◌, ℕ, suc, Bool, true, false, not, ◌&&◌, ◌||◌, List, [], ◌∷◌, refl, ap, ◌∙◌}
use Rattle.std.specs.Prelude.{if◌then◌else◌, Option, Some, None, length}
use Rattle.std.specs.List.{list_any}
use Rattle.machine_laws.specs.Origins.{same_origin}
use Rattle.buffer_machine.specs.Messages.{is_none_of}
use Rattle.irc_line.proofs.Booleans.{and_left, and_right, and_false, and_true, or_false}
use Rattle.irc_line.specs.Names.{is_channel}
use Rattle.wire_bytes.specs.declared.origin.Origin.{Origin}
use Rattle.buffer_commands.specs.Settings.{Settings}
use Rattle.buffer_commands.specs.declared.command.Action.TheVariants.{Attach, Leave, Say, Join, Part, Detach, Reattach, Play, Clear, ClearChannels, ClearQueries, ClearAll, SetBuffer, Pass}
use Rattle.buffer_commands.specs.declared.command.Command.{Command}
use Rattle.buffer_commands.specs.declared.command.Command.TheVariants.{Client, Upstream, NodeGone, Up, Down}
use Rattle.buffer_machine.specs.Crowd.{attached, attached_after, id_after, can_attach, floor, holds, id_of, ids, ids_after, crowd, is_id, is_naming, takes}
use Rattle.buffer_machine.specs.Buffers.{clears, detached, empties, emptied, is_known, keeps, plays, stored, stored_query}
use Rattle.buffer_machine.specs.Marks.{mark, sees, is_shown_to}
use Rattle.buffer_machine.specs.Before.{attached_before, emptied_before, is_unnamed, stored_before, stored_query_before, was_taken}

pub first_unnamed : (x : Command) (earlier : List Command) → is_unnamed (x ∷ earlier) ≡ true → not (is_naming x) ≡ true
first_unnamed x earlier e = and_left (not (is_naming x)) (is_unnamed earlier) e

pub rest_unnamed : (x : Command) (earlier : List Command) → is_unnamed (x ∷ earlier) ≡ true → is_unnamed earlier ≡ true
rest_unnamed x earlier e = and_right (not (is_naming x)) (is_unnamed earlier) e

pub ids-more : (s : Settings) (x : Command) (earlier : List Command) → ids s (x ∷ earlier) ≡ ids_after (takes s earlier x) (ids s earlier) x
unfolding crowd attached ids
ids-more s x earlier = refl

pub ids-begin : (s : Settings) → ids s [] ≡ []
unfolding crowd ids
ids-begin s = refl

-- a command that gives no name adds none
no_more : (taken : Bool) (was : List (List ℕ)) (x : Command) → not (is_naming x) ≡ true → ids_after taken was x ≡ was
no_more true was (Client o at (Attach None)) e = refl
no_more false was (Client o at (Attach None)) e = refl
no_more taken was (Client o at (Attach (Some id))) e = cc
no_more taken was (Client o at Leave) e = refl
no_more taken was (Client o at (Say verb name text)) e = refl
no_more taken was (Client o at (Join c)) e = refl
no_more taken was (Client o at (Part c)) e = refl
no_more taken was (Client o at (Detach c)) e = refl
no_more taken was (Client o at (Reattach c)) e = refl
no_more taken was (Client o at (Play t)) e = refl
no_more taken was (Client o at (Clear t)) e = refl
no_more taken was (Client o at ClearChannels) e = refl
no_more taken was (Client o at ClearQueries) e = refl
no_more taken was (Client o at ClearAll) e = refl
no_more taken was (Client o at (SetBuffer t n)) e = refl
no_more taken was (Client o at (Pass line)) e = refl
no_more taken was (Upstream at line) e = refl
no_more taken was (NodeGone node boot) e = refl
no_more taken was Up e = refl
no_more taken was Down e = refl

-- no name is known
pub no_ids : (s : Settings) (history : List Command) → is_unnamed history ≡ true → ids s history ≡ []
no_ids s [] e = ids-begin s
no_ids s (x ∷ earlier) e =
    ids-more s x earlier ∙ (no_more (takes s earlier x) (ids s earlier) x (first_unnamed x earlier e) ∙ no_ids s earlier (rest_unnamed x earlier e))

-- ---- what each definition was

keeps_was : (clears : Bool) (os : List Origin) (ids : List (List ℕ)) → ids ≡ [] → keeps clears os ids ≡ (not clears || is_none_of os)
keeps_was clears os ids e = rw e (or_false (not clears || is_none_of os))

pub stored_was : (s : Settings) (x : Command) (earlier : List Command) (t : List ℕ) → is_unnamed (x ∷ earlier) ≡ true → stored s t earlier x ≡ stored_before s t earlier x
unfolding stored
stored_was s x earlier t e =
    rw (keeps_was (clears s t) (attached s earlier) (ids s earlier) (no_ids s earlier (rest_unnamed x earlier e))) refl

pub stored_query_was : (s : Settings) (x : Command) (earlier : List Command) → is_unnamed (x ∷ earlier) ≡ true → stored_query s earlier x ≡ stored_query_before s earlier x
unfolding stored_query
stored_query_was s x earlier e =
    rw (keeps_was s.clears_queries (attached s earlier) (ids s earlier) (no_ids s earlier (rest_unnamed x earlier e))) refl

pub taken_was : (s : Settings) (earlier : List Command) (x : Command) → not (is_naming x) ≡ true → takes s earlier x ≡ was_taken s earlier x
taken_was s earlier (Client o at (Attach None)) e = and_true (can_attach (floor earlier o.0) (attached s earlier) o)
taken_was s earlier (Client o at (Attach (Some id))) e = cc
taken_was s earlier (Client o at Leave) e = refl
taken_was s earlier (Client o at (Say verb name text)) e = refl
taken_was s earlier (Client o at (Join c)) e = refl
taken_was s earlier (Client o at (Part c)) e = refl
taken_was s earlier (Client o at (Detach c)) e = refl
taken_was s earlier (Client o at (Reattach c)) e = refl
taken_was s earlier (Client o at (Play t)) e = refl
taken_was s earlier (Client o at (Clear t)) e = refl
taken_was s earlier (Client o at ClearChannels) e = refl
taken_was s earlier (Client o at ClearQueries) e = refl
taken_was s earlier (Client o at ClearAll) e = refl
taken_was s earlier (Client o at (SetBuffer t n)) e = refl
taken_was s earlier (Client o at (Pass line)) e = refl
taken_was s earlier (Upstream at line) e = refl
taken_was s earlier (NodeGone node boot) e = refl
taken_was s earlier Up e = refl
taken_was s earlier Down e = refl

empties_was : (ids : List (List ℕ)) (x : Command) → ids ≡ [] → not (is_naming x) ≡ true → empties ids x ≡ true
empties_was ids x e f = rw e f

pub emptied_was : (s : Settings) (x : Command) (earlier : List Command) (t : List ℕ) → is_unnamed (x ∷ earlier) ≡ true → emptied s t earlier x ≡ emptied_before s t earlier x
unfolding emptied
emptied_was s x earlier t e =
    rw (empties_was (ids s earlier) x (no_ids s earlier (rest_unnamed x earlier e)) (first_unnamed x earlier e), taken_was s earlier x (first_unnamed x earlier e), and_true (clears s t)) refl

pub attached-more : (s : Settings) (x : Command) (earlier : List Command) → attached s (x ∷ earlier) ≡ attached_after s.many_clients (takes s earlier x) (attached s earlier) x
unfolding crowd attached ids
attached-more s x earlier = refl

attached_as : (s : Settings) (earlier : List Command) (x : Command) → attached_after s.many_clients (was_taken s earlier x) (attached s earlier) x ≡ attached_before s.many_clients (floor earlier) (attached s earlier) x
attached_as s earlier (Client o at (Attach id)) = refl
attached_as s earlier (Client o at Leave) = refl
attached_as s earlier (Client o at (Say verb name text)) = refl
attached_as s earlier (Client o at (Join c)) = refl
attached_as s earlier (Client o at (Part c)) = refl
attached_as s earlier (Client o at (Detach c)) = refl
attached_as s earlier (Client o at (Reattach c)) = refl
attached_as s earlier (Client o at (Play t)) = refl
attached_as s earlier (Client o at (Clear t)) = refl
attached_as s earlier (Client o at ClearChannels) = refl
attached_as s earlier (Client o at ClearQueries) = refl
attached_as s earlier (Client o at ClearAll) = refl
attached_as s earlier (Client o at (SetBuffer t n)) = refl
attached_as s earlier (Client o at (Pass line)) = refl
attached_as s earlier (Upstream at line) = refl
attached_as s earlier (NodeGone node boot) = refl
attached_as s earlier Up = refl
attached_as s earlier Down = refl

pub attached_was : (s : Settings) (x : Command) (earlier : List Command) → is_unnamed (x ∷ earlier) ≡ true → attached s (x ∷ earlier) ≡ attached_before s.many_clients (floor earlier) (attached s earlier) x
attached_was s x earlier e =
    attached-more s x earlier
    ∙ (ap (λ b. attached_after s.many_clients b (attached s earlier) x) (taken_was s earlier x (first_unnamed x earlier e))
    ∙ attached_as s earlier x)

-- ---- nobody has a name

abbrev no_name : Option (List ℕ)
no_name = None

none_either : (b : Bool) → (if b then no_name else no_name) ≡ no_name
none_either true = refl
none_either false = refl

id_kept : (taken : Bool) (o : Origin) (x : Command) → not (is_naming x) ≡ true → id_after taken None o x ≡ None
id_kept taken o (Client p at (Attach None)) e = none_either (taken && same_origin p o)
id_kept taken o (Client p at (Attach (Some id))) e = cc
id_kept taken o (Client p at Leave) e = refl
id_kept taken o (Client p at (Say verb name text)) e = refl
id_kept taken o (Client p at (Join c)) e = refl
id_kept taken o (Client p at (Part c)) e = refl
id_kept taken o (Client p at (Detach c)) e = refl
id_kept taken o (Client p at (Reattach c)) e = refl
id_kept taken o (Client p at (Play t)) e = refl
id_kept taken o (Client p at (Clear t)) e = refl
id_kept taken o (Client p at ClearChannels) e = refl
id_kept taken o (Client p at ClearQueries) e = refl
id_kept taken o (Client p at ClearAll) e = refl
id_kept taken o (Client p at (SetBuffer t n)) e = refl
id_kept taken o (Client p at (Pass line)) e = refl
id_kept taken o (Upstream at line) e = refl
id_kept taken o (NodeGone node boot) e = refl
id_kept taken o Up e = refl
id_kept taken o Down e = refl

pub id-more : (s : Settings) (x : Command) (earlier : List Command) (o : Origin) → id_of s (x ∷ earlier) o ≡ id_after (takes s earlier x) (id_of s earlier o) o x
unfolding id_of
id-more s x earlier o = refl

pub id-begin : (s : Settings) (o : Origin) → id_of s [] o ≡ None
unfolding id_of
id-begin s o = refl

pub no_id : (s : Settings) (history : List Command) (o : Origin) → is_unnamed history ≡ true → id_of s history o ≡ None
no_id s [] o e = id-begin s o
no_id s (x ∷ earlier) o e =
    id-more s x earlier o
    ∙ (ap (λ was. id_after (takes s earlier x) was o x) (no_id s earlier o (rest_unnamed x earlier e))
    ∙ id_kept (takes s earlier x) o x (first_unnamed x earlier e))

none_hold : (id : List ℕ) (f : Origin → Option (List ℕ)) (os : List Origin) → ((o : Origin) → f o ≡ None) → list_any (λ o. is_id id (f o)) os ≡ false
none_hold id f [] h = refl
none_hold id f (o ∷ os) h = rw (h o) (none_hold id f os h)

no_holder : (s : Settings) (history : List Command) (id : List ℕ) → is_unnamed history ≡ true → holds s history id ≡ false
unfolding holds
no_holder s history id e = none_hold id (id_of s history) (attached s history) (λ o. no_id s history o e)

not_shown : (id : List ℕ) (ids_of : Origin → Option (List ℕ)) (x : Command) → ((o : Origin) → ids_of o ≡ None) → not (is_naming x) ≡ true → is_shown_to id false ids_of x ≡ false
not_shown id f (Client o at (Attach None)) h e = refl
not_shown id f (Client o at (Attach (Some given))) h e = cc
not_shown id f (Client o at Leave) h e = refl
not_shown id f (Client o at (Say verb name text)) h e = refl
not_shown id f (Client o at (Join c)) h e = refl
not_shown id f (Client o at (Part c)) h e = refl
not_shown id f (Client o at (Detach c)) h e = refl
not_shown id f (Client o at (Reattach c)) h e = refl
not_shown id f (Client o at (Play t)) h e = rw (h o) refl
not_shown id f (Client o at (Clear t)) h e = refl
not_shown id f (Client o at ClearChannels) h e = refl
not_shown id f (Client o at ClearQueries) h e = refl
not_shown id f (Client o at ClearAll) h e = refl
not_shown id f (Client o at (SetBuffer t n)) h e = refl
not_shown id f (Client o at (Pass line)) h e = refl
not_shown id f (Upstream at line) h e = refl
not_shown id f (NodeGone node boot) h e = refl
not_shown id f Up h e = refl
not_shown id f Down h e = refl

no_sight : (s : Settings) (earlier : List Command) (id t : List ℕ) (x : Command) → is_unnamed (x ∷ earlier) ≡ true → sees s earlier id t x ≡ false
unfolding sees
no_sight s earlier id t x e =
    rw (no_holder s earlier id (rest_unnamed x earlier e), not_shown id (id_of s earlier) x (λ o. no_id s earlier o (rest_unnamed x earlier e)) (first_unnamed x earlier e))
    (and_false (plays (takes s earlier x) (attached s earlier) (is_channel t && detached s earlier t) t (is_known s earlier t) x))

pub mark-more : (s : Settings) (id t : List ℕ) (x : Command) (earlier : List Command) → mark s id t (x ∷ earlier) ≡ (if sees s earlier id t x then suc (length earlier) else mark s id t earlier)
unfolding mark
mark-more s id t x earlier = refl

pub mark-begin : (s : Settings) (id t : List ℕ) → mark s id t [] ≡ 0
unfolding mark
mark-begin s id t = refl

-- and no name has seen anything
pub no_mark : (s : Settings) (history : List Command) (id t : List ℕ) → is_unnamed history ≡ true → mark s id t history ≡ 0
no_mark s [] id t e = mark-begin s id t
no_mark s (x ∷ earlier) id t e =
    mark-more s id t x earlier
    ∙ (ap (λ b. if b then suc (length earlier) else mark s id t earlier) (no_sight s earlier id t x e)
    ∙ no_mark s earlier id t (rest_unnamed x earlier e))

-- Which attached clients have a name, after one more command, and one client after the other.
use Rattle.std.proofs.Common.{◌≡◌, ℕ, suc, Bool, true, false, not, ◌&&◌, ◌||◌, List, [], ◌∷◌, ◌++◌, refl, sym, ap, arith, ◌∙◌}
use Rattle.std.specs.Prelude.{◌==◌, if◌then◌else◌, nat_lt, flat_map, filter, option_map, Option, Some, None}
use Rattle.std.proofs.lemmas.Bool.Decides.{nat_tests}
use Rattle.std.proofs.lemmas.List.{append_assoc, append-nil}
use Rattle.irc_line.specs.Names.{same_bytes}
use Rattle.irc_line.proofs.Booleans.{and_left, not_true, or_left_false, or_right_false}
use Rattle.wire_bytes.specs.declared.origin.Origin.{Origin}
use Rattle.buffer_targets.specs.Targets.{ChannelLines}
use Rattle.machine_laws.specs.Origins.{same_origin}
use Rattle.machine_laws.proofs.Origins.{same_origin-is}
use Rattle.buffer_commands.specs.Settings.{Settings}
use Rattle.buffer_commands.specs.declared.command.Action.TheVariants.{Attach, Leave, Say, Join, Part, Detach, Reattach, Play, Clear, ClearChannels, ClearQueries, ClearAll, SetBuffer, Pass}
use Rattle.buffer_commands.specs.declared.command.Command.{Command}
use Rattle.buffer_commands.specs.declared.command.Command.TheVariants.{Client, Upstream, NodeGone, Up, Down}
use Rattle.buffer_machine.specs.Messages.{is_among}
use Rattle.buffer_machine.specs.Crowd.{attached, attached_after, floor, id_after, id_of, ids, ids_after, is_id_in, may_name, takes, with_id}
use Rattle.buffer_machine.specs.Held.{holder, index_in, names_held, names_of}
use Rattle.buffer_machine.specs.NameSteps.{index_of, names_after}
use Rattle.buffer_machine.specs.Answering.{each_shown_joined, reader_next, readers_left, shown_joined}
use Rattle.buffer_machine.proofs.Unnamed.{attached-more, id-more, ids-more}
use Rattle.buffer_machine.proofs.NamesStep.{has_id, id_known}

pub same_origin-refl : (o : Origin) → same_origin o o ≡ true
same_origin-refl o = grind (arith, nat_tests)

pub flat_same : {A B : Type 0} (f g : A → List B) → ((a : A) → f a ≡ g a) → (xs : List A) → flat_map f xs ≡ flat_map g xs
flat_same f g h [] = refl
flat_same f g h (x ∷ xs) = ap (λ ys. ys ++ flat_map f xs) (h x) ∙ ap (λ ys. g x ++ ys) (flat_same f g h xs)

flat_append : {A B : Type 0} (f : A → List B) (xs : List A) (x : A) → flat_map f (xs ++ x ∷ []) ≡ flat_map f xs ++ f x
flat_append f [] x = append-nil (f x)
flat_append f (y ∷ ys) x = ap (λ zs. f y ++ zs) (flat_append f ys x) ∙ sym (append_assoc (f y) (flat_map f ys) (f x))

-- ---- one more client

stays_by : (b c : Bool) (m n : ℕ) → (b || c) ≡ true → (c ≡ true → m ≡ n) → (if b then 0 else suc m) ≡ (if b then 0 else suc n)
stays_by true c m n e h = refl
stays_by false c m n e h = ap suc (h e)

-- a name that is already there keeps its place
index_stays : (j : List ℕ) (ids more : List (List ℕ)) → is_id_in j ids ≡ true → index_in j (ids ++ more) ≡ index_in j ids
index_stays j [] more e = cc
index_stays j (x ∷ xs) more e = stays_by (same_bytes j x) (is_id_in j xs) (index_in j (xs ++ more)) (index_in j xs) e (index_stays j xs more)

index_with : (j : List ℕ) (given : Option (List ℕ)) (ids : List (List ℕ)) → is_id_in j ids ≡ true → index_in j (with_id given ids) ≡ index_in j ids
index_with j None ids e = refl
index_with j (Some id) ids e = by (is_id_in id ids)
  where
    by : (b : Bool) → index_in j (if b then ids else ids ++ id ∷ []) ≡ index_in j ids
    by true = refl
    by false = index_stays j ids (id ∷ []) e

holder_with : (p : Origin) (n given : Option (List ℕ)) (ids : List (List ℕ)) → has_id ids n ≡ true → holder ids p n ≡ holder (with_id given ids) p n
holder_with p None given ids e = refl
holder_with p (Some j) given ids e = ap (λ i. (p, i) ∷ []) (sym (index_with j given ids e))

-- the names of those who were there
old_holders : (o : Origin) (given : Option (List ℕ)) (ids : List (List ℕ)) (g : Origin → Option (List ℕ)) → ((p : Origin) → has_id ids (g p) ≡ true) → (os : List Origin) → is_among o os ≡ false
    → flat_map (λ p. holder ids p (g p)) os ≡ flat_map (λ p. holder (with_id given ids) p (if same_origin o p then given else g p)) os
old_holders o given ids g h [] e = refl
old_holders o given ids g h (p ∷ ps) e =
    let other : same_origin o p ≡ false = or_left_false (same_origin o p) (is_among o ps) e in
    ap (λ hs. hs ++ flat_map (λ q. holder ids q (g q)) ps) (holder_with p (g p) given ids (h p) ∙ ap (λ b. holder (with_id given ids) p (if b then given else g p)) (sym other))
    ∙ ap (λ hs. holder (with_id given ids) p (if same_origin o p then given else g p) ++ hs) (old_holders o given ids g h ps (or_right_false (same_origin o p) (is_among o ps) e))

new_holder : (o : Origin) (given : Option (List ℕ)) (ids : List (List ℕ)) (n : Option (List ℕ)) → holder (with_id given ids) o given ≡ holder (with_id given ids) o (if same_origin o o then given else n)
new_holder o given ids n = rw (same_origin-refl o) refl

-- ---- those who stay

filter_by : {A : Type 0} (x : A) (xs ys zs : List A) (b : Bool) → zs ≡ xs ++ ys → (if b then x ∷ zs else zs) ≡ (if b then x ∷ xs else xs) ++ ys
filter_by x xs ys zs true e = ap (λ vs. x ∷ vs) e
filter_by x xs ys zs false e = e

filter_append : {A : Type 0} (p : A → Bool) (xs ys : List A) → filter p (xs ++ ys) ≡ filter p xs ++ filter p ys
filter_append p [] ys = refl
filter_append p (x ∷ xs) ys = filter_by x (filter p xs) (filter p ys) (filter p (xs ++ ys)) (p x) (filter_append p xs ys)

holder_stays : (p : Origin → Bool) (ids : List (List ℕ)) (o : Origin) (n : Option (List ℕ)) → filter (λ h. p h.0) (holder ids o n) ≡ (if p o then holder ids o n else [])
holder_stays p ids o None = by (p o)
  where
    by : (b : Bool) → [] ≡ (if b then holder ids o None else [])
    by true = refl
    by false = refl
holder_stays p ids o (Some j) = refl

stay_by : (p : Origin → Bool) (f : Origin → List (Origin × ℕ)) (o : Origin) (os : List Origin) (b : Bool) → (if b then f o else []) ++ flat_map f (filter p os) ≡ flat_map f (if b then o ∷ filter p os else filter p os)
stay_by p f o os true = refl
stay_by p f o os false = refl

pub stay : (p : Origin → Bool) (ids : List (List ℕ)) (g : Origin → Option (List ℕ)) (os : List Origin) → filter (λ h. p h.0) (flat_map (λ o. holder ids o (g o)) os) ≡ flat_map (λ o. holder ids o (g o)) (filter p os)
stay p ids g [] = refl
stay p ids g (o ∷ os) =
    filter_append (λ h. p h.0) (holder ids o (g o)) (flat_map (λ q. holder ids q (g q)) os)
    ∙ (ap (λ hs. hs ++ filter (λ h. p h.0) (flat_map (λ q. holder ids q (g q)) os)) (holder_stays p ids o (g o))
    ∙ (ap (λ hs. (if p o then holder ids o (g o) else []) ++ hs) (stay p ids g os)
    ∙ stay_by p (λ q. holder ids q (g q)) o os (p o)))

-- ---- after a command

-- which of these clients has which name
abbrev pub holders : List (List ℕ) → (Origin → Option (List ℕ)) → List Origin → List (Origin × ℕ)
holders ids g os = flat_map (λ o. holder ids o (g o)) os

let_in : (many : Bool) (o : Origin) (given : Option (List ℕ)) (ids : List (List ℕ)) (g : Origin → Option (List ℕ)) (os : List Origin) → ((p : Origin) → has_id ids (g p) ≡ true) → is_among o os ≡ false
    → (if many then holders ids g os else []) ++ holder (with_id given ids) o given
    ≡ holders (with_id given ids) (λ p. if same_origin o p then given else g p) ((if many then os else []) ++ o ∷ [])
let_in true o given ids g os h e =
    ap (λ hs. hs ++ holder (with_id given ids) o given) (old_holders o given ids g h os e)
    ∙ (ap (λ hs. flat_map (λ p. holder (with_id given ids) p (if same_origin o p then given else g p)) os ++ hs) (new_holder o given ids (g o))
    ∙ sym (flat_append (λ p. holder (with_id given ids) p (if same_origin o p then given else g p)) os o))
let_in false o given ids g os h e = new_holder o given ids (g o) ∙ sym (append-nil (holder (with_id given ids) o (if same_origin o o then given else g o)))

names_by : (many taken : Bool) (ids : List (List ℕ)) (g : Origin → Option (List ℕ)) (os : List Origin) (x : Command) → ((p : Origin) → has_id ids (g p) ≡ true)
    → ((o : Origin) (at : ℕ) (given : Option (List ℕ)) → x ≡ Client o at (Attach given) → taken ≡ true → is_among o os ≡ false)
    → names_after many taken (names_of ids (holders ids g os)) x ≡ names_of (ids_after taken ids x) (holders (ids_after taken ids x) (λ o. id_after taken (g o) o x) (attached_after many taken os x))
names_by many true ids g os (Client o at (Attach given)) h f = ap (names_of (with_id given ids)) (let_in many o given ids g os h (f o at given refl refl))
names_by many false ids g os (Client o at (Attach given)) h f = refl
names_by many taken ids g os (Client o at Leave) h f = ap (names_of ids) (stay (λ x. not (same_origin o x)) ids g os)
names_by many taken ids g os (NodeGone n floor) h f = ap (names_of ids) (stay (λ x. not (x.0 == n && nat_lt x.1 floor)) ids g os)
names_by many taken ids g os (Client o at (Say verb name text)) h f = refl
names_by many taken ids g os (Client o at (Join c)) h f = refl
names_by many taken ids g os (Client o at (Part c)) h f = refl
names_by many taken ids g os (Client o at (Detach c)) h f = refl
names_by many taken ids g os (Client o at (Reattach c)) h f = refl
names_by many taken ids g os (Client o at (Play t)) h f = refl
names_by many taken ids g os (Client o at (Clear t)) h f = refl
names_by many taken ids g os (Client o at ClearChannels) h f = refl
names_by many taken ids g os (Client o at ClearQueries) h f = refl
names_by many taken ids g os (Client o at ClearAll) h f = refl
names_by many taken ids g os (Client o at (SetBuffer t n)) h f = refl
names_by many taken ids g os (Client o at (Pass line)) h f = refl
names_by many taken ids g os (Upstream at line) h f = refl
names_by many taken ids g os Up h f = refl
names_by many taken ids g os Down h f = refl

-- a client whose Attach is taken was not attached
pub was_away : (s : Settings) (earlier : List Command) (o : Origin) (at : ℕ) (given : Option (List ℕ)) → takes s earlier (Client o at (Attach given)) ≡ true → is_among o (attached s earlier) ≡ false
was_away s earlier o at given e = not_true (is_among o (attached s earlier)) (and_left _ _ (and_left _ (may_name (ids s earlier) given) e))

pub names-step : (s : Settings) (earlier : List Command) (x : Command) → names_after s.many_clients (takes s earlier x) (names_held s earlier) x ≡ names_held s (x ∷ earlier)
names-step s earlier x =
    names_by s.many_clients (takes s earlier x) (ids s earlier) (id_of s earlier) (attached s earlier) x (id_known s earlier)
    (λ o at given e t. was_away s earlier o at given (ap (takes s earlier) (sym e) ∙ t))
    ∙ sym
    (ap (λ os. names_of (ids s (x ∷ earlier)) (holders (ids s (x ∷ earlier)) (id_of s (x ∷ earlier)) os)) (attached-more s x earlier)
    ∙ (ap (λ is. names_of is (holders is (id_of s (x ∷ earlier)) (attached_after s.many_clients (takes s earlier x) (attached s earlier) x))) (ids-more s x earlier)
    ∙ ap (names_of (ids_after (takes s earlier x) (ids s earlier) x))
    (flat_same (λ o. holder (ids_after (takes s earlier x) (ids s earlier) x) o (id_of s (x ∷ earlier) o)) (λ o. holder (ids_after (takes s earlier x) (ids s earlier) x) o (id_after (takes s earlier x) (id_of s earlier o) o x))
    (λ o. ap (holder (ids_after (takes s earlier x) (ids s earlier) x) o) (id-more s x earlier o)) (attached_after s.many_clients (takes s earlier x) (attached s earlier) x))))

-- ---- the place of a client's name

-- the place of a name among these, if there is one
abbrev pub place : List (List ℕ) → Option (List ℕ) → Option ℕ
place ids n = option_map (λ j. index_in j ids) n

abbrev no_place : Option ℕ
no_place = None

none_if : (b : Bool) → (if b then no_place else no_place) ≡ None
none_if true = refl
none_if false = refl

index_by : (ids : List (List ℕ)) (g : Origin → Option (List ℕ)) (o p : Origin) (ps : List Origin) (b : Bool) (n : Option (List ℕ)) → same_origin o p ≡ b → g p ≡ n
    → index_of o (holders ids g ps) ≡ (if is_among o ps then place ids (g o) else None)
    → index_of o (holder ids p n ++ holders ids g ps) ≡ (if b || is_among o ps then place ids (g o) else None)
index_by ids g o p ps true (Some j) e f ih = rw (e, ap g (same_origin-is o p e), f) refl
index_by ids g o p ps true None e f ih = rw (ap g (same_origin-is o p e), f) (ih ∙ rw (ap g (same_origin-is o p e), f) (none_if (is_among o ps)))
index_by ids g o p ps false (Some j) e f ih = rw e ih
index_by ids g o p ps false None e f ih = ih

pub index_found : (ids : List (List ℕ)) (g : Origin → Option (List ℕ)) (o : Origin) (os : List Origin) → index_of o (holders ids g os) ≡ (if is_among o os then place ids (g o) else None)
index_found ids g o [] = refl
index_found ids g o (p ∷ ps) = index_by ids g o p ps (same_origin o p) (g p) refl refl (index_found ids g o ps)

-- ---- one after the other

next_by : (ids : List (List ℕ)) (g : Origin → Option (List ℕ)) (o p : Origin) (ps : List Origin) (b : Bool) (n : Option (List ℕ)) → same_origin p o ≡ b → g p ≡ n → g o ≡ None
    → reader_next o (holders ids g ps) ≡ None → reader_next o (holder ids p n ++ holders ids g ps) ≡ None
next_by ids g o p ps b None e f h ih = ih
next_by ids g o p ps true (Some j) e f h ih = absurd (let both : Some j ≡ None = sym f ∙ (ap g (same_origin-is p o e) ∙ h) in cc)
next_by ids g o p ps false (Some j) e f h ih = rw e refl

no_next : (ids : List (List ℕ)) (g : Origin → Option (List ℕ)) (o : Origin) (ps : List Origin) → g o ≡ None → reader_next o (holders ids g ps) ≡ None
no_next ids g o [] h = refl
no_next ids g o (p ∷ ps) h = next_by ids g o p ps (same_origin p o) (g p) refl refl h (no_next ids g o ps h)

left_by : (ids : List (List ℕ)) (g : Origin → Option (List ℕ)) (o p : Origin) (ps : List Origin) (b : Bool) (n : Option (List ℕ)) → same_origin p o ≡ b → g p ≡ n → g o ≡ None
    → readers_left o (holders ids g ps) ≡ holders ids g ps → readers_left o (holder ids p n ++ holders ids g ps) ≡ holder ids p n ++ holders ids g ps
left_by ids g o p ps b None e f h ih = ih
left_by ids g o p ps true (Some j) e f h ih = absurd (let both : Some j ≡ None = sym f ∙ (ap g (same_origin-is p o e) ∙ h) in cc)
left_by ids g o p ps false (Some j) e f h ih = rw e refl

all_left : (ids : List (List ℕ)) (g : Origin → Option (List ℕ)) (o : Origin) (ps : List Origin) → g o ≡ None → readers_left o (holders ids g ps) ≡ holders ids g ps
all_left ids g o [] h = refl
all_left ids g o (p ∷ ps) h = left_by ids g o p ps (same_origin p o) (g p) refl refl h (all_left ids g o ps h)

shown_by : (offset : ℕ) (nick : List ℕ) (c : ChannelLines) (ids : List (List ℕ)) (g : Origin → Option (List ℕ)) (o : Origin) (os : List Origin) (n : Option (List ℕ)) → g o ≡ n
    → each_shown_joined offset nick c os (holders ids g os) ≡ flat_map (λ p. shown_joined offset nick c (place ids (g p)) p) os
    → shown_joined offset nick c (reader_next o (holder ids o n ++ holders ids g os)) o ++ each_shown_joined offset nick c os (readers_left o (holder ids o n ++ holders ids g os))
    ≡ shown_joined offset nick c (place ids n) o ++ flat_map (λ p. shown_joined offset nick c (place ids (g p)) p) os
shown_by offset nick c ids g o os None e ih = rw (no_next ids g o os e, all_left ids g o os e, ih) refl
shown_by offset nick c ids g o os (Some j) e ih = rw (same_origin-refl o, ih) refl

-- each client is shown a channel as its own name has seen it
pub each_shown : (offset : ℕ) (nick : List ℕ) (c : ChannelLines) (ids : List (List ℕ)) (g : Origin → Option (List ℕ)) (os : List Origin)
    → each_shown_joined offset nick c os (holders ids g os) ≡ flat_map (λ p. shown_joined offset nick c (place ids (g p)) p) os
each_shown offset nick c ids g [] = refl
each_shown offset nick c ids g (o ∷ os) = shown_by offset nick c ids g o os (g o) refl (each_shown offset nick c ids g os)

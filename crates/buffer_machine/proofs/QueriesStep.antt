-- The machine holds the queries of a history after one step.
use Rattle.std.proofs.Common.{◌≡◌, ℕ, zero, suc, ◌-◌, ◌≤◌, List, [], ◌∷◌, ◌++◌, map, drop, length, refl, ap, ◌∙◌, sym, Bool, true, false, not, ◌&&◌, ◌||◌, subst}
use Rattle.std.specs.Prelude.{Option, Some, None, if◌then◌else◌}
use Rattle.std.specs.List.{list_all, list_any}
use Rattle.std.proofs.lemmas.List.{length-map}
use Rattle.irc_line.specs.Names.{fold_name, is_channel}
use Rattle.irc_line.specs.Keys.{at_key, is_in}
use Rattle.irc_line.specs.Lines.{Parts, line_of, parameter}
use Rattle.irc_line.proofs.Booleans.{and_right, or_second, and_false, or_left_false, or_right_false}
use Rattle.irc_line.proofs.Order.{own_key, at_key-sym, in-own}
use Rattle.buffer_lines.specs.Stamps.{ring}
use Rattle.buffer_targets.specs.Targets.{TargetLines, counted, none_seen, target, pushed, has_name_key, at_query, query_stored, newest}
use Rattle.buffer_commands.specs.Settings.{Settings}
use Rattle.buffer_commands.specs.declared.command.Command.{Command}
use Rattle.buffer_machine.specs.Messages.{is_storable, is_query_line, is_query_name, source}
use Rattle.buffer_machine.specs.Buffers.{detached, empties, is_known, plays, stored, keeps, nick, channels, queries, size, kept, said, stored_query, with_new, size_after}
use Rattle.buffer_machine.specs.Crowd.{attached, ids, takes}
use Rattle.buffer_machine.specs.Steps.{queries_storing}
use Rattle.buffer_machine.specs.NameSteps.{here_of}
use Rattle.buffer_machine.specs.Held.{IsSound, target_held, held, names_held, seen_held}
use Rattle.buffer_machine.proofs.Folded.{query-key}
use Rattle.buffer_machine.proofs.ChannelsStep.{either_way}
use Rattle.buffer_machine.proofs.SeenLists.{pushed_length, pushed_list}
use Rattle.buffer_machine.proofs.Unknown.{removes-query}
use Rattle.buffer_machine.proofs.Lists.{map_at, map_through}
use Rattle.buffer_machine.proofs.Names.{is_made_at, all-at, in-append, newest-all}
use Rattle.buffer_machine.proofs.Standing.{queries-more, queries-are, queries-fit}
use Rattle.buffer_machine.proofs.Kept.{kept_fits, line_if, stored-query}
use Rattle.buffer_machine.proofs.Next.{StoresAlone, emptied-query, next_query, query-next, query-made, query_empties, seen-query, shown_here, size-query, stays_in, stores-empties}
use Rattle.buffer_machine.proofs.Found.{found-known}
use Rattle.buffer_machine.proofs.Pointwise.{map_id}
use Rattle.buffer_machine.proofs.OneQuery.{following, same_query, store_query_one}

-- ---- where no query comes or goes

pub same_names : (s : Settings) (earlier : List Command) (x : Command) → with_new (stored_query s earlier x) (queries s earlier) ≡ queries s earlier → queries s (x ∷ earlier) ≡ queries s earlier
same_names s earlier x m =
    queries-more s earlier x ∙ (ap (newest s.most_queries) m ∙ newest-all s.most_queries (queries s earlier) (queries-fit s earlier))

-- each query is changed by itself
pub mapped_query : (s : Settings) → IsSound s → (earlier : List Command) (x : Command) (g : TargetLines → TargetLines) → with_new (stored_query s earlier x) (queries s earlier) ≡ queries s earlier
    → ((q : List ℕ) → is_query_name q ≡ true → is_in (fold_name q) (queries s earlier) ≡ true → is_in (fold_name q) (queries s (x ∷ earlier)) ≡ true
    → g (target_held s earlier q) ≡ next_query s earlier x (target_held s earlier q))
    → map g (map (target_held s earlier) (queries s earlier)) ≡ map (target_held s (x ∷ earlier)) (queries s (x ∷ earlier))
mapped_query s sound earlier x g m h =
    map_through (target_held s earlier) g (λ q. g (target_held s earlier q)) (λ q. refl) (queries s earlier)
    ∙ (map_at (λ q. g (target_held s earlier q)) (target_held s (x ∷ earlier)) (queries s earlier)
    (λ front q back e.
    let here : is_in (fold_name q) (queries s earlier) ≡ true = subst (λ qs. is_in (fold_name q) qs ≡ true) (sym e) (in-own front q back) in
    let still : is_in (fold_name q) (queries s (x ∷ earlier)) ≡ true = ap (is_in (fold_name q)) (same_names s earlier x m) ∙ here in
    let query_name : is_query_name q ≡ true = all-at is_query_name front q back (subst (λ qs. list_all is_query_name qs ≡ true) e (queries-are s earlier)) in
    h q query_name here still ∙ sym (query-next s sound earlier x q query_name here still))
    ∙ ap (map (target_held s (x ∷ earlier))) (sym (same_names s earlier x m)))

unmapped_query : (s : Settings) → IsSound s → (earlier : List Command) (x : Command) → with_new (stored_query s earlier x) (queries s earlier) ≡ queries s earlier
    → ((q : List ℕ) → is_query_name q ≡ true → is_in (fold_name q) (queries s earlier) ≡ true → is_in (fold_name q) (queries s (x ∷ earlier)) ≡ true
    → target_held s earlier q ≡ next_query s earlier x (target_held s earlier q))
    → map (target_held s earlier) (queries s earlier) ≡ map (target_held s (x ∷ earlier)) (queries s (x ∷ earlier))
unmapped_query s sound earlier x m h = sym (map_id (map (target_held s earlier) (queries s earlier))) ∙ mapped_query s sound earlier x (λ q. q) m h

-- a command that says nothing stores nothing
none_if : (b : Bool) → ◌≡◌ {A = Option (List ℕ)} (if b then None else None) None
none_if true = refl
none_if false = refl

nothing_stored : (s : Settings) (earlier : List Command) (x : Command) → said (attached s earlier) (nick s earlier) x ≡ None → stored_query s earlier x ≡ None
unfolding stored_query
nothing_stored s earlier x e = rw e (none_if (keeps s.clears_queries (attached s earlier) (ids s earlier)))

pub nothing_new : (s : Settings) (earlier : List Command) (x : Command) → said (attached s earlier) (nick s earlier) x ≡ None → with_new (stored_query s earlier x) (queries s earlier) ≡ queries s earlier
nothing_new s earlier x e = rw (nothing_stored s earlier x e) refl

abbrev pub lines : Settings → List Command → List ℕ → List (ℕ × Parts)
lines s earlier q = kept s earlier (fold_name q)

abbrev pub fits : (s : Settings) (earlier : List Command) (q : List ℕ) → length (kept s earlier (fold_name q)) ≤ size s (fold_name q) earlier
fits s earlier q = kept_fits s earlier (fold_name q)

-- whether playing empties queries now
abbrev pub empties_queries : Settings → List Command → Command → Bool
empties_queries s earlier x = s.clears_queries && empties (ids s earlier) x

-- a command that stores nothing in a query and plays it to nobody does not change how much any name
-- has seen
pub query_told : (s : Settings) → IsSound s → (earlier : List Command) (x : Command) (q : List ℕ) → is_query_name q ≡ true → is_in (fold_name q) (queries s earlier) ≡ true → is_in (fold_name q) (queries s (x ∷ earlier)) ≡ true
    → stored s (fold_name q) earlier x ≡ None → size_after (attached s earlier) true (fold_name q) (size s (fold_name q) earlier) x ≡ size s (fold_name q) earlier → plays (takes s earlier x) (attached s earlier) false (fold_name q) true x ≡ false
    → (if query_empties s earlier (fold_name q) x then none_seen else seen_held s earlier (fold_name q)) ≡ seen_held s (x ∷ earlier) (fold_name q)
query_told s sound earlier x q f i j o z p =
    ap (λ told. if query_empties s earlier (fold_name q) x then none_seen else told) (either_way (plays (takes s earlier x) (attached s earlier) false (fold_name q) true x) (seen_held s earlier (fold_name q)))
    ∙ seen-query s sound earlier x q (seen_held s earlier (fold_name q)) f i j o z (λ e. absurd (let both : false ≡ true = sym p ∙ e in cc))

-- nor does one that stores a line, except in the query where it is stored
store_query_told : (s : Settings) → IsSound s → (earlier : List Command) (x : Command) (line : ℕ × Parts) (c : List ℕ) (b : Bool) → StoresAlone s earlier x → is_query_name c ≡ true → is_in (fold_name c) (queries s earlier) ≡ true → is_in (fold_name c) (queries s (x ∷ earlier)) ≡ true
    → stored s (fold_name c) earlier x ≡ (if b then Some line else None)
    → (if b then counted (pushed_length (size s (fold_name c) earlier) (kept s earlier (fold_name c)) line) (suc (length (kept s earlier (fold_name c))) - pushed_length (size s (fold_name c) earlier) (kept s earlier (fold_name c)) line)
    (here_of (names_held s earlier)) (seen_held s earlier (fold_name c)) else seen_held s earlier (fold_name c)) ≡ seen_held s (x ∷ earlier) (fold_name c)
store_query_told s sound earlier x line c true a f i j o =
    let k = query-key c f in
    pushed_list s earlier x (fold_name c) line (size s (fold_name c) earlier) (here_of (names_held s earlier)) (stores-empties s earlier x (fold_name c) a (removes-query s earlier x (fold_name c) k ∙ stays_in s earlier x (fold_name c) j)) o
    (size-query s sound earlier x (fold_name c) k i j ∙ a.sizes_none true (fold_name c) (size s (fold_name c) earlier))
    (a.plays_none (is_channel (fold_name c) && detached s earlier (fold_name c)) (is_known s earlier (fold_name c)) (fold_name c)) a.names_none (shown_here s earlier (fold_name c) k)
store_query_told s sound earlier x line c false a f i j o =
    let k = query-key c f in
    let none : query_empties s earlier (fold_name c) x ≡ false = sym (emptied-query s sound earlier x (fold_name c) k i j) ∙ stores-empties s earlier x (fold_name c) a (removes-query s earlier x (fold_name c) k ∙ stays_in s earlier x (fold_name c) j) in
    rw none at (query_told s sound earlier x c f i j o (a.sizes_none true (fold_name c) (size s (fold_name c) earlier)) (a.plays_none false true (fold_name c)))

not_stored : (s : Settings) → IsSound s → (earlier : List Command) (x : Command) (c : List ℕ) → StoresAlone s earlier x → is_query_name c ≡ true → is_in (fold_name c) (queries s earlier) ≡ true → is_in (fold_name c) (queries s (x ∷ earlier)) ≡ true
    → stored s (fold_name c) earlier x ≡ None → (if empties_queries s earlier x && false then none_seen else seen_held s earlier (fold_name c)) ≡ seen_held s (x ∷ earlier) (fold_name c)
not_stored s sound earlier x c a f i j o = rw (and_false (empties_queries s earlier x)) (store_query_told s sound earlier x (0, line_of [] [] []) c false a f i j o)

-- a command that does not affect the queries
pub quiet_queries : (s : Settings) → IsSound s → (earlier : List Command) (x : Command) → said (attached s earlier) (nick s earlier) x ≡ None
    → ((q : List ℕ) → is_query_name q ≡ true → is_in (fold_name q) (queries s earlier) ≡ true → is_in (fold_name q) (queries s (x ∷ earlier)) ≡ true → target_held s earlier q ≡ next_query s earlier x (target_held s earlier q))
    → map (target_held s earlier) (queries s earlier) ≡ map (target_held s (x ∷ earlier)) (queries s (x ∷ earlier))
quiet_queries s sound earlier x e h = unmapped_query s sound earlier x (nothing_new s earlier x e) h

-- ---- a line stored

-- a command that does nothing to the queries except that its line is stored
abbrev IsStoring : Settings → List Command → Command → Type 0
IsStoring s earlier x =
    ((q : List ℕ) → next_query s earlier x (target_held s earlier q)
    ≡ following q (kept s earlier (fold_name q)) (size s (fold_name q) earlier) (empties_queries s earlier x && false) (line_if (is_made_at (fold_name q) (stored_query s earlier x)) (said (attached s earlier) (nick s earlier) x)) (seen_held s (x ∷ earlier) (fold_name q)))
    × StoresAlone s earlier x

no_line : (o : Option (ℕ × Parts)) → line_if false o ≡ None
no_line None = refl
no_line (Some line) = refl

none_made : (k : List ℕ) (m : Option (List ℕ)) (o : Option (ℕ × Parts)) → m ≡ None → line_if (is_made_at k m) o ≡ None
none_made k m o e = rw e (no_line o)

other_made : (k q : List ℕ) (m : Option (List ℕ)) (o : Option (ℕ × Parts)) → m ≡ Some q → at_key k q ≡ false → line_if (is_made_at k m) o ≡ None
other_made k q m o e f = rw (e, f) (no_line o)

-- a line that goes into no query
other_query : (s : Settings) → IsSound s → (earlier : List Command) (x : Command) → IsStoring s earlier x → stored_query s earlier x ≡ None
    → map (target_held s earlier) (queries s earlier) ≡ map (target_held s (x ∷ earlier)) (queries s (x ∷ earlier))
other_query s sound earlier x i m =
    unmapped_query s sound earlier x (rw m refl)
    (λ q f h j. same_query q (lines s earlier q) (size s (fold_name q) earlier) (fits s earlier q) (seen_held s earlier (fold_name q)) (seen_held s (x ∷ earlier) (fold_name q)) (empties_queries s earlier x && false) (and_false (empties_queries s earlier x))
    (not_stored s sound earlier x q i.1 f h j (stored-query s sound earlier x (fold_name q) (query-key q f) ∙ none_made (fold_name q) (stored_query s earlier x) (said (attached s earlier) (nick s earlier) x) m))
    ∙ sym (i.0 q ∙ ap (λ o. following q (kept s earlier (fold_name q)) (size s (fold_name q) earlier) (empties_queries s earlier x && false) o (seen_held s (x ∷ earlier) (fold_name q))) (none_made (fold_name q) (stored_query s earlier x) (said (attached s earlier) (nick s earlier) x) m)))

any_query : (s : Settings) (history : List Command) (k : List ℕ) (qs : List (List ℕ)) → list_any (has_name_key k) (map (target_held s history) qs) ≡ is_in k qs
any_query s history k [] = refl
any_query s history k (q ∷ qs) = ap (λ b. at_key k q || b) (any_query s history k qs)

-- a line for a query that exists
known_query : (s : Settings) → IsSound s → (earlier : List Command) (x : Command) (q : List ℕ) (line : ℕ × Parts) → IsStoring s earlier x → stored_query s earlier x ≡ Some q → said (attached s earlier) (nick s earlier) x ≡ Some line
    → is_in (fold_name q) (queries s earlier) ≡ true
    → at_query (fold_name q) (pushed line (here_of (names_held s earlier))) (map (target_held s earlier) (queries s earlier)) ≡ map (target_held s (x ∷ earlier)) (queries s (x ∷ earlier))
known_query s sound earlier x q line i m l u =
    mapped_query s sound earlier x (λ t. if has_name_key (fold_name q) t then pushed line (here_of (names_held s earlier)) t else t) (rw (m, u) refl)
    (λ c f h j.
    rw (at_key-sym q c)
    (store_query_one c (lines s earlier c) (size s (fold_name c) earlier) (fits s earlier c) (seen_held s earlier (fold_name c)) (seen_held s (x ∷ earlier) (fold_name c)) (here_of (names_held s earlier)) (at_key (fold_name c) q) (empties_queries s earlier x) line
    (store_query_told s sound earlier x line c (at_key (fold_name c) q) i.1 f h j (stored-query s sound earlier x (fold_name c) (query-key c f) ∙ rw (m, l) refl))
    ∙ sym (i.0 c ∙ ap (λ o. following c (kept s earlier (fold_name c)) (size s (fold_name c) earlier) (empties_queries s earlier x && false) o (seen_held s (x ∷ earlier) (fold_name c))) (rw (m, l) refl))))

drop_map : {A B : Type 0} (f : A → B) (n : ℕ) (xs : List A) → drop n (map f xs) ≡ map f (drop n xs)
drop_map f zero xs = refl
drop_map f (suc n) [] = refl
drop_map f (suc n) (x ∷ xs) = drop_map f n xs

newest_map : {A B : Type 0} (f : A → B) (n : ℕ) (xs : List A) → newest n (map f xs) ≡ map f (newest n xs)
newest_map f n xs = rw length-map (drop_map f (length xs - n) xs)

map_append : {A B : Type 0} (f : A → B) (xs ys : List A) → map f (xs ++ ys) ≡ map f xs ++ map f ys
map_append f [] ys = refl
map_append f (x ∷ xs) ys = ap (λ zs. f x ∷ zs) (map_append f xs ys)

in_of_drop : (k : List ℕ) (n : ℕ) (cs : List (List ℕ)) → is_in k (drop n cs) ≡ true → is_in k cs ≡ true
in_of_drop k zero cs e = e
in_of_drop k (suc n) [] e = e
in_of_drop k (suc n) (c ∷ cs) e = or_second (at_key k c) _ (in_of_drop k n cs e)

-- what a query is next, by whether it is the one that is made
abbrev made_or_held : Settings → List Command → List ℕ → ℕ × Parts → List ℕ → TargetLines
made_or_held s earlier q line c = if at_key (fold_name q) c then pushed line (here_of (names_held s earlier)) (target c (ring [] s.query_size) none_seen) else target_held s earlier c

not_made : (s : Settings) (earlier : List Command) (q : List ℕ) (line : ℕ × Parts) (qs : List (List ℕ)) → is_in (fold_name q) qs ≡ false → map (target_held s earlier) qs ≡ map (made_or_held s earlier q line) qs
not_made s earlier q line [] e = refl
not_made s earlier q line (c ∷ qs) e =
    ap (λ t. t ∷ map (target_held s earlier) qs) (ap (λ b. if b then pushed line (here_of (names_held s earlier)) (target c (ring [] s.query_size) none_seen) else target_held s earlier c) (sym (or_left_false (at_key (fold_name q) c) _ e)))
    ∙ ap (λ ts. made_or_held s earlier q line c ∷ ts) (not_made s earlier q line qs (or_right_false (at_key (fold_name q) c) _ e))

or_last : (a b : Bool) → (a || (b || false)) ≡ true → b ≡ false → a ≡ true
or_last true b e f = refl
or_last false true e f = cc
or_last false false e f = cc

one_made : (s : Settings) → IsSound s → (earlier : List Command) (x : Command) (q : List ℕ) (line : ℕ × Parts) → IsStoring s earlier x → stored_query s earlier x ≡ Some q → said (attached s earlier) (nick s earlier) x ≡ Some line
    → is_query_name q ≡ true → is_in (fold_name q) (queries s earlier) ≡ false
    → (c : List ℕ) → is_query_name c ≡ true → is_in (fold_name c) (queries s (x ∷ earlier)) ≡ true → is_in (fold_name c) (queries s earlier ++ q ∷ []) ≡ true → (b : Bool) → at_key (fold_name c) q ≡ b
    → (if b then pushed line (here_of (names_held s earlier)) (target c (ring [] s.query_size) none_seen) else target_held s earlier c) ≡ target_held s (x ∷ earlier) c
one_made s sound earlier x q line i m l f u c g still h true e = sym (query-made s sound earlier x c q line f e u m l i.1)
one_made s sound earlier x q line i m l f u c g still h false e =
    let here : is_in (fold_name c) (queries s earlier) ≡ true = or_last (is_in (fold_name c) (queries s earlier)) (at_key (fold_name c) q) (sym (in-append (fold_name c) (queries s earlier) (q ∷ [])) ∙ h) e in
    same_query c (lines s earlier c) (size s (fold_name c) earlier) (fits s earlier c) (seen_held s earlier (fold_name c)) (seen_held s (x ∷ earlier) (fold_name c)) (empties_queries s earlier x && false) (and_false (empties_queries s earlier x))
    (not_stored s sound earlier x c i.1 g here still (stored-query s sound earlier x (fold_name c) (query-key c g) ∙ other_made (fold_name c) q (stored_query s earlier x) (said (attached s earlier) (nick s earlier) x) m e))
    ∙ (sym (i.0 c ∙ ap (λ o. following c (kept s earlier (fold_name c)) (size s (fold_name c) earlier) (empties_queries s earlier x && false) o (seen_held s (x ∷ earlier) (fold_name c))) (other_made (fold_name c) q (stored_query s earlier x) (said (attached s earlier) (nick s earlier) x) m e))
    ∙ sym (query-next s sound earlier x c g here still))

-- a line that makes a new query
new_query : (s : Settings) → IsSound s → (earlier : List Command) (x : Command) (q : List ℕ) (line : ℕ × Parts) → IsStoring s earlier x → stored_query s earlier x ≡ Some q → said (attached s earlier) (nick s earlier) x ≡ Some line
    → is_query_name q ≡ true → is_in (fold_name q) (queries s earlier) ≡ false
    → newest s.most_queries (map (target_held s earlier) (queries s earlier) ++ pushed line (here_of (names_held s earlier)) (target q (ring [] s.query_size) none_seen) ∷ []) ≡ map (target_held s (x ∷ earlier)) (queries s (x ∷ earlier))
new_query s sound earlier x q line i m l f u =
    let names : queries s (x ∷ earlier) ≡ newest s.most_queries (queries s earlier ++ q ∷ []) = queries-more s earlier x ∙ rw (m, u) refl in
    ap (newest s.most_queries)
    (ap (λ ts. ts ++ pushed line (here_of (names_held s earlier)) (target q (ring [] s.query_size) none_seen) ∷ []) (not_made s earlier q line (queries s earlier) u)
    ∙ (ap (λ t. map (made_or_held s earlier q line) (queries s earlier) ++ t ∷ []) (ap (λ b. if b then pushed line (here_of (names_held s earlier)) (target q (ring [] s.query_size) none_seen) else target_held s earlier q) (sym (own_key q)))
    ∙ sym (map_append (made_or_held s earlier q line) (queries s earlier) (q ∷ []))))
    ∙ (newest_map (made_or_held s earlier q line) s.most_queries (queries s earlier ++ q ∷ [])
    ∙ (map_at (made_or_held s earlier q line) (target_held s (x ∷ earlier)) (newest s.most_queries (queries s earlier ++ q ∷ []))
    (λ front c back e.
    let still : is_in (fold_name c) (queries s (x ∷ earlier)) ≡ true = ap (is_in (fold_name c)) names ∙ subst (λ qs. is_in (fold_name c) qs ≡ true) (sym e) (in-own front c back) in
    let there : is_in (fold_name c) (queries s earlier ++ q ∷ []) ≡ true = in_of_drop (fold_name c) (length (queries s earlier ++ q ∷ []) - s.most_queries) (queries s earlier ++ q ∷ []) (subst (λ qs. is_in (fold_name c) qs ≡ true) (sym e) (in-own front c back)) in
    let query_name : is_query_name c ≡ true = all-at is_query_name front c back (subst (λ qs. list_all is_query_name qs ≡ true) (names ∙ e) (queries-are s (x ∷ earlier))) in
    rw (at_key-sym q c) (one_made s sound earlier x q line i m l f u c query_name still there (at_key (fold_name c) q) refl))
    ∙ ap (map (target_held s (x ∷ earlier))) (sym names)))

stored_by : (s : Settings) → IsSound s → (earlier : List Command) (x : Command) (q : List ℕ) (line : ℕ × Parts) (known : Bool) → IsStoring s earlier x → stored_query s earlier x ≡ Some q → said (attached s earlier) (nick s earlier) x ≡ Some line
    → is_query_name q ≡ true → is_in (fold_name q) (queries s earlier) ≡ known
    → (if known then at_query (fold_name q) (pushed line (here_of (names_held s earlier))) (map (target_held s earlier) (queries s earlier)) else newest s.most_queries (map (target_held s earlier) (queries s earlier) ++ pushed line (here_of (names_held s earlier)) (target q (ring [] s.query_size) none_seen) ∷ []))
    ≡ map (target_held s (x ∷ earlier)) (queries s (x ∷ earlier))
stored_by s sound earlier x q line true i m l f u = known_query s sound earlier x q line i m l u
stored_by s sound earlier x q line false i m l f u = new_query s sound earlier x q line i m l f u

-- the query into which a line goes
query_if : (keep storable known query : Bool) (q : List ℕ) → (if keep then (if storable && not known && query then Some q else None) else None) ≡ (if storable && not known && keep && query then Some q else None)
query_if true true true query q = refl
query_if true true false query q = refl
query_if true false known query q = refl
query_if false true true query q = refl
query_if false true false query q = refl
query_if false false known query q = refl

aimed : (s : Settings) (earlier : List Command) (x : Command) (line : ℕ × Parts) → said (attached s earlier) (nick s earlier) x ≡ Some line
    → stored_query s earlier x
    ≡ (if is_storable line.1 && not (is_in (fold_name (parameter 0 (line.1))) (channels s earlier)) && keeps s.clears_queries (attached s earlier) (ids s earlier) && is_query_line (nick s earlier) line.1 then Some (source line.1) else None)
unfolding stored_query
aimed s earlier x line l =
    rw l (query_if (keeps s.clears_queries (attached s earlier) (ids s earlier)) (is_storable line.1) (is_in (fold_name (parameter 0 (line.1))) (channels s earlier)) (is_query_line (nick s earlier) line.1) (source line.1))

stored_if : (s : Settings) → IsSound s → (earlier : List Command) (x : Command) (line : ℕ × Parts) (b : Bool) → IsStoring s earlier x → said (attached s earlier) (nick s earlier) x ≡ Some line
    → (b ≡ true → is_query_name (source line.1) ≡ true) → stored_query s earlier x ≡ (if b then Some (source line.1) else None)
    → (if b then query_stored s.most_queries s.query_size (source line.1) line (here_of (names_held s earlier)) (map (target_held s earlier) (queries s earlier)) else map (target_held s earlier) (queries s earlier))
    ≡ map (target_held s (x ∷ earlier)) (queries s (x ∷ earlier))
stored_if s sound earlier x line true i l f m =
    rw (any_query s earlier (fold_name (source line.1)) (queries s earlier)) (stored_by s sound earlier x (source line.1) line (is_in (fold_name (source line.1)) (queries s earlier)) i m l (f refl) refl)
stored_if s sound earlier x line false i l f m = other_query s sound earlier x i m

query_named : (nick : List ℕ) (line : Parts) (b : Bool) → (b && is_query_line nick line) ≡ true → is_query_name (source line) ≡ true
query_named nick line b e = and_right _ (is_query_name (source line)) (and_right b _ e)

pub storing_queries : (s : Settings) → IsSound s → (earlier : List Command) (x : Command) (o : Option (ℕ × Parts)) → IsStoring s earlier x → said (attached s earlier) (nick s earlier) x ≡ o
    → queries_storing s (held s earlier) o ≡ map (target_held s (x ∷ earlier)) (queries s (x ∷ earlier))
storing_queries s sound earlier x None i l = other_query s sound earlier x i (nothing_stored s earlier x l)
storing_queries s sound earlier x (Some line) i l =
    rw (found-known s earlier (fold_name (parameter 0 (line.1))))
    (stored_if s sound earlier x line (is_storable line.1 && not (is_in (fold_name (parameter 0 (line.1))) (channels s earlier)) && keeps s.clears_queries (attached s earlier) (ids s earlier) && is_query_line (nick s earlier) line.1) i l
    (λ e. query_named (nick s earlier) line.1 (is_storable line.1 && not (is_in (fold_name (parameter 0 (line.1))) (channels s earlier)) && keeps s.clears_queries (attached s earlier) (ids s earlier)) e)
    (aimed s earlier x line l))

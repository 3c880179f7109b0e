-- What an edit at the place of a key does to queries.
use Rattle.std.proofs.Common.{◌≡◌, ℕ, ◌<◌, ◌≤◌, Bool, true, false, List, [], ◌∷◌, ◌++◌, map, get_or, set, drop, length, refl, sym, ap, ◌∙◌, subst, Result, Ok, Err, OnOk, OnErr, Some, None}
use Rattle.std.specs.List.{insert, list_any}
use Rattle.std.proofs.lemmas.List.{map_push, length-map, drop-map, get_or_default}
use Rattle.irc_line.specs.Names.{fold_name}
use Rattle.irc_line.specs.Lines.{Parts}
use Rattle.irc_line.specs.Keys.{is_in}
use Rattle.buffer_lines.specs.Stamps.{ring}
use Rattle.buffer_targets.specs.Places.{IsPlace, IsGap, IsIndex, are_different, lowered, names_at}
use Rattle.buffer_targets.specs.Targets.{KeepsSoMany, QueryKeeps, TargetLines, at_query, has_name_key, newest, none_seen, pushed, query_names, query_of_key, query_stored, target}
use Rattle.buffer_targets.proofs.Rising.{some_at_place}
use Rattle.buffer_targets.proofs.Edits.{none_changed, none_found, any_is, changed, found, names_stay, names_set}
use Rattle.buffer_targets.proofs.Indexes.{found_in_index, index_pushed, index_dropped}

abbrev name_of : TargetLines → List ℕ
name_of t = t.name

module _ (key : List ℕ) (ts : List TargetLines) (at : ℕ) (different : are_different (query_names ts) ≡ true) (place : IsPlace key (query_names ts) at) where
  pub query_set : (f : TargetLines → TargetLines) (x y : TargetLines) → x ≡ get_or ts at x → y ≡ f x → set ts at y ≡ at_query key f ts
  query_set f x y e h = rw h (changed name_of key f ts at x different place e)

  -- the same after a call that may be refused
  pub query_set_ok : {T E : Type 0} (r : Result T E) (f : TargetLines → TargetLines) (x y : TargetLines) → x ≡ get_or ts at x → OnOk r (y ≡ f x) → OnOk r (set ts at y ≡ at_query key f ts)
  query_set_ok (Ok t) f x y e h = query_set f x y e h
  query_set_ok (Err e') f x y e h = tt

  pub query_known : list_any (has_name_key key) ts ≡ true
  query_known = any_is name_of key ts ∙ some_at_place key (query_names ts) at place

  pub query_found : (x : TargetLines) → x ≡ get_or ts at x → Some x ≡ query_of_key key ts
  query_found x e = sym (found name_of key ts at x different place e)

  -- it keeps at least as much as the query of the key
  pub query_keeps : (size : ℕ) (x : TargetLines) → x ≡ get_or ts at x → QueryKeeps key size ts → size ≤ x.lines.size
  query_keeps size x e keeps = subst (KeepsSoMany size) (sym (query_found x e)) keeps

module _ (key : List ℕ) (ts : List TargetLines) (absent : is_in key (query_names ts) ≡ false) where
  -- there is no query of the key
  pub no_query_set : (f : TargetLines → TargetLines) → ts ≡ at_query key f ts
  no_query_set f = sym (none_changed name_of key f ts absent)

  pub query_unknown : list_any (has_name_key key) ts ≡ false
  query_unknown = any_is name_of key ts ∙ absent

  pub no_query_found : None ≡ query_of_key key ts
  no_query_found = sym (none_found name_of key ts absent)

-- the index is unchanged where each keeps its name
pub index_set : (ts : List TargetLines) (places : List ℕ) (at : ℕ) (x y : TargetLines) → IsIndex (query_names ts) places → x ≡ get_or ts at x → y.name ≡ x.name → IsIndex (query_names (set ts at y)) places
index_set ts places at x y index e h = subst (λ ns. IsIndex ns places) (sym (names_set name_of ts at x y e h)) index

pub same_name_of : {T E : Type 0} (r : Result T E) (f : TargetLines → TargetLines) → ((t : TargetLines) → (f t).name ≡ t.name) → (x y : TargetLines) → OnOk r (y ≡ f x) → OnErr r (y ≡ x) → y.name ≡ x.name
same_name_of (Ok t) f stays x y h k = ap (λ c. c.name) h ∙ stays x
same_name_of (Err e) f stays x y h k = ap (λ c. c.name) k

pub index_map : (f : TargetLines → TargetLines) → ((t : TargetLines) → (f t).name ≡ t.name) → (ts : List TargetLines) (places : List ℕ) → IsIndex (query_names ts) places → IsIndex (query_names (map f ts)) places
index_map f stays ts places index = subst (λ ns. IsIndex ns places) (sym (names_stay name_of f stays ts)) index

-- one more query, and queries that are dropped
pub index_added : (ts : List TargetLines) (places : List ℕ) (t : TargetLines) (gap : ℕ) → IsIndex (query_names ts) places → IsGap (fold_name t.name) (names_at (query_names ts) places) gap
    → IsIndex (query_names (ts ++ t ∷ [])) (insert places gap (length ts))
index_added ts places t gap index free =
    rw (map_push name_of ts t, ← length-map ts name_of) (index_pushed (query_names ts) places t.name gap index free)

pub index_newest : (k : ℕ) (ts : List TargetLines) (places : List ℕ) → IsIndex (query_names ts) places → IsIndex (query_names (drop k ts)) (lowered k places)
index_newest k ts places index = rw (← drop-map name_of k ts) (index_dropped k (query_names ts) places index)

-- what storing a line does, with a query of the name and without one
pub query_pushed : (most size : ℕ) (name : List ℕ) (line : ℕ × Parts) (here : List Bool) (key : List ℕ) (ts : List TargetLines) (at : ℕ) (x y : TargetLines) → key ≡ fold_name name
    → are_different (query_names ts) ≡ true → IsPlace key (query_names ts) at → x ≡ get_or ts at x → y ≡ pushed line here x → set ts at y ≡ query_stored most size name line here ts
query_pushed most size name line here key ts at x y k different place e h =
    let place : IsPlace (fold_name name) (query_names ts) at = subst (λ f. IsPlace f (query_names ts) at) k place in
    rw (any_is name_of (fold_name name) ts, some_at_place (fold_name name) (query_names ts) at place) (query_set (fold_name name) ts at different place (pushed line here) x y e h)

pub query_made : (most size : ℕ) (name : List ℕ) (line : ℕ × Parts) (here : List Bool) (key : List ℕ) (ts us : List TargetLines) (t : TargetLines) → key ≡ fold_name name → is_in key (query_names ts) ≡ false
    → t ≡ pushed line here (target name (ring [] size) none_seen) → us ≡ ts ++ t ∷ [] → newest most us ≡ query_stored most size name line here ts
query_made most size name line here key ts us t k absent h e =
    let absent : is_in (fold_name name) (query_names ts) ≡ false = subst (λ f. is_in f (query_names ts) ≡ false) k absent in
    rw (any_is name_of (fold_name name) ts, absent, e, h) refl

-- what a search finds
pub found_query : (key : List ℕ) (ts : List TargetLines) (places : List ℕ) (p : ℕ) → IsIndex (query_names ts) places → p < length places → IsPlace key (names_at (query_names ts) places) p
    → (get_or places p 0 < length ts) × IsPlace key (query_names ts) (get_or places p 0)
found_query key ts places p index h place =
    let there = found_in_index key (query_names ts) places p (get_or places p 0) index place (get_or_default places p 0 (get_or places p 0) h) in
    (rw length-map at there.in_range, there.place)

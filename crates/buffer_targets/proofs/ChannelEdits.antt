-- What an edit at the place of a key does to channels.
use Rattle.std.proofs.Common.{◌≡◌, ℕ, zero, suc, ◌<◌, ◌≤◌, arith, Bool, true, false, if◌then◌else◌, List, [], ◌∷◌, map, get_or, set, length, refl, sym, ap, ◌∙◌, subst, Result, Ok, Err, OnOk, OnErr, Some, None, option_map}
use Rattle.std.specs.List.{list_any, insert, remove}
use Rattle.std.specs.List.Sorted.{IsBinarySearchResult, IsSearchInRange}
use Rattle.std.specs.Ordering.{nat_cmp}
use Rattle.std.specs.Cmp.Lexicographic.{slice_cmp}
use Rattle.std.specs.Result.{MatchResult}
use Rattle.irc_line.specs.Names.{fold_name}
use Rattle.irc_line.specs.Keys.{are_rising, is_in}
use Rattle.irc_line.proofs.Booleans.{and_left}
use Rattle.irc_line.proofs.Order.{below-asym}
use Rattle.buffer_lines.specs.Stamps.{ring}
use Rattle.buffer_targets.specs.Places.{IsPlace, IsGap}
use Rattle.buffer_targets.specs.Targets.{ChannelKeeps, ChannelLines, KeepsSoMany, at_channel, channel_names, channel_of_key, has_key, put_channel, without_channel, over, cleared, channel, target, joined_by, with_joined, none_seen, seen_all}
use Rattle.buffer_targets.proofs.Rising.{none_at_gap, some_at_place, rising_are_different, rising-insert, rising-filter}
use Rattle.buffer_targets.proofs.Edits.{none_changed, none_removed, none_found, any_is, changed, removed, found, names_stay, names_set, names-insert}
use Rattle.buffer_targets.proofs.Search.{searched}

abbrev name_of : ChannelLines → List ℕ
name_of c = c.target.name

-- a search whose closure compares a channel's key
pub channel_searched : (key : List ℕ) (cs : List ChannelLines) → are_rising (channel_names cs) ≡ true → (r : Result ℕ ℕ) → IsSearchInRange r (length cs)
    → IsBinarySearchResult (λ c. slice_cmp nat_cmp (fold_name c.target.name) key) cs r → MatchResult r (IsPlace key (channel_names cs)) (IsGap key (channel_names cs))
channel_searched key cs rises r bound result =
    searched name_of (λ c. slice_cmp nat_cmp (fold_name c.target.name) key) key cs (λ k d h. refl) rises r bound result

module _ (key : List ℕ) (cs : List ChannelLines) (at : ℕ) (rises : are_rising (channel_names cs) ≡ true) (place : IsPlace key (channel_names cs) at) where
  pub channel_set : (f : ChannelLines → ChannelLines) (x y : ChannelLines) → x ≡ get_or cs at x → y ≡ f x → set cs at y ≡ at_channel key f cs
  channel_set f x y e h = rw h (changed name_of key f cs at x (rising_are_different _ rises) place e)

  pub channel_found : (x : ChannelLines) → x ≡ get_or cs at x → Some x ≡ channel_of_key key cs
  channel_found x e = sym (found name_of key cs at x (rising_are_different _ rises) place e)

  -- it keeps at least as much as the channel of the key
  pub channel_keeps : (size : ℕ) (x : ChannelLines) → x ≡ get_or cs at x → ChannelKeeps key size cs → size ≤ x.target.lines.size
  channel_keeps size x e keeps = subst (λ found. KeepsSoMany size (option_map (λ c. c.target) found)) (sym (channel_found x e)) keeps

  pub channel_removed : remove cs at ≡ without_channel key cs
  channel_removed = removed name_of key cs at (rising_are_different _ rises) place

  pub channel_known : list_any (has_key key) cs ≡ true
  channel_known = any_is name_of key cs ∙ some_at_place key (channel_names cs) at place

  -- the same after a call that may be refused
  pub channel_set_ok : {T E : Type 0} (r : Result T E) (f : ChannelLines → ChannelLines) (x y : ChannelLines) → x ≡ get_or cs at x → OnOk r (y ≡ f x) → OnOk r (set cs at y ≡ at_channel key f cs)
  channel_set_ok (Ok t) f x y e h = channel_set f x y e h
  channel_set_ok (Err e') f x y e h = tt

  pub rising_removed : are_rising (channel_names (remove cs at)) ≡ true
  rising_removed = rw channel_removed (rising-filter name_of _ cs rises)

-- a place that was found is within the channels
pub place_in_range : (key : List ℕ) (cs : List ChannelLines) (at : ℕ) → IsPlace key (channel_names cs) at → at < length cs
place_in_range key [] at p = absurd p
place_in_range key (c ∷ cs) zero p = omega arith
place_in_range key (c ∷ cs) (suc at) p = let h = place_in_range key cs at p in omega arith

-- the channels still rise where each keeps its name
pub rising_set : (cs : List ChannelLines) (at : ℕ) (x y : ChannelLines) → are_rising (channel_names cs) ≡ true → x ≡ get_or cs at x → y.target.name ≡ x.target.name → are_rising (channel_names (set cs at y)) ≡ true
rising_set cs at x y rises e h = rw (names_set name_of cs at x y e h) rises

pub same_name_of : {T E : Type 0} (r : Result T E) (f : ChannelLines → ChannelLines) → ((c : ChannelLines) → (f c).target.name ≡ c.target.name) → (x y : ChannelLines) → OnOk r (y ≡ f x) → OnErr r (y ≡ x) → y.target.name ≡ x.target.name
same_name_of (Ok t) f stays x y h k = ap (λ c. c.target.name) h ∙ stays x
same_name_of (Err e) f stays x y h k = ap (λ c. c.target.name) k

pub rising_map : (f : ChannelLines → ChannelLines) → ((c : ChannelLines) → (f c).target.name ≡ c.target.name) → (cs : List ChannelLines) → are_rising (channel_names cs) ≡ true → are_rising (channel_names (map f cs)) ≡ true
rising_map f stays cs rises = rw (names_stay name_of f stays cs) rises

pub open_name : (c : ChannelLines) → (if c.detached then c else over cleared c).target.name ≡ c.target.name
open_name c = open_name_by c (c.detached)
  where
    open_name_by : (c : ChannelLines) (b : Bool) → (if b then c else over cleared c).target.name ≡ c.target.name
    open_name_by c true = refl
    open_name_by c false = refl

pub made_names : (size : ℕ) (names : List (List ℕ)) → channel_names (map (λ n. channel (target n (ring [] size) none_seen) false false) names) ≡ names
made_names size [] = refl
made_names size (n ∷ ns) = ap (λ ms. n ∷ ms) (made_names size ns)

module _ (key : List ℕ) (cs : List ChannelLines) (absent : is_in key (channel_names cs) ≡ false) where
  pub none_set : (f : ChannelLines → ChannelLines) → cs ≡ at_channel key f cs
  none_set f = sym (none_changed name_of key f cs absent)

  pub none_of_key : None ≡ channel_of_key key cs
  none_of_key = sym (none_found name_of key cs absent)

module _ (key : List ℕ) (cs : List ChannelLines) (at : ℕ) (gap : IsGap key (channel_names cs) at) where
  -- there is no channel of the key
  pub no_channel_set : (f : ChannelLines → ChannelLines) → cs ≡ at_channel key f cs
  no_channel_set f = sym (none_changed name_of key f cs (none_at_gap key (channel_names cs) at gap))

  pub no_channel_found : None ≡ channel_of_key key cs
  no_channel_found = sym (none_found name_of key cs (none_at_gap key (channel_names cs) at gap))

  pub no_channel_removed : cs ≡ without_channel key cs
  no_channel_removed = sym (none_removed name_of key cs (none_at_gap key (channel_names cs) at gap))

  pub channel_unknown : list_any (has_key key) cs ≡ false
  channel_unknown = any_is name_of key cs ∙ none_at_gap key (channel_names cs) at gap

-- a channel inserted into the gap of its key
front_put : (c : ChannelLines) (cs : List ChannelLines) → IsGap (fold_name c.target.name) (channel_names cs) 0 → c ∷ cs ≡ put_channel c cs
front_put c [] g = refl
front_put c (d ∷ ds) g = rw (below-asym (fold_name c.target.name) (fold_name d.target.name) (and_left _ _ g)) refl

put_in_gap : (c : ChannelLines) (cs : List ChannelLines) (at : ℕ) → IsGap (fold_name c.target.name) (channel_names cs) at → insert cs at c ≡ put_channel c cs
put_in_gap c cs zero g = front_put c cs g
put_in_gap c [] (suc at) g = absurd g
put_in_gap c (d ∷ ds) (suc at) g = rw g.0 (ap (λ es. d ∷ es) (put_in_gap c ds at g.1))

module _ (c : ChannelLines) (cs : List ChannelLines) (at : ℕ) (gap : IsGap (fold_name c.target.name) (channel_names cs) at) where
  pub channel_put : insert cs at c ≡ put_channel c cs
  channel_put = put_in_gap c cs at gap

  pub rising_put : are_rising (channel_names cs) ≡ true → are_rising (channel_names (insert cs at c)) ≡ true
  rising_put rises = rw (names-insert name_of cs at c) (rising-insert c.target.name (channel_names cs) at gap rises)

-- what a join does, at a place and at a gap
pub channel_joined : (name : List ℕ) (size : ℕ) (key : List ℕ) (cs : List ChannelLines) (at : ℕ) (x y : ChannelLines) → key ≡ fold_name name → are_rising (channel_names cs) ≡ true → IsPlace key (channel_names cs) at
    → x ≡ get_or cs at x → y ≡ with_joined true x → set cs at y ≡ joined_by name size cs
channel_joined name size key cs at x y k rises place e h =
    let place : IsPlace (fold_name name) (channel_names cs) at = subst (λ f. IsPlace f (channel_names cs) at) k place in
    rw (channel_known (fold_name name) cs at rises place) (channel_set (fold_name name) cs at rises place (with_joined true) x y e h)

pub channel_made : (name : List ℕ) (size : ℕ) (key : List ℕ) (cs : List ChannelLines) (at : ℕ) (c : ChannelLines) → key ≡ fold_name name → IsGap key (channel_names cs) at
    → c ≡ channel (target name (ring [] size) none_seen) true false → insert cs at c ≡ joined_by name size cs
channel_made name size key cs at c k gap h =
    let gap : IsGap (fold_name name) (channel_names cs) at = subst (λ f. IsGap f (channel_names cs) at) k gap in
    rw (h, channel_unknown (fold_name name) cs at gap) (channel_put (channel (target name (ring [] size) none_seen) true false) cs at gap)

pub rising_made : (name : List ℕ) (key : List ℕ) (cs : List ChannelLines) (at : ℕ) (c : ChannelLines) → key ≡ fold_name name → IsGap key (channel_names cs) at → c.target.name ≡ name
    → are_rising (channel_names cs) ≡ true → are_rising (channel_names (insert cs at c)) ≡ true
rising_made name key cs at c k gap h rises =
    rising_put c cs at (subst (λ f. IsGap f (channel_names cs) at) (k ∙ ap fold_name (sym h)) gap) rises

-- marking a channel as seen, if clients are shown it, keeps its name
pub open_seen_name : (here : List Bool) (c : ChannelLines) → (if c.detached then c else over (seen_all here) c).target.name ≡ c.target.name
open_seen_name here c = by (c.detached)
  where
    by : (b : Bool) → (if b then c else over (seen_all here) c).target.name ≡ c.target.name
    by true = refl
    by false = refl

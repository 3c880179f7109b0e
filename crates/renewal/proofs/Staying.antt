-- Which names and channels stay when the setup changes, and which are added.
use Rattle.std.proofs.Common.{◌≡◌, ℕ, List, [], ◌∷◌, ◌++◌, map, refl, ap, ◌∙◌, sym, Bool, true, false, not, ◌&&◌, ◌||◌}
use Rattle.std.specs.Prelude.{filter, if◌then◌else◌}
use Rattle.std.specs.List.{list_any}
use Rattle.irc_line.specs.Names.{fold_name, same_bytes}
use Rattle.irc_line.specs.Keys.{at_key, is_below, is_in}
use Rattle.irc_line.proofs.Booleans.{and_false, or_false, or_true}
use Rattle.irc_line.proofs.Order.{key_is}
use Rattle.irc_line.proofs.SameBytes.{same_bytes-eq}
use Rattle.buffer_commands.specs.Settings.{Settings}
use Rattle.buffer_targets.specs.Targets.{ChannelLines, has_channel, has_key, unjoined}
use Rattle.buffer_machine.specs.Crowd.{is_id_in}
use Rattle.renewal.specs.Moved.{added, before, channel_moved, channels_moved, goes, is_staying, key_of, merged, not_before, staying}

-- ---- names

names_by : (forgotten : List (List ℕ)) (id x : List ℕ) (xs : List (List ℕ)) (a g : Bool) → same_bytes id x ≡ a → is_id_in x forgotten ≡ g
    → is_id_in id (staying (goes forgotten xs) xs) ≡ (is_id_in id xs && not (is_id_in id forgotten))
    → is_id_in id (staying (g ∷ goes forgotten xs) (x ∷ xs)) ≡ ((a || is_id_in id xs) && not (is_id_in id forgotten))
names_by forgotten id x xs true true e f ih = ih ∙ rw (ap (λ i. is_id_in i forgotten) (same_bytes-eq id x e) ∙ f) (and_false (is_id_in id xs))
names_by forgotten id x xs true false e f ih = rw (e, ap (λ i. is_id_in i forgotten) (same_bytes-eq id x e) ∙ f) refl
names_by forgotten id x xs false true e f ih = ih
names_by forgotten id x xs false false e f ih = rw e ih

pub names_stay : (forgotten : List (List ℕ)) (id : List ℕ) (xs : List (List ℕ)) → is_id_in id (staying (goes forgotten xs) xs) ≡ (is_id_in id xs && not (is_id_in id forgotten))
names_stay forgotten id [] = refl
names_stay forgotten id (x ∷ xs) = names_by forgotten id x xs (same_bytes id x) (is_id_in x forgotten) refl refl (names_stay forgotten id xs)

-- ---- channels

or_more : (a b c : Bool) → ((a || b) || c) ≡ (a || (b || c))
or_more true b c = refl
or_more false b c = refl

any_more : {A : Type 0} (p : A → Bool) (xs ys : List A) → list_any p (xs ++ ys) ≡ (list_any p xs || list_any p ys)
any_more p [] ys = refl
any_more p (x ∷ xs) ys = ap (λ b. p x || b) (any_more p xs ys) ∙ sym (or_more (p x) (list_any p xs) (list_any p ys))

unjoined_in : (k : List ℕ) (size : ℕ) (ns : List (List ℕ)) → has_channel k (unjoined size ns) ≡ is_in k ns
unjoined_in k size [] = refl
unjoined_in k size (n ∷ ns) = ap (λ b. at_key k n || b) (unjoined_in k size ns)

split_by : (k key n : List ℕ) (ns : List (List ℕ)) (b : Bool) → (is_in k (before key ns) || is_in k (not_before key ns)) ≡ is_in k ns
    → (is_in k (if b then n ∷ before key ns else []) || is_in k (if b then not_before key ns else n ∷ ns)) ≡ (at_key k n || is_in k ns)
split_by k key n ns true e = or_more (at_key k n) (is_in k (before key ns)) (is_in k (not_before key ns)) ∙ ap (λ b. at_key k n || b) e
split_by k key n ns false e = refl

both_parts : (k key : List ℕ) (ns : List (List ℕ)) → (is_in k (before key ns) || is_in k (not_before key ns)) ≡ is_in k ns
both_parts k key [] = refl
both_parts k key (n ∷ ns) = split_by k key n ns (is_below (fold_name n) key) (both_parts k key ns)

shuffled : (b n i x h : Bool) → (b || n) ≡ i → (b || (x || (n || h))) ≡ (i || (x || h))
shuffled true n i x h e = rw (← e) refl
shuffled false n i true h e = sym (or_true i)
shuffled false n i false h e = rw (← e) refl

merged_in : (k : List ℕ) (size : ℕ) (ns : List (List ℕ)) (cs : List ChannelLines) → has_channel k (merged size ns cs) ≡ (is_in k ns || has_channel k cs)
merged_in k size ns [] = unjoined_in k size ns ∙ sym (or_false (is_in k ns))
merged_in k size ns (c ∷ cs) =
    any_more (has_key k) (unjoined size (before (key_of c) ns)) (c ∷ merged size (not_before (key_of c) ns) cs)
    ∙ (ap (λ b. b || (has_key k c || has_channel k (merged size (not_before (key_of c) ns) cs))) (unjoined_in k size (before (key_of c) ns))
    ∙ (ap (λ b. is_in k (before (key_of c) ns) || (has_key k c || b)) (merged_in k size (not_before (key_of c) ns) cs)
    ∙ shuffled (is_in k (before (key_of c) ns)) (is_in k (not_before (key_of c) ns)) (is_in k ns) (has_key k c) (has_channel k cs) (both_parts k (key_of c) ns)))

moved_in : (k : List ℕ) (old new : ℕ) (gone : List Bool) (cs : List ChannelLines) → has_channel k (map (channel_moved old new gone) cs) ≡ has_channel k cs
moved_in k old new gone [] = refl
moved_in k old new gone (c ∷ cs) = ap (λ b. has_key k c || b) (moved_in k old new gone cs)

staying_by : (k : List ℕ) (p : List ℕ → Bool) (c : ChannelLines) (cs : List ChannelLines) (a b : Bool) → has_key k c ≡ a → p (key_of c) ≡ b
    → has_channel k (filter (λ d. p (key_of d)) cs) ≡ (has_channel k cs && p k)
    → has_channel k (if b then c ∷ filter (λ d. p (key_of d)) cs else filter (λ d. p (key_of d)) cs) ≡ ((a || has_channel k cs) && p k)
staying_by k p c cs true true e f ih = rw (e, ap p (key_is k c.target.name e) ∙ f) refl
staying_by k p c cs true false e f ih = ih ∙ rw (ap p (key_is k c.target.name e) ∙ f) (and_false (has_channel k cs))
staying_by k p c cs false true e f ih = rw e ih
staying_by k p c cs false false e f ih = ih

staying_in : (k : List ℕ) (p : List ℕ → Bool) (cs : List ChannelLines) → has_channel k (filter (λ d. p (key_of d)) cs) ≡ (has_channel k cs && p k)
staying_in k p [] = refl
staying_in k p (c ∷ cs) = staying_by k p c cs (has_key k c) (p (key_of c)) refl refl (staying_in k p cs)

added_by : (k : List ℕ) (p : List ℕ → Bool) (n : List ℕ) (ns : List (List ℕ)) (a b : Bool) → at_key k n ≡ a → p (fold_name n) ≡ b
    → is_in k (filter (λ d. p (fold_name d)) ns) ≡ (is_in k ns && p k)
    → is_in k (if b then n ∷ filter (λ d. p (fold_name d)) ns else filter (λ d. p (fold_name d)) ns) ≡ ((a || is_in k ns) && p k)
added_by k p n ns true true e f ih = rw (e, ap p (key_is k n e) ∙ f) refl
added_by k p n ns true false e f ih = ih ∙ rw (ap p (key_is k n e) ∙ f) (and_false (is_in k ns))
added_by k p n ns false true e f ih = rw e ih
added_by k p n ns false false e f ih = ih

added_in : (k : List ℕ) (p : List ℕ → Bool) (ns : List (List ℕ)) → is_in k (filter (λ d. p (fold_name d)) ns) ≡ (is_in k ns && p k)
added_in k p [] = refl
added_in k p (n ∷ ns) = added_by k p n ns (at_key k n) (p (fold_name n)) refl refl (added_in k p ns)

either : (a b : Bool) → (a || b) ≡ (b || a)
either true b = sym (or_true b)
either false b = sym (or_false b)

-- which channels there are
pub channels_there : (s t : Settings) (gone : List Bool) (was : List ℕ → Bool) (cs : List ChannelLines) (k : List ℕ)
    → has_channel k (channels_moved s t gone was cs)
    ≡ ((has_channel k cs && (not (is_in k s.channels) || (is_in k t.channels || was k))) || (is_in k t.channels && (not (is_in k s.channels) && not (has_channel k cs))))
channels_there s t gone was cs k =
    merged_in k t.channel_size (added s t cs) (map (channel_moved s.channel_size t.channel_size gone) (filter (is_staying s t was) cs))
    ∙ (ap (λ b. is_in k (added s t cs) || b) (moved_in k s.channel_size t.channel_size gone (filter (is_staying s t was) cs)
    ∙ staying_in k (λ key. not (is_in key s.channels) || (is_in key t.channels || was key)) cs)
    ∙ (ap (λ b. b || (has_channel k cs && (not (is_in k s.channels) || (is_in k t.channels || was k)))) (added_in k (λ key. not (is_in key s.channels) && not (has_channel key cs)) t.channels)
    ∙ either (is_in k t.channels && (not (is_in k s.channels) && not (has_channel k cs))) (has_channel k cs && (not (is_in k s.channels) || (is_in k t.channels || was k)))))

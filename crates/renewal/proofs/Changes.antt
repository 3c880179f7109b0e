-- What holds of a change of the setup.
use Rattle.std.proofs.Common.{◌≡◌, ℕ, zero, suc, ◌≤◌, ◌-◌, List, [], ◌∷◌, length, map, refl, ap, ◌∙◌, sym, Bool, true, false, not, ◌&&◌, ◌||◌, drop, arith}
use Rattle.std.specs.Prelude.{◌==◌, if◌then◌else◌, filter, replicate}
use Rattle.std.specs.List.{list_all}
use Rattle.std.proofs.lemmas.Bool.Decides.{nat_tests}
use Rattle.std.proofs.lemmas.List.{length-map}
use Rattle.irc_line.specs.Names.{fold_name}
use Rattle.irc_line.specs.Keys.{at_key, is_in}
use Rattle.irc_line.proofs.Order.{own_key}
use Rattle.wire_bytes.specs.declared.origin.Origin.{Origin}
use Rattle.machine_laws.specs.Runs.{History}
use Rattle.buffer_commands.specs.Settings.{Settings}
use Rattle.buffer_commands.specs.declared.command.Command.{Command}
use Rattle.buffer_targets.specs.Targets.{ChannelLines, TargetLines, channel, fewer, resized, target}
use Rattle.buffer_machine.specs.Buffers.{channels, joined, queries, size}
use Rattle.buffer_machine.specs.Crowd.{attached, id_limit, ids}
use Rattle.buffer_machine.specs.Held.{Held, Names, channel_held, commands, for_each, held, holding, names_of, target_held}
use Rattle.buffer_machine.proofs.Kept.{kept_fits}
use Rattle.buffer_machine.proofs.Standing.{queries-fit}
use Rattle.bouncer_tower.specs.Bodies.{TowerBody, plain}
use Rattle.renewal.specs.Lists.{BegunAnew}
use Rattle.renewal.specs.Moved.{added, channel_moved, channels_moved, filled, goes, is_added, is_staying, merged, moved, queries_moved, size_moved, staying, target_moved, with_seen}

-- ---- lists

filter_same : {A : Type 0} (p q : A → Bool) → ((x : A) → p x ≡ q x) → (xs : List A) → filter p xs ≡ filter q xs
filter_same p q f [] = refl
filter_same p q f (x ∷ xs) = rw (f x, filter_same p q f xs) refl

filter_all : {A : Type 0} (p : A → Bool) → ((x : A) → p x ≡ true) → (xs : List A) → filter p xs ≡ xs
filter_all p f [] = refl
filter_all p f (x ∷ xs) = rw (f x) (ap (λ ys. x ∷ ys) (filter_all p f xs))

filter_none_by : {A : Type 0} (p : A → Bool) (x : A) (xs : List A) (b : Bool) → p x ≡ b → (not b && list_all (λ y. not (p y)) xs) ≡ true → (list_all (λ y. not (p y)) xs ≡ true → filter p xs ≡ [])
    → (if b then x ∷ filter p xs else filter p xs) ≡ []
filter_none_by p x xs true e f ih = cc
filter_none_by p x xs false e f ih = ih f

filter_none : {A : Type 0} (p : A → Bool) (xs : List A) → list_all (λ y. not (p y)) xs ≡ true → filter p xs ≡ []
filter_none p [] e = refl
filter_none p (x ∷ xs) e = filter_none_by p x xs (p x) refl e (filter_none p xs)

all_more_by : {A : Type 0} (p q : A → Bool) (x : A) (xs : List A) (b : Bool) → p x ≡ b → (b ≡ true → q x ≡ true) → (b && list_all p xs) ≡ true → (list_all p xs ≡ true → list_all q xs ≡ true) → (q x && list_all q xs) ≡ true
all_more_by p q x xs true e f g ih = rw (f refl, ih g) refl
all_more_by p q x xs false e f g ih = cc

all_more : {A : Type 0} (p q : A → Bool) → ((x : A) → p x ≡ true → q x ≡ true) → (xs : List A) → list_all p xs ≡ true → list_all q xs ≡ true
all_more p q f [] e = refl
all_more p q f (x ∷ xs) e = all_more_by p q x xs (p x) refl (f x) e (all_more p q f xs)

drop_none : {A : Type 0} (n : ℕ) (xs : List A) → length xs ≤ n → drop (length xs - n) xs ≡ xs
drop_none n xs h = let none : length xs - n ≡ 0 = omega arith in rw none refl

-- ---- which channels the own nick was in

pub moved_was : (s t : Settings) (forgotten : List (List ℕ)) (p q : List ℕ → Bool) → ((k : List ℕ) → p k ≡ q k) → (h : Held) → moved s t forgotten p h ≡ moved s t forgotten q h
moved_was s t forgotten p q f h =
    ap (λ cs. holding h.nick [] (names_of (staying (goes forgotten h.names.ids) h.names.ids) [])
    (merged t.channel_size (added s t h.channels) (map (channel_moved s.channel_size t.channel_size (goes forgotten h.names.ids)) cs))
    (queries_moved s t (goes forgotten h.names.ids) h.queries))
    (filter_same (is_staying s t p) (is_staying s t q) (λ c. ap (λ b. not (is_in (fold_name c.target.name) s.channels) || (is_in (fold_name c.target.name) t.channels || b)) (f (fold_name c.target.name))) h.channels)

pub begun_was : (s t : Settings) (forgotten : List (List ℕ)) (p q : List ℕ → Bool) (term : ℕ) (client : Origin) (old : History TowerBody) (new : List TowerBody) → ((k : List ℕ) → p k ≡ q k)
    → BegunAnew s t forgotten p term client old new → BegunAnew s t forgotten q term client old new
begun_was s t forgotten p q term client old new f b = record {
  gone = b.gone;
  nobody = b.nobody;
  unjoined = b.unjoined;
  floors = b.floors;
  holding = b.holding ∙ moved_was s t forgotten p q f (held s (commands (plain old)));
  waits = b.waits;
  brought = b.brought;
  led = b.led;
}

-- ---- the same setup, and no name is forgotten

ids_stay : (xs : List (List ℕ)) → staying (goes [] xs) xs ≡ xs
ids_stay [] = refl
ids_stay (x ∷ xs) = ap (λ ys. x ∷ ys) (ids_stay xs)

staying_none : {A : Type 0} (gs : List Bool) → staying {A = A} gs [] ≡ []
staying_none [] = refl
staying_none (g ∷ gs) = refl

none_each : (f : List ℕ → ℕ) (count : ℕ) → for_each f count [] ≡ replicate count 0
none_each f zero = refl
none_each f (suc count) = ap (λ ns. 0 ∷ ns) (none_each f count)

seen_stay : (f : List ℕ → ℕ) (count : ℕ) (xs : List (List ℕ)) → filled count (staying (goes [] xs) (for_each f count xs)) ≡ for_each f count xs
seen_stay f zero xs = ap (filled 0) (staying_none (goes [] xs))
seen_stay f (suc count) [] = sym (none_each f (suc count))
seen_stay f (suc count) (x ∷ xs) = ap (λ ns. f x ∷ ns) (seen_stay f count xs)

size_by : (a n : ℕ) (b : Bool) → (n == a) ≡ b → (if b then a else n) ≡ n
size_by a n true e = let same : n ≡ a = grind (arith, nat_tests) in sym same
size_by a n false e = refl

size_stays : (a n : ℕ) → size_moved a a n ≡ n
size_stays a n = size_by a n (n == a) refl

fewer_none : (ns : List ℕ) → fewer 0 ns ≡ ns
fewer_none [] = refl
fewer_none (n ∷ ns) = let same : n - 0 ≡ n = omega arith in rw same (ap (λ ms. n ∷ ms) (fewer_none ns))

resized_same : (t : TargetLines) → length t.lines.lines ≤ t.lines.size → resized t.lines.size t ≡ t
resized_same t h = let none : length t.lines.lines - t.lines.size ≡ 0 = omega arith in rw none (ap (λ ns. target t.name t.lines ns) (fewer_none t.seen))

target_stays : (s : Settings) (h : List Command) (a : ℕ) (n : List ℕ) → target_moved a a (goes [] (ids s h)) (target_held s h n) ≡ target_held s h n
target_stays s h a n =
    let t : TargetLines = target_held s h n in
    ap (λ k. with_seen (goes [] (ids s h)) (resized k t)) (size_stays a t.lines.size)
    ∙ (ap (with_seen (goes [] (ids s h))) (resized_same t (kept_fits s h (fold_name n)))
    ∙ ap (λ ns. target t.name t.lines ns) (seen_stay _ id_limit (ids s h)))

targets_stay : (s : Settings) (h : List Command) (a : ℕ) (ns : List (List ℕ)) → map (target_moved a a (goes [] (ids s h))) (map (target_held s h) ns) ≡ map (target_held s h) ns
targets_stay s h a [] = refl
targets_stay s h a (n ∷ ns) = rw (target_stays s h a n) (ap (λ ts. target_held s h n ∷ ts) (targets_stay s h a ns))

channel_stays : (s : Settings) (h : List Command) (a : ℕ) (n : List ℕ) → joined s h (fold_name n) ≡ false → channel_moved a a (goes [] (ids s h)) (channel_held s h n) ≡ channel_held s h n
channel_stays s h a n e =
    ap (λ t. channel t false (channel_held s h n).detached) (target_stays s h a n) ∙ ap (λ j. channel (target_held s h n) j (channel_held s h n).detached) (sym e)

channels_stay : (s : Settings) (h : List Command) (a : ℕ) (ns : List (List ℕ)) → ((c : List ℕ) → joined s h c ≡ false) → map (channel_moved a a (goes [] (ids s h))) (map (channel_held s h) ns) ≡ map (channel_held s h) ns
channels_stay s h a [] f = refl
channels_stay s h a (n ∷ ns) f = rw (channel_stays s h a n (f (fold_name n))) (ap (λ cs. channel_held s h n ∷ cs) (channels_stay s h a ns f))

merged_none : (size : ℕ) (cs : List ChannelLines) → merged size [] cs ≡ cs
merged_none size [] = refl
merged_none size (c ∷ cs) = ap (λ ds. c ∷ ds) (merged_none size cs)

or_known : (a b : Bool) → (not a || (a || b)) ≡ true
or_known true b = refl
or_known false b = refl

or_true : (a b : Bool) → b ≡ true → (a || b) ≡ true
or_true true b e = refl
or_true false b e = e

in_all : (ns : List (List ℕ)) → list_all (λ n. is_in (fold_name n) ns) ns ≡ true
in_all [] = refl
in_all (n ∷ ns) =
    rw (own_key n) (all_more (λ m. is_in (fold_name m) ns) (λ m. is_in (fold_name m) (n ∷ ns)) (λ m e. or_true (at_key (fold_name m) n) (is_in (fold_name m) ns) e) ns (in_all ns))

none_added : (s : Settings) (cs : List ChannelLines) → added s s cs ≡ []
none_added s cs =
    filter_none (is_added s cs) s.channels
    (all_more (λ n. is_in (fold_name n) s.channels) (λ n. not (is_added s cs n)) (λ n e. rw e refl) s.channels (in_all s.channels))

holding_same : (n : List ℕ) (a b : List Origin) (x y : Names) (c d : List ChannelLines) (q r : List TargetLines) → a ≡ b → x ≡ y → c ≡ d → q ≡ r → holding n a x c q ≡ holding n b y d r
holding_same n a b x y c d q r e f g h = cc

-- if nobody is attached and no channel is joined, what is held stays the same
pub same_setup : (s : Settings) (was : List ℕ → Bool) (h : List Command) → attached s h ≡ [] → ((c : List ℕ) → joined s h c ≡ false) → moved s s [] was (held s h) ≡ held s h
same_setup s was h gone parted =
    let gs : List Bool = goes [] (ids s h) in
    let cs : List ChannelLines = map (channel_held s h) (channels s h) in
    let qs : List TargetLines = map (target_held s h) (queries s h) in
    let few : length qs ≤ s.most_queries = rw length-map (queries-fit s h) in
    holding_same _ [] (attached s h) (names_of (staying gs (ids s h)) []) _ (channels_moved s s gs was cs) cs (queries_moved s s gs qs) qs
    (sym gone)
    (rw (ids_stay (ids s h), gone) refl)
    (ap (λ ns. merged s.channel_size ns (map (channel_moved s.channel_size s.channel_size gs) (filter (is_staying s s was) cs))) (none_added s cs)
    ∙ (merged_none s.channel_size (map (channel_moved s.channel_size s.channel_size gs) (filter (is_staying s s was) cs))
    ∙ (ap (map (channel_moved s.channel_size s.channel_size gs)) (filter_all (is_staying s s was) (λ c. or_known (is_in (fold_name c.target.name) s.channels) (was (fold_name c.target.name))) cs)
    ∙ channels_stay s h s.channel_size (channels s h) parted)))
    (ap (map (target_moved s.query_size s.query_size gs)) (drop_none s.most_queries qs few) ∙ targets_stay s h s.query_size (queries s h))

-- The kept lines with their places: the places rise, and what a name has not seen comes after what it has seen.
use Rattle.std.proofs.Common.{◌≡◌, ℕ, zero, suc, ◌-◌, ◌<◌, ◌≤◌, Bool, true, false, not, ◌&&◌, List, [], ◌∷◌, ◌++◌, map, length, drop, refl, sym, ap, ◌∙◌, arith}
use Rattle.std.specs.Prelude.{Option, Some, None, if◌then◌else◌, nat_le, nat_lt, filter, option_map}
use Rattle.std.specs.List.{list_all}
use Rattle.std.proofs.lemmas.Bool.Decides.{nat_tests}
use Rattle.std.proofs.lemmas.List.{append-nil, map-append}
use Rattle.circular_buffer.specs.Buffer.{keep_last}
use Rattle.irc_line.specs.Names.{is_channel}
use Rattle.irc_line.specs.Lines.{Parts}
use Rattle.irc_line.proofs.Booleans.{and_left, and_right, or_true}
use Rattle.irc_line.proofs.SameBytes.{same_bytes-refl}
use Rattle.wire_bytes.specs.declared.origin.Origin.{Origin}
use Rattle.buffer_lines.specs.Keeping.{if_kept}
use Rattle.buffer_lines.proofs.Keeping.{kept-more, kept-nil}
use Rattle.buffer_commands.specs.Settings.{Settings}
use Rattle.buffer_commands.specs.declared.command.Action.TheVariants.{Attach}
use Rattle.buffer_commands.specs.declared.command.Command.{Command}
use Rattle.buffer_commands.specs.declared.command.Command.TheVariants.{Client}
use Rattle.buffer_machine.specs.Crowd.{holds, takes}
use Rattle.buffer_machine.specs.Buffers.{detached, emptied, is_known, kept, size, stored}
use Rattle.buffer_machine.specs.Marks.{mark, placed, seen, sees, stored_at, unseen}
use Rattle.buffer_machine.proofs.Kept.{kept-next, kept-none}

-- a kept line with its place
abbrev pub Placed : Type 0
Placed = ℕ × (ℕ × Parts)

pub placed-next : (s : Settings) (earlier : List Command) (x : Command) (t : List ℕ)
    → placed s (x ∷ earlier) t ≡ keep_last (size s t (x ∷ earlier)) ((if emptied s t earlier x then [] else placed s earlier t) ++ if_kept true (stored_at s t earlier x))
unfolding placed
placed-next s earlier x t = kept-more (stored_at s t) (emptied s t) (size s t) x earlier

pub placed-none : (s : Settings) (t : List ℕ) → placed s [] t ≡ []
unfolding placed
placed-none s t = kept-nil (stored_at s t) (emptied s t) (size s t) true

-- ---- without their places they are the kept lines

map_drop : {A B : Type 0} (f : A → B) (n : ℕ) (xs : List A) → map f (drop n xs) ≡ drop n (map f xs)
map_drop f zero xs = refl
map_drop f (suc n) [] = refl
map_drop f (suc n) (x ∷ xs) = map_drop f n xs

pub map_length : {A B : Type 0} (f : A → B) (xs : List A) → length (map f xs) ≡ length xs
map_length f [] = refl
map_length f (x ∷ xs) = ap suc (map_length f xs)

map_last : {A B : Type 0} (f : A → B) (n : ℕ) (xs : List A) → map f (keep_last n xs) ≡ keep_last n (map f xs)
map_last f n xs = rw (map_length f xs) (map_drop f (length xs - n) xs)

placed_one : (place : ℕ) (o : Option (ℕ × Parts)) → map (λ (k : Placed). k.1) (if_kept true (option_map (λ line. (place, line)) o)) ≡ if_kept true o
placed_one place None = refl
placed_one place (Some line) = refl

placed_front : (b : Bool) (xs : List Placed) → map (λ k. k.1) (if b then [] else xs) ≡ (if b then [] else map (λ k. k.1) xs)
placed_front true xs = refl
placed_front false xs = refl

pub kept-placed : (s : Settings) (history : List Command) (t : List ℕ) → map (λ k. k.1) (placed s history t) ≡ kept s history t
kept-placed s [] t = rw (placed-none s t, kept-none s t) refl
kept-placed s (x ∷ earlier) t =
    ap (map (λ (k : Placed). k.1)) (placed-next s earlier x t)
    ∙ (map_last (λ (k : Placed). k.1) (size s t (x ∷ earlier)) ((if emptied s t earlier x then [] else placed s earlier t) ++ if_kept true (stored_at s t earlier x))
    ∙ (ap (keep_last (size s t (x ∷ earlier))) (map-append (λ (k : Placed). k.1) (if emptied s t earlier x then [] else placed s earlier t) (if_kept true (stored_at s t earlier x))
    ∙ rw (placed_one (suc (length earlier)) (stored s t earlier x), placed_front (emptied s t earlier x) (placed s earlier t), kept-placed s earlier t) refl)
    ∙ sym (kept-next s earlier x t)))

-- ---- their places are at most the number of commands, and rise

-- all places are at most this one
abbrev pub are_within : ℕ → List Placed → Bool
are_within n ks = list_all (λ k. nat_le k.0 n) ks

within_drop : (n k : ℕ) (ks : List Placed) → are_within n ks ≡ true → are_within n (drop k ks) ≡ true
within_drop n zero ks e = e
within_drop n (suc k) [] e = refl
within_drop n (suc k) (x ∷ xs) e = within_drop n k xs (and_right _ _ e)

within_more : (m n : ℕ) (ks : List Placed) → m ≤ n → are_within m ks ≡ true → are_within n ks ≡ true
within_more m n [] h e = refl
within_more m n (x ∷ xs) h e =
    let first : nat_le x.0 m ≡ true = and_left _ _ e in
    let here : nat_le x.0 n ≡ true = grind (arith, nat_tests) in
    rw here (within_more m n xs h (and_right _ _ e))

within_append : (n : ℕ) (ks js : List Placed) → are_within n ks ≡ true → are_within n js ≡ true → are_within n (ks ++ js) ≡ true
within_append n [] js e f = f
within_append n (x ∷ xs) js e f =
    rw (and_left (nat_le x.0 n) (are_within n xs) e) (within_append n xs js (and_right (nat_le x.0 n) (are_within n xs) e) f)

within_one : (n : ℕ) (o : Option (ℕ × Parts)) → are_within n (if_kept true (option_map (λ line. (n, line)) o)) ≡ true
within_one n None = refl
within_one n (Some line) = let here : nat_le n n ≡ true = grind (arith, nat_tests) in rw here refl

within_front : (n : ℕ) (b : Bool) (ks : List Placed) → are_within n ks ≡ true → are_within n (if b then [] else ks) ≡ true
within_front n true ks e = refl
within_front n false ks e = e

pub places-within : (s : Settings) (history : List Command) (t : List ℕ) → are_within (length history) (placed s history t) ≡ true
places-within s [] t = rw (placed-none s t) refl
places-within s (x ∷ earlier) t =
    rw (placed-next s earlier x t)
    (within_drop (suc (length earlier)) _ ((if emptied s t earlier x then [] else placed s earlier t) ++ if_kept true (stored_at s t earlier x))
    (within_append (suc (length earlier)) (if emptied s t earlier x then [] else placed s earlier t) (if_kept true (stored_at s t earlier x))
    (within_front (suc (length earlier)) (emptied s t earlier x) (placed s earlier t) (within_more (length earlier) (suc (length earlier)) (placed s earlier t) (omega arith) (places-within s earlier t)))
    (within_one (suc (length earlier)) (stored s t earlier x))))

-- each place is at most those after it
abbrev pub do_rise : List Placed → Bool
do_rise [] = true
do_rise (k ∷ ks) = list_all (λ j. nat_le k.0 j.0) ks && do_rise ks

rise_drop : (n : ℕ) (ks : List Placed) → do_rise ks ≡ true → do_rise (drop n ks) ≡ true
rise_drop zero ks e = e
rise_drop (suc n) [] e = refl
rise_drop (suc n) (k ∷ ks) e = rise_drop n ks (and_right _ _ e)

above_append : (m : ℕ) (ks : List Placed) (j : Placed) → list_all (λ k. nat_le m k.0) ks ≡ true → m ≤ j.0 → list_all (λ k. nat_le m k.0) (ks ++ j ∷ []) ≡ true
above_append m [] j e h = let here : nat_le m j.0 ≡ true = grind (arith, nat_tests) in rw here refl
above_append m (k ∷ ks) j e h =
    rw (and_left (nat_le m k.0) (list_all (λ i. nat_le m i.0) ks) e) (above_append m ks j (and_right (nat_le m k.0) (list_all (λ i. nat_le m i.0) ks) e) h)

rise_push : (n : ℕ) (ks : List Placed) (j : Placed) → are_within n ks ≡ true → n ≤ j.0 → do_rise ks ≡ true → do_rise (ks ++ j ∷ []) ≡ true
rise_push n [] j w h e = refl
rise_push n (k ∷ ks) j w h e =
    let first : nat_le k.0 n ≡ true = and_left _ _ w in
    let low : k.0 ≤ j.0 = grind (arith, nat_tests) in
    rw (above_append k.0 ks j (and_left _ _ e) low) (rise_push n ks j (and_right _ _ w) h (and_right _ _ e))

rise_one : (n : ℕ) (ks : List Placed) (o : Option (ℕ × Parts)) → are_within n ks ≡ true → do_rise ks ≡ true → do_rise (ks ++ if_kept true (option_map (λ line. (suc n, line)) o)) ≡ true
rise_one n ks None w e = rw append-nil e
rise_one n ks (Some line) w e = rise_push n ks (suc n, line) w (omega arith) e

rise_front : (b : Bool) (ks : List Placed) → do_rise ks ≡ true → do_rise (if b then [] else ks) ≡ true
rise_front true ks e = refl
rise_front false ks e = e

pub places-rise : (s : Settings) (history : List Command) (t : List ℕ) → do_rise (placed s history t) ≡ true
places-rise s [] t = rw (placed-none s t) refl
places-rise s (x ∷ earlier) t =
    rw (placed-next s earlier x t)
    (rise_drop _ ((if emptied s t earlier x then [] else placed s earlier t) ++ if_kept true (stored_at s t earlier x))
    (rise_one (length earlier) (if emptied s t earlier x then [] else placed s earlier t) (stored s t earlier x)
    (within_front (length earlier) (emptied s t earlier x) (placed s earlier t) (places-within s earlier t))
    (rise_front (emptied s t earlier x) (placed s earlier t) (places-rise s earlier t))))

-- ---- the lines above a place come after those that are not

pub all_above : (m n : ℕ) (ks : List Placed) → nat_lt m n ≡ true → list_all (λ j. nat_le n j.0) ks ≡ true → filter (λ k. nat_lt m k.0) ks ≡ ks
all_above m n [] h e = refl
all_above m n (k ∷ ks) h e =
    let first : nat_le n k.0 ≡ true = and_left _ _ e in
    let here : nat_lt m k.0 ≡ true = grind (arith, nat_tests) in
    rw here (ap (λ xs. k ∷ xs) (all_above m n ks h (and_right _ _ e)))

none_below : (m n : ℕ) (ks : List Placed) → nat_lt m n ≡ true → list_all (λ j. nat_le n j.0) ks ≡ true → filter (λ k. not (nat_lt m k.0)) ks ≡ []
none_below m n [] h e = refl
none_below m n (k ∷ ks) h e =
    let first : nat_le n k.0 ≡ true = and_left _ _ e in
    let here : nat_lt m k.0 ≡ true = grind (arith, nat_tests) in
    rw here (none_below m n ks h (and_right _ _ e))

split_by : (m : ℕ) (k : Placed) (ks : List Placed) (b : Bool) → nat_lt m k.0 ≡ b → list_all (λ j. nat_le k.0 j.0) ks ≡ true → filter (λ x. nat_lt m x.0) ks ≡ drop (length (filter (λ x. not (nat_lt m x.0)) ks)) ks
    → (if b then k ∷ filter (λ x. nat_lt m x.0) ks else filter (λ x. nat_lt m x.0) ks) ≡ drop (length (if not b then k ∷ filter (λ x. not (nat_lt m x.0)) ks else filter (λ x. not (nat_lt m x.0)) ks)) (k ∷ ks)
split_by m k ks true h e f = rw (all_above m k.0 ks h e, none_below m k.0 ks h e) refl
split_by m k ks false h e f = f

pub above_is_behind : (m : ℕ) (ks : List Placed) → do_rise ks ≡ true → filter (λ k. nat_lt m k.0) ks ≡ drop (length (filter (λ k. not (nat_lt m k.0)) ks)) ks
above_is_behind m [] e = refl
above_is_behind m (k ∷ ks) e = split_by m k ks (nat_lt m k.0) refl (and_left _ _ e) (above_is_behind m ks (and_right _ _ e))

-- what a name has not seen is what follows the lines that it has seen
pub unseen_behind : (s : Settings) (history : List Command) (id t : List ℕ) → unseen s history id t ≡ drop (seen s history id t) (kept s history t)
unfolding unseen seen
unseen_behind s history id t =
    ap (map (λ (k : Placed). k.1)) (above_is_behind (mark s id t history) (placed s history t) (places-rise s history t))
    ∙ (map_drop (λ (k : Placed). k.1) (length (filter (λ k. not (nat_lt (mark s id t history) k.0)) (placed s history t))) (placed s history t)
    ∙ ap (drop (length (filter (λ k. not (nat_lt (mark s id t history) k.0)) (placed s history t)))) (kept-placed s history t))

-- ---- who was there

none_above : (n : ℕ) (ks : List Placed) → are_within n ks ≡ true → filter (λ k. nat_lt n k.0) ks ≡ []
none_above n [] e = refl
none_above n (k ∷ ks) e =
    let first : nat_le k.0 n ≡ true = and_left _ _ e in
    let here : nat_lt n k.0 ≡ false = grind (arith, nat_tests) in
    rw here (none_above n ks (and_right _ _ e))

pub mark-seen : (s : Settings) (earlier : List Command) (id t : List ℕ) (x : Command) → sees s earlier id t x ≡ true → mark s id t (x ∷ earlier) ≡ suc (length earlier)
unfolding mark
mark-seen s earlier id t x e = rw e refl

-- a name that sees a target at a command has nothing left to see in it after that
pub seen-all : (s : Settings) (earlier : List Command) (x : Command) (id t : List ℕ) → sees s earlier id t x ≡ true → unseen s (x ∷ earlier) id t ≡ []
unfolding unseen
seen-all s earlier x id t e =
    rw (mark-seen s earlier id t x e, none_above (suc (length earlier)) (placed s (x ∷ earlier) t) (places-within s (x ∷ earlier) t)) refl

pub there : (s : Settings) (earlier : List Command) (x : Command) (id t : List ℕ) → holds s earlier id ≡ true → (is_channel t && detached s earlier t) ≡ false → sees s earlier id t x ≡ true
unfolding sees
there s earlier x id t h d = rw (h, d) refl

pub was_there : (s : Settings) (earlier : List Command) (x : Command) (id t : List ℕ) → holds s earlier id ≡ true → (is_channel t && detached s earlier t) ≡ false → unseen s (x ∷ earlier) id t ≡ []
was_there s earlier x id t h d = seen-all s earlier x id t (there s earlier x id t h d)

pub comes : (s : Settings) (earlier : List Command) (o : Origin) (at : ℕ) (id t : List ℕ) → takes s earlier (Client o at (Attach (Some id))) ≡ true → is_known s earlier t ≡ true → (is_channel t && detached s earlier t) ≡ false → sees s earlier id t (Client o at (Attach (Some id))) ≡ true
unfolding sees
comes s earlier o at id t h k d = rw (d, h, k, same_bytes-refl id) (or_true (holds s earlier id && true))

-- a name by which a client attaches has seen all that there is at that time
pub comes_now : (s : Settings) (earlier : List Command) (o : Origin) (at : ℕ) (id t : List ℕ) → takes s earlier (Client o at (Attach (Some id))) ≡ true → is_known s earlier t ≡ true → (is_channel t && detached s earlier t) ≡ false → unseen s (Client o at (Attach (Some id)) ∷ earlier) id t ≡ []
comes_now s earlier o at id t h k d = seen-all s earlier (Client o at (Attach (Some id))) id t (comes s earlier o at id t h k d)

-- ---- how many a name has seen after one more command

pub mark-more : (s : Settings) (id t : List ℕ) (x : Command) (earlier : List Command) → mark s id t (x ∷ earlier) ≡ (if sees s earlier id t x then suc (length earlier) else mark s id t earlier)
unfolding mark
mark-more s id t x earlier = refl

pub mark-begin : (s : Settings) (id t : List ℕ) → mark s id t [] ≡ 0
unfolding mark
mark-begin s id t = refl

mark-low_by : (b : Bool) (n m : ℕ) → m ≤ n → (if b then suc n else m) ≤ suc n
mark-low_by true n m h = omega arith
mark-low_by false n m h = omega (arith, h)

-- a mark is at most the number of commands
pub mark-low : (s : Settings) (history : List Command) (id t : List ℕ) → mark s id t history ≤ length history
mark-low s [] id t = rw (mark-begin s id t) (omega arith)
mark-low s (x ∷ earlier) id t = rw (mark-more s id t x earlier) (mark-low_by (sees s earlier id t x) (length earlier) (mark s id t earlier) (mark-low s earlier id t))

-- the lines that are not above a place
abbrev pub low : ℕ → List Placed → List Placed
low m ks = filter (λ k. not (nat_lt m k.0)) ks

low_drop_by : (m n : ℕ) (k : Placed) (ks : List Placed) (b : Bool) → nat_lt m k.0 ≡ b → list_all (λ j. nat_le k.0 j.0) ks ≡ true → length (low m (drop n ks)) ≡ length (low m ks) - n
    → length (low m (drop n ks)) ≡ length (if not b then k ∷ low m ks else low m ks) - suc n
low_drop_by m n k ks true h e ih =
    let none : low m ks ≡ [] = none_below m k.0 ks h e in
    let zero_less : 0 - n ≡ 0 = omega arith in
    let zero_less_one : 0 - suc n ≡ 0 = omega arith in
    ih ∙ rw (none, zero_less, zero_less_one) refl
low_drop_by m n k ks false h e ih =
    let less : suc (length (low m ks)) - suc n ≡ length (low m ks) - n = omega arith in
    ih ∙ sym less

-- where the first lines go, there are that many fewer low ones
pub low_drop : (m n : ℕ) (ks : List Placed) → do_rise ks ≡ true → length (low m (drop n ks)) ≡ length (low m ks) - n
low_drop m zero ks e = let less : length (low m ks) - 0 ≡ length (low m ks) = omega arith in sym less
low_drop m (suc n) [] e = let less : 0 - suc n ≡ 0 = omega arith in sym less
low_drop m (suc n) (k ∷ ks) e =
    low_drop_by m n k ks (nat_lt m k.0) refl (and_left (list_all (λ j. nat_le k.0 j.0) ks) (do_rise ks) e) (low_drop m n ks (and_right (list_all (λ j. nat_le k.0 j.0) ks) (do_rise ks) e))

-- a line above the place changes nothing
low_push : (m n : ℕ) (ks : List Placed) (o : Option (ℕ × Parts)) → m < n → low m (ks ++ if_kept true (option_map (λ line. (n, line)) o)) ≡ low m ks
low_push m n [] None h = refl
low_push m n [] (Some line) h = let above : nat_lt m n ≡ true = grind (arith, nat_tests) in rw above refl
low_push m n (k ∷ ks) o h = ap (λ xs. if not (nat_lt m k.0) then k ∷ xs else xs) (low_push m n ks o h)

low_front : (m : ℕ) (b : Bool) (ks : List Placed) → length (low m (if b then [] else ks)) ≡ (if b then 0 else length (low m ks))
low_front m true ks = refl
low_front m false ks = refl

-- a name has seen fewer lines by those that were dropped, unless it sees the target at the command
pub seen-next : (s : Settings) (earlier : List Command) (x : Command) (id t : List ℕ) → sees s earlier id t x ≡ false
    → seen s (x ∷ earlier) id t
    ≡ (if emptied s t earlier x then 0 else seen s earlier id t) - (length ((if emptied s t earlier x then [] else placed s earlier t) ++ if_kept true (stored_at s t earlier x)) - size s t (x ∷ earlier))
unfolding seen
seen-next s earlier x id t e =
    let mark_stays : mark s id t (x ∷ earlier) ≡ mark s id t earlier = mark-more s id t x earlier ∙ ap (λ b. if b then suc (length earlier) else mark s id t earlier) e in
    let all_rise : do_rise ((if emptied s t earlier x then [] else placed s earlier t) ++ if_kept true (stored_at s t earlier x)) ≡ true =
    rise_one (length earlier) (if emptied s t earlier x then [] else placed s earlier t) (stored s t earlier x)
    (within_front (length earlier) (emptied s t earlier x) (placed s earlier t) (places-within s earlier t))
    (rise_front (emptied s t earlier x) (placed s earlier t) (places-rise s earlier t)) in
    let above : mark s id t earlier < suc (length earlier) = omega (arith, mark-low s earlier id t) in
    rw (mark_stays, placed-next s earlier x t)
    (low_drop (mark s id t earlier) _ ((if emptied s t earlier x then [] else placed s earlier t) ++ if_kept true (stored_at s t earlier x)) all_rise
    ∙ rw (low_push (mark s id t earlier) (suc (length earlier)) (if emptied s t earlier x then [] else placed s earlier t) (stored s t earlier x) above, low_front (mark s id t earlier) (emptied s t earlier x) (placed s earlier t)) refl)

-- How many lines of a target each name has seen, after one more command.
use Rattle.std.proofs.Common.{◌≡◌, ℕ, zero, suc, ◌-◌, ◌≤◌, Bool, true, false, not, ◌&&◌, List, [], ◌∷◌, ◌++◌, length, drop, refl, sym, ap, arith, ◌∙◌}
use Rattle.std.specs.Prelude.{Option, Some, None, if◌then◌else◌, nat_le, nat_lt, option_map}
use Rattle.std.specs.List.{list_all, list_any}
use Rattle.std.proofs.lemmas.Bool.Decides.{nat_tests}
use Rattle.std.proofs.lemmas.List.{length-append}
use Rattle.irc_line.specs.Names.{is_channel, same_bytes}
use Rattle.irc_line.specs.Lines.{Parts}
use Rattle.irc_line.proofs.Booleans.{and_left, and_right, false_of}
use Rattle.irc_line.proofs.SameBytes.{same_bytes-eq}
use Rattle.buffer_lines.specs.Keeping.{if_kept}
use Rattle.wire_bytes.specs.declared.origin.Origin.{Origin}
use Rattle.buffer_commands.specs.Settings.{Settings}
use Rattle.buffer_commands.specs.declared.command.Action.TheVariants.{Attach, Leave, Say, Join, Part, Detach, Reattach, Play, Clear, ClearChannels, ClearQueries, ClearAll, SetBuffer, Pass}
use Rattle.buffer_commands.specs.declared.command.Command.{Command}
use Rattle.buffer_commands.specs.declared.command.Command.TheVariants.{Client, Upstream, NodeGone, Up, Down}
use Rattle.buffer_machine.specs.Crowd.{attached, holds, id_of, ids, ids_after, is_id, is_id_in, takes, with_id}
use Rattle.buffer_machine.specs.Buffers.{detached, emptied, is_known, kept, plays, size, stored}
use Rattle.buffer_machine.specs.Marks.{is_shown_to, mark, placed, seen, sees, stored_at}
use Rattle.buffer_machine.specs.Held.{for_each, seen_held}
use Rattle.buffer_machine.proofs.NamesStep.{given_in, has_id, id_known}
use Rattle.buffer_machine.proofs.Placing.{Placed, are_within, kept-placed, low, map_length, mark-begin, mark-more, mark-seen, placed-next, placed-none, places-within, seen-next}
use Rattle.buffer_machine.proofs.Standings.{for_more}
use Rattle.buffer_machine.proofs.Unnamed.{ids-more}
use Rattle.buffer_machine.proofs.NameCount.{id_stays}

-- ---- no more than is kept

pub placed_length : (s : Settings) (h : List Command) (t : List ℕ) → length (placed s h t) ≡ length (kept s h t)
placed_length s h t = sym (map_length (λ (k : Placed). k.1) (placed s h t)) ∙ ap length (kept-placed s h t)

fits_by : (b : Bool) (m n : ℕ) → m ≤ n → (if b then suc m else m) ≤ suc n
fits_by true m n h = omega (arith, h)
fits_by false m n h = omega (arith, h)

length_if : {A : Type 0} (b : Bool) (x : A) (xs : List A) → length (if b then x ∷ xs else xs) ≡ (if b then suc (length xs) else length xs)
length_if true x xs = refl
length_if false x xs = refl

low_fits : (m : ℕ) (ks : List Placed) → length (low m ks) ≤ length ks
low_fits m [] = omega arith
low_fits m (k ∷ ks) = rw (length_if (not (nat_lt m k.0)) k (low m ks)) (fits_by (not (nat_lt m k.0)) (length (low m ks)) (length ks) (low_fits m ks))

-- a name has seen no more than is kept
pub seen_fits : (s : Settings) (h : List Command) (id t : List ℕ) → seen s h id t ≤ length (kept s h t)
unfolding seen
seen_fits s h id t = rw (← placed_length s h t) (low_fits (mark s id t h) (placed s h t))

-- if nothing is kept it has seen nothing
pub seen_nothing : (s : Settings) (h : List Command) (id t : List ℕ) → kept s h t ≡ [] → seen s h id t ≡ 0
seen_nothing s h id t e =
    let fit = seen_fits s h id t in
    let none : length (kept s h t) ≡ 0 = ap length e in
    omega (arith, fit, none)

-- ---- after one more command

all_low : (n : ℕ) (ks : List Placed) → are_within n ks ≡ true → low n ks ≡ ks
all_low n [] e = refl
all_low n (k ∷ ks) e =
    let first : nat_le k.0 n ≡ true = and_left _ _ e in
    let here : nat_lt n k.0 ≡ false = grind (arith, nat_tests) in
    rw here (ap (λ xs. k ∷ xs) (all_low n ks (and_right _ _ e)))

pub seen_when : (s : Settings) (earlier : List Command) (x : Command) (id t : List ℕ) → sees s earlier id t x ≡ true → seen s (x ∷ earlier) id t ≡ length (kept s (x ∷ earlier) t)
unfolding seen
seen_when s earlier x id t e =
    rw (mark-seen s earlier id t x e) (ap length (all_low (suc (length earlier)) (placed s (x ∷ earlier) t) (places-within s (x ∷ earlier) t)) ∙ placed_length s (x ∷ earlier) t)

front_length : {A B : Type 0} (b : Bool) (xs : List A) (ys : List B) → length xs ≡ length ys → length (if b then [] else xs) ≡ length (if b then [] else ys)
front_length true xs ys e = refl
front_length false xs ys e = e

one_length : (n : ℕ) (o : Option (ℕ × Parts)) → length {A = Placed} (if_kept true (option_map (λ line. (n, line)) o)) ≡ length {A = ℕ × Parts} (if_kept true o)
one_length n None = refl
one_length n (Some line) = refl

-- the lines that there are once the newest has come
abbrev pub grown_lines : Bool → List (ℕ × Parts) → Option (ℕ × Parts) → List (ℕ × Parts)
grown_lines e ks o = (if e then [] else ks) ++ if_kept true o

grown_length : (s : Settings) (earlier : List Command) (x : Command) (t : List ℕ)
    → length ((if emptied s t earlier x then [] else placed s earlier t) ++ if_kept true (stored_at s t earlier x)) ≡ length (grown_lines (emptied s t earlier x) (kept s earlier t) (stored s t earlier x))
grown_length s earlier x t =
    rw (
      length-append (if emptied s t earlier x then [] else placed s earlier t) (if_kept true (stored_at s t earlier x)),
      length-append (if emptied s t earlier x then [] else kept s earlier t) (if_kept true (stored s t earlier x)),
      front_length (emptied s t earlier x) (placed s earlier t) (kept s earlier t) (placed_length s earlier t),
      one_length (suc (length earlier)) (stored s t earlier x),
    ) refl

seen_by : (s : Settings) (earlier : List Command) (x : Command) (id t : List ℕ) (b : Bool) → sees s earlier id t x ≡ b
    → seen s (x ∷ earlier) id t
    ≡ (if b then length (kept s (x ∷ earlier) t)
    else (if emptied s t earlier x then 0 else seen s earlier id t) - (length (grown_lines (emptied s t earlier x) (kept s earlier t) (stored s t earlier x)) - size s t (x ∷ earlier)))
seen_by s earlier x id t true e = seen_when s earlier x id t e
seen_by s earlier x id t false e =
    seen-next s earlier x id t e ∙ ap (λ n. (if emptied s t earlier x then 0 else seen s earlier id t) - (n - size s t (x ∷ earlier))) (grown_length s earlier x t)

pub seen-more : (s : Settings) (earlier : List Command) (x : Command) (id t : List ℕ)
    → seen s (x ∷ earlier) id t
    ≡ (if sees s earlier id t x then length (kept s (x ∷ earlier) t)
    else (if emptied s t earlier x then 0 else seen s earlier id t) - (length (grown_lines (emptied s t earlier x) (kept s earlier t) (stored s t earlier x)) - size s t (x ∷ earlier)))
seen-more s earlier x id t = seen_by s earlier x id t (sees s earlier id t x) refl

-- ---- an unknown name has seen nothing

abbrev are_above : List Placed → Bool
are_above ks = list_all (λ k. nat_lt 0 k.0) ks

above_drop : (n : ℕ) (ks : List Placed) → are_above ks ≡ true → are_above (drop n ks) ≡ true
above_drop zero ks e = e
above_drop (suc n) [] e = refl
above_drop (suc n) (k ∷ ks) e = above_drop n ks (and_right _ _ e)

above_one : (n : ℕ) (ks : List Placed) (o : Option (ℕ × Parts)) → are_above ks ≡ true → are_above (ks ++ if_kept true (option_map (λ line. (suc n, line)) o)) ≡ true
above_one n [] None e = refl
above_one n [] (Some line) e = let up : nat_lt 0 (suc n) ≡ true = grind (arith, nat_tests) in rw up refl
above_one n (k ∷ ks) o e = rw (and_left (nat_lt 0 k.0) (are_above ks) e) (above_one n ks o (and_right (nat_lt 0 k.0) (are_above ks) e))

above_front : (b : Bool) (ks : List Placed) → are_above ks ≡ true → are_above (if b then [] else ks) ≡ true
above_front true ks e = refl
above_front false ks e = e

places-above : (s : Settings) (h : List Command) (t : List ℕ) → are_above (placed s h t) ≡ true
places-above s [] t = rw (placed-none s t) refl
places-above s (x ∷ earlier) t =
    rw (placed-next s earlier x t)
    (above_drop _ ((if emptied s t earlier x then [] else placed s earlier t) ++ if_kept true (stored_at s t earlier x))
    (above_one (length earlier) (if emptied s t earlier x then [] else placed s earlier t) (stored s t earlier x) (above_front (emptied s t earlier x) (placed s earlier t) (places-above s earlier t))))

none_low : (ks : List Placed) → are_above ks ≡ true → low 0 ks ≡ []
none_low [] e = refl
none_low (k ∷ ks) e = rw (and_left (nat_lt 0 k.0) (are_above ks) e) (none_low ks (and_right (nat_lt 0 k.0) (are_above ks) e))

seen_of_none : (s : Settings) (h : List Command) (id t : List ℕ) → mark s id t h ≡ 0 → seen s h id t ≡ 0
unfolding seen
seen_of_none s h id t e = rw e (ap length (none_low (placed s h t) (places-above s h t)))

-- an unknown name belongs to nobody
not_its : (id : List ℕ) (ids : List (List ℕ)) (n : Option (List ℕ)) → is_id_in id ids ≡ false → has_id ids n ≡ true → is_id id n ≡ false
not_its id ids None e f = refl
not_its id ids (Some j) e f = false_of (same_bytes id j) (λ g. sym e ∙ (ap (λ k. is_id_in k ids) (same_bytes-eq id j g) ∙ f))

none_its : (id : List ℕ) (ids : List (List ℕ)) (g : Origin → Option (List ℕ)) → is_id_in id ids ≡ false → ((o : Origin) → has_id ids (g o) ≡ true) → (os : List Origin) → list_any (λ o. is_id id (g o)) os ≡ false
none_its id ids g e h [] = refl
none_its id ids g e h (o ∷ os) = rw (not_its id ids (g o) e (h o)) (none_its id ids g e h os)

no_holder : (s : Settings) (h : List Command) (id : List ℕ) → is_id_in id (ids s h) ≡ false → holds s h id ≡ false
unfolding holds
no_holder s h id e = none_its id (ids s h) (id_of s h) e (id_known s h) (attached s h)

and_none : (b c : Bool) → c ≡ false → (b && c) ≡ false
and_none true c e = e
and_none false c e = refl

-- a name that is still unknown after a command is shown nothing by it
not_shown : (s : Settings) (earlier : List Command) (id t : List ℕ) (x : Command) (hidden known : Bool) → is_id_in id (ids s earlier) ≡ false → is_id_in id (ids_after (takes s earlier x) (ids s earlier) x) ≡ false
    → (plays (takes s earlier x) (attached s earlier) hidden t known x && is_shown_to id (holds s earlier id) (id_of s earlier) x) ≡ false
not_shown s earlier id t (Client o at (Attach None)) hidden known e f = and_none _ false refl
not_shown s earlier id t (Client o at (Attach (Some given))) hidden known e f = attach_by (takes s earlier (Client o at (Attach (Some given)))) f
  where
    attach_by : (taken : Bool) → is_id_in id (if taken then with_id (Some given) (ids s earlier) else ids s earlier) ≡ false → ((taken && known && not hidden) && same_bytes id given) ≡ false
    attach_by true g = and_none (known && not hidden) (same_bytes id given) (false_of (same_bytes id given) (λ i. sym g ∙ (ap (λ k. is_id_in k (with_id (Some given) (ids s earlier))) (same_bytes-eq id given i) ∙ given_in given (ids s earlier))))
    attach_by false g = refl
not_shown s earlier id t (Client o at (Play u)) hidden known e f = and_none _ (is_id id (id_of s earlier o)) (not_its id (ids s earlier) (id_of s earlier o) e (id_known s earlier o))
not_shown s earlier id t (Client o at (Reattach c)) hidden known e f = and_none _ (holds s earlier id) (no_holder s earlier id e)
not_shown s earlier id t (Client o at (Join c)) hidden known e f = and_none _ (holds s earlier id) (no_holder s earlier id e)
not_shown s earlier id t (Client o at Leave) hidden known e f = refl
not_shown s earlier id t (Client o at (Say verb name text)) hidden known e f = refl
not_shown s earlier id t (Client o at (Part c)) hidden known e f = refl
not_shown s earlier id t (Client o at (Detach c)) hidden known e f = refl
not_shown s earlier id t (Client o at (Clear u)) hidden known e f = refl
not_shown s earlier id t (Client o at ClearChannels) hidden known e f = refl
not_shown s earlier id t (Client o at ClearQueries) hidden known e f = refl
not_shown s earlier id t (Client o at ClearAll) hidden known e f = refl
not_shown s earlier id t (Client o at (SetBuffer u n)) hidden known e f = refl
not_shown s earlier id t (Client o at (Pass line)) hidden known e f = refl
not_shown s earlier id t (Upstream at line) hidden known e f = refl
not_shown s earlier id t (NodeGone node boot) hidden known e f = refl
not_shown s earlier id t Up hidden known e f = refl
not_shown s earlier id t Down hidden known e f = refl

no_sight : (s : Settings) (earlier : List Command) (id t : List ℕ) (x : Command) → is_id_in id (ids s earlier) ≡ false → is_id_in id (ids s (x ∷ earlier)) ≡ false → sees s earlier id t x ≡ false
unfolding sees
no_sight s earlier id t x e f =
    rw (not_shown s earlier id t x (is_channel t && detached s earlier t) (is_known s earlier t) e (ap (is_id_in id) (sym (ids-more s x earlier)) ∙ f), no_holder s earlier id e) refl

not_before : (s : Settings) (x : Command) (earlier : List Command) (id : List ℕ) → is_id_in id (ids s (x ∷ earlier)) ≡ false → is_id_in id (ids s earlier) ≡ false
not_before s x earlier id e = false_of (is_id_in id (ids s earlier)) (λ i. sym e ∙ id_stays s x earlier id i)

mark_of_none : (s : Settings) (h : List Command) (id t : List ℕ) → is_id_in id (ids s h) ≡ false → mark s id t h ≡ 0
mark_of_none s [] id t e = mark-begin s id t
mark_of_none s (x ∷ earlier) id t e =
    mark-more s id t x earlier
    ∙ (ap (λ b. if b then suc (length earlier) else mark s id t earlier) (no_sight s earlier id t x (not_before s x earlier id e) e)
    ∙ mark_of_none s earlier id t (not_before s x earlier id e))

-- an unknown name has seen nothing
pub seen_unknown : (s : Settings) (h : List Command) (id t : List ℕ) → is_id_in id (ids s h) ≡ false → seen s h id t ≡ 0
seen_unknown s h id t e = seen_of_none s h id t (mark_of_none s h id t e)

-- ---- the names that a command adds

abbrev told : Settings → List Command → List ℕ → List (List ℕ) → List ℕ
told s h t is = for_each (λ id. seen s h id t) 64 is

grown_by : (s : Settings) (earlier : List Command) (t : List ℕ) (given : List ℕ) (b : Bool) → is_id_in given (ids s earlier) ≡ b → told s earlier t (ids s earlier) ≡ told s earlier t (if b then ids s earlier else ids s earlier ++ given ∷ [])
grown_by s earlier t given true e = refl
grown_by s earlier t given false e = sym (for_more (λ id. seen s earlier id t) given (seen_unknown s earlier given t e) 64 (ids s earlier))

grown_after : (s : Settings) (earlier : List Command) (t : List ℕ) (taken : Bool) (x : Command) → told s earlier t (ids s earlier) ≡ told s earlier t (ids_after taken (ids s earlier) x)
grown_after s earlier t true (Client o at (Attach None)) = refl
grown_after s earlier t true (Client o at (Attach (Some given))) = grown_by s earlier t given (is_id_in given (ids s earlier)) refl
grown_after s earlier t false (Client o at (Attach given)) = refl
grown_after s earlier t taken (Client o at Leave) = refl
grown_after s earlier t taken (Client o at (Say verb name text)) = refl
grown_after s earlier t taken (Client o at (Join c)) = refl
grown_after s earlier t taken (Client o at (Part c)) = refl
grown_after s earlier t taken (Client o at (Detach c)) = refl
grown_after s earlier t taken (Client o at (Reattach c)) = refl
grown_after s earlier t taken (Client o at (Play u)) = refl
grown_after s earlier t taken (Client o at (Clear u)) = refl
grown_after s earlier t taken (Client o at ClearChannels) = refl
grown_after s earlier t taken (Client o at ClearQueries) = refl
grown_after s earlier t taken (Client o at ClearAll) = refl
grown_after s earlier t taken (Client o at (SetBuffer u n)) = refl
grown_after s earlier t taken (Client o at (Pass line)) = refl
grown_after s earlier t taken (Upstream at line) = refl
grown_after s earlier t taken (NodeGone node boot) = refl
grown_after s earlier t taken Up = refl
grown_after s earlier t taken Down = refl

-- the list for the names before a command is also that for the names known after it
pub told_more : (s : Settings) (earlier : List Command) (x : Command) (t : List ℕ) → seen_held s earlier t ≡ told s earlier t (ids s (x ∷ earlier))
told_more s earlier x t = grown_after s earlier t (takes s earlier x) x ∙ ap (told s earlier t) (sym (ids-more s x earlier))

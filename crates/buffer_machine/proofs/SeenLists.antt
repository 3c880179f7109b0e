-- How much each name has seen after each kind of change of a target.
use Rattle.std.proofs.Common.{◌≡◌, ℕ, suc, ◌-◌, ◌+◌, Bool, true, false, not, ◌&&◌, ◌||◌, List, [], ◌∷◌, ◌++◌, map, length, refl, sym, ap, arith, ◌∙◌, length-drop}
use Rattle.std.specs.Prelude.{Option, Some, None, if◌then◌else◌}
use Rattle.std.proofs.lemmas.List.{append-nil, length-append}
use Rattle.circular_buffer.specs.Buffer.{keep_last}
use Rattle.irc_line.specs.Names.{is_channel, same_bytes}
use Rattle.irc_line.specs.Lines.{Parts}
use Rattle.irc_line.proofs.Booleans.{and_left, and_right, not_true, or_true, or_false}
use Rattle.buffer_lines.proofs.Keeping.{keep_last-nil}
use Rattle.buffer_targets.specs.Targets.{counted, fewer, none_seen}
use Rattle.wire_bytes.specs.declared.origin.Origin.{Origin}
use Rattle.buffer_commands.specs.Settings.{Settings}
use Rattle.buffer_commands.specs.declared.command.Action.TheVariants.{Attach, Play}
use Rattle.buffer_commands.specs.declared.command.Command.{Command}
use Rattle.buffer_commands.specs.declared.command.Command.TheVariants.{Client}
use Rattle.buffer_machine.specs.Messages.{is_among}
use Rattle.buffer_machine.specs.Crowd.{attached, holds, id_of, ids, is_id, is_id_in, takes, with_id}
use Rattle.buffer_machine.specs.Buffers.{detached, emptied, is_known, kept, plays, size, stored}
use Rattle.buffer_machine.specs.Marks.{is_shown_to, seen, sees}
use Rattle.buffer_machine.specs.Held.{IsSound, for_each, index_in, names_held, seen_held}
use Rattle.buffer_machine.specs.Steps.{reader_at, reader_named, reader_of}
use Rattle.buffer_machine.specs.NameSteps.{here_of, index_of}
use Rattle.buffer_machine.proofs.Holders.{index_found, place}
use Rattle.buffer_machine.proofs.Kept.{kept-next, kept_fits, next-quiet}
use Rattle.buffer_machine.proofs.NamesStep.{given_in, has_id, here-is, id_known, ids_differ}
use Rattle.buffer_machine.proofs.Readers.{index_new, index_pushed}
use Rattle.buffer_machine.proofs.SeenKept.{here_all}
use Rattle.buffer_machine.proofs.SeenStep.{seen-more, seen_nothing, seen_when, told_more}
use Rattle.buffer_machine.proofs.Standings.{are_new, counted_here, counted_reader, for_fewer, for_same, for_zero, same_bytes-sym}
use Rattle.buffer_machine.proofs.Unnamed.{ids-more}

-- if nothing is kept, nothing is seen
pub nothing_list : (s : Settings) (h : List Command) (t : List ℕ) → kept s h t ≡ [] → none_seen ≡ seen_held s h t
nothing_list s h t e = sym (for_zero (λ id. seen s h id t) (λ id. seen_nothing s h id t e) 64 (ids s h))

abbrev hidden : Settings → List Command → List ℕ → Bool
hidden s h t = is_channel t && detached s h t

-- whether a command plays a target
abbrev pub plays_now : Settings → List Command → List ℕ → Command → Bool
plays_now s earlier t x = plays (takes s earlier x) (attached s earlier) (is_channel t && detached s earlier t) t (is_known s earlier t) x

-- whether what it plays is shown to a name
abbrev pub shown_now : Settings → List Command → Command → List ℕ → Bool
shown_now s earlier x id = is_shown_to id (holds s earlier id) (id_of s earlier) x

sees-is : (s : Settings) (earlier : List Command) (id t : List ℕ) (x : Command) → sees s earlier id t x ≡ ((holds s earlier id && not (hidden s earlier t)) || (plays_now s earlier t x && shown_now s earlier x id))
unfolding sees
sees-is s earlier id t x = refl

all_here : (s : Settings) → IsSound s → (h : List Command) (id t : List ℕ) → (holds s h id && not (hidden s h t)) ≡ true → seen s h id t ≡ length (kept s h t)
all_here s sound h id t e = here_all s sound h id t (and_left (holds s h id) (not (hidden s h t)) e) (not_true (hidden s h t) (and_right (holds s h id) (not (hidden s h t)) e))

-- ---- where no line comes and none goes

kept_same : (s : Settings) (earlier : List Command) (x : Command) (t : List ℕ) → emptied s t earlier x ≡ false → stored s t earlier x ≡ None → size s t (x ∷ earlier) ≡ size s t earlier → kept s (x ∷ earlier) t ≡ kept s earlier t
kept_same s earlier x t e o n = kept-next s earlier x t ∙ rw (e, o, n) (next-quiet (size s t earlier) (kept s earlier t) (kept_fits s earlier t))

less_nothing : (n : ℕ) → n - 0 ≡ n
less_nothing n = omega arith

played_by : (s : Settings) → IsSound s → (earlier : List Command) (x : Command) (t id : List ℕ) (a p : Bool) → emptied s t earlier x ≡ false → stored s t earlier x ≡ None → size s t (x ∷ earlier) ≡ size s t earlier
    → (holds s earlier id && not (hidden s earlier t)) ≡ a → sees s earlier id t x ≡ (a || p) → (if p then length (kept s earlier t) else seen s earlier id t - 0) ≡ seen s (x ∷ earlier) id t
played_by s sound earlier x t id a true e o n h g = sym (seen_when s earlier x id t (g ∙ or_true a) ∙ ap length (kept_same s earlier x t e o n))
played_by s sound earlier x t id true false e o n h g =
    less_nothing (seen s earlier id t) ∙ (all_here s sound earlier id t h ∙ sym (seen_when s earlier x id t g ∙ ap length (kept_same s earlier x t e o n)))
played_by s sound earlier x t id false false e o n h g =
    let fit = kept_fits s earlier t in
    let same : length (kept s earlier t ++ []) ≡ length (kept s earlier t) = ap length (append-nil (kept s earlier t)) in
    let none : length (kept s earlier t ++ []) - size s t earlier ≡ 0 = omega (arith, fit, same) in
    sym (seen-more s earlier x id t ∙ rw (g, e, o, n, none) refl)

-- how much each name has seen where a command stores nothing, by whether it empties the target and whether it plays it
pub seen_list : (s : Settings) → IsSound s → (earlier : List Command) (x : Command) (t : List ℕ) (told : List ℕ) (e p : Bool) → emptied s t earlier x ≡ e → stored s t earlier x ≡ None → size s t (x ∷ earlier) ≡ size s t earlier
    → plays_now s earlier t x ≡ p
    → (p ≡ true → told ≡ for_each (λ id. if shown_now s earlier x id then length (kept s earlier t) else seen s earlier id t - 0) 64 (ids s (x ∷ earlier)))
    → (if e then none_seen else if p then told else seen_held s earlier t) ≡ seen_held s (x ∷ earlier) t
seen_list s sound earlier x t told true p e o n g h = nothing_list s (x ∷ earlier) t (kept-next s earlier x t ∙ rw (e, o) (keep_last-nil (size s t (x ∷ earlier))))
seen_list s sound earlier x t told false true e o n g h =
    h refl
    ∙ for_same (λ id. if shown_now s earlier x id then length (kept s earlier t) else seen s earlier id t - 0) (λ id. seen s (x ∷ earlier) id t)
    (λ id. played_by s sound earlier x t id (holds s earlier id && not (hidden s earlier t)) (shown_now s earlier x id) e o n refl
    (sees-is s earlier id t x ∙ ap (λ b. (holds s earlier id && not (hidden s earlier t)) || (b && shown_now s earlier x id)) g)) 64 (ids s (x ∷ earlier))
seen_list s sound earlier x t told false false e o n g h =
    told_more s earlier x t
    ∙ for_same (λ id. seen s earlier id t) (λ id. seen s (x ∷ earlier) id t)
    (λ id. sym (less_nothing (seen s earlier id t)) ∙ played_by s sound earlier x t id (holds s earlier id && not (hidden s earlier t)) false e o n refl
    (sees-is s earlier id t x ∙ ap (λ b. (holds s earlier id && not (hidden s earlier t)) || (b && shown_now s earlier x id)) g)) 64 (ids s (x ∷ earlier))

-- ---- another size

sized_by : (s : Settings) → IsSound s → (earlier : List Command) (x : Command) (t id : List ℕ) (m : ℕ) (a : Bool) → emptied s t earlier x ≡ false → stored s t earlier x ≡ None → size s t (x ∷ earlier) ≡ m
    → (holds s earlier id && not (hidden s earlier t)) ≡ a → sees s earlier id t x ≡ a → seen s earlier id t - (length (kept s earlier t) - m) ≡ seen s (x ∷ earlier) id t
sized_by s sound earlier x t id m true e o n h g =
    let all = all_here s sound earlier id t h in
    let after : kept s (x ∷ earlier) t ≡ keep_last m (kept s earlier t ++ []) = kept-next s earlier x t ∙ rw (e, o, n) refl in
    let same : kept s earlier t ++ [] ≡ kept s earlier t = append-nil (kept s earlier t) in
    sym (seen_when s earlier x id t g ∙ (ap length (after ∙ ap (keep_last m) same) ∙ length-drop (length (kept s earlier t) - m) (kept s earlier t))
    ∙ ap (λ k. k - (length (kept s earlier t) - m)) (sym all))
sized_by s sound earlier x t id m false e o n h g =
    let same : length (kept s earlier t ++ []) ≡ length (kept s earlier t) = ap length (append-nil (kept s earlier t)) in
    sym (seen-more s earlier x id t ∙ rw (g, e, o, n, same) refl)

pub sized_list : (s : Settings) → IsSound s → (earlier : List Command) (x : Command) (t : List ℕ) (m : ℕ) → emptied s t earlier x ≡ false → stored s t earlier x ≡ None → size s t (x ∷ earlier) ≡ m → plays_now s earlier t x ≡ false
    → fewer (length (kept s earlier t) - m) (seen_held s earlier t) ≡ seen_held s (x ∷ earlier) t
sized_list s sound earlier x t m e o n g =
    ap (fewer (length (kept s earlier t) - m)) (told_more s earlier x t)
    ∙ (for_fewer (λ id. seen s earlier id t) (length (kept s earlier t) - m) 64 (ids s (x ∷ earlier))
    ∙ for_same (λ id. seen s earlier id t - (length (kept s earlier t) - m)) (λ id. seen s (x ∷ earlier) id t)
    (λ id. sized_by s sound earlier x t id m (holds s earlier id && not (hidden s earlier t)) e o n refl
    (sees-is s earlier id t x ∙ rw g (or_false (holds s earlier id && not (hidden s earlier t))))) 64 (ids s (x ∷ earlier)))

-- another size, or the same one
pub sized_told : (s : Settings) → IsSound s → (earlier : List Command) (x : Command) (t : List ℕ) (m : ℕ) (b : Bool) → emptied s t earlier x ≡ false → stored s t earlier x ≡ None → size s t (x ∷ earlier) ≡ (if b then m else size s t earlier) → plays_now s earlier t x ≡ false
    → (if b then fewer (length (kept s earlier t) - m) (seen_held s earlier t) else seen_held s earlier t) ≡ seen_held s (x ∷ earlier) t
sized_told s sound earlier x t m true e o n g = sized_list s sound earlier x t m e o n g
sized_told s sound earlier x t m false e o n g = seen_list s sound earlier x t (seen_held s earlier t) false false e o n g (λ p. cc)

-- ---- one more line

-- how many lines there are then
abbrev pub pushed_length : ℕ → List (ℕ × Parts) → ℕ × Parts → ℕ
pushed_length n ks line = length (keep_last n (ks ++ line ∷ []))

gone_is : (n : ℕ) (ks : List (ℕ × Parts)) (line : ℕ × Parts) → suc (length ks) - pushed_length n ks line ≡ length (ks ++ line ∷ []) - n
gone_is n ks line =
    let left : pushed_length n ks line ≡ length (ks ++ line ∷ []) - (length (ks ++ line ∷ []) - n) = length-drop (length (ks ++ line ∷ []) - n) (ks ++ line ∷ []) in
    let one : length (ks ++ line ∷ []) ≡ length ks + 1 = length-append ks (line ∷ []) in
    omega (arith, left, one)

pushed_by : (s : Settings) (earlier : List Command) (x : Command) (t id : List ℕ) (line : ℕ × Parts) (n : ℕ) (a : Bool) → emptied s t earlier x ≡ false → stored s t earlier x ≡ Some line → size s t (x ∷ earlier) ≡ n
    → sees s earlier id t x ≡ a
    → (if a then pushed_length n (kept s earlier t) line else seen s earlier id t - (suc (length (kept s earlier t)) - pushed_length n (kept s earlier t) line)) ≡ seen s (x ∷ earlier) id t
pushed_by s earlier x t id line n true e o m g =
    sym (seen_when s earlier x id t g ∙ ap length (kept-next s earlier x t ∙ rw (e, o, m) refl))
pushed_by s earlier x t id line n false e o m g =
    ap (λ k. seen s earlier id t - k) (gone_is n (kept s earlier t) line) ∙ sym (seen-more s earlier x id t ∙ rw (g, e, o, m) refl)

pub pushed_list : (s : Settings) (earlier : List Command) (x : Command) (t : List ℕ) (line : ℕ × Parts) (n : ℕ) (here : List Bool) → emptied s t earlier x ≡ false → stored s t earlier x ≡ Some line → size s t (x ∷ earlier) ≡ n
    → plays_now s earlier t x ≡ false → ids s (x ∷ earlier) ≡ ids s earlier → here ≡ map (λ id. holds s earlier id && not (hidden s earlier t)) (ids s earlier)
    → counted (pushed_length n (kept s earlier t) line) (suc (length (kept s earlier t)) - pushed_length n (kept s earlier t) line) here (seen_held s earlier t) ≡ seen_held s (x ∷ earlier) t
pushed_list s earlier x t line n here e o m g i h =
    ap (λ bs. counted (pushed_length n (kept s earlier t) line) (suc (length (kept s earlier t)) - pushed_length n (kept s earlier t) line) bs (seen_held s earlier t)) h
    ∙ (counted_here (λ id. holds s earlier id && not (hidden s earlier t)) (λ id. seen s earlier id t) (pushed_length n (kept s earlier t) line) (suc (length (kept s earlier t)) - pushed_length n (kept s earlier t) line) 64 (ids s earlier)
    ∙ (for_same
    (λ id. if holds s earlier id && not (hidden s earlier t) then pushed_length n (kept s earlier t) line else seen s earlier id t - (suc (length (kept s earlier t)) - pushed_length n (kept s earlier t) line))
    (λ id. seen s (x ∷ earlier) id t)
    (λ id. pushed_by s earlier x t id line n (holds s earlier id && not (hidden s earlier t)) e o m
    (sees-is s earlier id t x ∙ rw g (or_false (holds s earlier id && not (hidden s earlier t))))) 64 (ids s earlier)
    ∙ ap (for_each (λ id. seen s (x ∷ earlier) id t) 64) (sym i)))

-- ---- to whom it was played

told_none : (s : Settings) (h : List Command) (t : List ℕ) (is : List (List ℕ)) → for_each (λ id. seen s h id t) 64 is ≡ for_each (λ id. seen s h id t - 0) 64 is
told_none s h t is = for_same (λ id. seen s h id t) (λ id. seen s h id t - 0) (λ id. sym (less_nothing (seen s h id t))) 64 is

told_one : (s : Settings) (h : List Command) (t given : List ℕ) (k : ℕ) (is : List (List ℕ)) → is_id_in given is ≡ true → are_new [] is ≡ true
    → counted k 0 (reader_at (Some (index_in given is))) (for_each (λ id. seen s h id t) 64 is) ≡ for_each (λ id. if same_bytes id given then k else seen s h id t - 0) 64 is
told_one s h t given k is i d =
    counted_reader given [] (λ id. seen s h id t) k 0 64 is i d
    ∙ for_same (λ id. if same_bytes given id then k else seen s h id t - 0) (λ id. if same_bytes id given then k else seen s h id t - 0)
    (λ id. ap (λ b. if b then k else seen s h id t - 0) (same_bytes-sym given id)) 64 is

told_by : (s : Settings) (h : List Command) (t : List ℕ) (k : ℕ) (n : Option (List ℕ)) → has_id (ids s h) n ≡ true
    → counted k 0 (reader_at (place (ids s h) n)) (seen_held s h t) ≡ for_each (λ id. if is_id id n then k else seen s h id t - 0) 64 (ids s h)
told_by s h t k None e = told_none s h t (ids s h)
told_by s h t k (Some j) e = told_one s h t j k (ids s h) e (ids_differ s h)

-- Play plays to the name of the client that asks
pub play_list : (s : Settings) (earlier : List Command) (o : Origin) (at : ℕ) (u t : List ℕ) → is_among o (attached s earlier) ≡ true
    → counted (length (kept s earlier t)) 0 (reader_of o (names_held s earlier)) (seen_held s earlier t)
    ≡ for_each (λ id. if is_id id (id_of s earlier o) then length (kept s earlier t) else seen s earlier id t - 0) 64 (ids s (Client o at (Play u) ∷ earlier))
play_list s earlier o at u t e =
    let found : index_of o (names_held s earlier).holders ≡ place (ids s earlier) (id_of s earlier o) = index_found (ids s earlier) (id_of s earlier) o (attached s earlier) ∙ rw e refl in
    ap (λ i. counted (length (kept s earlier t)) 0 (reader_at i) (seen_held s earlier t)) found
    ∙ (told_by s earlier t (length (kept s earlier t)) (id_of s earlier o) (id_known s earlier o)
    ∙ ap (for_each (λ id. if is_id id (id_of s earlier o) then length (kept s earlier t) else seen s earlier id t - 0) 64) (sym (ids-more s (Client o at (Play u)) earlier)))

index_given : (given : List ℕ) (is : List (List ℕ)) (b : Bool) → is_id_in given is ≡ b → index_in given is ≡ index_in given (if b then is else is ++ given ∷ [])
index_given given is true e = refl
index_given given is false e = let n = index_new given is e in index_pushed given is (omega (arith, n))

-- an Attach that is taken plays to the name that it gives
pub attach_list : (s : Settings) (earlier : List Command) (o : Origin) (at : ℕ) (given : Option (List ℕ)) (t : List ℕ) → takes s earlier (Client o at (Attach given)) ≡ true
    → counted (length (kept s earlier t)) 0 (reader_named given (names_held s earlier)) (seen_held s earlier t)
    ≡ for_each (λ id. if is_id id given then length (kept s earlier t) else seen s earlier id t - 0) 64 (ids s (Client o at (Attach given) ∷ earlier))
attach_list s earlier o at None t e = told_more s earlier (Client o at (Attach None)) t ∙ told_none s earlier t (ids s (Client o at (Attach None) ∷ earlier))
attach_list s earlier o at (Some given) t e =
    let more : ids s (Client o at (Attach (Some given)) ∷ earlier) ≡ with_id (Some given) (ids s earlier) = ids-more s (Client o at (Attach (Some given))) earlier ∙ rw e refl in
    let there : index_in given (ids s earlier) ≡ index_in given (ids s (Client o at (Attach (Some given)) ∷ earlier)) = index_given given (ids s earlier) (is_id_in given (ids s earlier)) refl ∙ ap (index_in given) (sym more) in
    ap (λ i. counted (length (kept s earlier t)) 0 (reader_at (Some i)) (seen_held s earlier t)) there
    ∙ (ap (counted (length (kept s earlier t)) 0 (reader_at (Some (index_in given (ids s (Client o at (Attach (Some given)) ∷ earlier)))))) (told_more s earlier (Client o at (Attach (Some given))) t)
    ∙ told_one s earlier t given (length (kept s earlier t)) (ids s (Client o at (Attach (Some given)) ∷ earlier)) (ap (is_id_in given) more ∙ given_in given (ids s earlier)) (ids_differ s (Client o at (Attach (Some given)) ∷ earlier)))

-- a channel that is attached again is played to all
pub again_list : (s : Settings) (earlier : List Command) (x : Command) (t : List ℕ) → ids s (x ∷ earlier) ≡ ids s earlier
    → counted (length (kept s earlier t)) 0 (here_of (names_held s earlier)) (seen_held s earlier t) ≡ for_each (λ id. if holds s earlier id then length (kept s earlier t) else seen s earlier id t - 0) 64 (ids s (x ∷ earlier))
again_list s earlier x t e =
    ap (λ bs. counted (length (kept s earlier t)) 0 bs (seen_held s earlier t)) (here-is s earlier)
    ∙ (counted_here (holds s earlier) (λ id. seen s earlier id t) (length (kept s earlier t)) 0 64 (ids s earlier)
    ∙ ap (for_each (λ id. if holds s earlier id then length (kept s earlier t) else seen s earlier id t - 0) 64) (sym e))

-- What holds of the names of channels and queries after any history.
use Rattle.std.proofs.Common.{◌≡◌, ℕ, ◌≤◌, Bool, true, false, not, ◌&&◌, ◌||◌, List, [], ◌∷◌, length, refl, ap, ◌∙◌, arith}
use Rattle.std.specs.Prelude.{Option, Some, None, if◌then◌else◌, filter, codes}
use Rattle.std.specs.List.{list_all}
use Rattle.irc_line.specs.Names.{fold_name, is_channel}
use Rattle.irc_line.specs.Keys.{at_key, is_in, are_rising}
use Rattle.irc_line.specs.Lines.{Parts, parameter}
use Rattle.irc_line.proofs.Booleans.{and_left, and_right, or_both_false, or_false}
use Rattle.buffer_targets.specs.Targets.{newest}
use Rattle.buffer_commands.specs.Settings.{Settings}
use Rattle.buffer_commands.specs.declared.command.Command.{Command}
use Rattle.buffer_commands.specs.declared.command.Command.TheVariants.{Client, Upstream, NodeGone, Up, Down}
use Rattle.buffer_machine.specs.Messages.{is_own, is_by, has_command, is_query_line, is_query_name, is_storable, source}
use Rattle.buffer_machine.specs.Buffers.{keeps, nick, channels, queries, made_by, with_made, is_removed, with_new, query_aim, stored_query, said, targets, is_known}
use Rattle.buffer_machine.specs.Crowd.{attached, ids}
use Rattle.buffer_machine.specs.Held.{IsSound}
use Rattle.buffer_machine.proofs.Folded.{channel-key, query_apart}
use Rattle.buffer_machine.proofs.Names.{is_made_at, in-made, in-new, in-append, in-filter, all-filter, all-put, all-append, all-drop, rising-filter, rising-put, newest-length}
use Rattle.irc_line.proofs.Order.{key_is}
use Rattle.buffer_targets.specs.Places.{are_different}
use Rattle.buffer_targets.proofs.Indexes.{different_pushed, different_dropped}

-- ---- channels

-- a name that is made is a channel's
abbrev IsMadeOf : (List ℕ → Bool) → Option (List ℕ) → Type 0
IsMadeOf p None = true ≡ true
IsMadeOf p (Some c) = p c ≡ true

made_if : (b : Bool) (c : List ℕ) (p : List ℕ → Bool) → (b ≡ true → p c ≡ true) → IsMadeOf p (if b then Some c else None)
made_if true c p h = h refl
made_if false c p h = refl

made-channel : (own : List ℕ) (x : Command) → IsMadeOf is_channel (made_by own x)
made-channel own (Upstream at line) =
    made_if (is_own (codes "JOIN") own line) (parameter 0 line) is_channel (λ e. and_right (has_command (codes "JOIN") line && is_by own line) _ e)
made-channel own (Client o at action) = refl
made-channel own (NodeGone n floor) = refl
made-channel own Up = refl
made-channel own Down = refl

rising-made_by : (c : List ℕ) (cs : List (List ℕ)) (b : Bool) → is_in (fold_name c) cs ≡ b → are_rising cs ≡ true → are_rising (with_made (Some c) cs) ≡ true
rising-made_by c cs true e r = rw e r
rising-made_by c cs false e r = rw e (rising-put c cs r e)

rising-made : (m : Option (List ℕ)) (cs : List (List ℕ)) → are_rising cs ≡ true → are_rising (with_made m cs) ≡ true
rising-made None cs r = r
rising-made (Some c) cs r = rising-made_by c cs (is_in (fold_name c) cs) refl r

all-made_by : (p : List ℕ → Bool) (c : List ℕ) (cs : List (List ℕ)) (b : Bool) → is_in (fold_name c) cs ≡ b → p c ≡ true → list_all p cs ≡ true → list_all p (with_made (Some c) cs) ≡ true
all-made_by p c cs true e f a = rw e a
all-made_by p c cs false e f a = rw e (all-put p c cs f a)

all-made : (p : List ℕ → Bool) (m : Option (List ℕ)) (cs : List (List ℕ)) → IsMadeOf p m → list_all p cs ≡ true → list_all p (with_made m cs) ≡ true
all-made p None cs f a = a
all-made p (Some c) cs f a = all-made_by p c cs (is_in (fold_name c) cs) refl f a

pub channels-more : (s : Settings) (earlier : List Command) (x : Command)
    → channels s (x ∷ earlier) ≡ filter (λ c. not (is_removed s earlier (fold_name c) x)) (with_made (made_by (nick s earlier) x) (channels s earlier))
unfolding channels
channels-more s earlier x = refl

pub channels-none : (s : Settings) → channels s [] ≡ s.channels
unfolding channels
channels-none s = refl

-- the channels rise
pub channels-rise : (s : Settings) → IsSound s → (history : List Command) → are_rising (channels s history) ≡ true
channels-rise s sound [] = ap are_rising (channels-none s) ∙ sound.rising
channels-rise s sound (x ∷ earlier) =
    ap are_rising (channels-more s earlier x)
    ∙ rising-filter (λ c. not (is_removed s earlier (fold_name c) x)) _ (rising-made (made_by (nick s earlier) x) (channels s earlier) (channels-rise s sound earlier))

-- each is a channel's name
pub channels-are : (s : Settings) → IsSound s → (history : List Command) → list_all is_channel (channels s history) ≡ true
channels-are s sound [] = ap (list_all is_channel) (channels-none s) ∙ sound.channels
channels-are s sound (x ∷ earlier) =
    ap (list_all is_channel) (channels-more s earlier x)
    ∙ all-filter is_channel (λ c. not (is_removed s earlier (fold_name c) x)) _
    (all-made is_channel (made_by (nick s earlier) x) (channels s earlier) (made-channel (nick s earlier) x) (channels-are s sound earlier))

-- which channels there are after one more command
pub known-next : (s : Settings) (earlier : List Command) (x : Command) (k : List ℕ)
    → is_in k (channels s (x ∷ earlier)) ≡ ((is_made_at k (made_by (nick s earlier) x) || is_in k (channels s earlier)) && not (is_removed s earlier k x))
known-next s earlier x k =
    ap (is_in k) (channels-more s earlier x)
    ∙ (in-filter (λ key. is_removed s earlier key x) k (with_made (made_by (nick s earlier) x) (channels s earlier))
    ∙ ap (λ b. b && not (is_removed s earlier k x)) (in-made k (made_by (nick s earlier) x) (channels s earlier)))

-- ---- queries

aim_is_query : (cs : List (List ℕ)) (own : List ℕ) (line : Option (ℕ × Parts)) → IsMadeOf is_query_name (query_aim cs own line)
aim_is_query cs own None = refl
aim_is_query cs own (Some line) =
    made_if (is_storable line.1 && not (is_in (fold_name (parameter 0 (line.1))) cs) && is_query_line own line.1) (source line.1) is_query_name
    (λ e. and_right _ (is_query_name (source line.1)) (and_right (is_storable line.1 && not (is_in (fold_name (parameter 0 (line.1))) cs)) _ e))

if_made : (p : List ℕ → Bool) (b : Bool) (m : Option (List ℕ)) → IsMadeOf p m → IsMadeOf p (if b then m else None)
if_made p true m h = h
if_made p false m h = refl

stored-is_query : (s : Settings) (earlier : List Command) (x : Command) → IsMadeOf is_query_name (stored_query s earlier x)
unfolding stored_query
stored-is_query s earlier x =
    if_made is_query_name (keeps s.clears_queries (attached s earlier) (ids s earlier)) _ (aim_is_query (channels s earlier) (nick s earlier) (said (attached s earlier) (nick s earlier) x))

pub queries-more : (s : Settings) (earlier : List Command) (x : Command) → queries s (x ∷ earlier) ≡ newest s.most_queries (with_new (stored_query s earlier x) (queries s earlier))
unfolding queries
queries-more s earlier x = refl

pub queries-none : (s : Settings) → queries s [] ≡ []
unfolding queries
queries-none s = refl

different-new_by : (c : List ℕ) (cs : List (List ℕ)) (b : Bool) → is_in (fold_name c) cs ≡ b → are_different cs ≡ true → are_different (with_new (Some c) cs) ≡ true
different-new_by c cs true e d = rw e d
different-new_by c cs false e d = rw e (different_pushed c cs d e)

different-new : (m : Option (List ℕ)) (cs : List (List ℕ)) → are_different cs ≡ true → are_different (with_new m cs) ≡ true
different-new None cs d = d
different-new (Some c) cs d = different-new_by c cs (is_in (fold_name c) cs) refl d

and_true : (b : Bool) → b ≡ true → (b && true) ≡ true
and_true true e = refl
and_true false e = cc

all-new_by : (p : List ℕ → Bool) (c : List ℕ) (cs : List (List ℕ)) (b : Bool) → is_in (fold_name c) cs ≡ b → p c ≡ true → list_all p cs ≡ true → list_all p (with_new (Some c) cs) ≡ true
all-new_by p c cs true e f a = rw e a
all-new_by p c cs false e f a = rw e (all-append p cs (c ∷ []) a (and_true (p c) f))

all-new : (p : List ℕ → Bool) (m : Option (List ℕ)) (cs : List (List ℕ)) → IsMadeOf p m → list_all p cs ≡ true → list_all p (with_new m cs) ≡ true
all-new p None cs f a = a
all-new p (Some c) cs f a = all-new_by p c cs (is_in (fold_name c) cs) refl f a

-- no two queries have one key
pub queries-differ : (s : Settings) (history : List Command) → are_different (queries s history) ≡ true
queries-differ s [] = ap are_different (queries-none s)
queries-differ s (x ∷ earlier) =
    ap are_different (queries-more s earlier x)
    ∙ different_dropped _ (with_new (stored_query s earlier x) (queries s earlier)) (different-new (stored_query s earlier x) (queries s earlier) (queries-differ s earlier))

-- each is a nick
pub queries-are : (s : Settings) (history : List Command) → list_all is_query_name (queries s history) ≡ true
queries-are s [] = ap (list_all is_query_name) (queries-none s)
queries-are s (x ∷ earlier) =
    ap (list_all is_query_name) (queries-more s earlier x)
    ∙ all-drop is_query_name _ (with_new (stored_query s earlier x) (queries s earlier))
    (all-new is_query_name (stored_query s earlier x) (queries s earlier) (stored-is_query s earlier x) (queries-are s earlier))

-- there are no more than allowed
pub queries-fit : (s : Settings) (history : List Command) → length (queries s history) ≤ s.most_queries
queries-fit s [] = rw queries-none (omega arith)
queries-fit s (x ∷ earlier) = rw queries-more (newest-length s.most_queries (with_new (stored_query s earlier x) (queries s earlier)))

pub new-known : (s : Settings) (earlier : List Command) (x : Command) (k : List ℕ)
    → is_in k (with_new (stored_query s earlier x) (queries s earlier)) ≡ (is_made_at k (stored_query s earlier x) || is_in k (queries s earlier))
new-known s earlier x k = in-new k (stored_query s earlier x) (queries s earlier)

-- ---- each key is a channel's or a query's

no_channel_at : (k c : List ℕ) (b : Bool) → at_key k c ≡ b → is_channel k ≡ false → is_channel c ≡ true → b ≡ false
no_channel_at k c true e f g = absurd (let t : is_channel k ≡ true = ap is_channel (key_is k c e) ∙ channel-key c g in cc)
no_channel_at k c false e f g = refl

-- no channel has a key that is not a channel's
no_channel : (k : List ℕ) (cs : List (List ℕ)) → is_channel k ≡ false → list_all is_channel cs ≡ true → is_in k cs ≡ false
no_channel k [] e f = refl
no_channel k (c ∷ cs) e f =
    or_both_false (at_key k c) (is_in k cs) (no_channel_at k c (at_key k c) refl e (and_left _ _ f)) (no_channel k cs e (and_right (is_channel c) _ f))

-- no query has a channel's key
no_query : (k : List ℕ) (cs : List (List ℕ)) → is_channel k ≡ true → list_all is_query_name cs ≡ true → is_in k cs ≡ false
no_query k [] e f = refl
no_query k (c ∷ cs) e f =
    or_both_false (at_key k c) (is_in k cs) (query_apart k c (at_key k c) refl e (and_left (is_query_name c) _ f)) (no_query k cs e (and_right (is_query_name c) _ f))

pub not_a_channel : (s : Settings) → IsSound s → (history : List Command) (k : List ℕ) → is_channel k ≡ false → is_in k (channels s history) ≡ false
not_a_channel s sound history k e = no_channel k (channels s history) e (channels-are s sound history)

pub not_a_query : (s : Settings) (history : List Command) (k : List ℕ) → is_channel k ≡ true → is_in k (queries s history) ≡ false
not_a_query s history k e = no_query k (queries s history) e (queries-are s history)

pub known-both : (s : Settings) (history : List Command) (t : List ℕ) → is_known s history t ≡ (is_in t (channels s history) || is_in t (queries s history))
unfolding is_known targets
known-both s history t = in-append t (channels s history) (queries s history)

-- a channel's key is known where some channel has it
pub known-channel : (s : Settings) (history : List Command) (k : List ℕ) → is_channel k ≡ true → is_known s history k ≡ is_in k (channels s history)
known-channel s history k e = known-both s history k ∙ (ap (λ b. is_in k (channels s history) || b) (not_a_query s history k e) ∙ or_false (is_in k (channels s history)))

-- any other key is known where some query has it
pub known-query : (s : Settings) → IsSound s → (history : List Command) (k : List ℕ) → is_channel k ≡ false → is_known s history k ≡ is_in k (queries s history)
known-query s sound history k e = known-both s history k ∙ ap (λ b. b || is_in k (queries s history)) (not_a_channel s sound history k e)

-- What a target keeps after one more command.
use Rattle.std.proofs.Common.{◌≡◌, ℕ, ◌-◌, ◌≤◌, List, [], ◌∷◌, ◌++◌, length, refl, ap, ◌∙◌, sym, arith, Bool, true, false, not, ◌&&◌, ◌||◌, length-drop}
use Rattle.std.specs.Prelude.{Option, Some, None, if◌then◌else◌, codes}
use Rattle.circular_buffer.specs.Buffer.{keep_last}
use Rattle.irc_line.specs.Names.{fold_name, same_bytes, is_channel}
use Rattle.irc_line.specs.Keys.{at_key, is_in}
use Rattle.irc_line.specs.Lines.{Parts, parameter}
use Rattle.irc_line.proofs.Booleans.{and_right, and_false, or_false}
use Rattle.irc_line.proofs.SameBytes.{same_bytes-eq}
use Rattle.buffer_lines.specs.Keeping.{if_kept}
use Rattle.buffer_lines.proofs.Keeping.{kept-more, kept-nil, keep_last-nil}
use Rattle.buffer_commands.specs.Settings.{Settings}
use Rattle.buffer_commands.specs.declared.command.Command.{Command}
use Rattle.buffer_machine.specs.Messages.{has_command, is_storable, is_query_line, is_query_name, source}
use Rattle.buffer_machine.specs.Buffers.{keeps, nick, channels, is_known, size, first_size, size_after, said, aim, is_for, stored_where, stored, stored_query, query_aim, emptied, detached, kept, removes_target}
use Rattle.buffer_machine.specs.Crowd.{attached, ids}
use Rattle.buffer_machine.specs.Held.{IsSound}
use Rattle.buffer_machine.proofs.Folded.{query_apart}
use Rattle.buffer_machine.proofs.Names.{is_made_at}
use Rattle.buffer_machine.proofs.Standing.{not_a_channel}
use Rattle.irc_line.proofs.Order.{key_is}
use Rattle.std.proofs.lemmas.List.{append-nil}

-- ---- the last lines

pub keep_last-all : {K : Type 0} (n : ℕ) (xs : List K) → length xs ≤ n → keep_last n xs ≡ xs
keep_last-all n xs h = let e : length xs - n ≡ 0 = omega arith in rw e refl

length-keep_last : {K : Type 0} (n : ℕ) (xs : List K) → length (keep_last n xs) ≤ n
length-keep_last n xs = rw length-drop (omega arith)

-- what is kept next of the lines that were kept
abbrev pub next : ℕ → List (ℕ × Parts) → Bool → Option (ℕ × Parts) → List (ℕ × Parts)
next n ks emptied stored = keep_last n ((if emptied then [] else ks) ++ if_kept true stored)

-- no line comes and none goes
pub next-quiet : (n : ℕ) (ks : List (ℕ × Parts)) → length ks ≤ n → next n ks false None ≡ ks
next-quiet n ks h = rw append-nil (keep_last-all n ks h)

-- of no lines, none are kept
pub next-nothing : (n : ℕ) (e : Bool) → next n [] e None ≡ []
next-nothing n true = keep_last-nil n
next-nothing n false = keep_last-nil n

pub kept-next : (s : Settings) (earlier : List Command) (x : Command) (t : List ℕ) → kept s (x ∷ earlier) t ≡ next (size s t (x ∷ earlier)) (kept s earlier t) (emptied s t earlier x) (stored s t earlier x)
unfolding kept
kept-next s earlier x t = kept-more (stored s t) (emptied s t) (size s t) x earlier

pub kept-none : (s : Settings) (t : List ℕ) → kept s [] t ≡ []
unfolding kept
kept-none s t = kept-nil (stored s t) (emptied s t) (size s t) true

pub kept_fits : (s : Settings) (history : List Command) (t : List ℕ) → length (kept s history t) ≤ size s t history
kept_fits s [] t = rw kept-none (omega arith)
kept_fits s (x ∷ earlier) t = rw kept-next (length-keep_last (size s t (x ∷ earlier)) ((if emptied s t earlier x then [] else kept s earlier t) ++ if_kept true (stored s t earlier x)))

pub size-first : (s : Settings) (t : List ℕ) → size s t [] ≡ first_size s t
unfolding size
size-first s t = refl

pub size-more : (s : Settings) (earlier : List Command) (x : Command) (t : List ℕ)
    → size s t (x ∷ earlier) ≡ (if removes_target s earlier t x then first_size s t else size_after (attached s earlier) (is_known s earlier t) t (size s t earlier) x)
unfolding size
size-more s earlier x t = refl

-- ---- what a line is for

and_assoc : (a b c : Bool) → (a && b && c) ≡ (a && (b && c))
and_assoc true b c = refl
and_assoc false b c = refl

-- a known key is not the key of an unknown name
key_apart : (cs : List (List ℕ)) (k p : List ℕ) (b : Bool) → at_key k p ≡ b → is_in k cs ≡ true → is_in (fold_name p) cs ≡ false → b ≡ false
key_apart cs k p true e i n = sym i ∙ (ap (λ key. is_in key cs) (key_is k p e) ∙ n)
key_apart cs k p false e i n = refl

-- nor is an unknown key the key of a known name
key_apart_too : (cs : List (List ℕ)) (k p : List ℕ) (b : Bool) → at_key k p ≡ b → is_in k cs ≡ false → is_in (fold_name p) cs ≡ true → b ≡ false
key_apart_too cs k p true e n i = sym i ∙ (ap (λ key. is_in key cs) (sym (key_is k p e)) ∙ n)
key_apart_too cs k p false e n i = refl

query_for : (k : List ℕ) (own : List ℕ) (line : Parts) (b : Bool) → is_query_line own line ≡ b → is_channel k ≡ true → is_for k (if b then Some (source line) else None) ≡ false
query_for k own line true e c = query_apart k (source line) (at_key k (source line)) refl c (and_right _ (is_query_name (source line)) e)
query_for k own line false e c = refl

-- a line for a known channel
aim-known_by : (cs : List (List ℕ)) (own k : List ℕ) (line : Parts) (storable known : Bool) → is_channel k ≡ true → is_in k cs ≡ true → is_in (fold_name (parameter 0 line)) cs ≡ known
    → is_for k (if not storable then None else if known then Some (parameter 0 line) else if is_query_line own line then Some (source line) else None) ≡ (storable && at_key k (parameter 0 line))
aim-known_by cs own k line false known c i e = refl
aim-known_by cs own k line true true c i e = refl
aim-known_by cs own k line true false c i e =
    query_for k own line (is_query_line own line) refl c ∙ sym (key_apart cs k (parameter 0 line) (at_key k (parameter 0 line)) refl i e)

aim-known : (cs : List (List ℕ)) (own k : List ℕ) (line : Parts) → is_channel k ≡ true → is_in k cs ≡ true → is_for k (aim cs own line) ≡ (is_storable line && at_key k (parameter 0 line))
aim-known cs own k line c i = aim-known_by cs own k line (is_storable line) (is_in (fold_name (parameter 0 line)) cs) c i refl

-- no line is for an unknown channel
aim-unknown_by : (cs : List (List ℕ)) (own k : List ℕ) (line : Parts) (storable known : Bool) → is_channel k ≡ true → is_in k cs ≡ false → is_in (fold_name (parameter 0 line)) cs ≡ known
    → is_for k (if not storable then None else if known then Some (parameter 0 line) else if is_query_line own line then Some (source line) else None) ≡ false
aim-unknown_by cs own k line false known c i e = refl
aim-unknown_by cs own k line true true c i e = key_apart_too cs k (parameter 0 line) (at_key k (parameter 0 line)) refl i e
aim-unknown_by cs own k line true false c i e = query_for k own line (is_query_line own line) refl c

aim-unknown : (cs : List (List ℕ)) (own k : List ℕ) (line : Parts) → is_channel k ≡ true → is_in k cs ≡ false → is_for k (aim cs own line) ≡ false
aim-unknown cs own k line c i = aim-unknown_by cs own k line (is_storable line) (is_in (fold_name (parameter 0 line)) cs) c i refl

-- a line for a query
aim-query_by : (cs : List (List ℕ)) (k : List ℕ) (line : Parts) (storable known query : Bool) → is_in k cs ≡ false → is_in (fold_name (parameter 0 line)) cs ≡ known
    → is_for k (if not storable then None else if known then Some (parameter 0 line) else if query then Some (source line) else None)
    ≡ is_made_at k (if storable && not known && query then Some (source line) else None)
aim-query_by cs k line false known query i e = refl
aim-query_by cs k line true true query i e = key_apart_too cs k (parameter 0 line) (at_key k (parameter 0 line)) refl i e
aim-query_by cs k line true false true i e = refl
aim-query_by cs k line true false false i e = refl

aim-query : (cs : List (List ℕ)) (own k : List ℕ) (line : ℕ × Parts) → is_in k cs ≡ false → is_for k (aim cs own line.1) ≡ is_made_at k (query_aim cs own (Some line))
aim-query cs own k line i = aim-query_by cs k line.1 (is_storable line.1) (is_in (fold_name (parameter 0 (line.1))) cs) (is_query_line own line.1) i refl

-- ---- what is stored

-- the line that is stored in the channel of a key
abbrev pub channel_stored : Bool → List ℕ → Option (ℕ × Parts) → Option (ℕ × Parts)
channel_stored keep k None = None
channel_stored keep k (Some line) = if keep && (is_storable line.1 && at_key k (parameter 0 (line.1))) then Some line else None

stored_channel : (keep : Bool) (cs : List (List ℕ)) (own k : List ℕ) (o : Option (ℕ × Parts)) → is_channel k ≡ true → is_in k cs ≡ true → stored_where keep cs own k o ≡ channel_stored keep k o
stored_channel keep cs own k None c i = refl
stored_channel keep cs own k (Some line) c i = ap (λ b. if keep && b then Some line else None) (aim-known cs own k line.1 c i)

-- what is stored in a known channel
pub stored-channel : (s : Settings) (earlier : List Command) (x : Command) (k : List ℕ) → is_channel k ≡ true → is_in k (channels s earlier) ≡ true
    → stored s k earlier x ≡ channel_stored (keeps s.clears_channels (attached s earlier) (ids s earlier) || detached s earlier k) k (said (attached s earlier) (nick s earlier) x)
unfolding stored
stored-channel s earlier x k c i =
    rw c (stored_channel (keeps s.clears_channels (attached s earlier) (ids s earlier) || detached s earlier k) (channels s earlier) (nick s earlier) k (said (attached s earlier) (nick s earlier) x) c i)

stored_none : (keep : Bool) (cs : List (List ℕ)) (own k : List ℕ) (o : Option (ℕ × Parts)) → is_channel k ≡ true → is_in k cs ≡ false → stored_where keep cs own k o ≡ None
stored_none keep cs own k None c i = refl
stored_none keep cs own k (Some line) c i =
    ap (λ b. if keep && b then Some line else None) (aim-unknown cs own k line.1 c i) ∙ ap (λ b. if b then Some line else None) (and_false keep)

-- nothing is stored in an unknown channel
pub stored-unknown : (s : Settings) (earlier : List Command) (x : Command) (k : List ℕ) → is_channel k ≡ true → is_in k (channels s earlier) ≡ false → stored s k earlier x ≡ None
unfolding stored
stored-unknown s earlier x k c i = stored_none _ (channels s earlier) (nick s earlier) k (said (attached s earlier) (nick s earlier) x) c i

-- the line where the test is true
abbrev pub line_if : Bool → Option (ℕ × Parts) → Option (ℕ × Parts)
line_if b None = None
line_if b (Some line) = if b then Some line else None

made_if : (keep : Bool) (k : List ℕ) (m : Option (List ℕ)) → is_made_at k (if keep then m else None) ≡ (keep && is_made_at k m)
made_if true k m = refl
made_if false k m = refl

stored_query_at : (keep : Bool) (cs : List (List ℕ)) (own k : List ℕ) (o : Option (ℕ × Parts)) → is_in k cs ≡ false
    → stored_where keep cs own k o ≡ line_if (is_made_at k (if keep then query_aim cs own o else None)) o
stored_query_at keep cs own k None i = refl
stored_query_at keep cs own k (Some line) i =
    ap (λ b. if keep && b then Some line else None) (aim-query cs own k line i)
    ∙ ap (λ b. if b then Some line else None) (sym (made_if keep k (query_aim cs own (Some line))))

-- the query that stores the line is the one that the command names
pub stored-query : (s : Settings) → IsSound s → (earlier : List Command) (x : Command) (k : List ℕ) → is_channel k ≡ false
    → stored s k earlier x ≡ line_if (is_made_at k (stored_query s earlier x)) (said (attached s earlier) (nick s earlier) x)
unfolding stored stored_query
stored-query s sound earlier x k c =
    rw (c, or_false (keeps s.clears_queries (attached s earlier) (ids s earlier)))
    (stored_query_at (keeps s.clears_queries (attached s earlier) (ids s earlier)) (channels s earlier) (nick s earlier) k (said (attached s earlier) (nick s earlier) x) (not_a_channel s sound earlier k c))

-- ---- lines of other commands

pub other_command : (word other : List ℕ) (line : Parts) → has_command word line ≡ true → same_bytes word other ≡ false → has_command other line ≡ false
other_command word other line e f = ap (λ c. same_bytes c other) (same_bytes-eq line.command word e) ∙ f

-- a line whose command is neither PRIVMSG nor NOTICE is not stored
pub not_storable : (word : List ℕ) (line : Parts) → has_command word line ≡ true → same_bytes word (codes "PRIVMSG") ≡ false → same_bytes word (codes "NOTICE") ≡ false → is_storable line ≡ false
not_storable word line e f g = rw (other_command word (codes "PRIVMSG") line e f, other_command word (codes "NOTICE") line e g) refl

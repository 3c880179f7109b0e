-- What holds of an unknown target: it keeps nothing, and it begins from scratch.
use Rattle.std.proofs.Common.{◌≡◌, ℕ, ◌≤◌, List, [], ◌∷◌, length, refl, ap, ◌∙◌, sym, Bool, true, false, not, ◌&&◌, ◌||◌}
use Rattle.std.specs.Prelude.{Option, Some, None, if◌then◌else◌, codes}
use Rattle.irc_line.specs.Names.{fold_name, is_channel}
use Rattle.irc_line.specs.Keys.{at_key, is_in}
use Rattle.irc_line.specs.Lines.{Parts, parameter}
use Rattle.irc_line.proofs.Booleans.{and_left, and_false, or_true}
use Rattle.buffer_targets.specs.Targets.{newest}
use Rattle.wire_bytes.specs.declared.origin.Origin.{Origin}
use Rattle.buffer_commands.specs.Settings.{Settings}
use Rattle.buffer_commands.specs.declared.command.Action.TheVariants.{Attach, Leave, Say, Join, Part, Detach, Reattach, Play, Clear, ClearChannels, ClearQueries, ClearAll, SetBuffer, Pass}
use Rattle.buffer_commands.specs.declared.command.Command.{Command}
use Rattle.buffer_commands.specs.declared.command.Command.TheVariants.{Client, Upstream, NodeGone, Up, Down}
use Rattle.buffer_machine.specs.Messages.{has_command, is_among, is_by, is_storable}
use Rattle.buffer_machine.specs.Buffers.{empties, nick, channels, queries, is_known, joined, detached, detached_after, size, first_size, size_after, said, stored, stored_query, emptied, is_cleared, clears, plays, is_past, made_by, stored_where, kept, is_removed, removes, is_pushed_out, removes_target, with_new}
use Rattle.buffer_machine.specs.Crowd.{attached, ids, takes}
use Rattle.buffer_machine.specs.Held.{IsSound}
use Rattle.buffer_machine.proofs.Names.{is_made_at, newest-all, newest-last}
use Rattle.buffer_machine.proofs.Standing.{known-next, known-channel, known-query, queries-more, queries-fit}
use Rattle.buffer_machine.proofs.Kept.{next, next-nothing, kept-next, kept-none, size-first, size-more, stored-unknown, stored-query, line_if, not_storable}
use Rattle.irc_line.proofs.Order.{key_is}
use Rattle.buffer_lines.proofs.Keeping.{keep_last-nil}

-- ---- channels

-- a channel that is unknown now was unknown before, or was removed
gone_or_not : {P : Type 0} (made was removed : Bool) → ((made || was) && not removed) ≡ false → (was ≡ false → made ≡ false → P) → (removed ≡ true → P) → P
gone_or_not made was true e f g = g refl
gone_or_not true was false e f g = absurd cc
gone_or_not false true false e f g = absurd cc
gone_or_not false false false e f g = f refl refl

pub detached-more : (s : Settings) (earlier : List Command) (x : Command) (k : List ℕ)
    → detached s (x ∷ earlier) k ≡ (detached_after (attached s earlier) (is_in k (channels s earlier)) k (detached s earlier k) x && not (is_removed s earlier k x))
unfolding detached
detached-more s earlier x k = refl

not_detached_after : (os : List Origin) (k : List ℕ) (x : Command) → detached_after os false k false x ≡ false
not_detached_after os k (Client o at (Detach d)) = rw (and_false (is_among o os)) refl
not_detached_after os k (Client o at (Reattach d)) = refl
not_detached_after os k (Client o at (Join d)) = refl
not_detached_after os k (Client o at (Attach id)) = refl
not_detached_after os k (Client o at Leave) = refl
not_detached_after os k (Client o at (Say v n t)) = refl
not_detached_after os k (Client o at (Part d)) = refl
not_detached_after os k (Client o at (Play t)) = refl
not_detached_after os k (Client o at (Clear t)) = refl
not_detached_after os k (Client o at ClearChannels) = refl
not_detached_after os k (Client o at ClearQueries) = refl
not_detached_after os k (Client o at ClearAll) = refl
not_detached_after os k (Client o at (SetBuffer t n)) = refl
not_detached_after os k (Client o at (Pass l)) = refl
not_detached_after os k (Upstream at line) = refl
not_detached_after os k (NodeGone n f) = refl
not_detached_after os k Up = refl
not_detached_after os k Down = refl

pub detached-none : (s : Settings) (k : List ℕ) → detached s [] k ≡ false
unfolding detached
detached-none s k = refl

-- a key with no known channel is not detached
pub detached-unknown : (s : Settings) (history : List Command) (k : List ℕ) → is_in k (channels s history) ≡ false → detached s history k ≡ false
detached-unknown s [] k e = detached-none s k
detached-unknown s (x ∷ earlier) k e =
    detached-more s earlier x k
    ∙ gone_or_not (is_made_at k _) (is_in k (channels s earlier)) (is_removed s earlier k x) (sym (known-next s earlier x k) ∙ e)
    (λ i m. rw (i, detached-unknown s earlier k i, not_detached_after (attached s earlier) k x) refl)
    (λ r. rw r (and_false (detached_after (attached s earlier) (is_in k (channels s earlier)) k (detached s earlier k) x)))

pub removes-channel : (s : Settings) (earlier : List Command) (x : Command) (k : List ℕ) → is_channel k ≡ true → removes_target s earlier k x ≡ is_removed s earlier k x
unfolding removes_target
removes-channel s earlier x k c = rw c refl

first-channel : (s : Settings) (k : List ℕ) → is_channel k ≡ true → first_size s k ≡ s.channel_size
first-channel s k c = rw c refl

size_unknown : (os : List Origin) (k : List ℕ) (n : ℕ) (x : Command) → size_after os false k n x ≡ n
size_unknown os k n (Client o at (SetBuffer t m)) = rw (and_false (is_among o os && not (is_past m))) refl
size_unknown os k n (Client o at (Attach id)) = refl
size_unknown os k n (Client o at Leave) = refl
size_unknown os k n (Client o at (Say v u t)) = refl
size_unknown os k n (Client o at (Join d)) = refl
size_unknown os k n (Client o at (Part d)) = refl
size_unknown os k n (Client o at (Detach d)) = refl
size_unknown os k n (Client o at (Reattach d)) = refl
size_unknown os k n (Client o at (Play t)) = refl
size_unknown os k n (Client o at (Clear t)) = refl
size_unknown os k n (Client o at ClearChannels) = refl
size_unknown os k n (Client o at ClearQueries) = refl
size_unknown os k n (Client o at ClearAll) = refl
size_unknown os k n (Client o at (Pass l)) = refl
size_unknown os k n (Upstream at line) = refl
size_unknown os k n (NodeGone m f) = refl
size_unknown os k n Up = refl
size_unknown os k n Down = refl

size_unknown_by : (s : Settings) (earlier : List Command) (x : Command) (k : List ℕ) (removed : Bool) → is_channel k ≡ true → is_in k (channels s earlier) ≡ false → size s k earlier ≡ s.channel_size
    → (if removed then first_size s k else size_after (attached s earlier) (is_known s earlier k) k (size s k earlier) x) ≡ s.channel_size
size_unknown_by s earlier x k true c i ih = first-channel s k c
size_unknown_by s earlier x k false c i ih = rw (known-channel s earlier k c, i) (size_unknown (attached s earlier) k (size s k earlier) x ∙ ih)

-- an unknown channel begins with the setup's size
pub size-unknown : (s : Settings) (history : List Command) (k : List ℕ) → is_channel k ≡ true → is_in k (channels s history) ≡ false → size s k history ≡ s.channel_size
size-unknown s [] k c e = size-first s k ∙ first-channel s k c
size-unknown s (x ∷ earlier) k c e =
    size-more s earlier x k
    ∙ (ap (λ b. if b then first_size s k else size_after (attached s earlier) (is_known s earlier k) k (size s k earlier) x) (removes-channel s earlier x k c)
    ∙ gone_or_not (is_made_at k (made_by (nick s earlier) x)) (is_in k (channels s earlier)) (is_removed s earlier k x) (sym (known-next s earlier x k) ∙ e)
    (λ i m. size_unknown_by s earlier x k (is_removed s earlier k x) c i (size-unknown s earlier k c i))
    (λ r. ap (λ b. if b then first_size s k else size_after (attached s earlier) (is_known s earlier k) k (size s k earlier) x) r ∙ first-channel s k c))

-- a line that is stored nowhere
unaimed : (keep : Bool) (cs : List (List ℕ)) (own k : List ℕ) (line : ℕ × Parts) → is_storable line.1 ≡ false → stored_where keep cs own k (Some line) ≡ None
unaimed keep cs own k line e = rw e (ap (λ b. if b then Some line else None) (and_false keep))

pub stored-not_storable : (s : Settings) (earlier : List Command) (at : ℕ) (line : Parts) (k : List ℕ) → is_storable line ≡ false → stored s k earlier (Upstream at line) ≡ None
unfolding stored
stored-not_storable s earlier at line k e = unaimed _ (channels s earlier) (nick s earlier) k (at, line) e

-- a command that removes a channel stores nothing in it
removed_unstored : (s : Settings) (earlier : List Command) (x : Command) (k : List ℕ) → removes (attached s earlier) (nick s earlier) (joined s earlier k) k x ≡ true → stored s k earlier x ≡ None
unfolding stored
removed_unstored s earlier (Client o at (Part d)) k e = refl
removed_unstored s earlier (Upstream at line) k e =
    let part : has_command (codes "PART") line ≡ true = and_left _ (is_by (nick s earlier) line) (and_left _ (is_channel (parameter 0 line)) (and_left _ (at_key k (parameter 0 line)) e)) in
    unaimed _ (channels s earlier) (nick s earlier) k (at, line) (not_storable (codes "PART") line part refl refl)
removed_unstored s earlier (Client o at (Attach id)) k e = cc
removed_unstored s earlier (Client o at Leave) k e = cc
removed_unstored s earlier (Client o at (Say v n t)) k e = cc
removed_unstored s earlier (Client o at (Join d)) k e = cc
removed_unstored s earlier (Client o at (Detach d)) k e = cc
removed_unstored s earlier (Client o at (Reattach d)) k e = cc
removed_unstored s earlier (Client o at (Play t)) k e = cc
removed_unstored s earlier (Client o at (Clear t)) k e = cc
removed_unstored s earlier (Client o at ClearChannels) k e = cc
removed_unstored s earlier (Client o at ClearQueries) k e = cc
removed_unstored s earlier (Client o at ClearAll) k e = cc
removed_unstored s earlier (Client o at (SetBuffer t n)) k e = cc
removed_unstored s earlier (Client o at (Pass l)) k e = cc
removed_unstored s earlier (NodeGone n f) k e = cc
removed_unstored s earlier Up k e = cc
removed_unstored s earlier Down k e = cc

pub removed-is : (s : Settings) (earlier : List Command) (k : List ℕ) (x : Command) → is_removed s earlier k x ≡ removes (attached s earlier) (nick s earlier) (joined s earlier k) k x
unfolding is_removed
removed-is s earlier k x = refl

-- a command that removes a target empties it
emptied-removed : (s : Settings) (earlier : List Command) (x : Command) (k : List ℕ) → removes_target s earlier k x ≡ true → emptied s k earlier x ≡ true
unfolding emptied
emptied-removed s earlier x k e = rw e (or_true (is_cleared (attached s earlier) (is_channel k) k (is_known s earlier k) x || (clears s k && empties (ids s earlier) x && plays (takes s earlier x) (attached s earlier) (is_channel k && detached s earlier k) k (is_known s earlier k) x)))

-- an unknown channel keeps nothing
pub kept-unknown : (s : Settings) (history : List Command) (k : List ℕ) → is_channel k ≡ true → is_in k (channels s history) ≡ false → kept s history k ≡ []
kept-unknown s [] k c e = kept-none s k
kept-unknown s (x ∷ earlier) k c e =
    kept-next s earlier x k
    ∙ gone_or_not (is_made_at k (made_by (nick s earlier) x)) (is_in k (channels s earlier)) (is_removed s earlier k x) (sym (known-next s earlier x k) ∙ e)
    (λ i m. rw (kept-unknown s earlier k c i, stored-unknown s earlier x k c i) (next-nothing (size s k (x ∷ earlier)) (emptied s k earlier x)))
    (λ r. rw (emptied-removed s earlier x k (removes-channel s earlier x k c ∙ r), removed_unstored s earlier x k (sym (removed-is s earlier k x) ∙ r)) (keep_last-nil (size s k (x ∷ earlier))))

-- ---- queries

-- a query that is unknown now either was unknown before and is not made, or was pushed out
query_gone : (s : Settings) (earlier : List Command) (x : Command) (k : List ℕ) (was : Bool) → is_in k (queries s earlier) ≡ was → is_in k (queries s (x ∷ earlier)) ≡ false
    → is_pushed_out s earlier k x ≡ was
unfolding is_pushed_out
query_gone s earlier x k true e f = rw (e, f) refl
query_gone s earlier x k false e f = rw e refl

made_at_by : (k q : List ℕ) (names : List (List ℕ)) (n : ℕ) (b : Bool) → 1 ≤ n → length names ≤ n → is_in (fold_name q) names ≡ b → at_key k q ≡ true → is_in k (newest n (with_new (Some q) names)) ≡ true
made_at_by k q names n true h l e f = rw (e, newest-all n names l) (ap (λ key. is_in key names) (key_is k q f) ∙ e)
made_at_by k q names n false h l e f = rw e (newest-last k q n names h f)

made_at_some : (k : List ℕ) (m : Option (List ℕ)) (names : List (List ℕ)) (n : ℕ) (b : Bool) → 1 ≤ n → length names ≤ n → is_made_at k m ≡ b → is_in k (newest n (with_new m names)) ≡ false → b ≡ false
made_at_some k m names n false h l e f = refl
made_at_some k None names n true h l e f = cc
made_at_some k (Some q) names n true h l e f = absurd (let t = made_at_by k q names n (is_in (fold_name q) names) h l refl e in cc)

-- a query in which a command stores a line is known after it
pub stored-known : (s : Settings) → IsSound s → (earlier : List Command) (x : Command) (k : List ℕ) → is_in k (queries s (x ∷ earlier)) ≡ false → is_made_at k (stored_query s earlier x) ≡ false
stored-known s sound earlier x k e =
    made_at_some k (stored_query s earlier x) (queries s earlier) s.most_queries (is_made_at k (stored_query s earlier x)) sound.some_query (queries-fit s earlier) refl (ap (is_in k) (sym (queries-more s earlier x)) ∙ e)

stored_none_at : (b : Bool) (o : Option (ℕ × Parts)) → b ≡ false → line_if b o ≡ None
stored_none_at b None e = refl
stored_none_at b (Some line) e = rw e refl

unstored-query : (s : Settings) → IsSound s → (earlier : List Command) (x : Command) (k : List ℕ) → is_channel k ≡ false → is_in k (queries s (x ∷ earlier)) ≡ false → stored s k earlier x ≡ None
unstored-query s sound earlier x k c e =
    stored-query s sound earlier x k c ∙ stored_none_at (is_made_at k (stored_query s earlier x)) (said (attached s earlier) (nick s earlier) x) (stored-known s sound earlier x k e)

pub removes-query : (s : Settings) (earlier : List Command) (x : Command) (k : List ℕ) → is_channel k ≡ false → removes_target s earlier k x ≡ is_pushed_out s earlier k x
unfolding removes_target
removes-query s earlier x k c = rw c refl

first-query : (s : Settings) (k : List ℕ) → is_channel k ≡ false → first_size s k ≡ s.query_size
first-query s k c = rw c refl

size_query_by : (s : Settings) → IsSound s → (earlier : List Command) (x : Command) (k : List ℕ) (was : Bool) → is_channel k ≡ false → is_in k (queries s earlier) ≡ was → (was ≡ false → size s k earlier ≡ s.query_size)
    → (if was then first_size s k else size_after (attached s earlier) (is_known s earlier k) k (size s k earlier) x) ≡ s.query_size
size_query_by s sound earlier x k true c i ih = first-query s k c
size_query_by s sound earlier x k false c i ih = rw (known-query s sound earlier k c, i) (size_unknown (attached s earlier) k (size s k earlier) x ∙ ih refl)

-- an unknown query begins with the setup's size
pub query-size-unknown : (s : Settings) → IsSound s → (history : List Command) (k : List ℕ) → is_channel k ≡ false → is_in k (queries s history) ≡ false → size s k history ≡ s.query_size
query-size-unknown s sound [] k c e = size-first s k ∙ first-query s k c
query-size-unknown s sound (x ∷ earlier) k c e =
    size-more s earlier x k
    ∙ (ap (λ b. if b then first_size s k else size_after (attached s earlier) (is_known s earlier k) k (size s k earlier) x) (removes-query s earlier x k c ∙ query_gone s earlier x k (is_in k (queries s earlier)) refl e)
    ∙ size_query_by s sound earlier x k (is_in k (queries s earlier)) c refl (λ i. query-size-unknown s sound earlier k c i))

kept_query_by : (s : Settings) → IsSound s → (earlier : List Command) (x : Command) (k : List ℕ) (was : Bool) → is_channel k ≡ false → is_in k (queries s earlier) ≡ was → is_in k (queries s (x ∷ earlier)) ≡ false
    → (was ≡ false → kept s earlier k ≡ []) → next (size s k (x ∷ earlier)) (kept s earlier k) (emptied s k earlier x) None ≡ []
kept_query_by s sound earlier x k true c i e ih =
    rw (emptied-removed s earlier x k (removes-query s earlier x k c ∙ query_gone s earlier x k true i e)) (keep_last-nil (size s k (x ∷ earlier)))
kept_query_by s sound earlier x k false c i e ih = rw (ih refl) (next-nothing (size s k (x ∷ earlier)) (emptied s k earlier x))

-- and it keeps nothing
pub query-kept-unknown : (s : Settings) → IsSound s → (history : List Command) (k : List ℕ) → is_channel k ≡ false → is_in k (queries s history) ≡ false → kept s history k ≡ []
query-kept-unknown s sound [] k c e = kept-none s k
query-kept-unknown s sound (x ∷ earlier) k c e =
    kept-next s earlier x k
    ∙ (ap (λ o. next (size s k (x ∷ earlier)) (kept s earlier k) (emptied s k earlier x) o) (unstored-query s sound earlier x k c e)
    ∙ kept_query_by s sound earlier x k (is_in k (queries s earlier)) c refl e (λ i. query-kept-unknown s sound earlier k c i))

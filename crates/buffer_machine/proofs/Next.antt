-- What is held of a channel, and of a query, after one more command.
use Rattle.std.proofs.Common.{◌≡◌, ℕ, ◌-◌, List, [], ◌∷◌, map, length, refl, ap, sym, ◌∙◌, Bool, true, false, not, ◌&&◌, ◌||◌}
use Rattle.std.specs.Prelude.{Option, None, Some, if◌then◌else◌, codes}
use Rattle.irc_line.specs.Names.{fold_name, is_channel}
use Rattle.irc_line.specs.Keys.{at_key, is_in}
use Rattle.irc_line.specs.Lines.{Parts, parameter}
use Rattle.irc_line.proofs.Booleans.{and_left, and_right, and_false, and_true, or_true, or_false}
use Rattle.irc_line.proofs.Order.{own_key, key_is}
use Rattle.buffer_lines.specs.Stamps.{ring}
use Rattle.buffer_targets.specs.Targets.{ChannelLines, TargetLines, channel, none_seen, target, pushed}
use Rattle.buffer_commands.specs.Settings.{Settings}
use Rattle.buffer_commands.specs.declared.command.Command.{Command}
use Rattle.buffer_commands.specs.declared.command.Command.TheVariants.{Upstream}
use Rattle.buffer_machine.specs.Messages.{has_command, is_by, is_own, is_own_kick, is_query_name}
use Rattle.buffer_machine.specs.Buffers.{clears, empties, removes_target, keeps, nick, channels, queries, is_known, joined, joined_after, detached, detached_after, size, first_size, size_after, said, stored, stored_query, emptied, is_cleared, plays, kept, is_removed, is_own_at, is_pushed_out}
use Rattle.circular_buffer.specs.Buffer.{keep_last}
use Rattle.buffer_machine.specs.Crowd.{attached, holds, id_of, ids, takes}
use Rattle.buffer_machine.specs.Marks.{is_shown_to, seen}
use Rattle.buffer_machine.specs.Held.{IsSound, channel_held, for_each, names_held, seen_held, target_held}
use Rattle.buffer_machine.specs.NameSteps.{here_of}
use Rattle.buffer_machine.proofs.NamesStep.{here-is}
use Rattle.buffer_machine.proofs.SeenLists.{nothing_list, pushed_list, seen_list}
use Rattle.buffer_machine.proofs.Folded.{channel-key, query-key}
use Rattle.buffer_machine.proofs.Names.{is_made_at}
use Rattle.buffer_machine.proofs.Standing.{known-channel, known-query}
use Rattle.buffer_machine.proofs.Kept.{next, next-nothing, kept-next, size-more, stored-channel, stored-query, channel_stored, line_if, other_command, not_storable}
use Rattle.buffer_machine.proofs.Unknown.{removes-channel, removed-is, detached-more, detached-unknown, size-unknown, kept-unknown, stored-not_storable, removes-query, query-size-unknown, query-kept-unknown}

-- ---- a channel that stays

abbrev pub channel_empties : Settings → List Command → Bool → List ℕ → Command → Bool
channel_empties s earlier det k x =
    is_cleared (attached s earlier) true k true x || (s.clears_channels && empties (ids s earlier) x && plays (takes s earlier x) (attached s earlier) det k true x)

-- what is held of a channel next, by what was held
abbrev pub next_lines : ℕ → TargetLines → Bool → Option (ℕ × Parts) → List ℕ → TargetLines
next_lines n t emptied stored seen = target t.name (ring (next n t.lines.lines emptied stored) n) seen

abbrev pub next_channel : Settings → List Command → Command → ChannelLines → ChannelLines
next_channel s earlier x c =
    channel
    (next_lines (size_after (attached s earlier) true (fold_name c.target.name) c.target.lines.size x) c.target (channel_empties s earlier c.detached (fold_name c.target.name) x)
    (channel_stored (keeps s.clears_channels (attached s earlier) (ids s earlier) || c.detached) (fold_name c.target.name) (said (attached s earlier) (nick s earlier) x))
    (seen_held s (x ∷ earlier) (fold_name c.target.name)))
    (joined_after (nick s earlier) (fold_name c.target.name) c.joined x)
    (detached_after (attached s earlier) true (fold_name c.target.name) c.detached x)

pub size-channel : (s : Settings) (earlier : List Command) (x : Command) (k : List ℕ) → is_channel k ≡ true → is_in k (channels s earlier) ≡ true → is_removed s earlier k x ≡ false
    → size s k (x ∷ earlier) ≡ size_after (attached s earlier) true k (size s k earlier) x
size-channel s earlier x k c i r =
    size-more s earlier x k
    ∙ (ap (λ b. if b then first_size s k else size_after (attached s earlier) (is_known s earlier k) k (size s k earlier) x) (removes-channel s earlier x k c ∙ r)
    ∙ ap (λ b. size_after (attached s earlier) b k (size s k earlier) x) (known-channel s earlier k c ∙ i))

pub emptied-channel : (s : Settings) (earlier : List Command) (x : Command) (k : List ℕ) → is_channel k ≡ true → is_in k (channels s earlier) ≡ true → is_removed s earlier k x ≡ false
    → emptied s k earlier x ≡ channel_empties s earlier (detached s earlier k) k x
unfolding emptied
emptied-channel s earlier x k c i r =
    rw (removes-channel s earlier x k c, r, known-channel s earlier k c, i, c)
    (or_false (channel_empties s earlier (detached s earlier k) k x))

detached-stays : (s : Settings) (earlier : List Command) (x : Command) (k : List ℕ) → is_in k (channels s earlier) ≡ true → is_removed s earlier k x ≡ false
    → detached s (x ∷ earlier) k ≡ detached_after (attached s earlier) true k (detached s earlier k) x
detached-stays s earlier x k i r =
    detached-more s earlier x k
    ∙ (ap (λ b. detached_after (attached s earlier) (is_in k (channels s earlier)) k (detached s earlier k) x && not b) r
    ∙ (and_true (detached_after (attached s earlier) (is_in k (channels s earlier)) k (detached s earlier k) x)
    ∙ ap (λ b. detached_after (attached s earlier) b k (detached s earlier k) x) i))

joined-more : (s : Settings) (earlier : List Command) (x : Command) (k : List ℕ) → joined s (x ∷ earlier) k ≡ joined_after (nick s earlier) k (joined s earlier k) x
unfolding joined
joined-more s earlier x k = refl

kept-channel : (s : Settings) (earlier : List Command) (x : Command) (k : List ℕ) → is_channel k ≡ true → is_in k (channels s earlier) ≡ true → is_removed s earlier k x ≡ false
    → kept s (x ∷ earlier) k
    ≡ next (size_after (attached s earlier) true k (size s k earlier) x) (kept s earlier k)
    (channel_empties s earlier (detached s earlier k) k x)
    (channel_stored (keeps s.clears_channels (attached s earlier) (ids s earlier) || detached s earlier k) k (said (attached s earlier) (nick s earlier) x))
kept-channel s earlier x k c i r =
    kept-next s earlier x k
    ∙ rw (size-channel s earlier x k c i r, emptied-channel s earlier x k c i r, stored-channel s earlier x k c i) refl

pub channel-next : (s : Settings) (earlier : List Command) (x : Command) (c : List ℕ) → is_channel c ≡ true → is_in (fold_name c) (channels s earlier) ≡ true → is_removed s earlier (fold_name c) x ≡ false
    → channel_held s (x ∷ earlier) c ≡ next_channel s earlier x (channel_held s earlier c)
channel-next s earlier x c f i r =
    let k = channel-key c f in
    rw (kept-channel s earlier x (fold_name c) k i r, size-channel s earlier x (fold_name c) k i r, joined-more s earlier x (fold_name c), detached-stays s earlier x (fold_name c) i r) refl

plays_at : (s : Settings) (earlier : List Command) (x : Command) (k : List ℕ) → is_channel k ≡ true → is_in k (channels s earlier) ≡ true
    → plays (takes s earlier x) (attached s earlier) (is_channel k && detached s earlier k) k (is_known s earlier k) x ≡ plays (takes s earlier x) (attached s earlier) (detached s earlier k) k true x
plays_at s earlier x k c i = rw (known-channel s earlier k c, i, c) refl

-- how much each name has seen of a channel, where a command stores nothing in it
pub seen-channel : (s : Settings) → IsSound s → (earlier : List Command) (x : Command) (c told : List ℕ) → is_channel c ≡ true → is_in (fold_name c) (channels s earlier) ≡ true → is_removed s earlier (fold_name c) x ≡ false
    → stored s (fold_name c) earlier x ≡ None → size_after (attached s earlier) true (fold_name c) (size s (fold_name c) earlier) x ≡ size s (fold_name c) earlier
    → (plays (takes s earlier x) (attached s earlier) (detached s earlier (fold_name c)) (fold_name c) true x ≡ true
    → told ≡ for_each (λ id. if is_shown_to id (holds s earlier id) (id_of s earlier) x then length (kept s earlier (fold_name c)) else seen s earlier id (fold_name c) - 0) 64 (ids s (x ∷ earlier)))
    → (if channel_empties s earlier (detached s earlier (fold_name c)) (fold_name c) x then none_seen
    else if plays (takes s earlier x) (attached s earlier) (detached s earlier (fold_name c)) (fold_name c) true x then told else seen_held s earlier (fold_name c)) ≡ seen_held s (x ∷ earlier) (fold_name c)
seen-channel s sound earlier x c told f i r o z h =
    let k = channel-key c f in
    seen_list s sound earlier x (fold_name c) told (channel_empties s earlier (detached s earlier (fold_name c)) (fold_name c) x) (plays (takes s earlier x) (attached s earlier) (detached s earlier (fold_name c)) (fold_name c) true x)
    (emptied-channel s earlier x (fold_name c) k i r) o (size-channel s earlier x (fold_name c) k i r ∙ z) (plays_at s earlier x (fold_name c) k i) h

-- nothing is stored where nothing is said
pub unsaid : (s : Settings) (earlier : List Command) (x : Command) (k : List ℕ) → said (attached s earlier) (nick s earlier) x ≡ None → stored s k earlier x ≡ None
unfolding stored
unsaid s earlier x k e = rw e refl

-- ---- a channel that is made

-- for a JOIN by the own nick
join_word : (own : List ℕ) (line : Parts) → is_own (codes "JOIN") own line ≡ true → has_command (codes "JOIN") line ≡ true
join_word own line e = and_left _ (is_by own line) (and_left _ (is_channel (parameter 0 line)) e)

join_channel : (own : List ℕ) (line : Parts) → is_own (codes "JOIN") own line ≡ true → is_channel (parameter 0 line) ≡ true
join_channel own line e = and_right (has_command (codes "JOIN") line && is_by own line) _ e

-- it is neither a PART nor a KICK
pub no_part : (own k : List ℕ) (line : Parts) → is_own (codes "JOIN") own line ≡ true → is_own_at (codes "PART") own k line ≡ false
no_part own k line e = rw (other_command (codes "JOIN") (codes "PART") line (join_word own line e) refl) refl

pub no_kick : (own : List ℕ) (line : Parts) → is_own (codes "JOIN") own line ≡ true → is_own_kick own line ≡ false
no_kick own line e = rw (other_command (codes "JOIN") (codes "KICK") line (join_word own line e) refl) refl

pub join_removes : (s : Settings) (earlier : List Command) (at : ℕ) (line : Parts) (k : List ℕ) → is_own (codes "JOIN") (nick s earlier) line ≡ true → is_removed s earlier k (Upstream at line) ≡ false
join_removes s earlier at line k e = removed-is s earlier k (Upstream at line) ∙ no_part (nick s earlier) k line e

size_made : (s : Settings) (earlier : List Command) (at : ℕ) (line : Parts) (k : List ℕ) → is_channel k ≡ true → is_in k (channels s earlier) ≡ false → is_removed s earlier k (Upstream at line) ≡ false
    → size s k (Upstream at line ∷ earlier) ≡ s.channel_size
size_made s earlier at line k c u r =
    size-more s earlier (Upstream at line) k
    ∙ (ap (λ b. if b then first_size s k else size s k earlier) (removes-channel s earlier (Upstream at line) k c ∙ r)
    ∙ size-unknown s earlier k c u)

kept_made : (s : Settings) (earlier : List Command) (at : ℕ) (line : Parts) → is_own (codes "JOIN") (nick s earlier) line ≡ true → (k : List ℕ) → is_channel k ≡ true → is_in k (channels s earlier) ≡ false
    → kept s (Upstream at line ∷ earlier) k ≡ []
kept_made s earlier at line e k c u =
    kept-next s earlier (Upstream at line) k
    ∙ rw (kept-unknown s earlier k c u, stored-not_storable s earlier at line k (not_storable (codes "JOIN") line (join_word (nick s earlier) line e) refl refl))
    (next-nothing (size s k (Upstream at line ∷ earlier)) (emptied s k earlier (Upstream at line)))

joined_by_join : (own k : List ℕ) (was : Bool) (at : ℕ) (line : Parts) → is_own (codes "JOIN") own line ≡ true → at_key k (parameter 0 line) ≡ true → joined_after own k was (Upstream at line) ≡ true
joined_by_join own k was at line e f = rw (no_part own k line e, no_kick own line e, e, f) (ap (λ b. b && true && true) (or_true was))

detached_made : (s : Settings) (earlier : List Command) (at : ℕ) (line : Parts) (k : List ℕ) → is_in k (channels s earlier) ≡ false → detached s (Upstream at line ∷ earlier) k ≡ false
detached_made s earlier at line k u = detached-more s earlier (Upstream at line) k ∙ rw (detached-unknown s earlier k u) refl

-- JOIN by the own nick makes a channel that is joined, and nothing is kept of it yet
pub channel-made : (s : Settings) (earlier : List Command) (at : ℕ) (line : Parts) → is_own (codes "JOIN") (nick s earlier) line ≡ true → is_in (fold_name (parameter 0 line)) (channels s earlier) ≡ false
    → channel_held s (Upstream at line ∷ earlier) (parameter 0 line) ≡ channel (target (parameter 0 line) (ring [] s.channel_size) none_seen) true false
channel-made s earlier at line e u =
    let k = channel-key (parameter 0 line) (join_channel (nick s earlier) line e) in
    let r = join_removes s earlier at line (fold_name (parameter 0 line)) e in
    rw (
      ← nothing_list s (Upstream at line ∷ earlier) (fold_name (parameter 0 line)) (kept_made s earlier at line e (fold_name (parameter 0 line)) k u),
      kept_made s earlier at line e (fold_name (parameter 0 line)) k u,
      size_made s earlier at line (fold_name (parameter 0 line)) k u r,
      joined-more s earlier (Upstream at line) (fold_name (parameter 0 line)),
      joined_by_join (nick s earlier) (fold_name (parameter 0 line)) (joined s earlier (fold_name (parameter 0 line))) at line e (own_key (parameter 0 line)),
      detached_made s earlier at line (fold_name (parameter 0 line)) u,
    ) refl

-- ---- a query

abbrev pub query_empties : Settings → List Command → List ℕ → Command → Bool
query_empties s earlier k x =
    is_cleared (attached s earlier) false k true x || (s.clears_queries && empties (ids s earlier) x && plays (takes s earlier x) (attached s earlier) false k true x)

-- what is held of a query next
abbrev pub next_query : Settings → List Command → Command → TargetLines → TargetLines
next_query s earlier x t =
    next_lines (size_after (attached s earlier) true (fold_name t.name) t.lines.size x) t (query_empties s earlier (fold_name t.name) x)
    (line_if (is_made_at (fold_name t.name) (stored_query s earlier x)) (said (attached s earlier) (nick s earlier) x)) (seen_held s (x ∷ earlier) (fold_name t.name))

pub stays_in : (s : Settings) (earlier : List Command) (x : Command) (k : List ℕ) → is_in k (queries s (x ∷ earlier)) ≡ true → is_pushed_out s earlier k x ≡ false
unfolding is_pushed_out
stays_in s earlier x k e = rw e (and_false (is_in k (queries s earlier)))

pub size-query : (s : Settings) → IsSound s → (earlier : List Command) (x : Command) (k : List ℕ) → is_channel k ≡ false → is_in k (queries s earlier) ≡ true → is_in k (queries s (x ∷ earlier)) ≡ true
    → size s k (x ∷ earlier) ≡ size_after (attached s earlier) true k (size s k earlier) x
size-query s sound earlier x k c i j =
    size-more s earlier x k
    ∙ (ap (λ b. if b then first_size s k else size_after (attached s earlier) (is_known s earlier k) k (size s k earlier) x) (removes-query s earlier x k c ∙ stays_in s earlier x k j)
    ∙ ap (λ b. size_after (attached s earlier) b k (size s k earlier) x) (known-query s sound earlier k c ∙ i))

pub emptied-query : (s : Settings) → IsSound s → (earlier : List Command) (x : Command) (k : List ℕ) → is_channel k ≡ false → is_in k (queries s earlier) ≡ true → is_in k (queries s (x ∷ earlier)) ≡ true
    → emptied s k earlier x ≡ query_empties s earlier k x
unfolding emptied
emptied-query s sound earlier x k c i j =
    rw (removes-query s earlier x k c, stays_in s earlier x k j, known-query s sound earlier k c, i, c)
    (or_false (query_empties s earlier k x))

pub query-next : (s : Settings) → IsSound s → (earlier : List Command) (x : Command) (q : List ℕ) → is_query_name q ≡ true → is_in (fold_name q) (queries s earlier) ≡ true → is_in (fold_name q) (queries s (x ∷ earlier)) ≡ true
    → target_held s (x ∷ earlier) q ≡ next_query s earlier x (target_held s earlier q)
query-next s sound earlier x q f i j =
    let c = query-key q f in
    rw (kept-next s earlier x (fold_name q), size-query s sound earlier x (fold_name q) c i j, emptied-query s sound earlier x (fold_name q) c i j, stored-query s sound earlier x (fold_name q) c) refl

query_plays_at : (s : Settings) → IsSound s → (earlier : List Command) (x : Command) (k : List ℕ) → is_channel k ≡ false → is_in k (queries s earlier) ≡ true
    → plays (takes s earlier x) (attached s earlier) (is_channel k && detached s earlier k) k (is_known s earlier k) x ≡ plays (takes s earlier x) (attached s earlier) false k true x
query_plays_at s sound earlier x k c i = rw (known-query s sound earlier k c, i, c) refl

-- how much each name has seen of a query, where a command stores nothing in it
pub seen-query : (s : Settings) → IsSound s → (earlier : List Command) (x : Command) (q told : List ℕ) → is_query_name q ≡ true → is_in (fold_name q) (queries s earlier) ≡ true → is_in (fold_name q) (queries s (x ∷ earlier)) ≡ true
    → stored s (fold_name q) earlier x ≡ None → size_after (attached s earlier) true (fold_name q) (size s (fold_name q) earlier) x ≡ size s (fold_name q) earlier
    → (plays (takes s earlier x) (attached s earlier) false (fold_name q) true x ≡ true
    → told ≡ for_each (λ id. if is_shown_to id (holds s earlier id) (id_of s earlier) x then length (kept s earlier (fold_name q)) else seen s earlier id (fold_name q) - 0) 64 (ids s (x ∷ earlier)))
    → (if query_empties s earlier (fold_name q) x then none_seen
    else if plays (takes s earlier x) (attached s earlier) false (fold_name q) true x then told else seen_held s earlier (fold_name q)) ≡ seen_held s (x ∷ earlier) (fold_name q)
seen-query s sound earlier x q told f i j o z h =
    let c = query-key q f in
    seen_list s sound earlier x (fold_name q) told (query_empties s earlier (fold_name q) x) (plays (takes s earlier x) (attached s earlier) false (fold_name q) true x)
    (emptied-query s sound earlier x (fold_name q) c i j) o (size-query s sound earlier x (fold_name q) c i j ∙ z) (query_plays_at s sound earlier x (fold_name q) c i) h

-- ---- a query that is made

next_first : (n : ℕ) (e : Bool) (line : ℕ × Parts) → next n [] e (Some line) ≡ keep_last n (line ∷ [])
next_first n true line = refl
next_first n false line = refl

not_pushed : (s : Settings) (earlier : List Command) (x : Command) (k : List ℕ) → is_in k (queries s earlier) ≡ false → is_pushed_out s earlier k x ≡ false
unfolding is_pushed_out
not_pushed s earlier x k u = rw u refl

-- the size with which a query begins
pub query-size-made : (s : Settings) → IsSound s → (earlier : List Command) (x : Command) (k : List ℕ) → is_channel k ≡ false → is_in k (queries s earlier) ≡ false
    → ((b : Bool) (n : ℕ) → size_after (attached s earlier) b k n x ≡ n) → size s k (x ∷ earlier) ≡ s.query_size
query-size-made s sound earlier x k c u h =
    size-more s earlier x k
    ∙ (ap (λ b. if b then first_size s k else size_after (attached s earlier) (is_known s earlier k) k (size s k earlier) x) (removes-query s earlier x k c ∙ not_pushed s earlier x k u)
    ∙ (h (is_known s earlier k) (size s k earlier) ∙ query-size-unknown s sound earlier k c u))

here_now : (s : Settings) (h : List Command) (hidden : Bool) (is : List (List ℕ)) → hidden ≡ false → map (holds s h) is ≡ map (λ id. holds s h id && not hidden) is
here_now s h true is e = cc
here_now s h false [] e = refl
here_now s h false (id ∷ is) e = ap (λ b. b ∷ map (holds s h) is) (sym (and_true (holds s h id))) ∙ ap (λ bs. (holds s h id && true) ∷ bs) (here_now s h false is e)

-- those who are here see what comes for a target that is no channel
pub shown_here : (s : Settings) (h : List Command) (k : List ℕ) → is_channel k ≡ false → here_of (names_held s h) ≡ map (λ id. holds s h id && not (is_channel k && detached s h k)) (ids s h)
shown_here s h k c = here-is s h ∙ here_now s h (is_channel k && detached s h k) (ids s h) (rw c refl)

-- a command that does nothing except that its line is stored
pub record StoresAlone (s : Settings) (earlier : List Command) (x : Command) : Type 0 where
  pub plays_none : (det known : Bool) (k : List ℕ) → plays (takes s earlier x) (attached s earlier) det k known x ≡ false
  pub clears_none : (c known : Bool) (k : List ℕ) → is_cleared (attached s earlier) c k known x ≡ false
  pub sizes_none : (b : Bool) (k : List ℕ) (n : ℕ) → size_after (attached s earlier) b k n x ≡ n
  pub names_none : ids s (x ∷ earlier) ≡ ids s earlier

-- it therefore empties no target that it does not remove
pub stores-empties : (s : Settings) (earlier : List Command) (x : Command) (k : List ℕ) → StoresAlone s earlier x → removes_target s earlier k x ≡ false → emptied s k earlier x ≡ false
unfolding emptied
stores-empties s earlier x k a r =
    rw (r, a.plays_none (is_channel k && detached s earlier k) (is_known s earlier k) k, a.clears_none (is_channel k) (is_known s earlier k) k) (ap (λ b. b || false) (and_false (clears s k && empties (ids s earlier) x)))

-- the query of a name keeps its first line
pub query-made : (s : Settings) → IsSound s → (earlier : List Command) (x : Command) (c q : List ℕ) (line : ℕ × Parts) → is_query_name q ≡ true → at_key (fold_name c) q ≡ true → is_in (fold_name q) (queries s earlier) ≡ false
    → stored_query s earlier x ≡ Some q → said (attached s earlier) (nick s earlier) x ≡ Some line → StoresAlone s earlier x
    → target_held s (x ∷ earlier) c ≡ pushed line (here_of (names_held s earlier)) (target c (ring [] s.query_size) none_seen)
query-made s sound earlier x c q line f same u m l z =
    let here : is_channel (fold_name c) ≡ false = ap is_channel (key_is (fold_name c) q same) ∙ query-key q f in
    let new : is_in (fold_name c) (queries s earlier) ≡ false = ap (λ k. is_in k (queries s earlier)) (key_is (fold_name c) q same) ∙ u in
    let nothing : kept s earlier (fold_name c) ≡ [] = query-kept-unknown s sound earlier (fold_name c) here new in
    let stays : removes_target s earlier (fold_name c) x ≡ false = removes-query s earlier x (fold_name c) here ∙ not_pushed s earlier x (fold_name c) new in
    let stores : stored s (fold_name c) earlier x ≡ Some line = stored-query s sound earlier x (fold_name c) here ∙ rw (m, l, same) refl in
    let sized : size s (fold_name c) (x ∷ earlier) ≡ s.query_size = query-size-made s sound earlier x (fold_name c) here new (λ b n. z.sizes_none b (fold_name c) n) in
    let told = pushed_list s earlier x (fold_name c) line s.query_size (here_of (names_held s earlier)) (stores-empties s earlier x (fold_name c) z stays) stores sized
    (z.plays_none (is_channel (fold_name c) && detached s earlier (fold_name c)) (is_known s earlier (fold_name c)) (fold_name c)) z.names_none (shown_here s earlier (fold_name c) here) in
    rw (kept-next s earlier x (fold_name c), sized, nothing, stores, next_first s.query_size (emptied s (fold_name c) earlier x) line)
    (ap (target c (ring (keep_last s.query_size (line ∷ [])) s.query_size)) (sym (rw (nothing, ← nothing_list s earlier (fold_name c) nothing) at told)))

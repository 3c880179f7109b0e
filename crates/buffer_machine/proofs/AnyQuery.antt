-- The machine holds the queries of a history after one step, whatever the command.
use Rattle.std.proofs.Common.{◌≡◌, ℕ, ◌-◌, List, ◌∷◌, map, length, refl, ap, ◌∙◌, Bool, true, false, not, ◌&&◌}
use Rattle.std.specs.Prelude.{Some, if◌then◌else◌}
use Rattle.irc_line.specs.Names.{fold_name}
use Rattle.irc_line.specs.Keys.{at_key, is_in}
use Rattle.irc_line.proofs.Booleans.{and_false}
use Rattle.irc_line.proofs.Order.{at_key-sym}
use Rattle.buffer_targets.specs.Targets.{counted, fewer, cleared, resized, has_name_key, at_query}
use Rattle.buffer_commands.specs.Settings.{Settings}
use Rattle.buffer_commands.specs.declared.command.Action.TheVariants.{Attach, Leave, Say, Join, Part, Detach, Reattach, Play, Clear, ClearChannels, ClearQueries, ClearAll, SetBuffer, Pass}
use Rattle.buffer_commands.specs.declared.command.Command.{Command}
use Rattle.buffer_commands.specs.declared.command.Command.TheVariants.{Client, Upstream, NodeGone, Up, Down}
use Rattle.buffer_machine.specs.Messages.{is_among, is_query_name}
use Rattle.buffer_machine.specs.Buffers.{emptied, nick, queries, size, kept, is_past, said}
use Rattle.wire_bytes.specs.declared.origin.Origin.{Origin}
use Rattle.buffer_machine.specs.Crowd.{attached, takes}
use Rattle.buffer_machine.specs.Steps.{after_play, queries_after, reader_named, reader_of}
use Rattle.buffer_machine.specs.Held.{IsSound, target_held, held, names_held, seen_held}
use Rattle.buffer_machine.proofs.Folded.{query-key}
use Rattle.buffer_machine.proofs.ChannelsStep.{attach_told, clears_named, clears_same, play_told}
use Rattle.buffer_machine.proofs.SeenLists.{sized_told}
use Rattle.buffer_machine.proofs.Next.{emptied-query, seen-query, size-query, unsaid}
use Rattle.buffer_machine.proofs.Pointwise.{if_map}
use Rattle.buffer_machine.proofs.OneQuery.{same_query, attach_query, play_query, again_query, clear_query_one, clear_channels_query, clear_queries_query, clear_all_query, size_query_one}
use Rattle.buffer_machine.proofs.ChannelsCome.{line_alone, said_alone}
use Rattle.buffer_machine.proofs.AnyChannel.{floor_now}
use Rattle.buffer_machine.proofs.QueriesStep.{empties_queries, fits, lines, mapped_query, nothing_new, query_told, quiet_queries, storing_queries}

-- ---- any command

-- a channel that is attached again is no query
again_none : (asks k : Bool) → (asks && true && false && k) ≡ true → false ≡ true
again_none true k e = e
again_none false k e = e

size_query_told : (s : Settings) → IsSound s → (earlier : List Command) (o : Origin) (at : ℕ) (t : List ℕ) (n : ℕ) (q : List ℕ) (b : Bool) → is_query_name q ≡ true → is_in (fold_name q) (queries s earlier) ≡ true
    → is_in (fold_name q) (queries s (Client o at (SetBuffer t n) ∷ earlier)) ≡ true → (is_among o (attached s earlier) && not (is_past n) && true && at_key (fold_name q) t) ≡ b
    → (if b then fewer (length (kept s earlier (fold_name q)) - n) (seen_held s earlier (fold_name q)) else seen_held s earlier (fold_name q)) ≡ seen_held s (Client o at (SetBuffer t n) ∷ earlier) (fold_name q)
size_query_told s sound earlier o at t n q b f i j e =
    let k = query-key q f in
    let size_is : size s (fold_name q) (Client o at (SetBuffer t n) ∷ earlier) ≡ (if b then n else size s (fold_name q) earlier) = size-query s sound earlier (Client o at (SetBuffer t n)) (fold_name q) k i j ∙ rw e refl in
    let none : emptied s (fold_name q) earlier (Client o at (SetBuffer t n)) ≡ false = emptied-query s sound earlier (Client o at (SetBuffer t n)) (fold_name q) k i j ∙ and_false (empties_queries s earlier (Client o at (SetBuffer t n))) in
    sized_told s sound earlier (Client o at (SetBuffer t n)) (fold_name q) n b none (unsaid s earlier (Client o at (SetBuffer t n)) (fold_name q) refl) size_is refl

pub queries-step : (s : Settings) → IsSound s → (earlier : List Command) (x : Command)
    → queries_after s (floor_now earlier x) (held s earlier) x ≡ map (target_held s (x ∷ earlier)) (queries s (x ∷ earlier))
queries-step s sound earlier (Client o at (Attach id)) =
    ap (λ b. if takes s earlier (Client o at (Attach id)) then map (after_play b (reader_named id (names_held s earlier))) (map (target_held s earlier) (queries s earlier)) else map (target_held s earlier) (queries s earlier)) (clears_named s.clears_queries (names_held s earlier) o at id)
    ∙ (if_map (takes s earlier (Client o at (Attach id))) (after_play (empties_queries s earlier (Client o at (Attach id))) (reader_named id (names_held s earlier))) (map (target_held s earlier) (queries s earlier))
    ∙ mapped_query s sound earlier (Client o at (Attach id)) (λ t. if takes s earlier (Client o at (Attach id)) then after_play (empties_queries s earlier (Client o at (Attach id))) (reader_named id (names_held s earlier)) t else t) (nothing_new s earlier (Client o at (Attach id)) refl)
    (λ q f i j. attach_query q (lines s earlier q) (size s (fold_name q) earlier) (fits s earlier q) (seen_held s earlier (fold_name q)) (seen_held s (Client o at (Attach id) ∷ earlier) (fold_name q)) (reader_named id (names_held s earlier)) (takes s earlier (Client o at (Attach id))) (empties_queries s earlier (Client o at (Attach id)))
    (seen-query s sound earlier (Client o at (Attach id)) q (counted (length (kept s earlier (fold_name q))) 0 (reader_named id (names_held s earlier)) (seen_held s earlier (fold_name q))) f i j (unsaid s earlier (Client o at (Attach id)) (fold_name q) refl) refl (attach_told s earlier o at id (fold_name q) false))))
queries-step s sound earlier (Client o at Leave) = quiet_queries s sound earlier (Client o at Leave) refl (λ q f i j. same_query q (lines s earlier q) (size s (fold_name q) earlier) (fits s earlier q) (seen_held s earlier (fold_name q)) (seen_held s (Client o at Leave ∷ earlier) (fold_name q)) (empties_queries s earlier (Client o at Leave) && false) (and_false (empties_queries s earlier (Client o at Leave))) (query_told s sound earlier (Client o at Leave) q f i j (unsaid s earlier (Client o at Leave) (fold_name q) refl) refl refl))
queries-step s sound earlier (Client o at (Say verb name text)) =
    storing_queries s sound earlier (Client o at (Say verb name text)) (said (attached s earlier) (nick s earlier) (Client o at (Say verb name text))) (λ q. refl, said_alone s earlier o at verb name text) refl
queries-step s sound earlier (Client o at (Join t)) =
    quiet_queries s sound earlier (Client o at (Join t)) refl (λ q f i j. again_query q (lines s earlier q) (size s (fold_name q) earlier) (fits s earlier q) (seen_held s earlier (fold_name q)) (seen_held s (Client o at (Join t) ∷ earlier) (fold_name q)) (seen_held s earlier (fold_name q)) (is_among o (attached s earlier)) (empties_queries s earlier (Client o at (Join t))) (at_key (fold_name q) t) (seen-query s sound earlier (Client o at (Join t)) q (seen_held s earlier (fold_name q)) f i j (unsaid s earlier (Client o at (Join t)) (fold_name q) refl) refl (λ e. absurd (let n = again_none (is_among o (attached s earlier)) (at_key (fold_name q) t) e in cc))))
queries-step s sound earlier (Client o at (Part t)) = quiet_queries s sound earlier (Client o at (Part t)) refl (λ q f i j. same_query q (lines s earlier q) (size s (fold_name q) earlier) (fits s earlier q) (seen_held s earlier (fold_name q)) (seen_held s (Client o at (Part t) ∷ earlier) (fold_name q)) (empties_queries s earlier (Client o at (Part t)) && false) (and_false (empties_queries s earlier (Client o at (Part t)))) (query_told s sound earlier (Client o at (Part t)) q f i j (unsaid s earlier (Client o at (Part t)) (fold_name q) refl) refl refl))
queries-step s sound earlier (Client o at (Detach t)) = quiet_queries s sound earlier (Client o at (Detach t)) refl (λ q f i j. same_query q (lines s earlier q) (size s (fold_name q) earlier) (fits s earlier q) (seen_held s earlier (fold_name q)) (seen_held s (Client o at (Detach t) ∷ earlier) (fold_name q)) (empties_queries s earlier (Client o at (Detach t)) && false) (and_false (empties_queries s earlier (Client o at (Detach t)))) (query_told s sound earlier (Client o at (Detach t)) q f i j (unsaid s earlier (Client o at (Detach t)) (fold_name q) refl) refl refl))
queries-step s sound earlier (Client o at (Reattach t)) =
    quiet_queries s sound earlier (Client o at (Reattach t)) refl (λ q f i j. again_query q (lines s earlier q) (size s (fold_name q) earlier) (fits s earlier q) (seen_held s earlier (fold_name q)) (seen_held s (Client o at (Reattach t) ∷ earlier) (fold_name q)) (seen_held s earlier (fold_name q)) (is_among o (attached s earlier)) (empties_queries s earlier (Client o at (Reattach t))) (at_key (fold_name q) t) (seen-query s sound earlier (Client o at (Reattach t)) q (seen_held s earlier (fold_name q)) f i j (unsaid s earlier (Client o at (Reattach t)) (fold_name q) refl) refl (λ e. absurd (let n = again_none (is_among o (attached s earlier)) (at_key (fold_name q) t) e in cc))))
queries-step s sound earlier (Client o at (Play t)) =
    ap (λ b. if is_among o (attached s earlier) then at_query (fold_name t) (after_play b (reader_of o (names_held s earlier))) (map (target_held s earlier) (queries s earlier)) else map (target_held s earlier) (queries s earlier)) (clears_same s.clears_queries (names_held s earlier))
    ∙ (if_map (is_among o (attached s earlier)) (λ q. if has_name_key (fold_name t) q then after_play (empties_queries s earlier (Client o at (Play t))) (reader_of o (names_held s earlier)) q else q) (map (target_held s earlier) (queries s earlier))
    ∙ mapped_query s sound earlier (Client o at (Play t)) (λ q. if is_among o (attached s earlier) then (if has_name_key (fold_name t) q then after_play (empties_queries s earlier (Client o at (Play t))) (reader_of o (names_held s earlier)) q else q) else q) (nothing_new s earlier (Client o at (Play t)) refl)
    (λ q f i j. rw (at_key-sym t q) (play_query q (lines s earlier q) (size s (fold_name q) earlier) (fits s earlier q) (seen_held s earlier (fold_name q)) (seen_held s (Client o at (Play t) ∷ earlier) (fold_name q)) (reader_of o (names_held s earlier)) (is_among o (attached s earlier)) (empties_queries s earlier (Client o at (Play t))) (at_key (fold_name q) t)
    (seen-query s sound earlier (Client o at (Play t)) q (counted (length (kept s earlier (fold_name q))) 0 (reader_of o (names_held s earlier)) (seen_held s earlier (fold_name q))) f i j (unsaid s earlier (Client o at (Play t)) (fold_name q) refl) refl (play_told s earlier o at t (fold_name q) (at_key (fold_name q) t))))))
queries-step s sound earlier (Client o at (Clear t)) =
    if_map (is_among o (attached s earlier)) (λ q. if has_name_key (fold_name t) q then cleared q else q) (map (target_held s earlier) (queries s earlier))
    ∙ mapped_query s sound earlier (Client o at (Clear t)) (λ q. if is_among o (attached s earlier) then (if has_name_key (fold_name t) q then cleared q else q) else q) (nothing_new s earlier (Client o at (Clear t)) refl)
    (λ q f i j. rw (at_key-sym t q) (clear_query_one q (lines s earlier q) (size s (fold_name q) earlier) (fits s earlier q) (seen_held s earlier (fold_name q)) (seen_held s (Client o at (Clear t) ∷ earlier) (fold_name q)) (is_among o (attached s earlier)) (empties_queries s earlier (Client o at (Clear t))) (at_key (fold_name q) t) (query_told s sound earlier (Client o at (Clear t)) q f i j (unsaid s earlier (Client o at (Clear t)) (fold_name q) refl) refl refl)))
queries-step s sound earlier (Client o at ClearChannels) =
    quiet_queries s sound earlier (Client o at ClearChannels) refl (λ q f i j. clear_channels_query q (lines s earlier q) (size s (fold_name q) earlier) (fits s earlier q) (seen_held s earlier (fold_name q)) (seen_held s (Client o at ClearChannels ∷ earlier) (fold_name q)) (is_among o (attached s earlier)) (empties_queries s earlier (Client o at ClearChannels)) (query_told s sound earlier (Client o at ClearChannels) q f i j (unsaid s earlier (Client o at ClearChannels) (fold_name q) refl) refl refl))
queries-step s sound earlier (Client o at ClearQueries) =
    if_map (is_among o (attached s earlier)) cleared (map (target_held s earlier) (queries s earlier))
    ∙ mapped_query s sound earlier (Client o at ClearQueries) (λ q. if is_among o (attached s earlier) then cleared q else q) (nothing_new s earlier (Client o at ClearQueries) refl)
    (λ q f i j. clear_queries_query q (lines s earlier q) (size s (fold_name q) earlier) (fits s earlier q) (seen_held s earlier (fold_name q)) (seen_held s (Client o at ClearQueries ∷ earlier) (fold_name q)) (is_among o (attached s earlier)) (empties_queries s earlier (Client o at ClearQueries)) (query_told s sound earlier (Client o at ClearQueries) q f i j (unsaid s earlier (Client o at ClearQueries) (fold_name q) refl) refl refl))
queries-step s sound earlier (Client o at ClearAll) =
    if_map (is_among o (attached s earlier)) cleared (map (target_held s earlier) (queries s earlier))
    ∙ mapped_query s sound earlier (Client o at ClearAll) (λ q. if is_among o (attached s earlier) then cleared q else q) (nothing_new s earlier (Client o at ClearAll) refl)
    (λ q f i j. clear_all_query q (lines s earlier q) (size s (fold_name q) earlier) (fits s earlier q) (seen_held s earlier (fold_name q)) (seen_held s (Client o at ClearAll ∷ earlier) (fold_name q)) (is_among o (attached s earlier)) (empties_queries s earlier (Client o at ClearAll)) (query_told s sound earlier (Client o at ClearAll) q f i j (unsaid s earlier (Client o at ClearAll) (fold_name q) refl) refl refl))
queries-step s sound earlier (Client o at (SetBuffer t n)) =
    if_map (is_among o (attached s earlier) && not (is_past n)) (λ q. if has_name_key (fold_name t) q then resized n q else q) (map (target_held s earlier) (queries s earlier))
    ∙ mapped_query s sound earlier (Client o at (SetBuffer t n)) (λ q. if is_among o (attached s earlier) && not (is_past n) then (if has_name_key (fold_name t) q then resized n q else q) else q) (nothing_new s earlier (Client o at (SetBuffer t n)) refl)
    (λ q f i j. rw (at_key-sym t q) (size_query_one q (lines s earlier q) (size s (fold_name q) earlier) (fits s earlier q) (seen_held s earlier (fold_name q)) (seen_held s (Client o at (SetBuffer t n) ∷ earlier) (fold_name q)) (is_among o (attached s earlier)) (is_past n) (empties_queries s earlier (Client o at (SetBuffer t n))) (at_key (fold_name q) t) n
    (size_query_told s sound earlier o at t n q (is_among o (attached s earlier) && not (is_past n) && true && at_key (fold_name q) t) f i j refl)))
queries-step s sound earlier (Client o at (Pass line)) = quiet_queries s sound earlier (Client o at (Pass line)) refl (λ q f i j. same_query q (lines s earlier q) (size s (fold_name q) earlier) (fits s earlier q) (seen_held s earlier (fold_name q)) (seen_held s (Client o at (Pass line) ∷ earlier) (fold_name q)) (empties_queries s earlier (Client o at (Pass line)) && false) (and_false (empties_queries s earlier (Client o at (Pass line)))) (query_told s sound earlier (Client o at (Pass line)) q f i j (unsaid s earlier (Client o at (Pass line)) (fold_name q) refl) refl refl))
queries-step s sound earlier (Upstream at line) = storing_queries s sound earlier (Upstream at line) (Some (at, line)) (λ q. refl, line_alone s earlier at line) refl
queries-step s sound earlier (NodeGone node boot) = quiet_queries s sound earlier (NodeGone node boot) refl (λ q f i j. same_query q (lines s earlier q) (size s (fold_name q) earlier) (fits s earlier q) (seen_held s earlier (fold_name q)) (seen_held s (NodeGone node boot ∷ earlier) (fold_name q)) (empties_queries s earlier (NodeGone node boot) && false) (and_false (empties_queries s earlier (NodeGone node boot))) (query_told s sound earlier (NodeGone node boot) q f i j (unsaid s earlier (NodeGone node boot) (fold_name q) refl) refl refl))
queries-step s sound earlier Up = quiet_queries s sound earlier Up refl (λ q f i j. same_query q (lines s earlier q) (size s (fold_name q) earlier) (fits s earlier q) (seen_held s earlier (fold_name q)) (seen_held s (Up ∷ earlier) (fold_name q)) (empties_queries s earlier (Up) && false) (and_false (empties_queries s earlier (Up))) (query_told s sound earlier (Up) q f i j (unsaid s earlier (Up) (fold_name q) refl) refl refl))
queries-step s sound earlier Down = quiet_queries s sound earlier Down refl (λ q f i j. same_query q (lines s earlier q) (size s (fold_name q) earlier) (fits s earlier q) (seen_held s earlier (fold_name q)) (seen_held s (Down ∷ earlier) (fold_name q)) (empties_queries s earlier (Down) && false) (and_false (empties_queries s earlier (Down))) (query_told s sound earlier (Down) q f i j (unsaid s earlier (Down) (fold_name q) refl) refl refl))

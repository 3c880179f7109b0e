-- The machine holds the channels of a history after one step, also where a channel comes or goes.
use Rattle.std.proofs.Common.{◌≡◌, ℕ, List, [], ◌∷◌, map, refl, ap, ◌∙◌, sym, Bool, true, false, not, ◌&&◌, ◌||◌, subst}
use Rattle.std.specs.Prelude.{Some, None, if◌then◌else◌, filter, codes}
use Rattle.std.specs.List.{list_all, list_any}
use Rattle.irc_line.specs.Names.{fold_name, is_channel}
use Rattle.irc_line.specs.Keys.{at_key, is_in, is_below, put_in}
use Rattle.irc_line.specs.Lines.{Parts, parameter}
use Rattle.irc_line.proofs.Booleans.{and_left, and_right, and_true, not_true, and_false, not_from}
use Rattle.buffer_lines.specs.Stamps.{ring}
use Rattle.buffer_targets.specs.Targets.{ChannelLines, channel, none_seen, target, with_joined, has_key, at_channel, channel_of_key, joined_by, put_channel, without_channel}
use Rattle.wire_bytes.specs.declared.origin.Origin.{Origin}
use Rattle.buffer_commands.specs.Settings.{Settings}
use Rattle.buffer_commands.specs.declared.command.Action.TheVariants.{Say, Part}
use Rattle.buffer_commands.specs.declared.command.Command.{Command}
use Rattle.buffer_commands.specs.declared.command.Command.TheVariants.{Client, Upstream}
use Rattle.buffer_machine.specs.Messages.{has_command, is_among, is_by, is_own, is_own_kick, is_storable}
use Rattle.buffer_machine.specs.Buffers.{keeps, nick, channels, joined, joined_after, detached, size, kept, made_by, with_made, is_own_at, is_removed}
use Rattle.buffer_machine.specs.Crowd.{attached, floor, ids}
use Rattle.buffer_commands.specs.declared.command.Verb.{Verb}
use Rattle.buffer_machine.specs.Steps.{channels_storing, let_go, channels_after}
use Rattle.buffer_machine.specs.Held.{IsSound, channel_held, held, seen_held}
use Rattle.buffer_machine.proofs.Unnamed.{ids-more}
use Rattle.buffer_machine.proofs.Lists.{map_at}
use Rattle.buffer_machine.proofs.Names.{all-at, in-filter, all-filter}
use Rattle.buffer_machine.proofs.Standing.{channels-more, channels-are}
use Rattle.buffer_machine.proofs.Kept.{other_command, not_storable}
use Rattle.buffer_machine.proofs.Unknown.{removed-is, stored-not_storable}
use Rattle.buffer_machine.proofs.Next.{StoresAlone, next_channel, unsaid, channel-next, channel-made, no_part, no_kick, join_removes}
use Rattle.buffer_machine.proofs.Found.{found-joined, found-known}
use Rattle.buffer_machine.proofs.OneChannel.{one, upon, same}
use Rattle.buffer_machine.proofs.ChannelsStep.{empties_channels, quiet_told, filter_all, mapped, lines, fits}
use Rattle.buffer_machine.proofs.ChannelsStoring.{storing-held}
use Rattle.irc_line.proofs.Order.{key_is, at_key-sym, in-own}
use Rattle.buffer_machine.proofs.Filters.{filter_same, filter_map, filter_absent}

-- ---- the channels that stay are unchanged

-- what is held of the channels that stay, where a command does not affect them
staying : (s : Settings) → IsSound s → (earlier : List Command) (x : Command) → with_made (made_by (nick s earlier) x) (channels s earlier) ≡ channels s earlier
    → ((c : List ℕ) → is_removed s earlier (fold_name c) x ≡ false → next_channel s earlier x (channel_held s earlier c)
    ≡ upon c (kept s earlier (fold_name c)) (size s (fold_name c) earlier) (empties_channels s earlier x && false) None (seen_held s (x ∷ earlier) (fold_name c)) (joined s earlier (fold_name c)) (detached s earlier (fold_name c)))
    → ((c : List ℕ) → is_channel c ≡ true → is_in (fold_name c) (channels s earlier) ≡ true → is_removed s earlier (fold_name c) x ≡ false
    → (if empties_channels s earlier x && false then none_seen else seen_held s earlier (fold_name c)) ≡ seen_held s (x ∷ earlier) (fold_name c))
    → map (channel_held s earlier) (filter (λ c. not (is_removed s earlier (fold_name c) x)) (channels s earlier)) ≡ map (channel_held s (x ∷ earlier)) (channels s (x ∷ earlier))
staying s sound earlier x m h q =
    let names = channels-more s earlier x ∙ ap (λ cs. filter (λ c. not (is_removed s earlier (fold_name c) x)) cs) m in
    map_at (channel_held s earlier) (channel_held s (x ∷ earlier)) (filter (λ c. not (is_removed s earlier (fold_name c) x)) (channels s earlier))
    (λ front c back e.
    let here : is_in (fold_name c) (filter (λ d. not (is_removed s earlier (fold_name d) x)) (channels s earlier)) ≡ true = subst (λ cs. is_in (fold_name c) cs ≡ true) (sym e) (in-own front c back) in
    let both : (is_in (fold_name c) (channels s earlier) && not (is_removed s earlier (fold_name c) x)) ≡ true = sym (in-filter (λ k. is_removed s earlier k x) (fold_name c) (channels s earlier)) ∙ here in
    let stays : is_removed s earlier (fold_name c) x ≡ false = not_true _ (and_right (is_in (fold_name c) (channels s earlier)) _ both) in
    let channel_name : is_channel c ≡ true = all-at is_channel front c back (subst (λ cs. list_all is_channel cs ≡ true) e (all-filter is_channel (λ d. not (is_removed s earlier (fold_name d) x)) (channels s earlier) (channels-are s sound earlier))) in
    same c (lines s earlier c) (size s (fold_name c) earlier) (fits s earlier c) (seen_held s earlier (fold_name c)) (seen_held s (x ∷ earlier) (fold_name c)) (joined s earlier (fold_name c)) (detached s earlier (fold_name c)) (empties_channels s earlier x && false) (and_false (empties_channels s earlier x)) (q c channel_name (and_left _ _ both) stays)
    ∙ (sym (h c stays) ∙ sym (channel-next s earlier x c channel_name (and_left _ _ both) stays)))
    ∙ ap (map (channel_held s (x ∷ earlier))) (sym names)

-- ---- Part

-- whether a channel goes, by the key that was requested
part_test_by : (s : Settings) (earlier : List Command) (asks : Bool) (c t : List ℕ) (b : Bool) → at_key (fold_name c) t ≡ b
    → not (asks && b && not (joined s earlier (fold_name c))) ≡ not (b && (asks && not (joined s earlier (fold_name t))))
part_test_by s earlier true c t true e = ap (λ j. not (not j)) (ap (joined s earlier) (key_is (fold_name c) t e))
part_test_by s earlier false c t true e = refl
part_test_by s earlier true c t false e = refl
part_test_by s earlier false c t false e = refl

part_names : (asks : Bool) (known here : Bool) (k : List ℕ) (cs : List (List ℕ)) (f : List ℕ → ChannelLines) → ((c : List ℕ) → has_key k (f c) ≡ at_key k c) → is_in k cs ≡ known
    → (if asks then (if known && not (known && here) then without_channel k (map f cs) else map f cs) else map f cs) ≡ map f (filter (λ c. not (at_key k c && (asks && not here))) cs)
part_names true true true k cs f h e = ap (map f) (sym (filter_all (λ c. not (at_key k c && false)) cs (λ c. not_from _ (and_false (at_key k c)))))
part_names true true false k cs f h e = filter_map f (λ ch. not (has_key k ch)) cs ∙ ap (map f) (filter_same (λ c. not (has_key k (f c))) (λ c. not (at_key k c && true)) cs (λ c. ap not (h c ∙ sym (and_true (at_key k c)))))
part_names true false here k cs f h e = ap (map f) (sym (filter_absent k (not here) cs e))
part_names false known here k cs f h e = ap (map f) (sym (filter_all (λ c. not (at_key k c && false)) cs (λ c. not_from _ (and_false (at_key k c)))))

part_found : (s : Settings) (earlier : List Command) (t : List ℕ) → let_go (fold_name t) (map (channel_held s earlier) (channels s earlier)) (channel_of_key (fold_name t) (map (channel_held s earlier) (channels s earlier)))
    ≡ (if is_in (fold_name t) (channels s earlier) && not (is_in (fold_name t) (channels s earlier) && joined s earlier (fold_name t)) then without_channel (fold_name t) (map (channel_held s earlier) (channels s earlier)) else map (channel_held s earlier) (channels s earlier))
part_found s earlier t = rw (found-known s earlier (fold_name t), found-joined s earlier (fold_name t)) refl

pub part-held : (s : Settings) → IsSound s → (earlier : List Command) (o : Origin) (at : ℕ) (t : List ℕ)
    → channels_after s (floor earlier o.0) (held s earlier) (Client o at (Part t)) ≡ map (channel_held s (Client o at (Part t) ∷ earlier)) (channels s (Client o at (Part t) ∷ earlier))
part-held s sound earlier o at t =
    ap (λ chs. if is_among o (attached s earlier) then chs else map (channel_held s earlier) (channels s earlier))
    (part_found s earlier t)
    ∙ (part_names (is_among o (attached s earlier)) (is_in (fold_name t) (channels s earlier)) (joined s earlier (fold_name t)) (fold_name t) (channels s earlier) (channel_held s earlier) (λ c. refl) refl
    ∙ (ap (map (channel_held s earlier))
    (filter_same (λ c. not (at_key (fold_name t) c && (is_among o (attached s earlier) && not (joined s earlier (fold_name t))))) (λ c. not (is_removed s earlier (fold_name c) (Client o at (Part t)))) (channels s earlier)
    (λ c. ap (λ b. not (b && (is_among o (attached s earlier) && not (joined s earlier (fold_name t))))) (at_key-sym t c)
    ∙ (sym (part_test_by s earlier (is_among o (attached s earlier)) c t (at_key (fold_name c) t) refl) ∙ ap not (sym (removed-is s earlier (fold_name c) (Client o at (Part t)))))))
    ∙ staying s sound earlier (Client o at (Part t)) refl (λ c r. refl) (λ c k i r. quiet_told s sound earlier (Client o at (Part t)) c k i r (unsaid s earlier (Client o at (Part t)) (fold_name c) refl) refl refl)))

-- ---- lines from upstream

and_true_twice : (b : Bool) → ((b || false) && true && true) ≡ b
and_true_twice true = refl
and_true_twice false = refl

-- a line that is no JOIN, PART or KICK of the own nick does not change whether a channel is joined
joined_still : (own k : List ℕ) (was : Bool) (at : ℕ) (line : Parts) → is_own (codes "JOIN") own line ≡ false → is_own (codes "PART") own line ≡ false → is_own_kick own line ≡ false
    → joined_after own k was (Upstream at line) ≡ was
joined_still own k was at line e f g = rw (e, f, g) (and_true_twice was)

-- a line from upstream plays nothing, clears nothing and sets no size
pub line_alone : (s : Settings) (earlier : List Command) (at : ℕ) (line : Parts) → StoresAlone s earlier (Upstream at line)
line_alone s earlier at line = record { plays_none = λ det known k. refl; clears_none = λ c known k. refl; sizes_none = λ b k n. refl; names_none = ids-more s (Upstream at line) earlier }

-- and neither does what a client says
pub said_alone : (s : Settings) (earlier : List Command) (o : Origin) (at : ℕ) (verb : Verb) (name text : List ℕ) → StoresAlone s earlier (Client o at (Say verb name text))
said_alone s earlier o at verb name text = record { plays_none = λ det known k. refl; clears_none = λ c known k. refl; sizes_none = λ b k n. refl; names_none = ids-more s (Client o at (Say verb name text)) earlier }

other-held : (s : Settings) → IsSound s → (earlier : List Command) (at : ℕ) (line : Parts) → is_own (codes "JOIN") (nick s earlier) line ≡ false → is_own (codes "PART") (nick s earlier) line ≡ false → is_own_kick (nick s earlier) line ≡ false
    → channels_storing s (held s earlier) (Some (at, line)) ≡ map (channel_held s (Upstream at line ∷ earlier)) (channels s (Upstream at line ∷ earlier))
other-held s sound earlier at line e f g =
    storing-held s sound earlier (Upstream at line) (Some (at, line))
    (λ k. removed-is s earlier k (Upstream at line) ∙ rw f refl)
    (rw e refl)
    refl (line_alone s earlier at line)
    (λ c. rw (joined_still (nick s earlier) (fold_name c) (joined s earlier (fold_name c)) at line e f g) refl)

unstored_by : (b : Bool) (k : Bool) (line : ℕ × Parts) → (if b && (false && k) then Some line else None) ≡ None
unstored_by true k line = refl
unstored_by false k line = refl

-- a line that is not stored, and changes nothing of a channel except whether it is joined
line_held : (s : Settings) (earlier : List Command) (at : ℕ) (line : Parts) (c : List ℕ) (j : Bool) → is_storable line ≡ false → joined_after (nick s earlier) (fold_name c) (joined s earlier (fold_name c)) (Upstream at line) ≡ j
    → next_channel s earlier (Upstream at line) (channel_held s earlier c)
    ≡ upon c (kept s earlier (fold_name c)) (size s (fold_name c) earlier) (empties_channels s earlier (Upstream at line) && false) None (seen_held s (Upstream at line ∷ earlier) (fold_name c)) j (detached s earlier (fold_name c))
line_held s earlier at line c j e f =
    rw (f, e, unstored_by (keeps s.clears_channels (attached s earlier) (ids s earlier) || detached s earlier (fold_name c)) (at_key (fold_name c) (parameter 0 line)) (at, line)) refl

-- nor does it change how much any name has seen
line_told : (s : Settings) → IsSound s → (earlier : List Command) (at : ℕ) (line : Parts) (c : List ℕ) → is_channel c ≡ true → is_in (fold_name c) (channels s earlier) ≡ true → is_removed s earlier (fold_name c) (Upstream at line) ≡ false → is_storable line ≡ false
    → (if empties_channels s earlier (Upstream at line) && false then none_seen else seen_held s earlier (fold_name c)) ≡ seen_held s (Upstream at line ∷ earlier) (fold_name c)
line_told s sound earlier at line c k i r e = quiet_told s sound earlier (Upstream at line) c k i r (stored-not_storable s earlier at line (fold_name c) e) refl refl

word_of : (word own : List ℕ) (line : Parts) → is_own word own line ≡ true → has_command word line ≡ true
word_of word own line e = and_left _ (is_by own line) (and_left _ (is_channel (parameter 0 line)) e)

kick_word : (own : List ℕ) (line : Parts) → is_own_kick own line ≡ true → has_command (codes "KICK") line ≡ true
kick_word own line e = and_left _ _ (and_left _ (is_channel (parameter 0 line)) e)

-- PART by the own nick

part_stays : (was : Bool) → ((was || false) && not false && not false) ≡ was
part_stays true = refl
part_stays false = refl

part_joined : (own k : List ℕ) (was : Bool) (at : ℕ) (line : Parts) → has_command (codes "PART") line ≡ true → is_own_at (codes "PART") own k line ≡ false → joined_after own k was (Upstream at line) ≡ was
part_joined own k was at line w r =
    rw (other_command (codes "PART") (codes "JOIN") line w refl, other_command (codes "PART") (codes "KICK") line w refl, r) (part_stays was)

part_line-held : (s : Settings) → IsSound s → (earlier : List Command) (at : ℕ) (line : Parts) → is_own (codes "PART") (nick s earlier) line ≡ true
    → without_channel (fold_name (parameter 0 line)) (map (channel_held s earlier) (channels s earlier)) ≡ map (channel_held s (Upstream at line ∷ earlier)) (channels s (Upstream at line ∷ earlier))
part_line-held s sound earlier at line e =
    let w = word_of (codes "PART") (nick s earlier) line e in
    filter_map (channel_held s earlier) (λ ch. not (has_key (fold_name (parameter 0 line)) ch)) (channels s earlier)
    ∙ (ap (map (channel_held s earlier))
    (filter_same (λ c. not (at_key (fold_name (parameter 0 line)) c)) (λ c. not (is_removed s earlier (fold_name c) (Upstream at line))) (channels s earlier)
    (λ c. ap not (at_key-sym (parameter 0 line) c ∙ sym (removed-is s earlier (fold_name c) (Upstream at line) ∙ rw e refl))))
    ∙ staying s sound earlier (Upstream at line) (rw (other_command (codes "PART") (codes "JOIN") line w refl) refl)
    (λ c r. line_held s earlier at line c (joined s earlier (fold_name c)) (not_storable (codes "PART") line w refl refl)
    (part_joined (nick s earlier) (fold_name c) (joined s earlier (fold_name c)) at line w (sym (removed-is s earlier (fold_name c) (Upstream at line)) ∙ r)))
    (λ c k i r. line_told s sound earlier at line c k i r (not_storable (codes "PART") line w refl refl)))

-- KICK of the own nick

kick_joined : (was k : Bool) → ((was || false) && not false && not (true && k)) ≡ (if k then false else was)
kick_joined true true = refl
kick_joined true false = refl
kick_joined false true = refl
kick_joined false false = refl

joined_if : (b : Bool) (c : List ℕ) (ks : List (ℕ × Parts)) (n : ℕ) (seen : List ℕ) (j v d : Bool) → (if b then with_joined v (one c ks n seen j d) else one c ks n seen j d) ≡ one c ks n seen (if b then v else j) d
joined_if true c ks n seen j v d = refl
joined_if false c ks n seen j v d = refl

kick-held : (s : Settings) → IsSound s → (earlier : List Command) (at : ℕ) (line : Parts) → is_own_kick (nick s earlier) line ≡ true
    → at_channel (fold_name (parameter 0 line)) (with_joined false) (map (channel_held s earlier) (channels s earlier)) ≡ map (channel_held s (Upstream at line ∷ earlier)) (channels s (Upstream at line ∷ earlier))
kick-held s sound earlier at line e =
    let w = kick_word (nick s earlier) line e in
    mapped s sound earlier (Upstream at line) (λ c. if has_key (fold_name (parameter 0 line)) c then with_joined false c else c)
    (λ k. removed-is s earlier k (Upstream at line) ∙ rw (other_command (codes "KICK") (codes "PART") line w refl) refl)
    (rw (other_command (codes "KICK") (codes "JOIN") line w refl) refl)
    (λ c k i.
    rw (at_key-sym (parameter 0 line) c)
    (joined_if (at_key (fold_name c) (parameter 0 line)) c (lines s earlier c) (size s (fold_name c) earlier) (seen_held s earlier (fold_name c)) (joined s earlier (fold_name c)) false (detached s earlier (fold_name c))
    ∙ (same c (lines s earlier c) (size s (fold_name c) earlier) (fits s earlier c) (seen_held s earlier (fold_name c)) (seen_held s (Upstream at line ∷ earlier) (fold_name c)) (if at_key (fold_name c) (parameter 0 line) then false else joined s earlier (fold_name c)) (detached s earlier (fold_name c)) (empties_channels s earlier (Upstream at line) && false) (and_false (empties_channels s earlier (Upstream at line))) (line_told s sound earlier at line c k i (removed-is s earlier (fold_name c) (Upstream at line) ∙ rw (other_command (codes "KICK") (codes "PART") line w refl) refl) (not_storable (codes "KICK") line w refl refl))
    ∙ sym (line_held s earlier at line c (if at_key (fold_name c) (parameter 0 line) then false else joined s earlier (fold_name c)) (not_storable (codes "KICK") line w refl refl)
    (rw (other_command (codes "KICK") (codes "JOIN") line w refl, other_command (codes "KICK") (codes "PART") line w refl, e) (kick_joined (joined s earlier (fold_name c)) (at_key (fold_name c) (parameter 0 line))))))))

-- JOIN by the own nick

join_joined : (was k : Bool) → ((was || (true && k)) && not false && not (false && k)) ≡ (if k then true else was)
join_joined true true = refl
join_joined true false = refl
join_joined false true = refl
join_joined false false = refl

joined_next : (own k : List ℕ) (was : Bool) (at : ℕ) (line : Parts) → is_own (codes "JOIN") own line ≡ true → joined_after own k was (Upstream at line) ≡ (if at_key k (parameter 0 line) then true else was)
joined_next own k was at line e = rw (no_part own k line e, no_kick own line e, e) (join_joined was (at_key k (parameter 0 line)))

known_any : (s : Settings) (earlier : List Command) (k : List ℕ) (cs : List (List ℕ)) → list_any (has_key k) (map (channel_held s earlier) cs) ≡ is_in k cs
known_any s earlier k [] = refl
known_any s earlier k (c ∷ cs) = ap (λ b. at_key k c || b) (known_any s earlier k cs)

join_known-held : (s : Settings) → IsSound s → (earlier : List Command) (at : ℕ) (line : Parts) → is_own (codes "JOIN") (nick s earlier) line ≡ true → is_in (fold_name (parameter 0 line)) (channels s earlier) ≡ true
    → at_channel (fold_name (parameter 0 line)) (with_joined true) (map (channel_held s earlier) (channels s earlier)) ≡ map (channel_held s (Upstream at line ∷ earlier)) (channels s (Upstream at line ∷ earlier))
join_known-held s sound earlier at line e u =
    let w = word_of (codes "JOIN") (nick s earlier) line e in
    mapped s sound earlier (Upstream at line) (λ c. if has_key (fold_name (parameter 0 line)) c then with_joined true c else c)
    (λ k. join_removes s earlier at line k e)
    (rw (e, u) refl)
    (λ c k i.
    rw (at_key-sym (parameter 0 line) c)
    (joined_if (at_key (fold_name c) (parameter 0 line)) c (lines s earlier c) (size s (fold_name c) earlier) (seen_held s earlier (fold_name c)) (joined s earlier (fold_name c)) true (detached s earlier (fold_name c))
    ∙ (same c (lines s earlier c) (size s (fold_name c) earlier) (fits s earlier c) (seen_held s earlier (fold_name c)) (seen_held s (Upstream at line ∷ earlier) (fold_name c)) (if at_key (fold_name c) (parameter 0 line) then true else joined s earlier (fold_name c)) (detached s earlier (fold_name c)) (empties_channels s earlier (Upstream at line) && false) (and_false (empties_channels s earlier (Upstream at line))) (line_told s sound earlier at line c k i (join_removes s earlier at line (fold_name c) e) (not_storable (codes "JOIN") line w refl refl))
    ∙ sym (line_held s earlier at line c (if at_key (fold_name c) (parameter 0 line) then true else joined s earlier (fold_name c)) (not_storable (codes "JOIN") line w refl refl)
    (joined_next (nick s earlier) (fold_name c) (joined s earlier (fold_name c)) at line e)))))

put_map_by : (c d : List ℕ) (f : List ℕ → ChannelLines) (ch : ChannelLines) (ds : List (List ℕ)) (b : Bool) → f c ≡ ch → put_channel ch (map f ds) ≡ map f (put_in c ds)
    → (if b then f d ∷ put_channel ch (map f ds) else ch ∷ f d ∷ map f ds) ≡ map f (if b then d ∷ put_in c ds else c ∷ d ∷ ds)
put_map_by c d f ch ds true e ih = ap (λ xs. f d ∷ xs) ih
put_map_by c d f ch ds false e ih = ap (λ x. x ∷ f d ∷ map f ds) (sym e)

-- a channel inserted among channels is the channel of a name inserted among names
put_map : (s : Settings) (history : List Command) (c : List ℕ) (ds : List (List ℕ)) → put_channel (channel_held s history c) (map (channel_held s history) ds) ≡ map (channel_held s history) (put_in c ds)
put_map s history c [] = refl
put_map s history c (d ∷ ds) =
    put_map_by c d (channel_held s history) (channel_held s history c) ds (is_below (fold_name d) (fold_name c)) refl (put_map s history c ds)

-- the names after a channel was made
made_names : (s : Settings) (earlier : List Command) (at : ℕ) (line : Parts) → is_own (codes "JOIN") (nick s earlier) line ≡ true → is_in (fold_name (parameter 0 line)) (channels s earlier) ≡ false
    → channels s (Upstream at line ∷ earlier) ≡ put_in (parameter 0 line) (channels s earlier)
made_names s earlier at line e u =
    channels-more s earlier (Upstream at line)
    ∙ (ap (λ cs. filter (λ c. not (is_removed s earlier (fold_name c) (Upstream at line))) cs) (rw (e, u) refl)
    ∙ filter_all (λ c. not (is_removed s earlier (fold_name c) (Upstream at line))) (put_in (parameter 0 line) (channels s earlier)) (λ c. not_from _ (join_removes s earlier at line (fold_name c) e)))

apart : (s : Settings) (earlier : List Command) (c p : List ℕ) (b : Bool) → at_key (fold_name c) p ≡ b → is_in (fold_name c) (channels s earlier) ≡ true → is_in (fold_name p) (channels s earlier) ≡ false → b ≡ false
apart s earlier c p true e i u = sym i ∙ (ap (λ k. is_in k (channels s earlier)) (key_is (fold_name c) p e) ∙ u)
apart s earlier c p false e i u = refl

-- the other channels are unchanged
beside : (s : Settings) → IsSound s → (earlier : List Command) (at : ℕ) (line : Parts) → is_own (codes "JOIN") (nick s earlier) line ≡ true → is_in (fold_name (parameter 0 line)) (channels s earlier) ≡ false
    → map (channel_held s earlier) (channels s earlier) ≡ map (channel_held s (Upstream at line ∷ earlier)) (channels s earlier)
beside s sound earlier at line e u =
    map_at (channel_held s earlier) (channel_held s (Upstream at line ∷ earlier)) (channels s earlier)
    (λ front c back h.
    let w = word_of (codes "JOIN") (nick s earlier) line e in
    let here : is_in (fold_name c) (channels s earlier) ≡ true = subst (λ cs. is_in (fold_name c) cs ≡ true) (sym h) (in-own front c back) in
    let channel_name : is_channel c ≡ true = all-at is_channel front c back (subst (λ cs. list_all is_channel cs ≡ true) h (channels-are s sound earlier)) in
    same c (lines s earlier c) (size s (fold_name c) earlier) (fits s earlier c) (seen_held s earlier (fold_name c)) (seen_held s (Upstream at line ∷ earlier) (fold_name c)) (joined s earlier (fold_name c)) (detached s earlier (fold_name c)) (empties_channels s earlier (Upstream at line) && false) (and_false (empties_channels s earlier (Upstream at line))) (line_told s sound earlier at line c channel_name here (join_removes s earlier at line (fold_name c) e) (not_storable (codes "JOIN") line w refl refl))
    ∙ (sym (line_held s earlier at line c (joined s earlier (fold_name c)) (not_storable (codes "JOIN") line w refl refl)
    (joined_next (nick s earlier) (fold_name c) (joined s earlier (fold_name c)) at line e
    ∙ ap (λ b. if b then true else joined s earlier (fold_name c)) (apart s earlier c (parameter 0 line) (at_key (fold_name c) (parameter 0 line)) refl here u)))
    ∙ sym (channel-next s earlier (Upstream at line) c channel_name here (join_removes s earlier at line (fold_name c) e))))

join_new-held : (s : Settings) → IsSound s → (earlier : List Command) (at : ℕ) (line : Parts) → is_own (codes "JOIN") (nick s earlier) line ≡ true → is_in (fold_name (parameter 0 line)) (channels s earlier) ≡ false
    → put_channel (channel (target (parameter 0 line) (ring [] s.channel_size) none_seen) true false) (map (channel_held s earlier) (channels s earlier)) ≡ map (channel_held s (Upstream at line ∷ earlier)) (channels s (Upstream at line ∷ earlier))
join_new-held s sound earlier at line e u =
    ap (λ ch. put_channel ch (map (channel_held s earlier) (channels s earlier))) (sym (channel-made s earlier at line e u))
    ∙ (ap (put_channel (channel_held s (Upstream at line ∷ earlier) (parameter 0 line))) (beside s sound earlier at line e u)
    ∙ (put_map s (Upstream at line ∷ earlier) (parameter 0 line) (channels s earlier)
    ∙ ap (map (channel_held s (Upstream at line ∷ earlier))) (sym (made_names s earlier at line e u))))

join_by : (s : Settings) → IsSound s → (earlier : List Command) (at : ℕ) (line : Parts) (known : Bool) → is_own (codes "JOIN") (nick s earlier) line ≡ true → is_in (fold_name (parameter 0 line)) (channels s earlier) ≡ known
    → (if known then at_channel (fold_name (parameter 0 line)) (with_joined true) (map (channel_held s earlier) (channels s earlier))
    else put_channel (channel (target (parameter 0 line) (ring [] s.channel_size) none_seen) true false) (map (channel_held s earlier) (channels s earlier)))
    ≡ map (channel_held s (Upstream at line ∷ earlier)) (channels s (Upstream at line ∷ earlier))
join_by s sound earlier at line true e u = join_known-held s sound earlier at line e u
join_by s sound earlier at line false e u = join_new-held s sound earlier at line e u

join-held : (s : Settings) → IsSound s → (earlier : List Command) (at : ℕ) (line : Parts) → is_own (codes "JOIN") (nick s earlier) line ≡ true
    → joined_by (parameter 0 line) s.channel_size (map (channel_held s earlier) (channels s earlier)) ≡ map (channel_held s (Upstream at line ∷ earlier)) (channels s (Upstream at line ∷ earlier))
join-held s sound earlier at line e =
    rw (known_any s earlier (fold_name (parameter 0 line)) (channels s earlier)) (join_by s sound earlier at line (is_in (fold_name (parameter 0 line)) (channels s earlier)) e refl)

pub line_by : (s : Settings) → IsSound s → (earlier : List Command) (at : ℕ) (line : Parts) (j p k : Bool) → is_own (codes "JOIN") (nick s earlier) line ≡ j → is_own (codes "PART") (nick s earlier) line ≡ p → is_own_kick (nick s earlier) line ≡ k
    → (if j then joined_by (parameter 0 line) s.channel_size (map (channel_held s earlier) (channels s earlier))
    else if p then without_channel (fold_name (parameter 0 line)) (map (channel_held s earlier) (channels s earlier))
    else if k then at_channel (fold_name (parameter 0 line)) (with_joined false) (map (channel_held s earlier) (channels s earlier)) else channels_storing s (held s earlier) (Some (at, line)))
    ≡ map (channel_held s (Upstream at line ∷ earlier)) (channels s (Upstream at line ∷ earlier))
line_by s sound earlier at line true p k e f g = join-held s sound earlier at line e
line_by s sound earlier at line false true k e f g = part_line-held s sound earlier at line f
line_by s sound earlier at line false false true e f g = kick-held s sound earlier at line g
line_by s sound earlier at line false false false e f g = other-held s sound earlier at line e f g

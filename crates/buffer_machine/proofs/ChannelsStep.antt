-- The machine holds the channels of a history after one step.
use Rattle.std.proofs.Common.{◌≡◌, ℕ, ◌-◌, ◌≤◌, List, [], ◌∷◌, map, length, refl, ap, ◌∙◌, sym, Bool, true, false, not, ◌&&◌, subst}
use Rattle.std.specs.Prelude.{Option, Some, None, if◌then◌else◌, filter}
use Rattle.std.specs.List.{list_all}
use Rattle.irc_line.specs.Names.{fold_name, is_channel}
use Rattle.irc_line.specs.Keys.{at_key, is_in}
use Rattle.irc_line.specs.Lines.{Parts}
use Rattle.buffer_targets.specs.Targets.{ChannelLines, cleared, counted, fewer, none_seen, resized, over, seen_all, with_detached, has_key, at_channel, channel_of_key}
use Rattle.wire_bytes.specs.declared.origin.Origin.{Origin}
use Rattle.buffer_commands.specs.Settings.{Settings}
use Rattle.buffer_commands.specs.declared.command.Action.TheVariants.{Attach, Detach, Play, Clear, ClearChannels, ClearQueries, ClearAll, SetBuffer}
use Rattle.buffer_commands.specs.declared.command.Command.{Command}
use Rattle.buffer_commands.specs.declared.command.Command.TheVariants.{Client}
use Rattle.buffer_machine.specs.Messages.{is_among}
use Rattle.buffer_machine.specs.Buffers.{emptied, empties, plays, size_after, stored, nick, channels, joined, detached, size, kept, is_past, made_by, with_made, is_removed}
use Rattle.buffer_machine.specs.Crowd.{attached, floor, id_of, ids, is_id, is_some_of, takes}
use Rattle.buffer_machine.specs.Marks.{seen}
use Rattle.buffer_machine.specs.Steps.{after_play, channels_played, attached_again, channels_after, clears_attaching, clears_now, is_detached, reader_named, reader_of}
use Rattle.buffer_machine.specs.NameSteps.{here_of}
use Rattle.buffer_machine.specs.Held.{IsSound, Names, channel_held, for_each, held, names_held, seen_held}
use Rattle.buffer_machine.proofs.SeenLists.{attach_list, play_list, sized_told}
use Rattle.buffer_machine.proofs.Folded.{channel-key}
use Rattle.buffer_machine.proofs.Lists.{map_at, map_through}
use Rattle.buffer_machine.proofs.Names.{all-at}
use Rattle.buffer_machine.proofs.Standing.{channels-more, channels-are}
use Rattle.buffer_machine.proofs.Kept.{kept_fits}
use Rattle.buffer_machine.proofs.Unknown.{removed-is}
use Rattle.buffer_machine.proofs.Next.{channel_empties, emptied-channel, next_channel, channel-next, seen-channel, size-channel, unsaid}
use Rattle.buffer_machine.proofs.Found.{found-detached}
use Rattle.buffer_machine.proofs.Pointwise.{if_map, map_id}
use Rattle.buffer_machine.proofs.OneChannel.{upon, same, play_one, clear_one, clear_channel, clear_any, clear_query, size_one, attach_one, detach_one, again_one}
use Rattle.irc_line.proofs.Booleans.{not_from, and_false, and_left, and_true}
use Rattle.irc_line.proofs.Order.{key_is, at_key-sym, in-own}

-- ---- where no channel comes or goes

pub filter_all : {A : Type 0} (p : A → Bool) (xs : List A) → ((x : A) → p x ≡ true) → filter p xs ≡ xs
filter_all p [] h = refl
filter_all p (x ∷ xs) h = rw (h x) (ap (λ ys. x ∷ ys) (filter_all p xs h))

-- a command that removes nothing and makes nothing does not change the names
names-same : (s : Settings) (earlier : List Command) (x : Command) → ((k : List ℕ) → is_removed s earlier k x ≡ false) → with_made (made_by (nick s earlier) x) (channels s earlier) ≡ channels s earlier
    → channels s (x ∷ earlier) ≡ channels s earlier
names-same s earlier x r m =
    channels-more s earlier x
    ∙ (ap (λ cs. filter (λ c. not (is_removed s earlier (fold_name c) x)) cs) m
    ∙ filter_all (λ c. not (is_removed s earlier (fold_name c) x)) (channels s earlier) (λ c. not_from _ (r (fold_name c))))

-- each channel is changed by itself
pub mapped : (s : Settings) → IsSound s → (earlier : List Command) (x : Command) (g : ChannelLines → ChannelLines)
    → ((k : List ℕ) → is_removed s earlier k x ≡ false) → with_made (made_by (nick s earlier) x) (channels s earlier) ≡ channels s earlier
    → ((c : List ℕ) → is_channel c ≡ true → is_in (fold_name c) (channels s earlier) ≡ true
    → g (channel_held s earlier c) ≡ next_channel s earlier x (channel_held s earlier c))
    → map g (map (channel_held s earlier) (channels s earlier)) ≡ map (channel_held s (x ∷ earlier)) (channels s (x ∷ earlier))
mapped s sound earlier x g r m h =
    map_through (channel_held s earlier) g (λ c. g (channel_held s earlier c)) (λ c. refl) (channels s earlier)
    ∙ (map_at (λ c. g (channel_held s earlier c)) (channel_held s (x ∷ earlier)) (channels s earlier)
    (λ front c back e.
    let here : is_in (fold_name c) (channels s earlier) ≡ true = subst (λ cs. is_in (fold_name c) cs ≡ true) (sym e) (in-own front c back) in
    let channel_name : is_channel c ≡ true = all-at is_channel front c back (subst (λ cs. list_all is_channel cs ≡ true) e (channels-are s sound earlier)) in
    h c channel_name here ∙ sym (channel-next s earlier x c channel_name here (r (fold_name c))))
    ∙ ap (map (channel_held s (x ∷ earlier))) (sym (names-same s earlier x r m)))

-- no channel is changed
pub unmapped : (s : Settings) → IsSound s → (earlier : List Command) (x : Command)
    → ((k : List ℕ) → is_removed s earlier k x ≡ false) → with_made (made_by (nick s earlier) x) (channels s earlier) ≡ channels s earlier
    → ((c : List ℕ) → is_channel c ≡ true → is_in (fold_name c) (channels s earlier) ≡ true
    → channel_held s earlier c ≡ next_channel s earlier x (channel_held s earlier c))
    → map (channel_held s earlier) (channels s earlier) ≡ map (channel_held s (x ∷ earlier)) (channels s (x ∷ earlier))
unmapped s sound earlier x r m h = sym (map_id (map (channel_held s earlier) (channels s earlier))) ∙ mapped s sound earlier x (λ c. c) r m h

-- the parts of what is held of a channel
abbrev pub lines : Settings → List Command → List ℕ → List (ℕ × Parts)
lines s earlier c = kept s earlier (fold_name c)

abbrev pub fits : (s : Settings) (earlier : List Command) (c : List ℕ) → length (kept s earlier (fold_name c)) ≤ size s (fold_name c) earlier
fits s earlier c = kept_fits s earlier (fold_name c)

-- ---- the commands of a client

-- whether playing empties channels now
abbrev pub empties_channels : Settings → List Command → Command → Bool
empties_channels s earlier x = s.clears_channels && empties (ids s earlier) x

pub clears_same : (clears : Bool) (names : Names) → clears_now clears names ≡ (clears && (not (is_some_of names.ids) && true))
clears_same clears names = rw (and_true (not (is_some_of names.ids))) refl

pub clears_named : (clears : Bool) (names : Names) (o : Origin) (at : ℕ) (id : Option (List ℕ)) → clears_attaching clears names id ≡ (clears && empties names.ids (Client o at (Attach id)))
clears_named true names o at None = refl
clears_named true names o at (Some id) = refl
clears_named false names o at id = refl

attach_map : (taken clears : Bool) (here : List Bool) (chs : List ChannelLines)
    → (if taken then channels_played clears here chs else chs)
    ≡ map (λ c. if taken then (if clears then (if c.detached then c else over cleared c) else if c.detached then c else over (seen_all here) c) else c) chs
attach_map true true here chs = refl
attach_map true false here chs = refl
attach_map false clears here chs = sym (map_id chs)

pub attach_told : (s : Settings) (earlier : List Command) (o : Origin) (at : ℕ) (id : Option (List ℕ)) (k : List ℕ) (d : Bool) → (takes s earlier (Client o at (Attach id)) && true && not d) ≡ true
    → counted (length (kept s earlier k)) 0 (reader_named id (names_held s earlier)) (seen_held s earlier k)
    ≡ for_each (λ n. if is_id n id then length (kept s earlier k) else seen s earlier n k - 0) 64 (ids s (Client o at (Attach id) ∷ earlier))
attach_told s earlier o at id k d e = attach_list s earlier o at id k (and_left _ true (and_left _ (not d) e))

pub attach-held : (s : Settings) → IsSound s → (earlier : List Command) (o : Origin) (at : ℕ) (id : Option (List ℕ))
    → channels_after s (floor earlier o.0) (held s earlier) (Client o at (Attach id)) ≡ map (channel_held s (Client o at (Attach id) ∷ earlier)) (channels s (Client o at (Attach id) ∷ earlier))
attach-held s sound earlier o at id =
    ap (λ b. if takes s earlier (Client o at (Attach id)) then channels_played b (reader_named id (names_held s earlier)) (map (channel_held s earlier) (channels s earlier)) else map (channel_held s earlier) (channels s earlier)) (clears_named s.clears_channels (names_held s earlier) o at id)
    ∙ (attach_map (takes s earlier (Client o at (Attach id))) (empties_channels s earlier (Client o at (Attach id))) (reader_named id (names_held s earlier)) (map (channel_held s earlier) (channels s earlier))
    ∙ mapped s sound earlier (Client o at (Attach id))
    (λ c. if takes s earlier (Client o at (Attach id)) then (if empties_channels s earlier (Client o at (Attach id)) then (if c.detached then c else over cleared c) else if c.detached then c else over (seen_all (reader_named id (names_held s earlier))) c) else c)
    (λ k. removed-is s earlier k (Client o at (Attach id))) refl
    (λ c k i. attach_one c (lines s earlier c) (size s (fold_name c) earlier) (fits s earlier c) (seen_held s earlier (fold_name c)) (seen_held s (Client o at (Attach id) ∷ earlier) (fold_name c)) (reader_named id (names_held s earlier)) (joined s earlier (fold_name c)) (detached s earlier (fold_name c)) (takes s earlier (Client o at (Attach id))) (empties_channels s earlier (Client o at (Attach id)))
    (seen-channel s sound earlier (Client o at (Attach id)) c (counted (length (kept s earlier (fold_name c))) 0 (reader_named id (names_held s earlier)) (seen_held s earlier (fold_name c))) k i (removed-is s earlier (fold_name c) (Client o at (Attach id))) (unsaid s earlier (Client o at (Attach id)) (fold_name c) refl) refl (attach_told s earlier o at id (fold_name c) (detached s earlier (fold_name c))))))

-- a command that does not affect the channels
pub quiet_held : (s : Settings) → IsSound s → (earlier : List Command) (x : Command) → ((k : List ℕ) → is_removed s earlier k x ≡ false) → with_made (made_by (nick s earlier) x) (channels s earlier) ≡ channels s earlier
    → ((c : List ℕ) → next_channel s earlier x (channel_held s earlier c) ≡ upon c (kept s earlier (fold_name c)) (size s (fold_name c) earlier) (empties_channels s earlier x && false) None (seen_held s (x ∷ earlier) (fold_name c)) (joined s earlier (fold_name c)) (detached s earlier (fold_name c)))
    → ((c : List ℕ) → is_channel c ≡ true → is_in (fold_name c) (channels s earlier) ≡ true → (if empties_channels s earlier x && false then none_seen else seen_held s earlier (fold_name c)) ≡ seen_held s (x ∷ earlier) (fold_name c))
    → map (channel_held s earlier) (channels s earlier) ≡ map (channel_held s (x ∷ earlier)) (channels s (x ∷ earlier))
quiet_held s sound earlier x r m h q =
    unmapped s sound earlier x r m
    (λ c k i. same c (lines s earlier c) (size s (fold_name c) earlier) (fits s earlier c) (seen_held s earlier (fold_name c)) (seen_held s (x ∷ earlier) (fold_name c)) (joined s earlier (fold_name c)) (detached s earlier (fold_name c)) (empties_channels s earlier x && false) (and_false (empties_channels s earlier x)) (q c k i) ∙ sym (h c))

pub either_way : (b : Bool) (told : List ℕ) → told ≡ (if b then told else told)
either_way true told = refl
either_way false told = refl

-- nor does it change how much any name has seen
pub quiet_told : (s : Settings) → IsSound s → (earlier : List Command) (x : Command) (c : List ℕ) → is_channel c ≡ true → is_in (fold_name c) (channels s earlier) ≡ true → is_removed s earlier (fold_name c) x ≡ false
    → stored s (fold_name c) earlier x ≡ None → size_after (attached s earlier) true (fold_name c) (size s (fold_name c) earlier) x ≡ size s (fold_name c) earlier
    → plays (takes s earlier x) (attached s earlier) (detached s earlier (fold_name c)) (fold_name c) true x ≡ false
    → (if channel_empties s earlier (detached s earlier (fold_name c)) (fold_name c) x then none_seen else seen_held s earlier (fold_name c)) ≡ seen_held s (x ∷ earlier) (fold_name c)
quiet_told s sound earlier x c k i r o z p =
    ap (λ told. if channel_empties s earlier (detached s earlier (fold_name c)) (fold_name c) x then none_seen else told) (either_way (plays (takes s earlier x) (attached s earlier) (detached s earlier (fold_name c)) (fold_name c) true x) (seen_held s earlier (fold_name c)))
    ∙ seen-channel s sound earlier x c (seen_held s earlier (fold_name c)) k i r o z (λ e. absurd (let both : false ≡ true = sym p ∙ e in cc))

play_map : (asks clears : Bool) (here : List Bool) (key : List ℕ) (chs : List ChannelLines)
    → (if asks then at_channel key (over (after_play clears here)) chs else chs) ≡ map (λ c. if asks then (if has_key key c then over (after_play clears here) c else c) else c) chs
play_map true clears here key chs = refl
play_map false clears here key chs = sym (map_id chs)

pub play_told : (s : Settings) (earlier : List Command) (o : Origin) (at : ℕ) (t k : List ℕ) (b : Bool) → (is_among o (attached s earlier) && true && b) ≡ true
    → counted (length (kept s earlier k)) 0 (reader_of o (names_held s earlier)) (seen_held s earlier k)
    ≡ for_each (λ n. if is_id n (id_of s earlier o) then length (kept s earlier k) else seen s earlier n k - 0) 64 (ids s (Client o at (Play t) ∷ earlier))
play_told s earlier o at t k b e = play_list s earlier o at t k (and_left _ true (and_left _ b e))

pub play-held : (s : Settings) → IsSound s → (earlier : List Command) (o : Origin) (at : ℕ) (t : List ℕ)
    → channels_after s (floor earlier o.0) (held s earlier) (Client o at (Play t)) ≡ map (channel_held s (Client o at (Play t) ∷ earlier)) (channels s (Client o at (Play t) ∷ earlier))
play-held s sound earlier o at t =
    ap (λ b. if is_among o (attached s earlier) then at_channel (fold_name t) (over (after_play b (reader_of o (names_held s earlier)))) (map (channel_held s earlier) (channels s earlier)) else map (channel_held s earlier) (channels s earlier)) (clears_same s.clears_channels (names_held s earlier))
    ∙ (play_map (is_among o (attached s earlier)) (empties_channels s earlier (Client o at (Play t))) (reader_of o (names_held s earlier)) (fold_name t) (map (channel_held s earlier) (channels s earlier))
    ∙ mapped s sound earlier (Client o at (Play t))
    (λ c. if is_among o (attached s earlier) then (if has_key (fold_name t) c then over (after_play (empties_channels s earlier (Client o at (Play t))) (reader_of o (names_held s earlier))) c else c) else c)
    (λ k. removed-is s earlier k (Client o at (Play t))) refl
    (λ c k i. rw (at_key-sym t c) (play_one c (lines s earlier c) (size s (fold_name c) earlier) (fits s earlier c) (seen_held s earlier (fold_name c)) (seen_held s (Client o at (Play t) ∷ earlier) (fold_name c)) (joined s earlier (fold_name c)) (detached s earlier (fold_name c)) (reader_of o (names_held s earlier)) (is_among o (attached s earlier)) (empties_channels s earlier (Client o at (Play t))) (at_key (fold_name c) t)
    (seen-channel s sound earlier (Client o at (Play t)) c (counted (length (kept s earlier (fold_name c))) 0 (reader_of o (names_held s earlier)) (seen_held s earlier (fold_name c))) k i (removed-is s earlier (fold_name c) (Client o at (Play t))) (unsaid s earlier (Client o at (Play t)) (fold_name c) refl) refl (play_told s earlier o at t (fold_name c) (at_key (fold_name c) t))))))

pub clear-held : (s : Settings) → IsSound s → (earlier : List Command) (o : Origin) (at : ℕ) (t : List ℕ)
    → channels_after s (floor earlier o.0) (held s earlier) (Client o at (Clear t)) ≡ map (channel_held s (Client o at (Clear t) ∷ earlier)) (channels s (Client o at (Clear t) ∷ earlier))
clear-held s sound earlier o at t =
    if_map (is_among o (attached s earlier)) (λ c. if has_key (fold_name t) c then over cleared c else c) (map (channel_held s earlier) (channels s earlier))
    ∙ mapped s sound earlier (Client o at (Clear t)) (λ c. if is_among o (attached s earlier) then (if has_key (fold_name t) c then over cleared c else c) else c) (λ k. removed-is s earlier k (Client o at (Clear t))) refl
    (λ c k i. rw (at_key-sym t c) (clear_one c (lines s earlier c) (size s (fold_name c) earlier) (fits s earlier c) (seen_held s earlier (fold_name c)) (seen_held s (Client o at (Clear t) ∷ earlier) (fold_name c)) (joined s earlier (fold_name c)) (detached s earlier (fold_name c)) (is_among o (attached s earlier)) (empties_channels s earlier (Client o at (Clear t))) (at_key (fold_name c) t) (quiet_told s sound earlier (Client o at (Clear t)) c k i (removed-is s earlier (fold_name c) (Client o at (Clear t))) (unsaid s earlier (Client o at (Clear t)) (fold_name c) refl) refl refl)))

pub clear_channels-held : (s : Settings) → IsSound s → (earlier : List Command) (o : Origin) (at : ℕ)
    → channels_after s (floor earlier o.0) (held s earlier) (Client o at ClearChannels) ≡ map (channel_held s (Client o at ClearChannels ∷ earlier)) (channels s (Client o at ClearChannels ∷ earlier))
clear_channels-held s sound earlier o at =
    if_map (is_among o (attached s earlier)) (over cleared) (map (channel_held s earlier) (channels s earlier))
    ∙ mapped s sound earlier (Client o at ClearChannels) (λ c. if is_among o (attached s earlier) then over cleared c else c) (λ k. removed-is s earlier k (Client o at ClearChannels)) refl
    (λ c k i. clear_channel c (lines s earlier c) (size s (fold_name c) earlier) (fits s earlier c) (seen_held s earlier (fold_name c)) (seen_held s (Client o at ClearChannels ∷ earlier) (fold_name c)) (joined s earlier (fold_name c)) (detached s earlier (fold_name c)) (is_among o (attached s earlier)) (empties_channels s earlier (Client o at ClearChannels)) (quiet_told s sound earlier (Client o at ClearChannels) c k i (removed-is s earlier (fold_name c) (Client o at ClearChannels)) (unsaid s earlier (Client o at ClearChannels) (fold_name c) refl) refl refl))

pub clear_all-held : (s : Settings) → IsSound s → (earlier : List Command) (o : Origin) (at : ℕ)
    → channels_after s (floor earlier o.0) (held s earlier) (Client o at ClearAll) ≡ map (channel_held s (Client o at ClearAll ∷ earlier)) (channels s (Client o at ClearAll ∷ earlier))
clear_all-held s sound earlier o at =
    if_map (is_among o (attached s earlier)) (over cleared) (map (channel_held s earlier) (channels s earlier))
    ∙ mapped s sound earlier (Client o at ClearAll) (λ c. if is_among o (attached s earlier) then over cleared c else c) (λ k. removed-is s earlier k (Client o at ClearAll)) refl
    (λ c k i. clear_any c (lines s earlier c) (size s (fold_name c) earlier) (fits s earlier c) (seen_held s earlier (fold_name c)) (seen_held s (Client o at ClearAll ∷ earlier) (fold_name c)) (joined s earlier (fold_name c)) (detached s earlier (fold_name c)) (is_among o (attached s earlier)) (empties_channels s earlier (Client o at ClearAll)) (quiet_told s sound earlier (Client o at ClearAll) c k i (removed-is s earlier (fold_name c) (Client o at ClearAll)) (unsaid s earlier (Client o at ClearAll) (fold_name c) refl) refl refl))

pub clear_queries-held : (s : Settings) → IsSound s → (earlier : List Command) (o : Origin) (at : ℕ)
    → channels_after s (floor earlier o.0) (held s earlier) (Client o at ClearQueries) ≡ map (channel_held s (Client o at ClearQueries ∷ earlier)) (channels s (Client o at ClearQueries ∷ earlier))
clear_queries-held s sound earlier o at =
    unmapped s sound earlier (Client o at ClearQueries) (λ k. removed-is s earlier k (Client o at ClearQueries)) refl
    (λ c k i. clear_query c (lines s earlier c) (size s (fold_name c) earlier) (fits s earlier c) (seen_held s earlier (fold_name c)) (seen_held s (Client o at ClearQueries ∷ earlier) (fold_name c)) (joined s earlier (fold_name c)) (detached s earlier (fold_name c)) (is_among o (attached s earlier)) (empties_channels s earlier (Client o at ClearQueries)) (quiet_told s sound earlier (Client o at ClearQueries) c k i (removed-is s earlier (fold_name c) (Client o at ClearQueries)) (unsaid s earlier (Client o at ClearQueries) (fold_name c) refl) refl refl))

size_told_by : (s : Settings) → IsSound s → (earlier : List Command) (o : Origin) (at : ℕ) (t : List ℕ) (n : ℕ) (c : List ℕ) (b : Bool) → is_channel c ≡ true → is_in (fold_name c) (channels s earlier) ≡ true
    → (is_among o (attached s earlier) && not (is_past n) && true && at_key (fold_name c) t) ≡ b
    → (if b then fewer (length (kept s earlier (fold_name c)) - n) (seen_held s earlier (fold_name c)) else seen_held s earlier (fold_name c)) ≡ seen_held s (Client o at (SetBuffer t n) ∷ earlier) (fold_name c)
size_told_by s sound earlier o at t n c b k i e =
    let r = removed-is s earlier (fold_name c) (Client o at (SetBuffer t n)) in
    let key = channel-key c k in
    let size_is : size s (fold_name c) (Client o at (SetBuffer t n) ∷ earlier) ≡ (if b then n else size s (fold_name c) earlier) = size-channel s earlier (Client o at (SetBuffer t n)) (fold_name c) key i r ∙ rw e refl in
    let none : emptied s (fold_name c) earlier (Client o at (SetBuffer t n)) ≡ false = emptied-channel s earlier (Client o at (SetBuffer t n)) (fold_name c) key i r ∙ and_false (empties_channels s earlier (Client o at (SetBuffer t n))) in
    sized_told s sound earlier (Client o at (SetBuffer t n)) (fold_name c) n b none (unsaid s earlier (Client o at (SetBuffer t n)) (fold_name c) refl) size_is refl

size_told : (s : Settings) → IsSound s → (earlier : List Command) (o : Origin) (at : ℕ) (t : List ℕ) (n : ℕ) (c : List ℕ) → is_channel c ≡ true → is_in (fold_name c) (channels s earlier) ≡ true
    → (if is_among o (attached s earlier) && not (is_past n) && true && at_key (fold_name c) t then fewer (length (kept s earlier (fold_name c)) - n) (seen_held s earlier (fold_name c)) else seen_held s earlier (fold_name c))
    ≡ seen_held s (Client o at (SetBuffer t n) ∷ earlier) (fold_name c)
size_told s sound earlier o at t n c k i = size_told_by s sound earlier o at t n c (is_among o (attached s earlier) && not (is_past n) && true && at_key (fold_name c) t) k i refl

pub size-held : (s : Settings) → IsSound s → (earlier : List Command) (o : Origin) (at : ℕ) (t : List ℕ) (n : ℕ)
    → channels_after s (floor earlier o.0) (held s earlier) (Client o at (SetBuffer t n)) ≡ map (channel_held s (Client o at (SetBuffer t n) ∷ earlier)) (channels s (Client o at (SetBuffer t n) ∷ earlier))
size-held s sound earlier o at t n =
    if_map (is_among o (attached s earlier) && not (is_past n)) (λ c. if has_key (fold_name t) c then over (resized n) c else c) (map (channel_held s earlier) (channels s earlier))
    ∙ mapped s sound earlier (Client o at (SetBuffer t n)) (λ c. if is_among o (attached s earlier) && not (is_past n) then (if has_key (fold_name t) c then over (resized n) c else c) else c) (λ k. removed-is s earlier k (Client o at (SetBuffer t n))) refl
    (λ c k i. rw (at_key-sym t c) (size_one c (lines s earlier c) (size s (fold_name c) earlier) (fits s earlier c) (seen_held s earlier (fold_name c)) (seen_held s (Client o at (SetBuffer t n) ∷ earlier) (fold_name c)) (joined s earlier (fold_name c)) (detached s earlier (fold_name c)) (is_among o (attached s earlier)) (is_past n) (empties_channels s earlier (Client o at (SetBuffer t n))) (at_key (fold_name c) t) n (size_told s sound earlier o at t n c k i)))

pub detach-held : (s : Settings) → IsSound s → (earlier : List Command) (o : Origin) (at : ℕ) (t : List ℕ)
    → channels_after s (floor earlier o.0) (held s earlier) (Client o at (Detach t)) ≡ map (channel_held s (Client o at (Detach t) ∷ earlier)) (channels s (Client o at (Detach t) ∷ earlier))
detach-held s sound earlier o at t =
    if_map (is_among o (attached s earlier)) (λ c. if has_key (fold_name t) c then with_detached true c else c) (map (channel_held s earlier) (channels s earlier))
    ∙ mapped s sound earlier (Client o at (Detach t)) (λ c. if is_among o (attached s earlier) then (if has_key (fold_name t) c then with_detached true c else c) else c) (λ k. removed-is s earlier k (Client o at (Detach t))) refl
    (λ c k i. rw (at_key-sym t c) (detach_one c (lines s earlier c) (size s (fold_name c) earlier) (fits s earlier c) (seen_held s earlier (fold_name c)) (seen_held s (Client o at (Detach t) ∷ earlier) (fold_name c)) (joined s earlier (fold_name c)) (detached s earlier (fold_name c)) (is_among o (attached s earlier)) (empties_channels s earlier (Client o at (Detach t))) (at_key (fold_name c) t) (quiet_told s sound earlier (Client o at (Detach t)) c k i (removed-is s earlier (fold_name c) (Client o at (Detach t))) (unsaid s earlier (Client o at (Detach t)) (fold_name c) refl) refl refl)))

-- ---- a channel attached again

twice_by : (key : List ℕ) (x : ChannelLines) (clears : Bool) (here : List Bool) (b : Bool) → has_key key x ≡ b
    → (if has_key key (if b then with_detached false x else x) then over (after_play clears here) (if b then with_detached false x else x) else (if b then with_detached false x else x)) ≡ (if b then over (after_play clears here) (with_detached false x) else x)
twice_by key x true here true e = rw e refl
twice_by key x false here true e = rw e refl
twice_by key x clears here false e = rw e refl

abbrev again_at : Bool → List Bool → List ℕ → ChannelLines → ChannelLines
again_at clears here key x = if has_key key x then over (after_play clears here) (with_detached false x) else x

again_map_by : (clears : Bool) (here : List Bool) (det : Bool) (key : List ℕ) (chs : List ChannelLines)
    → (if not det then chs else at_channel key (over (after_play clears here)) (at_channel key (with_detached false) chs)) ≡ map (λ x. if det then again_at clears here key x else x) chs
again_map_by clears here true key chs =
    map_through (λ x. if has_key key x then with_detached false x else x) (λ x. if has_key key x then over (after_play clears here) x else x) (λ x. if has_key key x then over (after_play clears here) (with_detached false x) else x) (λ x. twice_by key x clears here (has_key key x) refl) chs
again_map_by clears here false key chs = sym (map_id chs)

again_map : (asks clears : Bool) (names : Names) (key : List ℕ) (chs : List ChannelLines) (o : Option ChannelLines)
    → (if asks then attached_again clears names key chs o else chs) ≡ map (λ x. if asks && is_detached o then again_at (clears_now clears names) (here_of names) key x else x) chs
again_map false clears names key chs o = sym (map_id chs)
again_map true clears names key chs o = again_map_by (clears_now clears names) (here_of names) (is_detached o) key chs

-- channels with the same key are detached together
pub detached_together : (s : Settings) (earlier : List Command) (c t : List ℕ) → at_key (fold_name c) t ≡ true → detached s earlier (fold_name c) ≡ detached s earlier (fold_name t)
detached_together s earlier c t e = ap (detached s earlier) (key_is (fold_name c) t e)

pub again-held : (s : Settings) → IsSound s → (earlier : List Command) (o : Origin) (t : List ℕ) (x : Command) → ((k : List ℕ) → is_removed s earlier k x ≡ false) → with_made (made_by (nick s earlier) x) (channels s earlier) ≡ channels s earlier
    → empties_channels s earlier x ≡ (s.clears_channels && (not (is_some_of (ids s earlier)) && true))
    → ((c : List ℕ) → next_channel s earlier x (channel_held s earlier c)
    ≡ upon c (kept s earlier (fold_name c)) (size s (fold_name c) earlier) (empties_channels s earlier x && (is_among o (attached s earlier) && true && detached s earlier (fold_name c) && at_key (fold_name c) t)) None (seen_held s (x ∷ earlier) (fold_name c)) (joined s earlier (fold_name c)) (detached s earlier (fold_name c) && not (is_among o (attached s earlier) && at_key (fold_name c) t)))
    → ((c : List ℕ) → is_channel c ≡ true → is_in (fold_name c) (channels s earlier) ≡ true
    → (if empties_channels s earlier x && (is_among o (attached s earlier) && true && detached s earlier (fold_name c) && at_key (fold_name c) t) then none_seen
    else if is_among o (attached s earlier) && true && detached s earlier (fold_name c) && at_key (fold_name c) t then counted (length (kept s earlier (fold_name c))) 0 (here_of (names_held s earlier)) (seen_held s earlier (fold_name c)) else seen_held s earlier (fold_name c))
    ≡ seen_held s (x ∷ earlier) (fold_name c))
    → (if is_among o (attached s earlier) then attached_again s.clears_channels (names_held s earlier) (fold_name t) (map (channel_held s earlier) (channels s earlier)) (channel_of_key (fold_name t) (map (channel_held s earlier) (channels s earlier))) else map (channel_held s earlier) (channels s earlier))
    ≡ map (channel_held s (x ∷ earlier)) (channels s (x ∷ earlier))
again-held s sound earlier o t x r m l h q =
    again_map (is_among o (attached s earlier)) s.clears_channels (names_held s earlier) (fold_name t) (map (channel_held s earlier) (channels s earlier)) (channel_of_key (fold_name t) (map (channel_held s earlier) (channels s earlier)))
    ∙ (ap (λ b. map (λ y. if is_among o (attached s earlier) && is_detached (channel_of_key (fold_name t) (map (channel_held s earlier) (channels s earlier))) then again_at b (here_of (names_held s earlier)) (fold_name t) y else y) (map (channel_held s earlier) (channels s earlier))) (clears_same s.clears_channels (names_held s earlier) ∙ sym l)
    ∙ (ap (λ det. map (λ y. if is_among o (attached s earlier) && det then again_at (empties_channels s earlier x) (here_of (names_held s earlier)) (fold_name t) y else y) (map (channel_held s earlier) (channels s earlier))) (found-detached s earlier (fold_name t))
    ∙ mapped s sound earlier x (λ y. if is_among o (attached s earlier) && detached s earlier (fold_name t) then again_at (empties_channels s earlier x) (here_of (names_held s earlier)) (fold_name t) y else y) r m
    (λ c k i. rw (at_key-sym t c) (again_one c (lines s earlier c) (size s (fold_name c) earlier) (fits s earlier c) (seen_held s earlier (fold_name c)) (seen_held s (x ∷ earlier) (fold_name c)) (here_of (names_held s earlier)) (joined s earlier (fold_name c)) (detached s earlier (fold_name c)) (is_among o (attached s earlier)) (detached s earlier (fold_name t)) (empties_channels s earlier x) (at_key (fold_name c) t) (detached_together s earlier c t) (q c k i)) ∙ sym (h c))))

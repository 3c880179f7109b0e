-- The machine holds the channels of a history after one step, where a line is stored.
use Rattle.std.proofs.Common.{◌≡◌, ℕ, suc, ◌-◌, List, [], ◌∷◌, map, length, refl, ap, ◌∙◌, sym, Bool, true, false, not, ◌&&◌, ◌||◌}
use Rattle.std.specs.Prelude.{Option, Some, None, if◌then◌else◌}
use Rattle.irc_line.specs.Names.{fold_name, is_channel}
use Rattle.irc_line.specs.Keys.{at_key, is_in}
use Rattle.irc_line.specs.Lines.{Parts, line_of, parameter}
use Rattle.buffer_targets.specs.Targets.{ChannelLines, counted, pushed, over, has_key, at_channel}
use Rattle.buffer_commands.specs.Settings.{Settings}
use Rattle.buffer_commands.specs.declared.command.Command.{Command}
use Rattle.buffer_machine.specs.Messages.{is_storable}
use Rattle.buffer_machine.specs.Buffers.{is_known, said, stored, keeps, nick, channels, joined, detached, size, kept, made_by, with_made, is_removed}
use Rattle.buffer_machine.specs.Crowd.{attached, holds, ids}
use Rattle.buffer_machine.specs.Steps.{channels_storing}
use Rattle.buffer_machine.specs.NameSteps.{here_in}
use Rattle.buffer_machine.specs.Held.{IsSound, channel_held, held, names_held, seen_held}
use Rattle.buffer_machine.proofs.SeenLists.{pushed_length, pushed_list}
use Rattle.buffer_machine.proofs.NamesStep.{here-is, nobody_here}
use Rattle.buffer_machine.proofs.Folded.{channel-key}
use Rattle.buffer_machine.proofs.Lists.{map_same}
use Rattle.buffer_machine.proofs.Kept.{channel_stored, stored-channel}
use Rattle.buffer_machine.proofs.Unknown.{removes-channel}
use Rattle.buffer_machine.proofs.Next.{StoresAlone, channel_empties, emptied-channel, next_channel, size-channel, stores-empties, unsaid}
use Rattle.buffer_machine.proofs.Found.{found-detached}
use Rattle.buffer_machine.proofs.Pointwise.{map_id}
use Rattle.buffer_machine.proofs.OneChannel.{upon, same, store_one}
use Rattle.irc_line.proofs.Booleans.{and_false, and_right, and_true}
use Rattle.irc_line.proofs.Order.{at_key-sym}
use Rattle.buffer_machine.proofs.ChannelsStep.{detached_together, empties_channels, fits, lines, mapped, quiet_told, unmapped}

-- ---- a line stored

pushed_map : (storable stores : Bool) (key : List ℕ) (line : ℕ × Parts) (here : List Bool) (chs : List ChannelLines)
    → (if storable then (if stores then at_channel key (over (pushed line here)) chs else chs) else chs) ≡ map (λ x. if storable && stores then (if has_key key x then over (pushed line here) x else x) else x) chs
pushed_map true true key line here chs = refl
pushed_map true false key line here chs = sym (map_id chs)
pushed_map false stores key line here chs = sym (map_id chs)

store_test : (storable keep d det k : Bool) → (k ≡ true → d ≡ det) → ((storable && (keep || det)) && k) ≡ ((keep || d) && (storable && k))
store_test true true d det k h = refl
store_test true false true true k h = refl
store_test true false false false k h = refl
store_test true false true false true h = absurd (let e = h refl in cc)
store_test true false true false false h = refl
store_test true false false true true h = absurd (let e = h refl in cc)
store_test true false false true false h = refl
store_test false true d det k h = refl
store_test false false true det k h = refl
store_test false false false det k h = refl

here_shown : (s : Settings) (h : List Command) (hidden : Bool) → here_in (names_held s h) hidden ≡ map (λ id. holds s h id && not hidden) (ids s h)
here_shown s h true = nobody_here 0 (ids s h) ∙ map_same (λ id. false) (λ id. holds s h id && false) (λ id. sym (and_false (holds s h id))) (ids s h)
here_shown s h false = here-is s h ∙ map_same (holds s h) (λ id. holds s h id && true) (λ id. sym (and_true (holds s h id))) (ids s h)

store_told : (s : Settings) → IsSound s → (earlier : List Command) (x : Command) (line : ℕ × Parts) (c p : List ℕ) (b : Bool) → StoresAlone s earlier x → is_channel c ≡ true → is_in (fold_name c) (channels s earlier) ≡ true → is_removed s earlier (fold_name c) x ≡ false
    → stored s (fold_name c) earlier x ≡ (if b then Some line else None) → (b ≡ true → detached s earlier (fold_name c) ≡ detached s earlier p)
    → (if b then counted (pushed_length (size s (fold_name c) earlier) (kept s earlier (fold_name c)) line) (suc (length (kept s earlier (fold_name c))) - pushed_length (size s (fold_name c) earlier) (kept s earlier (fold_name c)) line)
    (here_in (names_held s earlier) (detached s earlier p)) (seen_held s earlier (fold_name c)) else seen_held s earlier (fold_name c)) ≡ seen_held s (x ∷ earlier) (fold_name c)
store_told s sound earlier x line c p true a k i r o d =
    let key = channel-key c k in
    pushed_list s earlier x (fold_name c) line (size s (fold_name c) earlier) (here_in (names_held s earlier) (detached s earlier p)) (stores-empties s earlier x (fold_name c) a (removes-channel s earlier x (fold_name c) key ∙ r)) o
    (size-channel s earlier x (fold_name c) key i r ∙ a.sizes_none true (fold_name c) (size s (fold_name c) earlier))
    (a.plays_none (is_channel (fold_name c) && detached s earlier (fold_name c)) (is_known s earlier (fold_name c)) (fold_name c)) a.names_none
    (ap (here_in (names_held s earlier)) (sym (d refl)) ∙ (here_shown s earlier (detached s earlier (fold_name c)) ∙ ap (λ b. map (λ id. holds s earlier id && not (b && detached s earlier (fold_name c))) (ids s earlier)) (sym key)))
store_told s sound earlier x line c p false a k i r o d =
    let key = channel-key c k in
    let none : channel_empties s earlier (detached s earlier (fold_name c)) (fold_name c) x ≡ false = sym (emptied-channel s earlier x (fold_name c) key i r) ∙ stores-empties s earlier x (fold_name c) a (removes-channel s earlier x (fold_name c) key ∙ r) in
    rw none at (quiet_told s sound earlier x c k i r o (a.sizes_none true (fold_name c) (size s (fold_name c) earlier)) (a.plays_none (detached s earlier (fold_name c)) true (fold_name c)))

key_of : (b k : Bool) → (b && k) ≡ true → k ≡ true
key_of b k e = and_right b k e

-- a command that does nothing to the channels except that its line is stored
pub storing-held : (s : Settings) → IsSound s → (earlier : List Command) (x : Command) (o : Option (ℕ × Parts)) → ((k : List ℕ) → is_removed s earlier k x ≡ false) → with_made (made_by (nick s earlier) x) (channels s earlier) ≡ channels s earlier
    → said (attached s earlier) (nick s earlier) x ≡ o → StoresAlone s earlier x
    → ((c : List ℕ) → next_channel s earlier x (channel_held s earlier c)
    ≡ upon c (kept s earlier (fold_name c)) (size s (fold_name c) earlier) (empties_channels s earlier x && false) (channel_stored (keeps s.clears_channels (attached s earlier) (ids s earlier) || detached s earlier (fold_name c)) (fold_name c) o) (seen_held s (x ∷ earlier) (fold_name c)) (joined s earlier (fold_name c)) (detached s earlier (fold_name c)))
    → channels_storing s (held s earlier) o ≡ map (channel_held s (x ∷ earlier)) (channels s (x ∷ earlier))
storing-held s sound earlier x None r m l a h =
    unmapped s sound earlier x r m
    (λ c k i. same c (lines s earlier c) (size s (fold_name c) earlier) (fits s earlier c) (seen_held s earlier (fold_name c)) (seen_held s (x ∷ earlier) (fold_name c)) (joined s earlier (fold_name c)) (detached s earlier (fold_name c)) (empties_channels s earlier x && false) (and_false (empties_channels s earlier x))
    (rw (and_false (empties_channels s earlier x)) (store_told s sound earlier x (0, line_of [] [] []) c (fold_name c) false a k i (r (fold_name c)) (unsaid s earlier x (fold_name c) l) (λ e. cc))) ∙ sym (h c))
storing-held s sound earlier x (Some line) r m l a h =
    ap (λ det. if is_storable line.1 then (if keeps s.clears_channels (attached s earlier) (ids s earlier) || det then at_channel (fold_name (parameter 0 (line.1))) (over (pushed line (here_in (names_held s earlier) det))) (map (channel_held s earlier) (channels s earlier)) else map (channel_held s earlier) (channels s earlier)) else map (channel_held s earlier) (channels s earlier)) (found-detached s earlier (fold_name (parameter 0 (line.1))))
    ∙ (pushed_map (is_storable line.1) (keeps s.clears_channels (attached s earlier) (ids s earlier) || detached s earlier (fold_name (parameter 0 (line.1)))) (fold_name (parameter 0 (line.1))) line (here_in (names_held s earlier) (detached s earlier (fold_name (parameter 0 (line.1))))) (map (channel_held s earlier) (channels s earlier))
    ∙ mapped s sound earlier x (λ y. if is_storable line.1 && (keeps s.clears_channels (attached s earlier) (ids s earlier) || detached s earlier (fold_name (parameter 0 (line.1)))) then (if has_key (fold_name (parameter 0 (line.1))) y then over (pushed line (here_in (names_held s earlier) (detached s earlier (fold_name (parameter 0 (line.1)))))) y else y) else y) r m
    (λ c k i.
    let test = store_test (is_storable line.1) (keeps s.clears_channels (attached s earlier) (ids s earlier)) (detached s earlier (fold_name c)) (detached s earlier (fold_name (parameter 0 (line.1)))) (at_key (fold_name c) (parameter 0 (line.1))) (detached_together s earlier c (parameter 0 (line.1))) in
    rw (at_key-sym (parameter 0 (line.1)) c)
    (store_one c (lines s earlier c) (size s (fold_name c) earlier) (fits s earlier c) (seen_held s earlier (fold_name c)) (seen_held s (x ∷ earlier) (fold_name c)) (joined s earlier (fold_name c)) (detached s earlier (fold_name c)) (here_in (names_held s earlier) (detached s earlier (fold_name (parameter 0 (line.1))))) (is_storable line.1 && (keeps s.clears_channels (attached s earlier) (ids s earlier) || detached s earlier (fold_name (parameter 0 (line.1))))) (empties_channels s earlier x) (at_key (fold_name c) (parameter 0 (line.1))) line
    (store_told s sound earlier x line c (fold_name (parameter 0 (line.1))) ((is_storable line.1 && (keeps s.clears_channels (attached s earlier) (ids s earlier) || detached s earlier (fold_name (parameter 0 (line.1))))) && at_key (fold_name c) (parameter 0 (line.1))) a k i (r (fold_name c))
    (stored-channel s earlier x (fold_name c) (channel-key c k) i ∙ (ap (channel_stored (keeps s.clears_channels (attached s earlier) (ids s earlier) || detached s earlier (fold_name c)) (fold_name c)) l ∙ ap (λ b. if b then Some line else None) (sym test)))
    (λ e. detached_together s earlier c (parameter 0 (line.1)) (key_of (is_storable line.1 && (keeps s.clears_channels (attached s earlier) (ids s earlier) || detached s earlier (fold_name (parameter 0 (line.1))))) (at_key (fold_name c) (parameter 0 (line.1))) e)))
    ∙ ap (λ b. upon c (lines s earlier c) (size s (fold_name c) earlier) (empties_channels s earlier x && false) (if b then Some line else None) (seen_held s (x ∷ earlier) (fold_name c)) (joined s earlier (fold_name c)) (detached s earlier (fold_name c))) test
    ∙ sym (h c))))

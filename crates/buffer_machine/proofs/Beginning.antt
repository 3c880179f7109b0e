-- What is held before any command.
use Rattle.std.proofs.Common.{◌≡◌, ℕ, zero, suc, true, false, List, [], ◌∷◌, map, refl, ap, subst}
use Rattle.std.specs.Prelude.{replicate}
use Rattle.std.specs.List.{list_all}
use Rattle.buffer_targets.specs.Targets.{channel, none_seen, target}
use Rattle.irc_line.specs.Names.{fold_name, is_channel}
use Rattle.buffer_lines.specs.Stamps.{ring}
use Rattle.buffer_commands.specs.Settings.{Settings}
use Rattle.buffer_machine.specs.Crowd.{attached, crowd}
use Rattle.buffer_machine.specs.Buffers.{nick, joined, size}
use Rattle.buffer_machine.specs.Marks.{seen}
use Rattle.buffer_machine.specs.Held.{IsSound, channel_held, for_each, held, seen_held}
use Rattle.buffer_machine.specs.Steps.{beginning}
use Rattle.buffer_machine.proofs.Folded.{channel-key}
use Rattle.buffer_machine.proofs.Kept.{kept-none, size-first}
use Rattle.buffer_machine.proofs.Lists.{map_at}
use Rattle.buffer_machine.proofs.Names.{all-at}
use Rattle.buffer_machine.proofs.Standing.{channels-none, queries-none}
use Rattle.buffer_machine.proofs.Unknown.{detached-none}
use Rattle.buffer_machine.proofs.Unnamed.{ids-begin}

-- ---- before any command

nick-none : (s : Settings) → nick s [] ≡ s.nick
unfolding nick
nick-none s = refl

attached-none : (s : Settings) → [] ≡ attached s []
unfolding attached crowd
attached-none s = refl

for_none : (f : List ℕ → ℕ) (n : ℕ) → for_each f n [] ≡ replicate n 0
for_none f zero = refl
for_none f (suc n) = ap (λ xs. 0 ∷ xs) (for_none f n)

seen-begin : (s : Settings) (t : List ℕ) → seen_held s [] t ≡ none_seen
seen-begin s t = rw (ids-begin s) (for_none (λ id. seen s [] id t) 64)

joined-none : (s : Settings) (k : List ℕ) → joined s [] k ≡ false
unfolding joined
joined-none s k = refl

first-channel : (s : Settings) (c : List ℕ) → is_channel c ≡ true → s.channel_size ≡ size s (fold_name c) []
first-channel s c e = rw (size-first s (fold_name c), channel-key c e) refl

channels-begin : (s : Settings) → IsSound s → map (λ c. channel (target c (ring [] s.channel_size) none_seen) false false) s.channels ≡ map (channel_held s []) s.channels
channels-begin s sound =
    map_at _ _ s.channels (λ front c back e.
    let channel_name : is_channel c ≡ true = all-at is_channel front c back (subst (λ cs. list_all is_channel cs ≡ true) e sound.channels) in
    rw (← first-channel s c channel_name, kept-none s (fold_name c), joined-none s (fold_name c), detached-none s (fold_name c), seen-begin s (fold_name c)) refl)

-- what is held before any command
pub held-none : (s : Settings) → IsSound s → beginning s ≡ held s []
held-none s sound =
    rw (nick-none s, queries-none s, channels-none s, channels-begin s sound, ← attached-none s, ids-begin s) refl

-- What is found under a key among what is held.
use Rattle.std.proofs.Common.{◌≡◌, ℕ, List, [], ◌∷◌, map, refl, ap, ◌∙◌, sym, Bool, true, false, ◌&&◌, ◌||◌}
use Rattle.std.specs.Prelude.{Option, Some, None, is_some, if◌then◌else◌, find, unwrap_or}
use Rattle.irc_line.specs.Keys.{at_key, is_in}
use Rattle.buffer_lines.specs.Stamps.{ring}
use Rattle.buffer_targets.specs.Targets.{ChannelLines, TargetLines, channel, target, channel_of_key, query_of_key}
use Rattle.buffer_commands.specs.Settings.{Settings}
use Rattle.buffer_commands.specs.declared.command.Command.{Command}
use Rattle.buffer_machine.specs.Buffers.{channels, joined, detached, size, kept}
use Rattle.buffer_machine.specs.Steps.{is_detached, is_joined}
use Rattle.buffer_machine.specs.Held.{channel_held, seen_held, target_held}
use Rattle.buffer_machine.proofs.Unknown.{detached-unknown}
use Rattle.irc_line.proofs.Order.{key_is}

-- the target, and the channel, of a key with what is held of it
abbrev pub target_under : Settings → List Command → List ℕ → Option (List ℕ) → TargetLines
target_under s history k name = target (unwrap_or name k) (ring (kept s history k) (size s k history)) (seen_held s history k)

abbrev pub channel_under : Settings → List Command → List ℕ → Option (List ℕ) → ChannelLines
channel_under s history k name = channel (target_under s history k name) (joined s history k) (detached s history k)

channel_found_by : (s : Settings) (history : List Command) (k c : List ℕ) (cs : List (List ℕ)) (b : Bool) → at_key k c ≡ b
    → channel_of_key k (map (channel_held s history) cs) ≡ (if is_in k cs then Some (channel_under s history k (find (at_key k) cs)) else None)
    → (if b then Some (channel_held s history c) else channel_of_key k (map (channel_held s history) cs))
    ≡ (if b || is_in k cs then Some (channel_under s history k (if b then Some c else find (at_key k) cs)) else None)
channel_found_by s history k c cs true e ih =
    ap (λ key. Some (channel (target c (ring (kept s history key) (size s key history)) (seen_held s history key)) (joined s history key) (detached s history key))) (sym (key_is k c e))
channel_found_by s history k c cs false e ih = ih

pub channel-found : (s : Settings) (history : List Command) (k : List ℕ) (cs : List (List ℕ))
    → channel_of_key k (map (channel_held s history) cs) ≡ (if is_in k cs then Some (channel_under s history k (find (at_key k) cs)) else None)
channel-found s history k [] = refl
channel-found s history k (c ∷ cs) = channel_found_by s history k c cs (at_key k c) refl (channel-found s history k cs)

query_found_by : (s : Settings) (history : List Command) (k c : List ℕ) (cs : List (List ℕ)) (b : Bool) → at_key k c ≡ b
    → query_of_key k (map (target_held s history) cs) ≡ (if is_in k cs then Some (target_under s history k (find (at_key k) cs)) else None)
    → (if b then Some (target_held s history c) else query_of_key k (map (target_held s history) cs))
    ≡ (if b || is_in k cs then Some (target_under s history k (if b then Some c else find (at_key k) cs)) else None)
query_found_by s history k c cs true e ih =
    ap (λ key. Some (target c (ring (kept s history key) (size s key history)) (seen_held s history key))) (sym (key_is k c e))
query_found_by s history k c cs false e ih = ih

pub query-found : (s : Settings) (history : List Command) (k : List ℕ) (cs : List (List ℕ))
    → query_of_key k (map (target_held s history) cs) ≡ (if is_in k cs then Some (target_under s history k (find (at_key k) cs)) else None)
query-found s history k [] = refl
query-found s history k (c ∷ cs) = query_found_by s history k c cs (at_key k c) refl (query-found s history k cs)

detached_by : (s : Settings) (history : List Command) (k : List ℕ) (name : Option (List ℕ)) (b : Bool) → is_in k (channels s history) ≡ b
    → is_detached (if b then Some (channel_under s history k name) else None) ≡ detached s history k
detached_by s history k name true e = refl
detached_by s history k name false e = sym (detached-unknown s history k e)

-- whether the channel that is found is detached
pub found-detached : (s : Settings) (history : List Command) (k : List ℕ) → is_detached (channel_of_key k (map (channel_held s history) (channels s history))) ≡ detached s history k
found-detached s history k =
    ap is_detached (channel-found s history k (channels s history)) ∙ detached_by s history k (find (at_key k) (channels s history)) (is_in k (channels s history)) refl

joined_by : (c : ChannelLines) (b : Bool) → is_joined (if b then Some c else None) ≡ (b && c.joined)
joined_by c true = refl
joined_by c false = refl

-- whether the channel that is found, if any, is joined
pub found-joined : (s : Settings) (history : List Command) (k : List ℕ)
    → is_joined (channel_of_key k (map (channel_held s history) (channels s history))) ≡ (is_in k (channels s history) && joined s history k)
found-joined s history k =
    ap is_joined (channel-found s history k (channels s history)) ∙ joined_by (channel_under s history k (find (at_key k) (channels s history))) (is_in k (channels s history))

some_by : {A : Type 0} (a : A) (b : Bool) → is_some (if b then Some a else None) ≡ b
some_by a true = refl
some_by a false = refl

pub found-known : (s : Settings) (history : List Command) (k : List ℕ) → is_some (channel_of_key k (map (channel_held s history) (channels s history))) ≡ is_in k (channels s history)
found-known s history k =
    ap is_some (channel-found s history k (channels s history)) ∙ some_by (channel_under s history k (find (at_key k) (channels s history))) (is_in k (channels s history))

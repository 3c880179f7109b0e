-- A channel by its name.
use Rattle.std.proofs.Common.{◌≡◌, ℕ, List, [], ◌∷◌, refl, ◌∙◌, Bool, true, false, ◌||◌}
use Rattle.std.specs.Prelude.{Some, None, if◌then◌else◌, find, unwrap_or}
use Rattle.irc_line.specs.Names.{fold_name}
use Rattle.irc_line.specs.Keys.{at_key, is_in}
use Rattle.buffer_lines.specs.Stamps.{framed}
use Rattle.buffer_commands.specs.Settings.{Settings}
use Rattle.buffer_commands.specs.declared.command.Command.{Command}
use Rattle.buffer_machine.specs.Buffers.{channels, kept, playback}
use Rattle.buffer_machine.specs.Effects.{named, is_channel_known}
use Rattle.buffer_machine.proofs.Playing.{playback-both}
use Rattle.irc_line.proofs.Booleans.{or_left_false, or_right_false}

found_none_by : (k c : List ℕ) (cs : List (List ℕ)) (b : Bool) → b ≡ false → find (at_key k) cs ≡ None → (if b then Some c else find (at_key k) cs) ≡ None
found_none_by k c cs true e f = absurd cc
found_none_by k c cs false e f = f

-- no name is found under a key that is not in the list
found_none : (k : List ℕ) (cs : List (List ℕ)) → is_in k cs ≡ false → find (at_key k) cs ≡ None
found_none k [] e = refl
found_none k (c ∷ cs) e = found_none_by k c cs (at_key k c) (or_left_false (at_key k c) _ e) (found_none k cs (or_right_false (at_key k c) _ e))

found_some_by : (k c a b : List ℕ) (cs : List (List ℕ)) (t : Bool) → (t || is_in k cs) ≡ true → (is_in k cs ≡ true → unwrap_or (find (at_key k) cs) a ≡ unwrap_or (find (at_key k) cs) b)
    → unwrap_or (if t then Some c else find (at_key k) cs) a ≡ unwrap_or (if t then Some c else find (at_key k) cs) b
found_some_by k c a b cs true e ih = refl
found_some_by k c a b cs false e ih = ih e

-- a name is found, whatever the fallback is
found_some : (k a b : List ℕ) (cs : List (List ℕ)) → is_in k cs ≡ true → unwrap_or (find (at_key k) cs) a ≡ unwrap_or (find (at_key k) cs) b
found_some k a b [] e = absurd cc
found_some k a b (c ∷ cs) e = found_some_by k c a b cs (at_key k c) e (λ i. found_some k a b cs i)

pub named-known : (s : Settings) (history : List Command) (c : List ℕ) → is_in (fold_name c) (channels s history) ≡ true
    → named s history c ≡ unwrap_or (find (at_key (fold_name c)) (channels s history)) (fold_name c)
unfolding named
named-known s history c e = found_some (fold_name c) c (fold_name c) (channels s history) e

pub named-unknown : (s : Settings) (history : List Command) (c : List ℕ) → is_in (fold_name c) (channels s history) ≡ false → named s history c ≡ c
unfolding named
named-unknown s history c e = rw (found_none (fold_name c) (channels s history) e) refl

pub known-is : (s : Settings) (history : List Command) (c : List ℕ) → is_channel_known s history c ≡ is_in (fold_name c) (channels s history)
unfolding is_channel_known
known-is s history c = refl

-- the playback of a known channel
pub played-known : (s : Settings) (history : List Command) (c : List ℕ) → is_in (fold_name c) (channels s history) ≡ true
    → playback s history (fold_name c) ≡ framed s.offset (unwrap_or (find (at_key (fold_name c)) (channels s history)) (fold_name c)) (kept s history (fold_name c))
played-known s history c e = playback-both s history (fold_name c) ∙ rw e refl

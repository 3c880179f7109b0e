-- A channel's name is a name.
use Rattle.std.proofs.Common.{◌≡◌, ℕ, true, List}
use Rattle.std.specs.Prelude.{None}
use Rattle.irc_line.specs.Names.{has_channel_mark, is_channel, is_name}
use Rattle.irc_line.proofs.Booleans.{and_left}
use Rattle.client_gate.specs.Words.{passed_by}

is_named : (w : List ℕ) → is_channel w ≡ true → is_name w ≡ true
unfolding is_channel
is_named w h = and_left (is_name w) (has_channel_mark w) h

pub has_its_name : (w : List ℕ) → is_channel w ≡ true → None ≡ passed_by is_name w → ⊥
has_its_name w h e = let f = rw (is_named w h) at e in cc

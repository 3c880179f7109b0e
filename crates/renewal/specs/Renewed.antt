-- What it means that a list of commands is renewed. Lists of commands have the newest first.
use Rattle.std.specs.Prelude.{◌≡◌, ℕ, ◌<◌, true, List, [], ◌∷◌, ◌++◌, ⊤}
use Rattle.buffer_commands.specs.Settings.{Settings}
use Rattle.buffer_commands.specs.declared.command.Command.{Command}
use Rattle.buffer_machine.specs.Buffers.{channels, detached, is_known, joined, kept, nick, playback, queries, size}
use Rattle.buffer_machine.specs.Crowd.{attached, floor, ids}
use Rattle.buffer_machine.specs.Effects.{effects}
use Rattle.buffer_machine.specs.Marks.{playback_for, unseen}
use Rattle.buffer_machine.specs.Steps.{IsWithinLimits}
use Rattle.irc_line.specs.Keys.{is_in}

-- commands whose clients' nodes are 1 to 7, as the types of a command guarantee
abbrev pub AreWithinLimits : List Command → Type 0
AreWithinLimits [] = ⊤
AreWithinLimits (x ∷ xs) = IsWithinLimits x × AreWithinLimits xs

-- Whatever comes after the one list brings about what it would after the other, and all is played back the same: now,
-- and after any further commands
pub record MeansTheSame (s : Settings) (old new : List Command) : Type 0 where
  pub brought : (later : List Command) (x : Command) → AreWithinLimits (x ∷ later) → effects s (later ++ new) x ≡ effects s (later ++ old) x
  pub played : (later : List Command) (t : List ℕ) → AreWithinLimits later → playback s (later ++ new) t ≡ playback s (later ++ old) t
  pub played_for : (later : List Command) (id t : List ℕ) → AreWithinLimits later → playback_for s (later ++ new) id t ≡ playback_for s (later ++ old) id t

-- The one list leads to the same as the other, and nobody is attached after either: the own nick, the floors and the
-- names of clients; the channels and queries in their order, with their names as written; for each of these whether it
-- is joined and detached, its size, what it keeps, and what each name has not seen of it
pub record Renewed (s : Settings) (old new : List Command) : Type 0 where
  pub gone : attached s old ≡ []
  pub nobody : attached s new ≡ []
  pub floors : (node : ℕ) → node < 8 → floor new node ≡ floor old node
  pub named : nick s new ≡ nick s old
  pub names : ids s new ≡ ids s old
  pub in_channels : channels s new ≡ channels s old
  pub in_queries : queries s new ≡ queries s old
  pub joining : (c : List ℕ) → is_in c (channels s old) ≡ true → joined s new c ≡ joined s old c
  pub detaching : (c : List ℕ) → is_in c (channels s old) ≡ true → detached s new c ≡ detached s old c
  pub sized : (t : List ℕ) → is_known s old t ≡ true → size s t new ≡ size s t old
  pub keeping : (t : List ℕ) → is_known s old t ≡ true → kept s new t ≡ kept s old t
  pub unseen_by : (id t : List ℕ) → is_known s old t ≡ true → unseen s new id t ≡ unseen s old id t
  pub from_now_on : MeansTheSame s old new

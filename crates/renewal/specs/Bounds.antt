-- How many bodies a new list may have.
use Rattle.std.specs.Prelude.{ℕ, ◌+◌, ◌*◌, ◌-◌, ◌^◌, List, [], ◌∷◌, length, min}
use Rattle.buffer_targets.specs.Targets.{ChannelLines, TargetLines}
use Rattle.buffer_machine.specs.Held.{Held}

-- the greatest number that can be counted
abbrev pub greatest_count : ℕ
greatest_count = 2 ^ 64 - 1

-- how many lines the channels keep
abbrev pub lines_of_channels : List ChannelLines → ℕ
lines_of_channels [] = 0
lines_of_channels (c ∷ cs) = length c.target.lines.lines + lines_of_channels cs

-- how many lines the queries keep
abbrev pub lines_of_queries : List TargetLines → ℕ
lines_of_queries [] = 0
lines_of_queries (t ∷ ts) = length t.lines.lines + lines_of_queries ts

-- At most 5 for a line, since one comes from upstream as it is, in a query after a nick, and is said by a client if it
-- is too long; 12 for a channel, 2 for a query, 4 for a name, 2 for a name and a channel, and 12
abbrev pub most_of : ℕ → ℕ → ℕ → ℕ → ℕ → ℕ
most_of lines channels queries names others = 5 * lines + (12 * channels + 2 * queries) + 2 * (names * channels) + 4 * names + others + 12

-- for what is held, and for this many channels of the setup, waiting lines and nodes
abbrev pub most_bodies : Held → ℕ → ℕ
most_bodies h others = most_of (lines_of_channels h.channels + lines_of_queries h.queries) (length h.channels) (length h.queries) (length h.names.ids) others

-- how many targets there are, and how many lines they keep, up to the greatest count
abbrev pub targets_counted : Held → ℕ
targets_counted h = min (length h.channels + length h.queries) greatest_count

abbrev pub lines_counted : Held → ℕ
lines_counted h = min (lines_of_channels h.channels + lines_of_queries h.queries) greatest_count

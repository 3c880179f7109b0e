-- How fast a log grows, by marks of its length, the newest first.
use Rattle.std.specs.Prelude.{ℕ, ◌+◌, ◌-◌, ◌*◌, ◌/◌, ◌≤◌, ◌<◌, nat_le, nat_lt, Bool, true, false, ◌||◌, ◌&&◌, if◌then◌else◌, List, [], ◌∷◌, length, Option, Some, None, slice_get}
use Rattle.driver.specs.declared.level.TheConstants.{FULL}
use Rattle.driver.specs.declared.level.Level.TheVariants.{Filling, NearlyFull}
use Rattle.driver.specs.declared.news.News.{News}
use Rattle.driver.specs.declared.news.News.TheVariants.{LogFills}
use Rattle.bouncer_run.specs.declared.log_rate.Mark.{Mark}
use Rattle.bouncer_run.specs.declared.log_rate.TheConstants.{DAY, HOUR, MOST_MARKS}

-- this many seconds have passed since a mark, at a moment
abbrev pub is_older : ℕ → ℕ → Mark → Bool
is_older seconds at mark = nat_le (mark.at + seconds) at

-- these marks up to the first that is a day old at a moment
abbrev pub up_to_day : ℕ → List Mark → List Mark
up_to_day at [] = []
up_to_day at (mark ∷ earlier) = if is_older DAY at mark then mark ∷ [] else mark ∷ up_to_day at earlier

-- since a mark the clock went back, or the log became shorter
abbrev pub is_undone : Mark → Mark → Bool
is_undone mark new = nat_lt new.at mark.at || nat_lt new.entries mark.entries

-- the marks with a new one, if the newest is an hour old: none is kept that is older than the first
-- that is a day old; they begin anew if the clock went back, or the log became shorter
abbrev pub noted : Mark → List Mark → List Mark
noted new [] = new ∷ []
noted new (newest ∷ earlier) =
    if is_undone newest new then new ∷ [] else (if is_older HOUR new.at newest then new ∷ up_to_day new.at (newest ∷ earlier) else newest ∷ earlier)

-- the newest of these marks is this many seconds old at a moment
abbrev pub IsPast : ℕ → ℕ → List Mark → Type 0
IsPast at seconds [] = Unit {0}
IsPast at seconds (newest ∷ earlier) = newest.at + seconds ≤ at

-- each of these marks is an hour older than the one before it
abbrev pub AreApart : List Mark → Type 0
AreApart [] = Unit {0}
AreApart (mark ∷ earlier) = IsPast mark.at HOUR earlier × AreApart earlier

-- the marks of a log's last day
pub record AreMarks (marks : List Mark) : Type 0 where
  pub apart : AreApart marks
  pub few : length marks ≤ MOST_MARKS

-- the days until a log of this many entries is full at a moment, at the rate since a mark: nothing
-- is known if that is less than an hour ago, or the log did not grow
abbrev pub days_since : ℕ → ℕ → Option Mark → Option ℕ
days_since at entries None = None
days_since at entries (Some mark) =
    if is_older HOUR at mark && nat_lt mark.entries entries then Some ((FULL - entries) * (at - mark.at) / (entries - mark.entries) / DAY) else None

-- the oldest of these marks
abbrev pub oldest : List Mark → Option Mark
oldest marks = slice_get marks (length marks - 1)

-- At the rate since a mark this many more days leave room in a log of this many entries, and one
-- day more does not.
pub record LeavesRoom (at entries : ℕ) (mark : Mark) (days : ℕ) : Type 0 where
  pub grew : mark.entries < entries
  pub hour : mark.at + HOUR ≤ at
  pub room : days * DAY * (entries - mark.entries) ≤ (FULL - entries) * (at - mark.at)
  pub full : (FULL - entries) * (at - mark.at) < (days + 1) * DAY * (entries - mark.entries)

-- the days until the log is full, at the rate since the oldest mark
abbrev pub days_left : List Mark → ℕ → ℕ → Option ℕ
days_left marks at entries = days_since at entries (oldest marks)

-- news say that a log fills, and still has room
abbrev pub tells_filling : News → Bool
tells_filling (LogFills node Filling) = true
tells_filling (LogFills node NearlyFull) = true
tells_filling _ = false

-- what is logged with news: the days until the log is full, if they say that it fills
abbrev pub days_told : List Mark → ℕ → ℕ → News → Option ℕ
days_told marks at entries news = if tells_filling news then days_left marks at entries else None

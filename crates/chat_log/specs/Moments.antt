-- The date and the time of day of a moment, in UTC.
use Rattle.std.specs.Prelude.{ℕ, zero, suc, ◌+◌, ◌/◌, ◌%◌, nat_lt, if◌then◌else◌, List, [], ◌∷◌, ◌++◌, pos}
use Rattle.jiff_core.specs.Calendar.{days_in_month}
use Rattle.buffer_lines.specs.Stamps.{two_digits}

-- a day of the calendar
pub record Day : Type 0 where
  pub year : ℕ
  pub month : ℕ
  pub day : ℕ

-- the day with these numbers
abbrev pub day : ℕ → ℕ → ℕ → Day
day y m d = record { year = y; month = m; day = d }

-- the next day: in the same month, the first of the next month, or the first of the next year
abbrev pub next_day : Day → Day
next_day t =
    if nat_lt t.day (days_in_month (pos t.year) t.month)
    then day t.year t.month (t.day + 1)
    else
    if nat_lt t.month 12 then day t.year (t.month + 1) 1 else day (t.year + 1) 1 1

-- the day this many days after 1 January 1970
unfoldable pub day_after : ℕ → Day
day_after zero = day 1970 1 1
day_after (suc n) = next_day (day_after n)

-- a number below 10,000 in four digits
abbrev pub four_digits : ℕ → List ℕ
four_digits n = two_digits (n / 100) ++ two_digits (n % 100)

-- a date as `2026-11-26`
abbrev pub date_text : ℕ → ℕ → ℕ → List ℕ
date_text y m d = four_digits y ++ 45 ∷ (two_digits m ++ 45 ∷ two_digits d)

-- a time of day as `18:50:37`
abbrev pub time_text : ℕ → List ℕ
time_text second =
    two_digits (second / 3600)
    ++ 58 ∷ (two_digits (second / 60 % 60) ++ 58 ∷ two_digits (second % 60))

-- the date of a day and a time of day, a space after each
abbrev pub stamp_of : Day → ℕ → List ℕ
stamp_of t second = date_text t.year t.month t.day ++ 32 ∷ (time_text second ++ 32 ∷ [])

-- the date and the time of day of a moment, a space after each
unfoldable pub stamp : ℕ → List ℕ
stamp at = stamp_of (day_after (at / 86400)) (at % 86400)

-- The days after 1 January 1970 are the days of the calendar, each once.
use Rattle.std.proofs.Common.{◌≡◌, ℕ, zero, suc, ◌+◌, ◌<◌, ◌≤◌, inl, inr, Bool, true, false, nat_lt, refl, subst, ◌∙◌, arith, ℤ, pos, neg_ℤ, ◌+ℤ◌, ◌*ℤ◌, ◌≤ℤ◌, ◌*◌, ◌/◌, ◌%◌, FitsSigned, to_z, of_z, w8, w16}
use Rattle.std.specs.Prelude.{if◌then◌else◌}
use Rattle.std.proofs.lemmas.Bool.{cases_order}
use Rattle.std.proofs.lemmas.Bool.Decides.{nat_tests}
use Rattle.std.proofs.lemmas.Int.{by_lt_z, ints, to_z-of_z}
use Rattle.jiff_core.specs.declared.civil.date.Date.{Date}
use Rattle.jiff_core.specs.Calendar.{day_count, days_in_month, IsCivilDate, IsYear}
use Rattle.jiff_core.specs.Date.{epoch_day}
use Rattle.jiff_core.proofs.SignedLemmas.{signed_arith}
use Rattle.jiff_core.proofs.CalendarLemmas.{day_count-day, day_count-epoch, day_count-last_of_year, day_count-lt_month, day_count-lt_year, day_count-next_month, day_count-next_year, days_from_civil-day_count, days_in_month_bounds}
use Rattle.jiff_core.proofs.DateLemmas.{civil}
use Rattle.chat_log.specs.Moments.{Day, day, day_after}
use lib.IntN.{nat_abs}

-- a day of the calendar from 1970 on, this many days after its first
pub record IsCounted (n : ℕ) (t : Day) : Type 0 where
  pub year : 1970 ≤ t.year
  pub month : (1 ≤ t.month) × (t.month ≤ 12)
  pub day : (1 ≤ t.day) × (t.day ≤ days_in_month (pos t.year) t.month)
  pub count : day_count (pos t.year) t.month t.day ≡ 4371953 + n

-- the first day of the next month or year, by whether the year has one more month
beyond : (n : ℕ) (t : Day) → IsCounted n t → t.day ≡ days_in_month (pos t.year) t.month → (b : Bool) → nat_lt t.month 12 ≡ b
    → IsCounted (suc n) (if b then day t.year (t.month + 1) 1 else day (t.year + 1) 1 1)
beyond n t h last true e =
    record {
      year = h.year;
      month = (omega arith, grind (arith, nat_tests));
      day = (omega arith, omega (arith, days_in_month_bounds (pos t.year) (t.month + 1)));
      count = omega (arith, h.count, last, h.day, day_count-next_month (pos t.year) t.month h.month.0, day_count-day (pos t.year) t.month t.day 1 h.day.0 (omega arith));
    }
beyond n t h last false e =
    let december : t.month ≡ 12 = grind (arith, nat_tests, h.month) in
    let end : t.day ≡ 31 = last ∙ rw december refl in
    let now : day_count (pos t.year) 12 31 ≡ 4371953 + n = rw (← december, ← end) h.count in
    let low : neg_ℤ (pos 10000) ≤ℤ pos t.year = omega (arith, signed_arith) in
    let next : pos (t.year + 1) ≡ pos t.year +ℤ pos 1 = omega (arith, signed_arith) in
    record {
      year = omega (arith, h.year);
      month = (omega arith, omega arith);
      day = (omega arith, omega (arith, days_in_month_bounds (pos (t.year + 1)) 1));
      count = omega (arith, now, day_count-next_year (pos t.year) (pos (t.year + 1)) low next, day_count-last_of_year (pos t.year));
    }

-- the next day, by whether its month has one more day
within : (n : ℕ) (t : Day) → IsCounted n t → (b : Bool) → nat_lt t.day (days_in_month (pos t.year) t.month) ≡ b
    → IsCounted (suc n) (if b then day t.year t.month (t.day + 1) else (if nat_lt t.month 12 then day t.year (t.month + 1) 1 else day (t.year + 1) 1 1))
within n t h true e =
    record {
      year = h.year;
      month = h.month;
      day = (omega arith, grind (arith, nat_tests));
      count = omega (arith, h.count, day_count-day (pos t.year) t.month t.day (t.day + 1) h.day.0 (omega arith));
    }
within n t h false e = beyond n t h (grind (arith, nat_tests, h.day)) (nat_lt t.month 12) refl

-- each of these days is a day of the calendar
pub counted : (n : ℕ) → IsCounted n (day_after n)
unfolding day_after
counted zero = record { year = omega arith; month = (omega arith, omega arith); day = (omega arith, omega (arith, days_in_month_bounds (pos 1970) 1)); count = omega (arith, day_count-epoch) }
counted (suc n) = within n (day_after n) (counted n) _ refl

-- a date with the same number of days has the year, month and day of this one
pub record IsSameDay (x : Date) (t : Day) : Type 0 where
  pub year : x.year ≡ pos t.year
  pub month : x.month ≡ t.month
  pub day : x.day ≡ t.day

same_month : (x : Date) (n : ℕ) (t : Day) → IsCounted n t → day_count x.year x.month x.day ≡ 4371953 + n → x.year ≡ pos t.year → IsSameDay x t
same_month x n t h e year =
    let c : IsCivilDate (pos t.year) t.month t.day = (subst IsYear year x.year_in, h.month, h.day) in
    let now : day_count (pos t.year) x.month x.day ≡ 4371953 + n = subst (λ (y : ℤ). day_count y x.month x.day ≡ 4371953 + n) year e in
    let of_x : IsCivilDate (pos t.year) x.month x.day = subst (λ (y : ℤ). IsCivilDate y x.month x.day) year (civil x) in
    elim (cases_order x.month t.month) [
      | inr (inl lt) ↦ absurd (omega (arith, now, h.count, day_count-lt_month (pos t.year) x.month x.day t.month t.day of_x h.day.0 lt))
      | inr (inr gt) ↦ absurd (omega (arith, now, h.count, day_count-lt_month (pos t.year) t.month t.day x.month x.day c x.day_in.0 gt))
      | inl month ↦
          let at : day_count (pos t.year) t.month x.day ≡ 4371953 + n = rw (← month) now in
          record { year = year; month = month; day = omega (arith, at, h.count, day_count-day (pos t.year) t.month x.day t.day x.day_in.0 h.day.0) }
    ]

-- the date of a day number is the day this many days after the first
pub same_day : (x : Date) (n : ℕ) → epoch_day x ≡ pos n → IsSameDay x (day_after n)
same_day x n e =
    let t : Day = day_after n in
    let h : IsCounted n t = counted n in
    let now : day_count x.year x.month x.day ≡ 4371953 + n = omega (arith, signed_arith, days_from_civil-day_count x.year x.month x.day, e) in
    by_lt_z x.year (pos t.year) (λ lt. absurd (omega (arith, now, h.count, day_count-lt_year x.year x.month x.day (pos t.year) t.month t.day (civil x) h.day.0 lt)))
    (λ ge. by_lt_z (pos t.year) x.year
    (λ gt. absurd (omega (arith, now, h.count, day_count-lt_year (pos t.year) t.month t.day x.year x.month x.day ((omega (arith, signed_arith), omega (arith, signed_arith, gt, x.year_in)), h.month, h.day) x.day_in.0 gt)))
    (λ le. same_month x n t h now (omega (arith, signed_arith, ge, le))))

-- the day and the second of the day of a civil time, if it is that of a moment
pub shown_at : (at t sub : ℕ) (day : ℤ) → t < 86400 → sub < 1000000000
    → day *ℤ pos 86400000000000 +ℤ pos (t * 1000000000 + sub) ≡ pos at *ℤ pos 1000000000
    → (day ≡ pos (at / 86400)) × (t ≡ at % 86400)
shown_at at t sub day a b e = (omega (arith, ints), omega (arith, ints))

-- a small number, cast to one without a sign
pub small_year : (z : ℤ) (k : ℕ) → z ≡ pos k → k < 10000 → nat_abs (to_z w16 (of_z w16 z)) ≡ k
small_year z k e h = let fits : FitsSigned w16 z = omega (arith, ints) in rw (to_z-of_z w16 z fits, e) refl

pub small_day : (z : ℤ) (k : ℕ) → z ≡ pos k → k < 100 → nat_abs (to_z w8 (of_z w8 z)) ≡ k
small_day z k e h = let fits : FitsSigned w8 z = omega (arith, ints) in rw (to_z-of_z w8 z fits, e) refl

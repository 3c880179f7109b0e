use Rattle.std.proofs.Common.{arith, ap, pos, refl, ◌∙◌}
use Rattle.std.proofs.lemmas.Int.{ints}
use Rattle.jiff_core.proofs.CalendarLemmas.{days_in_month_bounds}
use Rattle.chat_log.proofs.Calendar.{small_day, small_year, same_day}
use Rattle.chat_log.proofs.stamp.date_bytes.Goals as goal

pub overflow_cast-year : goal.overflow_cast-year
overflow_cast-year c = let s = same_day c.args.date c.requires.0 c.requires.1 in omega (arith, ints, s.year, c.year-year.ensures, c.args.date.year_in)

pub returns : goal.returns
returns c = λ n e.
    let s = same_day c.args.date n e in
    let y = small_year c.year-year.result _ (c.year-year.ensures ∙ s.year) (omega (arith, ints, s.year, c.args.date.year_in)) in
    let m = small_day c.month-month.result _ (c.month-month.ensures ∙ ap pos s.month) (omega (arith, s.month, c.args.date.month_in)) in
    let d = small_day c.day-day.result _ (c.day-day.ensures ∙ ap pos s.day) (omega (arith, s.day, c.args.date.day_in, days_in_month_bounds c.args.date.year c.args.date.month)) in
    rw (c.tens.ensures, c.ones.ensures, c.tens-2.ensures, c.ones-2.ensures, c.tens-3.ensures, c.ones-3.ensures, c.tens-4.ensures, c.ones-4.ensures, y, m, d) refl

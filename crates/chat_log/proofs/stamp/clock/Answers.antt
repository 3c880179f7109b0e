use Rattle.std.proofs.Common.{◌≡◌, ◌+◌, ◌*◌, ◌%◌, ◌/◌, ◌<◌, pos, ◌+ℤ◌, ◌*ℤ◌, arith}
use Rattle.std.proofs.lemmas.Int.{ints}
use Rattle.jiff_core.specs.Time.{time_seconds}
use Rattle.jiff_core.specs.Date.{epoch_day}
use Rattle.jiff_core.specs.DateTime.{civil_nanos}
use Rattle.chat_log.proofs.Calendar.{shown_at}
use Rattle.chat_log.proofs.stamp.clock.Goals as goal

shown : (c : goal.After-to_datetime) → (epoch_day c.to_datetime.result.date ≡ pos (c.args.at / 86400)) × (time_seconds c.to_datetime.result.time ≡ c.args.at % 86400)
unfolding civil_nanos
shown c =
    let at_is : c.seconds.result ≡ c.args.at = c.seconds.ensures.value in
    let n' = rw c.unwrap-timestamp.ensures at c.from_second.ensures.value in
    let n : c.unwrap-timestamp.result.nanosecond ≡ pos c.args.at *ℤ pos 1000000000 = omega (arith, ints, n') in
    let t = c.to_datetime.result.time in
    let lt : time_seconds t < 86400 = omega (arith, t.hour_in, t.minute_in, t.second_in) in
    let e : epoch_day c.to_datetime.result.date *ℤ pos 86400000000000 +ℤ pos (time_seconds t * 1000000000 + t.subsec_nanosecond) ≡ pos c.args.at *ℤ pos 1000000000 = omega (arith, ints, c.to_datetime.ensures, n) in
    shown_at c.args.at (time_seconds t) t.subsec_nanosecond (epoch_day c.to_datetime.result.date) lt t.subsec_in e

pub returns-clause-date : goal.returns-clause-date
returns-clause-date c = (shown c).0

pub returns-clause-time : goal.returns-clause-time
returns-clause-time c = (shown c).1

use Rattle.std.proofs.Common.{◌≡◌, ◌<◌, pos, ◌-ℤ◌, ◌*ℤ◌, arith}
use Rattle.std.proofs.lemmas.Int.{ints}
use Rattle.jiff_core.specs.Time.{time_seconds}
use Rattle.jiff_core.specs.Date.{epoch_day}
use Rattle.jiff_core.specs.DateTime.{civil_nanos}
use Rattle.buffer_lines.proofs.Clock.{second_is}
use Rattle.buffer_lines.proofs.stamp.clock.Goals as goal

pub returns : goal.returns
unfolding civil_nanos
returns c =
    let at_is : c.seconds.result ≡ c.args.at = c.seconds.ensures.value in
    let offset_is : c.above_least.result ≡ c.args.offset = c.above_least.ensures.value in
    let n' = rw c.unwrap-timestamp.ensures at c.from_second.ensures.value in
    let z' = rw c.unwrap-zone.ensures at c.from_seconds.ensures.value in
    let n : c.unwrap-timestamp.result.nanosecond ≡ pos c.args.at *ℤ pos 1000000000 = omega (arith, ints, n') in
    let z : c.unwrap-zone.result.seconds ≡ (pos c.args.offset -ℤ pos 1439) *ℤ pos 60 = omega (arith, ints, z') in
    let e = rw (n, z) at c.to_datetime.ensures in
    let shown = c.to_datetime.result in
    let lt : time_seconds shown.time < 86400 = omega (arith, shown.time.hour_in, shown.time.minute_in, shown.time.second_in) in
    let o : c.args.offset < 2879 = omega (arith, c.above_least.ensures.limit) in
    rw c.time.ensures (second_is c.args.at c.args.offset (time_seconds shown.time) shown.time.subsec_nanosecond (epoch_day shown.date) lt shown.time.subsec_in o e)

use Rattle.std.proofs.Common.{◌/◌, ap, append_assoc, ◌∙◌}
use Rattle.jiff_core.specs.Date.{epoch_day}
use Rattle.chat_log.specs.Moments.{stamp}
use Rattle.chat_log.proofs.stamp.push_stamp.Goals as goal

pub date_bytes-requires : goal.date_bytes-requires
date_bytes-requires c = (c.args.at / 86400, ap epoch_day c.date.ensures ∙ c.clock-shown.ensures.date)

pub returns : goal.returns
unfolding stamp
returns c =
    let date = c.date_bytes.ensures (c.args.at / 86400) (ap epoch_day c.date.ensures ∙ c.clock-shown.ensures.date) in
    let e1 = c.in_ok-extend_from_slice.ensures.items in
    let e2 = c.in_ok-push.ensures.items in
    let e3 = c.in_ok-extend_from_slice-2.ensures.items in
    let e4 = c.in_ok-push-2.ensures.items in
    e4 ∙ rw (e3, e2, e1, date, c.time_bytes.ensures, c.time.ensures, c.clock-shown.ensures.time) (simp append_assoc)

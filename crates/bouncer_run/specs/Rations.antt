-- News that are logged only as often as somebody would read them.
use Rattle.std.specs.Prelude.{ℕ, ◌+◌, ◌-◌, nat_le, nat_lt, Bool, if◌then◌else◌}
use Rattle.bouncer_run.specs.declared.ration.Ration.{Ration}
use Rattle.bouncer_run.specs.declared.ration.TheConstants.{MINUTE, MOST_TOLD}

-- nothing was logged
abbrev pub new_ration : Ration
new_ration = record { since = 0; told = 0 }

-- at this moment, and a minute that is over begins anew
abbrev pub at_moment : ℕ → Ration → Ration
at_moment now ration = if nat_le MINUTE (now - ration.since) then record { since = now; told = 0 } else ration

-- less was logged in this minute than the limit
abbrev pub may_tell : ℕ → Ration → Bool
may_tell now ration = nat_lt (at_moment now ration).told MOST_TOLD

-- after one more happened
abbrev pub taken : ℕ → Ration → Ration
taken now ration = if may_tell now ration then record (at_moment now ration) { told = (at_moment now ration).told + 1 } else at_moment now ration

use Rattle.std.proofs.Common.{◌≡◌, ◌-◌, false, drop}
use Rattle.std.specs.List.{All}
use Rattle.bouncer_run.specs.Days.{is_before}
use Rattle.bouncer_run.proofs.first_mark.last_before.Given as goal

-- none of those so far is known to be of before this moment
abbrev pub invariant-loop-behind : goal.invariant-loop-behind
invariant-loop-behind l = All (λ e. is_before l.at e.body ≡ false) (drop (l.len - l.behind) l.log)

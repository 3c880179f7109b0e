use Rattle.std.proofs.Common.{rules, ℕ, ◌-◌, ◌≤◌, subst}
use Rattle.std.specs.Prelude.{slice_get}
use Rattle.driver.specs.Absences.{HangsIf, begins_in}
use Rattle.driver.proofs.Hanging.{hang_more, hang_none}
use Rattle.driver.proofs.driver.Driver.cut_off_hanging.Goals as goal

pub loop-id-preserved : goal.loop-id-preserved
loop-id-preserved c new more =
    let now = c.args.now.now.ms in
    let old = c.loop-id.self in
    let behind = c.cut_off_if_hanging.new.self in
    let hangs =
    subst (λ (node : ℕ). HangsIf (begins_in old.settings.timeout_ms now (slice_get old.monitors (node - 1))) now node old behind) c.new.ensures c.in_ok-cut_off_if_hanging.ensures
    in
    c.loop-id.invariant new (hang_more c.loop-id.id now old behind new c.loop-id-test.true hangs more)

pub returns : goal.returns
returns c =
    let over : 8 ≤ c.loop-id.id = search rules in
    c.loop-id.invariant c.loop-id.self (hang_none c.loop-id.id c.args.now.now.ms c.loop-id.self over)

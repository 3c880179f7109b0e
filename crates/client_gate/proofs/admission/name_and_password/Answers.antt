use Rattle.std.proofs.Common.{◌≡◌, ap, ◌∙◌}
use Rattle.std.specs.Prelude.{Some}
use Rattle.client_gate.specs.Registering.{cut_behind, first_cut}
use Rattle.client_gate.proofs.PassNames.{cut_at, cut_none, match_weaker}
use Rattle.client_gate.proofs.admission.name_and_password.Goals as goal

pub returns-in-None : goal.returns-in-None
returns-in-None c = ap cut_behind (cut_none 64 c.args.pass.now c.in-None.ensures)

pub returns-in-Some : goal.returns-in-Some
returns-in-Some c =
    let first : first_cut 64 c.args.pass.now ≡ Some (c.in-Some.field-0-0.now, c.in-Some.behind.now) = cut_at 64 c.args.pass.now c.in-Some.field-0-0.now c.in-Some.behind.now c.in-Some.ensures in
    match_weaker c.at_separator-in-Some.result _ _ _ _ (λ h. ap cut_behind first ∙ cut_none 58 c.in-Some.behind.now h) (λ t h. ap cut_behind first ∙ cut_at 58 c.in-Some.behind.now t.0.now t.1.now h)
    c.at_separator-in-Some.ensures

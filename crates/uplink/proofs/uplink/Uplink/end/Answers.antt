use Rattle.std.proofs.Common.{◌++◌, ap, rules, sym, ◌∙◌}
use Rattle.std.specs.Option.{option_to_list}
use Rattle.uplink.specs.Calls.{Link, inputs_of}
use Rattle.uplink.proofs.Moments.{ended_after, ended_again, ended_first, ended_replies}
use Rattle.uplink.proofs.uplink.Uplink.end.Goals as goal
use Rattle.uplink.proofs.uplink.Uplink.end.Goals.{in-Over, in_default}

pub returns : goal.returns
returns c =
    let was = ap (λ (l : Link). l.standing) (sym c.self.view_is) ∙ sym c.replace.ensures.value in
    record {
      after = λ nick calls h. ended_after c.args.self.now _ nick calls (search rules) h;
      inputs = λ nick calls h.
          elim c.match-replace.branch [
            | in-Over w ↦ ap (λ t. inputs_of nick calls ++ option_to_list t) w.result-is ∙ ended_again c.args.self.now nick calls (was ∙ w.in-Over.is) h
            | in_default w ↦ ap (λ t. inputs_of nick calls ++ option_to_list t) w.result-is ∙ ended_first c.args.self.now nick calls (λ o. w.in_default.not-Over (sym was ∙ o)) h
          ];
      replies = λ nick calls h. ended_replies nick calls;
    }

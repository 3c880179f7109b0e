use Rattle.world_views.proofs.Turns.{turns_are_events, looks_are_agreed, applies_are_agreed}
use Rattle.world_views.proofs.one_history.turns_are_events_of_the_history.Goals as goal

pub returns : goal.returns
returns g c =
    record {
      events = λ s size next before views rule honest opened. turns_are_events _ before views;
      looks = λ s size next before views rule honest opened. looks_are_agreed _ before views;
      applies = λ s size next before views rule honest opened. applies_are_agreed _ size next before views rule;
    }

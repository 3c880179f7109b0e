use Rattle.bouncer_tower.proofs.Handed.{claims_in_order, claims_once, claims_numbered, hands_are_claims, hands_are_lines, lines_stay}
use Rattle.bouncer_tower.proofs.laws.each_line_is_handed_once.Goals as goal

pub returns : goal.returns
returns c = record {
  in_order = claims_in_order;
  once = claims_once;
  numbered = claims_numbered;
  claims = hands_are_claims;
  lines = hands_are_lines;
  stay = lines_stay;
}

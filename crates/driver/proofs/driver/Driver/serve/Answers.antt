use Rattle.driver.proofs.driver.Driver.serve.Goals as goal

pub returns : goal.returns
returns c = record {
  written = c.write_lines.new.self;
  writes = c.in_ok-write_lines.ensures;
  claimed = c.claim.new.self;
  claims = c.in_ok-claim.ensures;
  connected = c.connect_for.new.self;
  connects = c.in_ok-connect_for.ensures;
  ends = c.in_ok-end_drop.ensures;
}

use Rattle.ether.specs.Passes.{view_of}
use Rattle.ether.proofs.Heard.{heard_last}
use Rattle.node_cases.proofs.tickets.seated.Seated.receive.Goals as goal

pub act-requires-clause-heard : goal.act-requires-clause-heard
act-requires-clause-heard g c = heard_last (view_of c.args.self.now.pass) (view_of c.take.new.pass) c.in-Some.envelope c.in-Some.ensures.view

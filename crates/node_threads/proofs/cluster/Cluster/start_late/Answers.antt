use Rattle.std.proofs.Common.{◌≡◌, length, arith, sym, ap, ◌∙◌}
use Rattle.ether.specs.Passes.{EtherParts}
use Rattle.node_threads.proofs.Started.{has_begun, homes_begun}
use Rattle.node_threads.proofs.cluster.Cluster.start_late.Goals as goal

pub begin-requires-clause-homes : goal.begin-requires-clause-homes
begin-requires-clause-homes g c κs within =
    let ground = c.in_ok-ground.ensures in
    homes_begun _ _ _ _ _ _ _ 0 c.in_ok-workers.workers.items ground.closing.0 ground.closing.1 c.in_ok-workers.ensures.begun

pub begin-requires-clause-inboxes : goal.begin-requires-clause-inboxes
begin-requires-clause-inboxes g c κs within =
    let ground = c.in_ok-ground.ensures in
    ground.ends.0 ∙ sym (ap (λ (z : EtherParts g.row.M-Setup.Denot). z.size) ground.closing.0 ∙ ground.size)

pub begin-requires-clause-workers : goal.begin-requires-clause-workers
begin-requires-clause-workers g c κs within =
    let ground = c.in_ok-ground.ensures in
    c.in_ok-workers.ensures.all ∙ sym (ap (λ (z : EtherParts g.row.M-Setup.Denot). z.size) ground.closing.0)

pub returns : goal.returns
returns g c =
    let ground = c.in_ok-ground.ensures in
    let a = c.in_ok-unpaired.ensures.paired in
    let b = c.len.ensures in
    let d = c.args.parts.ok.0 in
    let paired : length c.args.parts.items ≡ c.args.size = omega (arith, a, b, d) in
    has_begun _ _ _ _ _ _ _ _ _ c.in_ok-workers.workers.items ground.size ground.setup ground.closing.0 ground.closing.1 c.in_ok-workers.ensures.all paired
    c.in_ok-workers.ensures.begun c.begin.result c.begin.ensures.ether c.begin.ensures.recording c.begin.ensures.places c.begin.ensures.fault

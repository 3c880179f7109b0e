use Rattle.std.proofs.Common.{◌≡◌, ◌∙◌, ap}
use Rattle.driver.specs.Rosters.{client_at, is_read_for, node_in}
use Rattle.driver.proofs.Serving.{reads_open, reads_shut}
use Rattle.driver.proofs.driver.Driver.reads_client.Goals as goal

pub returns-then-not-is_full : goal.returns-then-not-is_full
returns-then-not-is_full c =
    let driver = c.args.self.now in
    let reads = is_read_for driver.orders driver.monitors (node_in (client_at driver.clients c.args.number)) in
    let is : c.reads_for.result ≡ reads = c.reads_for.ensures ∙ ap (is_read_for driver.orders driver.monitors) c.node_of.ensures in
    (c.is_full-is_full.result, c.is_full-is_full.ensures, is ∙ reads_open reads c.is_full-is_full.result c.if-not-is_full.true)

pub returns-else-not-is_full : goal.returns-else-not-is_full
returns-else-not-is_full c =
    let driver = c.args.self.now in
    let reads = is_read_for driver.orders driver.monitors (node_in (client_at driver.clients c.args.number)) in
    (c.is_full-is_full.result, c.is_full-is_full.ensures, reads_shut reads c.is_full-is_full.result c.if-not-is_full.false)

use Rattle.std.proofs.Common.{◌≡◌, ◌∙◌, Some, ℕ, ap}
use Rattle.driver.specs.Rosters.{is_read_for}
use Rattle.driver.proofs.Serving.{reads_open, reads_shut}
use Rattle.driver.proofs.client.Client.is_read.Goals as goal

pub returns-then-not-is_full : goal.returns-then-not-is_full
returns-then-not-is_full c =
    let reads = is_read_for c.args.orders.now c.args.monitors.now (Some c.args.self.now.origin.0) in
    let is : c.reads_for.result ≡ reads = c.reads_for.ensures ∙ ap (λ (node : ℕ). is_read_for c.args.orders.now c.args.monitors.now (Some node)) c.node.ensures in
    (c.is_full-is_full.result, c.is_full-is_full.ensures, is ∙ reads_open reads c.is_full-is_full.result c.if-not-is_full.true)

pub returns-else-not-is_full : goal.returns-else-not-is_full
returns-else-not-is_full c =
    let reads = is_read_for c.args.orders.now c.args.monitors.now (Some c.args.self.now.origin.0) in
    (c.is_full-is_full.result, c.is_full-is_full.ensures, reads_shut reads c.is_full-is_full.result c.if-not-is_full.false)

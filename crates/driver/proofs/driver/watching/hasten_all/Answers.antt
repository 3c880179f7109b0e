use Rattle.std.proofs.Common.{rules, ◌≡◌, ◌∙◌, ap, sym, set, get_or}
use Rattle.std.proofs.lemmas.List.Edits.{map_over_more}
use Rattle.driver.specs.declared.node_monitor.NodeMonitor.{NodeMonitor}
use Rattle.driver.specs.Absences.{hastened}
use Rattle.driver.proofs.driver.watching.hasten_all.Goals as goal

pub loop-monitor-preserved : goal.loop-monitor-preserved
loop-monitor-preserved c =
    let monitors = c.loop-monitor.monitors in
    let at = c.loop-monitor.monitor-index in
    let same : c.monitor-item.result ≡ get_or monitors at c.monitor-item.result = search rules in
    ap (λ (monitor : NodeMonitor). set monitors at monitor) (c.hasten.ensures ∙ ap (λ (monitor : NodeMonitor). hastened monitor) (sym same))
    ∙ map_over_more hastened c.args.monitors.now monitors at c.monitor-item.result c.loop-monitor-test.true c.loop-monitor.invariant same

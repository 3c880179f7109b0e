use Rattle.std.proofs.Common.{◌∙◌, List, ap}
use Rattle.std.proofs.lemmas.List.{append_assoc}
use Rattle.driver.specs.declared.node_monitor.NodeMonitor.{NodeMonitor}
use Rattle.driver.specs.declared.order.Order.{Order}
use Rattle.driver.specs.Monitors.{note_at, told}
use Rattle.driver.specs.Driving.{clock_told, clocked}
use Rattle.driver.specs.Retiring.{restart_at, restart_behind}
use Rattle.driver.specs.Telling.{Ordered, ordered}
use Rattle.driver.proofs.retirements.Retirements.tick_monitor.Goals as goal

pub returns-clause-monitor : goal.returns-clause-monitor
returns-clause-monitor c =
    let all = c.args.self.now.all in
    let first = clock_told c.args.orders.now c.args.settings.now c.args.now.now.ms c.args.monitor.now in
    c.in_ok-restart_outlived.ensures.monitor
    ∙ ap (λ (orders : Ordered). restart_behind orders c.tick.new.self (restart_at all c.tick.new.self)) c.in_ok-tick.ensures.told
    ∙ ap (λ (monitor : NodeMonitor). restart_behind first monitor (restart_at all monitor)) c.in_ok-tick.ensures.monitor

pub returns-clause-told : goal.returns-clause-told
returns-clause-told c =
    let all = c.args.self.now.all in
    let monitor = c.args.monitor.now in
    let before = c.args.orders.now in
    let first = told monitor.id (note_at monitor c.args.settings.now c.args.now.now.ms) in
    let behind = clocked before c.args.settings.now c.args.now.now.ms monitor in
    c.in_ok-restart_outlived.ensures.told
    ∙ ap (λ (monitor : NodeMonitor). ordered c.tick.new.orders (told monitor.id (restart_at all monitor))) c.in_ok-tick.ensures.monitor
    ∙ ap (λ (orders : Ordered). ordered orders (told behind.id (restart_at all behind))) c.in_ok-tick.ensures.told
    ∙ ap (λ (items : List Order). record before { items = items }) (append_assoc before.items first (told behind.id (restart_at all behind)))

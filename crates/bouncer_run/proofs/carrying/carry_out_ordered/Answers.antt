use Rattle.std.proofs.Common.{List, subst, ℕ}
use Rattle.bouncer_run.specs.Submissions.{TowerNote, AreTold}
use Rattle.bouncer_run.proofs.Ordered.{same_done, same_notes, same_sent}
use Rattle.bouncer_run.proofs.Responded.{is_taken}
use Rattle.bouncer_run.proofs.carrying.carry_out_ordered.Goals as goal

pub returns-clause-clients : goal.returns-clause-clients
returns-clause-clients g c =
    same_done c.orders-orders.result.items c.args.driver.now.orders.items c.args.sockets.now c.carry_out_each.new.sockets c.orders-orders.ensures.given
    c.in_ok-carry_out_each.ensures.clients

pub returns-clause-server : goal.returns-clause-server
returns-clause-server g c =
    same_sent c.orders-orders.result.items c.args.driver.now.orders.items c.args.sockets.now.server c.carry_out_each.new.sockets.server
    c.orders-orders.ensures.given c.in_ok-carry_out_each.ensures.server

pub returns-clause-heard : goal.returns-clause-heard
returns-clause-heard g c = record {
  orders = c.orders-orders.result.items;
  same = c.orders-orders.ensures.given;
  mid = c.orders-orders.new.self;
  taken = is_taken c.args.driver.now c.orders-orders.new.self c.orders-orders.ensures.left;
  heard = c.in_ok-carry_out_each.ensures.heard;
}

pub returns-clause-notes : goal.returns-clause-notes
returns-clause-notes g c =
    subst (λ (l : List (ℕ × TowerNote)). AreTold g.N.Nodes.has_told l c.args.nodes.now c.carry_out_each.new.nodes)
    (same_notes c.orders-orders.result.items c.args.driver.now.orders.items c.orders-orders.ensures.given) c.in_ok-carry_out_each.ensures.notes

use Rattle.std.specs.Prelude.{Option}
use Rattle.std.specs.Vec.Iter.{into_iter_items}
use Rattle.mio.specs.declared.net.stream.TcpStream.{TcpStream}
use Rattle.bouncer_run.specs.declared.connection.Connection.{Connection}
use Rattle.bouncer_run.specs.declared.sockets.Sockets.{Sockets}
use Rattle.driver.specs.declared.driver.Driver.{Driver}
use Rattle.bouncer_run.specs.Deliveries.{AreDone}
use Rattle.bouncer_run.specs.Responses.{HearsAll}
use Rattle.bouncer_run.specs.Sendings.{IsSent}
use Rattle.bouncer_run.specs.Submissions.{AreTold, notes_in}
use Rattle.bouncer_run.proofs.carrying.carry_out_each.Given as goal

-- once what is left is done, all is
abbrev pub invariant-loop-order : goal.invariant-loop-order
invariant-loop-order g l =
    let left = into_iter_items l.order-iterator in
    record {
      clients : (new : Sockets) → AreDone left l.sockets new → AreDone l.fn.orders.items l.initial.sockets new;
      server : (new : Option (Connection TcpStream)) → IsSent left l.sockets.server new → IsSent l.fn.orders.items l.initial.sockets.server new;
      heard : (new : Sockets) (driver : Driver) → HearsAll l.fn.now left l.sockets new l.driver driver → HearsAll l.fn.now l.fn.orders.items l.initial.sockets new l.initial.driver driver;
      notes : (new : g.row.N.Denot) → AreTold g.N.Nodes.has_told (notes_in left) l.nodes new → AreTold g.N.Nodes.has_told (notes_in l.fn.orders.items) l.initial.nodes new;
    }

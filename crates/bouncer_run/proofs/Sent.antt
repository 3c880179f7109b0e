-- What no orders send to the server.
use Rattle.std.proofs.Common.{◌≡◌, List, [], Option, subst, sym}
use Rattle.mio.specs.declared.net.stream.TcpStream.{TcpStream}
use Rattle.driver.specs.declared.order.Order.{Order}
use Rattle.bouncer_run.specs.declared.connection.Connection.{Connection}
use Rattle.bouncer_run.specs.Sendings.{IsSent}

-- once no order is left
pub none_sent : (orders : List Order) (server : Option (Connection TcpStream)) → orders ≡ [] → IsSent orders server server
none_sent orders server none = subst (λ (l : List Order). IsSent l server server) (sym none) (λ waiting awaits. awaits)

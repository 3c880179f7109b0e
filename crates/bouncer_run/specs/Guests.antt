-- What is logged about clients that go.
use Rattle.std.specs.Prelude.{ℕ, zero, suc, Bool, true, false, Option, Some, None}
use Rattle.std.specs.declared.net.socket_addr.SocketAddr.{SocketAddr}
use Rattle.bouncer_run.specs.declared.edge_news.EdgeNews.{EdgeNews}
use Rattle.bouncer_run.specs.declared.edge_news.EdgeNews.TheVariants as news
use Rattle.bouncer_run.specs.declared.guest.Hold.{Hold}
use Rattle.bouncer_run.specs.declared.guest.Hold.TheVariants.{Closing, Served, Unregistered, Unsent}
use Rattle.bouncer_run.specs.declared.guest.Stage.{Stage}
use Rattle.bouncer_run.specs.declared.guest.Stage.TheVariants.{Arriving, Refused, Registered}

-- a client that did not register is logged as such, unless its password was wrong, which was logged
-- before
abbrev pub parting : Stage → ℕ → ℕ → SocketAddr → Option EdgeNews
parting Arriving node number address = Some (news.Unregistered node number address)
parting Refused node number address = None
parting Registered node number address = None

-- it registered
abbrev pub is_registered : Stage → Bool
is_registered Arriving = false
is_registered Refused = false
is_registered Registered = true

-- the hold on its place of a client that registered or not, whose connection is to be closed or
-- not, and for which this many bytes wait
abbrev pub hold : Bool → Bool → ℕ → Hold
hold false ending waiting = Unregistered
hold true false waiting = Served
hold true true zero = Closing
hold true true (suc waiting) = Unsent

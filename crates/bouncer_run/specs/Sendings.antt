-- What the driver's orders send to the server.
use Rattle.std.specs.Prelude.{◌≡◌, ℕ, false, List, [], ◌∷◌, ◌++◌, Option, Some, None, IfSome}
use Rattle.mio.specs.declared.net.stream.TcpStream.{TcpStream}
use Rattle.driver.specs.declared.order.Order.{Order}
use Rattle.driver.specs.declared.order.Order.TheVariants.{Connect, Disconnect, Send}
use Rattle.bouncer_run.specs.declared.connection.Connection.{Connection}
use Rattle.bouncer_run.specs.Connections.{gathered, is_ending, may_wait}

-- bytes wait for the server after what waited, or too much would wait and its connection is gone;
-- nothing went to its socket
abbrev pub HasSent : List ℕ → Option (Connection TcpStream) → Option (Connection TcpStream) → Type 0
HasSent bytes None new = new ≡ None
HasSent bytes (Some old) None = may_wait old.phase old.unsent bytes ≡ false
HasSent bytes (Some old) (Some new) = new ≡ record old { unsent = gathered old.phase old.unsent bytes }

-- what waits for the server, if it is connected, after bytes that are sent
abbrev pub more : List ℕ → Option (List ℕ) → Option (List ℕ)
more bytes None = None
more bytes (Some waiting) = Some (waiting ++ bytes)

-- what waits for the server after an order: nothing after a connection is made
abbrev pub sent_by : Order → Option (List ℕ) → Option (List ℕ)
sent_by (Send bytes) waiting = more bytes.items waiting
sent_by Connect waiting = Some []
sent_by Disconnect waiting = None
sent_by order waiting = waiting

-- and after orders, in order
abbrev pub sent_behind : List Order → Option (List ℕ) → Option (List ℕ)
sent_behind [] waiting = waiting
sent_behind (order ∷ orders) waiting = sent_behind orders (sent_by order waiting)

-- if the server is connected, its connection is not to be closed and this waits for it
abbrev pub Awaits : Option (List ℕ) → Option (Connection TcpStream) → Type 0
Awaits waiting server = IfSome server (λ connection. (is_ending connection.phase ≡ false) × (waiting ≡ Some connection.unsent))

-- Whatever waits for the server before orders, the bytes that they send wait after it, each once
-- and in order, and no others, as long as it is connected.
abbrev pub IsSent : List Order → Option (Connection TcpStream) → Option (Connection TcpStream) → Type 0
IsSent orders old new = (waiting : Option (List ℕ)) → Awaits waiting old → Awaits (sent_behind orders waiting) new

-- Whose turn it is to be read.
use Rattle.std.specs.Prelude.{◌≡◌, ◌-◌, ◌<◌, ◌≤◌, ◌==◌, ◌++◌, ◌∷◌, [], ℕ, Bool, true, false, if◌then◌else◌, List, length, take, get_or, Option}
use Rattle.std.specs.List.{All, list_any}
use Rattle.driver.specs.declared.client.Client.{Client}
use Rattle.driver.specs.declared.node_monitor.NodeMonitor.{NodeMonitor}
use Rattle.driver.specs.declared.driver.Driver.{Driver}
use Rattle.driver.specs.Links.{node_of}
use Rattle.driver.specs.Rosters.{IsReadOf, client_at, is_attached_in, is_leaving_in, is_read_for}
use Rattle.driver.specs.Telling.{Ordered}
use Rattle.bouncer_run.specs.declared.sockets.TheConstants.{CLIENTS}

-- A client has its turn as the driver says, but always before it registered and when it leaves:
-- nothing is read from it then.
pub record IsReadNow (reads : Bool) (orders : Ordered) (monitors : List NodeMonitor) (client : Option Client) : Type 0 where
  pub registered : is_leaving_in client ≡ false → is_attached_in client ≡ true → IsReadOf reads orders monitors client
  pub arriving : is_attached_in client ≡ false → reads ≡ true
  pub leaving : is_leaving_in client ≡ true → reads ≡ true

-- whether the connection of this token may be read at this moment: the server's, or that of the
-- client whose number is the token less CLIENTS
pub record MayBeRead (driver : Driver) (token : ℕ) (reads : Bool) : Type 0 where
  pub server : token < CLIENTS → reads ≡ is_read_for driver.orders driver.monitors (node_of driver.link.stage)
  pub client : CLIENTS ≤ token → IsReadNow reads driver.orders driver.monitors (client_at driver.clients (token - CLIENTS))

-- one that waits already keeps its place, and a new one waits after all others
abbrev pub joined : ℕ → List ℕ → List ℕ
joined token waiting = if list_any (λ other. other == token) waiting then waiting else waiting ++ token ∷ []

-- the first that may be read is at this place
pub record IsTurn (driver : Driver) (index : ℕ) (waiting : List ℕ) : Type 0 where
  pub within : index < length waiting
  pub reads : MayBeRead driver (get_or waiting index 0) true
  pub none_before : All (λ token. MayBeRead driver token false) (take index waiting)

-- the first that may be read no longer waits, and all others keep their places
pub record TakesFirst (driver : Driver) (token : ℕ) (old new : List ℕ) : Type 0 where
  pub before : List ℕ
  pub behind : List ℕ
  pub stood : old ≡ before ++ token ∷ behind
  pub others : new ≡ before ++ behind
  pub reads : MayBeRead driver token true
  pub none_before : All (λ other. MayBeRead driver other false) before

-- The calls of a driver, and what each does if memory lasts.
use Rattle.std.specs.Prelude.{◌≡◌, ◌≤◌, ℕ, Bool, List, [], ◌∷◌, None, Some, IfSome}
use Rattle.wire_bytes.specs.declared.moment.Moment.{Moment}
use Rattle.client_gate.specs.Gates.{GateEffect}
use Rattle.irc_line.specs.Lines.{Parts}
use Rattle.node_notes.specs.declared.progress.Progress.{Progress}
use Rattle.node_notes.specs.declared.status.Status.{Status}
use Rattle.driver.specs.declared.driver.Driver.{Driver}
use Rattle.driver.specs.declared.level.Level.TheVariants.{Full}
use Rattle.driver.specs.declared.news.Ending.{Ending}
use Rattle.driver.specs.declared.order.Order.{Order}
use Rattle.driver.specs.declared.settings.Settings.{Settings}
use Rattle.driver.specs.Arriving.{ArrivesIf, IsNewDriver, monitors_behind, next_number, turned_away_at}
use Rattle.driver.specs.Coming.{Comes}
use Rattle.driver.specs.Absences.{WatchesNodes}
use Rattle.driver.specs.Driving.{Dismisses, Ends, Ticks}
use Rattle.driver.specs.Filling.{Watches, words_of}
use Rattle.driver.specs.Guarding.{WatchesPasswords}
use Rattle.driver.specs.Links.{Connects, node_of}
use Rattle.driver.specs.Nicks.{AllAreWritten, IsWritten, nick_in, notice}
use Rattle.driver.specs.Reports.{Hears}
use Rattle.driver.specs.Rosters.{AreOthersSame, Serves, client_at}
use Rattle.driver.specs.Serving.{IsLost}
use Rattle.driver.specs.Sessions.{TakesIf}
use Rattle.driver.specs.Telling.{Ordered, emptied, ordered}
use Rattle.driver.specs.Writing.{Hands}
use Rattle.wire_bytes.specs.Limits.{node_limit}

-- A call: a client connects to a node, sends bytes or is gone; a node hands out a line for the server; a node's worker
-- reports; time passes; the server's connection is made, brings bytes or is gone; all clients get a notice, or are to
-- leave; the log is looked at, or the nodes are, or how many wrong passwords came; what a client sent is refused; the
-- orders are taken.
pub data Call : Type 0 where
  Connect : ℕ → ℕ → Call
  Receive : List ℕ → ℕ → Moment → ℕ → Call
  Lose : ℕ → Moment → ℕ → Call
  Hand : ℕ → Parts → Call
  Hear : ℕ → Moment → ℕ → Status → List GateEffect → Progress → Bool → Call
  Tick : ℕ → Moment → Call
  Connected : ℕ → Call
  ReceiveLine : ℕ → Moment → List ℕ → Call
  End : ℕ → Ending → Call
  Notice : List ℕ → Call
  Dismiss : ℕ → Moment → Call
  Watch : Call
  WatchNodes : ℕ → Call
  WatchPasswords : ℕ → Call
  Refuse : ℕ → Call
  Take : Call

-- A client connects to a node.
pub record ConnectsTo (now node : ℕ) (old new : Driver) : Type 0 where
  pub arrived : ArrivesIf old.monitors (next_number old.monitors node old.numbered) node old.settings.password.items (nick_in old) now old.clients new.clients
  pub others : IfSome (next_number old.monitors node old.numbered) (λ number. AreOthersSame number old.clients new.clients)
  pub monitors : new.monitors ≡ monitors_behind old.monitors node old.numbered
  pub orders : new.orders ≡ ordered old.orders (turned_away_at old.monitors node)
  pub rest : new ≡ record old { monitors = new.monitors; clients = new.clients; numbered = new.numbered; orders = new.orders }

-- Bytes of a client come.
pub record Speaks (bytes : List ℕ) (now : ℕ) (at : Moment) (number : ℕ) (old new : Driver) : Type 0 where
  pub others : AreOthersSame number old.clients new.clients
  pub nobody : client_at old.clients number ≡ None → (new.clients ≡ old.clients) × (new.orders ≡ old.orders)
  pub comes : Comes bytes now at number old new
  pub rest :
      new ≡ record old {
        clients = new.clients;
        orders = new.orders;
        guard = new.guard;
        dropping = new.dropping;
        link = record old.link { waiting = new.link.waiting };
      }

-- A client's connection is gone.
pub record Goes (now : ℕ) (at : Moment) (number : ℕ) (old new : Driver) : Type 0 where
  pub others : AreOthersSame number old.clients new.clients
  pub nobody : client_at old.clients number ≡ None → (new.clients ≡ old.clients) × (new.orders ≡ old.orders)
  pub served :
      Serves
      (λ c. client_at old.clients number ≡ Some c)
      (λ s calls c client. IsLost now at s calls c old.orders client new.orders)
      number new.clients
  pub rest : new ≡ record old { clients = new.clients; orders = new.orders }

-- Only orders are given.
pub record Orders (gives : Ordered → Ordered → Type 0) (old new : Driver) : Type 0 where
  pub given : gives old.orders new.orders
  pub rest : new ≡ record old { orders = new.orders }

-- The connection to the server is made.
pub record Stands (now : ℕ) (old new : Driver) : Type 0 where
  pub stands : Connects old.link.stage old.settings now old.orders new.link.stage new.orders
  pub link : new.link ≡ record old.link { stage = new.link.stage }
  pub rest : new ≡ record old { link = new.link; orders = new.orders }

-- A worker's report is about one of the seven nodes.
pub record Reports (now : ℕ) (at : Moment) (node : ℕ) (status : Status) (effects : List GateEffect) (progress : Progress) (refused : Bool) (old new : Driver) : Type 0 where
  pub low : 1 ≤ node
  pub high : node ≤ node_limit
  pub hears : Hears now at node status effects progress refused old new

-- What a call does, by its contract.
abbrev pub Does : Call → Driver → Driver → Type 0
Does (Connect now node) old new = (1 ≤ node) × ConnectsTo now node old new
Does (Receive bytes now at number) old new = Speaks bytes now at number old new
Does (Lose now at number) old new = Goes now at number old new
Does (Hand node line) old new = Hands node line old new
Does (Hear now at node status effects progress refused) old new = Reports now at node status effects progress refused old new
Does (Tick now at) old new = Ticks now at old new
Does (Connected now) old new = Stands now old new
Does (ReceiveLine now at bytes) old new = TakesIf (node_of old.link.stage) now at bytes old new
Does (End now why) old new = Ends now why old new
Does (Notice text) old new = Orders (λ before after. AllAreWritten old.clients (notice (nick_in old) text) before after) old new
Does (Dismiss now at) old new = Dismisses now at old new
Does Watch old new = Watches old new
Does (WatchNodes now) old new = WatchesNodes now old new
Does (WatchPasswords now) old new = WatchesPasswords now old new
Does (Refuse number) old new =
    Orders (λ before after. IsWritten (client_at old.clients number) (notice (nick_in old) (words_of Full)) before after) old new
Does Take old new = Orders (λ before after. after ≡ emptied before) old new

-- A call, and what it orders.
pub record Step : Type 0 where
  pub call : Call
  pub told : List Order

-- what a call orders follows the orders before it; if the call takes the orders nothing is ordered
abbrev pub IsTold : Call → List Order → Ordered → Ordered → Type 0
IsTold Take told before after = told ≡ []
IsTold call told before after = after ≡ ordered before told

-- One call is made, and orders this.
pub record DoesStep (step : Step) (old new : Driver) : Type 0 where
  pub does : Does step.call old new
  pub told : IsTold step.call step.told old.orders new.orders

-- These calls are made in turn.
unfoldable pub DoesAll : List Step → Driver → Driver → Type 0
DoesAll [] old new = new ≡ old
DoesAll (step ∷ more) old new = (behind : Driver) × DoesStep step old behind × DoesAll more behind new

-- A driver to which these calls lead from a new one.
pub record Led (steps : List Step) (driver : Driver) : Type 0 where
  pub settings : Settings
  pub now : ℕ
  pub first : Driver
  pub is_new : IsNewDriver settings now first
  pub calls : DoesAll steps first driver

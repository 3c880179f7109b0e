-- What happens to the connection to the server, at the driver.
use Rattle.std.specs.Prelude.{◌≡◌, ℕ, Bool, true, false, if◌then◌else◌, List, [], ◌∷◌, Option, Some, None}
use Rattle.irc_line.specs.Lines.{Parts}
use Rattle.wire_bytes.specs.declared.moment.Moment.{Moment}
use Rattle.buffer_commands.specs.declared.wire_line.WireLine.{WireLine}
use Rattle.bouncer_tower.specs.Bodies.{TowerBody}
use Rattle.node_notes.specs.declared.note.Note.{Note}
use Rattle.node_notes.specs.declared.note.Note.TheVariants as note
use Rattle.driver.specs.declared.driver.Driver.{Driver}
use Rattle.driver.specs.declared.news.News.TheVariants.{NotJoined, Opened}
use Rattle.driver.specs.declared.order.Order.{Order}
use Rattle.driver.specs.declared.order.Order.TheVariants.{Submit, Log}
use Rattle.driver.specs.declared.link.Link.{Link}
use Rattle.driver.specs.Links.{Receives, is_fresh, opened as opened_stage}
use Rattle.driver.specs.Outgoing.{with_opening}
use Rattle.driver.specs.Filling.{is_left_out}
use Rattle.driver.specs.Absent.{Absences, absent_behind, cleared, reason_number}
use Rattle.driver.specs.Keys.{keys_heard}
use Rattle.driver.specs.Nicks.{HearsNick, nick_in}
use Rattle.driver.specs.Telling.{ordered}

-- it is logged that a channel is not joined, if the reason of this number came
abbrev pub absent_news : ℕ → Option ℕ → List Order
absent_news node None = []
absent_news node (Some number) = Log (NotJoined node number) ∷ []

-- it is logged that the server gave a session, if a note says so, and that a channel is not joined, if the note says
-- that
abbrev pub opened_of : ℕ → List ℕ → Absences → Note TowerBody WireLine → List Order
opened_of node nick absent note.Opened = Log (Opened node) ∷ []
opened_of node nick absent (note.Heard at line) = absent_news node (reason_number nick line absent)
opened_of node nick absent other = []

-- a connection after a line from the server, for the user with this nick: what is known of channels, and of their keys
abbrev pub channels_heard : List ℕ → Parts → Link → Link
channels_heard nick line link = record link { absent = absent_behind nick line link.absent; keys = keys_heard nick line link.keys }

-- the server gave the session of a connection: these lines wait before all else, if it had not given it before
abbrev pub opened_with : List Parts → Link → Link
opened_with lines link = record link {
  stage = opened_stage link.stage;
  waiting = if is_fresh link.stage then with_opening lines link.waiting else link.waiting;
  absent = if is_fresh link.stage then cleared link.absent else link.absent;
}

-- the connection after what came for the user with this nick: the server gave its session if a note says so, or said
-- something of a channel
abbrev pub link_behind : List Parts → List ℕ → Note TowerBody WireLine → Link → Link
link_behind lines nick note.Opened link = opened_with lines link
link_behind lines nick (note.Heard at line) link = channels_heard nick line link
link_behind lines nick other link = link

-- If what came says that the session opened, or that a channel is joined or is not, the connection records it, and it
-- is logged.
pub record OpensBy (node : ℕ) (came : Note TowerBody WireLine) (old new : Driver) : Type 0 where
  pub orders : new.orders ≡ ordered old.orders (opened_of node (nick_in old) old.link.absent came)
  pub rest : new ≡ record old { orders = new.orders; link = link_behind old.settings.on_connect.items (nick_in old) came old.link }

-- The nick that came is known, and passed on; the session opens if what came says so; and the node of the session gets
-- what came.
pub record TellsOf (node : ℕ) (came : Note TowerBody WireLine) (old new : Driver) : Type 0 where
  pub named : Driver
  pub nick : HearsNick came old named
  pub opened : Driver
  pub opens : OpensBy node came named opened
  pub orders : new.orders ≡ ordered opened.orders (Submit node came ∷ [])
  pub rest : new ≡ record opened { orders = new.orders }

-- A note that is left out changes nothing.
abbrev pub TellsIf : Bool → ℕ → Note TowerBody WireLine → Driver → Driver → Type 0
TellsIf true node came old new = new ≡ old
TellsIf false node came old new = TellsOf node came old new

-- The node gets all that came, in turn.
unfoldable pub TellsAllOf : ℕ → List (Note TowerBody WireLine) → Driver → Driver → Type 0
TellsAllOf node [] old new = new ≡ old
TellsAllOf node (came ∷ more) old new = (behind : Driver) × TellsIf (is_left_out old.level came) node came old behind × TellsAllOf node more behind new

-- Bytes came from the server: its session takes them, and the session's node gets what they bring.
pub record Takes (now : ℕ) (moment : Moment) (bytes : List ℕ) (node : ℕ) (old new : Driver) : Type 0 where
  pub taken : Driver
  pub notes : List (Note TowerBody WireLine)
  pub receives : Receives old.link.stage now moment bytes old.orders taken.link.stage notes taken.orders
  pub rest : taken ≡ record old { link = record old.link { stage = taken.link.stage }; orders = taken.orders; unheard = 0 }
  pub tells : TellsAllOf node notes taken new

-- and they are dropped if there is no connection
abbrev pub TakesIf : Option ℕ → ℕ → Moment → List ℕ → Driver → Driver → Type 0
TakesIf None now moment bytes old new = new ≡ old
TakesIf (Some node) now moment bytes old new = Takes now moment bytes node old new

-- If the server gives a session again, nothing more waits.
abbrev pub OpensOnce : Type 0
OpensOnce = (lines : List Parts) (link : Link) → opened_with lines (opened_with lines link) ≡ opened_with lines link

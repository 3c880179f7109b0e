-- What the driver hears while its orders are done: which connections are gone, and what clients are
-- sent with what is logged.
use Rattle.std.specs.Prelude.{◌≡◌, ℕ, List, [], ◌∷◌, Option, Some, None, codes}
use Rattle.driver.specs.Absent.{text_numbered}
use Rattle.driver.specs.Calls.{Does}
use Rattle.driver.specs.Calls.Call.{End, Lose, Notice, Take}
use Rattle.driver.specs.Deeds.{deeds}
use Rattle.driver.specs.declared.driver.Driver.{Driver}
use Rattle.driver.specs.declared.news.Ending.{Ending}
use Rattle.driver.specs.declared.news.News.{News}
use Rattle.driver.specs.declared.news.News.TheVariants.{Opened, Closed, NotJoined}
use Rattle.driver.specs.declared.order.Now.{Now}
use Rattle.driver.specs.declared.order.Order.{Order}
use Rattle.driver.specs.declared.order.Order.TheVariants.{Connect, Log, Send, Write}
use Rattle.bouncer_run.specs.Deliveries.{guest_at}
use Rattle.bouncer_run.specs.declared.sockets.Sockets.{Sockets}

-- the driver hears this if there is none now, and nothing if there is one
abbrev pub HearsIfNone : {A : Type 0} → (Driver → Driver → Type 0) → Option A → Driver → Driver → Type 0
HearsIfNone hears None old new = hears old new
HearsIfNone hears (Some left) old new = new ≡ old

-- the driver hears this if there was one and there is none now, and else nothing
abbrev pub HearsIfGone : {A : Type 0} → (Driver → Driver → Type 0) → Option A → Option A → Driver → Driver → Type 0
HearsIfGone hears None left old new = new ≡ old
HearsIfGone hears (Some was) left old new = HearsIfNone hears left old new

-- the driver hears that the server's connection is gone, and why
abbrev pub HearsEnd : Now → Driver → Driver → Type 0
HearsEnd now old new = (why : Ending) × Does (End now.ms why) old new

-- each client gets a notice
abbrev pub HasNoted : Driver → Driver → Type 0
HasNoted old new = (text : List ℕ) × Does (Notice text) old new

-- each client gets this notice, if there is one
abbrev pub NotesIf : Option (List ℕ) → Driver → Driver → Type 0
NotesIf None old new = new ≡ old
NotesIf (Some text) old new = Does (Notice text) old new

-- what clients are told of the channel whose reason not to be joined has this number
abbrev pub why_absent : ℕ → Driver → Option (List ℕ)
why_absent number driver = text_numbered number driver.link.absent.channels

-- clients get a notice that the server is connected or gone, and none of other news
abbrev pub AreNotified : News → Driver → Driver → Type 0
AreNotified (Opened node) old new = Does (Notice (codes "Connected to the server.")) old new
AreNotified (Closed node why) old new = HasNoted old new
AreNotified news old new = new ≡ old

-- and one that says why a channel is not joined
abbrev pub HearsNews : News → Driver → Driver → Type 0
HearsNews (NotJoined node number) old new = NotesIf (why_absent number old) old new
HearsNews news old new = AreNotified news old new

-- What the driver hears while an order is done: that the client is gone for which too much would
-- wait, that the server is gone or was not reached, and the notices that go with news.
abbrev pub HearsOf : Now → Order → Sockets → Sockets → Driver → Driver → Type 0
HearsOf now (Write number bytes) before after old new =
    HearsIfGone (Does (Lose now.ms now.at number)) (guest_at before number) (guest_at after number) old new
HearsOf now (Send bytes) before after old new = HearsIfGone (HearsEnd now) before.server after.server old new
HearsOf now Connect before after old new = HearsIfNone (HearsEnd now) after.server old new
HearsOf now (Log news) before after old new = HearsNews news old new
HearsOf now order before after old new = new ≡ old

-- What it hears while orders are done in turn.
abbrev pub HearsAll : Now → List Order → Sockets → Sockets → Driver → Driver → Type 0
HearsAll now [] before after old new = (after ≡ before) × (new ≡ old)
HearsAll now (order ∷ orders) before after old new =
    (sockets : Sockets) × (driver : Driver)
    × HearsOf now order before sockets old driver × HearsAll now orders sockets after driver new

-- The orders of a driver are taken and done, as deeds or with writes merged; while they are done the
-- driver hears of them alone.
pub record IsCarriedOut (now : Now) (before after : Sockets) (old new : Driver) : Type 0 where
  pub orders : List Order
  pub same : deeds orders ≡ deeds old.orders.items
  pub mid : Driver
  pub taken : Does Take old mid
  pub heard : HearsAll now orders before after mid new

-- What is logged for the operator.
use Rattle.std.specs.Prelude.{ℕ, Option, Some, None}
use Rattle.driver.specs.declared.news.News.{News}
use Rattle.driver.specs.declared.news.News.TheVariants.{Attached, Left, Evicted, NotJoined, Elected, Opened, Unopened, Closed, Down, Up, Hangs, Answers, TooFew, Enough, TurnedAway, LogFills, WrongPassword, WrongPasswords}

-- the node that a log line is about, if it is about one
abbrev pub node_of : News → Option ℕ
node_of (Attached origin name) = Some origin.0
node_of (Left origin) = Some origin.0
node_of (Evicted origin why) = Some origin.0
node_of (NotJoined node number) = Some node
node_of (Elected node term) = Some node
node_of (Opened node) = Some node
node_of (Unopened node why) = Some node
node_of (Closed node why) = Some node
node_of (Down node cause) = Some node
node_of (Up node boot) = Some node
node_of (Hangs node) = Some node
node_of (Answers node) = Some node
node_of TooFew = None
node_of Enough = None
node_of (TurnedAway node) = Some node
node_of (LogFills node level) = Some node
node_of (WrongPassword origin) = Some origin.0
node_of (WrongPasswords count) = None

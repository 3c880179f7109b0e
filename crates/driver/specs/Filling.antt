-- How full the log is, and the notices about that.
use Rattle.std.specs.Prelude.{◌≡◌, ◌-◌, ◌&&◌, ℕ, Bool, true, false, codes, nat_le, nat_lt, if◌then◌else◌, List, [], ◌∷◌, Option, Some, None, slice_get}
use Rattle.bouncer_tower.specs.Bodies.{TowerBody}
use Rattle.buffer_commands.specs.declared.wire_line.WireLine.{WireLine}
use Rattle.node_notes.specs.declared.note.Note.{Note}
use Rattle.node_notes.specs.declared.note.Note.TheVariants as note
use Rattle.node_notes.specs.declared.status.Status.{Status}
use Rattle.driver.specs.declared.node_monitor.NodeMonitor.{NodeMonitor}
use Rattle.driver.specs.declared.driver.Driver.{Driver}
use Rattle.driver.specs.declared.level.Level.{Level}
use Rattle.driver.specs.declared.level.Level.TheVariants.{Roomy, Filling, NearlyFull, Full}
use Rattle.driver.specs.declared.news.News.TheVariants.{LogFills}
use Rattle.driver.specs.declared.order.Order.TheVariants.{Log}
use Rattle.driver.specs.Leading.{IsLeader}
use Rattle.driver.specs.Nicks.{AllAreWritten, nick_in, notice}
use Rattle.driver.specs.Rosters.{client_at, is_attached_in}
use Rattle.driver.specs.Telling.{ordered}
use Rattle.driver.specs.declared.level.TheConstants.{FULL, NEARLY_FULL, FILLING}

-- how full a log with this many entries is, of the 1,000,000 that it takes: the last 1,000 are reserved for what brings
-- a bouncer up again
abbrev pub level_of : ℕ → Level
level_of last =
    if nat_le FULL last then Full else (if nat_le NEARLY_FULL last then NearlyFull else (if nat_le FILLING last then Filling else Roomy))

-- levels in order: the fuller the log, the greater
abbrev pub rank : Level → ℕ
rank Roomy = 0
rank Filling = 1
rank NearlyFull = 2
rank Full = 3

-- what clients are sent about it
abbrev pub words_of : Level → List ℕ
words_of Roomy = codes "The log has room."
words_of Filling = codes "The log is 80 percent full."
words_of NearlyFull = codes "The log is 95 percent full."
words_of Full = codes "The log is full: nothing new is taken."

-- how many entries a node has, as far as is known
abbrev pub last_of : Option Status → ℕ
last_of None = 0
last_of (Some status) = status.last

-- how many entries this monitor's node has, as far as is known; 0 if there is no monitor
abbrev pub last_in : Option NodeMonitor → ℕ
last_in None = 0
last_in (Some monitor) = last_of monitor.status

-- The operator and each attached client are told of a level once.
pub record TellsLevel (node : ℕ) (level : Level) (old new : Driver) : Type 0 where
  pub written : AllAreWritten old.clients (notice (nick_in old) (words_of level)) (ordered old.orders (Log (LogFills node level) ∷ [])) new.orders
  pub rest : new ≡ record old { orders = new.orders; level = level }

-- people are told of a level if this is so, and else nothing changes
abbrev pub TellsLevelIf : Bool → ℕ → Level → Driver → Driver → Type 0
TellsLevelIf false node level old new = new ≡ old
TellsLevelIf true node level old new = TellsLevel node level old new

-- if the log of the leader rose to a higher level than in the last notice
abbrev pub WatchesFor : Option ℕ → Driver → Driver → Type 0
WatchesFor None old new = new ≡ old
WatchesFor (Some node) old new =
    let level = level_of (last_in (slice_get old.monitors (node - 1))) in
    TellsLevelIf (nat_lt (rank old.level) (rank level)) node level old new

-- The log of the leader is looked at, if one leads, and people are told if its level rose above what they know.
pub record Watches (old new : Driver) : Type 0 where
  pub leader : Option ℕ
  pub is_leader : IsLeader old.monitors leader
  pub watches : WatchesFor leader old new

-- how many entries this node has, as far as is known; nothing if there is no node
abbrev pub entries_of : List NodeMonitor → Option ℕ → Option ℕ
entries_of monitors None = None
entries_of monitors (Some node) = Some (last_in (slice_get monitors (node - 1)))

-- The leader has this many entries, as far as is known; nothing is said if none leads.
pub record IsLogLength (monitors : List NodeMonitor) (entries : Option ℕ) : Type 0 where
  pub leader : Option ℕ
  pub is_leader : IsLeader monitors leader
  pub is_its : entries ≡ entries_of monitors leader

-- nothing new is taken from a registered client, nor from the server, while the log is full
abbrev pub is_full : Level → Bool
is_full Roomy = false
is_full Filling = false
is_full NearlyFull = false
is_full Full = true

-- what the client of this number sends is refused: it registered, and the log is full
abbrev pub is_refused : Driver → ℕ → Bool
is_refused driver number = is_full driver.level && is_attached_in (client_at driver.clients number)

-- a line from the server is left out while the log is full
abbrev pub is_left_out : Level → Note TowerBody WireLine → Bool
is_left_out level (note.Heard at line) = is_full level
is_left_out level other = false

-- How the retirements of all nodes change.
use Rattle.std.specs.Prelude.{◌≡◌, ℕ, zero, suc, ◌+◌, ◌-◌, if◌then◌else◌, List, [], Option, Some, None, slice_get, slice_set}
use Rattle.node_notes.specs.declared.note.Note.TheVariants.{Ask}
use Rattle.driver.specs.declared.node_monitor.NodeMonitor.{NodeMonitor}
use Rattle.driver.specs.declared.retirement.Retirement.{Retirement}
use Rattle.driver.specs.declared.order.Order.{Order}
use Rattle.driver.specs.declared.settings.Settings.{Settings}
use Rattle.driver.specs.Monitors.{told}
use Rattle.driver.specs.Retiring.{asked_at, dead_below, fresh, gone_body, is_due, is_news, retirement_at}
use Rattle.driver.specs.Leading.{IsLeader}
use Rattle.driver.specs.Telling.{Ordered, ordered}

-- what is ordered when a retirement is asked for at a monitor's node
abbrev pub retirement_told : Retirement → NodeMonitor → List Order
retirement_told retirement monitor = told monitor.id (Some (Ask (gone_body retirement.node retirement.floor)))

-- a run of this monitor's node began, with this boot: the retirement of its earlier ones is at its place, and was asked
-- for there
abbrev pub begun_all : Ordered → List (Option Retirement) → ℕ → ℕ → NodeMonitor → List (Option Retirement)
begun_all orders all now boot monitor = slice_set all (monitor.id - 1) (Some (asked_at orders (fresh monitor.id boot) now monitor))

-- the retirements after the start of a run with this boot at a monitor's node
abbrev pub retirement_begun : Ordered → ℕ → ℕ → Option NodeMonitor → List (Option Retirement) → List (Option Retirement)
retirement_begun orders now boot None all = all
retirement_begun orders now boot (Some monitor) all = begun_all orders all now boot monitor

-- runs of a node that are over are retired, if that says more than the retirement before
abbrev pub retired_by : Option ℕ → ℕ → Option Retirement → Option Retirement
retired_by None node place = place
retired_by (Some floor) node place = if is_news place floor then Some (fresh node floor) else place

-- the retirement at a node's place now: of its runs that are over, if that says more than the one there
abbrev pub retired : Settings → ℕ → NodeMonitor → Option Retirement → Option Retirement
retired settings now monitor place = retired_by (dead_below monitor settings.timeout_ms now) monitor.id place

-- the retirement at a place, if it is to be asked for
abbrev pub retirement_due : Settings → ℕ → Option Retirement → Option Retirement
retirement_due settings now None = None
retirement_due settings now (Some retirement) = if is_due retirement settings.timeout_ms now then Some retirement else None

-- a place after this retirement, if there is one, is asked for at a monitor's node
abbrev pub place_asked : Ordered → Option Retirement → ℕ → NodeMonitor → Option Retirement → Option Retirement
place_asked orders None now monitor place = place
place_asked orders (Some retirement) now monitor place = Some (asked_at orders retirement now monitor)

-- what is ordered for the monitor
abbrev pub ask_orders : Option Retirement → NodeMonitor → List Order
ask_orders None monitor = []
ask_orders (Some retirement) monitor = retirement_told retirement monitor

-- the retirements of all nodes, and what was ordered
pub record Round : Type 0 where
  pub retirements : List (Option Retirement)
  pub orders : Ordered

-- these retirements of all nodes and these orders, as one
abbrev pub round : List (Option Retirement) → Ordered → Round
round retirements orders = record { retirements = retirements; orders = orders }

-- A node's turn: runs of it that are over are retired; and a retirement that is due is asked for at the node that
-- leads.
pub record Spreads (settings : Settings) (now leader node : ℕ) (monitors : List NodeMonitor) (old new : Round) : Type 0 where
  pub own : NodeMonitor
  pub is_own : slice_get monitors (node - 1) ≡ Some own
  pub via : NodeMonitor
  pub is_via : slice_get monitors (leader - 1) ≡ Some via
  pub retirements :
      let place = retired settings now own (retirement_at old.retirements node) in
      new.retirements ≡ slice_set old.retirements (node - 1) (place_asked old.orders (retirement_due settings now place) now via place)
  pub orders :
      let due = retirement_due settings now (retired settings now own (retirement_at old.retirements node)) in
      new.orders ≡ ordered old.orders (ask_orders due via)

-- A number of nodes have their turns in order, from this one on.
unfoldable pub SpreadsAll : ℕ → Settings → ℕ → ℕ → ℕ → List NodeMonitor → Round → Round → Type 0
SpreadsAll zero settings now leader node monitors old new = new ≡ old
SpreadsAll (suc count) settings now leader node monitors old new =
    (behind : Round)
    × Spreads settings now leader node monitors old behind × SpreadsAll count settings now leader (node + 1) monitors behind new

-- if no node leads nothing changes
abbrev pub SpreadsBy : Option ℕ → Settings → ℕ → List NodeMonitor → Round → Round → Type 0
SpreadsBy None settings now monitors old new = new ≡ old
SpreadsBy (Some leader) settings now monitors old new = SpreadsAll 7 settings now leader 1 monitors old new

-- What happens to retirements as time passes: each of the seven nodes has its turn, if one leads in the greatest term.
pub record GoesRound (settings : Settings) (now : ℕ) (monitors : List NodeMonitor) (old new : Round) : Type 0 where
  pub leader : Option ℕ
  pub is_leader : IsLeader monitors leader
  pub spreads : SpreadsBy leader settings now monitors old new

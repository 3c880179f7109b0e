-- A node that serves nobody, because it is down or does not answer, and a group in which too few nodes are up.
use Rattle.std.specs.Prelude.{◌≡◌, ℕ, zero, suc, ◌+◌, ◌-◌, ◌*◌, ◌/◌, ◌||◌, Bool, true, false, not, is_some, max, min, map, take, nat_lt, if◌then◌else◌, List, [], ◌∷◌, Option, Some, None, slice_get, slice_set}
use Rattle.std.specs.BTreeMap.{keys}
use Rattle.driver.specs.declared.absence.Absence.TheVariants as absence
use Rattle.driver.specs.declared.driver.Driver.{Driver}
use Rattle.driver.specs.declared.news.News.{News}
use Rattle.driver.specs.declared.news.News.TheVariants.{Enough, Hangs, TooFew}
use Rattle.driver.specs.declared.node_monitor.NodeMonitor.{NodeMonitor}
use Rattle.driver.specs.declared.node_monitor.standing.Outage.{Outage}
use Rattle.driver.specs.declared.order.Order.{Order}
use Rattle.driver.specs.declared.order.Order.TheVariants.{Log}
use Rattle.driver.specs.declared.retirement.Retirement.{Retirement}
use Rattle.driver.specs.declared.settings.Settings.{Settings}
use Rattle.driver.specs.Crowds.{CutEach, told}
use Rattle.driver.specs.Driving.{changed_at, orders_at, told_of}
use Rattle.driver.specs.Hearing.{boot_up}
use Rattle.driver.specs.Monitors.{at, is_over}
use Rattle.driver.specs.Nicks.{AllAreWritten, group_words, nick_in, notice}
use Rattle.driver.specs.Retiring.{retirement_at, with_seen}
use Rattle.driver.specs.Rounds.{retired}
use Rattle.driver.specs.Telling.{ordered}
use Rattle.driver.specs.declared.node_monitor.hanging.TheConstants.{HANGS_AFTER, QUIET_AFTER, SHORT_WAIT, TIMEOUTS}

-- how long a node may give no answer before it hangs: 5 seconds, or two timeouts if these are longer
abbrev pub hang_limit : ℕ → ℕ
hang_limit timeout = max HANGS_AFTER (TIMEOUTS * timeout)

-- how long a working node may give no answer: 2 seconds, or a timeout if that is longer
abbrev pub quiet_limit : ℕ → ℕ
quiet_limit timeout = max QUIET_AFTER timeout

-- a node serves nobody at this moment: it is down, or has given no answer for this long
abbrev pub is_absent : ℕ → ℕ → NodeMonitor → Bool
is_absent limit now monitor = is_some monitor.down || is_over monitor.presence.last_report limit now

-- the run in which a node begins to hang: it was up in it when it was last heard from, has given no answer for too long
-- since, and its clients were not told
abbrev pub begins_to_hang : ℕ → ℕ → NodeMonitor → Option ℕ
begins_to_hang timeout now monitor =
    if monitor.presence.is_hanging || not (is_absent (hang_limit timeout) now monitor) then None else boot_up monitor.status

-- A node whose clients were told that it hangs in this run, which counts as over. That is logged, and clients that are
-- turned away are not.
abbrev pub hanging : ℕ → NodeMonitor → NodeMonitor
hanging boot monitor = with_seen boot (record monitor {
  presence = record monitor.presence { is_hanging = true };
  visitors = record monitor.visitors { has_turned_away = true };
})

-- its clients were told that it hangs, if there is a node
abbrev pub is_hanging_in : Option NodeMonitor → Bool
is_hanging_in None = false
is_hanging_in (Some monitor) = monitor.presence.is_hanging

-- the run in which a node takes clients: it is up, and does not hang
abbrev pub boot_open : NodeMonitor → Option ℕ
boot_open monitor = if monitor.presence.is_hanging then None else boot_up monitor.status

-- a node that is down waits no longer than this
abbrev pub shortened : Option Outage → Option Outage
shortened None = None
shortened (Some outage) = Some (record outage { wait_ms = min outage.wait_ms SHORT_WAIT })

-- a node is started again soon, if it is down
abbrev pub hastened : NodeMonitor → NodeMonitor
hastened monitor = record monitor { down = shortened monitor.down }

-- how many nodes serve clients at this moment, by this limit of silence
unfoldable pub serving : ℕ → ℕ → List NodeMonitor → ℕ
serving limit now [] = 0
serving limit now (monitor ∷ more) = (if is_absent limit now monitor then 0 else 1) + serving limit now more

-- more than half of the nodes serve clients
abbrev pub has_majority : ℕ → Driver → ℕ → Bool
has_majority limit driver now =
    nat_lt (driver.settings.size / 2) (serving limit now (take driver.settings.size driver.monitors))

-- too few nodes are up: others are down, or hang
abbrev pub is_short : Driver → ℕ → Bool
is_short driver now = not (has_majority (hang_limit driver.settings.timeout_ms) driver now)

-- a majority works at this moment
abbrev pub goes_on : Driver → ℕ → Bool
goes_on driver now = has_majority (quiet_limit driver.settings.timeout_ms) driver now

-- the run in which a node begins to hang, if there is one
abbrev pub begins_in : ℕ → ℕ → Option NodeMonitor → Option ℕ
begins_in timeout now None = None
begins_in timeout now (Some monitor) = begins_to_hang timeout now monitor

-- it is logged that a node hangs
abbrev pub hangs_news : NodeMonitor → List Order
hangs_news monitor = Log (Hangs monitor.id) ∷ []

-- the retirements, if runs of this monitor's node are over
abbrev pub retired_in : Settings → ℕ → Option NodeMonitor → List (Option Retirement) → List (Option Retirement)
retired_in settings now None all = all
retired_in settings now (Some monitor) all = slice_set all (monitor.id - 1) (retired settings now monitor (retirement_at all monitor.id))

-- A node hangs: that is logged, its run is retired, its clients are told so, and they are cut off.
pub record HangsNode (now node boot : ℕ) (old new : Driver) : Type 0 where
  pub monitors : new.monitors ≡ changed_at (hanging boot) old.monitors node
  pub retirements : new.retirements.all ≡ retired_in old.settings now (slice_get new.monitors (node - 1)) old.retirements.all
  pub cut :
      CutEach absence.Hanging node (keys old.clients.all)
      (told old.clients (ordered old.orders (orders_at hangs_news old.monitors node)))
      (told_of new)
  pub rest : new ≡ record old { monitors = new.monitors; retirements = new.retirements; clients = new.clients; orders = new.orders }

-- if a node begins to hang; else nothing changes
abbrev pub HangsIf : Option ℕ → ℕ → ℕ → Driver → Driver → Type 0
HangsIf None now node old new = new ≡ old
HangsIf (Some boot) now node old new = HangsNode now node boot old new

-- A number of nodes are looked at in turn, from this one on.
unfoldable pub HangNodes : ℕ → ℕ → ℕ → Driver → Driver → Type 0
HangNodes zero now node old new = new ≡ old
HangNodes (suc count) now node old new =
    (behind : Driver)
    × HangsIf (begins_in old.settings.timeout_ms now (slice_get old.monitors (node - 1))) now node old behind
    × HangNodes count now (node + 1) behind new

-- if too few nodes are up, those that are down are started again soon
abbrev pub hastened_if : Bool → List NodeMonitor → List NodeMonitor
hastened_if true monitors = map hastened monitors
hastened_if false monitors = monitors

-- If a majority works, and has for as long as a node may be silent before it hangs, clients of those that hang are cut
-- off; if none works, that time begins anew.
abbrev pub CutsBy : Bool → Bool → ℕ → Driver → Driver → Type 0
CutsBy false long now old new = new ≡ record old { going_on = at now }
CutsBy true false now old new = new ≡ old
CutsBy true true now old new = HangNodes 7 now 1 old new

-- what is logged when too few nodes are up, and when enough are again
abbrev pub group_news : Bool → News
group_news true = TooFew
group_news false = Enough

-- The operator and each attached client are told whether too few nodes are up.
pub record TellsGroup (short : Bool) (old new : Driver) : Type 0 where
  pub written : AllAreWritten old.clients (notice (nick_in old) (group_words short)) (ordered old.orders (Log (group_news short) ∷ [])) new.orders
  pub rest : new ≡ record old { orders = new.orders; is_short = short }

-- the state that people know is another than this one
abbrev pub is_new : Bool → Bool → Bool
is_new true known = not known
is_new false known = known

-- if they know it nothing changes
abbrev pub TellsGroupIf : Bool → Bool → Driver → Driver → Type 0
TellsGroupIf false short old new = new ≡ old
TellsGroupIf true short old new = TellsGroup short old new

-- The nodes are looked at: those that hang, and whether too few are up. People are told of it once.
pub record WatchesNodes (now : ℕ) (old new : Driver) : Type 0 where
  pub hastens : Driver
  pub is_hastened : hastens ≡ record old { monitors = hastened_if (is_short old now) old.monitors }
  pub seen : Driver
  pub cuts : CutsBy (goes_on hastens now) (is_over hastens.going_on (hang_limit hastens.settings.timeout_ms) now) now hastens seen
  pub tells : TellsGroupIf (is_new (is_short old now) seen.is_short) (is_short old now) seen new

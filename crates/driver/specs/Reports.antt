-- What a report of a node's worker does.
use Rattle.std.specs.Prelude.{◌≡◌, ℕ, ◌-◌, Bool, true, false, ◌||◌, List, Option, Some, None, map, slice_get}
use Rattle.std.specs.BTreeMap.{keys}
use Rattle.wire_bytes.specs.declared.moment.Moment.{Moment}
use Rattle.client_gate.specs.Gates.{GateEffect}
use Rattle.node_notes.specs.declared.progress.Progress.{Progress}
use Rattle.node_notes.specs.declared.status.Status.{Status}
use Rattle.raft_node.specs.declared.node_fault.Cause.{Cause}
use Rattle.driver.specs.declared.node_monitor.NodeMonitor.{NodeMonitor}
use Rattle.driver.specs.declared.node_monitor.hearing.Heard.{Heard}
use Rattle.driver.specs.declared.absence.Absence.TheVariants.{Down}
use Rattle.driver.specs.declared.driver.Driver.{Driver}
use Rattle.driver.specs.Crowds.{CutEach, LeaveEach, Told, WordEach}
use Rattle.driver.specs.Driving.{TicksNode, changed_at, orders_at, told_of}
use Rattle.driver.specs.Retiring.{fresh, heard_in}
use Rattle.driver.specs.Hearing.{heard_behind, heard_news, heard_of}
use Rattle.driver.specs.Passing.{PassEach}
use Rattle.driver.specs.Rounds.{retirement_begun, retirement_told}
use Rattle.driver.specs.Telling.{Ordered, ordered, told_to}
use Rattle.driver.specs.Waking.{awake}

-- what is new of a node by this report; nothing for one that does not exist
abbrev pub heard_if : Ordered → Option NodeMonitor → Status → Progress → Heard
heard_if orders None status progress = record { is_new = false; has_lost = false }
heard_if orders (Some monitor) status progress = heard_of monitor (told_to orders monitor.id) status progress

-- what is new of this node by this report, as a driver knows it
abbrev pub heard_at : Driver → ℕ → Status → Progress → Heard
heard_at driver node status progress = heard_if driver.orders (slice_get driver.monitors (node - 1)) status progress

-- how many notes of this monitor's node are done, as far as is known; 0 if there is no monitor
abbrev pub done_in : Option NodeMonitor → ℕ
done_in None = 0
done_in (Some monitor) = monitor.progress.done

-- how many notes of this node are done, as far as is known; nodes count from 1
abbrev pub done_at : List NodeMonitor → ℕ → ℕ
done_at monitors node = done_in (slice_get monitors (node - 1))

-- the last note of this monitor's node whose request may be lost, as far as is known; 0 if there is no monitor
abbrev pub lost_in : Option NodeMonitor → ℕ
lost_in None = 0
lost_in (Some monitor) = monitor.progress.lost

-- the last note of this node whose request may be lost, as far as is known; nodes count from 1
abbrev pub lost_at : List NodeMonitor → ℕ → ℕ
lost_at monitors node = lost_in (slice_get monitors (node - 1))

-- A report gave a node's state, how far its worker is, and whether a turn of it was refused: its monitor records it,
-- and so does the retirement that was asked for at the node; what is new is logged.
pub record Stands (now node : ℕ) (status : Status) (progress : Progress) (refused : Bool) (old new : Driver) : Type 0 where
  pub monitors : new.monitors ≡ changed_at (λ monitor. heard_behind monitor now (told_to old.orders monitor.id) status progress) old.monitors node
  pub heard : new.retirements.all ≡ map (heard_in node status (done_at new.monitors node) refused) old.retirements.all
  pub orders : new.orders ≡ ordered old.orders (orders_at (λ monitor. heard_news monitor status) old.monitors node)
  pub rest : new ≡ record old { monitors = new.monitors; retirements = new.retirements; orders = new.orders }

-- Clients of a node that is up hear which notes may be lost, or that it refused a turn; else nothing happens.
abbrev pub WordsIf : Bool → Bool → ℕ → Moment → ℕ → ℕ → Told → Told → Type 0
WordsIf true refused now at node lost old new = WordEach at now node lost refused (keys old.clients.all) old new
WordsIf false refused now at node lost old new = new ≡ old

-- Clients of a node that is down are told so, and cut off.
abbrev pub WordsBy : Option Cause → Bool → Bool → ℕ → Moment → ℕ → Driver → Told → Told → Type 0
WordsBy (Some cause) refused lost now at node driver old new = CutEach Down node (keys old.clients.all) old new
WordsBy None refused lost now at node driver old new = WordsIf (refused || lost) refused now at node (lost_at driver.monitors node) old new

-- A run of a node began, with this boot: the clients of its earlier runs are closed, and it is asked to retire these.
pub record Begins (now : ℕ) (at : Moment) (node boot : ℕ) (old new : Driver) : Type 0 where
  pub left : Told
  pub leaves : LeaveEach at node boot (keys old.clients.all) (told_of old) left
  pub clients : new.clients ≡ left.clients
  pub orders : new.orders ≡ ordered left.orders (orders_at (λ monitor. retirement_told (fresh monitor.id boot) monitor) old.monitors node)
  pub retired : new.retirements.all ≡ retirement_begun left.orders now boot (slice_get old.monitors (node - 1)) old.retirements.all
  pub rest : new ≡ record old { retirements = new.retirements; clients = new.clients; orders = new.orders }

-- if none began nothing changes
abbrev pub BeginsIf : Bool → ℕ → Moment → ℕ → ℕ → Driver → Driver → Type 0
BeginsIf false now at node boot old new = new ≡ old
BeginsIf true now at node boot old new = Begins now at node boot old new

-- A node's worker gave effects, which pass in turn, and reported the node's state. The driver is awake; the node's
-- clients hear its report; if a run of the node began, its earlier ones are left; and the node ticks.
pub record Hears (now : ℕ) (at : Moment) (node : ℕ) (status : Status) (effects : List GateEffect) (progress : Progress) (refused : Bool) (old new : Driver) : Type 0 where
  pub passed : Driver
  pub passes : PassEach now at node effects (awake now old) passed
  pub stood : Driver
  pub stands : Stands now node status progress refused passed stood
  pub worded : Driver
  pub words : WordsBy status.down refused (heard_at passed node status progress).has_lost now at node stood (told_of stood) (told_of worded)
  pub is_worded : worded ≡ record stood { clients = worded.clients; orders = worded.orders }
  pub begun : Driver
  pub begins : BeginsIf (heard_at passed node status progress).is_new now at node status.boot worded begun
  pub ticks : TicksNode now node begun new

-- The state of the bouncer, in the words that a client gets that asks for it.
use Rattle.std.specs.Prelude.{ℕ, ◌+◌, ◌-◌, ◌/◌, ◌%◌, Bool, true, false, not, codes, decimal, if◌then◌else◌, is_some, List, [], ◌∷◌, ◌++◌, length, take, Option, Some, None, slice_get}
use Rattle.wire_bytes.specs.declared.origin.Origin.{Origin}
use Rattle.driver.specs.declared.driver.Driver.{Driver}
use Rattle.driver.specs.declared.link.Link.{Link}
use Rattle.driver.specs.declared.link.Stage.{Stage}
use Rattle.driver.specs.declared.link.Stage.TheVariants.{Closing, Connecting, Idle, Open}
use Rattle.driver.specs.declared.node_monitor.NodeMonitor.{NodeMonitor}
use Rattle.driver.specs.Filling.{entries_of}
use Rattle.driver.specs.Hearing.{boot_up}
use Rattle.driver.specs.Leading.{is_that}
use Rattle.driver.specs.Missing.{missing}
use Rattle.driver.specs.Outgoing.{Waiting}
use Rattle.driver.specs.Writing.{are_due}

-- the state of a node that leads or not, hangs or not, and is up or not
abbrev pub state_words : Bool → Bool → Bool → List ℕ
state_words true hangs up = codes " leads."
state_words false true up = codes " does not answer."
state_words false false true = codes " is up."
state_words false false false = codes " is down."

-- the state of a node, after its number
abbrev pub node_text : Option ℕ → NodeMonitor → List ℕ
node_text leader monitor =
    32 ∷ (48 + monitor.id) ∷ state_words (is_that leader monitor.id) monitor.presence.is_hanging (is_some (boot_up monitor.status))

-- for these nodes
unfoldable pub node_texts : Option ℕ → List NodeMonitor → List ℕ
node_texts leader [] = []
node_texts leader (monitor ∷ more) = node_text leader monitor ++ node_texts leader more

abbrev pub nodes_text : Option ℕ → List NodeMonitor → List ℕ
nodes_text leader monitors = codes "The nodes:" ++ node_texts leader monitors

-- for how many milliseconds a session has been open
abbrev pub stands_for : Stage → ℕ → ℕ
stands_for (Idle since wait) now = 0
stands_for (Closing since wait) now = 0
stands_for (Connecting node) now = 0
stands_for (Open session) now = now - session.since.since

-- milliseconds as hours and minutes
abbrev pub time_text : ℕ → List ℕ
time_text ms = decimal (ms / 3600000) ++ codes " h " ++ decimal (ms / 60000 % 60) ++ codes " min."

-- why there is no server, or since when there is
abbrev pub server_text_by : Option (List ℕ) → ℕ → List ℕ
server_text_by (Some text) ms = text
server_text_by None ms = codes "The server: connected for " ++ time_text ms

abbrev pub server_text : Link → ℕ → List ℕ
server_text link now = server_text_by (missing link.stage link.ended now) (stands_for link.stage now)

-- said lines may also wait in the log, and may be being dropped there
abbrev pub more_text : Bool → Bool → List ℕ
more_text more true = codes " What waits in the log is being dropped."
more_text true false = codes " More lines wait in the log."
more_text false false = []

-- what waits to go out
abbrev pub waiting_text : Waiting → Bool → Bool → List ℕ
waiting_text waiting more drops =
    codes "To go out: " ++ decimal (length waiting.said) ++ codes " lines, " ++ decimal (length waiting.questions)
    ++ codes " questions who is in a channel." ++ more_text more drops

-- a line waits to be claimed by the node that leads, if one leads
abbrev pub waits_in_log : Option ℕ → List NodeMonitor → Bool
waits_in_log None monitors = false
waits_in_log (Some node) monitors = not (are_due (slice_get monitors (node - 1)))

-- how full the log is
abbrev pub log_text : Option ℕ → List ℕ
log_text None = codes "No node leads: nothing is agreed."
log_text (Some entries) = codes "The log: " ++ decimal entries ++ codes " of 1000000 entries."

-- the whole state, if this node leads, or none
abbrev pub standing_texts : Option ℕ → ℕ → Driver → List (List ℕ)
standing_texts leader now driver =
    nodes_text leader (take driver.settings.size driver.monitors) ∷ server_text driver.link now
    ∷ waiting_text driver.link.waiting (waits_in_log leader driver.monitors) (is_some driver.dropping)
    ∷ log_text (entries_of driver.monitors leader) ∷ []

-- the name of a client
abbrev pub name_text : Option (List ℕ) → List ℕ
name_text None = codes " has no name"
name_text (Some name) = codes " is " ++ name

-- a client of this origin, by its number, its name and its node
abbrev pub client_text : Origin → Option (List ℕ) → List ℕ
client_text origin name = codes "Client " ++ decimal origin.2 ++ name_text name ++ codes ", at node " ++ (48 + origin.0) ∷ codes "."

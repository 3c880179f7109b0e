-- What a node gets except claims, as orders that are no claims.
use Rattle.std.proofs.Common.{◌≡◌, ◌∙◌, ℕ, Bool, true, false, List, [], ◌∷◌, Option, Some, None, refl, ap}
use Rattle.std.specs.Prelude.{◌&&◌, ◌||◌, if◌then◌else◌, nat_eq}
use Rattle.std.specs.List.{list_any}
use Rattle.bouncer_tower.specs.Bodies.{TowerBody}
use Rattle.buffer_commands.specs.declared.wire_line.WireLine.{WireLine}
use Rattle.request_once.specs.declared.body.Body.TheVariants as body
use Rattle.node_notes.specs.declared.note.Note.{Note}
use Rattle.node_notes.specs.declared.note.Note.TheVariants as note
use Rattle.node_notes.specs.declared.status.Status.{Status}
use Rattle.node_notes.specs.Notes.{leads}
use Rattle.driver.specs.declared.node_monitor.standing.Outage.{Outage}
use Rattle.wire_bytes.specs.declared.origin.Origin.{Origin}
use Rattle.driver.specs.declared.node_monitor.NodeMonitor.{NodeMonitor}
use Rattle.driver.specs.declared.retirement.Retirement.{Retirement}
use Rattle.driver.specs.declared.order.Order.{Order}
use Rattle.driver.specs.declared.order.Order.TheVariants as order
use Rattle.driver.specs.declared.settings.Settings.{Settings}
use Rattle.driver.specs.Claiming.{claims, is_claim}
use Rattle.driver.specs.Monitors.{is_over, is_to_beat, note_at, note_for, note_up, patience, told}
use Rattle.driver.specs.Driving.{clocked, orders_of, tick_orders}
use Rattle.driver.specs.Retiring.{restart_at, restart_if}
use Rattle.driver.specs.Once.{IsFor}
use Rattle.driver.specs.Telling.{Ordered}
use Rattle.driver.proofs.Growing.{AllAre, all_append}

-- an order that sends this node no claim
abbrev pub NoClaim : ℕ → Order → Type 0
NoClaim node order = claims node order ≡ false

-- nothing, or no claim
abbrev pub IsQuiet : Option (Note TowerBody WireLine) → Type 0
IsQuiet None = Unit {0}
IsQuiet (Some note) = is_claim note ≡ false

pub quiet_told : (node id : ℕ) (told : Note TowerBody WireLine) → is_claim told ≡ false → NoClaim node (order.Submit id told)
quiet_told node id told is = ap (λ (b : Bool). b && nat_eq id node) is

pub quiet_orders : (node id : ℕ) (note : Option (Note TowerBody WireLine)) → IsQuiet note → AllAre (NoClaim node) (told id note)
unfolding AllAre
quiet_orders node id None is = tt
quiet_orders node id (Some note) is = (quiet_told node id note is, tt)

quiet_if : (b : Bool) (note : Note TowerBody WireLine) → is_claim note ≡ false → IsQuiet (if b then Some note else None)
quiet_if true note is = is
quiet_if false note is = tt

quiet_either : (b : Bool) (one other : Option (Note TowerBody WireLine)) → IsQuiet one → IsQuiet other → IsQuiet (if b then one else other)
quiet_either true one other first last = first
quiet_either false one other first last = last

quiet_up : (monitor : NodeMonitor) (settings : Settings) (now : ℕ) (status : Status) → IsQuiet (note_up monitor settings now status)
unfolding note_up
quiet_up monitor settings now status =
    quiet_either (leads status) _ _
    (quiet_if (is_to_beat monitor settings now) note.Beat refl)
    (quiet_if (is_over monitor.following.last_leader_contact (patience settings monitor.id) now) (note.Timeout monitor.progress.contacts) refl)

quiet_for : (monitor : NodeMonitor) (settings : Settings) (now : ℕ) (status : Option Status) (down : Option Outage) → IsQuiet (note_for monitor settings now status down)
unfolding note_for
quiet_for monitor settings now None down = tt
quiet_for monitor settings now (Some status) (Some outage) = quiet_if (is_over outage.since outage.wait_ms now) note.Restart refl
quiet_for monitor settings now (Some status) None = quiet_up monitor settings now status

quiet_restart : (monitor : NodeMonitor) (floor : Option ℕ) → IsQuiet (restart_if monitor floor)
quiet_restart monitor None = tt
quiet_restart monitor (Some floor) = quiet_if _ note.Restart refl

-- the notes of the clock and of the retirement of its runs
pub quiet_tick : (node : ℕ) (orders : Ordered) (retirements : List (Option Retirement)) (settings : Settings) (now : ℕ) (found : Option NodeMonitor) → AllAre (NoClaim node) (orders_of (tick_orders orders retirements settings now) found)
unfolding AllAre
quiet_tick node orders retirements settings now None = tt
quiet_tick node orders retirements settings now (Some monitor) =
    let behind = clocked orders settings now monitor in
    all_append (NoClaim node) (told monitor.id (note_at monitor settings now)) (told behind.id (restart_at retirements behind))
    (quiet_orders node monitor.id (note_at monitor settings now) (quiet_for monitor settings now monitor.status monitor.down))
    (quiet_orders node behind.id (restart_at retirements behind) (quiet_restart behind _))

-- what a client orders
pub quiet_client : (node : ℕ) (origin : Origin) (o : Order) → IsFor origin o → NoClaim node o
quiet_client node origin (order.Submit other (note.Ask (body.Asked from number at action))) is = refl
quiet_client node origin (order.Submit other (note.Ask (body.Inner c))) (is, own) = absurd own
quiet_client node origin (order.Submit other (note.Ask body.Blank)) (is, own) = absurd own
quiet_client node origin (order.Submit other (note.Ask (body.Mark m))) (is, own) = absurd own
quiet_client node origin (order.Submit other (note.Timeout contacts)) is = refl
quiet_client node origin (order.Submit other note.Beat) is = refl
quiet_client node origin (order.Submit other note.Opened) is = refl
quiet_client node origin (order.Submit other note.Closed) is = refl
quiet_client node origin (order.Submit other (note.Heard at line)) is = refl
quiet_client node origin (order.Submit other note.Claim) (is, own) = absurd own
quiet_client node origin (order.Submit other note.Wake) is = refl
quiet_client node origin (order.Submit other note.Restart) is = refl
quiet_client node origin (order.Submit other note.End) is = refl
quiet_client node origin (order.Write client bytes) is = refl
quiet_client node origin (order.Close client) is = refl
quiet_client node origin order.Connect is = refl
quiet_client node origin (order.Send bytes) is = refl
quiet_client node origin order.Disconnect is = refl
quiet_client node origin (order.Log news) is = refl

-- none of these orders is a claim
pub none_claims : (node : ℕ) (told : List Order) → AllAre (NoClaim node) told → list_any (claims node) told ≡ false
unfolding AllAre
none_claims node [] all = refl
none_claims node (o ∷ more) (is, all) = ap (λ (b : Bool). b || list_any (claims node) more) is ∙ none_claims node more all

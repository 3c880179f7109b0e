-- What happens to one of the clients.
use Rattle.std.specs.Prelude.{◌≡◌, ◌-◌, ◌&&◌, ℕ, Bool, true, false, not, nat_le, if◌then◌else◌, List, [], length, Option, Some, None, slice_get}
use Rattle.std.specs.Ordering.{nat_cmp}
use Rattle.std.specs.BTreeMap.{get}
use Rattle.client_gate.specs.declared.settings.Settings.{Settings}
use Rattle.client_gate.specs.Calls.{Call, Held, Stands, gate}
use Rattle.machine_laws.specs.Origins.{same_origin}
use Rattle.wire_bytes.specs.declared.origin.Origin.{Origin}
use Rattle.driver.specs.declared.client.Client.{Client}
use Rattle.driver.specs.declared.client.refusal.Refusal.{Refusal}
use Rattle.driver.specs.declared.clients.Clients.{Clients}
use Rattle.driver.specs.declared.node_monitor.NodeMonitor.{NodeMonitor}
use Rattle.driver.specs.Monitors.{at, is_full}
use Rattle.driver.specs.Asking.{is_idle}
use Rattle.driver.specs.Clients.{is_shut}
use Rattle.driver.specs.Telling.{Ordered, told_to}
use Rattle.driver.specs.declared.client.TheConstants.{MOST_WAITING}

-- the client of this number, if there is one
abbrev pub client_at : Clients → ℕ → Option Client
client_at clients number = get nat_cmp clients.all number

-- the node of a client, if there is one
abbrev pub node_in : Option Client → Option ℕ
node_in None = None
node_in (Some client) = Some client.origin.0

-- a client is the one of this origin, if there is one
abbrev pub is_there : Option Client → Origin → Bool
is_there None origin = false
is_there (Some client) origin = same_origin client.origin origin

-- a client registered at its node, if there is one
abbrev pub is_attached_in : Option Client → Bool
is_attached_in None = false
is_attached_in (Some client) = client.is_attached

-- nothing more is taken from a client, if there is one: it is leaving, its connection is gone, or its password was
-- wrong
abbrev pub is_leaving_in : Option Client → Bool
is_leaving_in None = false
is_leaving_in (Some client) = is_shut client

-- the password of a client, if there is one, was wrong: the client of this origin has not been answered yet
abbrev pub refused_by : Option Refusal → Origin → Option Origin
refused_by None origin = None
refused_by (Some refusal) origin = Some origin

abbrev pub refused_in : Option Client → Option Origin
refused_in None = None
refused_in (Some client) = refused_by client.refused client.origin

-- bytes are read that may bring notes to a node of which this is known: not while it has no room for more
abbrev pub takes_notes : Ordered → Option NodeMonitor → Bool
takes_notes orders None = true
takes_notes orders (Some monitor) = not (is_full (told_to orders monitor.id) monitor.progress)

-- bytes are read that may bring notes to this node, if they are for one
abbrev pub is_read_for : Ordered → List NodeMonitor → Option ℕ → Bool
is_read_for orders monitors None = true
is_read_for orders monitors (Some node) = takes_notes orders (slice_get monitors (node - 1))

-- how many requests of a client may wait at its gate, at most, while more is read of it
abbrev pub reading_limit : ℕ
reading_limit = MOST_WAITING

-- A client has so many requests waiting at its gate, after any calls of it, that no more is read.
abbrev pub IsFullIn : Bool → Option Client → Type 0
IsFullIn full None = full ≡ false
IsFullIn full (Some c) = (s : Settings) (calls : List Call) → Stands s calls c.gate → full ≡ nat_le reading_limit (length (gate s calls).waiting)

-- Bytes are read from a client, if there is one: not while too many notes of its node wait, or too many of its
-- requests.
abbrev pub IsReadOf : Bool → Ordered → List NodeMonitor → Option Client → Type 0
IsReadOf reads orders monitors client =
    (full : Bool) × IsFullIn full client × (reads ≡ (is_read_for orders monitors (node_in client) && not full))

-- all other numbers keep their clients
abbrev pub AreOthersSame : ℕ → Clients → Clients → Type 0
AreOthersSame number old new = (other : ℕ) → (number ≡ other → ⊥) → client_at new other ≡ client_at old other

-- a client after these calls of its gate is kept, unless its connection is gone and all its requests are done
abbrev pub kept : Settings → List Call → Client → Option Client
kept s calls c = if c.is_gone && is_idle (gate s calls).waiting then None else Some c

-- the client of this number, if there is one, is kept or not
abbrev pub IsKept : ℕ → Clients → Clients → Type 0
IsKept number old new =
    (s : Settings) (calls : List Call) (c : Client) → client_at old number ≡ Some c → Stands s calls c.gate → client_at new number ≡ kept s calls c

-- A client became this one, after calls of its gate that any reader of the gate knows, and is kept by its number, or
-- not.
pub record Becomes (happens : Client → Type 0) (number : ℕ) (s : Settings) (new : Clients) : Type 0 where
  pub client : Client
  pub happened : happens client
  pub is_kept : (calls : List Call) → Stands s calls client.gate → client_at new number ≡ kept s calls client

-- This happens to a client of this number, if there is one, whatever calls its gate has had.
abbrev pub Serves : (Client → Type 0) → (Settings → List Call → Client → Client → Type 0) → ℕ → Clients → Type 0
Serves is_meant happens number new =
    (s : Settings) (calls : List Call) (c : Client) → is_meant c → Stands s calls c.gate → Becomes (happens s calls c) number s new

-- A client that has just connected: it asked for nothing, and nothing was asked of it.
pub record IsNew (origin : Origin) (held : Held) (nick : List ℕ) (now : ℕ) (client : Client) : Type 0 where
  pub origin_is : client.origin ≡ origin
  pub gate_is : client.gate ≡ held
  pub nick_is : client.nick ≡ nick
  pub has_no_name : client.name ≡ None
  pub since : client.since ≡ at now
  pub heard : client.heard ≡ at now
  pub asked_is : client.asked ≡ record { note = 0; at = at now }
  pub is_not_held_up : client.is_held_up ≡ false
  pub is_not_attached : client.is_attached ≡ false
  pub has_none_open : client.channels ≡ []
  pub parts_from_none : client.parting ≡ []
  pub is_not_pinged : client.is_pinged ≡ false
  pub is_not_leaving : client.leaving ≡ None
  pub is_not_gone : client.is_gone ≡ false
  pub is_not_refused : client.refused ≡ None

-- Effects reach the clients that they are for.
use Rattle.std.specs.Prelude.{◌≡◌, ℕ, Bool, false, List, [], ◌∷◌, Some}
use Rattle.bouncer_tower.specs.Hosting.{class_of}
use Rattle.client_gate.specs.Gates.{GateEffect}
use Rattle.irc_line.specs.Lines.{Parts}
use Rattle.machine_laws.specs.Origins.{same_origin}
use Rattle.machine_laws.specs.declared.class.Class.{Class}
use Rattle.machine_laws.specs.declared.class.Class.TheVariants.{To, Hand, Rejoin, Nowhere}
use Rattle.node_notes.specs.declared.progress.Progress.{Progress}
use Rattle.node_notes.specs.declared.status.Status.{Status}
use Rattle.wire_bytes.specs.declared.moment.Moment.{Moment}
use Rattle.wire_bytes.specs.declared.origin.Origin.{Origin}
use Rattle.driver.specs.declared.client.Client.{Client}
use Rattle.driver.specs.declared.clients.Clients.{Clients}
use Rattle.driver.specs.declared.driver.Driver.{Driver}
use Rattle.driver.specs.Calls.{Led, Reports, Step}
use Rattle.driver.specs.Crowds.{Told}
use Rattle.driver.specs.Driving.{told_of}
use Rattle.driver.specs.Learning.{LearnsNick}
use Rattle.driver.specs.Once.{TellsOwn}
use Rattle.driver.specs.Rosters.{client_at}
use Rattle.driver.specs.Waking.{awake}

-- What is for the client of this origin reaches no other: each client of another origin is unchanged, even one with the
-- same number, and what is ordered is of this client alone.
pub record Reaches (origin : Origin) (old new : Told) : Type 0 where
  pub others :
      (number : ℕ) (c : Client) → client_at old.clients number ≡ Some c → same_origin c.origin origin ≡ false
      → client_at new.clients number ≡ Some c
  pub own : TellsOwn origin old.orders new.orders

-- Each client is unchanged, except for the channels that it has open.
pub record AreSameButOpen (old new : Clients) : Type 0 where
  pub same :
      (number : ℕ) (c : Client) → client_at old number ≡ Some c
      → (d : Client) × (client_at new number ≡ Some d) × (d ≡ record c { channels = d.channels })

-- what is for no client changes none; for clients that are kicked from a channel it changes what they have open
abbrev pub ReachesBy : Class Parts → Told → Told → Type 0
ReachesBy (To origin) old new = Reaches origin old new
ReachesBy (Rejoin session line) old new = AreSameButOpen old.clients new.clients
ReachesBy (Hand session number line) old new = new.clients ≡ old.clients
ReachesBy Nowhere old new = new.clients ≡ old.clients

-- effects in turn; before each its nick is learnt, if it shows one that was not known
unfoldable pub ReachEach : List GateEffect → Driver → Driver → Type 0
ReachEach [] old new = new ≡ old
ReachEach (effect ∷ effects) old new =
    (learnt : Driver) × (behind : Driver)
    × LearnsNick effect old learnt × ReachesBy (class_of effect) (told_of learnt) (told_of behind) × ReachEach effects behind new

-- Over every list of calls of a driver: the effects of a report reach, one after another, the clients that they are for, and no others.
abbrev pub EffectsReach : Type 0
EffectsReach =
    (steps : List Step) (now : ℕ) (at : Moment) (node : ℕ) (status : Status) (effects : List GateEffect) (progress : Progress)
    (refused : Bool) (before new : Driver) → Led steps before
    → (report : Reports now at node status effects progress refused before new)
    → ReachEach effects (awake now before) report.hears.passed

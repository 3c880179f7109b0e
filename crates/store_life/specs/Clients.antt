-- Which clients get something in a period: those of the runs that its nodes made in it.
use Rattle.std.specs.Prelude.{◌≡◌, ◌<◌, ◌≤◌, ℕ, List, [], ◌∷◌, ◌++◌, Some, slice_get}
use Rattle.irc_line.specs.Lines.{Parts}
use Rattle.wire_bytes.specs.declared.origin.Origin.{Origin}
use Rattle.machine_laws.specs.declared.class.Class.{Class}
use Rattle.machine_laws.specs.declared.class.Class.TheVariants.{To, Hand, Rejoin, Nowhere}
use Rattle.bouncer_tower.specs.Bodies.{TowerBody, TowerEffect}
use Rattle.bouncer_tower.specs.Hosting.{class_of}
use Rattle.raft_log.specs.Lists.{item, item_or}
use Rattle.raft_log.specs.Node.{Node}
use Rattle.world_run.specs.World.{left_of, outs}
use Rattle.headline.specs.Tower.{tower}
use Rattle.store_life.specs.Periods.{Period, WereBegunAnew, end_of, opening_of}

-- the client that an effect of this class goes to
abbrev pub client_of_class : Class Parts → List Origin
client_of_class (To o) = o ∷ []
client_of_class (Hand id n line) = []
client_of_class (Rejoin id line) = []
client_of_class Nowhere = []

-- those that effects go to, in order
abbrev pub clients_of : List TowerEffect → List Origin
clients_of [] = []
clients_of (e ∷ es) = client_of_class (class_of e) ++ clients_of es

-- the clients that get something by what happened in a period: answers to requests, lines that are shown, closes
abbrev pub told_in : Period → List Origin
told_in p = clients_of (left_of (tower p.settings) (outs (tower p.settings) p.events (opening_of p)))

-- a client that gets something is of a node of the group, and of a run that this had made by the end
abbrev pub ToldInItsRun : Type 0
ToldInItsRun =
    (p : Period) (k : ℕ) (o : Origin) → slice_get (told_in p) k ≡ Some o → (x : Node TowerBody) × (item (end_of p) o.0 ≡ Some x) × (o.1 ≤ x.boot)

-- over stores that were begun anew, it is of a run after that with which its node's store was begun
abbrev pub ToldInNewRuns : Type 0
ToldInNewRuns =
    (p : Period) (a : WereBegunAnew p) (k : ℕ) (o : Origin) → slice_get (told_in p) k ≡ Some o → item_or a.boots o.0 0 < o.1

-- in one period each node's store begins with a run that is not below the last that the node made in another period
abbrev pub RunsFollow : (p q : Period) → WereBegunAnew q → Type 0
RunsFollow p q a = (i : ℕ) (x : Node TowerBody) → item (end_of p) i ≡ Some x → x.boot ≤ item_or a.boots i 0

-- then no client gets something in both: no answer, and so no report of a request that is done
abbrev pub NobodyToldInBoth : Type 0
NobodyToldInBoth =
    (p q : Period) (a : WereBegunAnew q) → RunsFollow p q a →
    (k l : ℕ) (o : Origin) → slice_get (told_in p) k ≡ Some o → slice_get (told_in q) l ≡ Some o → ⊥

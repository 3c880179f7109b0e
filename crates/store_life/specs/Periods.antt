-- The life of a store: periods, each over what was begun anew from what the one before left.
use Rattle.std.specs.Prelude.{◌≡◌, ◌⊎◌, ◌<◌, ◌≤◌, ℕ, suc, ◌+◌, ◌-◌, Bool, List, [], ◌∷◌, ◌++◌, length, map, Some, slice_get}
use Rattle.irc_line.specs.Lines.{Parts}
use Rattle.machine_laws.specs.Runs as machine
use Rattle.buffer_commands.specs.Settings.{Settings}
use Rattle.bouncer_tower.specs.Bodies.{TowerBody, claimed, outgoing}
use Rattle.raft_log.specs.declared.entry.Entry.{Entry}
use Rattle.raft_log.specs.Lists.{item}
use Rattle.raft_log.specs.Node.{Node}
use Rattle.raft_node.specs.Machine.{history}
use Rattle.agreement.specs.Laws.{IsAsUpToDateAs, IsMajority}
use Rattle.agreement.specs.World.{Begins, start}
use Rattle.world_run.specs.World.{Event, agreed, hands, left_of, outs, run}
use Rattle.world_views.specs.Laws.{AllDiffer}
use Rattle.world_views.specs.Openings.{restarts}
use Rattle.headline.specs.Tower.{tower}
use Rattle.renewal.specs.Lists.{settled, waiting}
use Rattle.store_life.specs.Renewed.{IsAnew, Leaves, entries}

-- A period of a group over its stores: events that leave what the stores held when the nodes were opened, and what happened since.
pub record Period : Type 0 where
  pub settings : Settings
  pub size : ℕ
  pub before : List (Event (tower settings))
  pub events : List (Event (tower settings))
  pub begun : List TowerBody  -- the bodies with which the stores were begun anew, none where they were new
  pub chosen : List (Entry TowerBody)  -- the log at its end that is begun anew

-- the nodes as they were opened, and at the end
abbrev pub opening_of : Period → List (Node TowerBody)
opening_of p = run (tower p.settings) p.before (start p.size)

abbrev pub end_of : Period → List (Node TowerBody)
end_of p = run (tower p.settings) (p.before ++ p.events) (start p.size)

-- the stores were new
pub record WereNew (p : Period) : Type 0 where
  pub none_before : p.before ≡ []
  pub none_begun : p.begun ≡ []

-- the stores were begun anew: before the nodes were opened come events that leave that, and a restart of every node
pub record WereBegunAnew (p : Period) : Type 0 where
  pub boots : List ℕ
  pub term : ℕ
  pub left_by : List (Event (tower p.settings))
  pub sized : p.size ≡ length boots
  pub anew : IsAnew p.settings boots term p.begun
  pub leaves : Leaves p.settings left_by boots term p.begun
  pub restarted : p.before ≡ left_by ++ restarts (tower p.settings) (length boots)

-- The start of a period is one of these. At its end the stores of a majority are whole, and the others may be lost. The
-- log that is chosen is one of some node, at least as up to date as that of each node whose store is whole.
pub record IsPeriod (p : Period) : Type 0 where
  pub opened : WereNew p ⊎ WereBegunAnew p
  pub whole : List Bool  -- the nodes whose stores are whole
  pub enough : IsMajority p.size whole
  pub node : ℕ
  pub last : Node TowerBody
  pub there : item (end_of p) node ≡ Some last
  pub log_is : last.log ≡ p.chosen
  pub best : IsAsUpToDateAs whole (end_of p) p.chosen

-- what was agreed in a period, up to any moment, begins the log that is chosen at its end, whichever minority of the stores is lost
abbrev pub AgreedIsChosen : Type 0
AgreedIsChosen = (p : Period) → IsPeriod p → Begins (agreed (tower p.settings) p.size (p.before ++ p.events)) p.chosen

-- whatever happens over stores that were begun anew, what is agreed begins with that
abbrev pub BegunIsAgreed : Type 0
BegunIsAgreed = (p : Period) (a : WereBegunAnew p) (es : List (Event (tower p.settings))) → Begins (entries a.term p.begun) (agreed (tower p.settings) p.size (p.before ++ es))

-- the lines that what happened in a period handed upstream: number and line
abbrev pub handed_in : Period → List (ℕ × Parts)
handed_in p = hands (tower p.settings) (left_of (tower p.settings) (outs (tower p.settings) p.events (opening_of p)))

-- how many lines are claimed by the bodies with which it began, and by those of the log that is chosen at its end
abbrev pub claimed_before : Period → ℕ
claimed_before p = length (claimed p.settings (machine.run p.begun))

abbrev pub claimed_after : Period → ℕ
claimed_after p = length (claimed p.settings (history p.chosen))

-- What a period hands upstream: lines whose numbers are above those that were claimed when it began, each once, and claimed in the log that
-- is chosen at its end. There each is the outgoing line of its number.
pub record HandsItsLines (p : Period) : Type 0 where
  pub above : (i n : ℕ) (line : Parts) → slice_get (handed_in p) i ≡ Some (n, line) → claimed_before p < n
  pub within : (i n : ℕ) (line : Parts) → slice_get (handed_in p) i ≡ Some (n, line) → n ≤ claimed_after p
  pub outgoing_is : (i n : ℕ) (line : Parts) → slice_get (handed_in p) i ≡ Some (n, line) → slice_get (outgoing p.settings (history p.chosen)) (n - 1) ≡ Some line
  pub differ : AllDiffer (handed_in p)
  pub grows : claimed_before p ≤ claimed_after p

-- each period does this
abbrev pub EachHandsItsLines : Type 0
EachHandsItsLines = (p : Period) → IsPeriod p → HandsItsLines p

-- A period follows another: the lines that wait when it begins are those that wait after the chosen log of the other,
-- settled.
pub record Follows (p q : Period) : Type 0 where
  pub floors : List (ℕ × ℕ)
  pub waits : waiting q.settings (machine.run q.begun) ≡ waiting p.settings (settled floors (history p.chosen))

-- What becomes of the lines of one in the other: those that were numbered keep their numbers in the settled list, which
-- has no more claims; the lines after its claims are those after the claims with which the other begins, one by one.
pub record GoOn (p q : Period) (f : Follows p q) : Type 0 where
  pub claims : claimed p.settings (settled f.floors (history p.chosen)) ≡ claimed p.settings (history p.chosen)
  pub stay : (i : ℕ) (line : Parts) → slice_get (outgoing p.settings (history p.chosen)) i ≡ Some line
      → slice_get (outgoing p.settings (settled f.floors (history p.chosen))) i ≡ Some line
  pub go_on : (k : ℕ) → slice_get (outgoing q.settings (machine.run q.begun)) (claimed_before q + k)
      ≡ slice_get (outgoing p.settings (settled f.floors (history p.chosen))) (claimed_after p + k)

-- this holds if one follows another
abbrev pub WaitingLinesGoOn : Type 0
WaitingLinesGoOn = (p q : Period) (f : Follows p q) → GoOn p q f

-- a life: periods each of which, except the first, follows the one before
abbrev pub IsLife : List Period → Type 0
IsLife [] = Unit {0}
IsLife (p ∷ []) = IsPeriod p
IsLife (p ∷ q ∷ later) = IsPeriod p × Follows p q × IsLife (q ∷ later)

-- The serial of a line in a life, given how many lines were claimed in the periods before: these, and its number less
-- those that were claimed when its period began. A line that waits from one period to the next has one serial in both.
abbrev pub serial : ℕ → Period → ℕ → ℕ
serial base p n = base + (n - claimed_before p)

-- how many lines were claimed up to its end
abbrev pub base_behind : ℕ → Period → ℕ
base_behind base p = base + (claimed_after p - claimed_before p)

abbrev pub SerialsGoOn : Type 0
SerialsGoOn =
    (p q : Period) (base k : ℕ) → IsPeriod p →
    serial (base_behind base p) q (claimed_before q + suc k) ≡ serial base p (claimed_after p + suc k)

-- all lines that were handed upstream in a life, by their serials
abbrev pub handed_over : ℕ → List Period → List (ℕ × Parts)
handed_over base [] = []
handed_over base (p ∷ later) = map (λ l. (serial base p l.0, l.1)) (handed_in p) ++ handed_over (base_behind base p) later

-- no line is handed upstream twice in a life
abbrev pub NoneHandedTwice : Type 0
NoneHandedTwice = (periods : List Period) → IsLife periods → AllDiffer (handed_over 0 periods)

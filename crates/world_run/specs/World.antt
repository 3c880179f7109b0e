-- A group of whole nodes, what may happen to it, and what comes out.
use Rattle.std.specs.Prelude.{◌≡◌, ◌⊎◌, ℕ, suc, Bool, true, false, if◌then◌else◌, List, [], ◌∷◌, ◌++◌, length, map, take, Option, Some, None}
use Rattle.irc_line.specs.Lines.{Parts}
use Rattle.machine_laws.specs.Classes.{handed_by}
use Rattle.raft_log.specs.declared.entry.Entry.{Entry}
use Rattle.raft_log.specs.declared.message.Message.{Message}
use Rattle.raft_log.specs.Lists.{item, with_item}
use Rattle.raft_log.specs.declared.node_state.Live.{Live}
use Rattle.raft_log.specs.Node.{Node, is_leader}
use Rattle.node_steps.specs.declared.refusal.Refusal.{Refusal}
use Rattle.node_steps.specs.Asking.{new_session}
use Rattle.raft_node.specs.Machine.{Machine}
use Rattle.raft_node.specs.Steps.{Out, Missing, Refused, effects_of, Act, Expires, Beats, Hears, Asks, Opens, Closes, HearsLine, Claims, Applies, Looks, Idles, Own, Acts, Restarts, Stops, applied_history, own, turn}
use Rattle.agreement.specs.World.{sent_of, to_of, start}
use Rattle.agreement.specs.Laws.{longer, longest_now}

-- what may happen, by the node to which it does
pub data Input (M : Machine) : Type 0 where
  Timeout : (node : ℕ) → Input M
  Beat : (node : ℕ) → Input M
  Deliver : (sender number : ℕ) → Input M  -- the message of this number among those that the sender sent, to its addressee
  Ask : (node : ℕ) (body : M.Body) → Input M
  Opened : (node : ℕ) → Input M
  Closed : (node : ℕ) → Input M
  Heard : (node at : ℕ) (line : M.Line) → Input M
  Claim : (node : ℕ) → Input M
  Apply : (node : ℕ) → Input M
  Look : (node from_place : ℕ) (target : M.Target) → Input M

-- an input, a restart of a node, or a stop within an input, before or after that is saved; then the node is started again
pub data Event (M : Machine) : Type 0 where
  Does : Input M → Event M
  Restart : (node : ℕ) → Event M
  StopIn : Input M → (after : Bool) → Event M

module _ {A : Type 0} where
  -- how many items pass a test
  abbrev pub count : (A → Bool) → List A → ℕ
  count test [] = 0
  count test (x ∷ xs) = if test x then suc (count test xs) else count test xs

module _ (M : Machine) where
  -- the states of the nodes, node 1's first, and nothing else
  abbrev pub World : Type 0
  World = List (Node M.Body)

  -- the node to which an input happens
  abbrev pub actor : World → Input M → ℕ
  actor w (Timeout i) = i
  actor w (Beat i) = i
  actor w (Deliver j k) = to_of (sent_of (item w j) k)
  actor w (Ask i body) = i
  actor w (Opened i) = i
  actor w (Closed i) = i
  actor w (Heard i at line) = i
  actor w (Claim i) = i
  actor w (Apply i) = i
  actor w (Look i from_place target) = i

  -- a message that was sent is heard
  abbrev pub hears : Option (Message M.Body) → Act M
  hears None = Idles
  hears (Some m) = Hears m

  -- what the node does
  abbrev pub act_of : World → Input M → Act M
  act_of w (Timeout i) = Expires
  act_of w (Beat i) = Beats
  act_of w (Deliver j k) = hears (sent_of (item w j) k)
  act_of w (Ask i body) = Asks body
  act_of w (Opened i) = Opens
  act_of w (Closed i) = Closes
  act_of w (Heard i at line) = HearsLine at line
  act_of w (Claim i) = Claims
  act_of w (Apply i) = Applies
  act_of w (Look i from_place target) = Looks from_place target

  -- the node to which an event happens
  abbrev pub stepper : World → Event M → ℕ
  stepper w (Does x) = actor w x
  stepper w (Restart i) = i
  stepper w (StopIn x after) = actor w x

  -- and what happens to it
  abbrev pub own_of : World → Event M → Own M
  own_of w (Does x) = Acts (act_of w x)
  own_of w (Restart i) = Restarts
  own_of w (StopIn x after) = Stops (act_of w x) after

  -- the world after something happened to a node, if there is one
  abbrev pub world_by : World → ℕ → Own M → Option (Node M.Body) → World
  world_by w i o None = w
  world_by w i o (Some s) = with_item w i (own M (length w) i o s).node

  -- what comes out of it
  abbrev pub out_by : World → ℕ → Own M → Option (Node M.Body) → Out M
  out_by w i o None = Missing
  out_by w i o (Some s) = (own M (length w) i o s).out

  -- the world after an event, in which one node changed; a node or a message that does not exist changes nothing
  abbrev pub happens : World → Event M → World
  happens w e = world_by w (stepper w e) (own_of w e) (item w (stepper w e))

  -- what comes out of an event
  abbrev pub out_of : World → Event M → Out M
  out_of w e = out_by w (stepper w e) (own_of w e) (item w (stepper w e))

  -- the world after these events
  abbrev pub run : List (Event M) → World → World
  run [] w = w
  run (e ∷ es) w = run es (happens w e)

  -- what comes out of each event in turn
  abbrev pub outs : List (Event M) → World → List (Out M)
  outs [] w = []
  outs (e ∷ es) w = out_of w e ∷ outs es (happens w e)

  -- the world after the first k events, of this many nodes that began over new stores
  abbrev pub moment : ℕ → List (Event M) → ℕ → World
  moment size es k = run (take k es) (start size)

  -- what comes out of each event of such a world
  abbrev pub outputs : ℕ → List (Event M) → List (Out M)
  outputs size es = outs es (start size)

  -- the longest committed list of any node from a moment on
  abbrev pub longest_over : List (Event M) → World → List (Entry M.Body)
  longest_over [] w = longest_now w
  longest_over (e ∷ es) w = longer (longest_now w) (longest_over es (happens w e))

  -- the longest committed list of any node at any moment
  abbrev pub agreed : ℕ → List (Event M) → List (Entry M.Body)
  agreed size es = longest_over es (start size)

  -- the effects among what came out
  abbrev pub left_of : List (Out M) → List M.Effect
  left_of [] = []
  left_of (out ∷ more) = effects_of out ++ left_of more

  -- the effects that leave, of all nodes, in order
  abbrev pub left : ℕ → List (Event M) → List M.Effect
  left size es = left_of (outputs size es)

  -- the number and the line of an effect that is handed upstream
  abbrev pub hand_of : M.Effect → List (ℕ × Parts)
  hand_of e = map (λ h. (h.0.0, h.1)) (handed_by (M.class e))

  -- the numbers and lines of these effects that are handed upstream
  abbrev pub hands : List M.Effect → List (ℕ × Parts)
  hands [] = []
  hands (e ∷ es) = hand_of e ++ hands es

  -- the numbers and lines that are handed upstream, by all nodes, in order
  abbrev pub handed : ℕ → List (Event M) → List (ℕ × Parts)
  handed size es = hands (left size es)

  -- an input that is not refused brings this body into the logs, at a node in this state: the body of a request; and at a leader the opening
  -- of its next session, or the end, the next line or the next claim of its live one
  abbrev pub BringsAt : Node M.Body → Input M → M.Body → Type 0
  BringsAt s (Timeout i) body = ⊥
  BringsAt s (Beat i) body = ⊥
  BringsAt s (Deliver j k) body = ⊥
  BringsAt s (Ask i asked) body = body ≡ asked
  BringsAt s (Opened i) body = (is_leader s.role ≡ true) × (s.live ≡ None) × (body ≡ M.opened (new_session s).id)
  BringsAt s (Closed i) body = (is_leader s.role ≡ true) × (live : Live) × (s.live ≡ Some live) × (body ≡ M.shut live.id)
  BringsAt s (Heard i at line) body =
      (is_leader s.role ≡ true) × (live : Live) × (s.live ≡ Some live) × (body ≡ M.heard live.id live.next at line)
  BringsAt s (Claim i) body =
      (is_leader s.role ≡ true) × (live : Live) × (s.live ≡ Some live)
      × (number : ℕ) × (M.next_claim (applied_history M s) ≡ Some number) × (body ≡ M.claim live.id number)
  BringsAt s (Apply i) body = ⊥
  BringsAt s (Look i from_place target) body = ⊥

  -- what comes out is no refusal
  abbrev pub IsAccepted : Out M → Type 0
  IsAccepted out = (refusal : Refusal) → out ≡ Refused refusal → ⊥

  -- An input brings this body into the logs of a world: its node is there, takes the input, and is in a state in which it brings it.
  pub record BringsIn (w : World) (x : Input M) (body : M.Body) : Type 0 where
    pub node : Node M.Body
    pub there : item w (actor w x) ≡ Some node
    pub accepted : IsAccepted (turn M (length w) (actor w x) (act_of w x) node).out
    pub brings : BringsAt node x body

  -- an event does; a stop before its input is saved brings nothing
  abbrev pub Brings : World → Event M → M.Body → Type 0
  Brings w (Does x) body = BringsIn w x body
  Brings w (Restart i) body = ⊥
  Brings w (StopIn x false) body = ⊥
  Brings w (StopIn x true) body = BringsIn w x body

  -- one of these events does, in the world in which it happens
  abbrev pub Brought : List (Event M) → World → M.Body → Type 0
  Brought [] w body = ⊥
  Brought (e ∷ es) w body = Brings w e body ⊎ Brought es (happens w e) body

  -- a restart or a stop, which begins a new run of a node
  abbrev pub begins_run : Event M → Bool
  begins_run (Does x) = false
  begins_run (Restart i) = true
  begins_run (StopIn x after) = true

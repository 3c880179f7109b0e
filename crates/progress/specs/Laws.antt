-- What can always be had by further events of the nodes of a majority.
use Rattle.std.specs.Prelude.{◌≡◌, ◌≤◌, ◌<◌, ℕ, suc, Bool, true, List, [], ◌∷◌, ◌++◌, length, take, Option, None, Some}
use Rattle.machine_laws.specs.declared.class.Source.TheVariants.{Client}
use Rattle.raft_log.specs.declared.entry.Entry.{Entry}
use Rattle.raft_log.specs.declared.node_state.Live.{Live}
use Rattle.raft_log.specs.declared.role.Role.TheVariants.{Leader}
use Rattle.raft_log.specs.Lists.{item}
use Rattle.raft_log.specs.Logs.{entry_limit}
use Rattle.raft_log.specs.Node.{Node}
use Rattle.node_steps.specs.Asking.{may_ask}
use Rattle.raft_node.specs.Machine.{Machine, history}
use Rattle.raft_node.specs.Steps.{Left, leaves, leaving}
use Rattle.agreement.specs.World.{start}
use Rattle.agreement.specs.Laws.{IsIn, IsMajority, IsAsUpToDateAs}
use Rattle.world_run.specs.World.{World, Input, Timeout, Beat, Deliver, Ask, Opened, Closed, Heard, Claim, Apply, Look, Event, Does, Restart, StopIn, stepper, happens, run, out_of}
use Rattle.progress.specs.Plans.{greatest_term, log_of, candidate, peers, elect_events, lead_events, through_events, elect, lead, get_through}
use Rattle.wire_bytes.specs.Limits.{number_limit}

-- the run of a node
abbrev pub boot_of : {B : Type 0} → Option (Node B) → ℕ
boot_of None = 0
boot_of (Some s) = s.boot

module _ (M : Machine) where
  -- what a body brings about at a node that applies it next
  abbrev pub brought_about : Node M.Body → M.Body → List M.Effect
  brought_about s body = M.effects (history (take s.applied s.log)) (suc s.applied) body

  -- a message that is delivered was sent by a node in this set
  abbrev pub IsSentWithin : List Bool → Input M → Type 0
  IsSentWithin set (Timeout i) = Unit {0}
  IsSentWithin set (Beat i) = Unit {0}
  IsSentWithin set (Deliver j k) = IsIn set j
  IsSentWithin set (Ask i body) = Unit {0}
  IsSentWithin set (Opened i) = Unit {0}
  IsSentWithin set (Closed i) = Unit {0}
  IsSentWithin set (Heard i at line) = Unit {0}
  IsSentWithin set (Claim i) = Unit {0}
  IsSentWithin set (Apply i) = Unit {0}
  IsSentWithin set (Look i from_place target) = Unit {0}

  -- and so of an event
  abbrev pub IsHeardWithin : List Bool → Event M → Type 0
  IsHeardWithin set (Does x) = IsSentWithin set x
  IsHeardWithin set (Restart i) = Unit {0}
  IsHeardWithin set (StopIn x after) = IsSentWithin set x

  -- each event happens to a node in this set, and what it hears was sent by one
  abbrev pub AreWithin : List Bool → World M → List (Event M) → Type 0
  AreWithin set w [] = Unit {0}
  AreWithin set w (e ∷ es) =
      IsIn set (stepper M w e) × IsHeardWithin set e × AreWithin set (happens M w e) es

  -- The limits leave room: a term above all terms, and two entries more in each log of the set.
  pub record HasRoom (set : List Bool) (w : World M) : Type 0 where
    pub terms : greatest_term w < number_limit
    pub entries :
        (j : ℕ) (s : Node M.Body) →
        IsIn set j → item w j ≡ Some s → suc (length s.log) < entry_limit

  -- These are at most this many events, all at nodes of the set, of messages from nodes of the set;
  -- no other node changes by them.
  pub record IsBy (set : List Bool) (most : ℕ) (w : World M) (es : List (Event M)) : Type 0 where
    pub within : AreWithin set w es
    pub few : length es ≤ most
    pub others : (i : ℕ) → (IsIn set i → ⊥) → item (run M es w) i ≡ item w i

  -- By these events of the set a node comes to lead in a term above every term before, and each
  -- node of the set is in that term.
  pub record IsElected (set : List Bool) (c : ℕ) (w : World M) (es : List (Event M)) : Type 0 where
    pub by : IsBy set (elect_events (length w) (greatest_term w)) w es
    pub leader : Node M.Body
    pub at : item (run M es w) c ≡ Some leader
    pub leads : leader.role ≡ Leader
    pub joined :
        (j : ℕ) → IsIn set j →
        (t : Node M.Body) × (item (run M es w) j ≡ Some t) × (t.term ≡ suc (greatest_term w))

  -- By these events of the set a node leads in a term that none of the set was above, and each node
  -- of the set is in that term, has the leader's log, and has committed all of it, in the run that
  -- it was in.
  pub record IsSettled (set : List Bool) (c : ℕ) (w : World M) (es : List (Event M)) : Type 0 where
    pub by :
        IsBy set (lead_events (length w) (greatest_term w) (length (log_of (item w c)))) w es
    pub leader : Node M.Body
    pub at : item (run M es w) c ≡ Some leader
    pub leads : leader.role ≡ Leader
    pub above : (j : ℕ) (s : Node M.Body) → IsIn set j → item w j ≡ Some s → s.term ≤ leader.term
    pub settled :
        (j : ℕ) → IsIn set j →
        (t : Node M.Body) × (item (run M es w) j ≡ Some t)
        × (t.term ≡ leader.term) × (t.log ≡ leader.log) × (t.commit ≡ length leader.log)
        × (t.boot ≡ boot_of (item w j))

  -- The last of these events applies this body at this node, in this run of it, right after these
  -- entries, and what the body brings about there leaves: all of it that goes to a client of the
  -- node in that run, or upstream by this session, if any.
  pub record IsAnswered
      (a boot : ℕ) (live : Option Live) (log : List (Entry M.Body)) (body : M.Body) (w : World M)
      (es : List (Event M))
      : Type 0 where
    pub before : List (Event M)
    pub ends : es ≡ before ++ Does (Apply a) ∷ []
    pub node : Node M.Body
    pub at : item (run M before w) a ≡ Some node
    pub boot_is : node.boot ≡ boot
    pub behind_is : node.applied ≡ length log
    pub front : take node.applied node.log ≡ log
    pub entry : Entry M.Body
    pub next : item node.log (suc node.applied) ≡ Some entry
    pub body_is : entry.body ≡ body
    pub comes :
        out_of M (run M before w) (Does (Apply a))
        ≡ Left (suc node.applied) (leaving M a node (brought_about node body))
    pub answers :
        (k : ℕ) (x : M.Effect) →
        item (brought_about node body) k ≡ Some x → leaves a boot live (M.class x) ≡ true →
        (j : ℕ) × (item (leaving M a node (brought_about node body)) j ≡ Some x)

  -- the world in which a body is asked for: one of the set leads, and all that it has is committed
  abbrev pub asking : List Bool → World M → World M
  asking set w = run M (lead M set w) w

  -- By these events of the set a body gets through, in the run in which its node was, right after
  -- all that this had when it was asked for the body.
  pub record IsThrough (set : List Bool) (a : ℕ) (body : M.Body) (w : World M) (es : List (Event M))
      : Type 0 where
    pub by :
        IsBy set
        (through_events (length w) (greatest_term w) (length (log_of (item w (candidate set w)))))
        w es
    pub answered :
        IsAnswered a (boot_of (item w a)) None (log_of (item (asking set w) a)) body w es

  -- the world after these events, of this many nodes that began over new stores
  abbrev pub after : ℕ → List (Event M) → World M
  after size es = run M es (start size)

  -- each node of a majority that does not lead, and whose log is as up to date as that of each of
  -- its nodes, can be elected by it
  abbrev pub CanBeElected : ℕ → List (Event M) → Type 0
  CanBeElected size es =
      (set : List Bool) (c : ℕ) (s : Node M.Body) →
      2 ≤ size → IsMajority size set → IsIn set c → item (after size es) c ≡ Some s →
      IsAsUpToDateAs set (after size es) s.log → (s.role ≡ Leader → ⊥) →
      greatest_term (after size es) < number_limit → length s.log < entry_limit →
      IsElected set c (after size es) (elect M c (peers set c) (after size es))

  -- and there is such a node
  abbrev pub HasCandidate : ℕ → List (Event M) → Type 0
  HasCandidate size es =
      (set : List Bool) → IsMajority size set →
      IsIn set (candidate set (after size es))
      × (s : Node M.Body) × (item (after size es) (candidate set (after size es)) ≡ Some s)
      × IsAsUpToDateAs set (after size es) s.log

  -- a majority can have a leader, and commit all that this has
  abbrev pub CanSettle : ℕ → List (Event M) → Type 0
  CanSettle size es =
      (set : List Bool) → 2 ≤ size → IsMajority size set → HasRoom set (after size es) →
      IsSettled set (candidate set (after size es)) (after size es) (lead M set (after size es))

  -- The node takes this body, in the run that it is in.
  pub record MayAsk (a : ℕ) (body : M.Body) (w : World M) : Type 0 where
    pub takes : (s : Node M.Body) → item w a ≡ Some s → may_ask a s (M.source body) ≡ true

  -- it takes what a client of it asks for in that run
  abbrev pub ClientsMayAsk : Type 0
  ClientsMayAsk =
      (a client : ℕ) (body : M.Body) (w : World M) →
      M.source body ≡ Client (a, boot_of (item w a), client) → MayAsk a body w

  -- whatever happened, any majority brings a body of any node of it through, and answers there
  abbrev pub NothingWedges : ℕ → List (Event M) → Type 0
  NothingWedges size es =
      (set : List Bool) (a : ℕ) (body : M.Body) →
      2 ≤ size → IsMajority size set → IsIn set a →
      HasRoom set (after size es) → MayAsk a body (after size es) →
      IsThrough set a body (after size es) (get_through M set a body (after size es))

  -- the limits leave room in a new group
  abbrev pub NewHasRoom : Type 0
  NewHasRoom = (size : ℕ) (set : List Bool) → HasRoom set (start size)

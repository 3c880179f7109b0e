-- Laws over every list of events, of nodes that host any machine.
use Rattle.std.specs.Prelude.{◌≡◌, ◌⊎◌, ◌≤◌, ◌<◌, ℕ, pred, suc, Bool, true, false, IsTrue, List, ◌++◌, length, take, Some}
use Rattle.machine_laws.specs.Runs.{all_effects}
use Rattle.raft_log.specs.declared.entry.Entry.{Entry}
use Rattle.raft_log.specs.declared.role.Role.TheVariants.{Leader}
use Rattle.raft_log.specs.declared.node_state.Live.{Live}
use Rattle.raft_log.specs.Lists.{item}
use Rattle.raft_log.specs.Logs.{entry_limit, term_at}
use Rattle.raft_log.specs.Node.{Node}
use Rattle.raft_node.specs.Machine.{Machine, history}
use Rattle.node_steps.specs.declared.refusal.Refusal.TheVariants.{BadOrigin}
use Rattle.node_steps.specs.Asking.{may_ask, new_session}
use Rattle.raft_node.specs.Steps.{Out, Left, Looked, Refused, leaving, Act, Stops, turn, own}
use Rattle.raft_node.specs.Sound.{IsSound}
use Rattle.agreement.specs.World.{Begins, committed, start}
use Rattle.agreement.specs.Laws.{IsAsUpToDateAs, IsMajority, LeadsAnew, StopSaves}
use Rattle.world_run.specs.World.{Event, Does, Look, Apply, Ask, Brought, count, stepper, begins_run, moment, outputs, agreed, left}

-- This holds of groups of every size, over every list of events.
abbrev pub OverAll : (M : Machine) → ((M : Machine) → ℕ → List (Event M) → Type 0) → Type 0
OverAll M P = (size : ℕ) (es : List (Event M)) → P M size es

module _ (M : Machine) where
  -- the committed entries of any two nodes at any two moments: one list begins the other
  abbrev pub OneList : ℕ → List (Event M) → Type 0
  OneList size es =
      (j k a b : ℕ) →
      Begins (committed (moment M size es j) a) (committed (moment M size es k) b)
      ⊎ Begins (committed (moment M size es k) b) (committed (moment M size es j) a)

  -- what a node commits, at any moment, begins the agreed list
  abbrev pub InAgreed : ℕ → List (Event M) → Type 0
  InAgreed size es = (k a : ℕ) → Begins (committed (moment M size es k) a) (agreed M size es)

  -- and that is never taken back
  abbrev pub AgreedGrows : ℕ → List (Event M) → Type 0
  AgreedGrows size early = (late : List (Event M)) → Begins (agreed M size early) (agreed M size (early ++ late))

  -- each body in it is blank, or was brought by an event that its node took
  abbrev pub EachBrought : ℕ → List (Event M) → Type 0
  EachBrought size es = (place : ℕ) (e : Entry M.Body) → item (agreed M size es) place ≡ Some e → (e.body ≡ M.blank) ⊎ Brought M es (start size) e.body

  -- a body, not blank, that no event brought so far: each place of it in what is agreed later
  -- is above all that any node has committed, now or at any earlier moment
  abbrev pub LaterIsAbove : ℕ → List (Event M) → Type 0
  LaterIsAbove size early =
      (late : List (Event M)) (b : M.Body) (p : ℕ) (e : Entry M.Body) →
      (b ≡ M.blank → ⊥) → (Brought M early (start size) b → ⊥) →
      item (agreed M size (early ++ late)) p ≡ Some e → e.body ≡ b →
      (k a : ℕ) → length (committed (moment M size early k) a) < p

  -- a node that has committed such a body has committed, below it, all that any node had by then
  abbrev pub ConfirmedHas : ℕ → List (Event M) → Type 0
  ConfirmedHas size early =
      (late : List (Event M)) (b : M.Body) (m c p : ℕ) (e : Entry M.Body) →
      (b ≡ M.blank → ⊥) → (Brought M early (start size) b → ⊥) →
      item (committed (moment M size (early ++ late) m) c) p ≡ Some e → e.body ≡ b →
      (k a : ℕ) → Begins (committed (moment M size early k) a) (take (pred p) (committed (moment M size (early ++ late) m) c))

  -- the same for what it has applied
  abbrev pub AppliedHas : ℕ → List (Event M) → Type 0
  AppliedHas size early =
      (late : List (Event M)) (b : M.Body) (m c p : ℕ) (s : Node M.Body) (e : Entry M.Body) →
      (b ≡ M.blank → ⊥) → (Brought M early (start size) b → ⊥) →
      item (moment M size (early ++ late) m) c ≡ Some s → item (take s.applied s.log) p ≡ Some e → e.body ≡ b →
      (k a : ℕ) → Begins (committed (moment M size early k) a) (take (pred p) (take s.applied s.log))

  -- and a look that is answered at or after that place plays a history that begins with all that any node had by then
  abbrev pub LookHas : ℕ → List (Event M) → Type 0
  LookHas size early =
      (late : List (Event M)) (b : M.Body) (p : ℕ) (e : Entry M.Body) (j i from place : ℕ) (target : M.Target) (lines : List M.Played) →
      (b ≡ M.blank → ⊥) → (Brought M early (start size) b → ⊥) →
      item (agreed M size (early ++ late)) p ≡ Some e → e.body ≡ b → p ≤ place →
      item (early ++ late) j ≡ Some (Does (Look i from target)) → item (outputs M size (early ++ late)) j ≡ Some (Looked place lines) →
      (k a : ℕ) → (lines ≡ M.playback (history (take place (agreed M size (early ++ late)))) target) × Begins (committed (moment M size early k) a) (take place (agreed M size (early ++ late)))

  -- at every moment each node is sound
  abbrev pub EachIsSound : ℕ → List (Event M) → Type 0
  EachIsSound size es =
      (k a : ℕ) (s : Node M.Body) → item (moment M size es k) a ≡ Some s → IsSound size s

  -- a look that is answered at a place plays what follows from the first bodies of the agreed list
  abbrev pub LooksAreFaithful : ℕ → List (Event M) → Type 0
  LooksAreFaithful size es =
      (k i from place : ℕ) (target : M.Target) (lines : List M.Played) →
      item es k ≡ Some (Does (Look i from target)) → item (outputs M size es) k ≡ Some (Looked place lines) →
      (from ≤ place) × (place ≤ length (agreed M size es)) × (lines ≡ M.playback (history (take place (agreed M size es))) target)

  -- what leaves when a place is applied is what the agreed list brings about at that place, as far as it leaves that
  -- node in its run and session
  abbrev pub ApplyIsFaithful : ℕ → List (Event M) → Type 0
  ApplyIsFaithful size es =
      (k i place : ℕ) (effects : List M.Effect) (s : Node M.Body) →
      item es k ≡ Some (Does (Apply i)) → item (moment M size es (pred k)) i ≡ Some s → item (outputs M size es) k ≡ Some (Left place effects) →
      (e : Entry M.Body) × (item (agreed M size es) place ≡ Some e) × (effects ≡ leaving M i s (M.effects (history (take (pred place) (agreed M size es))) place e.body))

  -- over all nodes and all their runs together, no more effects of a kind leave than the agreed list brings about
  abbrev pub NoMoreLeaves : ℕ → List (Event M) → Type 0
  NoMoreLeaves size es =
      (test : M.Effect → Bool) →
      count test (left M size es) ≤ count test (all_effects M.effects (history (agreed M size es)))

  -- no session id is live in two runs of a node, or at two nodes
  abbrev pub SessionsApart : ℕ → List (Event M) → Type 0
  SessionsApart size es =
      (j k a b : ℕ) (s t : Node M.Body) (one other : Live) →
      item (moment M size es j) a ≡ Some s → item (moment M size es k) b ≡ Some t →
      s.live ≡ Some one → t.live ≡ Some other → one.id.0 ≡ other.id.0 → (a ≡ b) × (s.boot ≡ t.boot)

  -- within a run of a node the bodies that it applied stay; a later run has a later boot
  abbrev pub AppliedStays : ℕ → List (Event M) → Type 0
  AppliedStays size es =
      (j k a : ℕ) (s t : Node M.Body) → j ≤ k →
      item (moment M size es j) a ≡ Some s → item (moment M size es k) a ≡ Some t →
      (s.boot ≤ t.boot) × (s.boot ≡ t.boot → (s.applied ≤ t.applied) × (take s.applied t.log ≡ take s.applied s.log))

  -- a term has one leader, at all moments together, and it leads in one run
  abbrev pub OneLeader : ℕ → List (Event M) → Type 0
  OneLeader size es =
      (j k a b : ℕ) (s t : Node M.Body) →
      item (moment M size es j) a ≡ Some s → item (moment M size es k) b ≡ Some t →
      s.role ≡ Leader → t.role ≡ Leader → s.term ≡ t.term → (a ≡ b) × (s.boot ≡ t.boot)

  -- a vote is never changed in its term, restarts included
  abbrev pub OneVote : ℕ → List (Event M) → Type 0
  OneVote size es =
      (j k a c : ℕ) (s t : Node M.Body) → j ≤ k →
      item (moment M size es j) a ≡ Some s → item (moment M size es k) a ≡ Some t →
      s.vote ≡ Some c → s.term ≡ t.term → t.vote ≡ Some c

  -- two logs that agree in term at a place agree up to it
  abbrev pub LogsMatch : ℕ → List (Event M) → Type 0
  LogsMatch size es =
      (j k a b p : ℕ) (s t : Node M.Body) →
      item (moment M size es j) a ≡ Some s → item (moment M size es k) b ≡ Some t →
      p ≤ length s.log → p ≤ length t.log → term_at s.log p ≡ term_at t.log p → take p s.log ≡ take p t.log

  -- what a node commits is in the log of each leader of a later term
  abbrev pub LeadersHold : ℕ → List (Event M) → Type 0
  LeadersHold size es =
      (j k a b : ℕ) (s t : Node M.Body) →
      item (moment M size es j) a ≡ Some s → item (moment M size es k) b ≡ Some t →
      t.role ≡ Leader → s.term < t.term → Begins (take s.commit s.log) t.log

  -- what a node commits, then or earlier, is in the log of a node that is at least as up to date as that of each node
  -- of some majority
  abbrev pub UpToDateHolds : ℕ → List (Event M) → Type 0
  UpToDateHolds size es =
      (j k a b : ℕ) (s t : Node M.Body) (set : List Bool) → j ≤ k →
      item (moment M size es j) a ≡ Some s → item (moment M size es k) b ≡ Some t →
      IsMajority size set → IsAsUpToDateAs set (moment M size es k) t.log → Begins (take s.commit s.log) t.log

  -- an event that begins a new run of a node raises its boot
  abbrev pub NewRunNewBoot : ℕ → List (Event M) → Type 0
  NewRunNewBoot size es =
      (k a : ℕ) (e : Event M) (s t : Node M.Body) →
      item es k ≡ Some e → item (moment M size es (pred k)) a ≡ Some s → item (moment M size es k) a ≡ Some t →
      stepper M (moment M size es (pred k)) e ≡ a → IsTrue (begins_run M e) → t.boot ≡ suc s.boot

  -- the id of a session that is opened was never live before, at any node
  abbrev pub NewIdIsNew : ℕ → List (Event M) → Type 0
  NewIdIsNew size es =
      (j k a b : ℕ) (s t : Node M.Body) (live : Live) → j ≤ k →
      item (moment M size es j) a ≡ Some s → item (moment M size es k) b ≡ Some t →
      s.live ≡ Some live → t.role ≡ Leader → (new_session t).id ≡ live.id → ⊥

  -- whatever makes a node a leader: the blank entry of its term is at the end of its log, and next is the place of that
  abbrev pub LeadsWithBlank : Type 0
  LeadsWithBlank =
      (size i : ℕ) (a : Act M) (s : Node M.Body) → (s.role ≡ Leader → ⊥) → (turn M size i a s).node.role ≡ Leader →
      length s.log < entry_limit → LeadsAnew M.blank size s (turn M size i a s).node

  -- if the log is full it leads without
  abbrev pub FullLeads : Type 0
  FullLeads =
      (size i : ℕ) (a : Act M) (s : Node M.Body) → (s.role ≡ Leader → ⊥) → (turn M size i a s).node.role ≡ Leader →
      entry_limit ≤ length s.log → (turn M size i a s).node.log ≡ s.log

  -- a stop after that step keeps the blank entry, a stop before it nothing of the step
  abbrev pub StopKeepsBlank : Type 0
  StopKeepsBlank =
      (size i : ℕ) (a : Act M) (s : Node M.Body) → (s.role ≡ Leader → ⊥) → (turn M size i a s).node.role ≡ Leader →
      length s.log < entry_limit → StopSaves M.blank s (own M size i (Stops a true) s).node (own M size i (Stops a false) s).node

  -- The nodes agree, over these events.
  pub record IsAgreed (size : ℕ) (es : List (Event M)) : Type 0 where
    pub one_list : OneList size es
    pub in_agreed : InAgreed size es
    pub agreed_grows : AgreedGrows size es
    pub each_brought : EachBrought size es

  -- What leaves over these events follows from the agreed list.
  pub record IsFaithful (size : ℕ) (es : List (Event M)) : Type 0 where
    pub looks : LooksAreFaithful size es
    pub applies : ApplyIsFaithful size es
    pub no_more : NoMoreLeaves size es

  -- Over these events leaders, votes and logs are as in the Raft paper's Figure 3.
  pub record IsRaft (size : ℕ) (es : List (Event M)) : Type 0 where
    pub one_leader : OneLeader size es
    pub one_vote : OneVote size es
    pub logs_match : LogsMatch size es
    pub leaders_hold : LeadersHold size es

  -- a body that a node is asked for belongs to that node, in that run of it, if it belongs to one; else it is refused
  -- as one of another origin
  abbrev pub AskedInItsRun : ℕ → List (Event M) → Type 0
  AskedInItsRun size es =
      (k i : ℕ) (body : M.Body) (s : Node M.Body) (out : Out M) →
      item es k ≡ Some (Does (Ask i body)) → item (moment M size es (pred k)) i ≡ Some s → item (outputs M size es) k ≡ Some out →
      (out ≡ Refused BadOrigin → ⊥) → may_ask i s (M.source body) ≡ true

  -- Over these events runs of a node, their origins and sessions are kept apart.
  pub record RunsAreApart (size : ℕ) (es : List (Event M)) : Type 0 where
    pub boots : NewRunNewBoot size es
    pub origins : AskedInItsRun size es
    pub applied : AppliedStays size es
    pub sessions : SessionsApart size es
    pub new_ids : NewIdIsNew size es

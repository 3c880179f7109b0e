-- Laws over every list of events, whatever the upper layers do: the paper of Raft, Figure 3 and section 5.4.
use Rattle.std.specs.Prelude.{◌≡◌, ◌⊎◌, ◌<◌, ◌≤◌, ℕ, suc, Bool, true, false, List, [], ◌∷◌, ◌++◌, length, take, replicate, Option, None, Some, if◌then◌else◌, nat_lt}
use Rattle.raft_log.specs.declared.entry.Entry.{Entry}
use Rattle.raft_log.specs.declared.role.Role.TheVariants.{Follower, Leader}
use Rattle.raft_log.specs.Lists.{item, item_or}
use Rattle.raft_log.specs.Logs.{entry_limit, last_term, term_at, up_to_date}
use Rattle.raft_log.specs.Node.{Node}
use Rattle.raft_log.specs.Votes.{majority}
use Rattle.agreement.specs.World.{Act, Stops, acted, own, Input, Timeout, Beat, Deliver, Ask, Lift, Idle, Event, Does, Restart, StopIn, happens, run, start, committed, Begins}

module _ {B : Type 0} where
  -- the world after the first k events
  abbrev pub moment : B → ℕ → List (Event B) → ℕ → List (Node B)
  moment blank size es k = run blank (take k es) (start size)

  -- the longer of two lists
  abbrev pub longer : List (Entry B) → List (Entry B) → List (Entry B)
  longer xs ys = if nat_lt (length xs) (length ys) then ys else xs

  -- the longest committed list of any node
  abbrev pub longest_now : List (Node B) → List (Entry B)
  longest_now [] = []
  longest_now (s ∷ w) = longer (take s.commit s.log) (longest_now w)

  -- and at any moment
  abbrev pub longest_over : B → List (Event B) → List (Node B) → List (Entry B)
  longest_over blank [] w = longest_now w
  longest_over blank (e ∷ es) w = longer (longest_now w) (longest_over blank es (happens blank w e))

  -- the longest committed list of any node at any moment of these events
  abbrev pub agreed : B → ℕ → List (Event B) → List (Entry B)
  agreed blank size es = longest_over blank es (start size)

-- for the committed entries of any two nodes at any two moments one list begins the other
abbrev pub OneList : (B : Type 0) → B → Type 0
OneList B blank =
    (size : ℕ) (es : List (Event B)) (j k a b : ℕ) →
    Begins (committed (moment blank size es j) a) (committed (moment blank size es k) b)
    ⊎ Begins (committed (moment blank size es k) b) (committed (moment blank size es j) a)

-- what a node commits at any moment begins the agreed list
abbrev pub InAgreed : (B : Type 0) → B → Type 0
InAgreed B blank = (size : ℕ) (es : List (Event B)) (k a : ℕ) → Begins (committed (moment blank size es k) a) (agreed blank size es)

-- and that is never taken back
abbrev pub AgreedGrows : (B : Type 0) → B → Type 0
AgreedGrows B blank = (size : ℕ) (early late : List (Event B)) → Begins (agreed blank size early) (agreed blank size (early ++ late))

-- one node leads in a term, at all moments together
abbrev pub OneLeader : (B : Type 0) → B → Type 0
OneLeader B blank =
    (size : ℕ) (es : List (Event B)) (j k a b : ℕ) (s t : Node B) →
    item (moment blank size es j) a ≡ Some s → item (moment blank size es k) b ≡ Some t →
    s.role ≡ Leader → t.role ≡ Leader → s.term ≡ t.term → a ≡ b

-- and it leads in one run
abbrev pub OneRun : (B : Type 0) → B → Type 0
OneRun B blank =
    (size : ℕ) (es : List (Event B)) (j k a b : ℕ) (s t : Node B) →
    item (moment blank size es j) a ≡ Some s → item (moment blank size es k) b ≡ Some t →
    s.role ≡ Leader → t.role ≡ Leader → s.term ≡ t.term → s.boot ≡ t.boot

-- a vote is never changed in its term, restarts included
abbrev pub OneVote : (B : Type 0) → B → Type 0
OneVote B blank =
    (size : ℕ) (es : List (Event B)) (j k a c : ℕ) (s t : Node B) → j ≤ k →
    item (moment blank size es j) a ≡ Some s → item (moment blank size es k) a ≡ Some t →
    s.vote ≡ Some c → s.term ≡ t.term → t.vote ≡ Some c

-- two logs that agree in term at a place agree up to it
abbrev pub LogsMatch : (B : Type 0) → B → Type 0
LogsMatch B blank =
    (size : ℕ) (es : List (Event B)) (j k a b p : ℕ) (s t : Node B) →
    item (moment blank size es j) a ≡ Some s → item (moment blank size es k) b ≡ Some t →
    p ≤ length s.log → p ≤ length t.log → term_at s.log p ≡ term_at t.log p → take p s.log ≡ take p t.log

-- what a node commits is in the log of each leader of a later term, whenever that leads
abbrev pub LeadersHold : (B : Type 0) → B → Type 0
LeadersHold B blank =
    (size : ℕ) (es : List (Event B)) (j k a b : ℕ) (s t : Node B) →
    item (moment blank size es j) a ≡ Some s → item (moment blank size es k) b ≡ Some t →
    t.role ≡ Leader → s.term < t.term → Begins (take s.commit s.log) t.log

-- a node is in a set, which has a flag for each node, node 1's first
abbrev pub IsIn : List Bool → ℕ → Type 0
IsIn set node = item_or set node false ≡ true

-- more than half of the nodes of a group of this size are in this set
abbrev pub IsMajority : ℕ → List Bool → Type 0
IsMajority size set = (length set ≡ size) × (majority size set ≡ true)

-- a log is at least as up to date as that of each node in this set (section 5.4.1): it ends in a later term, or in the same and is no shorter
abbrev pub IsAsUpToDateAs : {B : Type 0} → List Bool → List (Node B) → List (Entry B) → Type 0
IsAsUpToDateAs {B} set w log =
    (c : ℕ) (u : Node B) → IsIn set c → item w c ≡ Some u →
    up_to_date (last_term log) (length log) (last_term u.log) (length u.log) ≡ true

-- what a node commits, then or earlier, is in the log of a node that is at least as up to date as that of each node of
-- some majority
abbrev pub UpToDateHolds : (B : Type 0) → B → Type 0
UpToDateHolds B blank =
    (size : ℕ) (es : List (Event B)) (j k a b : ℕ) (s t : Node B) (set : List Bool) → j ≤ k →
    item (moment blank size es j) a ≡ Some s → item (moment blank size es k) b ≡ Some t →
    IsMajority size set → IsAsUpToDateAs set (moment blank size es k) t.log → Begins (take s.commit s.log) t.log

module _ {B : Type 0} where
  -- the body, if any, as a list
  abbrev pub those : Option B → List B
  those None = []
  those (Some body) = body ∷ []

  -- the bodies that an input brings
  abbrev pub brings_in : Input B → List B
  brings_in (Timeout i) = []
  brings_in (Beat i) = []
  brings_in (Deliver j k) = []
  brings_in (Ask i body) = body ∷ []
  brings_in (Lift i applied live attempts adds) = those adds
  brings_in (Idle i) = []

  -- the bodies that an event brings
  abbrev pub brings : Event B → List B
  brings (Does x) = brings_in x
  brings (Restart i) = []
  brings (StopIn x after) = brings_in x

  -- the bodies that these events bring
  abbrev pub brought : List (Event B) → List B
  brought [] = []
  brought (e ∷ es) = brings e ++ brought es

  -- a body is in a list
  abbrev pub IsAmong : B → List B → Type 0
  IsAmong b [] = ⊥
  IsAmong b (c ∷ bodies) = (b ≡ c) ⊎ IsAmong b bodies

  -- the body of each entry is in a list
  abbrev pub EachIn : List B → List (Entry B) → Type 0
  EachIn bodies [] = Unit {0}
  EachIn bodies (e ∷ es) = IsAmong e.body bodies × EachIn bodies es

-- each body that is agreed is blank, or was brought by an event
abbrev pub AllBrought : (B : Type 0) → B → Type 0
AllBrought B blank = (size : ℕ) (es : List (Event B)) → EachIn (blank ∷ brought es) (agreed blank size es)

module _ {B : Type 0} where
  -- a node that becomes a leader has a blank entry of its term at the end of its log, and the place of that as each
  -- next place
  pub record LeadsAnew (blank : B) (size : ℕ) (s led : Node B) : Type 0 where
    pub term_is : led.term ≡ s.term
    pub log_is : led.log ≡ s.log ++ record { term = s.term; body = blank } ∷ []
    pub next_is : led.next ≡ replicate size (suc (length s.log))
    pub matched_is : led.matched ≡ replicate size 0

  -- a stop after that step keeps the blank entry, one before it nothing of the step
  pub record StopSaves (blank : B) (s after before : Node B) : Type 0 where
    pub role_is : after.role ≡ Follower
    pub log_is : after.log ≡ s.log ++ record { term = s.term; body = blank } ∷ []
    pub log_before : before.log ≡ s.log
    pub term_before : before.term ≡ s.term

-- so does each act that makes a node a leader, if its log is not full
abbrev pub LeadsWithBlank : (B : Type 0) → B → Type 0
LeadsWithBlank B blank =
    (size i : ℕ) (a : Act B) (s : Node B) → (s.role ≡ Leader → ⊥) → (acted blank size i a s).role ≡ Leader →
    length s.log < entry_limit → LeadsAnew blank size s (acted blank size i a s)

-- if it is full the node leads without
abbrev pub FullLeads : (B : Type 0) → B → Type 0
FullLeads B blank =
    (size i : ℕ) (a : Act B) (s : Node B) → (s.role ≡ Leader → ⊥) → (acted blank size i a s).role ≡ Leader →
    entry_limit ≤ length s.log → (acted blank size i a s).log ≡ s.log

-- and a stop in such an act saves as much
abbrev pub StopKeepsBlank : (B : Type 0) → B → Type 0
StopKeepsBlank B blank =
    (size i : ℕ) (a : Act B) (s : Node B) → (s.role ≡ Leader → ⊥) → (acted blank size i a s).role ≡ Leader →
    length s.log < entry_limit → StopSaves blank s (own blank size i (Stops a true) s) (own blank size i (Stops a false) s)

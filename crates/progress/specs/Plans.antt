-- Further events of a group, given by the states of its nodes.
use Rattle.std.specs.Prelude.{ℕ, zero, suc, pred, ◌+◌, ◌-◌, ◌*◌, ◌==◌, Bool, true, false, List, [], ◌∷◌, ◌++◌, length, max, replicate, Option, None, Some, is_some, nat_lt, if◌then◌else◌}
use Rattle.raft_log.specs.declared.entry.Entry.{Entry}
use Rattle.raft_log.specs.Lists.{item, without}
use Rattle.raft_log.specs.Logs.{last_term, up_to_date}
use Rattle.raft_log.specs.Node.{Node, is_leader}
use Rattle.raft_node.specs.Machine.{Machine}
use Rattle.world_run.specs.World.{World, Input, Event, Does, Timeout, Beat, Deliver, Ask, Opened, Closed, Claim, Apply, run}

-- the position of a node among the nodes other than this one, from 1 on
abbrev pub place_among : ℕ → ℕ → ℕ
place_among c j = if nat_lt c j then pred j else j

-- the nodes in a set, the first of which has this number
abbrev pub members_from : ℕ → List Bool → List ℕ
members_from a [] = []
members_from a (true ∷ set) = a ∷ members_from (suc a) set
members_from a (false ∷ set) = members_from (suc a) set

-- the nodes in a set
abbrev pub members : List Bool → List ℕ
members set = members_from 1 set

-- and those without this one
abbrev pub peers : List Bool → ℕ → List ℕ
peers set c = without c (members set)

module _ {B : Type 0} where
  -- how many messages a node sent
  abbrev pub count_sent : Option (Node B) → ℕ
  count_sent None = 0
  count_sent (Some s) = length s.sent

  -- its log
  abbrev pub log_of : Option (Node B) → List (Entry B)
  log_of None = []
  log_of (Some s) = s.log

  -- its term
  abbrev pub term_of : Option (Node B) → ℕ
  term_of None = 0
  term_of (Some s) = s.term

  -- how many entries it has committed and not applied
  abbrev pub unapplied : Option (Node B) → ℕ
  unapplied None = 0
  unapplied (Some s) = s.commit - s.applied

  -- how many sessions it opened in its run
  abbrev pub attempts_of : Option (Node B) → ℕ
  attempts_of None = 0
  attempts_of (Some s) = s.attempts

  -- whether a session is live at it
  abbrev pub has_session : Option (Node B) → Bool
  has_session None = false
  has_session (Some s) = is_some s.live

  -- whether it leads
  abbrev pub does_lead : Option (Node B) → Bool
  does_lead None = false
  does_lead (Some s) = is_leader s.role

  -- the first of these nodes whose term is above this one's
  abbrev pub ahead : List (Node B) → ℕ → List ℕ → Option ℕ
  ahead w t [] = None
  ahead w t (j ∷ js) = if nat_lt t (term_of (item w j)) then Some j else ahead w t js

  -- the greatest term of any node
  abbrev pub greatest_term : List (Node B) → ℕ
  greatest_term [] = 0
  greatest_term (s ∷ w) = max s.term (greatest_term w)

  -- a log is at least as up to date as another (section 5.4.1)
  abbrev pub is_as_good : List (Entry B) → List (Entry B) → Bool
  is_as_good log other = up_to_date (last_term log) (length log) (last_term other) (length other)

  -- the node with the most up-to-date log, among this node and these
  abbrev pub best_of : List (Node B) → ℕ → List ℕ → ℕ
  best_of w i [] = i
  best_of w i (j ∷ js) =
      best_of w (if is_as_good (log_of (item w i)) (log_of (item w j)) then i else j) js

  -- and of these alone
  abbrev pub best_among : List (Node B) → List ℕ → ℕ
  best_among w [] = 0
  best_among w (j ∷ js) = best_of w j js

  -- the node of a set whose log is the most up to date
  abbrev pub candidate : List Bool → List (Node B) → ℕ
  candidate set w = best_among w (members set)

-- at most this many events elect a node of a group of this size, if this is the greatest term
abbrev pub elect_events : ℕ → ℕ → ℕ
elect_events size term = suc term + 2 * size

-- all of a log with this many entries is committed
abbrev pub settle_events : ℕ → ℕ → ℕ
settle_events size entries = size * (3 * suc (entries + entries)) + (3 + 3 * size)

-- both, when the log has one more entry, of the new term
abbrev pub lead_events : ℕ → ℕ → ℕ → ℕ
lead_events size term entries = 3 + elect_events size term + settle_events size (suc entries)

-- one more body is taken, committed and applied
abbrev pub bring_events : ℕ → ℕ → ℕ
bring_events size entries = 2 + settle_events size (suc entries) + suc entries

-- all of it
abbrev pub through_events : ℕ → ℕ → ℕ → ℕ
through_events size term entries = lead_events size term entries + bring_events size (suc entries)

-- the leader's log is settled, and a node applies all of it
abbrev pub play_events : ℕ → ℕ → ℕ → ℕ
play_events size term entries = lead_events size term entries + suc entries

-- a leader comes to have no session
abbrev pub ready_events : ℕ → ℕ → ℕ → ℕ
ready_events size term entries = lead_events size term entries + bring_events size entries

-- it opens a new one, which is settled and applied
abbrev pub open_events : ℕ → ℕ → ℕ → ℕ
open_events size term entries = ready_events size term entries + bring_events size (suc entries)

-- and claims a line
abbrev pub claim_events : ℕ → ℕ → ℕ → ℕ
claim_events size term entries =
    open_events size term entries + bring_events size (suc (suc entries))

module _ (M : Machine) where
  -- a list of further events, by the world
  abbrev pub Plan : Type 0
  Plan = World M → List (Event M)

  abbrev pub nothing : Plan
  nothing w = []

  -- one plan, and another from where it leads
  abbrev pub and_then : Plan → Plan → Plan
  and_then p q w = p w ++ q (run M (p w) w)

  -- a plan again and again
  abbrev pub times : ℕ → Plan → Plan
  times zero p = nothing
  times (suc k) p = and_then p (times k p)

  -- a plan for each of these nodes in turn
  abbrev pub for_each : (ℕ → Plan) → List ℕ → Plan
  for_each f [] = nothing
  for_each f (j ∷ js) = and_then (f j) (for_each f js)

  -- what a node sent to another one, after this many messages, is delivered, and what that answers
  abbrev pub answered : ℕ → ℕ → ℕ → Plan
  answered c base j w =
      Does (Deliver c (base + place_among c j))
      ∷ Does (Deliver j (suc (count_sent (item w j))))
      ∷ []

  -- a node that does not lead waits for a leader until its term is the greatest
  abbrev pub rise : ℕ → Plan
  rise c w = replicate (greatest_term w - term_of (item w c)) (Does (Timeout c))

  -- it asks these nodes for their votes, and they answer
  abbrev pub canvass : ℕ → List ℕ → Plan
  canvass c js w =
      and_then (λ v. Does (Timeout c) ∷ []) (for_each (answered c (count_sent (item w c))) js) w

  -- a node is elected by these
  abbrev pub elect : ℕ → List ℕ → Plan
  elect c js = and_then (rise c) (canvass c js)

  -- a leader sends once, and one node answers
  abbrev pub exchange : ℕ → ℕ → Plan
  exchange c j w = Does (Beat c) ∷ answered c (count_sent (item w c)) j w

  -- a leader hears from this node, if any, that its term is over, and is elected again
  abbrev pub elect_behind : ℕ → List ℕ → Option ℕ → Plan
  elect_behind c js None = nothing
  elect_behind c js (Some j) = and_then (exchange c j) (elect c js)

  -- a node comes to lead these, or does already: then none of them is ahead of it
  abbrev pub take_lead : ℕ → List ℕ → Plan
  take_lead c js w =
      if does_lead (item w c)
      then elect_behind c js (ahead w (term_of (item w c)) js) w
      else elect c js w

  -- how often a leader and a node exchange messages until the node has the leader's log: one entry
  -- back each time, then forward
  abbrev pub rounds : ℕ → World M → ℕ
  rounds c w = suc (length (log_of (item w c)) + length (log_of (item w c)))

  -- each of these nodes takes the leader's log
  abbrev pub catch_up : ℕ → List ℕ → Plan
  catch_up c js w = for_each (λ j. times (rounds c w) (exchange c j)) js w

  -- the leader learns of it, and then each of them what is committed
  abbrev pub confirm : ℕ → List ℕ → Plan
  confirm c [] = nothing
  confirm c (j ∷ js) = and_then (exchange c j) (for_each (exchange c) (j ∷ js))

  -- all that a leader has is committed by these
  abbrev pub settle : ℕ → List ℕ → Plan
  settle c js = and_then (catch_up c js) (confirm c js)

  -- a node is asked for a body; one that follows sends it to the leader, to whom that is delivered
  abbrev pub ask_through : ℕ → ℕ → M.Body → Plan
  ask_through c a body w =
      if a == c
      then Does (Ask a body) ∷ []
      else Does (Ask a body) ∷ Does (Deliver a (suc (count_sent (item w a)))) ∷ []

  -- a node applies all that it has committed
  abbrev pub apply_all : ℕ → Plan
  apply_all a w = replicate (unapplied (item w a)) (Does (Apply a))

  -- the node of a set whose log is the most up to date comes to lead the others, and all that it
  -- has is committed by them
  abbrev pub lead : List Bool → Plan
  lead set w =
      let c : ℕ = candidate set w in
      and_then (take_lead c (peers set c)) (settle c (peers set c)) w

  -- from there a body is asked for at a node of the set, is committed by all of it, and is applied
  -- at that node
  abbrev pub bring : List Bool → ℕ → ℕ → M.Body → Plan
  bring set c a body =
      and_then (ask_through c a body) (and_then (settle c (peers set c)) (apply_all a))

  -- both: whatever happened before, a body gets through
  abbrev pub get_through : List Bool → ℕ → M.Body → Plan
  get_through set a body w = and_then (lead set) (bring set (candidate set w) a body) w

  -- a node of the set has all of the settled log applied
  abbrev pub play : List Bool → ℕ → Plan
  play set a = and_then (lead set) (apply_all a)

  -- a leader does this, all that it then has is committed by the set, and it applies it
  abbrev pub lead_on : List Bool → ℕ → Input M → Plan
  lead_on set c x =
      and_then (λ w. Does x ∷ []) (and_then (settle c (peers set c)) (apply_all c))

  -- a leader shuts its session, if it has one
  abbrev pub shut_session : List Bool → ℕ → Plan
  shut_session set c w = if has_session (item w c) then lead_on set c (Closed c) w else nothing w

  -- a node comes to lead the set, with no session
  abbrev pub get_ready : List Bool → Plan
  get_ready set w = and_then (lead set) (shut_session set (candidate set w)) w

  -- it opens a new session
  abbrev pub open_session : List Bool → Plan
  open_session set w =
      let c : ℕ = candidate set w in and_then (get_ready set) (lead_on set c (Opened c)) w

  -- and claims the line that waits
  abbrev pub claim_line : List Bool → Plan
  claim_line set w =
      let c : ℕ = candidate set w in and_then (open_session set) (lead_on set c (Claim c)) w

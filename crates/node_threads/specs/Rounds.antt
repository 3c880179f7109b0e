-- What a round of a worker gathers.
use Rattle.std.specs.Prelude.{◌≡◌, ℕ, Bool, true, false, nat_le, nat_lt, not, ◌&&◌, ◌||◌, List, [], ◌∷◌, ◌++◌, replicate, filter, Option, Some, None, Result, Ok, Err}
use Rattle.machine_laws.specs.declared.class.Class.{Class}
use Rattle.machine_laws.specs.declared.class.Class.TheVariants.{To, Hand, Rejoin, Nowhere}
use Rattle.raft_log.specs.declared.message.Kind.{Kind}
use Rattle.raft_log.specs.declared.message.Kind.TheVariants.{RequestVote, Vote, Append, AppendReply, Forward}
use Rattle.raft_log.specs.declared.message.Message.{Message}
use Rattle.raft_log.specs.Lists.{with_item}
use Rattle.node_steps.specs.declared.refusal.Refusal.{Refusal}
use Rattle.raft_node.specs.declared.node_fault.NodeFault.{NodeFault}
use Rattle.raft_node.specs.declared.node_fault.NodeFault.TheVariants.{Refused}
use Rattle.node_cells.specs.declared.cell_fault.CellFault.{CellFault}
use Rattle.node_cells.specs.declared.record.TurnOutput.{TurnOutput}
use Rattle.node_cells.specs.declared.mark_turn.MarkTurn.{MarkTurn}
use Rattle.node_threads.specs.declared.worker_loop.round.Round.{Round}
use Rattle.node_threads.specs.Forwarding.{forwarded_after}
use Rattle.node_threads.specs.Reports.{told_fault}
use Rattle.node_threads.specs.Requests.{Queue, settled}
use Rattle.node_threads.specs.Waiting.{AreBack}

-- whether an effect of this class is handed out upstream
abbrev pub is_handed : {L : Type 0} → Class L → Bool
is_handed (To origin) = false
is_handed (Hand id number line) = true
is_handed (Rejoin id line) = false
is_handed Nowhere = false

-- the effects of a turn that a report gives, in order: all but what is handed out upstream, since its upstream has got
-- that
abbrev pub reported : {E L : Type 0} → (E → Class L) → List E → List E
reported class effects = filter (λ e. not (is_handed (class e))) effects

-- all effects that are still to be reported, in order
abbrev pub leaving : {E : Type 0} → Round E → List E
leaving r = r.effects.items ++ r.further.items

-- the first fault stays
abbrev pub first_fault : Option NodeFault → NodeFault → NodeFault
first_fault None fault = fault
first_fault (Some first) fault = first

-- no node is to look into its mailboxes
abbrev pub none_woken : List Bool
none_woken = replicate 7 false

-- these nodes are to look into their mailboxes, too
abbrev pub woken_by : List Bool → List ℕ → List Bool
woken_by woken [] = woken
woken_by woken (node ∷ nodes) = woken_by (with_item woken node true) nodes

-- one more fault, of which the first stays
abbrev pub with_fault : {E : Type 0} → NodeFault → Round E → Round E
with_fault fault r = record r { fault = Some (first_fault r.fault fault) }

module _ {E : Type 0} where
  -- each refusal among these answers is a fault, in order
  abbrev pub with_refusals : List (Result (Unit {0}) Refusal) → Round E → Round E
  with_refusals [] r = r
  with_refusals (Ok done ∷ answers) r = with_refusals answers r
  with_refusals (Err refusal ∷ answers) r = with_refusals answers (with_fault (Refused refusal) r)

  -- the refusals of inputs that were processed together are kept, and if nothing was done, why
  abbrev pub GathersAnswers : Result (List (Result (Unit {0}) Refusal)) CellFault → Round E → Round E → Type 0
  GathersAnswers (Ok answers) old new = new ≡ with_refusals answers old
  GathersAnswers (Err fault) old new = new ≡ with_fault (told_fault fault) old

module _ {B E L : Type 0} (class : E → Class L) (term : ℕ) (leader : Option ℕ) where
  -- The result of a turn is gathered, after which the node is in this term and knows this leader: the effects to
  -- report, who is to look into its mailboxes, whether a request was last posted, which the turn was or not, and which
  -- requests come back.
  pub record Gathers (is_request : Bool) (output : TurnOutput B E) (old : Round E) (forwarded : Option ℕ) (requests : Queue B) (new : Round E) (now_forwarded : Option ℕ)
      (now_requests : Queue B) : Type 0 where
    pub leaves : old.further.items ≡ [] → leaving new ≡ leaving old ++ reported class output.effects.items
    pub wakes : new.woken ≡ woken_by old.woken output.posted_to.items
    pub posts : now_forwarded ≡ forwarded_after is_request output.posted_to.items forwarded
    pub returns : AreBack term leader output.replaced.items requests now_requests
    pub fault : new.fault ≡ old.fault

  -- the first such fault is kept of a turn that gave nothing
  abbrev pub GathersTurn : Bool → Result (TurnOutput B E) CellFault → Round E → Option ℕ → Queue B → Round E → Option ℕ → Queue B → Type 0
  GathersTurn is_request (Ok output) old forwarded requests new now_forwarded now_requests = Gathers is_request output old forwarded requests new now_forwarded now_requests
  GathersTurn is_request (Err fault) old forwarded requests new now_forwarded now_requests =
      (new ≡ record old { fault = Some (first_fault old.fault (told_fault fault)) }) × (now_forwarded ≡ forwarded) × (now_requests ≡ requests)

  -- The result of a mark is gathered, and no request that was asked before it comes back any more. A mark that was not
  -- asked gives nothing.
  abbrev pub GathersMark : Result (MarkTurn B E) CellFault → Round E → Option ℕ → Queue B → Round E → Option ℕ → Queue B → Type 0
  GathersMark (Ok asked) old forwarded requests new now_forwarded now_requests =
      (back : Queue B) × Gathers true asked.output old forwarded requests new now_forwarded back × (now_requests ≡ settled back)
  GathersMark (Err fault) old forwarded requests new now_forwarded now_requests = (new ≡ old) × (now_forwarded ≡ forwarded) × (now_requests ≡ requests)

module _ {B : Type 0} where
  abbrev pub is_append : Kind B → Bool
  is_append (RequestVote last_index last_term) = false
  is_append (Vote granted) = false
  is_append (Append batch) = true
  is_append (AppendReply ok place) = false
  is_append (Forward body) = false

  -- a message of the leader of this term, or of a later one
  abbrev pub is_led : Message B → ℕ → Bool
  is_led m term = is_append m.kind && nat_le term m.term

  -- an answer that says that a log does not reach this place
  abbrev pub lags : Kind B → ℕ → Bool
  lags (RequestVote last_index last_term) last = false
  lags (Vote granted) last = false
  lags (Append batch) last = false
  lags (AppendReply ok place) last = not ok || nat_lt place last
  lags (Forward body) last = false

  -- the node whose answer a message is, if it is one
  abbrev pub answerer : Kind B → ℕ → List ℕ
  answerer (AppendReply ok place) from = from ∷ []
  answerer kind from = []

  -- an answer of this term that says so
  abbrev pub is_behind : Message B → ℕ → ℕ → Bool
  is_behind m term last = (nat_le term m.term && nat_le m.term term) && lags m.kind last

-- What is known of the past besides the world, and what holds for both at each moment.
use Rattle.std.proofs.Common.{◌≡◌, ℕ, suc, ◌<◌, ◌≤◌, Bool, true, false, List, [], ◌∷◌, ◌++◌, ◌⊎◌, Option, Some, None, length, take}
use Rattle.raft_log.specs.declared.entry.Entry.{Entry}
use Rattle.raft_log.specs.declared.message.Kind.{Kind}
use Rattle.raft_log.specs.declared.message.Kind.TheVariants.{RequestVote, Vote, Append, AppendReply, Forward}
use Rattle.raft_log.specs.declared.message.Message.{Message}
use Rattle.raft_log.specs.declared.role.Role.{Role}
use Rattle.raft_log.specs.declared.role.Role.TheVariants.{Follower, Candidate, Leader}
use Rattle.raft_log.specs.Node.{Node}
use Rattle.raft_log.specs.Logs.{last_term}
use Rattle.raft_log.specs.Votes.{majority}
use Rattle.raft_log.specs.Lists.{item, item_or}
use Rattle.agreement.specs.World.{Begins}
use Rattle.agreement.specs.Laws.{IsIn}

pub record Ghost (B : Type 0) : Type 0 where
  pub ballot : ℕ → ℕ → Option ℕ  -- node, term: for whom it voted
  pub owner : ℕ → Option ℕ  -- term: who was elected
  pub boots : ℕ → ℕ  -- term: in which run of that node
  pub won : ℕ → List Bool  -- term: whose votes elected it
  pub runs : ℕ → ℕ → List (Entry B)  -- term, candidate: its log when it began
  pub ledger : ℕ → List (Entry B)  -- term: the log of its leader, as far as it came
  pub acked : ℕ → ℕ → ℕ  -- node, term: how many entries of that ledger it acknowledged
  pub agreed : List (Entry B)

module _ {B : Type 0} where
  -- each beginning of the log begins the ledger of its last term, which is at most x
  pub record Sound (ledger : ℕ → List (Entry B)) (x : ℕ) (log : List (Entry B)) : Type 0 where
    pub rooted : (q : List (Entry B)) → Begins q log → Begins q (ledger (last_term q))
    pub upto : (q : List (Entry B)) → Begins q log → last_term q ≤ x

  -- each node that was elected after t and before x began with p
  pub record Carried (g : Ghost B) (t x : ℕ) (p : List (Entry B)) : Type 0 where
    pub by : (u d : ℕ) → t < u → u < x → g.owner u ≡ Some d → Begins p (g.runs u d)

  -- a vote of v for c in term x: what v had acknowledged before, c began with
  pub record Fact (g : Ghost B) (v x c : ℕ) : Type 0 where
    pub holds : (t : ℕ) (p : List (Entry B)) → t < x → Begins p (g.ledger t) → last_term p ≡ t → length p ≤ g.acked v t → Carried g t x p → Begins p (g.runs x c)

  -- a majority acknowledged p in the term of its last entry
  pub record Chosen (n : ℕ) (g : Ghost B) (p : List (Entry B)) : Type 0 where
    pub term : ℕ
    pub of_ledger : Begins p (g.ledger term)
    pub ends : last_term p ≡ term
    pub who : List Bool
    pub who_length : length who ≡ n
    pub who_majority : majority n who ≡ true
    pub who_acked : (v : ℕ) → IsIn who v → length p ≤ g.acked v term

  -- and p begins a list that was chosen in a term up to x
  pub record Settled (n : ℕ) (g : Ghost B) (x : ℕ) (p : List (Entry B)) : Type 0 where
    pub whole : List (Entry B)
    pub chosen : Chosen n g whole
    pub low : chosen.term ≤ x
    pub front : Begins p whole

  abbrev pub Held : ℕ → Ghost B → ℕ → List (Entry B) → Type 0
  Held n g x p = (p ≡ []) ⊎ Settled n g x p

  pub record GhostOk (n : ℕ) (g : Ghost B) : Type 0 where
    pub self_votes : (v t c : ℕ) → g.ballot v t ≡ Some c → g.ballot c t ≡ Some c
    pub owner_voted : (t c : ℕ) → g.owner t ≡ Some c → g.ballot c t ≡ Some c
    pub owner_began : (t c : ℕ) → g.owner t ≡ Some c → Begins (g.runs t c) (g.ledger t)
    pub unowned : (t : ℕ) → g.owner t ≡ None → g.ledger t ≡ []
    pub won_length : (t c : ℕ) → g.owner t ≡ Some c → length (g.won t) ≡ n
    pub won_majority : (t c : ℕ) → g.owner t ≡ Some c → majority n (g.won t) ≡ true
    pub won_votes : (t c v : ℕ) → g.owner t ≡ Some c → IsIn (g.won t) v → g.ballot v t ≡ Some c
    pub won_facts : (t c v : ℕ) → g.owner t ≡ Some c → IsIn (g.won t) v → Fact g v t c
    pub open_facts : (t c v : ℕ) → g.owner t ≡ None → g.ballot v t ≡ Some c → Fact g v t c
    pub ledgers : (t : ℕ) → Sound g.ledger t (g.ledger t)
    pub began : (t c : ℕ) → Sound g.ledger t (g.runs t c)
    pub acked_in : (v t : ℕ) → g.acked v t ≤ length (g.ledger t)
    pub agreed_ok : (g.agreed ≡ []) ⊎ Chosen n g g.agreed

  -- messages

  pub record AppendOk (n : ℕ) (g : Ghost B) (m : Message B) (prev prev_term : ℕ) (entries : List (Entry B)) (c : ℕ) : Type 0 where
    pub front : List (Entry B)
    pub front_length : length front ≡ prev
    pub front_term : last_term front ≡ prev_term
    pub of_ledger : Begins (front ++ entries) (g.ledger m.term)
    pub owner : g.owner m.term ≡ Some m.from
    pub done : List (Entry B)
    pub done_length : length done ≡ c
    pub done_ledger : Begins done (g.ledger m.term)
    pub done_agreed : Begins done g.agreed
    pub done_held : Held n g m.term done

  pub record RequestOk (g : Ghost B) (m : Message B) (n u : ℕ) : Type 0 where
    pub voted : g.ballot m.from m.term ≡ Some m.from
    pub length_is : length (g.runs m.term m.from) ≡ n
    pub term_is : last_term (g.runs m.term m.from) ≡ u

  abbrev pub KindOk : ℕ → Ghost B → Message B → Kind B → Type 0
  KindOk n g m (RequestVote l u) = RequestOk g m l u
  KindOk n g m (Vote true) = g.ballot m.from m.term ≡ Some m.to
  KindOk n g m (Vote false) = Unit {0}
  KindOk n g m (Append b) = AppendOk n g m b.prev_index b.prev_term b.entries b.commit
  KindOk n g m (AppendReply true p) = p ≤ g.acked m.from m.term
  KindOk n g m (AppendReply false p) = Unit {0}
  KindOk n g m (Forward b) = Unit {0}

  abbrev pub MsgOk : ℕ → Ghost B → Message B → Type 0
  MsgOk n g m = KindOk n g m m.kind

  abbrev pub AllOk : ℕ → Ghost B → List (Message B) → Type 0
  AllOk n g [] = Unit {0}
  AllOk n g (m ∷ ms) = MsgOk n g m × AllOk n g ms

  -- nodes

  pub record CandidateOk (n : ℕ) (g : Ghost B) (i term : ℕ) (vote : Option ℕ) (log : List (Entry B)) (voters : List Bool) : Type 0 where
    pub voted : vote ≡ Some i
    pub not_owner : g.owner term ≡ Some i → ⊥
    pub log_is : g.runs term i ≡ log
    pub voters_length : length voters ≡ n
    pub voters_ok : (v : ℕ) → IsIn voters v → g.ballot v term ≡ Some i

  pub record LeaderOk (n : ℕ) (g : Ghost B) (i boot term : ℕ) (log : List (Entry B)) (next matched : List ℕ) : Type 0 where
    pub owner : g.owner term ≡ Some i
    pub log_is : g.ledger term ≡ log
    pub boot_is : g.boots term ≡ boot
    pub own_acked : length log ≤ g.acked i term
    pub matched_length : length matched ≡ n
    pub matched_ok : (j : ℕ) → item_or matched j 0 ≤ g.acked j term
    pub next_ok : (j : ℕ) → item_or next j 0 ≤ suc (length log)

  abbrev pub RoleOk : ℕ → Ghost B → ℕ → Role → ℕ → ℕ → Option ℕ → List (Entry B) → List Bool → List ℕ → List ℕ → Type 0
  RoleOk n g i Follower boot term vote log voters next matched = Unit {0}
  RoleOk n g i Candidate boot term vote log voters next matched = CandidateOk n g i term vote log voters
  RoleOk n g i Leader boot term vote log voters next matched = LeaderOk n g i boot term log next matched

  pub record NodeOk (n : ℕ) (g : Ghost B) (i : ℕ) (s : Node B) : Type 0 where
    pub vote_now : g.ballot i s.term ≡ s.vote
    pub vote_later : (t : ℕ) → s.term < t → g.ballot i t ≡ None
    pub acked_later : (t : ℕ) → s.term < t → g.acked i t ≤ 0
    pub log_ok : Sound g.ledger s.term s.log
    pub keeps : (t : ℕ) (p : List (Entry B)) → Begins p (g.ledger t) → length p ≤ g.acked i t → Carried g t (suc s.term) p → Begins p s.log
    pub commit_in : s.commit ≤ length s.log
    pub commit_ok : Begins (take s.commit s.log) g.agreed
    pub commit_held : Held n g s.term (take s.commit s.log)
    pub role_ok : RoleOk n g i s.role s.boot s.term s.vote s.log s.voters s.next s.matched
    pub sent_ok : AllOk n g s.sent

  pub record Good (n : ℕ) (g : Ghost B) (w : List (Node B)) : Type 0 where
    pub size : length w ≡ n
    pub ghost_ok : GhostOk n g
    pub nodes : (i : ℕ) (s : Node B) → item w i ≡ Some s → NodeOk n g i s

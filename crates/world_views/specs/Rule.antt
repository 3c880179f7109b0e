-- The rule that the views of all nodes keep, between any two steps of any of them: three clauses over plain data.
use Rattle.std.specs.Prelude.{◌≡◌, ◌<◌, ◌≤◌, ℕ, suc, true, List, [], length, Some, None}
use Rattle.raft_log.specs.Lists.{item}
use Rattle.raft_node.specs.Machine.{Machine}
use Rattle.world_views.specs.declared.envelope.Envelope.{Envelope}
use Rattle.world_views.specs.Views.{IsAt, View, sender, brings, RisesFrom, start, Drew, total}
use Rattle.world_views.specs.Own.{EventOf, ViewOf, runs, state_at}
use Rattle.wire_bytes.specs.Limits.{number_limit}

-- The first clause, on tickets: those that were drawn are the numbers below the next ticket, each once, and they rise
-- in each record.
pub record TicketsAreOnce {B L T : Type 0} (next : ℕ) (views : List (View B L T)) : Type 0 where
  pub who : ℕ → ℕ  -- the place of the view that drew a ticket
  pub drawn : (t : ℕ) → t < next → (v : View B L T) × IsAt views (who t) v × Drew v t
  pub once : (i t : ℕ) (v : View B L T) → IsAt views i v → Drew v t → (t < next) × (who t ≡ i)
  pub rises : (i : ℕ) (v : View B L T) → IsAt views i v → RisesFrom v.opened v.turns
  pub counted : total views ≡ next
  pub few : (i : ℕ) (v : View B L T) → IsAt views i v → length v.turns ≤ number_limit

module _ (M : Machine) where
  -- The second clause, on one view alone: its state is the one to which its own turns lead from the node as it was
  -- opened, which had sent nothing. A node that was not opened has no store, which counts as honest.
  pub record IsRun (v : ViewOf M) : Type 0 where
    pub state : v.state ≡ runs M v (start v) v.turns
    pub fresh : (start v).sent ≡ []
    pub unopened : v.opened ≡ None → v.honest ≡ true

  -- a message is at its number in what its sender had sent before this ticket, if the sender's store is honest
  pub record Stands (views : List (ViewOf M)) (d : ℕ) (e : Envelope M.Body) : Type 0 where
    pub by : ViewOf M
    pub named : e.message.from ≡ suc (sender e)
    pub at : IsAt views (sender e) by
    pub sent : by.honest ≡ true → item (state_at M d by).sent e.number ≡ Some e.message

  -- The third clause, on messages: what a node took stands with its sender before the next ticket, and what was delivered to it
  -- stood there before the ticket of the delivery. Each is to the node that took it.
  pub record MessagesStand (next : ℕ) (views : List (ViewOf M)) : Type 0 where
    pub heard : (i k : ℕ) (v : ViewOf M) (e : Envelope M.Body) →
        IsAt views i v → IsAt v.heard k e → Stands views next e × (e.message.to ≡ suc i)
    pub delivered : (i k d : ℕ) (v : ViewOf M) (x : EventOf M) (e : Envelope M.Body) →
        IsAt views i v → IsAt v.turns k (d, x) → brings x ≡ Some e → Stands views d e × (e.message.to ≡ suc i)

  -- The rule: the views of all nodes of a group of this size, by rising number, if this is the next ticket.
  pub record IsRule (size next : ℕ) (views : List (ViewOf M)) : Type 0 where
    pub sized : length views ≡ size
    pub placed : (i : ℕ) (v : ViewOf M) → IsAt views i v → (v.node ≡ i) × (v.size ≡ size)
    pub tickets : TicketsAreOnce next views
    pub own : (i : ℕ) (v : ViewOf M) → IsAt views i v → IsRun v
    pub messages : MessagesStand next views

  -- the store of each node is honest
  abbrev pub AreHonest : List (ViewOf M) → Type 0
  AreHonest views = (i : ℕ) (v : ViewOf M) → IsAt views i v → v.honest ≡ true

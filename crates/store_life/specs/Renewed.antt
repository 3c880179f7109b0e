-- Stores that were begun anew, and the events that leave them in this state.
use Rattle.std.specs.Prelude.{◌≡◌, ◌≤◌, ℕ, List, [], ◌∷◌, length, map, take, Some}
use Rattle.wire_bytes.specs.declared.origin.Origin.{Origin}
use Rattle.buffer_commands.specs.Settings.{Settings}
use Rattle.bouncer_tower.specs.Bodies.{TowerBody}
use Rattle.raft_log.specs.declared.entry.Entry.{Entry}
use Rattle.raft_log.specs.declared.role.Role.TheVariants.{Leader}
use Rattle.raft_log.specs.Lists.{item}
use Rattle.raft_log.specs.Logs.{entry_limit}
use Rattle.raft_log.specs.Node.{Node}
use Rattle.raft_log.specs.Peers.{IsGroupSize}
use Rattle.stable_store.specs.declared.saved.Saved.{Saved}
use Rattle.raft_node.specs.Parts.{saved_by}
use Rattle.agreement.specs.World.{start}
use Rattle.world_run.specs.World.{Event, run}
use Rattle.headline.specs.Tower.{tower}
use Rattle.led_lists.specs.Led.{IsLed}
use Rattle.wire_bytes.specs.Limits.{number_limit}

module _ {B : Type 0} where
  -- the entries of these bodies, all of one term
  abbrev pub entries : ℕ → List B → List (Entry B)
  entries term bodies = map (λ b. record { term = term; body = b }) bodies

  -- what a store holds that was begun anew with this log: a run and a term, and a vote for node 1
  abbrev pub begun_anew : ℕ → ℕ → List (Entry B) → Saved B
  begun_anew boot term log = record { boot = boot; term = term; vote = Some 1; log = log }

  -- the same for all nodes, by their runs, node 1's first
  abbrev pub all_begun_anew : List ℕ → ℕ → List (Entry B) → List (Saved B)
  all_begun_anew boots term log = map (λ boot. begun_anew boot term log) boots

-- the client that brings the requests of such a list: of node 1, in its run
abbrev pub client_of : List ℕ → Origin
client_of [] = (1, 1, 1)
client_of (boot ∷ boots) = (1, boot, 1)

-- What may be begun anew in a group whose nodes are saved with these runs: in a term, a list of bodies that one leader brings.
pub record IsAnew (s : Settings) (boots : List ℕ) (term : ℕ) (bodies : List TowerBody) : Type 0 where
  pub group : IsGroupSize (length boots)
  pub runs : (i boot : ℕ) → item boots i ≡ Some boot → 1 ≤ boot
  pub above : 1 ≤ term
  pub within : term ≤ number_limit
  pub few : length bodies ≤ entry_limit
  pub led : IsLed s term (client_of boots) bodies

module _ (s : Settings) where
  -- the nodes of a group of this size to which these events led from new stores
  abbrev pub world_of : ℕ → List (Event (tower s)) → List (Node TowerBody)
  world_of size es = run (tower s) es (start size)

  -- These events leave such stores: each node has saved its run, this term, a vote for node 1 and the log of these bodies. Node 1 leads in
  -- that term, and all of the log is committed.
  pub record Leaves (es : List (Event (tower s))) (boots : List ℕ) (term : ℕ) (bodies : List TowerBody) : Type 0 where
    pub saved : map saved_by (world_of (length boots) es) ≡ all_begun_anew boots term (entries term bodies)
    pub first : Node TowerBody
    pub there : item (world_of (length boots) es) 1 ≡ Some first
    pub leads : first.role ≡ Leader
    pub in_term : first.term ≡ term
    pub all_committed : take first.commit first.log ≡ entries term bodies

-- what is begun anew is what some events leave
abbrev pub AnewIsLeft : Settings → Type 0
AnewIsLeft s = (boots : List ℕ) (term : ℕ) (bodies : List TowerBody) → IsAnew s boots term bodies → (es : List (Event (tower s))) × Leaves s es boots term bodies

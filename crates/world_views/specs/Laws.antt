-- What follows from the rule, over the views of groups of every size.
use Rattle.std.specs.Prelude.{◌≡◌, ◌⊎◌, ◌≤◌, ℕ, suc, Bool, List, [], ◌∷◌, ◌++◌, length, map, take, Some, slice_get}
use Rattle.irc_line.specs.Lines.{Parts}
use Rattle.machine_laws.specs.Runs.{all_effects}
use Rattle.raft_log.specs.declared.message.Message.{Message}
use Rattle.raft_log.specs.Node.{Node}
use Rattle.raft_node.specs.Machine.{Machine, history}
use Rattle.raft_node.specs.Sound.{sent_first}
use Rattle.raft_node.specs.Steps.{Left, Looked, Out}
use Rattle.agreement.specs.World.{Begins}
use Rattle.world_run.specs.World.{Event, count, handed, left_of, outputs}
use Rattle.world_views.specs.declared.node_event.NodeEvent.TheVariants.{Does, Look}
use Rattle.raft_node.specs.declared.input.Input.TheVariants.{Apply}
use Rattle.world_views.specs.Views.{IsAt, IsOpened, start}
use Rattle.world_views.specs.Own.{EventOf, TurnOf, ViewOf, own_out, own_state, runs, state_at}
use Rattle.world_views.specs.Rule.{AreHonest, IsRule}
use Rattle.world_views.specs.Merged.{AreInOrder, IsMerged, Placed, PlacedOf, turn_of, turns_of}
use Rattle.world_views.specs.Openings.{HeldAfter, OpenedAfter, WereNew, restarts}
use Rattle.world_views.specs.Outputs.{HasLeft, IsEvent, IsHistory, IsPlayed, IsRecord, agreed_over, handed_by, outputs_of, outs_of}

-- no two of these numbers are the same
abbrev pub AllDiffer : List (ℕ × Parts) → Type 0
AllDiffer lines =
    (i j n : ℕ) (one other : Parts) → slice_get lines i ≡ Some (n, one) → slice_get lines j ≡ Some (n, other) → i ≡ j

-- no number is in both lists
abbrev pub NoneInBoth : List (ℕ × Parts) → List (ℕ × Parts) → Type 0
NoneInBoth lines more =
    (i j n : ℕ) (one other : Parts) → slice_get lines i ≡ Some (n, one) → slice_get more j ≡ Some (n, other) → ⊥

-- one of the lists that two nodes commit begins the other
abbrev pub AgreeTo : {B : Type 0} → Node B → Node B → Type 0
AgreeTo s t = Begins (take s.commit s.log) (take t.commit t.log) ⊎ Begins (take t.commit t.log) (take s.commit s.log)

-- lists in order of ticket that have the same turns of each node are one list, so records are merged in one way
abbrev pub MergedIsOne : (B L T : Type 0) → Type 0
MergedIsOne B L T =
    (es fs : List (Placed B L T)) → AreInOrder (map turn_of es) → AreInOrder (map turn_of fs) →
    ((i : ℕ) → turns_of i es ≡ turns_of i fs) → es ≡ fs

module _ (M : Machine) where
  -- What happens to a node, and what comes out, is the same whatever it had sent before: each event only adds to that.
  abbrev pub SentIsNotRead : Type 0
  SentIsNotRead =
      (xs : List (Message M.Body)) (size i : ℕ) (s : Node M.Body) (e : EventOf M) →
      (own_state M size i (sent_first xs s) e ≡ sent_first xs (own_state M size i s e))
      × (own_out M size i (sent_first xs s) e ≡ own_out M size i s e)

  -- The merging law: if the views keep the rule over honest stores, the events of all records, by rising ticket, lead
  -- from the nodes as they were opened to the nodes' states; whatever the nodes are that were not opened, they stay.
  abbrev pub RecordsMerge : Type 0
  RecordsMerge =
      (size next : ℕ) (views : List (ViewOf M)) → IsRule M size next views → AreHonest M views →
      (idle : ℕ → Node M.Body) → (es : List (PlacedOf M)) × IsMerged M idle views es

  -- new stores: no event comes before the openings
  abbrev pub NewStores : Type 0
  NewStores = (views : List (ViewOf M)) → WereNew M views → OpenedAfter M [] views

  -- stores that hold what a list of events leaves: that list comes before, and a restart of every node
  abbrev pub HeldStores : Type 0
  HeldStores =
      (before : List (Event M)) (views : List (ViewOf M)) →
      HeldAfter M before views → OpenedAfter M (before ++ restarts M (length views)) views

  -- both, which are the cases in which a caller knows where the openings come from
  abbrev pub OpeningsGoOn : Type 0
  OpeningsGoOn = NewStores × HeldStores

-- This holds for all views that keep the rule over honest stores, if the openings are as some list of events leaves the
-- nodes.
abbrev pub OverOpened : (M : Machine) → ((M : Machine) → List (Event M) → List (ViewOf M) → Type 0) → Type 0
OverOpened M P =
    (size next : ℕ) (before : List (Event M)) (views : List (ViewOf M)) →
    IsRule M size next views → AreHonest M views → OpenedAfter M before views → P M before views

module _ (M : Machine) where
  -- one list of events leads from new stores to the states of all views
  abbrev pub HasHistory : List (Event M) → List (ViewOf M) → Type 0
  HasHistory before views = (es : List (PlacedOf M)) × IsHistory M before views es

  -- the record of all views is that of a run of the group: its events are the history, and what comes out of this is what the record has
  abbrev pub RecordsReplay : List (Event M) → List (ViewOf M) → Type 0
  RecordsReplay before views =
      (es : List (PlacedOf M)) (outs : List (Out M)) → IsRecord M views es outs →
      IsHistory M before views es × (outputs_of M before views es ≡ outputs M (length views) before ++ outs)

  -- one of the lists that any two opened nodes have committed begins the other
  abbrev pub AllAgree : List (Event M) → List (ViewOf M) → Type 0
  AllAgree before views =
      (i j : ℕ) (v w : ViewOf M) → IsAt views i v → IsAt views j w → IsOpened v → IsOpened w → AgreeTo v.state w.state

  -- the same for what they had committed before any two tickets
  abbrev pub AllAgreeBefore : List (Event M) → List (ViewOf M) → Type 0
  AllAgreeBefore before views =
      (i j c d : ℕ) (v w : ViewOf M) → IsAt views i v → IsAt views j w → IsOpened v → IsOpened w →
      AgreeTo (state_at M c v) (state_at M d w)

  -- each turn of a view, with what came out of it, is an event of the one history
  abbrev pub TurnsAreEvents : List (Event M) → List (ViewOf M) → Type 0
  TurnsAreEvents before views =
      (es : List (PlacedOf M)) → IsHistory M before views es →
      (i m : ℕ) (v : ViewOf M) (t : TurnOf M) (o : Out M) → IsAt views i v → IsAt v.turns m t → IsAt (outs_of M v) m o →
      IsEvent M before views es i m v t o

  -- a look that a view answered played what follows from the first bodies of the agreed list
  abbrev pub LooksAreAgreed : List (Event M) → List (ViewOf M) → Type 0
  LooksAreAgreed before views =
      (es : List (PlacedOf M)) → IsHistory M before views es →
      (i m d from place : ℕ) (target : M.Target) (lines : List M.Played) (v : ViewOf M) →
      IsAt views i v → IsAt v.turns m (d, Look from target) → IsAt (outs_of M v) m (Looked place lines) →
      IsPlayed M (agreed_over M before views es) from place target lines

  -- what left a view's node when it applied a place is what the agreed list brings about there, as far as it leaves the
  -- node as it then was
  abbrev pub AppliesAreAgreed : List (Event M) → List (ViewOf M) → Type 0
  AppliesAreAgreed before views =
      (es : List (PlacedOf M)) → IsHistory M before views es →
      (i m d place : ℕ) (effects : List M.Effect) (v : ViewOf M) →
      IsAt views i v → IsAt v.turns m (d, Does Apply) → IsAt (outs_of M v) m (Left place effects) →
      HasLeft M (agreed_over M before views es) (suc i) (runs M v (start v) (take m v.turns)) place effects

  -- the effects that left all nodes
  abbrev pub left_by_all : List (ViewOf M) → List M.Effect
  left_by_all [] = []
  left_by_all (v ∷ views) = left_of M (outs_of M v) ++ left_by_all views

  -- no more effects of a kind leave all nodes together than the agreed list brings about
  abbrev pub AllLeaveNoMore : List (Event M) → List (ViewOf M) → Type 0
  AllLeaveNoMore before views =
      (es : List (PlacedOf M)) → IsHistory M before views es →
      (test : M.Effect → Bool) →
      count test (left_by_all views) ≤ count test (all_effects M.effects (history (agreed_over M before views es)))

  -- over every list of events the numbers that are handed upstream are all different
  abbrev pub HandsOnce : Type 0
  HandsOnce = (size : ℕ) (es : List (Event M)) → AllDiffer (handed M size es)

  -- then the numbers that each view handed are all different, and no number was handed by two of them
  abbrev pub HandedApart : List (Event M) → List (ViewOf M) → Type 0
  HandedApart before views =
      HandsOnce →
      ((i : ℕ) (v : ViewOf M) → IsAt views i v → AllDiffer (handed_by M v))
      × ((i j : ℕ) (v w : ViewOf M) → IsAt views i v → IsAt views j w → (i ≡ j → ⊥) →
      NoneInBoth (handed_by M v) (handed_by M w))

  -- What two views of one group have together, if the openings are as the events `before` leave the nodes: one history
  -- of the group, committed lists of which one begins the other, and no number that both handed upstream.
  pub record HaveOneHistory (before : List (Event M)) (views : List (ViewOf M)) (v w : ViewOf M) : Type 0 where
    pub events : List (PlacedOf M)
    pub history : IsHistory M before views events
    pub agree : IsOpened v → IsOpened w → AgreeTo v.state w.state
    pub apart : HandsOnce → (v.node ≡ w.node → ⊥) → NoneInBoth (handed_by M v) (handed_by M w)

  -- Two views are of one group: there are views of all its nodes that keep the rule, and these two are among them.
  pub record AreOfOneGroup (v w : ViewOf M) : Type 0 where
    pub views : List (ViewOf M)
    pub size : ℕ
    pub next : ℕ
    pub rule : IsRule M size next views
    pub one_at : IsAt views v.node v
    pub other_at : IsAt views w.node w
    pub follows : AreHonest M views → (before : List (Event M)) → OpenedAfter M before views → HaveOneHistory before views v w

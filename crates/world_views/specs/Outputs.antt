-- What comes out of the events of views: the same by each view alone and by the one list of all.
use Rattle.std.specs.Prelude.{◌≡◌, ◌==◌, ◌+◌, ◌≤◌, ℕ, suc, pred, if◌then◌else◌, List, [], ◌∷◌, ◌++◌, length, map, take, Some}
use Rattle.irc_line.specs.Lines.{Parts}
use Rattle.raft_log.specs.declared.entry.Entry.{Entry}
use Rattle.raft_log.specs.Lists.{item}
use Rattle.raft_log.specs.Node.{Node}
use Rattle.raft_node.specs.Machine.{Machine, history}
use Rattle.raft_node.specs.Steps.{Out, leaving}
use Rattle.world_run.specs.World.{Event, agreed, moment, outputs, left_of, hands}
use Rattle.world_views.specs.Views.{IsAt, start}
use Rattle.world_views.specs.Own.{TurnOf, ViewOf, own_state, own_out, runs}
use Rattle.world_views.specs.Merged.{PlacedOf, turn_of, turns_of, AreInOrder, IsMerged}
use Rattle.world_views.specs.Openings.{idle_in, event_in, world_after, first_world, whole, IsNow, AreNow}

module _ (M : Machine) where
  -- what comes out of these turns of the node of this number, from this state on
  abbrev pub outs_along : ℕ → ℕ → Node M.Body → List (TurnOf M) → List (Out M)
  outs_along size i s [] = []
  outs_along size i s (t ∷ ts) = own_out M size i s t.1 ∷ outs_along size i (own_state M size i s t.1) ts

  -- what came out of each turn of a view
  abbrev pub outs_of : ViewOf M → List (Out M)
  outs_of v = outs_along v.size (suc v.node) (start v) v.turns

  -- the numbers and lines that it handed upstream
  abbrev pub handed_by : ViewOf M → List (ℕ × Parts)
  handed_by v = hands M (left_of M (outs_of v))

  -- what came out of those of these events that are of the node at a place
  abbrev pub outs_at : ℕ → List (PlacedOf M) → List (Out M) → List (Out M)
  outs_at i [] outs = []
  outs_at i (e ∷ es) [] = []
  outs_at i (e ∷ es) (o ∷ outs) = if e.0 == i then o ∷ outs_at i es outs else outs_at i es outs

  -- the world after the first k events of the whole list, what comes out of it, and what is agreed over it
  abbrev pub moment_of : List (Event M) → List (ViewOf M) → List (PlacedOf M) → ℕ → List (Node M.Body)
  moment_of before views es k = moment M (length views) (whole M before views es) k

  -- what comes out of each event of the whole list
  abbrev pub outputs_of : List (Event M) → List (ViewOf M) → List (PlacedOf M) → List (Out M)
  outputs_of before views es = outputs M (length views) (whole M before views es)

  -- what the nodes agree on over the whole list
  abbrev pub agreed_over : List (Event M) → List (ViewOf M) → List (PlacedOf M) → List (Entry M.Body)
  agreed_over before views es = agreed M (length views) (whole M before views es)

  -- One list of the group's events leads from new stores to the states of all views: the events `before`, and then
  -- those of all records, merged. At each moment since the openings each node is in the state to which its turns so far
  -- lead, and what comes out of the list after `before` is what came out by each view alone.
  pub record IsHistory (before : List (Event M)) (views : List (ViewOf M)) (es : List (PlacedOf M)) : Type 0 where
    pub merged : IsMerged M (idle_in (first_world M before views)) views es
    pub states : AreNow M (first_world M before views) (world_after M (length views) (whole M before views es)) views
    pub moments : (k i : ℕ) (v : ViewOf M) → IsAt views i v →
        IsNow M (first_world M before views) (moment_of before views es (length before + k)) (suc i)
        (runs M v (start v) (turns_of i (take k es))) v.opened
    pub outs : List (Out M)
    pub comes_out : outputs_of before views es ≡ outputs M (length views) before ++ outs
    pub own_outs : (i : ℕ) (v : ViewOf M) → IsAt views i v → outs_at i es outs ≡ outs_of v

  -- The record of all views: their turns by rising ticket, each with what came out of it by its own view.
  pub record IsRecord (views : List (ViewOf M)) (es : List (PlacedOf M)) (outs : List (Out M)) : Type 0 where
    pub in_order : AreInOrder (map turn_of es)
    pub within : (i : ℕ) → length views ≤ i → turns_of i es ≡ []
    pub turns : (i : ℕ) (v : ViewOf M) → IsAt views i v → turns_of i es ≡ v.turns
    pub long : length outs ≡ length es
    pub own_outs : (i : ℕ) (v : ViewOf M) → IsAt views i v → outs_at i es outs ≡ outs_of v

  -- The turn at place m of the view at place i, with what came out of it, is an event of the history, at a moment at
  -- which the node is in the state to which the view's turns before it lead.
  pub record IsEvent (before : List (Event M)) (views : List (ViewOf M)) (es : List (PlacedOf M)) (i m : ℕ)
      (v : ViewOf M) (t : TurnOf M) (o : Out M) : Type 0 where
    pub place : ℕ
    pub event : item (whole M before views es) place ≡ Some (event_in M (first_world M before views) (suc i) t.1)
    pub out : item (outputs_of before views es) place ≡ Some o
    pub state : IsNow M (first_world M before views) (moment_of before views es (pred place)) (suc i)
        (runs M v (start v) (take m v.turns)) v.opened

  -- At a place, from this one on, what follows from the first of these entries was played of a target.
  pub record IsPlayed (entries : List (Entry M.Body)) (from place : ℕ) (target : M.Target) (lines : List M.Played) : Type 0 where
    pub late : from ≤ place
    pub within : place ≤ length entries
    pub played : lines ≡ M.playback (history (take place entries)) target

  -- What these entries bring about at a place left the node of this number, as far as it leaves that.
  pub record HasLeft (entries : List (Entry M.Body)) (i : ℕ) (s : Node M.Body) (place : ℕ) (effects : List M.Effect) : Type 0 where
    pub entry : Entry M.Body
    pub stands : item entries place ≡ Some entry
    pub left : effects ≡ leaving M i s (M.effects (history (take (pred place) entries)) place entry.body)

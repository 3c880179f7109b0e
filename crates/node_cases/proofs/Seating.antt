-- Nodes in their seats.
use Rattle.std.proofs.Common.{◌≡◌, ◌+◌, ◌<◌, ℕ, suc, List, [], ◌∷◌, Option, None, arith, slice_index_or, ◌++◌, length, Some, refl, sym, ap, ◌∙◌, subst}
use Rattle.std.proofs.lemmas.List.{length-append}
use Rattle.raft_log.specs.declared.message.Message.{Message}
use Rattle.raft_log.specs.Lists.{item}
use Rattle.raft_log.specs.Node.{Node}
use Rattle.raft_log.specs.Seen.{seen}
use Rattle.raft_node.specs.Machine.{Machine}
use Rattle.raft_node.specs.Parts.{Keeper, Parts, size_of}
use Rattle.raft_node.specs.declared.input.Output.{Output}
use Rattle.raft_node.specs.Starting.{IsFirst}
use Rattle.raft_node.specs.Stepping.{IsDone, IsSameNode}
use Rattle.raft_node.specs.Steps.{Act, Turn}
use Rattle.world_views.specs.declared.node_event.NodeEvent.TheVariants.{Does}
use Rattle.world_views.specs.declared.envelope.Envelope.{Envelope}
use Rattle.world_views.specs.Inputs.{NodeInput}
use Rattle.world_views.specs.Own.{EventOf, act_of, own_state}
use Rattle.world_views.proofs.Histories.{item_past}
use Rattle.ether.specs.Passes.{EtherParts, IsOpen, IsOpenPass, IsPassAt, view_of}
use Rattle.ether.specs.Plays.{after_event, after_take}
use Rattle.node_cases.specs.Seats.{HasActed, HasDone, IsSeated}
use Rattle.ether.specs.declared.pass.Pass.{Pass}
use Rattle.world_views.specs.Views.{View}

module _ (M : Machine) {Setup Hosted Store : Type 0} where
  -- a step that is done is an act
  pub acted_by : (k : Keeper Store M.Body) (act : Act M) (old new : Parts Setup Hosted Store M.Body) (output : Output M.Body M.Effect) → IsDone M k act old output new → IsSameNode k old new → HasActed M act old new output.messages.items
  acted_by k act old new output done same =
      record { comes = λ sent. ap (λ (t : Turn M). t.node) (done.turns sent); id = same.id; size = same.size; setup = same.setup }

  -- an act is what an input is
  pub done_by : (e : EventOf M) (y x : NodeInput M.Body M.Line) (old new : Parts Setup Hosted Store M.Body) (ms : List (Message M.Body)) → e ≡ Does y → y ≡ x → HasActed M (act_of M x) old new ms → HasDone M e old new ms
  unfolding own_state
  done_by e y x old new ms does is a =
      subst (λ (z : EventOf M). HasDone M z old new ms) (sym (does ∙ ap Does is)) record { comes = a.comes; id = a.id; size = a.size; setup = a.setup }

  -- the view's state after an event is the node's after it
  state_after : (e : EventOf M) (v : View M.Body M.Line M.Target) (old new : Parts Setup Hosted Store M.Body) (ms : List (Message M.Body)) → v.state ≡ seen old.state v.state.sent
      → v.size ≡ size_of old.state → suc v.node ≡ old.id → HasDone M e old new ms → own_state M v.size (suc v.node) v.state e ≡ seen new.state (v.state.sent ++ ms)
  state_after e v old new ms state size id done =
      ap (λ (s : Node M.Body). own_state M v.size (suc v.node) s e) state ∙ ap (λ (n : ℕ). own_state M n (suc v.node) (seen old.state v.state.sent) e) size
      ∙ ap (λ (i : ℕ). own_state M (size_of old.state) i (seen old.state v.state.sent) e) id ∙ done.comes v.state.sent

  -- the state that a pass shows once its node's event is ticked and done
  turned_state : (x : EtherParts Setup) (p q : Pass M.Body M.Line M.Target) (old new : Parts Setup Hosted Store M.Body) (sent t : ℕ) (e : EventOf M) (ms : List (Message M.Body)) → IsSeated x p old sent
      → view_of q ≡ after_event M (view_of p) t e → HasDone M e old new ms → (view_of q).state ≡ seen new.state ((view_of p).state.sent ++ ms)
  turned_state x p q old new sent t e ms s view done =
      ap (λ (v : View M.Body M.Line M.Target). v.state) view
      ∙ state_after e (view_of p) old new ms s.state (s.opened.0.many ∙ sym s.size) (ap suc s.opened.0.node ∙ sym s.id) done

  -- what it sent by then
  pub turned_sent : (x : EtherParts Setup) (p q : Pass M.Body M.Line M.Target) (old new : Parts Setup Hosted Store M.Body) (sent t : ℕ) (e : EventOf M) (ms : List (Message M.Body)) → IsSeated x p old sent
      → view_of q ≡ after_event M (view_of p) t e → HasDone M e old new ms → (view_of q).state.sent ≡ (view_of p).state.sent ++ ms
  turned_sent x p q old new sent t e ms s view done =
      ap (λ (n : Node M.Body). n.sent) (turned_state x p q old new sent t e ms s view done)

  -- a node whose event is ticked and done stays in its seat
  pub seated_turn : (x : EtherParts Setup) (p q : Pass M.Body M.Line M.Target) (old new : Parts Setup Hosted Store M.Body) (sent count t : ℕ) (e : EventOf M) (ms : List (Message M.Body)) → IsSeated x p old sent
      → IsOpenPass x q → q.node ≡ p.node → view_of q ≡ after_event M (view_of p) t e → HasDone M e old new ms → count ≡ sent + length ms → IsSeated x q new count
  seated_turn x p q old new sent count t e ms s opened node view done counts =
      let sents : (view_of q).state.sent ≡ (view_of p).state.sent ++ ms = turned_sent x p q old new sent t e ms s view done in
      record {
        opened = opened;
        state = turned_state x p q old new sent t e ms s view done ∙ ap (λ (l : List (Message M.Body)). seen new.state l) (sym sents);
        size = done.size ∙ s.size;
        id = done.id ∙ s.id ∙ ap suc (sym node);
        setup = done.setup ∙ s.setup;
        count = counts ∙ ap (λ (n : ℕ). n + length ms) s.count ∙ sym (length-append (view_of p).state.sent ms) ∙ ap (λ (l : List (Message M.Body)). length l) (sym sents);
      }

module _ {B L T : Type 0} where
  take_keeps_state : (v : View B L T) (y : Option (Envelope B)) → (after_take v y).state ≡ v.state
  take_keeps_state v None = refl
  take_keeps_state v (Some e) = refl

  -- a take changes nothing of the node
  pub seated_take : {Setup Hosted Store : Type 0} (e : EtherParts Setup) (p q : Pass B L T) (n : Parts Setup Hosted Store B) (sent : ℕ) (y : Option (Envelope B)) → IsSeated e p n sent → IsPassAt e.table e.size q
      → (IsOpen p → IsOpen q) → q.node ≡ p.node → view_of q ≡ after_take (view_of p) y → IsSeated e q n sent
  seated_take e p q n sent y s is opens node view =
      let same : (view_of q).state ≡ (view_of p).state = ap (λ (v : View B L T). v.state) view ∙ take_keeps_state (view_of p) y in
      record {
        opened = (is, opens s.opened.1);
        state = same ∙ s.state ∙ ap (λ (x : Node B). seen n.state x.sent) (sym same);
        size = s.size;
        id = s.id ∙ ap suc (sym node);
        setup = s.setup;
        count = s.count ∙ ap (λ (x : Node B). length x.sent) (sym same);
      }

-- the node of a start, under equal names
pub first_as : {Setup Hosted Store B : Type 0} (k : Keeper Store B) (i j s t : ℕ) (u v : Setup) (store : Store) (n : Parts Setup Hosted Store B)
    → i ≡ j → s ≡ t → u ≡ v → IsFirst k i s u store n → IsFirst k j t v store n
first_as {Setup} k i j s t u v store n a b c h =
    subst (λ (x : ℕ). IsFirst k x t v store n) a (subst (λ (x : ℕ). IsFirst k i x v store n) b (subst (λ (x : Setup). IsFirst k i s x store n) c h))

-- the first of these items, by its place from 1 on
first_get : {A : Type 0} (ms : List A) (m : A) → 0 < length ms → m ≡ slice_index_or ms 0 m → item ms 1 ≡ Some m
first_get [] m some value = absurd (omega arith)
first_get {A} (x ∷ ms) m some value = ap (λ (y : A). Some y) (sym value)

-- the first of what follows others
pub first_behind : {A : Type 0} (all before ms : List A) (m : A) (sent n : ℕ) → all ≡ before ++ ms → sent ≡ length before → n ≡ sent + 1 → 0 < length ms → m ≡ slice_index_or ms 0 m → item all n ≡ Some m
first_behind {A} all before ms m sent n is count number some value =
    subst (λ (l : List A). item l n ≡ Some m) (sym is)
    (subst (λ (k : ℕ). item (before ++ ms) k ≡ Some m) (sym (number ∙ ap (λ (k : ℕ). k + 1) count)) (item_past before ms 1 m (first_get ms m some value)))

-- That a cluster is started, if its workers began.
use Rattle.std.proofs.Common.{◌≡◌, ◌<◌, ℕ, zero, suc, ◌+◌, List, [], ◌∷◌, ◌++◌, length, map, Result, Ok, Err, IfOk, IfErr, refl, sym, ap, ◌∙◌, subst, arith, append_assoc, append-nil}
use mathlib.Core.Option.{some-injective, some-ne-none}
use Rattle.raft_node.specs.Parts.{Keeper}
use Rattle.world_views.specs.Views.{IsAt}
use Rattle.ether.specs.declared.pass.Pass.{Pass}
use Rattle.ether.specs.Passes.{EtherParts}
use Rattle.node_cells.specs.declared.record.Recording.{Recording}
use Rattle.node_cells.specs.Cells.{CellRoom}
use Rattle.node_threads.specs.declared.cluster_fault.ClusterFault.{ClusterFault}
use Rattle.node_threads.specs.declared.cluster_fault.ClusterFault.TheVariants.{Memory, NoNode, Stopped, Node, Spent}
use Rattle.node_threads.specs.declared.opener.PartStore.{PartStore}
use Rattle.node_threads.specs.declared.opener.PartStore.TheVariants as store
use Rattle.node_threads.specs.declared.part.Part.{Part}
use Rattle.node_threads.specs.declared.place.Place.{Place}
use Rattle.node_threads.specs.declared.place.Place.TheVariants.{Open, Late}
use Rattle.node_threads.specs.Homes.{AllFrom, IsHome, IsNoStart, IsNotOpened, IsOpenedOver, IsUnpaired}
use Rattle.node_threads.specs.Places.{ClusterParts, HasBegun, HasStarted, IsBegunBy, IsBegunOver, IsNoBeginning, IsNotBegun, place_home, ready}
use Rattle.node_threads.proofs.Crew.{length_end}

as_many : {A B : Type 0} (f : A → B) (xs : List A) → length (map f xs) ≡ length xs
as_many f [] = refl
as_many f (x ∷ xs) = ap suc (as_many f xs)

module _ {Hosted Store U O A L T P Setup B E V W : Type 0} (k : Keeper Store B) (f : W → Place Hosted Store U O A L T P Setup B E) (parts : List (Part (PartStore Store O) U V)) where
  -- nodes with which workers begin are at home
  pub homes_begun : (e d : EtherParts Setup) (r q : Recording) (i : ℕ) (ws : List W) → d ≡ e → q ≡ r → AllFrom (λ i w. IsBegunOver k e r parts i (f w)) i ws
      → AllFrom (λ i w. IsHome d q i (place_home (f w))) i ws
  homes_begun e d r q i [] same recording all = tt
  homes_begun e d r q i (w ∷ ws) same recording all = (
    subst (λ (z : EtherParts Setup × Recording). IsHome z.0 z.1 i (place_home (f w))) (λ j. (sym same j, sym recording j)) all.0.home,
    homes_begun e d r q (suc i) ws same recording all.1,
  )

  places_begun : (e : EtherParts Setup) (r : Recording) (i : ℕ) (ws : List W) → AllFrom (λ i w. IsBegunOver k e r parts i (f w)) i ws
      → AllFrom (IsBegunOver k e r parts) i (map f ws)
  places_begun e r i [] all = tt
  places_begun e r i (w ∷ ws) all = (all.0, places_begun e r (suc i) ws all.1)

  module _ (size : ℕ) (setup : Setup) (e d : EtherParts Setup) (r q : Recording) (ws : List W) (size_is : e.size ≡ size) (setup_is : e.setup ≡ setup) (same : d ≡ e) (recording : q ≡ r)
      (many : length ws ≡ e.size) (paired : length parts ≡ size) (all : AllFrom (λ i w. IsBegunOver k e r parts i (f w)) 0 ws) where
    pub has_begun : (result : Result (ClusterParts Hosted Store U O A L T P Setup B E) ClusterFault) → IfOk result (λ c. c.ether ≡ d) → IfOk result (λ c. c.recording ≡ q)
        → IfOk result (λ c. c.places ≡ map f ws) → IfErr result (λ x. x ≡ Memory) → HasBegun k size setup parts r result
    has_begun (Ok c) ether kept places fault =
        let is : c.ether ≡ e = ether ∙ same in
        record {
          nodes = ap (λ (z : EtherParts Setup). z.size) is ∙ size_is;
          setup_is = ap (λ (z : EtherParts Setup). z.setup) is ∙ setup_is;
          recording_is = kept ∙ recording;
          many = ap (λ (l : List (Place Hosted Store U O A L T P Setup B E)). length l) places ∙ (as_many f ws ∙ (many ∙ size_is));
          paired = paired;
          begun = subst (λ (z : EtherParts Setup × List (Place Hosted Store U O A L T P Setup B E)). AllFrom (IsBegunOver k z.0 r parts) 0 z.1) (λ j. (sym is j, sym places j)) (places_begun e r 0 ws all);
        }
    has_begun (Err x) ether kept places fault = subst (λ (y : ClusterFault). IsNoBeginning k size setup parts y) (sym fault) paired

-- -- if no store is late

module _ {Store O U V : Type 0} (parts : List (Part Store U V)) where
  -- some of these parts were made, and these are left
  pub record AreMade (made : List (Part (PartStore Store O) U V)) (rest : List (Part Store U V)) : Type 0 where
    pub whole : made ++ map ready rest ≡ map ready parts
    pub many : length made + length rest ≡ length parts

  pub none_made : (made : List (Part (PartStore Store O) U V)) (rest : List (Part Store U V)) → made ≡ [] → rest ≡ parts → AreMade made rest
  none_made made rest none all =
      subst (λ (z : List (Part (PartStore Store O) U V) × List (Part Store U V)). AreMade z.0 z.1) (λ j. (sym none j, sym all j)) (record { whole = refl; many = omega arith })

  pub few_made : (made : List (Part (PartStore Store O) U V)) (rest rest' : List (Part Store U V)) (p : Part Store U V) → AreMade made rest → rest ≡ p ∷ rest' → length made < length parts
  few_made made rest rest' p old is = let many = (subst (λ (l : List (Part Store U V)). AreMade made l) is old).many in omega (arith, many)

  pub next_made : (made made' : List (Part (PartStore Store O) U V)) (rest rest' : List (Part Store U V)) (p : Part Store U V) → AreMade made rest → rest ≡ p ∷ rest' → made' ≡ made ++ ready p ∷ []
      → AreMade made' rest'
  next_made made made' rest rest' p old is more =
      let o = subst (λ (l : List (Part Store U V)). AreMade made l) is old in
      let many = o.many in
      let long = length_end made (ready p) in
      subst (λ (l : List (Part (PartStore Store O) U V)). AreMade l rest') (sym more)
      (record { whole = append_assoc made (ready p ∷ []) (map ready rest') ∙ o.whole; many = omega (arith, many, long) })

  pub all_made : (made : List (Part (PartStore Store O) U V)) (rest : List (Part Store U V)) → AreMade made rest → rest ≡ [] → made ≡ map ready parts
  all_made made rest old none = let o = subst (λ (l : List (Part Store U V)). AreMade made l) none old in sym (append-nil made) ∙ o.whole

at_ready : {Store O U V : Type 0} (parts : List (Part Store U V)) (i : ℕ) (p : Part (PartStore Store O) U V) → IsAt (map ready parts) i p → (q : Part Store U V) × IsAt parts i q × (p ≡ ready q)
at_ready [] i p at = absurd (some-ne-none p (sym at))
at_ready (q ∷ parts) zero p at = (q, refl, sym (some-injective (ready q) p at))
at_ready (q ∷ parts) (suc i) p at = at_ready parts i p at

as_parts : {Store U V : Type 0} (O : Type 0) (parts : List (Part Store U V)) → length (map (ready {O = O}) parts) ≡ length parts
as_parts O parts = as_many ready parts

module _ {Store U Setup B V : Type 0} (O : Type 0) (k : Keeper Store B) (parts : List (Part Store U V)) (size : ℕ) (setup : Setup) where
  not_opened_of : (n : ℕ) (p : Part (PartStore Store O) U V) (q : Part Store U V) (fault : ClusterFault) → p ≡ ready q → IsNotBegun k size setup n p.store fault → IsNotOpened k size setup n q.store fault
  not_opened_of n p q fault is h = subst (λ (z : Part (PartStore Store O) U V). IsNotBegun k size setup n z.store fault) is h

  no_start_of : (fault : ClusterFault) → IsNoBeginning k size setup (map (ready {O = O}) parts) fault → IsNoStart k size setup parts fault
  no_start_of Memory h = sym (as_parts O parts) ∙ h
  no_start_of (NoNode n) h = subst (λ (m : ℕ). IsUnpaired size m (NoNode n)) (as_parts O parts) h
  no_start_of Stopped h = absurd h
  no_start_of (Node fault) h =
      let found = at_ready parts h.0 h.1 h.2 in
      (h.0, found.0, found.1, not_opened_of (suc h.0) h.1 found.0 (Node fault) found.2 h.3)
  no_start_of Spent h = absurd h

module _ {Hosted Store U O A L T P Setup B E V : Type 0} (k : Keeper Store B) (parts : List (Part Store U V)) where
  -- a node that began over a store that was there was opened over it
  one_started : (e : EtherParts Setup) (r : Recording) (i : ℕ) (place : Place Hosted Store U O A L T P Setup B E) (q : Part Store U V) → IsAt parts i q → (pass : Pass B L T) → IsHome e r i (place_home place)
      → IsBegunBy k e r pass (store.Ready q.store) q.upstream place → (c : CellRoom Setup Hosted Store B L T E P U) × (place ≡ Open c) × IsOpenedOver k e r parts i c.parts
  one_started e r i (Open c) q at pass home begun = (c, refl, record { home = home; part = q; at = at; pass = pass; fresh = begun })
  one_started e r i (Late u opener) q at pass home begun = absurd begun

  each_started : (e : EtherParts Setup) (r : Recording) (i : ℕ) (place : Place Hosted Store U O A L T P Setup B E) → IsBegunOver k e r (map ready parts) i place
      → (c : CellRoom Setup Hosted Store B L T E P U) × (place ≡ Open c) × IsOpenedOver k e r parts i c.parts
  each_started e r i place over =
      let found = at_ready parts i over.part over.at in
      one_started e r i place found.0 found.1 over.pass over.home
      (subst (λ (p : Part (PartStore Store O) U V). IsBegunBy k e r over.pass p.store p.upstream place) found.2 over.begun)

  record Cells (e : EtherParts Setup) (r : Recording) (i : ℕ) (places : List (Place Hosted Store U O A L T P Setup B E)) : Type 0 where
    cells : List (CellRoom Setup Hosted Store B L T E P U)
    places_are : places ≡ map Open cells
    opened : AllFrom (λ i cell. IsOpenedOver k e r parts i cell.parts) i cells

  all_started : (e : EtherParts Setup) (r : Recording) (i : ℕ) (places : List (Place Hosted Store U O A L T P Setup B E)) → AllFrom (IsBegunOver k e r (map ready parts)) i places → Cells e r i places
  all_started e r i [] all = record { cells = []; places_are = refl; opened = tt }
  all_started e r i (place ∷ places) all =
      let one = each_started e r i place all.0 in
      let rest = all_started e r (suc i) places all.1 in
      record {
        cells = one.0 ∷ rest.cells;
        places_are = subst (λ (z : Place Hosted Store U O A L T P Setup B E × List (Place Hosted Store U O A L T P Setup B E)). z.0 ∷ z.1 ≡ Open one.0 ∷ map Open rest.cells) (λ j. (sym one.1 j, sym rest.places_are j)) refl;
        opened = (one.2, rest.opened);
      }

  module _ (size : ℕ) (setup : Setup) where
    started_by : (r : Recording) (result : Result (ClusterParts Hosted Store U O A L T P Setup B E) ClusterFault) → HasBegun k size setup (map ready parts) r result → HasStarted k size setup parts r result
    started_by r (Ok c) h =
        let cells = all_started c.ether r 0 c.places h.begun in
        record {
          nodes = h.nodes;
          setup_is = h.setup_is;
          recording_is = h.recording_is;
          cells = cells.cells;
          places_are = cells.places_are;
          many = sym (ap (λ (l : List (Place Hosted Store U O A L T P Setup B E)). length l) cells.places_are ∙ as_many Open cells.cells) ∙ h.many;
          paired = sym (as_parts O parts) ∙ h.paired;
          opened = cells.opened;
        }
    started_by r (Err fault) h = no_start_of O k parts size setup fault h

    pub has_started : (r : Recording) (all : List (Part (PartStore Store O) U V)) (result : Result (ClusterParts Hosted Store U O A L T P Setup B E) ClusterFault) → all ≡ map ready parts
        → HasBegun k size setup all r result → HasStarted k size setup parts r result
    has_started r all result is begun = started_by r result (subst (λ (l : List (Part (PartStore Store O) U V)). HasBegun k size setup l r result) is begun)

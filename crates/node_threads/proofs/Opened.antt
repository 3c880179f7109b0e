-- Workers that begin one by one, node 1's first.
use Rattle.std.proofs.Common.{◌≡◌, ◌<◌, ℕ, suc, ◌+◌, List, [], ◌∷◌, ◌++◌, length, Err, refl, sym, ap, ◌∙◌, subst, arith, append_assoc}
use Rattle.raft_node.specs.declared.node_fault.NodeFault.{NodeFault}
use Rattle.raft_node.specs.declared.node_fault.NodeFault.TheVariants.{Down, Refused}
use Rattle.raft_node.specs.Parts.{Keeper}
use Rattle.raft_node.specs.Starting.{IsStarted}
use Rattle.world_views.specs.Views.{IsAt}
use Rattle.ether.specs.declared.pass.Pass.{Pass}
use Rattle.ether.specs.Passes.{AreNew, EtherParts, view_of}
use Rattle.ether.specs.Rule.{blank}
use Rattle.node_cells.specs.declared.cell_fault.CellFault.{CellFault}
use Rattle.node_cells.specs.declared.cell_fault.CellFault.TheVariants as of_cell
use Rattle.node_cells.specs.declared.record.Recording.{Recording}
use Rattle.node_cells.specs.Openings.{HasOpened}
use Rattle.node_cells.specs.Unopened.{IsUntouched, UnopenedParts}
use Rattle.node_threads.specs.declared.cluster_fault.ClusterFault.{ClusterFault}
use Rattle.node_threads.specs.declared.cluster_fault.ClusterFault.TheVariants.{Memory, NoNode, Stopped, Node, Spent}
use Rattle.node_threads.specs.declared.part.Part.{Part}
use Rattle.node_threads.specs.Faults.{from_cell}
use Rattle.node_threads.specs.declared.opener.PartStore.{PartStore}
use Rattle.node_threads.specs.declared.opener.PartStore.TheVariants as store
use Rattle.node_threads.specs.declared.place.Place.{Place}
use Rattle.node_threads.specs.declared.place.Place.TheVariants.{Open, Late}
use Rattle.node_threads.specs.Homes.{AllFrom, IsHome, IsNotOpened}
use Rattle.node_threads.specs.Places.{IsBegunBy, IsBegunOver, IsNoBeginning, IsNotBegun, place_home}
use Rattle.node_threads.proofs.Crew.{all_snoc, length_end}

all_at : {A : Type 0} (P : ℕ → A → Type 0) (n : ℕ) (xs : List A) → ((i : ℕ) (x : A) → IsAt xs i x → P (n + i) x) → AllFrom P n xs
all_at P n [] f = tt
all_at {A} P n (x ∷ xs) f =
    let here : n + 0 ≡ n = omega arith in (
      subst (λ (m : ℕ). P m x) here (f 0 x refl),
      all_at P (suc n) xs (λ i y at. let there : n + suc i ≡ suc n + i = omega arith in subst (λ (m : ℕ). P m y) there (f (suc i) y at)),
    )

at_seam : {A : Type 0} (xs ys : List A) (y : A) → IsAt (xs ++ y ∷ ys) (length xs) y
at_seam [] ys y = refl
at_seam (x ∷ xs) ys y = at_seam xs ys y

-- the pass of the node at this place, to which nothing happened yet
abbrev pub IsNewPass : {Setup B L T : Type 0} → EtherParts Setup → ℕ → Pass B L T → Type 0
IsNewPass e i p = IsUntouched e p × (p.node ≡ i)

-- new passes of all nodes, in order
pub are_new : {Setup B L T : Type 0} (e : EtherParts Setup) (ps : List (Pass B L T)) → AreNew e ps → AllFrom (IsNewPass e) 0 ps
are_new e ps new =
    all_at (IsNewPass e) 0 ps (λ i p at.
    let h = new i p at in
    let place : i ≡ 0 + i = omega arith in
    (record { pass = h.0; view = h.2 ∙ ap (λ (n : ℕ). blank e.size n) (sym h.1); looks = h.3 }, h.1 ∙ place))

module _ {Setup Store B : Type 0} (k : Keeper Store B) (size : ℕ) (setup : Setup) where
  not_started : (Hosted : Type 0) (node : ℕ) (store : Store) (fault : NodeFault) → IsStarted {Hosted = Hosted} k node size setup store (Err fault)
      → IsNotOpened k size setup node store (Node fault)
  not_started Hosted node store (Down cause) h = h
  not_started Hosted node store (Refused refusal) h = h

module _ {Setup Store B L T U : Type 0} (Hosted E P : Type 0) (k : Keeper Store B) where
  -- a refused opening, as a fault of the cluster
  pub not_opened : (e : EtherParts Setup) (p : Pass B L T) (store : Store) (u : U) (r : Recording) (fault : CellFault)
      → HasOpened {Hosted = Hosted} {E = E} {P = P} k e p store u r (Err fault) → IsNotOpened k e.size e.setup (suc p.node) store (from_cell fault)
  not_opened e p store u r of_cell.Memory h = tt
  not_opened e p store u r of_cell.Spent h = absurd h
  not_opened e p store u r (of_cell.Node fault) h = not_started k e.size e.setup Hosted (suc p.node) store fault h

module _ {Hosted Store U O A L T P Setup B E : Type 0} (k : Keeper Store B) (e : EtherParts Setup) (r : Recording) where
  -- a node with which a worker begins is at home
  at_home : (p : Pass B L T) (i : ℕ) (s : PartStore Store O) (u : U) (place : Place Hosted Store U O A L T P Setup B E) → IsNewPass e i p → IsBegunBy k e r p s u place → IsHome e r i (place_home place)
  at_home p i (store.Ready s) u (Open c) new begun =
      record { ether = begun.ether_is; recording = begun.recording_is; node = ap (λ v. v.node) begun.view ∙ (new.0.pass.node ∙ new.1) }
  at_home p i (store.Ready s) u (Late v opener) new begun = absurd begun
  at_home p i (store.Late late) u (Open c) new begun = absurd begun
  at_home p i (store.Late late) u (Late v opener) new begun =
      record {
        ether = ap (λ (z : UnopenedParts Setup B L T U). z.ether) begun.1;
        recording = ap (λ (z : UnopenedParts Setup B L T U). z.recording) begun.1;
        node = ap (λ (z : UnopenedParts Setup B L T U). (view_of z.pass).node) begun.1 ∙ (new.0.pass.node ∙ new.1);
      }

module _ {Hosted Store U O A L T P Setup B E V W : Type 0} (k : Keeper Store B) (e : EtherParts Setup) (r : Recording) (all : List (Part (PartStore Store O) U V)) (f : W → Place Hosted Store U O A L T P Setup B E) where
  abbrev PartHere : Type 0
  PartHere = Part (PartStore Store O) U V

  -- Some of the workers of an ether began, each with the node of its part, and these passes and parts are left.
  pub record AreOpening (ws : List W) (passes : List (Pass B L T)) (parts : List PartHere) : Type 0 where
    pub begun : AllFrom (λ i w. IsBegunOver k e r all i (f w)) 0 ws
    pub news : AllFrom (IsNewPass e) (length ws) passes
    pub done : List PartHere
    pub whole : done ++ parts ≡ all
    pub far : length done ≡ length ws
    pub many : length parts ≡ length passes
    pub count : length ws + length passes ≡ e.size

  pub none_opening : (ws : List W) (all_passes passes : List (Pass B L T)) (parts : List PartHere) → AreNew e all_passes → length all ≡ length all_passes → length all_passes ≡ e.size
      → ws ≡ [] → passes ≡ all_passes → parts ≡ all → AreOpening ws passes parts
  none_opening ws all_passes passes parts new many count none same whole =
      subst (λ (z : (List W × List (Pass B L T)) × List PartHere). AreOpening z.0.0 z.0.1 z.1) (λ d. ((sym none d, sym same d), sym whole d))
      (record { begun = tt; news = are_new e all_passes new; done = []; whole = refl; far = refl; many = many; count = omega (arith, count) })

  module _ (ws : List W) (passes passes' : List (Pass B L T)) (parts : List PartHere) (p : Pass B L T) (old : AreOpening ws passes parts) (is : passes ≡ p ∷ passes') where
    here : AreOpening ws (p ∷ passes') parts
    here = subst (λ (l : List (Pass B L T)). AreOpening ws l parts) is old

    -- a part is there too
    pub has_part : parts ≡ [] → ⊥
    has_part none = let many : 0 ≡ suc (length passes') = ap (λ (l : List PartHere). length l) (sym none) ∙ here.many in absurd (cc many)

    pub new_pass : IsNewPass e (length ws) p
    new_pass = here.news.0

    pub near : length ws < e.size
    near = let count = here.count in omega (arith, count)

    module _ (parts' : List PartHere) (q : PartHere) (also : parts ≡ q ∷ parts') where
      whole_here : here.done ++ q ∷ parts' ≡ all
      whole_here = ap (λ (l : List PartHere). here.done ++ l) (sym also) ∙ here.whole

      at_here : IsAt all (length ws) q
      at_here = subst (λ (z : List PartHere × ℕ). IsAt z.0 z.1 q) (λ d. (whole_here d, here.far d)) (at_seam here.done parts' q)

      one_opening : (w : W) → IsBegunBy k e r p q.store q.upstream (f w) → AreOpening (ws ++ w ∷ []) passes' parts'
      one_opening w begun =
          let long = length_end ws w in
          let count = here.count in
          let many : suc (length parts') ≡ suc (length passes') = ap (λ (l : List PartHere). length l) (sym also) ∙ here.many in
          let one : IsBegunOver k e r all (length ws) (f w) =
          record { home = at_home k e r p (length ws) q.store q.upstream (f w) new_pass begun; part = q; at = at_here; pass = p; begun = begun } in
          record {
            begun = all_snoc (λ i w. IsBegunOver k e r all i (f w)) 0 ws w (length ws) (omega arith) here.begun one;
            news = subst (λ (n : ℕ). AllFrom (IsNewPass e) n passes') (sym long) here.news.1;
            done = here.done ++ q ∷ [];
            whole = append_assoc here.done (q ∷ []) parts' ∙ whole_here;
            far = length_end here.done q ∙ (ap suc here.far ∙ sym long);
            many = omega (arith, many);
            count = omega (arith, long, count);
          }

      pub next_opening : (w : W) (ws' : List W) → IsBegunBy k e r p q.store q.upstream (f w) → ws' ≡ ws ++ w ∷ [] → AreOpening ws' passes' parts'
      next_opening w ws' begun more = subst (λ (l : List W). AreOpening l passes' parts') (sym more) (one_opening w begun)

      no_such_fault : (s : PartStore Store O) (n : ℕ) (fault : ClusterFault) → (fault ≡ Memory → ⊥) → ((t : Store) → IsNotOpened k e.size e.setup n t fault → ⊥) → IsNotBegun k e.size e.setup n s fault → ⊥
      no_such_fault (store.Ready t) n fault other never h = never t h
      no_such_fault (store.Late opener) n fault other never h = other h

      -- why it was not
      pub no_start : (fault : ClusterFault) → length all ≡ e.size → IsNotBegun k e.size e.setup (suc p.node) q.store fault → IsNoBeginning k e.size e.setup all fault
      no_start Memory many h = many
      no_start (NoNode n) many h = absurd (no_such_fault q.store (suc p.node) (NoNode n) (λ is. cc is) (λ t h. h) h)
      no_start Stopped many h = absurd (no_such_fault q.store (suc p.node) Stopped (λ is. cc is) (λ t h. h) h)
      no_start (Node fault) many h =
          (length ws, q, at_here, subst (λ (n : ℕ). IsNotBegun k e.size e.setup (suc n) q.store (Node fault)) new_pass.1 h)
      no_start Spent many h = absurd (no_such_fault q.store (suc p.node) Spent (λ is. cc is) (λ t h. h) h)

  pub all_opened : (ws : List W) (passes : List (Pass B L T)) (parts : List PartHere) → AreOpening ws passes parts → passes ≡ []
      → AllFrom (λ i w. IsBegunOver k e r all i (f w)) 0 ws × (length ws ≡ e.size)
  all_opened ws passes parts old none =
      let o = subst (λ (l : List (Pass B L T)). AreOpening ws l parts) none old in let count = o.count in (o.begun, omega (arith, count))

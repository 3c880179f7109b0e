-- Passes and records, gathered node by node.
use Rattle.std.proofs.Common.{◌≡◌, ◌<◌, ℕ, zero, suc, pred, ◌⊎◌, inl, inr, ⊎_elim, List, [], ◌∷◌, ◌++◌, length, map, refl, sym, ap, ◌∙◌, subst, arith}
use mathlib.Core.Option.{some-injective, some-ne-none}
use lib.ListN.{length-map}
use Rattle.raft_node.specs.Machine.{Machine}
use Rattle.world_views.specs.Own.{ViewOf}
use Rattle.world_views.specs.Views.{IsAt}
use Rattle.ether.specs.declared.pass.Pass.{Pass}
use Rattle.ether.specs.Passes.{EtherParts, IsOpenPass, IsPass, view_of}
use Rattle.ether.specs.Rule.{blank}
use Rattle.recorder.specs.NodeLines.{fields_of}
use Rattle.node_cells.specs.declared.record.Recording.{Recording}
use Rattle.node_cells.specs.declared.record.Recording.TheVariants.{On, Off}
use Rattle.node_cells.specs.Books.{IsRecordBy, NotedOf}
use Rattle.node_cells.specs.Cells.{view_in}
use Rattle.node_cells.specs.Groups.{AreLeftBy, ClosingParts, IsClosing, IsLeftBy, IsNextCell, RecordOf}
use Rattle.node_cells.specs.Openings.{IsClosed}
use Rattle.node_cells.specs.Turns.{CellOf}
use Rattle.node_cells.specs.Unopened.{IsEmptyRecord, IsNextUnopened, IsUntouched, UnopenedParts}

-- an item at a place is there in the list without its last item, or is that item
at_end : {A : Type 0} (xs : List A) (x y : A) (i : ℕ) → IsAt (xs ++ x ∷ []) i y → IsAt xs i y ⊎ ((i ≡ length xs) × (x ≡ y))
at_end [] x y zero e = inr (refl, some-injective x y e)
at_end [] x y (suc i) e = absurd (some-ne-none y (sym e))
at_end (z ∷ xs) x y zero e = inl e
at_end (z ∷ xs) x y (suc i) e = ⊎_elim inl (λ t. inr (ap suc t.0, t.1)) (at_end xs x y i e)

-- what holds for the items of two lists at each place, and for one more of each, holds for all
ends_alike : {V R : Type 0} (vs : List V) (rs : List R) → length rs ≡ length vs → (P : ℕ → V → R → Type 0)
    → ((i : ℕ) (v : V) (r : R) → IsAt vs i v → IsAt rs i r → P i v r) → (v' : V) (r' : R) → P (length vs) v' r'
    → (i : ℕ) (v : V) (r : R) → IsAt (vs ++ v' ∷ []) i v → IsAt (rs ++ r' ∷ []) i r → P i v r
ends_alike {V} {R} [] [] long P all v' r' last zero v r va ra = subst (λ (z : V × R). P 0 z.0 z.1) (λ d. (some-injective v' v va d, some-injective r' r ra d)) last
ends_alike [] [] long P all v' r' last (suc i) v r va ra = absurd (some-ne-none v (sym va))
ends_alike [] (y ∷ rs) long P all v' r' last i v r va ra = absurd (cc long)
ends_alike (x ∷ vs) [] long P all v' r' last i v r va ra = absurd (cc long)
ends_alike (x ∷ vs) (y ∷ rs) long P all v' r' last zero v r va ra = all zero v r va ra
ends_alike (x ∷ vs) (y ∷ rs) long P all v' r' last (suc i) v r va ra =
    ends_alike vs rs (ap pred long) (λ k. P (suc k)) (λ k w s wa sa. all (suc k) w s wa sa) v' r' last i v r va ra

length_end : {A B : Type 0} (xs : List A) (ys : List B) (x : A) (y : B) → length xs ≡ length ys → length (xs ++ x ∷ []) ≡ length (ys ++ y ∷ [])
length_end [] [] x y e = refl
length_end [] (b ∷ ys) x y e = absurd (cc e)
length_end (a ∷ xs) [] x y e = absurd (cc e)
length_end (a ∷ xs) (b ∷ ys) x y e = ap suc (length_end xs ys x y (ap pred e))

map_end : {A B : Type 0} (f : A → B) (xs : List A) (x : A) → map f (xs ++ x ∷ []) ≡ map f xs ++ f x ∷ []
map_end f [] x = refl
map_end f (y ∷ xs) x = ap (λ l. f y ∷ l) (map_end f xs x)

module _ {Setup B L T : Type 0} where
  -- there are as many passes as views
  pub as_many : (e : EtherParts Setup) (recording : Recording) (ps : List (Pass B L T)) (d : ClosingParts Setup B L T) → record { ether = e; recording = recording; views = map view_of ps } ≡ d → length ps ≡ length d.views
  as_many e recording ps d is = sym (length-map ps view_of) ∙ ap (λ (z : ClosingParts Setup B L T). length z.views) is

  pub has_room : (e : EtherParts Setup) (recording : Recording) (ps : List (Pass B L T)) (d : ClosingParts Setup B L T) → record { ether = e; recording = recording; views = map view_of ps } ≡ d → length d.views < d.ether.size → length ps < e.size
  has_room e recording ps d is few = omega (arith, as_many e recording ps d is, ap (λ (z : ClosingParts Setup B L T). z.ether.size) is, few)

module _ (M : Machine) {Setup : Type 0} (e : EtherParts Setup) (recording : Recording) (ps : List (Pass M.Body M.Line M.Target)) (rs : List (RecordOf M)) where
  -- one more pass and record, of the next node
  one_more : (p : Pass M.Body M.Line M.Target) (r : RecordOf M) → IsClosing M e recording ps rs → IsPass e p → p.node ≡ length ps → IsLeftBy M recording (length (map view_of ps)) (view_of p) r
      → IsClosing M e recording (ps ++ p ∷ []) (rs ++ r ∷ [])
  one_more p r h pass node last =
      record {
        passes_are = λ i q at. ⊎_elim
            (λ (old : IsAt ps i q). h.passes_are i q old)
            (λ (here : (i ≡ length ps) × (p ≡ q)). subst (λ (z : Pass M.Body M.Line M.Target). IsPass e z × (z.node ≡ i)) here.1 (pass, node ∙ sym here.0))
            (at_end ps p q i at);
        left = subst (λ (vs : List (ViewOf M)). AreLeftBy M recording vs (rs ++ r ∷ [])) (sym (map_end view_of ps p))
            (record {
              many = length_end rs (map view_of ps) r (view_of p) h.left.many;
              each = ends_alike (map view_of ps) rs h.left.many (IsLeftBy M recording) h.left.each (view_of p) r last;
            });
      }

module _ (M : Machine) {Setup Hosted Store U : Type 0} where
  -- one more node's pass and record
  pub closed_next : (e : EtherParts Setup) (recording : Recording) (ps : List (Pass M.Body M.Line M.Target)) (rs : List (RecordOf M)) (d : ClosingParts Setup M.Body M.Line M.Target)
      (c : CellOf M Setup Hosted Store U) (p : Pass M.Body M.Line M.Target) (r : RecordOf M)
      → record { ether = e; recording = recording; views = map view_of ps } ≡ d → IsClosing M e recording ps rs → IsNextCell d c → p ≡ c.pass → IsOpenPass c.ether p → IsClosed M c r
      → IsClosing M e recording (ps ++ p ∷ []) (rs ++ r ∷ [])
  closed_next e recording ps rs d c p r is h next same mine closed =
      let alike : c.recording ≡ recording = next.recording ∙ sym (ap (λ (z : ClosingParts Setup M.Body M.Line M.Target). z.recording) is) in
      let ether : c.ether ≡ e = next.ether ∙ sym (ap (λ (z : ClosingParts Setup M.Body M.Line M.Target). z.ether) is) in
      let pass : IsPass e p = subst (λ (z : EtherParts Setup). IsPass z p) ether mine.0 in
      let viewed : view_of p ≡ view_in c = ap view_of same in
      let node : p.node ≡ length ps = sym mine.0.node ∙ (ap (λ (v : ViewOf M). v.node) viewed ∙ (next.node ∙ sym (as_many e recording ps d is))) in
      let place : length ps ≡ length (map view_of ps) = sym (length-map ps view_of) in
      let last : IsLeftBy M recording (length (map view_of ps)) (view_of p) r =
      record {
        node = closed.node ∙ ap suc (sym (ap (λ (q : Pass M.Body M.Line M.Target). q.node) same) ∙ (node ∙ place));
        recorded = subst (λ (z : Recording × ViewOf M). IsRecordBy M z.0 z.1 r.turns.items) (λ i. (alike i, sym viewed i)) closed.recorded;
        state = λ honest. closed.state (ap (λ (v : ViewOf M). v.honest) (sym viewed) ∙ honest) ∙ ap (λ (v : ViewOf M). fields_of v.state) (sym viewed);
      } in
      one_more M e recording ps rs p r h pass node last

module _ (M : Machine) where
  -- nothing is recorded of a node to which nothing happened
  no_turns : (recording : Recording) (size node : ℕ) → IsRecordBy M recording (blank size node) []
  no_turns On size node = record { turns_are = refl; outs_are = λ honest. refl }
  no_turns Off size node = refl

  -- one more node's pass and record, if the node was never opened
  pub unopened_next : {Setup U : Type 0} (e : EtherParts Setup) (recording : Recording) (ps : List (Pass M.Body M.Line M.Target)) (rs : List (RecordOf M)) (d : ClosingParts Setup M.Body M.Line M.Target)
      (u : UnopenedParts Setup M.Body M.Line M.Target U) (p : Pass M.Body M.Line M.Target) (r : RecordOf M)
      → record { ether = e; recording = recording; views = map view_of ps } ≡ d → IsClosing M e recording ps rs → IsNextUnopened d u → p ≡ u.pass → IsUntouched u.ether p
      → IsEmptyRecord M u.ether.size (suc u.pass.node) r → IsClosing M e recording (ps ++ p ∷ []) (rs ++ r ∷ [])
  unopened_next {Setup} e recording ps rs d u p r is h next same mine empty =
      let ether : u.ether ≡ e = next.ether ∙ sym (ap (λ (z : ClosingParts Setup M.Body M.Line M.Target). z.ether) is) in
      let pass : IsPass e p = subst (λ (z : EtherParts Setup). IsPass z p) ether mine.pass in
      let near : p.node ≡ u.pass.node = ap (λ (q : Pass M.Body M.Line M.Target). q.node) same in
      let viewed : view_of p ≡ view_of u.pass = ap view_of same in
      let node : p.node ≡ length ps = sym mine.pass.node ∙ (ap (λ (v : ViewOf M). v.node) viewed ∙ (next.node ∙ sym (as_many e recording ps d is))) in
      let place : length ps ≡ length (map view_of ps) = sym (length-map ps view_of) in
      let last : IsLeftBy M recording (length (map view_of ps)) (view_of p) r =
      record {
        node = empty.node_is ∙ ap suc (sym near ∙ (node ∙ place));
        recorded = subst (λ (z : ViewOf M × List (NotedOf M)). IsRecordBy M recording z.0 z.1) (λ i. (sym mine.view i, sym empty.turns i)) (no_turns recording u.ether.size p.node);
        state = λ honest. empty.state ∙ ap (λ (v : ViewOf M). fields_of v.state) (sym mine.view);
      } in
      one_more M e recording ps rs p r h pass node last

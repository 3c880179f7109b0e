-- A cell as it is opened, after a look into a mailbox, after it met another, with more room, and as it is closed.
use Rattle.std.proofs.Common.{◌≡◌, ℕ, suc, ◌≤◌, Bool, List, [], ◌∷◌, length, Option, Some, None, Result, Ok, Err, refl, sym, ap, ◌∙◌, subst, arith}
use Rattle.std.specs.Result.{MatchResult}
use Rattle.atomic_table.proofs.Lists.{at_longer}
use Rattle.raft_log.specs.Node.{Node}
use Rattle.raft_log.specs.Seen.{seen}
use Rattle.recorder.specs.declared.node_line.NodeFields.{NodeFields}
use Rattle.recorder.specs.NodeLines.{fields_of}
use Rattle.raft_node.specs.Machine.{Machine}
use Rattle.raft_node.specs.Parts.{Keeper}
use Rattle.raft_node.specs.Starting.{IsFirst}
use Rattle.world_views.specs.declared.envelope.Envelope.{Envelope}
use Rattle.world_views.specs.Own.{ViewOf}
use Rattle.world_views.specs.Views.{View}
use Rattle.ether.specs.declared.pass.Pass.{Pass}
use Rattle.ether.specs.Passes.{EtherParts, IsOpenPass, view_of}
use Rattle.ether.specs.Plays.{after_opening, after_take}
use Rattle.node_cells.specs.declared.cell_fault.CellFault.{CellFault}
use Rattle.node_cells.specs.declared.cell_fault.CellFault.TheVariants.{Memory, Spent, Node as OfNode}
use Rattle.node_cells.specs.declared.phase.Phase.{Phase}
use Rattle.node_cells.specs.declared.phase.Phase.TheVariants.{Up}
use Rattle.node_cells.specs.declared.record.NodeRecord.{NodeRecord}
use Rattle.node_cells.specs.declared.record.Recording.{Recording}
use Rattle.node_cells.specs.declared.record.Recording.TheVariants.{On, Off}
use Rattle.node_cells.specs.Books.{BookParts, HasNoRoom, HasRoom, HasSeen, HasTaken, IsBook, IsRecordBy, IsSameBook, IsSameBut, NotedOf}
use Rattle.node_cells.specs.Cells.{HasCopies, HasHeard, IsCell, IsIn, Shows, brought, cell_of, view_in}
use Rattle.node_cells.specs.Openings.{IsClosed, IsFresh}
use Rattle.node_cells.specs.Sending.{KnowsOneOf}
use Rattle.node_cells.specs.Turns.{CellOf}
use Rattle.node_cells.proofs.Recorded.{Book, Kept, book_of}
use Rattle.node_cells.proofs.Sending.{none_known}
use Rattle.node_cells.proofs.Showing.{Inner}

module _ {B L T : Type 0} where
  -- what a look into a mailbox leaves of a view
  pub record Took (v w : View B L T) : Type 0 where
    pub size : w.size ≡ v.size
    pub node : w.node ≡ v.node
    pub honest : w.honest ≡ v.honest
    pub state : w.state ≡ v.state
    pub heard : (o : Option (Envelope B)) → HasHeard v o → HasHeard w o

  took : (v : View B L T) (came : Option (Envelope B)) → Took v (after_take v came)
  took v None = record { size = refl; node = refl; honest = refl; state = refl; heard = λ o h. h }
  took v (Some e) =
      record { size = refl; node = refl; honest = refl; state = refl; heard = λ o h m is. let r = h m is in (r.0, at_longer v.heard (e ∷ []) r.0 m r.1) }

module _ {Setup B L T E P : Type 0} where
  -- whether there is room or not, the book is the same except for the room
  pub same_but : (old new : BookParts Setup B L T E P) (count : ℕ) (r : Result (Unit {0}) CellFault) → MatchResult r (λ _. HasRoom old count new) (λ e. HasNoRoom old count e new) → IsSameBut old new
  same_but old new count (Ok done) h = h.same
  same_but old new count (Err Memory) h = h.0
  same_but old new count (Err Spent) h = h.0
  same_but old new count (Err (OfNode fault)) h = absurd h

module _ (M : Machine) {Setup Hosted Store : Type 0} (k : Keeper Store M.Body) where
  -- ---- an opening
  module _ (b : Book M Setup) (pass : Pass M.Body M.Line M.Target) (n : Inner M Setup Hosted Store) (t : ℕ) (store : Store)
      (first : IsFirst k (suc pass.node) b.ether.size b.ether.setup store n) (none : b.turns ≡ []) (opened : IsOpenPass b.ether b.pass) (place : b.pass.node ≡ pass.node)
      (view : view_of b.pass ≡ after_opening (view_of pass) t (k.condition n.store).honest (seen n.state [])) (new : (view_of pass).turns ≡ []) where
    abbrev w : ViewOf M
    w = record (view_of pass) { honest = (k.condition n.store).honest; opened = Some (t, seen n.state []); turns = []; state = seen n.state [] }

    as_new : view_of b.pass ≡ w
    as_new = view ∙ (λ d. record w { turns = new d })

    none_recorded : (r : Recording) → IsRecordBy M r w []
    none_recorded On = record { turns_are = refl; outs_are = λ honest. refl }
    none_recorded Off = refl

    kept : Kept M b.recording w []
    kept = record { opened = ((t, seen n.state []), refl); state = refl; recorded = none_recorded b.recording }

    pub fresh_book : b.sent ≡ 0 → b.ether.size ≤ 7 → IsBook M b
    fresh_book sent small =
        book_of M b.ether b.recording b.pass b.turns b.sent opened (subst (λ (z : ViewOf M × List (NotedOf M)). Kept M b.recording z.0 z.1) (λ d. (sym as_new d, sym none d)) kept) (omega (arith, sent)) small

    state_is : (view_of b.pass).state ≡ seen n.state []
    state_is = ap (λ (v : ViewOf M). v.state) as_new

    pub fresh_cell : {U : Type 0} → b.sent ≡ 0 → b.ether.size ≤ 7 → (u : U) (line : NodeFields) → line ≡ fields_of (seen n.state []) → IsCell M k (cell_of b n u Up 0 line)
    fresh_cell sent small u line shown =
        record {
          book = fresh_book sent small;
          id = first.id_is ∙ ap suc (sym place);
          size = first.begins.3;
          setup = first.setup_is;
          honest = ap (λ (v : ViewOf M). v.honest) as_new;
          leader = none_known b.ether.size (seen n.state []).leader (ap (λ (s : Node M.Body). s.leader) (first.begins.2 []));
          heard = λ m e. absurd (cc e);
          together = tt;
          copied = tt;
          up = λ p. first.is_up;
          refused = λ p. refl;
          counted = λ honest. sent ∙ ap (λ (s : Node M.Body). length s.sent) (sym state_is);
          shown = λ honest. shown ∙ ap (λ (s : Node M.Body). fields_of s) (sym state_is);
          shows = λ honest. (subst (λ (s : Node M.Body). IsIn n.state s) (sym state_is) refl, first.is_up);
        }

    pub fresh : {U : Type 0} (u : U) (line : NodeFields) → IsFresh k b.ether pass store u b.recording (cell_of b n u Up 0 line)
    fresh u line =
        record { ticket = t; started = first; view = view; node = place; ether_is = refl; upstream_is = refl; recording_is = refl; turns = none; is_up = refl }

  -- ---- a look into a mailbox
  looked_cell : {U : Type 0} (b0 b1 : Book M Setup) (q : Inner M Setup Hosted Store) (u : U) (p : Phase M.Body M.Line M.Target) (r : ℕ) (line : NodeFields) → IsCell M k (cell_of b0 q u p r line)
      → Took (view_of b0.pass) (view_of b1.pass) → b1.pass.node ≡ b0.pass.node → b1.ether ≡ b0.ether → b1.sent ≡ b0.sent → b1.recording ≡ b0.recording → IsBook M b1 → IsCell M k (cell_of b1 q u p r line)
  looked_cell b0 b1 q u p r line h tk node ether sent recording book =
      record {
        book = book;
        id = h.id ∙ ap suc (sym node);
        size = h.size ∙ ap (λ (z : EtherParts Setup). z.size) (sym ether);
        setup = h.setup ∙ ap (λ (z : EtherParts Setup). z.setup) (sym ether);
        honest = tk.honest ∙ h.honest;
        leader = subst (λ (z : EtherParts Setup). KnowsOneOf z.size (seen q.state [])) (sym ether) h.leader;
        heard = tk.heard (brought p) h.heard;
        together = h.together;
        copied = subst (λ (z : Recording). HasCopies z p) (sym recording) h.copied;
        up = h.up;
        refused = h.refused;
        counted = λ is. sent ∙ h.counted (sym tk.honest ∙ is) ∙ ap (λ (s : Node M.Body). length s.sent) (sym tk.state);
        shown = λ is. h.shown (sym tk.honest ∙ is) ∙ ap (λ (s : Node M.Body). fields_of s) (sym tk.state);
        shows = λ is. subst (λ (z : (ℕ × ℕ) × Node M.Body). Shows M k z.0.0 (suc z.0.1) z.1 p r q) (λ d. ((sym tk.size d, sym tk.node d), sym tk.state d)) (h.shows (sym tk.honest ∙ is));
      }

  pub taken_cell : {U : Type 0} (b0 b1 : Book M Setup) (q : Inner M Setup Hosted Store) (u : U) (p : Phase M.Body M.Line M.Target) (r : ℕ) (line : NodeFields) (from : ℕ) (came : Option (Envelope M.Body))
      → IsCell M k (cell_of b0 q u p r line) → HasTaken b0 from came b1 → IsBook M b1 → IsCell M k (cell_of b1 q u p r line)
  taken_cell b0 b1 q u p r line from came h t book =
      let tk : Took (view_of b0.pass) (view_of b1.pass) = subst (λ (v : ViewOf M). Took (view_of b0.pass) v) (sym t.view) (took (view_of b0.pass) came) in
      looked_cell b0 b1 q u p r line h tk t.node t.ether t.sent t.recording book

  pub seen_cell : {U : Type 0} (b0 b1 : Book M Setup) (q : Inner M Setup Hosted Store) (u : U) (p : Phase M.Body M.Line M.Target) (r : ℕ) (line : NodeFields) (to : ℕ) (taken : Bool)
      → IsCell M k (cell_of b0 q u p r line) → HasSeen b0 to taken b1 → IsBook M b1 → IsCell M k (cell_of b1 q u p r line)
  seen_cell b0 b1 q u p r line to taken h t book =
      let tk : Took (view_of b0.pass) (view_of b1.pass) = subst (λ (v : ViewOf M). Took (view_of b0.pass) v) (sym t.view) (took (view_of b0.pass) None) in
      looked_cell b0 b1 q u p r line h tk t.node t.ether t.sent t.recording book

  -- ---- a meeting
  pub met_cell : {U : Type 0} (b0 b1 : Book M Setup) (q : Inner M Setup Hosted Store) (u : U) (p : Phase M.Body M.Line M.Target) (r : ℕ) (line : NodeFields)
      → IsCell M k (cell_of b0 q u p r line) → IsSameBook b0 b1 → IsBook M b1 → IsCell M k (cell_of b1 q u p r line)
  met_cell b0 b1 q u p r line h t book =
      let tk : Took (view_of b0.pass) (view_of b1.pass) = subst (λ (v : ViewOf M). Took (view_of b0.pass) v) (sym t.view) (took (view_of b0.pass) None) in
      looked_cell b0 b1 q u p r line h tk t.node t.ether t.sent t.recording book

  -- ---- a close
  pub closed_cell : {U : Type 0} (c : CellOf M Setup Hosted Store U) (r : NodeRecord M.Body M.Line M.Target M.Effect M.Played) → IsCell M k c → r.node ≡ c.node.id → r.turns.items ≡ c.turns → r.state ≡ c.shown → IsClosed M c r
  closed_cell c r h node turns state =
      record {
        node = node ∙ h.id;
        turns = turns;
        recorded = subst (λ (l : List (NotedOf M)). IsRecordBy M c.recording (view_in c) l) (sym turns) h.book.recorded;
        state = λ honest. state ∙ h.shown honest;
      }

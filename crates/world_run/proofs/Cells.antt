-- Groups of nodes one of which changes.
use Rattle.std.proofs.Common.{◌≡◌, ℕ, zero, suc, ◌+◌, ◌-◌, ◌<◌, ◌≤◌, List, [], ◌∷◌, ◌++◌, length, take, replicate, get_or, set, option_map, ◌⊎◌, inr, ⊎_elim, refl, sym, ap, ◌∙◌, subst, arith}
use Rattle.std.proofs.lemmas.List.{map-set, map-append, length-set, length-map, length-append, replicate-append-replicate}
use Rattle.std.proofs.lemmas.Option.{slice_get-map, slice_get-get_or}
use Rattle.std.specs.Prelude.{Option, Some, None, Result, Ok, Err, IfOk, slice_get}
use Rattle.raft_log.specs.declared.message.Message.{Message}
use Rattle.raft_log.specs.Lists.{item, with_item}
use Rattle.raft_log.specs.Node.{Node}
use Rattle.raft_node.specs.Machine.{Machine}
use Rattle.raft_node.specs.Parts.{size_of}
use Rattle.raft_node.specs.Steps.{Own, Turn, own}
use Rattle.agreement.specs.World.{committed, committed_of, sent_of}
use Rattle.world_run.specs.declared.outcome.Outcome.{Outcome}
use Rattle.world_run.specs.declared.outcome.Outcome.TheVariants.{Missing}
use Rattle.world_run.specs.Groups.{AreCells, CellParts, HasOwned, HasOwnedAt, IsCell, IsGroup, IsNodeOf, IsStillUp, node_in, nodes_in}
use Rattle.world_run.specs.Told.{out_of}
use Rattle.world_run.specs.World as world

back : (k : ℕ) → k ≡ suc k - 1
back k = omega arith

pub message_at : {B : Type 0} (ms : List (Message B)) (number : ℕ) (m : Message B) → (number ≡ 0 → ⊥) → number ≤ length ms → m ≡ get_or ms (number - 1) m → Some m ≡ item ms number
message_at {B = B} ms zero m pos le e = absurd (pos refl)
message_at {B = B} ms (suc k) m pos le e =
    ap (λ x. let s : Option (Message B) = Some x in s) (e ∙ ap (λ (n : ℕ). get_or ms n m) (sym (back k))) ∙ sym (slice_get-get_or ms k m (omega (arith, le)))

pub no_message_at : {B : Type 0} (ms : List (Message B)) (number : ℕ) → (number ≡ 0) ⊎ ((number ≡ 0 → ⊥) × (length ms < number)) → None ≡ item ms number
no_message_at ms zero h = refl
no_message_at [] (suc k) h = refl
no_message_at (m ∷ ms) (suc zero) h = ⊎_elim (λ e. absurd (omega (arith, e))) (λ p. absurd (omega (arith, p.1))) h
no_message_at (m ∷ ms) (suc (suc k)) h =
    no_message_at ms (suc k) (inr ((λ e. absurd (omega (arith, e))), ⊎_elim (λ e. absurd (omega (arith, e))) (λ p. omega (arith, p.1)) h))

module _ {Setup Hosted Store B : Type 0} where
  one : (setup : Setup) (size a k : ℕ) (cells : List (CellParts Setup Hosted Store B)) (d : CellParts Setup Hosted Store B) → k < length cells → AreCells setup size a cells → IsCell setup size (a + k) (get_or cells k d)
  one setup size a k [] d lt h = absurd (omega (arith, lt))
  one setup size a zero (c ∷ cells) d lt h = record { id_is = h.0.id_is ∙ omega arith; size_is = h.0.size_is; setup_is = h.0.setup_is; is_up = h.0.is_up }
  one setup size a (suc k) (c ∷ cells) d lt h =
      let r = one setup size (suc a) k cells d (omega (arith, lt)) h.1 in
      record { id_is = r.id_is ∙ omega arith; size_is = r.size_is; setup_is = r.setup_is; is_up = r.is_up }

  other : (setup : Setup) (size a k : ℕ) (cells : List (CellParts Setup Hosted Store B)) (c : CellParts Setup Hosted Store B) → IsCell setup size (a + k) c → AreCells setup size a cells → AreCells setup size a (set cells k c)
  other setup size a k [] c i h = tt
  other setup size a zero (x ∷ cells) c i h = (record { id_is = i.id_is ∙ omega arith; size_is = i.size_is; setup_is = i.setup_is; is_up = i.is_up }, h.1)
  other setup size a (suc k) (x ∷ cells) c i h =
      (h.0, other setup size (suc a) k cells c (record { id_is = i.id_is ∙ omega arith; size_is = i.size_is; setup_is = i.setup_is; is_up = i.is_up }) h.1)

  -- the node of a number
  pub cell_at : (setup : Setup) (size i : ℕ) (cells : List (CellParts Setup Hosted Store B)) (c : CellParts Setup Hosted Store B)
      → IsGroup setup size cells → (i ≡ 0 → ⊥) → i ≤ length cells → c ≡ get_or cells (i - 1) c → IsCell setup size i c
  cell_at setup size zero cells c g pos le e = absurd (pos refl)
  cell_at setup size (suc k) cells c g pos le e =
      let r = one setup size 1 k cells c (omega (arith, le)) g.0 in
      let at : get_or cells k c ≡ c = ap (λ (n : ℕ). get_or cells n c) (back k) ∙ sym e in
      subst (λ (x : CellParts Setup Hosted Store B). IsCell setup size (suc k) x) at (record { id_is = r.id_is ∙ omega arith; size_is = r.size_is; setup_is = r.setup_is; is_up = r.is_up })

  -- with another state of it
  group_with : (setup : Setup) (size i : ℕ) (cells : List (CellParts Setup Hosted Store B)) (c new : CellParts Setup Hosted Store B)
      → IsGroup setup size cells → (i ≡ 0 → ⊥) → IsCell setup size i c → IsStillUp c new → IsGroup setup size (set cells (i - 1) new)
  group_with setup size zero cells c new g pos is up = absurd (pos refl)
  group_with setup size (suc k) cells c new g pos is up =
      let at : IsGroup setup size (set cells k new) =
      (other setup size 1 k cells new (record { id_is = up.id ∙ (is.id_is ∙ omega arith); size_is = up.size ∙ is.size_is; setup_is = up.setup ∙ is.setup_is; is_up = up.is_up }) g.0, length-set cells k new ∙ g.1) in
      subst (λ (n : ℕ). IsGroup setup size (set cells n new)) (back k) at

  item_in : (cells : List (CellParts Setup Hosted Store B)) (k : ℕ) (d : CellParts Setup Hosted Store B) → k < length cells → slice_get (nodes_in cells) k ≡ Some (node_in (get_or cells k d))
  item_in cells k d lt = slice_get-map node_in cells k ∙ ap (λ (o : Option (CellParts Setup Hosted Store B)). option_map node_in o) (slice_get-get_or cells k d lt)

  none_in : (cells : List (CellParts Setup Hosted Store B)) (k : ℕ) → length cells ≤ k → slice_get (nodes_in cells) k ≡ None
  none_in [] k le = refl
  none_in (c ∷ cells) zero le = absurd (omega (arith, le))
  none_in (c ∷ cells) (suc k) le = none_in cells k (omega (arith, le))

  pub none_at : (i : ℕ) (cells : List (CellParts Setup Hosted Store B)) → (i ≡ 0) ⊎ (length cells < i) → item (nodes_in cells) i ≡ None
  none_at zero cells h = refl
  none_at (suc k) cells h = none_in cells k (⊎_elim (λ e. absurd (omega (arith, e))) (λ lt. omega (arith, lt)) h)

  node_at : (i : ℕ) (cells : List (CellParts Setup Hosted Store B)) (c : CellParts Setup Hosted Store B) → 1 ≤ i → i ≤ length cells → c ≡ get_or cells (i - 1) c
      → item (nodes_in cells) i ≡ Some (node_in c)
  node_at zero cells c pos le e = absurd (omega (arith, pos))
  node_at (suc k) cells c pos le e =
      let at : get_or cells k c ≡ c = ap (λ (n : ℕ). get_or cells n c) (back k) ∙ sym e in
      item_in cells k c (omega (arith, le)) ∙ ap (λ (x : CellParts Setup Hosted Store B). let s : Option (Node B) = Some (node_in x) in s) at

  -- the messages that a node sent
  pub sent_at : (i number : ℕ) (cells : List (CellParts Setup Hosted Store B)) (c : CellParts Setup Hosted Store B) (ms : List (Message B)) → 1 ≤ i → i ≤ length cells → c ≡ get_or cells (i - 1) c
      → ms ≡ c.sent → item ms number ≡ sent_of (item (nodes_in cells) i) number
  sent_at i number cells c ms pos le e all =
      ap (λ (l : List (Message B)). item l number) all ∙ ap (λ (s : Option (Node B)). sent_of s number) (sym (node_at i cells c pos le e))

  pub no_sender_at : (i number : ℕ) (cells : List (CellParts Setup Hosted Store B)) → length cells < i → None ≡ sent_of (item (nodes_in cells) i) number
  no_sender_at zero number cells lt = refl
  no_sender_at (suc k) number cells lt = ap (λ (s : Option (Node B)). sent_of s number) (sym (none_in cells k (omega (arith, lt))))

  -- what the node of a number commits
  pub committed_at : (i : ℕ) (cells : List (CellParts Setup Hosted Store B)) (c : CellParts Setup Hosted Store B) → (i ≡ 0 → ⊥) → i ≤ length cells → c ≡ get_or cells (i - 1) c
      → take c.node.state.standing.commit c.node.state.log ≡ committed (nodes_in cells) i
  committed_at zero cells c pos le e = absurd (pos refl)
  committed_at (suc k) cells c pos le e = ap (λ (s : Option (Node B)). committed_of s) (sym (node_at (suc k) cells c (omega arith) le e))

  -- what the node of a number is
  pub state_at : (i : ℕ) (cells : List (CellParts Setup Hosted Store B)) (c : CellParts Setup Hosted Store B) → (i ≡ 0 → ⊥) → i ≤ length cells → c ≡ get_or cells (i - 1) c
      → IsNodeOf (nodes_in cells) i c.node.state
  state_at zero cells c pos le e = absurd (pos refl)
  state_at (suc k) cells c pos le e = (c.sent, node_at (suc k) cells c (omega arith) le e)

module _ (M : Machine) {Setup Hosted Store : Type 0} where
  -- what happened to the node of a number
  owned_at : (o : Own M) (setup : Setup) (size i : ℕ) (cells : List (CellParts Setup Hosted Store M.Body)) (c new : CellParts Setup Hosted Store M.Body) (out : Outcome M.Effect M.Played)
      → IsGroup setup size cells → (i ≡ 0 → ⊥) → i ≤ length cells → c ≡ get_or cells (i - 1) c → IsCell setup size i c → HasOwned M o c new out
      → HasOwnedAt M i o cells (set cells (i - 1) new) out
  owned_at o setup size zero cells c new out g pos le e is h = absurd (pos refl)
  owned_at o setup size (suc k) cells c new out g pos le e is h =
      let w : List (Node M.Body) = nodes_in cells in
      let at : get_or cells k c ≡ c = ap (λ (n : ℕ). get_or cells n c) (back k) ∙ sym e in
      let there : item w (suc k) ≡ Some (node_in c) = item_in cells k c (omega (arith, le)) ∙ ap (λ (x : CellParts Setup Hosted Store M.Body). let s : Option (Node M.Body) = Some (node_in x) in s) at in
      let long : length w ≡ size_of c.node.state = length-map cells node_in ∙ (g.1 ∙ sym is.size_is) in
      let turn : own M (length w) (suc k) o (node_in c) ≡ record { node = node_in new; out = out_of M out } =
      ap (λ (n : ℕ). own M n (suc k) o (node_in c)) long ∙ (ap (λ (n : ℕ). own M (size_of c.node.state) n o (node_in c)) (sym is.id_is) ∙ h.comes) in
      let done : HasOwnedAt M (suc k) o cells (set cells k new) out = record {
        nodes = map-set node_in cells k new
            ∙ (ap (λ (t : Turn M). with_item w (suc k) t.node) (sym turn)
            ∙ ap (λ (s : Option (Node M.Body)). world.world_by M w (suc k) o s) (sym there));
        comes = ap (λ (t : Turn M). t.out) (sym turn) ∙ ap (λ (s : Option (Node M.Body)). world.out_by M w (suc k) o s) (sym there);
      } in
      subst (λ (n : ℕ). HasOwnedAt M (suc k) o cells (set cells n new) out) (back k) done

  -- there is no such node
  pub missing_at : (o : Own M) (i : ℕ) (cells : List (CellParts Setup Hosted Store M.Body)) → (i ≡ 0) ⊎ (length cells < i) → HasOwnedAt M i o cells cells Missing
  missing_at o i cells h =
      let none : item (nodes_in cells) i ≡ None = none_at i cells h in
      record {
        nodes = ap (λ (s : Option (Node M.Body)). world.world_by M (nodes_in cells) i o s) (sym none);
        comes = ap (λ (s : Option (Node M.Body)). world.out_by M (nodes_in cells) i o s) (sym none);
      }

  -- a call that did not fail changed the state of one of the nodes
  pub group_after : {E : Type 0} (o : Own M) (setup : Setup) (size i : ℕ) (cells : List (CellParts Setup Hosted Store M.Body)) (c new : CellParts Setup Hosted Store M.Body) (r : Result (Outcome M.Effect M.Played) E)
      → IsGroup setup size cells → (i ≡ 0 → ⊥) → IsCell setup size i c → IfOk r (HasOwned M o c new) → IfOk r (λ _. IsGroup setup size (set cells (i - 1) new))
  group_after o setup size i cells c new (Ok out) g pos is h = group_with setup size i cells c new g pos is h.still_up
  group_after o setup size i cells c new (Err e) g pos is h = tt

  pub owned_after : {E : Type 0} (o : Own M) (setup : Setup) (size i : ℕ) (cells : List (CellParts Setup Hosted Store M.Body)) (c new : CellParts Setup Hosted Store M.Body) (r : Result (Outcome M.Effect M.Played) E)
      → IsGroup setup size cells → (i ≡ 0 → ⊥) → i ≤ length cells → c ≡ get_or cells (i - 1) c → IsCell setup size i c → IfOk r (HasOwned M o c new)
      → IfOk r (HasOwnedAt M i o cells (set cells (i - 1) new))
  owned_after o setup size i cells c new (Ok out) g pos le e is h = owned_at o setup size i cells c new out g pos le e is h
  owned_after o setup size i cells c new (Err x) g pos le e is h = tt

module _ {Setup Hosted Store B : Type 0} where
  last_too : (setup : Setup) (size a k : ℕ) (cells : List (CellParts Setup Hosted Store B)) (c : CellParts Setup Hosted Store B) → AreCells setup size a cells → k ≡ a + length cells → IsCell setup size k c
      → AreCells setup size a (cells ++ c ∷ [])
  last_too setup size a k [] c h e i = (record { id_is = i.id_is ∙ (e ∙ omega arith); size_is = i.size_is; setup_is = i.setup_is; is_up = i.is_up }, tt)
  last_too setup size a k (x ∷ cells) c h e i = (h.0, last_too setup size (suc a) k cells c h.1 (omega (arith, e)) i)

  -- a group grows by its next node
  pub one_more : (setup : Setup) (size n k : ℕ) (cells new : List (CellParts Setup Hosted Store B)) (c : CellParts Setup Hosted Store B) (fresh : Node B) → new ≡ cells ++ c ∷ []
      → length cells ≡ n → AreCells setup size 1 cells → nodes_in cells ≡ replicate n fresh → k ≡ n + 1 → IsCell setup size k c → node_in c ≡ fresh
      → (length new ≡ n + 1) × AreCells setup size 1 new × (nodes_in new ≡ replicate (n + 1) fresh)
  one_more setup size n k cells new c fresh e len all same ke is runs = (
    ap length e ∙ (length-append cells (c ∷ []) ∙ ap (λ (m : ℕ). m + 1) len),
    subst (λ (l : List (CellParts Setup Hosted Store B)). AreCells setup size 1 l) (sym e) (last_too setup size 1 k cells c all (omega (arith, ke, len)) is),
    ap nodes_in e ∙ (map-append node_in cells (c ∷ []) ∙ (ap (λ (l : List (Node B)). l ++ node_in c ∷ []) same ∙ (ap (λ (x : Node B). replicate n fresh ++ x ∷ []) runs ∙ replicate-append-replicate n 1 fresh))),
  )

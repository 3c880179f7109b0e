-- What is found by its number, from 1.
use Rattle.std.proofs.Common.{◌≡◌, ◌⊎◌, ⊎_elim, ℕ, zero, suc, ◌<◌, List, [], length, get_or, option_map, refl, sym, ap, ◌∙◌, arith}
use Rattle.std.proofs.lemmas.Option.{slice_get-get_or, slice_get_past, slice_get-map}
use Rattle.std.specs.Prelude.{Option, Some, None}
use Rattle.std.specs.Global.{Vec}
use Rattle.raft_log.specs.declared.message.Message.{Message}
use Rattle.raft_log.specs.declared.node_state.NodeState.{NodeState}
use Rattle.raft_log.specs.Lists.{item}
use Rattle.raft_log.specs.Node.{Node}
use Rattle.raft_log.specs.Seen.{seen}
use Rattle.agreement.specs.World.{sent_of}
use Rattle.world_run.specs.Groups.{CellParts, node_in, nodes_in}
use Rattle.world_run.proofs.Cells.{none_at}
use Rattle.world_app.specs.declared.diagram.NodeView.{NodeView}
use Rattle.world_app.specs.declared.delivered.Delivery.{Delivery}
use Rattle.world_app.specs.Delivered.{delivery_by}
use Rattle.world_app.specs.Diagrams.{count_of, sent_count, view_of}
use Rattle.world_app.specs.SendingRows.{items_of, row_in}

module _ {A : Type 0} where
  pub found : (xs : List A) (number index : ℕ) (x : A) → number ≡ suc index → index < length xs → x ≡ get_or xs index x → item xs number ≡ Some x
  found xs number index x is lt at =
      ap (λ (n : ℕ). item xs n) is ∙ slice_get-get_or xs index x lt ∙ ap (λ y. let o : Option A = Some y in o) (sym at)

  pub not_found : (xs : List A) (number : ℕ) → (number ≡ 0) ⊎ (length xs < number) → item xs number ≡ None
  not_found xs zero h = refl
  not_found xs (suc k) h = slice_get_past xs k (⊎_elim (λ e. absurd (omega (arith, e))) (λ lt. omega (arith, lt)) h)

module _ {Setup Hosted Store B : Type 0} where
  node_found : (cells : List (CellParts Setup Hosted Store B)) (number index : ℕ) (c : CellParts Setup Hosted Store B) → number ≡ suc index → index < length cells → c ≡ get_or cells index c
      → item (nodes_in cells) number ≡ Some (node_in c)
  node_found cells number index c is lt at =
      ap (λ (n : ℕ). item (nodes_in cells) n) is
      ∙ slice_get-map node_in cells index
      ∙ ap (λ (o : Option (CellParts Setup Hosted Store B)). option_map node_in o) (slice_get-get_or cells index c lt)
      ∙ ap (λ (x : CellParts Setup Hosted Store B). Some (node_in x)) (sym at)

  pub view_found : (cells : List (CellParts Setup Hosted Store B)) (number index : ℕ) (c : CellParts Setup Hosted Store B) (state : NodeState B) (view : NodeView)
      → number ≡ suc index → index < length cells → c ≡ get_or cells index c → state ≡ c.node.state → view ≡ view_of (seen state [])
      → Some view ≡ option_map view_of (item (nodes_in cells) number)
  view_found cells number index c state view is lt at same seen_so =
      ap (λ (v : NodeView). Some v) (seen_so ∙ ap (λ (s : NodeState B). view_of (seen s [])) same)
      ∙ sym (ap (λ (o : Option (Node B)). option_map view_of o) (node_found cells number index c is lt at))

  pub no_view : (cells : List (CellParts Setup Hosted Store B)) (number : ℕ) → (number ≡ 0) ⊎ (length cells < number) → None ≡ option_map view_of (item (nodes_in cells) number)
  no_view cells number h = sym (ap (λ (o : Option (Node B)). option_map view_of o) (none_at number cells h))

  pub no_sender : (cells : List (CellParts Setup Hosted Store B)) (sender number : ℕ) → (sender ≡ 0) ⊎ (length cells < sender) → None ≡ option_map delivery_by (sent_of (item (nodes_in cells) sender) number)
  no_sender cells sender number h = sym (ap (λ (o : Option (Node B)). option_map delivery_by (sent_of o number)) (none_at sender cells h))

  sent_found : (cells : List (CellParts Setup Hosted Store B)) (sender index number : ℕ) (c : CellParts Setup Hosted Store B) (sent : List (Message B))
      → sender ≡ suc index → index < length cells → c ≡ get_or cells index c → sent ≡ c.sent → sent_of (item (nodes_in cells) sender) number ≡ item sent number
  sent_found cells sender index number c sent is lt at same =
      ap (λ (o : Option (Node B)). sent_of o number) (node_found cells sender index c is lt at) ∙ ap (λ (ms : List (Message B)). item ms number) (sym same)

  pub no_message : (cells : List (CellParts Setup Hosted Store B)) (sender index number : ℕ) (c : CellParts Setup Hosted Store B) (sent : List (Message B))
      → sender ≡ suc index → index < length cells → c ≡ get_or cells index c → sent ≡ c.sent → (number ≡ 0) ⊎ (length sent < number)
      → None ≡ option_map delivery_by (sent_of (item (nodes_in cells) sender) number)
  no_message cells sender index number c sent is lt at same h =
      sym (ap (λ (o : Option (Message B)). option_map delivery_by o) (sent_found cells sender index number c sent is lt at same ∙ not_found sent number h))

  pub message_found : (cells : List (CellParts Setup Hosted Store B)) (sender index number place : ℕ) (c : CellParts Setup Hosted Store B) (sent : List (Message B)) (m : Message B) (d : Delivery)
      → sender ≡ suc index → index < length cells → c ≡ get_or cells index c → sent ≡ c.sent → number ≡ suc place → place < length sent → m ≡ get_or sent place m → d ≡ delivery_by m
      → Some d ≡ option_map delivery_by (sent_of (item (nodes_in cells) sender) number)
  message_found cells sender index number place c sent m d is lt at same numbered within here made =
      ap (λ (e : Delivery). Some e) made
      ∙ sym (ap (λ (o : Option (Message B)). option_map delivery_by o) (sent_found cells sender index number c sent is lt at same ∙ found sent number place m numbered within here))

  pub count_is : (cells : List (CellParts Setup Hosted Store B)) (index : ℕ) (c : CellParts Setup Hosted Store B) (sent : List (Message B)) → index < length cells → c ≡ get_or cells index c → sent ≡ c.sent
      → sent_count (nodes_in cells) (suc index) ≡ length sent
  count_is cells index c sent lt at same =
      ap (λ (o : Option (Node B)). count_of o) (node_found cells (suc index) index c refl lt at) ∙ ap (λ (ms : List (Message B)). length ms) (sym same)

nothing : (number : ℕ) → (let o : Option ℕ = None in o) ≡ item [] number
nothing zero = refl
nothing (suc k) = refl

-- the row of a message of no node, and that of a node
pub no_row_of_node : (all : List (Vec ℕ)) (sender number : ℕ) → (sender ≡ 0) ⊎ (length all < sender) → None ≡ row_in all sender number
no_row_of_node all sender number h = nothing number ∙ sym (ap (λ (o : Option (Vec ℕ)). item (items_of o) number) (not_found all sender h))

pub row_found : (all : List (Vec ℕ)) (sender number node : ℕ) (rows : Vec ℕ) → sender ≡ suc node → node < length all → rows ≡ get_or all node rows → row_in all sender number ≡ item rows.items number
row_found all sender number node rows is lt at = ap (λ (o : Option (Vec ℕ)). item (items_of o) number) (found all sender node rows is lt at)

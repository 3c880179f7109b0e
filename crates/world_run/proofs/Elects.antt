-- Whatever makes a node a leader, of whole nodes.
use Rattle.std.proofs.Common.{◌≡◌, ℕ, List, [], refl, sym, subst}
use Rattle.raft_log.specs.declared.role.Role.TheVariants.{Leader}
use Rattle.raft_log.specs.Node.{Node}
use Rattle.raft_node.specs.Machine.{Machine}
use Rattle.raft_node.specs.Steps.{Act, Expires, Beats, Hears, Asks, Opens, Closes, HearsLine, Claims, Applies, Looks, Idles, Turn, turn}
use Rattle.agreement.specs.World as core
use Rattle.agreement.specs.Laws as core_laws
use Rattle.agreement.proofs.Elected as elected
use Rattle.world_run.specs.World as world
use Rattle.world_run.specs.Laws.{LeadsWithBlank, FullLeads, StopKeepsBlank}
use Rattle.world_run.proofs.Lowers.{Low, low_input}

module _ (M : Machine) where
  -- an act of the core by which the node becomes this
  record ByCore (n i : ℕ) (s s' : Node M.Body) : Type 0 where
    by : core.Act M.Body
    does : core.acted M.blank n i by s ≡ s'

  of_low : (n i : ℕ) (w : List (Node M.Body)) (K : M.Body → Type 0) (s : Node M.Body) (t : Turn M) → Low M n i w K s t → ByCore n i s t.node
  of_low n i w K s t l = record { by = core.act_of w l.by; does = l.does }

  by_core : (n i : ℕ) (a : Act M) (s : Node M.Body) → ByCore n i s (turn M n i a s).node
  by_core n i Expires s = of_low n i [] _ s _ (low_input M n [] (world.Timeout i) s)
  by_core n i Beats s = of_low n i [] _ s _ (low_input M n [] (world.Beat i) s)
  by_core n i (Hears m) s = record { by = core.Hears m; does = refl }
  by_core n i (Asks b) s = of_low n i [] _ s _ (low_input M n [] (world.Ask i b) s)
  by_core n i Opens s = of_low n i [] _ s _ (low_input M n [] (world.Opened i) s)
  by_core n i Closes s = of_low n i [] _ s _ (low_input M n [] (world.Closed i) s)
  by_core n i (HearsLine at line) s = of_low n i [] _ s _ (low_input M n [] (world.Heard i at line) s)
  by_core n i Claims s = of_low n i [] _ s _ (low_input M n [] (world.Claim i) s)
  by_core n i Applies s = of_low n i [] _ s _ (low_input M n [] (world.Apply i) s)
  by_core n i (Looks from target) s = of_low n i [] _ s _ (low_input M n [] (world.Look i from target) s)
  by_core n i Idles s = record { by = core.Nothing; does = refl }

  pub leads_with_blank : LeadsWithBlank M
  leads_with_blank n i a s not leads room =
      let c : ByCore n i s (turn M n i a s).node = by_core n i a s in
      subst (λ z. core_laws.LeadsAnew M.blank n s z) c.does (elected.leads_with_blank M.blank n i c.by s not (subst (λ (z : Node M.Body). z.role ≡ Leader) (sym c.does) leads) room)

  pub full_leads : FullLeads M
  full_leads n i a s not leads full =
      let c : ByCore n i s (turn M n i a s).node = by_core n i a s in
      subst (λ (z : Node M.Body). z.log ≡ s.log) c.does (elected.full_leads M.blank n i c.by s not (subst (λ (z : Node M.Body). z.role ≡ Leader) (sym c.does) leads) full)

  pub stop_keeps_blank : StopKeepsBlank M
  stop_keeps_blank n i a s not leads room =
      let new : core_laws.LeadsAnew M.blank n s (turn M n i a s).node = leads_with_blank n i a s not leads room in
      record { role_is = refl; log_is = new.log_is; log_before = refl; term_before = refl }

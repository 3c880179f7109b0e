-- A pass by which messages can be traded.
use Rattle.std.specs.Prelude.{◌≡◌, ◌≤◌, ℕ, suc, false}
use Rattle.ether.specs.declared.pass.Pass.{Pass}
use Rattle.ether.specs.Passes.{EtherParts, IsOpenPass, view_of}

-- The pass of the node of this number, whose store claims nothing, so that it may post any message as its own, to this node
pub record IsReady {Setup B L T : Type 0} (e : EtherParts Setup) (p : Pass B L T) (from to : ℕ) : Type 0 where
  pub opened : IsOpenPass e p
  pub free : (view_of p).honest ≡ false
  pub own : from ≡ suc (view_of p).node
  pub named : 1 ≤ to
  pub near : to ≤ e.size

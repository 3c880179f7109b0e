-- Passes to which nothing happened.
use Rattle.std.proofs.Common.{◌≡◌, ℕ, List, [], ◌∷◌, ◌++◌, length, sym, ap, subst}
use Rattle.atomic_table.specs.Seated.{TableId}
use Rattle.atomic_table.proofs.Lists.{at_longer}
use Rattle.world_views.specs.Views.{IsAt, View}
use Rattle.ether.specs.declared.pass.Pass.{Pass}
use Rattle.ether.specs.Passes.{AreNewAt, IsPassAt, IsUnopened, view_of}
use Rattle.ether.proofs.Gathering.{last_at}

module _ {B L T : Type 0} where
  -- the last of them is one of the ether that was not opened, and the others are new still
  pub popped : (t : TableId) (n : ℕ) (all rest : List (Pass B L T)) (p : Pass B L T) → AreNewAt t n all → all ≡ rest ++ p ∷ []
      → AreNewAt t n rest × (IsPassAt t n p × IsUnopened p × ((view_of p).turns ≡ []))
  popped t n all rest p are is =
      let last = are (length rest) p (last_at all rest p is) in (
        λ i q at. are i q (subst (λ (l : List (Pass B L T)). IsAt l i q) (sym is) (at_longer rest (p ∷ []) i q at)),
        (last.0, ap (λ (v : View B L T). v.opened) last.2, ap (λ (v : View B L T). v.turns) last.2),
      )

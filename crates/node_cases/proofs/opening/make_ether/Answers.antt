use Rattle.std.proofs.Common.{◌≡◌, sym, subst}
use Rattle.std.specs.Arc.{arc_value}
use Rattle.ether.specs.Passes.{AreNew, EtherParts}
use Rattle.node_cases.proofs.opening.make_ether.Goals as goal

pub returns : goal.returns
returns g c =
    let same : arc_value c.in-Ok.ether ≡ c.in_ok-ether.ether = c.in-Ok.ensures.ok in
    subst (λ (e : EtherParts _). AreNew e c.in_ok-ether.passes.items) (sym same) c.in_ok-ether.ensures.passes.1

use Rattle.std.proofs.Common.{◌≡◌, sym, ap, ◌∙◌, subst}
use Rattle.std.specs.Arc.{arc_value}
use Rattle.ether.specs.Passes.{AreNew, EtherParts}
use Rattle.node_threads.proofs.cluster.starting.make_ground.Goals as goal

pub returns-clause-passes : goal.returns-clause-passes
returns-clause-passes g c =
    let same : arc_value c.in-Ok-new.ether ≡ c.in-Ok.ether = c.in-Ok-new.ensures.ok in
    subst (λ (e : EtherParts _). AreNew e c.in-Ok.passes.items) (sym same) c.in-Ok.ensures.passes.1

pub returns-clause-size : goal.returns-clause-size
returns-clause-size g c = let same : arc_value c.in-Ok-new.ether ≡ c.in-Ok.ether = c.in-Ok-new.ensures.ok in ap (λ (z : EtherParts _). z.size) same ∙ c.in-Ok.ensures.group.0

pub returns-clause-setup : goal.returns-clause-setup
returns-clause-setup g c = let same : arc_value c.in-Ok-new.ether ≡ c.in-Ok.ether = c.in-Ok-new.ensures.ok in ap (λ (z : EtherParts _). z.setup) same ∙ c.in-Ok.ensures.group.1

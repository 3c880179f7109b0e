use Rattle.std.proofs.Common.{◌≡◌, [], sym, subst}
use Rattle.ether.specs.Passes.{EtherParts, IsPass, IsUnopened, view_of}
use Rattle.node_cases.proofs.New.{popped}
use Rattle.node_cases.proofs.opening.open_last.Goals as goal

pub open-requires : goal.open-requires
open-requires g c =
    let new = (popped _ _ c.args.passes.now.items c.pop.new.self.items c.in-Some.pass c.requires c.in-Some.ensures.items).1 in
    record { pass = subst (λ (e : EtherParts _). IsPass e c.in-Some.pass × IsUnopened c.in-Some.pass × ((view_of c.in-Some.pass).turns ≡ [])) (sym c.in_ok-twin.ensures) new }

pub returns-in-Ok : goal.returns-in-Ok
returns-in-Ok g c = (popped _ _ c.args.passes.now.items c.pop.new.self.items c.in-Some.pass c.requires c.in-Some.ensures.items).0

pub returns-in-Err-Node-Down-Store : goal.returns-in-Err-Node-Down-Store
returns-in-Err-Node-Down-Store g c = (popped _ _ c.args.passes.now.items c.pop.new.self.items c.in-Some.pass c.requires c.in-Some.ensures.items).0

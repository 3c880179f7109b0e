use Rattle.std.proofs.Common.{◌≡◌, ℕ, Option, Some, sym, subst, ap, ◌∙◌}
use Rattle.driver.specs.declared.link.Link.{Link}
use Rattle.driver.specs.Links.{node_of}
use Rattle.driver.specs.Sessions.{TakesIf}
use Rattle.driver.proofs.driver.Driver.receive_line.Goals as goal

pub returns : goal.returns
returns c =
    let old = c.args.self.now in
    let now = c.args.now.now in
    let taken = record old { link = c.receive.new.self; orders = c.receive.new.orders; unheard = 0 } in
    let node : node_of old.link.stage ≡ Some c.in-Some.node = sym c.node.ensures ∙ c.in-Some.is in
    subst (λ (node : Option ℕ). TakesIf node now.ms now.at c.args.bytes.now old c.tell_all.new.self) (sym node)
    record {
      taken = taken;
      notes = c.in_ok-notes.notes.items;
      receives = c.in_ok-notes.ensures.received;
      rest = ap (λ (link : Link). record old { link = link; orders = c.receive.new.orders; unheard = 0 }) c.receive.ensures.rest;
      tells = c.in_ok-tell_all.ensures;
    }

use Rattle.std.proofs.Common.{rules, ◌≡◌, not, true}
use Rattle.buffer_machine.specs.Crowd.{is_some_of}
use Rattle.buffer_machine.proofs.Readers.{none_named}
use Rattle.buffer_machine.proofs.client_names.Names.is_empty.Goals as goal

pub returns-clause-nobody : goal.returns-clause-nobody
returns-clause-nobody c = λ e.
    let none : not (is_some_of c.self.inside.ids.items) ≡ true = search rules in
    rw (← c.self.view_is) (none_named c.self.inside.ids.items c.self.inside.holders.items c.self.invariant.1 none)

use Rattle.std.proofs.Common.{rules, ◌≡◌, ◌≤◌, length, arith}
use Rattle.std.specs.Prelude.{min}
use Rattle.buffer_machine.proofs.Readers.{flags_taken}
use Rattle.buffer_machine.proofs.client_names.Names.here.Goals as goal

pub returns : goal.returns
returns c =
    let few : length c.self.inside.ids.items ≤ 64 = c.self.invariant.0 in
    let many : c.min.result ≡ min (length c.self.inside.ids.items) 64 = search rules in
    let least : c.min.result ≡ length c.self.inside.ids.items = omega (arith, many, few) in
    rw (← c.self.view_is, least, c.self.invariant.2) (flags_taken 0 64 c.self.inside.holders.items c.self.inside.ids.items few)

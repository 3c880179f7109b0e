use Rattle.std.proofs.Common.{rules, ◌≡◌, ◌≤◌, length, arith}
use Rattle.buffer_machine.specs.Held.{index_in}
use Rattle.buffer_machine.proofs.Readers.{room_by}
use Rattle.buffer_machine.proofs.client_names.Names.has_room.Goals as goal

pub returns-else-len-lt-READERS : goal.returns-else-len-lt-READERS
returns-else-len-lt-READERS c =
    let many : c.len.result ≡ length c.self.inside.ids.items = search rules in
    let again : c.len-else-len-lt-READERS.result ≡ length c.self.inside.ids.items = search rules in
    let full : 64 ≤ length c.self.inside.ids.items = omega (arith, many, c.if-len-lt-READERS.false) in
    let place : c.place_of.result ≡ index_in c.in-Some.id.now c.self.inside.ids.items = rw (← c.self.view_is) at c.place_of.ensures.place in
    rw (place, again, c.in-Some.is, ← c.self.view_is) (room_by c.in-Some.id.now c.self.inside.ids.items full)

use Rattle.std.proofs.Common.{rules, ◌≡◌, ◌∷◌, [], ◌++◌, ◌<◌, ◌≤◌, length, sym, arith, ◌∙◌}
use Rattle.std.proofs.lemmas.List.{length-append}
use Rattle.buffer_machine.specs.Held.{index_in}
use Rattle.buffer_machine.proofs.Readers.{with_known, with_unknown, index_pushed, index_within, room_for}
use Rattle.buffer_machine.proofs.client_names.add_name.Goals as goal

pub returns-then-name-len-clause-ok : goal.returns-then-name-len-clause-ok
returns-then-name-len-clause-ok c =
    let place : c.place_in-name.result ≡ index_in c.args.id.now c.args.ids.now.items = rw c.as_slice.ensures.value at c.place_in-name.ensures in
    let many : c.len.result ≡ length c.args.ids.now.items = search rules in
    let low : index_in c.args.id.now c.args.ids.now.items < length c.args.ids.now.items = omega (arith, place, many, c.if-name-len.true) in
    sym (with_known c.args.id.now c.args.ids.now.items low)

pub returns-clause-ok : goal.returns-clause-ok
returns-clause-ok c =
    let place : c.place_in-name.result ≡ index_in c.args.id.now c.args.ids.now.items = rw c.as_slice.ensures.value at c.place_in-name.ensures in
    let many : c.len.result ≡ length c.args.ids.now.items = search rules in
    let high : length c.args.ids.now.items ≤ index_in c.args.id.now c.args.ids.now.items = omega (arith, place, many, c.if-name-len.false) in
    let pushed : c.push.new.self.items ≡ c.args.ids.now.items ++ c.args.id.now ∷ [] = search rules in
    pushed ∙ sym (with_unknown c.args.id.now c.args.ids.now.items high)

pub returns-clause-place : goal.returns-clause-place
returns-clause-place c =
    let place : c.place_in-name.result ≡ index_in c.args.id.now c.args.ids.now.items = rw c.as_slice.ensures.value at c.place_in-name.ensures in
    let many : c.len.result ≡ length c.args.ids.now.items = search rules in
    let high : length c.args.ids.now.items ≤ index_in c.args.id.now c.args.ids.now.items = omega (arith, place, many, c.if-name-len.false) in
    let pushed : c.push.new.self.items ≡ c.args.ids.now.items ++ c.args.id.now ∷ [] = search rules in
    rw pushed (place ∙ index_pushed c.args.id.now c.args.ids.now.items high)

pub returns-clause-within : goal.returns-clause-within
returns-clause-within c =
    let place : c.place_in-name.result ≡ index_in c.args.id.now c.args.ids.now.items = rw c.as_slice.ensures.value at c.place_in-name.ensures in
    let pushed : c.push.new.self.items ≡ c.args.ids.now.items ++ c.args.id.now ∷ [] = search rules in
    rw pushed (omega (arith, place, index_within c.args.id.now c.args.ids.now.items, length-append c.args.ids.now.items (c.args.id.now ∷ [])))

pub returns-clause-few : goal.returns-clause-few
returns-clause-few c =
    let place : c.place_in-name.result ≡ index_in c.args.id.now c.args.ids.now.items = rw c.as_slice.ensures.value at c.place_in-name.ensures in
    let many : c.len.result ≡ length c.args.ids.now.items = search rules in
    let high : length c.args.ids.now.items ≤ index_in c.args.id.now c.args.ids.now.items = omega (arith, place, many, c.if-name-len.false) in
    let pushed : c.push.new.self.items ≡ c.args.ids.now.items ++ c.args.id.now ∷ [] = search rules in
    rw pushed (omega (arith, room_for c.args.id.now c.args.ids.now.items c.requires.room high, length-append c.args.ids.now.items (c.args.id.now ∷ [])))

use Rattle.std.proofs.Common.{◌≡◌, map, take}
use Rattle.buffer_machine.specs.Crowd.{is_id_in}
use Rattle.renewal.proofs.change.goes.Given as goal

abbrev pub invariant-loop-id : goal.invariant-loop-id
invariant-loop-id l = l.all.items ≡ map (λ id. is_id_in id l.forgotten) (take l.id-index l.ids)

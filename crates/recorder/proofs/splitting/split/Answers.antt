use Rattle.std.proofs.Common.{◌+◌, ◌-◌, length, length-drop, take, drop, arith, sym, ◌∙◌, ◌≡◌}
use Rattle.std.proofs.lemmas.List.{take_all}
use Rattle.recorder.proofs.Splits.{found}
use Rattle.recorder.proofs.splitting.split.Goals as goal

pub returns-in-Some : goal.returns-in-Some
returns-in-Some c =
    let bytes = c.args.bytes.now in
    let end = c.in-Some.end in
    let h = found c.args.mark bytes end (sym c.first_of.ensures ∙ c.in-Some.is) in
    let rest : take (length bytes - (end + 1)) (drop (end + 1) bytes) ≡ drop (end + 1) bytes = take_all _ _ (omega (arith, length-drop (end + 1) bytes)) in
    rw rest (sym h)

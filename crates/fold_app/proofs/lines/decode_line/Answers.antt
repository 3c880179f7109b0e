use Rattle.std.proofs.Common.{rules, ◌≡◌, true, sym}
use Rattle.std.specs.List.{list_all}
use Rattle.std.proofs.lemmas.Grind.{common_steps}
use Rattle.fold_app.specs.Digits.{is_digit}
use Rattle.fold_app.proofs.Digits.{not_digits, not_even, digits_spell}
use Rattle.fold_app.proofs.lines.decode_line.Goals as goal
use Rattle.fold_app.proofs.lines.decode_line.Goals.{then-line-eq1-via-then-line-eq1, then-line-eq1-via-else-line-eq1+then-not-are_digits}

pub returns-then-line-eq1 : goal.returns-then-line-eq1
returns-then-line-eq1 c =
    elim c.then-line-eq1.branch [
      | then-line-eq1-via-then-line-eq1 w ↦ sym (not_even c.args.line.now w.if-line-eq1.true)
      | then-line-eq1-via-else-line-eq1+then-not-are_digits w ↦ sym (not_digits c.args.line.now (search (rules, common_steps)))
    ]

pub returns : goal.returns
returns c =
    let all : list_all is_digit c.args.line.now ≡ true = search (rules, common_steps) in
    rw c.in_ok-decode.ensures (sym (digits_spell c.args.line.now all c.if-line-eq1.false))

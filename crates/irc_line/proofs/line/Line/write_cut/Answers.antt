use Rattle.std.proofs.Common.{◌≡◌, ◌++◌, length, take, ap, ◌∙◌, arith, ◌+◌, append_assoc}
use Rattle.std.proofs.lemmas.Grind.{common_steps}
use Rattle.std.proofs.Math.Seq.{take-append-add}
use Rattle.irc_line.specs.Lines.{spelling}
use Rattle.irc_line.proofs.line.Line.write_cut.Goals as goal

pub returns-else-is_err-clause-ok : goal.returns-else-is_err-clause-ok
returns-else-is_err-clause-ok c =
    let out = c.args.out.now.items in
    let all = spelling c.args.self.now in
    let whole = c.in_ok-write_to.ensures.ok in
    let before : c.len-before.result ≡ length out = omega arith in
    let cut : c.truncate.new.self.items ≡ out ++ take 510 all =
    c.truncate.ensures.items ∙ ap (λ x. take (c.len-before.result + 510) x) whole ∙ ap (λ n. take (n + 510) (out ++ all)) before ∙ take-append-add out all 510 in
    grind (arith, common_steps, append_assoc)

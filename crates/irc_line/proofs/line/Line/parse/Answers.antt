use Rattle.std.proofs.Common.{◌≡◌, ℕ, List, sym, rules}
use Rattle.std.proofs.lemmas.Grind.{common_steps}
use Rattle.std.specs.Prelude.{IfErr, IsOk, Ok, Err, Result}
use Rattle.irc_line.specs.Reading.{judged}
use Rattle.irc_line.specs.declared.fault.LineFault.{LineFault}
use Rattle.irc_line.specs.declared.fault.LineFault.TheVariants.{Memory}
use Rattle.irc_line.proofs.Judging.{judged_line}
use Rattle.irc_line.proofs.Items.{not_memory}
use Rattle.irc_line.proofs.line.Line.parse.Goals as goal

-- a fault of the content is never an out-of-memory error
faulty : {T : Type 0} (content : List ℕ) (fault : LineFault) (r : Result T LineFault) → judged content ≡ Err fault → r ≡ Err fault → IfErr r (λ e. e ≡ Memory → IsOk (judged content))
faulty content fault (Ok v) h k = tt
faulty content fault (Err e) h k = λ m. absurd (not_memory content (let same : fault ≡ Memory = cc in cc))

pub returns-in_err-draft-clause-memory : goal.returns-in_err-draft-clause-memory
returns-in_err-draft-clause-memory c = faulty c.args.content.now c.in_err-draft.field-0.0 c.from_residual.result (sym c.in_err-draft.ensures) (search (rules, common_steps))

pub build-requires : goal.build-requires
build-requires c = judged_line c.args.content.now c.in_ok-draft.draft (sym c.in_ok-draft.ensures)

pub copied-requires-clause-line : goal.copied-requires-clause-line
copied-requires-clause-line c = judged_line c.args.content.now c.in_ok-draft.draft (sym c.in_ok-draft.ensures)

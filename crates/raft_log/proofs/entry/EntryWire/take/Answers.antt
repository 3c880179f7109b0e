use Rattle.std.proofs.Common.{sym, ◌∙◌}
use Rattle.std.proofs.lemmas.Result.{err_from_is_err_and}
use Rattle.wire_bytes.specs.Fields.{both}
use Rattle.wire_bytes.specs.Values.{number}
use Rattle.wire_bytes.proofs.Steps.{behind-none, through-read, through-stops}
use Rattle.raft_log.specs.Spellings.{measured}
use Rattle.raft_log.specs.Entries.{entry_of, entry_taken}
use Rattle.raft_log.proofs.entry.EntryWire.take.Goals as goal

pub returns-in_err-term-clause-err : goal.returns-in_err-term-clause-err
unfolding entry_taken
returns-in_err-term-clause-err g c =
    let p = err_from_is_err_and c.from_residual.result c.from_residual.ensures.1 in
    rw (p.1, p.2) (λ h. sym (behind-none (entry_taken g.B.Wire.taken) c.args.input.now)
    ∙ through-stops entry_of (both number (measured g.B.Wire.taken)) 0 c.args.input.now _ (behind-none (both number (measured g.B.Wire.taken)) c.args.input.now ∙ c.in_err-term.ensures.err h))

pub returns-clause-ok : goal.returns-clause-ok
unfolding entry_taken
returns-clause-ok g c =
    sym (behind-none (entry_taken g.B.Wire.taken) c.args.input.now)
    ∙ through-read entry_of (both number (measured g.B.Wire.taken)) 0 c.args.input.now _ _ (behind-none (both number (measured g.B.Wire.taken)) c.args.input.now ∙ c.in_ok-term.ensures.ok)

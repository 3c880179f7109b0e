use Rattle.std.proofs.Common.{sym, ◌∙◌, arith}
use Rattle.std.proofs.lemmas.Result.{err_from_is_err_and}
use Rattle.raft_log.specs.Entries.{entry_taken, wants_entry}
use Rattle.stable_store.specs.ListCodec.{count_codec}
use Rattle.stable_store.proofs.Many.{counted-short, counted-goes, counted_wants}
use Rattle.stable_store.proofs.entries.EntriesWire.take.Goals as goal

pub returns-in_err-count-clause-err : goal.returns-in_err-count-clause-err
returns-in_err-count-clause-err g c =
    let p = err_from_is_err_and c.from_residual.result c.from_residual.ensures.1 in
    rw (p.1, p.2) (λ h. counted-short (entry_taken g.B.Wire.taken) c.args.input.now _ (sym c.in_err-count.ensures.value))

pub take_many-requires : goal.take_many-requires
take_many-requires g c = (count_codec.one_spelling c.args.input.now c.in_ok-count.count c.in_ok-count.place (λ i. omega (arith, c.type_inv.input i)) (sym c.in_ok-count.ensures.value)).2

pub returns-in_err-entries-clause-err : goal.returns-in_err-entries-clause-err
returns-in_err-entries-clause-err g c =
    let p = err_from_is_err_and c.from_residual-in_err-entries.result c.from_residual-in_err-entries.ensures.1 in
    rw (p.1, p.2) (λ h. counted-goes (entry_taken g.B.Wire.taken) c.args.input.now _ _ (sym c.in_ok-count.ensures.value) ∙ c.in_err-entries.ensures.err.fault h)

pub returns-in_err-entries-clause-memory : goal.returns-in_err-entries-clause-memory
returns-in_err-entries-clause-memory g c =
    let p = err_from_is_err_and c.from_residual-in_err-entries.result c.from_residual-in_err-entries.ensures.1 in
    rw (p.1, p.2) (λ h. counted_wants (wants_entry g.B.Wire.wants g.B.Wire.taken) (entry_taken g.B.Wire.taken) c.args.input.now _ _ (sym c.in_ok-count.ensures.value) (c.in_err-entries.ensures.err.memory h))

pub returns-clause-ok : goal.returns-clause-ok
returns-clause-ok g c = counted-goes (entry_taken g.B.Wire.taken) c.args.input.now _ _ (sym c.in_ok-count.ensures.value) ∙ c.in_ok-entries.ensures.ok

use Rattle.std.proofs.Common.{sym, ◌∙◌}
use Rattle.std.proofs.lemmas.Result.{err_from_is_err_and}
use Rattle.wire_bytes.specs.Fields.{both, byte_within}
use Rattle.wire_bytes.specs.Values.{number}
use Rattle.wire_bytes.proofs.Steps.{behind-none, through-read, through-stops}
use Rattle.raft_log.specs.Entries.{entry_taken}
use Rattle.stable_store.specs.Lists.{counted}
use Rattle.stable_store.specs.Changes.{change_of, change_taken}
use Rattle.stable_store.proofs.change.ChangeWire.take.Goals as goal

pub returns-in_err-boot-clause-err : goal.returns-in_err-boot-clause-err
unfolding change_taken
returns-in_err-boot-clause-err g c =
    let p = err_from_is_err_and c.from_residual.result c.from_residual.ensures.1 in
    let parts = both (both (both (both number number) (byte_within 0 255)) number) (counted (entry_taken g.B.Wire.taken)) in
    rw (p.1, p.2) (λ h. sym (behind-none (change_taken g.B.Wire.taken) c.args.input.now) ∙ through-stops change_of parts 0 c.args.input.now _ (behind-none parts c.args.input.now ∙ c.in_err-boot.ensures.err h))

pub returns-clause-ok : goal.returns-clause-ok
unfolding change_taken
returns-clause-ok g c =
    let parts = both (both (both (both number number) (byte_within 0 255)) number) (counted (entry_taken g.B.Wire.taken)) in
    rw c.named.ensures (sym (behind-none (change_taken g.B.Wire.taken) c.args.input.now) ∙ through-read change_of parts 0 c.args.input.now _ _ (behind-none parts c.args.input.now ∙ c.in_ok-boot.ensures.ok))

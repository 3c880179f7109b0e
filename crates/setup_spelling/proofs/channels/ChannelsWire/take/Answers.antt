use Rattle.std.proofs.Common.{sym, ◌∙◌, arith}
use Rattle.std.proofs.lemmas.Result.{err_from_is_err_and}
use Rattle.setup_spelling.specs.SetupCodec.{channels_is_codec}
use Rattle.setup_spelling.proofs.NameSteps.{count_goes, count_stops}
use Rattle.setup_spelling.proofs.channels.ChannelsWire.take.Goals as goal

pub returns-in_err-count-clause-err : goal.returns-in_err-count-clause-err
returns-in_err-count-clause-err c =
    let p = err_from_is_err_and c.from_residual.result c.from_residual.ensures.1 in
    rw (p.1, p.2) (λ h. count_stops c.args.input.now _ (sym c.in_err-count.ensures.value))

pub returns-in_err-names-clause-err : goal.returns-in_err-names-clause-err
returns-in_err-names-clause-err c =
    let p = err_from_is_err_and c.from_residual-in_err-names.result c.from_residual-in_err-names.ensures.1 in
    rw (p.1, p.2) (λ h. count_goes c.args.input.now _ _ (sym c.in_ok-count.ensures.value) ∙ c.in_err-names.ensures.err h)

pub invariant_of-result : goal.invariant_of-result
invariant_of-result c =
    (channels_is_codec.one_spelling c.args.input.now _ _ (λ i. omega (arith, c.type_inv.input i)) (count_goes c.args.input.now _ _ (sym c.in_ok-count.ensures.value) ∙ c.in_ok-names.ensures.ok)).0

pub returns-clause-ok : goal.returns-clause-ok
returns-clause-ok c = count_goes c.args.input.now _ _ (sym c.in_ok-count.ensures.value) ∙ c.in_ok-names.ensures.ok

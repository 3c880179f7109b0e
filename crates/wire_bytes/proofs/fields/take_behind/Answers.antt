use Rattle.std.proofs.Common.{arith}
use Rattle.wire_bytes.specs.declared.wire_fault.WireFault.TheVariants.{Short, Bad}
use Rattle.wire_bytes.proofs.Steps.{behind-read, behind-stops, AreBytes-behind}
use Rattle.wire_bytes.proofs.fields.take_behind.Goals as goal

pub overflow_add-result : goal.overflow_add-result
overflow_add-result g c =
    let s = g.met.W.Wire.is_codec.one_spelling _ c.in-Ok.value c.in-Ok.len (AreBytes-behind c.args.place c.args.input.now _ c.split_at.ensures.back (λ i. omega (arith, c.type_inv.input i))) c.in-Ok.ensures.ok in
    omega (arith, s.2, c.split_at.ensures.back_len)

pub overflow_add-result-in-Err-Bad : goal.overflow_add-result-in-Err-Bad
overflow_add-result-in-Err-Bad g c =
    let s = g.met.W.Wire.is_codec.bad_within _ c.in-Err-Bad.within (AreBytes-behind c.args.place c.args.input.now _ c.split_at.ensures.back (λ i. omega (arith, c.type_inv.input i))) ((rw c.in-Err-Bad.field-0-is at c.in-Err-Bad.ensures.err) (λ h. cc)) in
    omega (arith, s, c.split_at.ensures.back_len)

pub returns-in-Ok-clause-ok : goal.returns-in-Ok-clause-ok
returns-in-Ok-clause-ok g c = behind-read c.args.place g.W.Wire.taken c.args.input.now _ c.in-Ok.value c.in-Ok.len c.split_at.ensures.back c.in-Ok.ensures.ok

pub returns-in-Ok-clause-within : goal.returns-in-Ok-clause-within
returns-in-Ok-clause-within g c =
    let s = g.met.W.Wire.is_codec.one_spelling _ c.in-Ok.value c.in-Ok.len (AreBytes-behind c.args.place c.args.input.now _ c.split_at.ensures.back (λ i. omega (arith, c.type_inv.input i))) c.in-Ok.ensures.ok in
    (omega arith, omega (arith, s.2, c.split_at.ensures.back_len))

pub returns-in-Err-Short-clause-err : goal.returns-in-Err-Short-clause-err
returns-in-Err-Short-clause-err g c h = behind-stops c.args.place g.W.Wire.taken c.args.input.now _ Short c.split_at.ensures.back ((rw c.in-Err-Short.field-0-is at c.in-Err-Short.ensures.err) h)

pub returns-in-Err-Bad-clause-err : goal.returns-in-Err-Bad-clause-err
returns-in-Err-Bad-clause-err g c _ = behind-stops c.args.place g.W.Wire.taken c.args.input.now _ (Bad c.in-Err-Bad.within) c.split_at.ensures.back ((rw c.in-Err-Bad.field-0-is at c.in-Err-Bad.ensures.err) (λ h. cc))

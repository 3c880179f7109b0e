use Rattle.std.proofs.Common.{ℕ, sym, ◌∙◌}
use Rattle.std.proofs.lemmas.Result.{err_from_is_err_and}
use Rattle.wire_bytes.specs.Fields.{Reading, both, byte_within}
use Rattle.wire_bytes.specs.Values.{number, origin}
use Rattle.wire_bytes.proofs.Steps.{behind-none, through-read, through-stops, both-read, both-stops, both-stops_behind}
use Rattle.wire_bytes.proofs.origin.OriginWire.take.Goals as goal

abbrev parts : Reading (ℕ × (ℕ × ℕ))
parts = both (byte_within 1 7) (both number number)

abbrev made : ℕ × (ℕ × ℕ) → ℕ × ℕ × ℕ
made p = (p.0, p.1.0, p.1.1)

pub returns-in_err-node-clause-err : goal.returns-in_err-node-clause-err
unfolding origin
returns-in_err-node-clause-err c =
    let p = err_from_is_err_and c.from_residual.result c.from_residual.ensures.1 in
    rw (p.1, p.2) (λ h. sym (behind-none origin c.args.input.now)
    ∙ through-stops made parts 0 c.args.input.now _ (both-stops (byte_within 1 7) (both number number) 0 c.args.input.now _ (behind-none (byte_within 1 7) c.args.input.now ∙ sym c.in_err-node.ensures.value)))

pub returns-in_err-boot-clause-err : goal.returns-in_err-boot-clause-err
unfolding origin
returns-in_err-boot-clause-err c =
    let p = err_from_is_err_and c.from_residual-in_err-boot.result c.from_residual-in_err-boot.ensures.1 in
    rw (p.1, p.2) (λ h. sym (behind-none origin c.args.input.now)
    ∙ through-stops made parts 0 c.args.input.now _ (both-stops_behind (byte_within 1 7) (both number number) 0 c.args.input.now _ _ _
    (behind-none (byte_within 1 7) c.args.input.now ∙ sym c.in_ok-node.ensures.value) (c.in_err-boot.ensures.err h)))

pub returns-clause-ok : goal.returns-clause-ok
unfolding origin
returns-clause-ok c =
    rw (c.new.ensures, c.value.ensures.value, c.value-2.ensures.value) (sym (behind-none origin c.args.input.now)
    ∙ through-read made parts 0 c.args.input.now _ _ (both-read (byte_within 1 7) (both number number) 0 c.args.input.now _ _ _ _
    (behind-none (byte_within 1 7) c.args.input.now ∙ sym c.in_ok-node.ensures.value) c.in_ok-boot.ensures.ok))

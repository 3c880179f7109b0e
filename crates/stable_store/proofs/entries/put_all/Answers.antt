use Rattle.std.proofs.Common.{◌≡◌, ℕ, suc, ◌<◌, List, ◌∷◌, ◌++◌, length, drop, sym, ap, ◌∙◌, arith}
use Rattle.std.proofs.Math.Seq.{drop-cons}
use Rattle.std.proofs.lemmas.List.{length-append}
use Rattle.std.proofs.lemmas.Result.{IfErr-weaker}
use Rattle.raft_log.specs.declared.entry.Entry.{Entry}
use Rattle.raft_log.specs.Entries.{spelled_entry}
use Rattle.stable_store.specs.Lists.{spelled_all}
use Rattle.stable_store.proofs.entries.put_all.Goals as goal

pub returns-then-is_err-clause-full : goal.returns-then-is_err-clause-full
returns-then-is_err-clause-full g c =
    let spelled = spelled_entry g.B.Wire.spelled in
    let es : List (Entry g.row.B.Denot) = c.args.entries.now in
    let i : ℕ = c.loop-entry.entry-index in
    let e : Entry g.row.B.Denot = c.entry-item.result in
    let lt : i < length es = omega (arith, c.loop-entry-test.true) in
    let cons : drop i es ≡ e ∷ drop (suc i) es = drop-cons es i e lt ∙ ap (λ (x : Entry g.row.B.Denot). x ∷ drop (suc i) es) (sym c.entry-item.is) in
    let more : spelled_all spelled (drop i es) ≡ spelled e ++ spelled_all spelled (drop (suc i) es) = ap (spelled_all spelled) cons in
    let whole = ap (length {A = ℕ}) c.loop-entry.invariant.whole in
    IfErr-weaker c.put-outcome.result _ _
    (λ _ h. omega (arith, h, whole, ap (length {A = ℕ}) more, c.loop-entry.invariant.room, length-append c.loop-entry.out.items (spelled_all spelled (drop i es)), length-append c.args.out.now.items (spelled_all spelled es), length-append (spelled e) (spelled_all spelled (drop (suc i) es))))
    c.put-outcome.ensures.full

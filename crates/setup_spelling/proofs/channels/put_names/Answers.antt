use Rattle.std.proofs.Common.{◌≡◌, ℕ, suc, ◌<◌, List, ◌∷◌, ◌++◌, length, drop, sym, ap, ◌∙◌, arith}
use Rattle.std.proofs.Math.Seq.{drop-cons}
use Rattle.std.proofs.lemmas.List.{length-append}
use Rattle.std.proofs.lemmas.Result.{IfErr-weaker}
use Rattle.wire_bytes.specs.Contents.{sized}
use Rattle.setup_spelling.specs.Spelling.{spelled_names}
use Rattle.setup_spelling.proofs.channels.put_names.Goals as goal

pub returns-then-is_err-clause-full : goal.returns-then-is_err-clause-full
returns-then-is_err-clause-full c =
    let names : List (List ℕ) = c.args.names.now in
    let i : ℕ = c.loop-name.name-index in
    let n : List ℕ = c.name-item.result in
    let lt : i < length names = omega (arith, c.loop-name-test.true) in
    let cons : drop i names ≡ n ∷ drop (suc i) names = drop-cons names i n lt ∙ ap (λ (x : List ℕ). x ∷ drop (suc i) names) (sym c.name-item.is) in
    let more : spelled_names (drop i names) ≡ sized n ++ spelled_names (drop (suc i) names) = ap spelled_names cons in
    let whole = ap (length {A = ℕ}) c.loop-name.invariant.whole in
    IfErr-weaker c.put_name-outcome.result _ _
    (λ _ h. omega (arith, h, whole, ap (length {A = ℕ}) more, c.loop-name.invariant.room, length-append c.loop-name.out.items (spelled_names (drop i names)), length-append c.args.out.now.items (spelled_names names), length-append (sized n) (spelled_names (drop (suc i) names))))
    c.put_name-outcome.ensures.full

use Rattle.std.proofs.Common.{rules, ◌≡◌, ◌∙◌, suc, ◌+◌, ◌-◌, ◌<◌, ◌≤◌, length, Some, ap, sym, subst, slice_get, get_or, arith}
use Rattle.std.proofs.lemmas.Option.{slice_get-get_or}
use Rattle.driver.specs.Leading.{IsBest, better, term_at, term_in}
use Rattle.driver.proofs.Leading.{best_more}
use Rattle.driver.proofs.leader.leader_of.Goals as goal

pub loop-id-preserved : goal.loop-id-preserved
loop-id-preserved c =
    let monitors = c.args.monitors.now in
    let id = c.loop-id.id in
    let monitor = c.index-monitors-id.result in
    let within : id - 1 < length monitors = search rules in
    let low : 1 ≤ id = search rules in
    let own : slice_get monitors (id - 1) ≡ Some (get_or monitors (id - 1) monitor) = slice_get-get_or monitors (id - 1) monitor within in
    let term : term_at monitors id ≡ c.leading-term.result = ap term_in own ∙ sym c.leading-term.ensures in
    let best : better c.loop-id.best id c.leading-term.result ≡ c.better-best.result = search rules in
    let here : suc (id - 1) ≡ id = omega (arith, low) in
    let next : id ≡ id + 1 - 1 = omega arith in
    subst (λ n. IsBest monitors n c.better-best.result) next
    (subst (λ best. IsBest monitors id best) (ap (λ term. better c.loop-id.best id term) term ∙ best)
    (subst (λ n. IsBest monitors n (better c.loop-id.best n (term_at monitors n))) here (best_more monitors (id - 1) c.loop-id.best c.loop-id.invariant)))

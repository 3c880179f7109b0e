use Rattle.std.proofs.Common.{rules, ◌≡◌, sym, ◌∙◌}
use Rattle.node_cells.proofs.Looping.{same_told, told_same}
use Rattle.node_cells.proofs.remembered.Remembered.is_in.Goals as goal

pub returns-then-eq-2 : goal.returns-then-eq-2
returns-then-eq-2 g c =
    let s = c.args.self.now in
    let t = c.args.state.now in
    let term : s.term ≡ t.standing.term = search rules in
    let vote : s.vote ≡ t.standing.vote = search rules in
    let terms : c.deref.result.now ≡ s.terms.items = search rules in (
      λ is. (term, vote, sym terms ∙ told_same c.deref.result.now t.log (sym c.same_terms.ensures ∙ is)),
      λ are. c.same_terms.ensures ∙ same_told c.deref.result.now t.log (terms ∙ are.2),
    )

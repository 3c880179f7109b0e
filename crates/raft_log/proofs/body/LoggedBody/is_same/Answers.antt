use Rattle.std.proofs.Common.{rules, ◌≡◌, ℕ, List, ◌++◌, length, true, sym, ◌∙◌, arith}
use Rattle.std.proofs.lemmas.Grind.{common_steps}
use Rattle.raft_log.proofs.Same.{one_value}
use Rattle.raft_log.proofs.body.LoggedBody.is_same.Goals as goal

pub returns : goal.returns
returns g c = λ same.
    let a : List ℕ = g.B.Wire.spelled c.args.self.now in
    let b : List ℕ = g.B.Wire.spelled c.args.other.now in
    let items : c.deref.result.now ≡ a ++ b = search (rules, common_steps) in
    let middle : c.len-middle.result ≡ length a = grind (arith, common_steps) in
    let front : c.split_at.result.0.now ≡ a = search (rules, common_steps) in
    let back : c.split_at.result.1.now ≡ b = search (rules, common_steps) in
    let texts : c.split_at.result.0.now ≡ c.split_at.result.1.now = search (rules, common_steps) in
    one_value g.B.Wire.spelled g.B.Wire.fits g.B.Wire.taken g.met.B.Wire.is_codec c.args.self.now c.args.other.now c.get.ensures.fits c.get-2.ensures.fits (sym front ∙ (texts ∙ back))

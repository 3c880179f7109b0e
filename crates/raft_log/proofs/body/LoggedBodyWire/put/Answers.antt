use Rattle.std.proofs.Common.{rules, ◌≡◌, ℕ, ◌+◌, ◌-◌, List, [], ◌∷◌, ◌++◌, length, take, drop, ap, ◌∙◌, arith, length-append}
use Rattle.std.specs.Int.{w32, to_be_bytes}
use Rattle.std.proofs.lemmas.Grind.{common_steps}
use Rattle.raft_log.specs.Spellings.{spelled_measured}
use Rattle.raft_log.proofs.Measures.{covered}
use Rattle.raft_log.proofs.body.LoggedBodyWire.put.Goals as goal

pub returns-clause-items : goal.returns-clause-items
unfolding spelled_measured
returns-clause-items g c =
    let four : List ℕ = 0 ∷ 0 ∷ 0 ∷ 0 ∷ [] in
    let body : List ℕ = g.B.Wire.spelled c.args.self.now in
    let e1 : c.extend_from_slice.new.self.items ≡ c.args.out.now.items ++ four = search (rules, common_steps) in
    let e2 : c.put-outcome.new.out.items ≡ c.extend_from_slice.new.self.items ++ body = search (rules, common_steps) in
    let items : c.put-outcome.new.out.items ≡ (c.args.out.now.items ++ four) ++ body = e2 ∙ ap (λ (t : List ℕ). t ++ body) e1 in
    let start : c.len-start.result ≡ length c.args.out.now.items = grind arith in
    let size : c.len.result - c.len-start.result - 4 ≡ length body = omega (arith, c.len.ensures, start, ap (length {A = ℕ}) items, length-append (c.args.out.now.items ++ four) body, length-append c.args.out.now.items four) in
    let bytes : c.to_be_bytes.result ≡ to_be_bytes w32 (length body) = c.to_be_bytes.ensures ∙ ap (to_be_bytes w32) size in
    let four_long : c.len-start.result + length c.to_be_bytes.result ≡ c.len-start.result + length four = ap (λ (t : List ℕ). c.len-start.result + length t) bytes in
    c.write_over.ensures.items
    ∙ (ap (λ (t : List ℕ). take c.len-start.result t ++ (c.to_be_bytes.result ++ drop (c.len-start.result + length c.to_be_bytes.result) t)) items
    ∙ (covered c.args.out.now.items four c.to_be_bytes.result body c.len-start.result (c.len-start.result + length c.to_be_bytes.result) start four_long
    ∙ ap (λ (t : List ℕ). c.args.out.now.items ++ (t ++ body)) bytes))

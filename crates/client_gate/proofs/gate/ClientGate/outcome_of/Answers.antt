use Rattle.std.proofs.Common.{◌≡◌, ◌+◌, length, sym, ap, ◌∙◌}
use Rattle.client_gate.proofs.Counting.{all_wait}
use Rattle.client_gate.proofs.gate.ClientGate.outcome_of.Goals as goal

pub returns-clause-room : goal.returns-clause-room
returns-clause-room c =
    let p = c.new-turn.result in
    let q = c.serve_all.new.turn in
    let waited : q.waiting ≡ p.waiting + length q.requests = rw c.in_ok-serve_all.ensures (all_wait _ p _ (ap (λ x. x.requests) c.new-turn.ensures)) in
    let before : p.waiting ≡ length c.args.self.now.gate.waiting = ap (λ x. x.waiting) c.new-turn.ensures ∙ c.len.ensures.len ∙ ap (λ h. length h.gate.waiting) c.self.view_is in
    let all : q.waiting ≡ length c.args.self.now.gate.waiting + length c.finish.result.requests.items = waited ∙ ap (λ n. n + length q.requests) before ∙ ap (λ r. length c.args.self.now.gate.waiting + length r) (sym c.finish.ensures.outcome.requests) in
    rw (← all) c.finish.ensures.within

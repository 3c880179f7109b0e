use Rattle.std.proofs.Common.{◌≡◌, ap, ◌∙◌}
use Rattle.std.specs.Prelude.{codes}
use Rattle.client_gate.specs.Gates.{given_reply}
use Rattle.client_gate.specs.Replies.{status}
use Rattle.client_gate.proofs.gate.ClientGate.busy_line.Goals as goal

pub returns : goal.returns
returns c =
    let told : c.push_status.new.out.items ≡ status c.self.inside.settings.nick (codes "Busy, not sent.") = rw c.new-reply.ensures.items at c.in_ok-push_status.ensures in
    let settings = ap (λ h. h.settings) c.self.view_is in
    c.of_reply.ensures ∙ ap given_reply (told ∙ ap (λ s. status s.nick (codes "Busy, not sent.")) settings)

use Rattle.std.proofs.Common.{◌≡◌, sym, ap, ◌∙◌}
use Rattle.client_gate.specs.Replies.{welcome}
use Rattle.client_gate.specs.declared.phase.Phase.TheVariants.{Arriving}
use Rattle.client_gate.specs.Turns.{closed, moved, written}
use Rattle.client_gate.proofs.arriving.admit.Goals as goal

pub returns-in_ok-reply-in-Some : goal.returns-in_ok-reply-in-Some
returns-in_ok-reply-in-Some c =
    let right = sym c.in_ok-id.ensures ∙ c.in-Some.is in
    let told : c.reply.new.self ≡ written (welcome c.args.settings.now.nick) c.args.turn.now = rw (← c.as_bytes.ensures.value) c.in_ok-reply-in-Some.ensures in
    rw right (rw (c.move_to.ensures, told) at c.ask.ensures)

pub returns-in_ok-reply-in-None : goal.returns-in_ok-reply-in-None
returns-in_ok-reply-in-None c =
    let wrong = sym c.in_ok-id.ensures ∙ c.in-None.is in
    rw wrong (c.close.ensures ∙ ap closed (c.move_to-in-None.ensures ∙ ap (moved (Arriving c.args.arrival)) c.in_ok-reply-in-None.ensures))

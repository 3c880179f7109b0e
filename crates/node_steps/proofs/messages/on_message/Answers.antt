use Rattle.std.proofs.Common.{◌≡◌, ℕ, sym, ap, ◌∙◌}
use Rattle.raft_log.proofs.Sending.{ok_map}
use Rattle.node_steps.specs.Messages.{is_heard}
use Rattle.raft_log.specs.Peers.{PeerLists}
use Rattle.node_steps.proofs.Hearing.{hears_as, stays_within, unheard}
use Rattle.node_steps.proofs.messages.on_message.Goals as goal

pub returns-then-not-is_heard : goal.returns-then-not-is_heard
returns-then-not-is_heard g c =
    let size : ℕ = c.args.state.now.standing.peers.size in
    let heard : c.is_heard.result ≡ is_heard size c.args.id c.args.message = c.is_heard.ensures ∙ ap (λ (k : ℕ). is_heard k c.args.id c.args.message) (c.value-size.ensures.value ∙ c.size.ensures) in
    unheard c.args.blank size c.args.id c.args.message c.args.state.now.standing c.args.state.now.log c.still.result (sym heard ∙ c.if-not-is_heard.true) c.still.ensures

pub handled-requires-clause-within : goal.handled-requires-clause-within
handled-requires-clause-within g c = stays_within c.args.state.now.standing c.raised-standing.result c.args.state.now.log c.args.message.term c.raised-standing.ensures.step c.requires.within

pub returns : goal.returns
returns g c =
    let size : ℕ = c.args.state.now.standing.peers.size in
    let heard : c.is_heard.result ≡ is_heard size c.args.id c.args.message = c.is_heard.ensures ∙ ap (λ (k : ℕ). is_heard k c.args.id c.args.message) (c.value-size.ensures.value ∙ c.size.ensures) in
    ok_map c.handled.result
    (λ step h. hears_as c.args.blank size c.raised-standing.result.peers.size c.args.id c.new.result c.args.message c.args.state.now.standing c.raised-standing.result c.args.state.now.log step
    (sym heard ∙ c.if-not-is_heard.false) c.new.ensures (ap (λ (p : PeerLists). p.size) c.raised-standing.ensures.group) c.raised-standing.ensures.step h)
    c.handled.ensures

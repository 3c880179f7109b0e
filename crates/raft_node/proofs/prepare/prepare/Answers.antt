use Rattle.std.proofs.Common.{◌≡◌, ℕ, Option, refl, subst, ◌∙◌}
use Rattle.std.proofs.lemmas.Result.{err_from_is_err_and}
use Rattle.machine_laws.specs.declared.class.Source.{Source}
use Rattle.raft_log.specs.Seen.{node_of}
use Rattle.replication.specs.Replication.{beat}
use Rattle.node_steps.specs.Messages.{on_message}
use Rattle.node_steps.specs.Plans.{Goes, IsPrepared, IsStepOf, ask_plan, claim_plan}
use Rattle.raft_node.specs.Parts.{applied_bodies, size_of}
use Rattle.raft_node.proofs.Preparing.{stepped, stayed}
use Rattle.raft_node.proofs.prepare.prepare.Goals as goal

pub returns-in_ok-beat-in-Beat : goal.returns-in_ok-beat-in-Beat
returns-in_ok-beat-in-Beat g c s h = rw c.in-Beat.is (stepped c.args.state.now.standing c.args.state.now.log _ _ c.in_ok-beat-in-Beat.ensures)

pub returns-in_ok-on_message-in-Deliver : goal.returns-in_ok-on_message-in-Deliver
returns-in_ok-on_message-in-Deliver g c s h =
    let blank : c.blank-blank.result ≡ g.M.Hosted.blank = c.blank-blank.ensures in
    rw c.in-Deliver.is
    (subst (λ (b : g.row.M-Command.Denot). IsStepOf (λ n. Goes (on_message b (size_of c.args.state.now) c.args.id n c.in-Deliver.message)) c.args.state.now.standing c.args.state.now.log c.in_ok-on_message-in-Deliver.field-0) blank
    (stepped c.args.state.now.standing c.args.state.now.log c.in_ok-on_message-in-Deliver.field-0 (λ n. on_message c.blank-blank.result (size_of c.args.state.now) c.args.id n c.in-Deliver.message) c.in_ok-on_message-in-Deliver.ensures))

pub returns-in-Heard : goal.returns-in-Heard
returns-in-Heard g c s h = rw c.in-Heard.is c.on_heard.ensures

pub returns-in-Apply : goal.returns-in-Apply
returns-in-Apply g c s h = rw c.in-Apply.is (stayed c.args.state.now.standing c.args.state.now.log c.still.result c.still.ensures)

pub returns-in_err-beat-in-Beat : goal.returns-in_err-beat-in-Beat
returns-in_err-beat-in-Beat g c s h =
    let p = err_from_is_err_and c.from_residual.result c.from_residual.ensures.1 in
    rw (c.in-Beat.is, p.1, p.2) (λ sent. (beat (size_of c.args.state.now) c.args.id (node_of c.args.state.now.standing c.args.state.now.log sent), refl))

pub returns-in_err-on_message-in-Deliver : goal.returns-in_err-on_message-in-Deliver
returns-in_err-on_message-in-Deliver g c s h =
    let p = err_from_is_err_and c.from_residual-in_err-on_message-in-Deliver.result c.from_residual-in_err-on_message-in-Deliver.ensures.1 in
    rw (c.in-Deliver.is, p.1, p.2) (λ sent. (on_message g.M.Hosted.blank (size_of c.args.state.now) c.args.id (node_of c.args.state.now.standing c.args.state.now.log sent) c.in-Deliver.message, refl))

pub returns-in-Timeout : goal.returns-in-Timeout
returns-in-Timeout g c s h = rw c.in-Timeout.is c.on_timeout.ensures

pub returns-in-Ask : goal.returns-in-Ask
returns-in-Ask g c s h =
    rw c.in-Ask.is
    (subst (λ (x : Source). IsPrepared (ask_plan c.args.id x c.in-Ask.body) c.args.state.now.standing c.args.state.now.log c.on_ask.result) c.source-source.ensures c.on_ask.ensures)

pub returns-in-Opened : goal.returns-in-Opened
returns-in-Opened g c s h = rw c.in-Opened.is c.on_opened.ensures

pub returns-in-Closed : goal.returns-in-Closed
returns-in-Closed g c s h = rw c.in-Closed.is c.on_closed.ensures

pub returns-in-Claim : goal.returns-in-Claim
returns-in-Claim g c s h =
    rw c.in-Claim.is
    (subst (λ (o : Option ℕ). IsPrepared (claim_plan g.M.Hosted.claim o) c.args.state.now.standing c.args.state.now.log c.on_claim.result) (c.next_claim.ensures s (applied_bodies c.args.state.now) h) c.on_claim.ensures)

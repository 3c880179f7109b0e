use Rattle.std.proofs.Common.{◌≡◌, ℕ, suc, ◌<◌, List, ◌∷◌, Option, Some, ap, refl, subst, ◌∙◌, arith}
use Rattle.std.specs.Prelude.{filter}
use Rattle.raft_log.specs.declared.entry.Entry.{Entry}
use Rattle.raft_log.specs.declared.node_state.Live.{Live}
use Rattle.raft_log.specs.declared.node_state.NodeState.{NodeState}
use Rattle.raft_log.specs.Lists.{item}
use Rattle.raft_log.specs.Logs.{term_at}
use Rattle.raft_log.specs.Positions.{live_of}
use Rattle.raft_node.specs.Parts.{applied_bodies}
use Rattle.raft_node.specs.Steps.{leaves}
use Rattle.raft_node.proofs.Applying.{runs_here, applied_whole, applies}
use Rattle.raft_node.proofs.node.Node.apply.Goals as goal

pub invariant_of-self : goal.invariant_of-self
invariant_of-self g c =
    let state : NodeState g.row.M-Command.Denot = c.self.inside.state in
    let place : c.new-place.result ≡ suc state.standing.applied = omega arith in
    let e : Entry g.row.M-Command.Denot = record { term = term_at state.log c.new-place.result; body = c.body-body.result.now } in
    let at : item state.log (suc state.standing.applied) ≡ Some e = subst (λ (m : ℕ). item state.log m ≡ Some e) place c.body-body.ensures in
    let lt : state.standing.applied < state.standing.commit = omega arith in
    let runs : g.M.Machine.stands c.self.inside.machine c.self.inside.setup (applied_bodies state) = runs_here _ _ _ c.args.self.now c.self.view_is c.requires.up c.self.invariant in
    let now : g.M.Machine.stands c.apply.new.self c.self.inside.setup ((c.value-2.result, c.get.result.now) ∷ applied_bodies state) = c.in-Ok.ensures.stands c.self.inside.setup (applied_bodies state) runs in
    let placed : g.M.Machine.stands c.apply.new.self c.self.inside.setup ((c.new-place.result, c.get.result.now) ∷ applied_bodies state) =
    subst (λ (m : ℕ). g.M.Machine.stands c.apply.new.self c.self.inside.setup ((m, c.get.result.now) ∷ applied_bodies state)) c.value-2.ensures.value now
    in
    applied_whole _ _ _ c.args.self.now c.self.view_is c.requires.up c.self.invariant e lt at c.apply.new.self c.new-place.result place
    (subst (λ (b : g.row.M-Command.Denot). g.M.Machine.stands c.apply.new.self c.self.inside.setup ((c.new-place.result, b) ∷ applied_bodies state)) c.get.ensures.value placed)

pub returns-in-Ok : goal.returns-in-Ok
returns-in-Ok g c =
    let state : NodeState g.row.M-Command.Denot = c.self.inside.state in
    let place : c.new-place.result ≡ suc state.standing.applied = omega arith in
    let e : Entry g.row.M-Command.Denot = record { term = term_at state.log c.new-place.result; body = c.body-body.result.now } in
    let at : item state.log (suc state.standing.applied) ≡ Some e = subst (λ (m : ℕ). item state.log m ≡ Some e) place c.body-body.ensures in
    let lt : state.standing.applied < state.standing.commit = omega arith in
    let runs : g.M.Machine.stands c.self.inside.machine c.self.inside.setup (applied_bodies state) = runs_here _ _ _ c.args.self.now c.self.view_is c.requires.up c.self.invariant in
    let brought : ℕ → g.row.M-Command.Denot → List g.row.M-Effect.Denot = g.M.Machine.effects c.self.inside.setup (applied_bodies state) in
    let given : c.in-Ok.effects.items ≡ brought c.new-place.result e.body =
    c.in-Ok.ensures.effects c.self.inside.setup (applied_bodies state) runs
    ∙ (ap (λ (m : ℕ). brought m c.get.result.now) c.value-2.ensures.value ∙ ap (λ (b : g.row.M-Command.Denot). brought c.new-place.result b) c.get.ensures.value)
    in
    let left : c.leaving.result.items ≡ filter (λ x. leaves c.self.inside.id state.standing.boot (live_of state.standing.position) (g.M.Hosted.class x)) (brought c.new-place.result e.body) =
    c.leaving.ensures
    ∙ (ap (λ (o : Option Live). filter (λ x. leaves c.self.inside.id state.standing.boot o (g.M.Hosted.class x)) c.in-Ok.effects.items) c.live-live.ensures
    ∙ ap (λ (es : List g.row.M-Effect.Denot). filter (λ x. leaves c.self.inside.id state.standing.boot (live_of state.standing.position) (g.M.Hosted.class x)) es) given)
    in
    applies _ _ _ c.args.self.now c.self.view_is c.requires.up c.self.invariant e lt at g.M.Machine.effects g.M.Hosted.class _
    c.apply.new.self c.new-place.result place c.new-in-Ok.ensures.items refl left

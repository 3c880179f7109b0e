use Rattle.std.proofs.Common.{rules, ◌≡◌, None, inl, ap, sym, ◌∙◌}
use Rattle.raft_node.proofs.SteppingAll.{all_done, all_failed, if_some, is_still, no_memory}
use Rattle.raft_node.proofs.node.Node.step_all.Goals as goal

pub returns-in-Ok-stand-clause-done : goal.returns-in-Ok-stand-clause-done
returns-in-Ok-stand-clause-done g c =
    let up : c.args.self.now.down ≡ None = search rules in
    all_done _ c.args.inputs.items c.args.self.now _ up c.in-Ok.step c.in-Ok.answers.items c.in-Ok.ensures.planned c.in-Ok-stand.output c.stand.new.self c.in-Ok-stand.ensures.stood

pub returns-in-Err-stand-clause-failed : goal.returns-in-Err-stand-clause-failed
returns-in-Err-stand-clause-failed g c =
    let up : c.args.self.now.down ≡ None = search rules in
    record {
      falls = inl (all_failed _ c.args.inputs.items c.args.self.now _ up c.in-Ok.step c.in-Ok.answers.items c.in-Ok.ensures.planned c.in-Err-stand.fault c.tried.result.cause c.stand.new.self c.in-Err-stand.ensures.stood c.tried.ensures.cause);
      tried = if_some c.tried.result.answers c.in-Ok.answers _ c.tried.ensures.answers c.in-Ok.ensures.planned.outs_are;
      untried = λ e. absurd (let none = sym c.tried.ensures.answers ∙ e in cc none);
    }

pub returns-in-Err-clause-failed : goal.returns-in-Err-clause-failed
returns-in-Err-clause-failed g c =
    let up : c.args.self.now.down ≡ None = search rules in
    record {
      falls = inl (no_memory _ c.args.inputs.items _ _ g.met.S.Stable.sure _ c.args.self.now c.self.view_is up c.self.invariant);
      tried = tt;
      untried = λ e. ap (λ n. n.store) c.self.view_is;
    }

pub returns-in-Ok-stand-clause-still : goal.returns-in-Ok-stand-clause-still
returns-in-Ok-stand-clause-still g c h =
    c.in-Ok-stand.ensures.still (is_still c.args.self.now.state c.in-Ok.step c.in-Ok.ensures.appends c.stand.new.self.state c.in-Ok-stand.ensures.stood.0.state h)

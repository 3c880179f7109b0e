use Rattle.std.proofs.Common.{◌≡◌, ◌⊎◌, ℕ, ap, ◌∙◌, subst}
use Rattle.node_threads.specs.Telling.{HasTold, IsUntold}
use Rattle.node_threads.proofs.Telling.{told_behind}
use Rattle.node_threads.proofs.worker_loop.WorkerLoop.tell.Goals as goal

pub returns-clause-told : goal.returns-clause-told
returns-clause-told g c =
    let seen = c.has_grown-has_grown.new.self in
    let one = c.stand-now.ensures.only in
    let two = c.has_grown-has_grown.ensures.seen in
    told_behind _ _ _ c.stand-now.result c.args.self.now seen c.tell_now.new.self c.stand-now.ensures.stands (ap (λ w. w.outlet) two ∙ ap (λ w. w.outlet) one)
    (ap (λ w. w.round) two ∙ ap (λ w. w.round) one) (ap (λ w. w.told) two ∙ ap (λ w. w.told) one) (ap (λ w. w.has_untold_beat) two ∙ ap (λ w. w.has_untold_beat) one)
    (subst (λ (n : ℕ). IsUntold seen c.tell_now.new.self ⊎ HasTold g.O.Outlet.has_taken (λ told. told ≡ c.stand-now.result) n seen c.tell_now.new.self) c.id.ensures.pass c.tell_now.ensures.told)

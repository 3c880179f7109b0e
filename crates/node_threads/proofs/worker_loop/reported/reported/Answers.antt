use Rattle.std.proofs.Common.{rules, not}
use Rattle.std.proofs.lemmas.Fn.{filter_same}
use Rattle.node_threads.specs.Rounds.{is_handed}
use Rattle.node_threads.proofs.worker_loop.reported.reported.Goals as goal

pub returns : goal.returns
returns g c =
    filter_same _ (λ e. not (is_handed (g.M.Hosted.class e))) _ (λ x b f' k. search rules) _ _ c.retain.ensures.filtered

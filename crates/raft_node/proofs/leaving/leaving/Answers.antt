use Rattle.std.proofs.Common.{rules}
use Rattle.std.proofs.lemmas.Fn.{filter_same}
use Rattle.raft_node.specs.Steps.{leaves}
use Rattle.raft_node.proofs.leaving.leaving.Goals as goal

pub returns : goal.returns
returns g c =
    filter_same _ (λ e. leaves c.args.id c.args.boot c.args.live (g.M.Hosted.class e)) _ (λ x b f' k. search rules) _ _ c.retain.ensures.filtered

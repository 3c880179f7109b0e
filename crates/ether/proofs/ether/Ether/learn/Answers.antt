use Rattle.std.proofs.Common.{rules}
use Rattle.raft_node.specs.Hosts.{hosted}
use Rattle.raft_node.specs.Machine.{Machine}
use Rattle.ether.specs.Plays.{of_one_moment}
use Rattle.ether.specs.Rule.{Known}
use Rattle.ether.proofs.Keys.{at_key}
use Rattle.ether.proofs.Moments.{learns}
use Rattle.ether.proofs.Steps.{no_step}
use Rattle.ether.proofs.ether.Ether.learn.Given as given
use Rattle.ether.proofs.ether.Ether.learn.Goals as goal

abbrev machine : (g : given.Over) → g.row.M-Setup.Denot → Machine
machine g s =
    hosted g.M.Hosted.blank g.M.Hosted.opened g.M.Hosted.shut g.M.Hosted.heard g.M.Hosted.claim g.M.Hosted.source (g.M.Machine.effects s)
    (g.M.Hosted.next_claim s) (g.M.Hosted.playback s) g.M.Hosted.class

pub fetch_add-requires : goal.fetch_add-requires
fetch_add-requires g c =
    let key = c.self.inside.table.shared.key in (
      search rules,
      search rules,
      learns (machine g key.setup) key.size _ _ _ no_step g.W.Step.fact
          (at_key (λ s n. (k : Known g.row.M-Command.Denot g.row.M-Line.Denot g.row.M-Target.Denot) → of_one_moment (machine g s) n k → g.W.Step.fact k) key c.self.inside.group _ c.args.self.now c.self.invariant.1 c.self.view_is c.requires.step),
    )

use Rattle.std.proofs.Common.{rules, ◌≡◌, ◌<◌, length, sym, ap, ◌∙◌, subst, arith}
use Rattle.raft_node.specs.Hosts.{hosted}
use Rattle.raft_node.specs.Machine.{Machine}
use Rattle.ether.specs.declared.rule.Group.{Group}
use Rattle.ether.specs.Passes.{EtherParts, looks_of, view_of}
use Rattle.ether.specs.Plays.{ticked}
use Rattle.ether.proofs.Steps.{no_step}
use Rattle.ether.proofs.Ticks.{ticks_as}
use Rattle.ether.proofs.ether.Ether.count.Given as given
use Rattle.ether.proofs.ether.Ether.count.Goals as goal

abbrev machine : (g : given.Over) → g.row.M-Setup.Denot → Machine
machine g s =
    hosted g.M.Hosted.blank g.M.Hosted.opened g.M.Hosted.shut g.M.Hosted.heard g.M.Hosted.claim g.M.Hosted.source (g.M.Machine.effects s)
    (g.M.Hosted.next_claim s) (g.M.Hosted.playback s) g.M.Hosted.class

pub fetch_add-requires : goal.fetch_add-requires
fetch_add-requires g c =
    let is = c.requires.pass.0.0 in
    let opened = c.requires.pass.0.1 in
    let key = c.self.inside.table.shared.key in
    let same : c.args.self.now.setup ≡ key.setup = sym (ap (λ (k : Group g.row.M-Setup.Denot). k.setup) c.self.invariant.1 ∙ ap (λ (e : EtherParts g.row.M-Setup.Denot). e.setup) c.self.view_is) in
    let few : length (view_of c.args.pass.now).turns < 1152921504606846976 = (let lt = c.requires.pass.1 in let n = is.ticks in omega arith) in (
      search rules,
      search rules,
      ticks_as (machine g key.setup) key.size _ _ _ no_step g.W.Step.becomes c.args.pass.now.spare (looks_of c.args.pass.now) (view_of c.args.pass.now) opened.0.0 c.args.event.value
          (subst (λ (s : g.row.M-Setup.Denot). g.W.Step.becomes ≡ ticked (machine g s) c.args.event.value) same c.requires.step) opened.1 opened.0.1 few c.requires.heard,
    )

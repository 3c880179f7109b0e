use Rattle.std.proofs.Common.{rules, ◌≡◌, true, [], refl}
use Rattle.raft_log.specs.Seen.{seen}
use Rattle.ether.specs.Passes.{looks_of, view_of}
use Rattle.ether.specs.Plays.{after_opening, holding}
use Rattle.ether.proofs.Passes.{is_pass, is_open}
use Rattle.ether.proofs.Steps.{no_step, opened_me}
use Rattle.ether.proofs.Ticks.{opens_as}
use Rattle.ether.proofs.ether.Ether.open.Given as given
use Rattle.ether.proofs.ether.Ether.open.Goals as goal

pub fetch_add-requires : goal.fetch_add-requires
fetch_add-requires g c =
    let is = c.requires.pass.0 in (
      search rules,
      search rules,
      opens_as _ _ _ _ _ no_step _ is.out c.args.pass.now.spare (looks_of c.args.pass.now) (view_of c.args.pass.now)
          (g.S.Stable.condition c.args.node.now.store).honest (seen c.args.node.now.state []) c.requires.step is.me c.requires.pass.1 refl,
    )

held : (g : given.Over) → (c : goal.After-fetch_add g) → c.fetch_add.new.seat.me ≡ holding true c.args.pass.now.spare (looks_of c.args.pass.now)
    (after_opening (view_of c.args.pass.now) c.fetch_add.result (g.S.Stable.condition c.args.node.now.store).honest (seen c.args.node.now.state []))
held g c =
    let is = c.requires.pass.0 in
    opened_me is.out c.args.pass.now.spare (looks_of c.args.pass.now) (view_of c.args.pass.now) (g.S.Stable.condition c.args.node.now.store).honest
    (seen c.args.node.now.state []) g.W.Step.becomes no_step c.fetch_add.result c.args.pass.now.seat.me c.fetch_add.new.seat.me c.requires.step is.me c.fetch_add.ensures.2

pub returns-clause-open : goal.returns-clause-open
returns-clause-open g c =
    let is = c.requires.pass.0 in
    let now = record c.args.pass.now { seat = c.fetch_add.new.seat } in
    let v = after_opening (view_of c.args.pass.now) c.fetch_add.result (g.S.Stable.condition c.args.node.now.store).honest (seen c.args.node.now.state []) in (
      (
        is_pass _ _ now true (looks_of c.args.pass.now) v (held g c) (search rules) is.node is.near is.slot is.many is.ticks is.few,
        is_open now (looks_of c.args.pass.now) v (c.fetch_add.result, seen c.args.node.now.state []) (held g c) refl,
      ),
      refl,
    )

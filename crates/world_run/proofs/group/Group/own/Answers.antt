use Rattle.std.proofs.Common.{◌≤◌, ◌-◌, IfOk, inl, inr, length, refl, set, subst, arith}
use Rattle.raft_node.specs.Hosts.{hosted}
use Rattle.raft_node.specs.Machine.{Machine}
use Rattle.world_run.specs.Groups.{HasOwnedAt}
use Rattle.world_run.specs.Told.{told_own}
use Rattle.world_run.proofs.Cells.{cell_at, group_after, missing_at, owned_after}
use Rattle.world_run.proofs.group.Group.own.Given as given
use Rattle.world_run.proofs.group.Group.own.Goals.{then-place-eq0-via-then-place-eq0, then-place-eq0-via-else-place-eq0+then-place-len}
use Rattle.world_run.proofs.group.Group.own.Goals as goal

-- the machine that the nodes host
abbrev machine : (g : given.Over) → g.row.M-Setup.Denot → Machine
machine g s =
    hosted g.M.Hosted.blank g.M.Hosted.opened g.M.Hosted.shut g.M.Hosted.heard g.M.Hosted.claim g.M.Hosted.source (g.M.Machine.effects s)
    (g.M.Hosted.next_claim s) (g.M.Hosted.playback s) g.M.Hosted.class

pub returns-then-place-eq0-clause-comes : goal.returns-then-place-eq0-clause-comes
returns-then-place-eq0-clause-comes g c =
    let m = machine g c.args.self.now.setup in
    let none = missing_at m (told_own m c.args.own) c.args.node c.args.self.now.cells.items in
    elim c.then-place-eq0.branch [
      | then-place-eq0-via-then-place-eq0 w ↦ none (inl w.if-place-eq0.true)
      | then-place-eq0-via-else-place-eq0+then-place-len w ↦ none (inr (omega (arith, w.if-place-len.true, w.len.ensures)))
    ]

pub returns-then-place-eq0-clause-same : goal.returns-then-place-eq0-clause-same
returns-then-place-eq0-clause-same g c = (refl, refl)

pub returns-then-place-eq0-clause-group : goal.returns-then-place-eq0-clause-group
returns-then-place-eq0-clause-group g c = c.requires

pub returns-clause-same : goal.returns-clause-same
returns-clause-same g c = (refl, refl)

pub own-requires : goal.own-requires
own-requires g c = (cell_at _ _ _ _ _ c.requires c.if-place-eq0.false (omega (arith, c.if-place-len.false, c.len.ensures)) c.index_mut.ensures.value).is_up

pub returns-clause-group : goal.returns-clause-group
returns-clause-group g c =
    let is = cell_at _ _ _ _ _ c.requires c.if-place-eq0.false (omega (arith, c.if-place-len.false, c.len.ensures)) c.index_mut.ensures.value in
    let m = machine g c.index_mut.result.now.node.setup in
    group_after m (told_own m c.args.own) _ _ _ _ _ _ c.own.result c.requires c.if-place-eq0.false is c.own.ensures

pub returns-clause-comes : goal.returns-clause-comes
returns-clause-comes g c =
    let cells = c.args.self.now.cells.items in
    let le : c.args.node ≤ length cells = omega (arith, c.if-place-len.false, c.len.ensures) in
    let is = cell_at _ _ _ _ _ c.requires c.if-place-eq0.false le c.index_mut.ensures.value in
    let m = machine g c.index_mut.result.now.node.setup in
    subst (λ s. IfOk c.own.result (HasOwnedAt (machine g s) c.args.node (told_own (machine g s) c.args.own) cells (set cells (c.args.node - 1) c.own.new.self))) is.setup_is
    (owned_after m (told_own m c.args.own) _ _ _ _ _ _ c.own.result c.requires c.if-place-eq0.false le c.index_mut.ensures.value is c.own.ensures)

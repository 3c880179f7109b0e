use Rattle.std.proofs.Common.{rules, ◌≡◌, List, [], length, subst}
use Rattle.ether.specs.declared.pass.Pass.{Pass}
use Rattle.ether.proofs.Cutting.{cuts, joins}
use Rattle.ether.proofs.Gathering.{Gathered, all_meet, gathers_first, gathers_more, last_at, none_meet}
use Rattle.ether.proofs.ether.Ether.meet_all.Goals as goal

pub returns-in_default : goal.returns-in_default
returns-in_default g c =
    let none : c.args.passes.items ≡ [] = search rules in
    none_meet _ c.args.self.now.size c.args.passes.items c.requires.0 none

pub loop-pass-init : goal.loop-pass-init
loop-pass-init g c =
    let all = c.args.passes.items in
    let pass = c.requires.1 (length c.pop.new.self.items) c.in-Some.last (last_at all c.pop.new.self.items c.in-Some.last c.in-Some.ensures.items) in
    (pass.0.of_table, gathers_first _ _ all c.pop.new.self.items c.in-Some.last c.in-Some.ensures.items pass.0)

pub split_seat-lent-requires : goal.split_seat-lent-requires
split_seat-lent-requires g c =
    let at = c.loop-pass.invariant.1.0 (length c.pop-in-loop-pass.new.self.items) c.in-Some-pop.pass (last_at c.loop-pass.rest.items c.pop-in-loop-pass.new.self.items c.in-Some-pop.pass c.in-Some-pop.ensures.items) in
    let pass = c.requires.1 (length c.pop-in-loop-pass.new.self.items) c.in-Some-pop.pass at in
    let table : c.in-Some-pop.pass.seat.table_id ≡ c.args.self.now.table = pass.0.of_table in
    (search rules, search rules, cuts _ _ _ 0 _)

pub join_seat-requires : goal.join_seat-requires
join_seat-requires g c =
    let at = c.loop-pass.invariant.1.0 (length c.pop-in-loop-pass.new.self.items) c.in-Some-pop.pass (last_at c.loop-pass.rest.items c.pop-in-loop-pass.new.self.items c.in-Some-pop.pass c.in-Some-pop.ensures.items) in
    let pass = c.requires.1 (length c.pop-in-loop-pass.new.self.items) c.in-Some-pop.pass at in
    let table : c.in-Some-pop.pass.seat.table_id ≡ c.args.self.now.table = pass.0.of_table in
    (search rules, search rules, search rules, search rules, joins _ _ _ _ _ _)

pub loop-pass-preserved : goal.loop-pass-preserved
loop-pass-preserved g c =
    let rest = c.loop-pass.rest.items in
    let rest' = c.pop-in-loop-pass.new.self.items in
    let p = c.in-Some-pop.pass in
    let at = c.loop-pass.invariant.1.0 (length rest') p (last_at rest rest' p c.in-Some-pop.ensures.items) in
    let pass = c.requires.1 (length rest') p at in (
      search rules,
      gathers_more _ _ c.args.passes.items rest rest' p c.loop-pass.seat.me c.join_seat.new.seat.me c.split_seat-lent.result.me c.loop-pass.invariant.1 c.in-Some-pop.ensures.items pass.0
          c.split_seat-lent.ensures.4 c.join_seat.ensures.2,
    )

pub returns : goal.returns
returns g c =
    let none : c.loop-pass.rest.items ≡ [] = search rules in
    all_meet _ _ c.args.self.now.size c.args.passes.items c.loop-pass.seat.me.0.views c.requires.0 c.requires.1
    (subst (λ (l : List (Pass g.row.M-Command.Denot g.row.M-Line.Denot g.row.M-Target.Denot)). Gathered c.args.passes.items l c.loop-pass.seat.me.0.views) none c.loop-pass.invariant.1) c.learn.ensures.fact

use Rattle.std.proofs.Common.{ℕ, Err, refl, sym, subst, ◌∙◌}
use Rattle.world_run.specs.declared.outcome.WorldFault.TheVariants.{Memory}
use Rattle.std.proofs.lemmas.Bool.{cond-true}
use Rattle.world_run.specs.Groups.{HasHappened, IsGroup}
use Rattle.world_run.specs.Told.{events_of}
use Rattle.world_run.proofs.Onward.{at_most_seven, begins, world_is, agreed_of, faithful_of, raft_of, apart_of, runs_on, brings_on, memory_is_no_refusal, world_is_no_refusal}
use Rattle.world_run.proofs.world.World.run.Invariants.{machine}
use Rattle.world_run.proofs.world.World.run.Goals as goal

pub returns-then-is_err : goal.returns-then-is_err
returns-then-is_err g c =
    record { world = tt; agreed = tt; faithful = tt; raft = tt; apart = tt; setup = tt; allowed = tt; refused = memory_is_no_refusal (Err Memory) c.args.size (c.in-Some.ensures.allowed.0 refl) refl }

pub happen-requires : goal.happen-requires
happen-requires g c =
    let i = c.loop-event.invariant in
    let cells = c.loop-event.group.cells.items in
    subst (λ s. IsGroup s c.loop-event.group.size cells) (sym i.0) (subst (λ (n : ℕ). IsGroup c.args.setup.now n cells) (sym i.1) i.2)

pub loop-event-preserved : goal.loop-event-preserved
loop-event-preserved g c =
    let i = c.loop-event.invariant in
    let m = machine g c.args.setup.now in
    let h : HasHappened m c.event-item.result c.loop-event.group.cells.items c.happen.new.self.cells.items c.in-Ok.out =
    subst (λ s. HasHappened (machine g s) c.event-item.result c.loop-event.group.cells.items c.happen.new.self.cells.items c.in-Ok.out) i.0 c.in-Ok.ensures.comes in
    let all = subst (λ (n : ℕ). IsGroup c.args.setup.now n c.happen.new.self.cells.items) i.1 (subst (λ s. IsGroup s c.loop-event.group.size c.happen.new.self.cells.items) i.0 c.in-Ok.ensures.group) in (
      c.happen.ensures.same.0 ∙ i.0,
      c.happen.ensures.same.1 ∙ i.1,
      all,
      runs_on m c.args.events.now c.loop-event.event-index c.event-item.result c.loop-event.group.cells.items c.happen.new.self.cells.items c.in-Ok.out _ c.loop-event-test.true c.event-item.is h i.3,
      brings_on m c.args.events.now c.loop-event.event-index c.event-item.result c.loop-event.group.cells.items c.happen.new.self.cells.items c.in-Ok.out c.loop-event.outs.items c.push.new.self.items _ c.loop-event-test.true c.event-item.is h (c.push.ensures.items ∙ cond-true _ _ _ c.if-is_err.ensures.negation) i.4,
    )

pub returns-clause-allowed : goal.returns-clause-allowed
returns-clause-allowed g c = c.in-Some.ensures.allowed.0 refl

pub returns-clause-refused : goal.returns-clause-refused
returns-clause-refused g c = world_is_no_refusal _ _ (c.in-Some.ensures.allowed.0 refl)

pub returns-in_default-happen : goal.returns-in_default-happen
returns-in_default-happen g c =
    record { world = tt; agreed = tt; faithful = tt; raft = tt; apart = tt; setup = tt; allowed = tt; refused = memory_is_no_refusal (Err Memory) c.args.size (c.in-Some.ensures.allowed.0 refl) refl }

pub returns-clause-setup : goal.returns-clause-setup
returns-clause-setup g c = c.loop-event.invariant.0

pub returns-clause-agreed : goal.returns-clause-agreed
returns-clause-agreed g c = let m = machine g c.args.setup.now in agreed_of m c.args.size (events_of m c.args.events.now)

pub returns-clause-faithful : goal.returns-clause-faithful
returns-clause-faithful g c = let m = machine g c.args.setup.now in faithful_of m c.args.size (events_of m c.args.events.now)

pub returns-clause-raft : goal.returns-clause-raft
returns-clause-raft g c = let m = machine g c.args.setup.now in raft_of m c.args.size (events_of m c.args.events.now)

pub returns-clause-apart : goal.returns-clause-apart
returns-clause-apart g c = let m = machine g c.args.setup.now in apart_of m c.args.size (events_of m c.args.events.now)

pub invariant_of-result : goal.invariant_of-result
invariant_of-result g c = at_most_seven _ _ c.loop-event.invariant.2.1 (c.in-Some.ensures.allowed.0 refl)

pub returns-clause-world : goal.returns-clause-world
returns-clause-world g c =
    world_is (machine g c.args.setup.now) c.loop-event.group.setup c.args.events.now c.loop-event.event-index c.args.size c.loop-event.group.cells.items c.loop-event.outs.items c.loop-event-test.false
    c.loop-event.invariant.3 c.loop-event.invariant.4

pub loop-event-init : goal.loop-event-init
loop-event-init g c =
    let cells = c.in_ok-group.group.cells.items in
    let size = c.in-Some.ensures.value in
    let all = begins (machine g c.args.setup.now) c.args.events.now cells c.new-outs.result.items c.in-Some.size c.args.size size c.new-outs.ensures.items c.in_ok-group.ensures.nodes in (
      c.in_ok-group.ensures.setup.0,
      c.in_ok-group.ensures.setup.1 ∙ size,
      subst (λ (n : ℕ). IsGroup c.args.setup.now n cells) size c.in_ok-group.ensures.group,
      all.0,
      all.1,
    )

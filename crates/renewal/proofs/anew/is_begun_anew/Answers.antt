use Rattle.std.proofs.Common.{◌∙◌, ap, sym}
use Rattle.machine_laws.specs.Runs.{run}
use Rattle.bouncer_tower.specs.Bodies.{plain}
use Rattle.irc_line.specs.Keys.{is_in}
use Rattle.buffer_machine.specs.Held.{commands, held}
use Rattle.renewal.proofs.Unjoined.{unjoined_anew}
use Rattle.renewal.proofs.Outcomes.{if_true}
use Rattle.renewal.proofs.Tests.{from_true}
use Rattle.renewal.proofs.anew.is_begun_anew.Goals as goal

pub returns : goal.returns
returns c = λ before so sn led.
    let old = c.buffers_of.ensures c.args.change.now.from.now before so in
    let new = c.buffers_of-2.ensures c.args.change.now.to.now (run c.args.bodies.now) sn in
    if_true _ _ _ _ c.is_moved_machine.result
    (λ holding gone floors. record {
      gone = gone;
      nobody = ap (λ h. h.clients) holding;
      unjoined = unjoined_anew c.args.change.now.from.now c.args.change.now.to.now c.args.change.now.forgotten.now (λ key. is_in key c.args.change.now.joined.now) (held c.args.change.now.from.now (commands (plain before))) (commands (plain (run c.args.bodies.now))) holding;
      floors = floors;
      holding = holding;
      waits = c.wait_same.ensures c.args.change.now.from.now c.args.change.now.to.now before (run c.args.bodies.now) so sn (from_true c.wait_same.result c.if-not-wait_same.false);
      led = led;
      brought = sym c.are_brought.ensures ∙ c.if-not-are_brought.false;
    })
    (c.is_moved_machine.ensures.holding (plain before) (plain (run c.args.bodies.now)) old new)
    (c.is_moved_machine.ensures.gone (plain before) old)
    (c.is_moved_machine.ensures.floors (plain before) (plain (run c.args.bodies.now)) old new)

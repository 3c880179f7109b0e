use Rattle.std.proofs.Common.{subst, sym, ap}
use Rattle.buffer_machine.specs.Effects.{TakesNone}
use Rattle.buffer_machine.specs.Held.{commands}
use Rattle.buffer_machine.proofs.FloorLemmas.{floors-step, floor-is}
use Rattle.buffer_machine.proofs.HeldStep.{held-from, effects-from}
use Rattle.buffer_machine.proofs.machine.BufferMachineMachine.apply.Goals as goal

pub returns-in-Ok-clause-stands : goal.returns-in-Ok-clause-stands
returns-in-Ok-clause-stands c = λ s earlier h.
    let fl = floor-is c.args.self.now.floors (commands earlier) c.args.command.now h.floors c.in-Ok.ensures.limits in
    record {
      setup = h.setup;
      sound = h.sound;
      floors = rw c.in-Ok.ensures.floors (floors-step c.args.self.now.floors (commands earlier) c.args.command.now h.floors);
      buffers = held-from s c.args.self.now.setup _ _ _ (commands earlier) c.args.command.now h.sound c.in-Ok.ensures.held h.setup fl h.buffers;
      whole = h.whole;
    }

pub returns-in-Ok-clause-effects : goal.returns-in-Ok-clause-effects
returns-in-Ok-clause-effects c = λ s earlier h.
    let fl = floor-is c.args.self.now.floors (commands earlier) c.args.command.now h.floors c.in-Ok.ensures.limits in
    effects-from s c.args.self.now.setup _ _ _ (commands earlier) c.args.command.now h.sound c.in-Ok.ensures.effects h.setup fl h.buffers

pub returns-in-Err-clause-memory : goal.returns-in-Err-clause-memory
returns-in-Err-clause-memory c = λ s earlier h none.
    c.in-Err.ensures.memory (subst (λ os. TakesNone os c.args.command.now) (sym (ap (λ g. g.clients) h.buffers)) none)

use Rattle.std.proofs.Common.{rules}
use Rattle.node_threads.specs.Asking.{leader_in, term_in}
use Rattle.node_threads.specs.Requests.{queue_of}
use Rattle.node_threads.specs.Waiting.{account_of}
use Rattle.node_threads.proofs.Waiting.{back_again, back_more}
use Rattle.node_threads.proofs.worker_loop.WorkerLoop.gather.Goals as goal

pub loop-envelope-preserved : goal.loop-envelope-preserved
loop-envelope-preserved g c =
    let i = c.loop-envelope.invariant in (
      search rules,
      search rules,
      search rules,
      search rules,
      back_again (account_of c.args.self.now) (account_of c.loop-envelope.self) (account_of c.take_back.new.self) i.4 c.take_back.ensures.requests,
      λ new more.
          i.5 new
          (back_more (term_in c.args.cell.now.parts) (leader_in c.args.cell.now.parts) c.deref-envelope-items.result.now c.loop-envelope.envelope-index c.envelope-item.result
          (queue_of c.loop-envelope.self.requests) (queue_of c.take_back.new.self.requests) new c.loop-envelope-test.true c.envelope-item.is c.take_back.ensures.returned more),
    )

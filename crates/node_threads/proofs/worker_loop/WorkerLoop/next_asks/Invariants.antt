use Rattle.std.proofs.Common.{◌≡◌, ◌≤◌, ◌+◌, ◌-◌, ◌++◌, [], take, drop}
use Rattle.std.specs.Prelude.{vec_capacity, vec_len}
use Rattle.node_threads.specs.Asking.{term_in}
use Rattle.node_threads.specs.Requests.{last_asked}
use Rattle.node_threads.specs.Together.{asks_of}
use Rattle.node_threads.specs.Waiting.{account_of}
use Rattle.node_threads.proofs.worker_loop.WorkerLoop.next_asks.Given as goal

abbrev pub invariant-loop : goal.invariant-loop
invariant-loop g l =
    let first = l.fn.self.requests.waiting.items in
    let now = l.self.requests.waiting.items in
    record {
      taken : l.inputs.items ++ asks_of (take (l.count - l.counter) now) ≡ asks_of (take l.count first);
      left : drop (l.count - l.counter) now ≡ drop l.count first;
      kept : l.inputs.items ≡ [] → account_of l.self ≡ account_of l.fn.self;
      lost : l.fn.self.requests.lost ≤ l.self.requests.lost;
      asked : last_asked (term_in l.cell.parts) (take (l.count - l.counter) now) l.self.requests.asked ≡ last_asked (term_in l.cell.parts) (take l.count first) l.fn.self.requests.asked;
      done : l.self.done ≡ l.fn.self.done;
      room : vec_len l.inputs + (l.count - l.counter) ≤ vec_capacity l.inputs;
    }

use Rattle.std.proofs.Common.{rules, ◌≡◌, ◌+◌, ◌-◌, ◌++◌, suc, [], length, min, take, drop, true, Some, refl, sym, ap, ◌∙◌, subst, arith}
use Rattle.raft_log.specs.Batches.{batch_limit}
use Rattle.node_threads.specs.Asking.{term_in}
use Rattle.node_threads.specs.Together.{TakesFront, asks_of}
use Rattle.node_threads.proofs.Taken.{none_ready}
use Rattle.node_threads.specs.Requests.{Queue, last_asked, queue_of}
use Rattle.node_threads.proofs.Waiting.{lost_by_asking, some_pushed}
use Rattle.node_threads.proofs.Asked.{asks_ready, last_of_all, last_of_many, next_last, next_left, next_taken, none_waits_more, so_many}
use Rattle.node_threads.proofs.worker_loop.WorkerLoop.next_asks.Goals as goal

pub loop-init : goal.loop-init
loop-init g c =
    let first = c.args.self.now.requests.waiting.items in
    let all : c.min-count.result - 0 ≡ c.min-count.result = omega arith in
    let len = c.in-Ok.ensures.len in
    let room = c.in-Ok.ensures.exact in
    record {
      taken = λ i. c.in-Ok.ensures.items i ++ asks_of {L = g.row.M-Line.Denot} (take (all i) first);
      left = λ i. drop (all i) first;
      kept = λ none. refl;
      lost = omega arith;
      asked = λ i. last_asked (term_in c.args.cell.now.parts) (take (all i) first) c.args.self.now.requests.asked;
      done = refl;
      room = omega (arith, len, room);
    }

pub loop-preserved : goal.loop-preserved
loop-preserved g c =
    let first = c.args.self.now.requests.waiting.items in
    let old = c.loop.self.requests.waiting.items in
    let new = c.ask.new.self.waiting.items in
    let n = c.min-count.result - c.loop.counter in
    let m = c.min-count.result - (c.loop.counter + 1) in
    let some = c.loop-test.true in
    let next : n ≡ suc m = omega (arith, some) in
    let len = c.push_reserved.ensures.len in
    let full = c.push_reserved.ensures.capacity in
    let room = c.loop.invariant.room in
    let waits = c.in-Some.ensures.1 in
    record {
      taken = ap (λ l. l ++ asks_of {L = g.row.M-Line.Denot} (take m new)) c.push_reserved.ensures.items
          ∙ next_taken old new c.in-Some.ensures.0 c.in-Some.request c.loop.inputs.items (asks_of (take c.min-count.result first)) n m next waits c.loop.invariant.taken;
      left = next_left old new (drop c.min-count.result first) c.in-Some.ensures.0 c.in-Some.request n m next waits c.loop.invariant.left;
      kept = λ none. absurd (some_pushed _ _ (sym c.push_reserved.ensures.items ∙ none));
      lost = let least = c.loop.invariant.lost in let more = lost_by_asking _ (queue_of c.loop.self.requests) c.in-Some.request (queue_of c.ask.new.self) c.in-Some.ensures in omega (arith, least, more);
      asked = next_last (term_in c.args.cell.now.parts) old new c.in-Some.ensures.0 c.in-Some.request c.loop.self.requests.asked c.ask.new.self.asked _ n m next waits
          (ap (λ (q : Queue _). q.asked) c.in-Some.ensures.2 ∙ (λ i. Some (record { note = c.in-Some.ensures.0; term = (c.state.ensures.state i).standing.term; may_return = true })))
          c.loop.invariant.asked;
      done = c.loop.invariant.done;
      room = omega (arith, len, full, room, next);
    }

pub returns-in_default-ask-clause-front : goal.returns-in_default-ask-clause-front
returns-in_default-ask-clause-front g c =
    let first = c.args.self.now.requests.waiting.items in
    let old = c.loop.self.requests.waiting.items in
    let new = c.ask.new.self.waiting.items in
    let many : c.min-count.result ≡ min batch_limit (length first) = search rules in
    let same : old ≡ new = search rules in
    let none : old ≡ [] = c.in_default-ask.ensures.0 in
    subst (λ w. TakesFront first c.loop.inputs.items w) same
    (none_waits_more first old c.loop.inputs.items (c.min-count.result - c.loop.counter) c.min-count.result many c.loop.invariant.taken c.loop.invariant.left none)

pub returns-in_default-ask-clause-none : goal.returns-in_default-ask-clause-none
returns-in_default-ask-clause-none g c =
    λ none. ap (λ (q : Queue _). record { done = c.loop.self.done; requests = q }) c.in_default-ask.ensures.1 ∙ c.loop.invariant.kept none

pub returns-in_default-ask-clause-lost : goal.returns-in_default-ask-clause-lost
returns-in_default-ask-clause-lost g c =
    let is : c.ask.new.self.lost ≡ c.loop.self.requests.lost = ap (λ (q : Queue _). q.lost) c.in_default-ask.ensures.1 in
    let least = c.loop.invariant.lost in
    omega (arith, is, least)

pub returns-in_default-ask-clause-done : goal.returns-in_default-ask-clause-done
returns-in_default-ask-clause-done g c = c.loop.invariant.done

pub returns-in_default-ask-clause-asked : goal.returns-in_default-ask-clause-asked
returns-in_default-ask-clause-asked g c =
    let first = c.args.self.now.requests.waiting.items in
    let many : c.min-count.result ≡ min batch_limit (length first) = search rules in
    λ some. ap (λ (q : Queue _). q.asked) c.in_default-ask.ensures.1
    ∙ last_of_all (term_in c.args.cell.now.parts) first c.loop.self.requests.waiting.items c.args.self.now.requests.asked c.loop.self.requests.asked (c.min-count.result - c.loop.counter)
    c.min-count.result many c.in_default-ask.ensures.0 c.loop.invariant.asked

pub returns-in_default-clause-asked : goal.returns-in_default-clause-asked
returns-in_default-clause-asked g c = λ some. absurd (some c.new.ensures.items)

pub returns-clause-asked : goal.returns-clause-asked
returns-clause-asked g c =
    let first = c.args.self.now.requests.waiting.items in
    let many : c.min-count.result ≡ min batch_limit (length first) = search rules in
    let least = c.loop-test.false in
    let end : c.min-count.result - c.loop.counter ≡ 0 = omega (arith, least) in
    λ some. last_of_many (term_in c.args.cell.now.parts) first c.loop.self.requests.waiting.items c.args.self.now.requests.asked c.loop.self.requests.asked (c.min-count.result - c.loop.counter)
    c.min-count.result many end c.loop.invariant.asked

pub returns-clause-none : goal.returns-clause-none
returns-clause-none g c = c.loop.invariant.kept

pub returns-clause-lost : goal.returns-clause-lost
returns-clause-lost g c = c.loop.invariant.lost

pub returns-clause-done : goal.returns-clause-done
returns-clause-done g c = c.loop.invariant.done

pub returns-clause-front : goal.returns-clause-front
returns-clause-front g c =
    let first = c.args.self.now.requests.waiting.items in
    let now = c.loop.self.requests.waiting.items in
    let many : c.min-count.result ≡ min batch_limit (length first) = search rules in
    let least = c.loop-test.false in
    let end : c.min-count.result - c.loop.counter ≡ 0 = omega (arith, least) in
    so_many first now c.loop.inputs.items (c.min-count.result - c.loop.counter) c.min-count.result many c.loop.invariant.taken c.loop.invariant.left end

pub returns-in_default-ask-clause-ready : goal.returns-in_default-ask-clause-ready
returns-in_default-ask-clause-ready g c =
    let first = c.args.self.now.requests.waiting.items in
    let old = c.loop.self.requests.waiting.items in
    let new = c.ask.new.self.waiting.items in
    let many : c.min-count.result ≡ min batch_limit (length first) = search rules in
    let same : old ≡ new = search rules in
    let none : old ≡ [] = c.in_default-ask.ensures.0 in
    let front : TakesFront first c.loop.inputs.items new =
    subst (λ w. TakesFront first c.loop.inputs.items w) same
    (none_waits_more first old c.loop.inputs.items (c.min-count.result - c.loop.counter) c.min-count.result many c.loop.invariant.taken c.loop.invariant.left none) in
    λ yes. asks_ready first new c.loop.inputs.items c.args.cell.now.parts front yes

pub returns-clause-ready : goal.returns-clause-ready
returns-clause-ready g c =
    let first = c.args.self.now.requests.waiting.items in
    let now = c.loop.self.requests.waiting.items in
    let many : c.min-count.result ≡ min batch_limit (length first) = search rules in
    let least = c.loop-test.false in
    let end : c.min-count.result - c.loop.counter ≡ 0 = omega (arith, least) in
    let front : TakesFront first c.loop.inputs.items now =
    so_many first now c.loop.inputs.items (c.min-count.result - c.loop.counter) c.min-count.result many c.loop.invariant.taken c.loop.invariant.left end in
    λ yes. asks_ready first now c.loop.inputs.items c.args.cell.now.parts front yes

pub returns-in_default-clause-ready : goal.returns-in_default-clause-ready
returns-in_default-clause-ready g c = λ yes. none_ready c.new.result.items c.args.cell.now.parts c.new.ensures.items

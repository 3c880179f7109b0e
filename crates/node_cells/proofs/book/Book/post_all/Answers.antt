use Rattle.std.proofs.Common.{rules, arith, ◌≡◌, ◌∷◌, List, Some, None, length, suc, [], append-nil, sym, ap, ◌∙◌, subst}
use Rattle.std.proofs.lemmas.List.{nil_from_length}
use Rattle.raft_log.specs.declared.message.Message.{Message}
use Rattle.ether.specs.Passes.{view_of}
use Rattle.raft_node.specs.Hosts.{hosted}
use Rattle.raft_node.specs.Machine.{Machine}
use Rattle.node_cells.proofs.Looping.{Giving, Posting, given_first, giving_done, giving_next, posting_next}
use Rattle.node_cells.proofs.book.Book.post_all.Given as given
use Rattle.node_cells.proofs.book.Book.post_all.Goals as goal

abbrev machine : (g : given.Over) → g.row.M-Setup.Denot → Machine
machine g s =
    hosted g.M.Hosted.blank g.M.Hosted.opened g.M.Hosted.shut g.M.Hosted.heard g.M.Hosted.claim g.M.Hosted.source (g.M.Machine.effects s)
    (g.M.Hosted.next_claim s) (g.M.Hosted.playback s) g.M.Hosted.class

pub loop-message-preserved-in-Some-post : goal.loop-message-preserved-in-Some-post
loop-message-preserved-in-Some-post g c =
    let m = c.in-Some.message in
    let left = c.next.new.self.rest.items in
    let old = c.args.self.now in
    let now = c.loop-message.self in
    let M = machine g old.ether.setup in
    let rest : c.loop-message.message-iterator.rest.items ≡ m ∷ left = search rules in
    let posting = subst (λ (l : List (Message g.row.M-Command.Denot)). Posting M old now c.args.messages.items l) rest c.loop-message.invariant.0 in
    let giving = subst (λ (l : List (Message g.row.M-Command.Denot)). Giving (view_of old.pass) c.args.messages.items l c.loop-message.replaced.items) rest c.loop-message.invariant.1 in
    let may = given_first M old now c.args.messages.items (m ∷ left) m.to (Some c.in-Some-post.older) posting c.in-Some-post.ensures.older in
    let long : length c.loop-message.message-iterator.rest.items ≡ suc (length left) = ap length rest in
    let room = c.loop-message.invariant.2 in
    let len = c.push_reserved.ensures.len in
    let cap = c.push_reserved.ensures.capacity in (
      posting_next M old now c.post.new.self c.args.messages.items m left posting (search rules),
      giving_next (view_of old.pass) c.args.messages.items m left c.loop-message.replaced.items (Some c.in-Some-post.older) c.push_reserved.new.self.items giving may c.push_reserved.ensures.items,
      omega (arith, long, room, len, cap),
    )

pub loop-message-preserved : goal.loop-message-preserved
loop-message-preserved g c =
    let m = c.in-Some.message in
    let left = c.next.new.self.rest.items in
    let old = c.args.self.now in
    let now = c.loop-message.self in
    let M = machine g old.ether.setup in
    let rest : c.loop-message.message-iterator.rest.items ≡ m ∷ left = search rules in
    let posting = subst (λ (l : List (Message g.row.M-Command.Denot)). Posting M old now c.args.messages.items l) rest c.loop-message.invariant.0 in
    let giving = subst (λ (l : List (Message g.row.M-Command.Denot)). Giving (view_of old.pass) c.args.messages.items l c.loop-message.replaced.items) rest c.loop-message.invariant.1 in
    let long : length c.loop-message.message-iterator.rest.items ≡ suc (length left) = ap length rest in
    let room = c.loop-message.invariant.2 in (
      posting_next M old now c.post.new.self c.args.messages.items m left posting (search rules),
      giving_next (view_of old.pass) c.args.messages.items m left c.loop-message.replaced.items None c.loop-message.replaced.items giving tt (sym (append-nil c.loop-message.replaced.items)),
      omega (arith, long, room),
    )

pub returns-clause-replaced : goal.returns-clause-replaced
returns-clause-replaced g c =
    let left = c.loop-message.message-iterator.rest.items in
    let none : left ≡ [] = nil_from_length left (sym c.loop-message.message-iterator.rest.ok.0 ∙ c.in-None.ensures.steps.0) in
    giving_done (view_of c.args.self.now.pass) c.args.messages.items left c.loop-message.replaced.items c.loop-message.invariant.1 none

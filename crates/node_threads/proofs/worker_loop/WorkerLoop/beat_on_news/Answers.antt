use Rattle.std.proofs.Common.{rules, length, Some, ◌≡◌, Bool, true, false, refl, sym, ◌∙◌, subst, inl, inr}
use Rattle.raft_node.specs.Hosts.{hosted}
use Rattle.raft_node.specs.Machine.{Machine}
use Rattle.node_threads.specs.Work.{HasBeaten}
use Rattle.node_threads.proofs.worker_loop.WorkerLoop.beat_on_news.Given as given
use Rattle.node_threads.proofs.worker_loop.WorkerLoop.beat_on_news.Goals as goal

abbrev machine : (g : given.Over) → g.row.M-Setup.Denot → Machine
machine g s =
    hosted g.M.Hosted.blank g.M.Hosted.opened g.M.Hosted.shut g.M.Hosted.heard g.M.Hosted.claim g.M.Hosted.source (g.M.Machine.effects s)
    (g.M.Hosted.next_claim s) (g.M.Hosted.playback s) g.M.Hosted.class

pub returns-then-turn-clause-beaten : goal.returns-then-turn-clause-beaten
returns-then-turn-clause-beaten g c =
    let there : c.has_news.result ≡ true = search rules in
    subst (λ (news : Bool). HasBeaten (machine g c.args.cell.now.parts.ether.setup) g.U.Upstream.tally news c.args.cell.now.parts c.turn.new.cell.parts) (sym there ∙ c.has_news.ensures) (c.turn.new.cell.parts, c.turn.ensures.turn, refl)

pub returns-else-turn-clause-beaten : goal.returns-else-turn-clause-beaten
returns-else-turn-clause-beaten g c =
    let there : c.has_news.result ≡ true = search rules in
    subst (λ (news : Bool). HasBeaten (machine g c.args.cell.now.parts.ether.setup) g.U.Upstream.tally news c.args.cell.now.parts c.turn.new.cell.parts) (sym there ∙ c.has_news.ensures) (c.turn.new.cell.parts, c.turn.ensures.turn, refl)

pub returns-then-not-has_news-clause-beaten : goal.returns-then-not-has_news-clause-beaten
returns-then-not-has_news-clause-beaten g c =
    let none : c.has_news.result ≡ false = search rules in
    subst (λ (news : Bool). HasBeaten (machine g c.args.cell.now.parts.ether.setup) g.U.Upstream.tally news c.args.cell.now.parts c.args.cell.now.parts) (sym none ∙ c.has_news.ensures) refl

pub returns-then-turn-clause-kept : goal.returns-then-turn-clause-kept
returns-then-turn-clause-kept g c = λ news.
    let is : c.state-state.result.now ≡ c.args.cell.now.parts.node.state = c.state-state.ensures.state in
    let last : c.len.result ≡ length c.args.cell.now.parts.node.state.log = c.len.ensures.value ∙ (λ i. length (is i).log) in
    inr (record { what = λ i. Some (record { term = (is i).standing.term; last = last i; commit = (is i).standing.commit }); behind = refl })

pub returns-else-turn-clause-kept : goal.returns-else-turn-clause-kept
returns-else-turn-clause-kept g c = λ news. inl (c.turn.ensures.failed (search rules))

pub returns-then-not-has_news-clause-kept : goal.returns-then-not-has_news-clause-kept
returns-then-not-has_news-clause-kept g c = λ news.
    let none : c.has_news.result ≡ false = search rules in
    absurd (cc (sym none ∙ c.has_news.ensures ∙ news))

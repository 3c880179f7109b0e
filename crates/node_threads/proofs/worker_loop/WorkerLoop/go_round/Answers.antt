use Rattle.std.proofs.Common.{◌≡◌, ◌⊎◌, ◌&&◌, ◌∙◌, Bool, true, false, Some, inl, inr, ⊎_elim, ap, subst, sym}
use Rattle.raft_node.specs.Hosts.{hosted}
use Rattle.raft_node.specs.Machine.{Machine}
use Rattle.node_threads.specs.Reports.{HasGrownAlone, is_news}
use Rattle.node_threads.specs.Waiting.{account_of}
use Rattle.node_threads.specs.Work.{HasApplied, HasAppliedOn, HasAskedOn, HasBeaten, HasTakenBut}
use Rattle.node_threads.proofs.Going.{home_after, home_after_taking}
use Rattle.node_threads.proofs.Home.{same_home_still}
use Rattle.node_threads.proofs.Seen.{home_asked, home_before, home_left}
use Rattle.node_threads.proofs.Waiting.{back_again, none_back}
use Rattle.node_threads.proofs.worker_loop.WorkerLoop.go_round.Given as given
use Rattle.node_threads.proofs.worker_loop.WorkerLoop.go_round.Goals as goal

abbrev machine : (g : given.Over) → g.row.M-Setup.Denot → Machine
machine g s =
    hosted g.M.Hosted.blank g.M.Hosted.opened g.M.Hosted.shut g.M.Hosted.heard g.M.Hosted.claim g.M.Hosted.source (g.M.Machine.effects s)
    (g.M.Hosted.next_claim s) (g.M.Hosted.playback s) g.M.Hosted.class

pub returns-clause-gone : goal.returns-clause-gone
returns-clause-gone g c =
    let old = c.args.cell.now.parts in
    let first = c.ask_before.new.cell.parts in
    let seen = c.leader_left-left.new.cell.parts in
    let heard = c.take_all.new.cell.parts in
    let asked = c.ask_all-all_asked.new.cell.parts in
    let applied = c.apply_all-all_applied.new.cell.parts in
    let last = c.beat_on_news.new.cell.parts in
    let tally = g.U.Upstream.tally in
    let M = machine g old.ether.setup in
    let one = home_before M tally _ (account_of c.args.self.now) old (account_of c.ask_before.new.self) first c.ask_before.ensures in
    let two = same_home_still old first seen one (home_left _ first c.leader_left-left.result seen c.leader_left-left.ensures) in
    let takes = subst (λ (s : g.row.M-Setup.Denot). HasTakenBut (machine g s) tally c.leader_left-left.result seen heard) (ap (λ e. e.setup) two.ether) c.take_all.ensures.taken in
    let three = same_home_still old seen heard two (home_after_taking M tally c.leader_left-left.result seen heard takes) in
    let account_heard = account_of c.take_all.new.self in
    let account_asked = account_of c.ask_all-all_asked.new.self in
    let asks = subst (λ (s : g.row.M-Setup.Denot). HasAskedOn (machine g s) tally account_heard heard c.ask_all-all_asked.result account_asked asked) (ap (λ e. e.setup) three.ether) c.ask_all-all_asked.ensures in
    let four = same_home_still old heard asked three (home_asked M tally account_heard heard c.ask_all-all_asked.result account_asked asked asks) in
    let applies = subst (λ (s : g.row.M-Setup.Denot). HasApplied (machine g s) tally asked applied) (ap (λ e. e.setup) four.ether) c.apply_all-all_applied.ensures.applied in
    let stops = subst (λ (s : g.row.M-Setup.Denot). HasAppliedOn (machine g s) tally asked c.apply_all-all_applied.result applied) (ap (λ e. e.setup) four.ether) c.apply_all-all_applied.ensures.stops in
    let five = same_home_still old asked applied four (home_after M tally _ asked applied applies.1) in
    let now = c.apply_all-all_applied.new.self in
    let news = is_news now.beats now.beaten now.round.is_behind applied in
    let beats = subst (λ (s : g.row.M-Setup.Denot). HasBeaten (machine g s) tally news applied last) (ap (λ e. e.setup) five.ether) c.beat_on_news.ensures.beaten in
    record {
      first = first;
      seen = seen;
      heard = heard;
      asked = asked;
      applied = applied;
      account_first = account_of c.ask_before.new.self;
      account_heard = account_heard;
      account_asked = account_asked;
      now_forwarded = c.ask_before.new.self.forwarded;
      left = c.leader_left-left.result;
      has_news = news;
      all_asked = c.ask_all-all_asked.result;
      all_applied = c.apply_all-all_applied.result;
      all_told = c.tell-all_told.result;
      leaves_nothing_is = c.all_of.ensures;
      asks_before = c.ask_before.ensures;
      leaves = c.leader_left-left.ensures;
      takes = takes;
      taken_back = c.take_all.ensures.requests;
      asks = asks;
      applies_on = applies;
      stops_applying = stops;
      beats = beats;
      come_back = back_again account_asked (account_of now) (account_of c.wake_all.new.self) c.apply_all-all_applied.ensures.requests
          (back_again (account_of now) (account_of c.beat_on_news.new.self) (account_of c.wake_all.new.self) c.beat_on_news.ensures.requests
          (back_again (account_of c.beat_on_news.new.self) (account_of c.tell-all_told.new.self) (account_of c.wake_all.new.self) c.tell-all_told.ensures.requests
          (none_back (account_of c.tell-all_told.new.self) (account_of c.wake_all.new.self) c.wake_all.ensures.requests)));
    }

third : (a b d : Bool) → (a && (b && d)) ≡ true → d ≡ true
third true true d e = e
third true false d e = absurd (cc e)
third false b d e = absurd (cc e)

pub returns-clause-reported : goal.returns-clause-reported
returns-clause-reported g c = λ yes.
    let last = c.tell-all_told.new.self in
    let all_told = third c.ask_all-all_asked.result c.apply_all-all_applied.result c.tell-all_told.result (sym c.all_of.ensures ∙ yes) in
    let is = c.tell-all_told.ensures.known all_told in
    let only = c.wake_all.ensures.only in
    let told = ap (λ w. w.told) only in
    let beat = ap (λ w. w.has_untold_beat) only in
    record {
      now = is.now;
      none_left = ap (λ w. w.round.effects.items) only ∙ c.tell-all_told.ensures.all all_told;
      status_is = is.stands.status_is;
      known = ⊎_elim (λ (same : last.told ≡ Some is.now). inl (told ∙ same))
          (λ (h : HasGrownAlone last.told is.now × (last.has_untold_beat ≡ false)). inr (subst (λ t. HasGrownAlone t is.now) (sym told) h.0, beat ∙ h.1)) is.known;
    }

-- What is known of a leader and of what its group agrees on by then.
use Rattle.std.proofs.Common.{◌≡◌, ℕ, zero, suc, ◌≤◌, true, All, List, length, take, Some, sym, ap, subst, arith, ⊎_elim}
use Rattle.std.proofs.lemmas.Bool.{cases_lt}
use Rattle.std.proofs.lemmas.List.Elements.{All-get_or}
use Rattle.raft_log.specs.declared.entry.Entry.{Entry}
use Rattle.raft_log.specs.Lists.{item, item_or}
use Rattle.raft_log.specs.Logs.{last_term}
use Rattle.raft_log.specs.Node.{Node, is_leader}
use Rattle.raft_log.specs.Steps.{IsNextWithin, PlacesWithin}
use Rattle.raft_node.specs.Sound.{IsSound}
use Rattle.agreement.specs.World.{Begins}
use Rattle.agreement.proofs.Lists.{begins_self, begins_none, begins_trans, begins_whole, begins_length, begins_take, length_take}
use Rattle.agreement.proofs.Ghost.{Ghost, Settled, LeaderOk, NodeOk, Good}
use Rattle.agreement.proofs.Later.{complete}
use Rattle.agreement.proofs.Plain.{leader_ok}
use Rattle.progress.proofs.Alike.{Has}
use Rattle.progress.proofs.Ending.{EndsNow}
use Rattle.progress.proofs.Sane.{Heads}

module _ {B : Type 0} (n : ℕ) (g : Ghost B) (w : List (Node B)) (good : Good n g w) (ends : EndsNow w) (c : ℕ) (s : Node B) (at : item w c ≡ Some s) (leads : is_leader s.role ≡ true) (sound : IsSound n s) where
  abbrev led : LeaderOk n g c s.boot s.term s.log s.next s.matched
  led = leader_ok n g c s (good.nodes c s at) leads

  of_log : (p : List (Entry B)) → Begins p s.log → Begins p (g.ledger s.term)
  of_log p b = subst (λ z. Begins p z) (sym led.log_is) b

  to_log : (p : List (Entry B)) → Begins p (g.ledger s.term) → Begins p s.log
  to_log p b = subst (λ z. Begins p z) led.log_is b

  matched_in : (j : ℕ) → item_or s.matched j 0 ≤ length s.log
  matched_in j = omega (arith, led.matched_ok j, good.ghost_ok.acked_in j s.term, ap length led.log_is)

  matched_has : (j : ℕ) (t : Node B) → item w j ≡ Some t → t.term ≤ s.term → Has (item_or s.matched j 0) t.log s.log
  matched_has j t there le =
      (good.nodes j t there).keeps s.term (take (item_or s.matched j 0) s.log) (of_log (take (item_or s.matched j 0) s.log) (begins_take (item_or s.matched j 0) s.log))
      (omega (arith, length_take (item_or s.matched j 0) s.log (matched_in j), led.matched_ok j))
      (record { by = λ u d lt below own. absurd (omega arith) })

  short : (j : ℕ) (t : Node B) → item w j ≡ Some t → t.term ≤ s.term → last_term s.log ≡ s.term → Begins s.log t.log → t.log ≡ s.log
  short j t there le last b =
      let ok : NodeOk n g j t = good.nodes j t there in
      let whole : Begins t.log (g.ledger (last_term t.log)) = ok.log_ok.rooted t.log (begins_self t.log) in
      let up : last_term t.log ≤ t.term = ok.log_ok.upto t.log (begins_self t.log) in
      let low : last_term s.log ≤ last_term t.log = (good.ghost_ok.ledgers (last_term t.log)).upto s.log (begins_trans s.log t.log (g.ledger (last_term t.log)) b whole) in
      let same : last_term t.log ≡ s.term = omega arith in
      begins_whole t.log s.log (to_log t.log (subst (λ z. Begins t.log (g.ledger z)) same whole)) (begins_length s.log t.log b)

  holds : (j : ℕ) (t : Node B) → item w j ≡ Some t → t.term ≤ s.term → Begins (take t.commit t.log) s.log
  holds j t there le =
      ⊎_elim
      (λ e. subst (λ z. Begins z s.log) (sym e) (begins_none s.log))
      (λ h. begins_trans (take t.commit t.log) h.whole s.log h.front (chosen_in h))
      (good.nodes j t there).commit_held
    where
      chosen_in : (h : Settled n g t.term (take t.commit t.log)) → Begins h.whole s.log
      chosen_in h =
          ⊎_elim
          (λ lt. to_log h.whole (begins_trans h.whole (g.runs s.term c) (g.ledger s.term) (complete n g good.ghost_ok h.whole h.chosen s.term s.term c (omega arith) lt led.owner) (good.ghost_ok.owner_began s.term c led.owner)))
          (λ ge. let same : h.chosen.term ≡ s.term = let x = h.low in omega arith in to_log h.whole (subst (λ z. Begins h.whole (g.ledger z)) same h.chosen.of_ledger))
          (cases_lt h.chosen.term s.term)

  alone : (j : ℕ) (t : Node B) → item w j ≡ Some t → is_leader t.role ≡ true → t.term ≡ s.term → j ≡ c
  alone j t there l same =
      let other : LeaderOk n g j t.boot t.term t.log t.next t.matched = leader_ok n g j t (good.nodes j t there) l in
      let own : g.owner s.term ≡ Some j = subst (λ z. g.owner z ≡ Some j) same other.owner in
      cc (own, led.owner)

  next_low : (j : ℕ) → 1 ≤ j → j ≤ n → 1 ≤ item_or s.next j 0
  next_low zero low high = absurd (omega arith)
  next_low (suc j) low high =
      let places : PlacesWithin (length s.log) s.role s.commit s.next s.matched = sound.1 in
      let all : All (IsNextWithin (length s.log)) s.next = places.next_within leads in
      (All-get_or (IsNextWithin (length s.log)) s.next j 0 (let z : length s.next ≡ n = sound.4.1 in omega arith) all).0

  pub heads : Heads n w c s
  heads =
      record {
        ends = ends.each c s at leads;
        next_long = sound.4.1;
        matched_long = sound.4.2;
        next_low = next_low;
        next_high = led.next_ok;
        matched_in = matched_in;
        matched_has = matched_has;
        short = short;
        holds = holds;
        alone = alone;
      }

-- A vote is counted.
use Rattle.std.proofs.Common.{◌≡◌, ℕ, suc, ◌<◌, ◌≤◌, Bool, true, false, ◌&&◌, eqb, List, ⊎_elim, Option, Some, None, length, refl, sym, ap, subst, ◌∙◌, arith}
use Rattle.std.proofs.Math.ListN.{length-replicate}
use Rattle.std.proofs.lemmas.Bool.{cond_both, eqb-true, and_parts, cases_eq}
use Rattle.raft_log.specs.declared.entry.Entry.{Entry}
use Rattle.raft_log.specs.declared.message.Kind.TheVariants.{Vote}
use Rattle.raft_log.specs.declared.message.Message.{Message}
use Rattle.raft_log.specs.Node.{Node, is_candidate}
use Rattle.raft_log.specs.Votes.{majority}
use Rattle.election.specs.Elections.{leading, elected}
use Rattle.raft_log.specs.Lists.{with_item}
use Rattle.agreement.specs.World.{Begins}
use Rattle.election.specs.Elections as election
use Rattle.agreement.proofs.Lists.{begins_self, begins_trans}
use Rattle.raft_node.proofs.Items.{item-with_cases, item-replicate_same, length-with_item, item-replicate_le}
use Rattle.agreement.proofs.Counts.{majorities_meet}
use Rattle.agreement.proofs.Ghost.{Ghost, Carried, GhostOk, KindOk, CandidateOk, RoleOk, NodeOk}
use Rattle.agreement.proofs.Later.{Extends, extends_on, apart_on, sound_later, carried_back, all_later, in_ledger, held_later}
use Rattle.agreement.proofs.Changes.{elect, elect_extends, elect_apart, elect_owner, elect_boots, elect_ledger, elect_ok}
use Rattle.agreement.proofs.Growing.{noted, noted_extends, noted_apart, noted_now, noted_other, noted_ok}
use Rattle.agreement.proofs.Plain.{Moved, stay, role_candidate, candidate_ok}

module _ {B : Type 0} where
  -- a vote is counted
  -- the log of a leader is the ledger of its term: what such a node keeps
  pub keeps_lead : (n : ℕ) (g g' : Ghost B) (gok : GhostOk n g) (ex : Extends g g') (i : ℕ) (s : Node B) (ok : NodeOk n g i s) (log : List (Entry B)) → Begins s.log log → g'.ledger s.term ≡ log → ((u : ℕ) → (u ≡ s.term → ⊥) → g'.acked i u ≡ g.acked i u) → (t : ℕ) (p : List (Entry B)) → Begins p (g'.ledger t) → length p ≤ g'.acked i t → Carried g' t (suc s.term) p → Begins p log
  keeps_lead n g g' gok ex i s ok log more is other t p b le car =
      ⊎_elim
      (λ e. subst (λ l. Begins p l) is (subst (λ x. Begins p (g'.ledger x)) e b))
      (λ ne.
      let le' : length p ≤ g.acked i t = omega (arith, other t ne) in
      begins_trans p s.log log (ok.keeps t p (in_ledger n g g' gok ex t 0 i p b le') le' (carried_back n g g' gok ex t (suc s.term) p car)) more)
      (cases_eq t s.term)

  module _ (n : ℕ) (g : Ghost B) (gok : GhostOk n g) (i : ℕ) (s : Node B) (ok : NodeOk n g i s) where
    -- a majority makes it the leader
    leading_moved : is_candidate s.role ≡ true → majority n s.voters ≡ true → Moved n g i (leading n s)
    leading_moved h maj =
        record {
          after = g2;
          ghost_ok = noted_ok n g1 gok1 i t k up within later;
          extends = ex;
          apart = λ j ne. apart_on j g g1 g2 ex1 (elect_apart n g gok i s.boot t s.voters s.log free j ne) (noted_apart n g1 gok1 i t k up within later j ne);
          node_ok =
              record {
                vote_now = ok.vote_now;
                vote_later = ok.vote_later;
                acked_later = λ u lt. subst (λ a. a ≤ 0) (sym (noted_other n g1 gok1 i t k up within later u (λ e. omega arith))) (ok.acked_later u lt);
                log_ok = sound_later g.ledger g2.ledger s.term s.log ex.ledgers ok.log_ok;
                keeps = keeps_lead n g g2 gok ex i s ok s.log (begins_self s.log) (elect_ledger n g gok i s.boot t s.voters s.log free) (noted_other n g1 gok1 i t k up within later);
                commit_in = ok.commit_in;
                commit_ok = ok.commit_ok;
                commit_held = held_later n g g2 gok ex s.term _ ok.commit_held;
                role_ok = record {
                  owner = elect_owner n g gok i s.boot t s.voters s.log free;
                  boot_is = elect_boots n g gok i s.boot t s.voters s.log free;
                  log_is = elect_ledger n g gok i s.boot t s.voters s.log free;
                  own_acked = omega (arith, noted_now n g1 gok1 i t k up within later);
                  matched_length = length-replicate n 0;
                  matched_ok = λ j. omega (arith, item-replicate_same {A = ℕ} n j 0);
                  next_ok = λ j. item-replicate_le n j (suc (length s.log));
                };
                sent_ok = all_later n g g2 gok ex s.sent ok.sent_ok;
              };
        }
      where
        t : ℕ
        t = s.term

        k : ℕ
        k = length s.log

        cand : CandidateOk n g i s.term s.vote s.log s.voters
        cand = candidate_ok n g i s ok h

        by_owner : (o : Option ℕ) → g.owner s.term ≡ o → g.owner s.term ≡ None
        by_owner None e = e
        by_owner (Some d) e =
            let meet = majorities_meet n (g.won s.term) s.voters (gok.won_length s.term d e, gok.won_majority s.term d e) (cand.voters_length, maj) in
            let same : d ≡ i = cc (gok.won_votes s.term d meet.0 e meet.1, cand.voters_ok meet.0 meet.2) in
            absurd (cand.not_owner (subst (λ x. g.owner s.term ≡ Some x) same e))

        free : g.owner s.term ≡ None
        free = by_owner (g.owner s.term) refl

        g1 : Ghost B
        g1 = elect g i s.boot s.term s.voters s.log

        ex1 : Extends g g1
        ex1 = elect_extends n g gok i s.boot s.term s.voters s.log free

        gok1 : GhostOk n g1
        gok1 = elect_ok n g gok i s.boot s.term s.voters s.log free (ok.vote_now ∙ cand.voted) cand.log_is cand.voters_length maj cand.voters_ok

        up : g1.acked i s.term ≤ length s.log
        up = omega (arith, gok.acked_in i s.term, ap length (gok.unowned s.term free))

        within : length s.log ≤ length (g1.ledger s.term)
        within = omega (arith, ap length (elect_ledger n g gok i s.boot s.term s.voters s.log free))

        later : (x : ℕ) → s.term < x → g.ballot i x ≡ None
        later = ok.vote_later

        g2 : Ghost B
        g2 = noted n g1 gok1 i s.term (length s.log) up within later

        ex : Extends g g2
        ex = extends_on g g1 g2 ex1 (noted_extends n g1 gok1 i s.term (length s.log) up within later)

    counted_moved : is_candidate s.role ≡ true → Moved n g i (elected n s)
    counted_moved h =
        cond_both (majority n s.voters) _ s (λ z. Moved n g i z) (λ maj. leading_moved h maj) (λ no. stay n g i s gok ok)

    -- one more voter
    voter_ok : (v : ℕ) → is_candidate s.role ≡ true → g.ballot v s.term ≡ Some i → NodeOk n g i (record s { voters = with_item s.voters v true })
    voter_ok v h b =
        let cand : CandidateOk n g i s.term s.vote s.log s.voters = candidate_ok n g i s ok h in
        record {
          vote_now = ok.vote_now;
          vote_later = ok.vote_later;
          acked_later = ok.acked_later;
          log_ok = ok.log_ok;
          keeps = ok.keeps;
          commit_in = ok.commit_in;
          commit_ok = ok.commit_ok;
          commit_held = ok.commit_held;
          role_ok = subst (λ r. RoleOk n g i r s.boot s.term s.vote s.log (with_item s.voters v true) s.next s.matched) (sym (role_candidate s.role h))
              (record {
                voted = cand.voted;
                not_owner = cand.not_owner;
                log_is = cand.log_is;
                voters_length = length-with_item s.voters v true ∙ cand.voters_length;
                voters_ok = λ j hj.
                    ⊎_elim (λ e. subst (λ a. g.ballot a s.term ≡ Some i) (sym e.0) b)
                    (λ e. cand.voters_ok j (sym e ∙ hj))
                    (item-with_cases s.voters v j true false);
              });
          sent_ok = ok.sent_ok;
        }

  pub counted_vote_moved : (n : ℕ) (g : Ghost B) (gok : GhostOk n g) (i : ℕ) (s : Node B) (ok : NodeOk n g i s) (m : Message B) (granted : Bool) → m.to ≡ i → KindOk n g m (Vote granted) → Moved n g i (election.on_vote n s m.from m.term granted)
  counted_vote_moved n g gok i s ok m granted to_me told =
      cond_both (is_candidate s.role && (eqb s.term m.term && granted)) _ s (λ z. Moved n g i z)
      (λ h.
      let a : (is_candidate s.role ≡ true) × ((eqb s.term m.term && granted) ≡ true) = and_parts (is_candidate s.role) _ h in
      let b : (eqb s.term m.term ≡ true) × (granted ≡ true) = and_parts (eqb s.term m.term) granted a.1 in
      let e : s.term ≡ m.term = eqb-true s.term m.term b.0 in
      let told' : g.ballot m.from m.term ≡ Some m.to = subst (λ x. KindOk n g m (Vote x)) b.1 told in
      let vote : g.ballot m.from s.term ≡ Some i = subst (λ x. g.ballot m.from x ≡ Some i) (sym e) (told' ∙ ap Some to_me) in
      counted_moved n g gok i (record s { voters = with_item s.voters m.from true }) (voter_ok n g gok i s ok m.from a.0 vote) a.0)
      (λ h. stay n g i s gok ok)

-- A leader adds an entry.
use Rattle.std.proofs.Common.{◌≡◌, ℕ, suc, ◌≤◌, true, ◌&&◌, ltb, eqb, List, [], ◌∷◌, ◌++◌, ⊎_elim, length, take, refl, sym, ap, subst, ◌∙◌, arith, length-append}
use Rattle.std.proofs.lemmas.Bool.{cond_both, and_parts}
use Rattle.raft_log.specs.Logs.{entry_limit}
use Rattle.raft_log.specs.declared.entry.Entry.{Entry}
use Rattle.raft_log.specs.Node.{Node, is_leader}
use Rattle.raft_log.specs.Logs.{last_term, term_at, agrees_at}
use Rattle.replication.specs.Replication.{appending, on_forward}
use Rattle.agreement.specs.World.{Begins}
use Rattle.agreement.proofs.Lists.{begins_trans, begins_same, begins_take, begins_push, length_take, last_term_push}
use Rattle.raft_node.proofs.Grows.{agrees_by}
use Rattle.agreement.proofs.Ghost.{Ghost, Sound, GhostOk, LeaderOk, RoleOk, NodeOk, Held}
use Rattle.agreement.proofs.Later.{Extends, extends_on, apart_on, all_later, held_later}
use Rattle.agreement.proofs.Growing.{filed, filed_extends, filed_apart, filed_ledger, filed_ok, noted, noted_extends, noted_apart, noted_now, noted_other, noted_ok}
use Rattle.agreement.proofs.Plain.{Moved, stay, role_leader, leader_ok}
use Rattle.agreement.proofs.Counting.{keeps_lead}

module _ {B : Type 0} where
  pub none_term : (xs : List (Entry B)) → length xs ≡ 0 → last_term xs ≡ 0
  none_term [] e = refl
  none_term (x ∷ xs) e = absurd (omega arith)

  pub agrees_term : (log : List (Entry B)) (k t : ℕ) → agrees_at log k t ≡ true → (k ≡ 0 → t ≡ 0) → term_at log k ≡ t
  agrees_term log k t h z = ⊎_elim (λ e. ap (term_at log) e ∙ sym (z e)) (λ r. r.1) (agrees_by log k t (eqb k 0) refl h)

  module _ (n : ℕ) (g : Ghost B) (gok : GhostOk n g) (i : ℕ) (s : Node B) (ok : NodeOk n g i s) where
    -- a leader adds an entry

    pub appending_moved : (b : B) → is_leader s.role ≡ true → Moved n g i (appending s b)
    appending_moved b h =
        record {
          after = g2;
          ghost_ok = noted_ok n g1 gok1 i s.term (length log) up within ok.vote_later;
          extends = ex;
          apart = λ j ne. apart_on j g g1 g2 ex1 (filed_apart n g gok i s.term log lead.owner more j ne) (noted_apart n g1 gok1 i s.term (length log) up within ok.vote_later j ne);
          node_ok =
              record {
                vote_now = ok.vote_now;
                vote_later = ok.vote_later;
                acked_later = λ u lt. subst (λ a. a ≤ 0) (sym (noted_other n g1 gok1 i s.term (length log) up within ok.vote_later u (λ e. omega arith))) (ok.acked_later u lt);
                log_ok = subst (λ l. Sound g1.ledger s.term l) is (gok1.ledgers s.term);
                keeps = keeps_lead n g g2 gok ex i s ok log (e ∷ [], refl) is (noted_other n g1 gok1 i s.term (length log) up within ok.vote_later);
                commit_in = omega (arith, ok.commit_in, grows);
                commit_ok = subst (λ l. Begins l g.agreed) (sym same_front_log) ok.commit_ok;
                commit_held = subst (λ l. Held n g2 s.term l) (sym same_front_log) (held_later n g g2 gok ex s.term _ ok.commit_held);
                role_ok = subst (λ r. RoleOk n g2 i r s.boot s.term s.vote log s.voters s.next s.matched) (sym (role_leader s.role h))
                    (record {
                      owner = lead.owner;
                      log_is = is;
                      boot_is = lead.boot_is;
                      own_acked = omega (arith, noted_now n g1 gok1 i s.term (length log) up within ok.vote_later);
                      matched_length = lead.matched_length;
                      matched_ok = λ j. omega (arith, lead.matched_ok j, ex.ackeds j s.term);
                      next_ok = λ j. omega (arith, lead.next_ok j, grows);
                    });
                sent_ok = all_later n g g2 gok ex s.sent ok.sent_ok;
              };
        }
      where
        e : Entry B
        e = record { term = s.term; body = b }

        log : List (Entry B)
        log = s.log ++ record { term = s.term; body = b } ∷ []

        lead : LeaderOk n g i s.boot s.term s.log s.next s.matched
        lead = leader_ok n g i s ok h

        grows : length log ≡ suc (length s.log)
        grows = omega (arith, length-append s.log (record { term = s.term; body = b } ∷ []))

        same_front_log : take s.commit log ≡ take s.commit s.log
        same_front_log = (begins_same (take s.commit log) (take s.commit s.log) log (begins_take s.commit log) (begins_trans (take s.commit s.log) s.log log (begins_take s.commit s.log) (e ∷ [], refl)) (length_take s.commit log (omega (arith, ok.commit_in, grows)) ∙ sym (length_take s.commit s.log ok.commit_in)))

        more : Begins (g.ledger s.term) log
        more = subst (λ l. Begins l log) (sym lead.log_is) (record { term = s.term; body = b } ∷ [], refl)

        ends : last_term log ≡ s.term
        ends = last_term_push s.log (record { term = s.term; body = b })

        ex1 : Extends g (filed n g gok i s.term log lead.owner more)
        ex1 = filed_extends n g gok i s.term log lead.owner more

        g1 : Ghost B
        g1 = filed n g gok i s.term log lead.owner more

        is : g1.ledger s.term ≡ log
        is = filed_ledger n g gok i s.term log lead.owner more

        sound : Sound g1.ledger s.term log
        sound =
            record {
              rooted = λ q bq.
                  ⊎_elim
                  (λ h1. begins_trans q (g.ledger (last_term q)) (g1.ledger (last_term q)) (ok.log_ok.rooted q h1) (ex1.ledgers (last_term q)))
                  (λ h2. subst (λ u. Begins q (g1.ledger u)) (sym (ap last_term h2 ∙ ends)) (subst (λ l. Begins q l) (sym is) bq))
                  (begins_push q s.log (record { term = s.term; body = b }) bq);
              upto = λ q bq.
                  ⊎_elim (λ h1. ok.log_ok.upto q h1) (λ h2. omega (arith, ap last_term h2 ∙ ends))
                  (begins_push q s.log (record { term = s.term; body = b }) bq);
            }

        gok1 : GhostOk n g1
        gok1 = filed_ok n g gok i s.term log lead.owner more sound

        up : g1.acked i s.term ≤ length log
        up = omega (arith, gok.acked_in i s.term, ap length lead.log_is, grows)

        within : length log ≤ length (g1.ledger s.term)
        within = omega (arith, ap length is)

        g2 : Ghost B
        g2 = noted n g1 gok1 i s.term (length log) up within ok.vote_later

        ex : Extends g g2
        ex = extends_on g g1 g2 ex1 (noted_extends n g1 gok1 i s.term (length log) up within ok.vote_later)

    pub forward_moved : (b : B) → Moved n g i (on_forward s b)
    forward_moved b =
        cond_both (is_leader s.role && ltb (length s.log) entry_limit) _ s (λ z. Moved n g i z)
        (λ h. appending_moved b (and_parts (is_leader s.role) _ h).0)
        (λ h. stay n g i s gok ok)

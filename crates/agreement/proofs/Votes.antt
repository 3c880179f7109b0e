-- Beginning and voting.
use Rattle.std.proofs.Common.{◌^◌, ◌||◌, ◌≡◌, ℕ, suc, ◌<◌, ◌≤◌, true, false, ◌&&◌, ltb, leb, eqb, List, [], ◌∷◌, inl, inr, ⊎_elim, Option, Some, None, length, replicate, refl, sym, ap, subst, ◌∙◌, arith}
use Rattle.std.proofs.Math.ListN.{length-replicate}
use Rattle.std.proofs.lemmas.Bool.{cond_both, ltb-true, leb-true, eqb-true, and_parts, or_cases, cases_lt}
use Rattle.raft_log.specs.declared.entry.Entry.{Entry}
use Rattle.raft_log.specs.declared.message.Kind.TheVariants.{Vote}
use Rattle.raft_log.specs.declared.message.Message.{Message}
use Rattle.raft_log.specs.declared.role.Role.{Role}
use Rattle.raft_log.specs.declared.role.Role.TheVariants.{Follower, Candidate, Leader}
use Rattle.raft_log.specs.Node.{Node, is_leader, sending, message}
use Rattle.raft_log.specs.Logs.{last_term, up_to_date}
use Rattle.election.specs.Elections.{is_free_for, begun, vote_requests, timed_out}
use Rattle.raft_log.specs.Lists.{others, with_item}
use Rattle.raft_node.proofs.ByMessage.{grants, on_request_vote}
use Rattle.agreement.specs.World.{Begins}
use Rattle.agreement.proofs.Lists.{begins_self, begins_trans, begins_shorter, begins_either, begins_nil, has_entry}
use Rattle.raft_node.proofs.Items.{item-with_cases, item-replicate_same, length-with_item}
use Rattle.agreement.specs.Laws.{IsIn}
use Rattle.agreement.proofs.Ghost.{Ghost, Carried, Fact, GhostOk, RequestOk, RoleOk, NodeOk}
use Rattle.agreement.proofs.Later.{Extends, sound_more, carried_back, all_later, held_more, held_later}
use Rattle.agreement.proofs.Changes.{cast, cast_extends, cast_apart, cast_now, cast_runs, cast_later, cast_ok}
use Rattle.agreement.proofs.Plain.{Moved, stay, carried_less, all_map, sending_ok}

module _ {B : Type 0} where
  module _ (n : ℕ) (g : Ghost B) (gok : GhostOk n g) (i : ℕ) (s : Node B) (ok : NodeOk n g i s) where
    -- a candidate begins

    begun_moved : Moved n g i (sending (begun n i s) (vote_requests n i (suc s.term) (length s.log) (last_term s.log)))
    begun_moved =
        record {
          after = g';
          ghost_ok = cast_ok n g gok i t i s.log free same (inr refl) (sound_more g.ledger s.term t s.log (omega arith) ok.log_ok)
              (λ unled. record { holds = λ u p lt b ends le car. subst (λ r. Begins p r) (sym (cast_runs n g gok i t i s.log free same)) (ok.keeps u p b le (back u p car)) });
          extends = ex;
          apart = cast_apart n g gok i t i s.log free same;
          node_ok = sending_ok n g' i (begun n i s) began (vote_requests n i (suc s.term) (length s.log) (last_term s.log))
              (all_map n g' _ (others n i) (λ j.
              record {
                voted = cast_now n g gok i t i s.log free same;
                length_is = ap length (cast_runs n g gok i t i s.log free same);
                term_is = ap last_term (cast_runs n g gok i t i s.log free same);
              }));
        }
      where
        t : ℕ
        t = suc s.term

        free : g.ballot i t ≡ None
        free = ok.vote_later t (omega arith)

        same : g.ballot i t ≡ Some i → s.log ≡ g.runs t i
        same h = absurd (cc (h, free))

        g' : Ghost B
        g' = cast g i t i s.log

        ex : Extends g g'
        ex = cast_extends n g gok i t i s.log free same

        back : (u : ℕ) (p : List (Entry B)) → Carried g' u t p → Carried g u t p
        back u p car = carried_back n g g' gok ex u t p car

        voters_in : (v : ℕ) → IsIn (with_item (replicate n false) i true) v → g'.ballot v t ≡ Some i
        voters_in v h =
            ⊎_elim
            (λ e. subst (λ a. g'.ballot a t ≡ Some i) (sym e.0) (cast_now n g gok i t i s.log free same))
            (λ e. absurd (cc (h, e, item-replicate_same n v false)))
            (item-with_cases (replicate n false) i v true false)

        began : NodeOk n g' i (begun n i s)
        began =
            record {
              vote_now = cast_now n g gok i t i s.log free same;
              vote_later = λ u h. cast_later n g gok i t i s.log free same u h (ok.vote_later u (omega arith));
              acked_later = λ u h. ok.acked_later u (omega arith);
              log_ok = sound_more g.ledger s.term t s.log (omega arith) ok.log_ok;
              keeps = λ u p b le car. ok.keeps u p b le (back u p (carried_less g' u (suc t) t p (omega arith) car));
              commit_in = ok.commit_in;
              commit_ok = ok.commit_ok;
              commit_held = held_more n g' s.term t _ (omega arith) (held_later n g g' gok ex s.term _ ok.commit_held);
              role_ok = record {
                voted = refl;
                not_owner = λ o. absurd (cc (gok.owner_voted t i o, free));
                log_is = cast_runs n g gok i t i s.log free same;
                voters_length = length-with_item (replicate n false) i true ∙ length-replicate n false;
                voters_ok = voters_in;
              };
              sent_ok = all_later n g g' gok ex s.sent ok.sent_ok;
            }

    pub timeout_moved : Moved n g i (timed_out n i s)
    timeout_moved = cond_both (is_leader s.role || leb (2 ^ 60) s.term) s _ (λ z. Moved n g i z) (λ h. stay n g i s gok ok) (λ h. begun_moved)

    -- a vote: the candidate's log has what the voter acknowledged

    vote_fact : (c l u : ℕ) → length (g.runs s.term c) ≡ l → last_term (g.runs s.term c) ≡ u → up_to_date u l (last_term s.log) (length s.log) ≡ true → g.owner s.term ≡ None → Fact g i s.term c
    vote_fact c l u el eu good unled =
        record {
          holds = λ t p lt b ends le car.
              let mine : Begins p s.log = ok.keeps t p b le (record {
                by = λ a d ta at o.
                    ⊎_elim (λ h. car.by a d ta h o)
                    (λ h. let e : a ≡ s.term = omega arith in absurd (cc (o, subst (λ x. g.owner x ≡ None) (sym e) unled)))
                    (cases_lt a s.term);
              }) in
              ⊎_elim
              (λ later. by_later t p lt b ends car mine (ltb-true (last_term s.log) u later))
              (λ same. by_length t p mine (and_parts (eqb u (last_term s.log)) (leb (length s.log) l) same))
              (or_cases (ltb (last_term s.log) u) (eqb u (last_term s.log) && leb (length s.log) l) good);
        }
      where
        run : List (Entry B)
        run = g.runs s.term c

        rooted : Begins run (g.ledger u)
        rooted = subst (λ x. Begins run (g.ledger x)) eu ((gok.began s.term c).rooted run (begins_self run))

        own_rooted : Begins s.log (g.ledger (last_term s.log))
        own_rooted = ok.log_ok.rooted s.log (begins_self s.log)

        by_length : (t : ℕ) (p : List (Entry B)) → Begins p s.log → ((eqb u (last_term s.log) ≡ true) × (leb (length s.log) l ≡ true)) → Begins p run
        by_length t p mine h =
            let e : u ≡ last_term s.log = eqb-true u (last_term s.log) h.0 in
            let le : length s.log ≤ l = leb-true (length s.log) l h.1 in
            begins_trans p s.log run mine
            (begins_shorter s.log run (g.ledger u) (subst (λ x. Begins s.log (g.ledger x)) (sym e) own_rooted) rooted (omega arith))

        by_later : (t : ℕ) (p : List (Entry B)) → t < s.term → Begins p (g.ledger t) → last_term p ≡ t → Carried g t s.term p → Begins p s.log → last_term s.log < u → Begins p run
        by_later t p lt b ends car mine higher =
            let t_le : last_term p ≤ last_term s.log = (gok.ledgers (last_term s.log)).upto p (begins_trans p s.log _ mine own_rooted) in
            let u_le : last_term run ≤ s.term = (gok.began s.term c).upto run (begins_self run) in
            let some : run ≡ [] → ⊥ = has_entry run (omega arith) in
            by_owner t p lt b ends car (omega arith) (omega arith) some (g.owner u) refl
          where
            by_owner : (t : ℕ) (p : List (Entry B)) → t < s.term → Begins p (g.ledger t) → last_term p ≡ t → Carried g t s.term p → t < u → u ≤ s.term → (run ≡ [] → ⊥) → (o : Option ℕ) → g.owner u ≡ o → Begins p run
            by_owner t p lt b ends car tu us some None own =
                absurd (some (begins_nil run (subst (λ x. Begins run x) (gok.unowned u own) rooted)))
            by_owner t p lt b ends car tu us some (Some d) own =
                let ne : u ≡ s.term → ⊥ = λ e. absurd (cc (own, subst (λ x. g.owner x ≡ None) (sym e) unled)) in
                let theirs : Begins p (g.ledger u) = begins_trans p (g.runs u d) (g.ledger u) (car.by u d tu (omega arith) own) (gok.owner_began u d own) in
                ⊎_elim (λ h. h)
                (λ h. let low : last_term run ≤ t = (gok.ledgers t).upto run (begins_trans run p (g.ledger t) h b) in absurd (omega arith))
                (begins_either p run (g.ledger u) theirs rooted)

    -- a vote is given

    module _ (m : Message B) (l u : ℕ) (asked : RequestOk g m l u) where
      given_new : grants s m l u ≡ true → s.vote ≡ None → Moved n g i (sending (record s { vote = Some m.from }) (message s.term i m.from (Vote true) ∷ []))
      given_new h none =
          record {
            after = g';
            ghost_ok = cast_ok n g gok i t c run free same (inl self) (gok.began t c)
                (λ unled. record {
                  holds = λ a p lt b ends le car.
                      subst (λ r. Begins p r) (sym (cast_runs n g gok i t c run free same))
                      ((vote_fact c l u length_is term_is good unled).holds a p lt b ends le (carried_back n g g' gok ex a t p car));
                });
            extends = ex;
            apart = cast_apart n g gok i t c run free same;
            node_ok = sending_ok n g' i _ voted (message t i c (Vote true) ∷ []) (now, tt);
          }
        where
          t : ℕ
          t = s.term

          c : ℕ
          c = m.from

          run : List (Entry B)
          run = g.runs s.term m.from

          term_same : s.term ≡ m.term
          term_same = eqb-true s.term m.term (and_parts (eqb s.term m.term) _ h).0

          good : up_to_date u l (last_term s.log) (length s.log) ≡ true
          good = (and_parts (is_free_for s.vote m.from) _ (and_parts (eqb s.term m.term) _ h).1).1

          self : g.ballot m.from s.term ≡ Some m.from
          self = subst (λ x. g.ballot m.from x ≡ Some m.from) (sym term_same) asked.voted

          length_is : length (g.runs s.term m.from) ≡ l
          length_is = ap (λ x. length (g.runs x m.from)) term_same ∙ asked.length_is

          term_is : last_term (g.runs s.term m.from) ≡ u
          term_is = ap (λ x. last_term (g.runs x m.from)) term_same ∙ asked.term_is

          free : g.ballot i s.term ≡ None
          free = ok.vote_now ∙ none

          same : g.ballot m.from s.term ≡ Some m.from → g.runs s.term m.from ≡ g.runs s.term m.from
          same e = refl

          g' : Ghost B
          g' = cast g i s.term m.from (g.runs s.term m.from)

          ex : Extends g g'
          ex = cast_extends n g gok i s.term m.from (g.runs s.term m.from) free same

          now : g'.ballot i s.term ≡ Some m.from
          now = cast_now n g gok i s.term m.from (g.runs s.term m.from) free same

          role_given : (r : Role) → RoleOk n g i r s.boot s.term s.vote s.log s.voters s.next s.matched → RoleOk n g' i r s.boot s.term (Some m.from) s.log s.voters s.next s.matched
          role_given Follower k = tt
          role_given Candidate k = absurd (cc (k.voted, none))
          role_given Leader k =
              record { owner = k.owner; log_is = k.log_is; boot_is = k.boot_is; own_acked = k.own_acked; matched_length = k.matched_length; matched_ok = k.matched_ok; next_ok = k.next_ok }

          voted : NodeOk n g' i (record s { vote = Some m.from })
          voted =
              record {
                vote_now = now;
                vote_later = λ x lt. cast_later n g gok i s.term m.from (g.runs s.term m.from) free same x lt (ok.vote_later x lt);
                acked_later = ok.acked_later;
                log_ok = record { rooted = ok.log_ok.rooted; upto = ok.log_ok.upto };
                keeps = λ a p b le car. ok.keeps a p b le (carried_back n g g' gok ex a (suc s.term) p car);
                commit_in = ok.commit_in;
                commit_ok = ok.commit_ok;
                commit_held = held_later n g g' gok ex s.term _ ok.commit_held;
                role_ok = role_given s.role ok.role_ok;
                sent_ok = all_later n g g' gok ex s.sent ok.sent_ok;
              }

      given_again : (d : ℕ) → grants s m l u ≡ true → s.vote ≡ Some d → Moved n g i (sending (record s { vote = Some m.from }) (message s.term i m.from (Vote true) ∷ []))
      given_again d h some =
          let free : is_free_for (Some d) m.from ≡ true = subst (λ o. is_free_for o m.from ≡ true) some (and_parts (is_free_for s.vote m.from) _ (and_parts (eqb s.term m.term) _ h).1).0 in
          let e : s.vote ≡ Some m.from = some ∙ ap Some (eqb-true d m.from free) in
          let voted : NodeOk n g i (record s { vote = Some m.from }) =
          record {
            vote_now = ok.vote_now ∙ e;
            vote_later = ok.vote_later;
            acked_later = ok.acked_later;
            log_ok = ok.log_ok;
            keeps = ok.keeps;
            commit_in = ok.commit_in;
            commit_ok = ok.commit_ok;
            commit_held = ok.commit_held;
            role_ok = subst (λ o. RoleOk n g i s.role s.boot s.term o s.log s.voters s.next s.matched) e ok.role_ok;
            sent_ok = ok.sent_ok;
          } in
          stay n g i _ gok (sending_ok n g i _ voted (message s.term i m.from (Vote true) ∷ []) (ok.vote_now ∙ e, tt))

      pub request_moved : Moved n g i (on_request_vote i s m l u)
      request_moved =
          cond_both (grants s m l u) _ _ (λ z. Moved n g i z)
          (λ h. by_vote h s.vote refl)
          (λ h. stay n g i _ gok (sending_ok n g i s ok (message s.term i m.from (Vote false) ∷ []) (tt, tt)))
        where
          by_vote : grants s m l u ≡ true → (o : Option ℕ) → s.vote ≡ o → Moved n g i (sending (record s { vote = Some m.from }) (message s.term i m.from (Vote true) ∷ []))
          by_vote h None e = given_new h e
          by_vote h (Some d) e = given_again d h e

-- A follower takes entries.
use Rattle.std.proofs.Common.{◌≡◌, ℕ, suc, ◌+◌, ◌-◌, ◌<◌, ◌≤◌, min, max, true, false, ltb, List, [], ◌∷◌, ◌++◌, ◌⊎◌, inl, inr, ⊎_elim, Some, length, take, drop, refl, sym, ap, subst, ◌∙◌, arith, length-append, take-append-drop}
use Rattle.std.proofs.lemmas.Bool.{cond_both, ltb-false, cases_lt, cases_order}
use Rattle.raft_log.specs.declared.entry.Entry.{Entry}
use Rattle.raft_log.specs.declared.message.Kind.TheVariants.{AppendReply}
use Rattle.raft_log.specs.declared.message.Message.{Message}
use Rattle.raft_log.specs.declared.role.Role.TheVariants.{Follower}
use Rattle.raft_log.specs.Node.{Node, is_leader, message}
use Rattle.raft_log.specs.Logs.{agrees_at, repair, conflicts_within}
use Rattle.raft_node.proofs.ByMessage.{appended, accepted, on_append}
use Rattle.agreement.specs.World.{Begins}
use Rattle.agreement.proofs.Lists.{begins_self, begins_trans, begins_length, begins_shorter, begins_same, begins_either, begins_take, begins_empty, length_take}
use Rattle.agreement.proofs.Repairs.{same_front, merged_same, merged_cases, repair_keeps}
use Rattle.raft_node.proofs.Grows.{agrees_in}
use Rattle.agreement.proofs.Ghost.{Ghost, Sound, Carried, GhostOk, AppendOk, RoleOk, NodeOk, Held}
use Rattle.agreement.proofs.Later.{Extends, sound_front, carried_back, all_later, held_later, held_front}
use Rattle.agreement.proofs.Growing.{noted, noted_extends, noted_apart, noted_now, noted_other, noted_ok}
use Rattle.agreement.proofs.Plain.{Moved, stay, sending_ok}
use Rattle.agreement.proofs.Entries.{none_term, agrees_term}

module _ {B : Type 0} where
  module _ (n : ℕ) (g : Ghost B) (gok : GhostOk n g) (i : ℕ) (s : Node B) (ok : NodeOk n g i s) where
    -- a follower takes entries

    module _ (m : Message B) (prev prev_term : ℕ) (es : List (Entry B)) (c : ℕ) (told : AppendOk n g m prev prev_term es c) (same : s.term ≡ m.term) (follows : s.role ≡ Follower) where
      appended_moved : agrees_at s.log prev prev_term ≡ true → conflicts_within (drop prev s.log) es (s.commit - prev) ≡ false → Moved n g i (appended i s m prev es c)
      appended_moved agrees clear =
          record {
            after = g';
            ghost_ok = noted_ok n g gok i t k up within ok.vote_later;
            extends = ex;
            apart = noted_apart n g gok i t k up within ok.vote_later;
            node_ok = sending_ok n g' i _ body (message t i m.from (AppendReply true (prev + length es)) ∷ []) (omega (arith, now), tt);
          }
        where
          t : ℕ
          t = s.term

          led : List (Entry B)
          led = g.ledger s.term

          pin : prev ≤ length s.log
          pin = agrees_in s.log prev prev_term agrees

          q : List (Entry B)
          q = take prev s.log

          whole : List (Entry B)
          whole = told.front ++ es

          whole_led : Begins (told.front ++ es) (g.ledger s.term)
          whole_led = subst (λ u. Begins (told.front ++ es) (g.ledger u)) (sym same) told.of_ledger

          whole_length : length (told.front ++ es) ≡ prev + length es
          whole_length = omega (arith, length-append told.front es, told.front_length)

          fronts : take prev s.log ≡ told.front
          fronts =
              same_front g.ledger s.term s.term s.log (g.ledger s.term) (take prev s.log) told.front ok.log_ok (gok.ledgers s.term) (begins_take prev s.log)
              (begins_trans told.front (told.front ++ es) (g.ledger s.term) (es, refl) whole_led)
              (agrees_term s.log prev prev_term agrees (λ z. sym told.front_term ∙ none_term told.front (told.front_length ∙ z)) ∙ sym told.front_term)
              (length_take prev s.log pin ∙ sym told.front_length)

          new : List (Entry B)
          new = repair s.log prev es

          split : take prev s.log ++ drop prev s.log ≡ s.log
          split = take-append-drop prev s.log

          glued : take prev s.log ++ es ≡ told.front ++ es
          glued = ap (λ z. z ++ es) fronts

          cases : ((repair s.log prev es ≡ s.log) × Begins (told.front ++ es) s.log) ⊎ (repair s.log prev es ≡ told.front ++ es)
          cases =
              ⊎_elim
              (λ a. inl (a.0 ∙ split, subst (λ z. Begins z s.log) glued (subst (λ z. Begins (take prev s.log ++ es) z) split a.1)))
              (λ a. inr (a ∙ glued))
              (merged_cases g.ledger s.term s.term es (drop prev s.log) (take prev s.log) (subst (λ z. Sound g.ledger s.term z) (sym split) ok.log_ok) (gok.ledgers s.term) (subst (λ z. Begins z (g.ledger s.term)) (sym glued) whole_led))

          stays : Begins (told.front ++ es) s.log → repair s.log prev es ≡ s.log
          stays b =
              let b' : Begins (take prev s.log ++ es) (take prev s.log ++ drop prev s.log) = subst (λ z. Begins z (take prev s.log ++ drop prev s.log)) (sym glued) (subst (λ z. Begins (told.front ++ es) z) (sym split) b) in
              ap (λ z. take prev s.log ++ z) (merged_same es (drop prev s.log) (stripped b')) ∙ split
            where
              stripped : Begins (take prev s.log ++ es) (take prev s.log ++ drop prev s.log) → Begins es (drop prev s.log)
              stripped b' = strip (take prev s.log) es (drop prev s.log) b'
                where
                  strip : (q xs ys : List (Entry B)) → Begins (q ++ xs) (q ++ ys) → Begins xs ys
                  strip [] xs ys p = p
                  strip (x ∷ q) xs ys p = strip q xs ys (p.0, cc (p.1))

          has_whole : Begins (told.front ++ es) (repair s.log prev es)
          has_whole =
              ⊎_elim (λ a. subst (λ z. Begins (told.front ++ es) z) (sym a.0) a.1) (λ a. subst (λ z. Begins (told.front ++ es) z) (sym a) (begins_self (told.front ++ es))) cases

          -- what the log and the ledger begin with, the new log begins with
          kept : (p : List (Entry B)) → Begins p s.log → Begins p (g.ledger s.term) → Begins p (repair s.log prev es)
          kept p bl bt =
              ⊎_elim
              (λ a. subst (λ z. Begins p z) (sym a.0) bl)
              (λ a.
              ⊎_elim
              (λ b. begins_trans p (told.front ++ es) (repair s.log prev es) b has_whole)
              (λ b. subst (λ z. Begins p z) (sym (stays (begins_trans (told.front ++ es) p s.log b bl))) bl)
              (begins_either p (told.front ++ es) (g.ledger s.term) bt whole_led))
              cases

          k : ℕ
          k = max (g.acked i s.term) (prev + length es)

          up : g.acked i s.term ≤ max (g.acked i s.term) (prev + length es)
          up = omega arith

          within : max (g.acked i s.term) (prev + length es) ≤ length (g.ledger s.term)
          within = omega (arith, gok.acked_in i s.term, begins_length (told.front ++ es) (g.ledger s.term) whole_led, whole_length)

          g' : Ghost B
          g' = noted n g gok i s.term (max (g.acked i s.term) (prev + length es)) up within ok.vote_later

          ex : Extends g g'
          ex = noted_extends n g gok i s.term (max (g.acked i s.term) (prev + length es)) up within ok.vote_later

          now : g'.acked i s.term ≡ max (g.acked i s.term) (prev + length es)
          now = noted_now n g gok i s.term (max (g.acked i s.term) (prev + length es)) up within ok.vote_later

          other : (u : ℕ) → (u ≡ s.term → ⊥) → g'.acked i u ≡ g.acked i u
          other = noted_other n g gok i s.term (max (g.acked i s.term) (prev + length es)) up within ok.vote_later

          keeps : (u : ℕ) (p : List (Entry B)) → Begins p (g.ledger u) → length p ≤ g'.acked i u → Carried g' u (suc s.term) p → Begins p (repair s.log prev es)
          keeps u p b le car =
              ⊎_elim
              (λ e. here (subst (λ x. Begins p (g.ledger x)) e b) (subst (λ x. length p ≤ g'.acked i x) e le))
              (λ o. ⊎_elim (λ lt. before lt) (λ gt. begins_empty p _ (omega (arith, other u (λ e. omega arith), ok.acked_later u gt))) o)
              (cases_order u s.term)
            where
              here : Begins p (g.ledger s.term) → length p ≤ g'.acked i s.term → Begins p (repair s.log prev es)
              here b' le' =
                  ⊎_elim
                  (λ lt. begins_trans p (told.front ++ es) _ (begins_shorter p (told.front ++ es) (g.ledger s.term) b' whole_led (omega (arith, now, whole_length))) has_whole)
                  (λ ge. kept p (ok.keeps s.term p b' ge (record { by = λ a d ta at o. absurd (omega arith) })) b')
                  (cases_lt (g.acked i s.term) (length p))

              before : u < s.term → Begins p (repair s.log prev es)
              before lt =
                  let le' : length p ≤ g.acked i u = omega (arith, other u (λ e. omega arith)) in
                  let car' : Carried g u (suc s.term) p = carried_back n g g' gok ex u (suc s.term) p car in
                  let own : g.owner s.term ≡ Some m.from = subst (λ x. g.owner x ≡ Some m.from) (sym same) told.owner in
                  kept p (ok.keeps u p b le' car')
                  (begins_trans p (g.runs s.term m.from) (g.ledger s.term) (car'.by s.term m.from lt (omega arith) own) (gok.owner_began s.term m.from own))

          old_front : Begins (take s.commit s.log) (repair s.log prev es)
          old_front = repair_keeps s.log prev s.commit es ok.commit_in clear pin

          commits_to : ℕ
          commits_to = min c (prev + length es)

          whole_in : prev + length es ≤ length (repair s.log prev es)
          whole_in = omega (arith, begins_length (told.front ++ es) (repair s.log prev es) has_whole, whole_length)

          old_in : s.commit ≤ length (repair s.log prev es)
          old_in = omega (arith, begins_length (take s.commit s.log) (repair s.log prev es) old_front, length_take s.commit s.log ok.commit_in)

          front_of : (k : ℕ) (p : List (Entry B)) → Begins p (repair s.log prev es) → length p ≡ k → take k (repair s.log prev es) ≡ p
          front_of k p b e = begins_same _ p (repair s.log prev es) (begins_take k (repair s.log prev es)) b (length_take k (repair s.log prev es) (omega (arith, begins_length p (repair s.log prev es) b)) ∙ sym e)

          new_in_done : Begins (take (min c (prev + length es)) (repair s.log prev es)) told.done
          new_in_done =
              let f : List (Entry B) = take (min c (prev + length es)) (repair s.log prev es) in
              let fl : length f ≡ min c (prev + length es) = length_take _ (repair s.log prev es) (omega (arith, whole_in)) in
              let in_whole : Begins f (told.front ++ es) = begins_shorter f (told.front ++ es) (repair s.log prev es) (begins_take _ (repair s.log prev es)) has_whole (omega (arith, whole_length)) in
              let in_led : Begins f (g.ledger s.term) = begins_trans f (told.front ++ es) (g.ledger s.term) in_whole whole_led in
              let done_led : Begins told.done (g.ledger s.term) = subst (λ x. Begins told.done (g.ledger x)) (sym same) told.done_ledger in
              begins_shorter f told.done (g.ledger s.term) in_led done_led (omega (arith, told.done_length))

          commit_ok : Begins (take (max s.commit (min c (prev + length es))) (repair s.log prev es)) g.agreed
          commit_ok =
              ⊎_elim
              (λ lt.
              let e : max s.commit (min c (prev + length es)) ≡ min c (prev + length es) = omega arith in
              subst (λ x. Begins (take x (repair s.log prev es)) g.agreed) (sym e) new_front)
              (λ ge.
              let e : max s.commit (min c (prev + length es)) ≡ s.commit = omega arith in
              subst (λ x. Begins (take x (repair s.log prev es)) g.agreed) (sym e)
              (subst (λ z. Begins z g.agreed) (sym (front_of s.commit (take s.commit s.log) old_front (length_take s.commit s.log ok.commit_in))) ok.commit_ok))
              (cases_lt s.commit (min c (prev + length es)))
            where
              new_front : Begins (take (min c (prev + length es)) (repair s.log prev es)) g.agreed
              new_front = begins_trans _ told.done g.agreed new_in_done told.done_agreed

          commit_held : Held n g' s.term (take (max s.commit (min c (prev + length es))) (repair s.log prev es))
          commit_held =
              held_later n g g' gok ex s.term _
              (⊎_elim
              (λ lt.
              let e : max s.commit (min c (prev + length es)) ≡ min c (prev + length es) = omega arith in
              subst (λ x. Held n g s.term (take x (repair s.log prev es))) (sym e)
              (held_front n g s.term _ told.done new_in_done (subst (λ x. Held n g x told.done) (sym same) told.done_held)))
              (λ ge.
              let e : max s.commit (min c (prev + length es)) ≡ s.commit = omega arith in
              subst (λ x. Held n g s.term (take x (repair s.log prev es))) (sym e)
              (subst (λ z. Held n g s.term z) (sym (front_of s.commit (take s.commit s.log) old_front (length_take s.commit s.log ok.commit_in))) ok.commit_held))
              (cases_lt s.commit (min c (prev + length es))))

          sound : Sound g.ledger s.term (repair s.log prev es)
          sound =
              ⊎_elim
              (λ a. subst (λ z. Sound g.ledger s.term z) (sym a.0) ok.log_ok)
              (λ a. subst (λ z. Sound g.ledger s.term z) (sym a) (sound_front g.ledger s.term (told.front ++ es) (g.ledger s.term) whole_led (gok.ledgers s.term)))
              cases

          body : NodeOk n g' i (record s { log = repair s.log prev es; commit = max s.commit (min c (prev + length es)) })
          body =
              record {
                vote_now = ok.vote_now;
                vote_later = ok.vote_later;
                acked_later = λ u lt. subst (λ a. a ≤ 0) (sym (other u (λ e. omega arith))) (ok.acked_later u lt);
                log_ok = sound;
                keeps = keeps;
                commit_in = omega (arith, whole_in, old_in);
                commit_ok = commit_ok;
                commit_held = commit_held;
                role_ok = subst (λ r. RoleOk n g' i r s.boot s.term s.vote (repair s.log prev es) s.voters s.next s.matched) (sym follows) tt;
                sent_ok = all_later n g g' gok ex s.sent ok.sent_ok;
              }

      pub accepted_moved : Moved n g i (accepted i s m prev prev_term es c)
      accepted_moved =
          cond_both (agrees_at s.log prev prev_term) _ _ (λ z. Moved n g i z)
          (λ agrees.
          cond_both (conflicts_within (drop prev s.log) es (s.commit - prev)) s _ (λ z. Moved n g i z)
          (λ h. stay n g i s gok ok)
          (λ clear. appended_moved agrees clear))
          (λ h. stay n g i _ gok (sending_ok n g i s ok (message s.term i m.from (AppendReply false prev) ∷ []) (tt, tt)))

  pub append_moved : (n : ℕ) (g : Ghost B) (gok : GhostOk n g) (i : ℕ) (s : Node B) (ok : NodeOk n g i s) (m : Message B) (prev prev_term : ℕ) (es : List (Entry B)) (c : ℕ) → AppendOk n g m prev prev_term es c → m.term ≤ s.term → Moved n g i (on_append i s m prev prev_term es c)
  append_moved n g gok i s ok m prev prev_term es c told reach =
      cond_both (ltb m.term s.term) _ _ (λ z. Moved n g i z)
      (λ h. stay n g i _ gok (sending_ok n g i s ok (message s.term i m.from (AppendReply false 0) ∷ []) (tt, tt)))
      (λ h.
      let e : s.term ≡ m.term = omega (arith, ltb-false m.term s.term h) in
      cond_both (is_leader s.role) s _ (λ z. Moved n g i z)
      (λ l. stay n g i s gok ok)
      (λ l. accepted_moved n g gok i (record s { role = Follower; leader = Some m.from }) followed m prev prev_term es c told e refl))
    where
      followed : NodeOk n g i (record s { role = Follower; leader = Some m.from })
      followed =
          record {
            vote_now = ok.vote_now;
            vote_later = ok.vote_later;
            acked_later = ok.acked_later;
            log_ok = ok.log_ok;
            keeps = ok.keeps;
            commit_in = ok.commit_in;
            commit_ok = ok.commit_ok;
            commit_held = ok.commit_held;
            role_ok = tt;
            sent_ok = ok.sent_ok;
          }

-- Steps that do not change the ghost.
use Rattle.std.proofs.Common.{◌≡◌, ℕ, suc, pred, ◌<◌, ◌≤◌, true, ltb, List, [], ◌∷◌, ◌++◌, length, take, drop, map, refl, sym, subst, ◌∙◌, arith, take-append-drop, inl}
use Rattle.std.proofs.lemmas.Bool.{cond_both, ltb-true}
use Rattle.raft_log.specs.Batches.{batch_limit}
use Rattle.raft_log.specs.declared.entry.Entry.{Entry}
use Rattle.raft_log.specs.declared.message.Message.{Message}
use Rattle.raft_log.specs.declared.role.Role.{Role}
use Rattle.raft_log.specs.declared.role.Role.TheVariants.{Follower, Candidate, Leader}
use Rattle.raft_log.specs.Node.{Node, is_leader, is_candidate, sending, raised}
use Rattle.raft_log.specs.Lists.{others, item_or}
use Rattle.raft_node.specs.Raft.{restarted}
use Rattle.replication.specs.Replication.{append_for, beat}
use Rattle.agreement.specs.World.{Begins}
use Rattle.agreement.proofs.Lists.{begins_none, begins_take, begins_glue, length_take}
use Rattle.agreement.proofs.Ghost.{Ghost, Carried, GhostOk, MsgOk, AllOk, CandidateOk, LeaderOk, RoleOk, NodeOk}
use Rattle.agreement.proofs.Later.{Extends, Apart, extends_self, extends_on, apart_self, apart_on, sound_more, held_more}

module _ {B : Type 0} where
  -- the node's next state, over a ghost that goes on from g
  pub record Moved (n : ℕ) (g : Ghost B) (i : ℕ) (s : Node B) : Type 0 where
    pub after : Ghost B
    pub ghost_ok : GhostOk n after
    pub extends : Extends g after
    pub apart : (j : ℕ) → (j ≡ i → ⊥) → Apart j g after
    pub node_ok : NodeOk n after i s

  pub stay : (n : ℕ) (g : Ghost B) (i : ℕ) (s : Node B) → GhostOk n g → NodeOk n g i s → Moved n g i s
  stay n g i s gok ok = record { after = g; ghost_ok = gok; extends = extends_self g; apart = λ j ne. apart_self j g; node_ok = ok }

  pub carried_less : (g : Ghost B) (t x y : ℕ) (p : List (Entry B)) → y ≤ x → Carried g t x p → Carried g t y p
  carried_less g t x y p le c = record { by = λ u d tu uy o. c.by u d tu (omega arith) o }

  pub all_append : (n : ℕ) (g : Ghost B) (ms ks : List (Message B)) → AllOk n g ms → AllOk n g ks → AllOk n g (ms ++ ks)
  all_append n g [] ks a b = b
  all_append n g (m ∷ ms) ks a b = (a.0, all_append n g ms ks a.1 b)

  pub all_map : (n : ℕ) (g : Ghost B) (f : ℕ → (Message B)) (js : List ℕ) → ((j : ℕ) → MsgOk n g (f j)) → AllOk n g (map f js)
  all_map n g f [] h = tt
  all_map n g f (j ∷ js) h = (h j, all_map n g f js h)

pub role_leader : (r : Role) → is_leader r ≡ true → r ≡ Leader
role_leader Follower h = absurd (cc h)
role_leader Candidate h = absurd (cc h)
role_leader Leader h = refl

pub role_candidate : (r : Role) → is_candidate r ≡ true → r ≡ Candidate
role_candidate Follower h = absurd (cc h)
role_candidate Candidate h = refl
role_candidate Leader h = absurd (cc h)

module _ {B : Type 0} where
  module _ (n : ℕ) (g : Ghost B) (i : ℕ) (s : Node B) (ok : NodeOk n g i s) where
    pub leader_ok : is_leader s.role ≡ true → LeaderOk n g i s.boot s.term s.log s.next s.matched
    leader_ok h = subst (λ r. RoleOk n g i r s.boot s.term s.vote s.log s.voters s.next s.matched) (role_leader s.role h) ok.role_ok

    pub candidate_ok : is_candidate s.role ≡ true → CandidateOk n g i s.term s.vote s.log s.voters
    candidate_ok h = subst (λ r. RoleOk n g i r s.boot s.term s.vote s.log s.voters s.next s.matched) (role_candidate s.role h) ok.role_ok

    pub sending_ok : (ms : List (Message B)) → AllOk n g ms → NodeOk n g i (sending s ms)
    sending_ok ms h =
        record {
          vote_now = ok.vote_now;
          vote_later = ok.vote_later;
          acked_later = ok.acked_later;
          log_ok = ok.log_ok;
          keeps = ok.keeps;
          commit_in = ok.commit_in;
          commit_ok = ok.commit_ok;
          commit_held = ok.commit_held;
          role_ok = ok.role_ok;
          sent_ok = all_append n g s.sent ms ok.sent_ok h;
        }

    pub raised_ok : (t : ℕ) → NodeOk n g i (raised s t)
    raised_ok t =
        cond_both (ltb s.term t) _ s (λ z. NodeOk n g i z)
        (λ h.
        let lt : s.term < t = ltb-true s.term t h in
        record {
          vote_now = ok.vote_later t lt;
          vote_later = λ u l. ok.vote_later u (omega arith);
          acked_later = λ u l. ok.acked_later u (omega arith);
          log_ok = sound_more g.ledger s.term t s.log (omega arith) ok.log_ok;
          keeps = λ u p b le car. ok.keeps u p b le (carried_less g u (suc t) (suc s.term) p (omega arith) car);
          commit_in = ok.commit_in;
          commit_ok = ok.commit_ok;
          commit_held = held_more n g s.term t _ (omega arith) ok.commit_held;
          role_ok = tt;
          sent_ok = ok.sent_ok;
        })
        (λ h. ok)

    pub restarted_ok : NodeOk n g i (restarted n s)
    restarted_ok =
        record {
          vote_now = ok.vote_now;
          vote_later = ok.vote_later;
          acked_later = ok.acked_later;
          log_ok = ok.log_ok;
          keeps = ok.keeps;
          commit_in = omega arith;
          commit_ok = begins_none g.agreed;
          commit_held = inl refl;
          role_ok = tt;
          sent_ok = ok.sent_ok;
        }

    -- a stop: what was sent in the step is not sent
    pub unsent_ok : (ms : List (Message B)) → AllOk n g ms → NodeOk n g i (record s { sent = ms })
    unsent_ok ms h =
        record {
          vote_now = ok.vote_now;
          vote_later = ok.vote_later;
          acked_later = ok.acked_later;
          log_ok = ok.log_ok;
          keeps = ok.keeps;
          commit_in = ok.commit_in;
          commit_ok = ok.commit_ok;
          commit_held = ok.commit_held;
          role_ok = ok.role_ok;
          sent_ok = h;
        }

    pub append_for_ok : is_leader s.role ≡ true → (j : ℕ) → MsgOk n g (append_for i s j)
    append_for_ok h j =
        let lead : LeaderOk n g i s.boot s.term s.log s.next s.matched = leader_ok h in
        let prev : ℕ = pred (item_or s.next j 0) in
        let within : prev ≤ length s.log = omega (arith, lead.next_ok j) in
        record {
          front = take prev s.log;
          front_length = length_take prev s.log within;
          front_term = refl;
          of_ledger = subst (λ l. Begins (take prev s.log ++ take batch_limit (drop prev s.log)) l) (take-append-drop prev s.log ∙ sym lead.log_is) (begins_glue (take prev s.log) (take batch_limit (drop prev s.log)) (drop prev s.log) (begins_take batch_limit (drop prev s.log)));
          owner = lead.owner;
          done = take s.commit s.log;
          done_length = length_take s.commit s.log ok.commit_in;
          done_ledger = subst (λ l. Begins (take s.commit s.log) l) (sym lead.log_is) (begins_take s.commit s.log);
          done_agreed = ok.commit_ok;
          done_held = ok.commit_held;
        }

    pub beat_ok : NodeOk n g i (beat n i s)
    beat_ok =
        cond_both (is_leader s.role) _ s (λ z. NodeOk n g i z)
        (λ h. sending_ok (map (append_for i s) (others n i)) (all_map n g (append_for i s) (others n i) (append_for_ok h)))
        (λ h. ok)

  -- steps one after the other
  pub then_moved : (n : ℕ) (g : Ghost B) (i : ℕ) (s : Node B) (h : Ghost B) → Extends g h → ((j : ℕ) → (j ≡ i → ⊥) → Apart j g h) → Moved n h i s → Moved n g i s
  then_moved n g i s h e a m =
      record {
        after = m.after;
        ghost_ok = m.ghost_ok;
        node_ok = m.node_ok;
        extends = extends_on g h m.after e m.extends;
        apart = λ j ne. apart_on j g h m.after e (a j ne) (m.apart j ne);
      }

-- Acknowledgements and the commit.
use Rattle.std.proofs.Common.{◌≡◌, ℕ, zero, suc, ◌<◌, ◌≤◌, max, Bool, true, ◌&&◌, ltb, leb, eqb, List, [], ◌⊎◌, inl, inr, ⊎_elim, Option, Some, None, length, take, map, refl, sym, ap, subst, ◌∙◌, arith}
use Rattle.std.proofs.lemmas.Bool.{cond_both, leb-true, eqb-true, and_parts, cases_order}
use Rattle.raft_log.specs.declared.entry.Entry.{Entry}
use Rattle.raft_log.specs.declared.message.Kind.TheVariants.{AppendReply}
use Rattle.raft_log.specs.declared.message.Message.{Message}
use Rattle.raft_log.specs.Node.{Node, is_leader}
use Rattle.raft_log.specs.Logs.{has_term, term_at}
use Rattle.raft_log.specs.Votes.{majority, commits, commit_place}
use Rattle.raft_log.specs.Lists.{item_or, with_item}
use Rattle.replication.specs.Replication.{with_match, advanced, stepped_back}
use Rattle.raft_node.proofs.ByMessage.{on_append_reply}
use Rattle.agreement.specs.World.{Begins}
use Rattle.agreement.proofs.Lists.{begins_self, begins_none, begins_trans, begins_either, begins_take, begins_nil, length_take}
use Rattle.raft_node.proofs.Items.{item-with_cases, length-with_item}
use Rattle.agreement.proofs.Counts.{item-map_test, length-map_test}
use Rattle.agreement.proofs.Ghost.{Ghost, Chosen, GhostOk, KindOk, LeaderOk, RoleOk, NodeOk, Held}
use Rattle.agreement.proofs.Later.{complete, Extends, node_later, held_later}
use Rattle.agreement.proofs.Growing.{settled, settled_extends, settled_apart, settled_ok}
use Rattle.agreement.proofs.Plain.{Moved, stay, role_leader, leader_ok}

module _ {B : Type 0} where
  -- two lists that majorities acknowledged, each in the term of its last entry: one begins the other
  pub chosen_agree : (n : ℕ) (g : Ghost B) (gok : GhostOk n g) (p q : List (Entry B)) → Chosen n g p → Chosen n g q → Begins p q ⊎ Begins q p
  chosen_agree n g gok p q a b =
      ⊎_elim
      (λ e. begins_either p q (g.ledger b.term) (subst (λ u. Begins p (g.ledger u)) e a.of_ledger) b.of_ledger)
      (λ o. ⊎_elim (λ lt. by_owner p q a b lt (g.owner b.term) refl) (λ gt. swap (by_owner q p b a gt (g.owner a.term) refl)) o)
      (cases_order a.term b.term)
    where
      by_owner : (p q : List (Entry B)) (a : Chosen n g p) (b : Chosen n g q) → a.term < b.term → (o : Option ℕ) → g.owner b.term ≡ o → Begins p q ⊎ Begins q p
      by_owner p q a b lt None e =
          let none : q ≡ [] = begins_nil q (subst (λ l. Begins q l) (gok.unowned b.term e) b.of_ledger) in
          inr (subst (λ z. Begins z p) (sym none) (begins_none p))
      by_owner p q a b lt (Some d) e =
          let b' = complete n g gok p a b.term b.term d (omega arith) lt e in
          begins_either p q (g.ledger b.term) (begins_trans p (g.runs b.term d) (g.ledger b.term) b' (gok.owner_began b.term d e)) b.of_ledger

      swap : {A B : Type 0} → A ⊎ B → B ⊎ A
      swap h = ⊎_elim (λ x. inr x) (λ x. inl x) h

  -- what the place that is found says
  place_cases : (size : ℕ) (matches : List ℕ) (log : List (Entry B)) (t c k : ℕ) → let r = commit_place size matches log t c k in (r ≡ c) ⊎ ((r ≤ k) × (commits size matches log t r ≡ true))
  place_cases size matches log t c zero = inl refl
  place_cases size matches log t c (suc k) =
      cond_both (ltb c (suc k) && commits size matches log t (suc k)) (suc k) (commit_place size matches log t c k)
      (λ r. (r ≡ c) ⊎ ((r ≤ suc k) × (commits size matches log t r ≡ true)))
      (λ h. inr (omega arith, (and_parts (ltb c (suc k)) _ h).1))
      (λ h. ⊎_elim (λ e. inl e) (λ e. inr (omega (arith, e.0), e.1)) (place_cases size matches log t c k))

  module _ (n : ℕ) (g : Ghost B) (gok : GhostOk n g) (i : ℕ) (s : Node B) (ok : NodeOk n g i s) (leads : is_leader s.role ≡ true) where
    -- the commit moves to a place that is agreed
    commit_at : (g' : Ghost B) → (r : ℕ) → r ≤ length s.log → NodeOk n g' i s → Begins (take r s.log) g'.agreed → Held n g' s.term (take r s.log) → NodeOk n g' i (record s { commit = r })
    commit_at g' r within ok' b hd =
        record {
          vote_now = ok'.vote_now;
          vote_later = ok'.vote_later;
          acked_later = ok'.acked_later;
          log_ok = ok'.log_ok;
          keeps = ok'.keeps;
          commit_in = within;
          commit_ok = b;
          commit_held = hd;
          role_ok = ok'.role_ok;
          sent_ok = ok'.sent_ok;
        }

    commit_moved : (r : ℕ) → r ≤ length s.log → Chosen n g (take r s.log) → Held n g s.term (take r s.log) → Moved n g i (record s { commit = r })
    commit_moved r within ch hd =
        ⊎_elim
        (λ b. stay n g i _ gok (commit_at g r within ok b hd))
        (λ b. settle b)
        compare
      where
        p : List (Entry B)
        p = take r s.log

        compare : Begins (take r s.log) g.agreed ⊎ Begins g.agreed (take r s.log)
        compare =
            ⊎_elim
            (λ e. inr (subst (λ z. Begins z (take r s.log)) (sym e) (begins_none (take r s.log))))
            (λ old. chosen_agree n g gok (take r s.log) g.agreed ch old)
            gok.agreed_ok

        settle : Begins g.agreed (take r s.log) → Moved n g i (record s { commit = r })
        settle b =
            let g' : Ghost B = settled n g gok (take r s.log) b in
            let ex : Extends g g' = settled_extends n g gok (take r s.log) b in
            record {
              after = g';
              ghost_ok = settled_ok n g gok (take r s.log) b ch;
              extends = ex;
              apart = λ j ne. settled_apart n g gok (take r s.log) b j;
              node_ok = commit_at g' r within (node_later n g g' gok ex i s (settled_apart n g gok (take r s.log) b i) ok) (begins_self (take r s.log)) (held_later n g g' gok ex s.term _ hd);
            }

    pub advanced_moved : Moved n g i (advanced n i s)
    advanced_moved =
        ⊎_elim
        (λ e. stay n g i _ gok (commit_at g r (subst (λ x. x ≤ length s.log) (sym e) ok.commit_in) ok (subst (λ x. Begins (take x s.log) g.agreed) (sym e) ok.commit_ok) (subst (λ x. Held n g s.term (take x s.log)) (sym e) ok.commit_held)))
        (λ h. let k : (c : Chosen n g (take r s.log)) × (c.term ≤ s.term) = chosen h.0 h.1 in commit_moved r h.0 k.0 (inr (record { whole = take r s.log; chosen = k.0; low = k.1; front = begins_self (take r s.log) })))
        (place_cases n matches s.log s.term s.commit (length s.log))
      where
        matches : List ℕ
        matches = with_item s.matched i (length s.log)

        r : ℕ
        r = commit_place n (with_item s.matched i (length s.log)) s.log s.term s.commit (length s.log)

        lead : LeaderOk n g i s.boot s.term s.log s.next s.matched
        lead = leader_ok n g i s ok leads

        chosen : {r : ℕ} → r ≤ length s.log → commits n (with_item s.matched i (length s.log)) s.log s.term r ≡ true → (c : Chosen n g (take r s.log)) × (c.term ≤ s.term)
        chosen {r} within h =
            let parts : (majority n (map (λ m. leb r m) (with_item s.matched i (length s.log))) ≡ true) × (has_term s.log s.term r ≡ true) = and_parts _ _ h in
            let there : (leb r (length s.log) && eqb (term_at s.log r) s.term) ≡ true = (and_parts (leb 1 r) _ parts.1).1 in (
              record {
                term = s.term;
                of_ledger = subst (λ l. Begins (take r s.log) l) (sym lead.log_is) (begins_take r s.log);
                ends = eqb-true (term_at s.log r) s.term (and_parts (leb r (length s.log)) _ there).1;
                who = map (λ m. leb r m) (with_item s.matched i (length s.log));
                who_length = length-map_test (λ m. leb r m) (with_item s.matched i (length s.log)) ∙ (length-with_item s.matched i (length s.log) ∙ lead.matched_length);
                who_majority = parts.0;
                who_acked = λ v w.
                    let le : r ≤ item_or (with_item s.matched i (length s.log)) v 0 = leb-true r _ (item-map_test (λ m. leb r m) (with_item s.matched i (length s.log)) v w) in
                    ⊎_elim
                    (λ e. subst (λ x. length (take r s.log) ≤ g.acked x s.term) (sym e.0) (omega (arith, length_take r s.log within, lead.own_acked)))
                    (λ e. omega (arith, length_take r s.log within, lead.matched_ok v))
                    (item-with_cases s.matched i v (length s.log) 0);
              },
              omega arith,
            )

    -- a reply

    with_match_ok : (j p : ℕ) → p ≤ length s.log → p ≤ g.acked j s.term → NodeOk n g i (with_match s j p)
    with_match_ok j p pin told =
        record {
          vote_now = ok.vote_now;
          vote_later = ok.vote_later;
          acked_later = ok.acked_later;
          log_ok = ok.log_ok;
          keeps = ok.keeps;
          commit_in = ok.commit_in;
          commit_ok = ok.commit_ok;
          commit_held = ok.commit_held;
          sent_ok = ok.sent_ok;
          role_ok = subst (λ r. RoleOk n g i r s.boot s.term s.vote s.log s.voters (with_match s j p).next (with_match s j p).matched) (sym (role_leader s.role leads))
              (record {
                owner = lead.owner;
                log_is = lead.log_is;
                boot_is = lead.boot_is;
                own_acked = lead.own_acked;
                matched_length = length-with_item s.matched j _ ∙ lead.matched_length;
                matched_ok = λ v.
                    ⊎_elim
                    (λ e. subst (λ x. item_or (with_item s.matched j reached) v 0 ≤ g.acked x s.term) (sym e.0) (omega (arith, e.1, lead.matched_ok j)))
                    (λ e. omega (arith, e, lead.matched_ok v))
                    (item-with_cases s.matched j v reached 0);
                next_ok = λ v.
                    ⊎_elim
                    (λ e. omega (arith, e.1, lead.matched_ok j, gok.acked_in j s.term, ap length lead.log_is))
                    (λ e. omega (arith, e, lead.next_ok v))
                    (item-with_cases s.next j v (suc reached) 0);
              });
        }
      where
        lead : LeaderOk n g i s.boot s.term s.log s.next s.matched
        lead = leader_ok n g i s ok leads

        reached : ℕ
        reached = max p (item_or s.matched j 0)

    stepped_back_ok : (j p : ℕ) → p ≤ length s.log → NodeOk n g i (stepped_back s j p)
    stepped_back_ok j p pin =
        cond_both (eqb (item_or s.next j 0) (suc p)) _ s (λ z. NodeOk n g i z)
        (λ h.
        record {
          vote_now = ok.vote_now;
          vote_later = ok.vote_later;
          acked_later = ok.acked_later;
          log_ok = ok.log_ok;
          keeps = ok.keeps;
          commit_in = ok.commit_in;
          commit_ok = ok.commit_ok;
          commit_held = ok.commit_held;
          sent_ok = ok.sent_ok;
          role_ok = subst (λ r. RoleOk n g i r s.boot s.term s.vote s.log s.voters (with_item s.next j (max 1 p)) s.matched) (sym (role_leader s.role leads))
              (record {
                owner = lead.owner;
                log_is = lead.log_is;
                boot_is = lead.boot_is;
                own_acked = lead.own_acked;
                matched_length = lead.matched_length;
                matched_ok = lead.matched_ok;
                next_ok = λ v.
                    ⊎_elim (λ e. omega (arith, e.1)) (λ e. omega (arith, e, lead.next_ok v)) (item-with_cases s.next j v (max 1 p) 0);
              });
        })
        (λ h. ok)
      where
        lead : LeaderOk n g i s.boot s.term s.log s.next s.matched
        lead = leader_ok n g i s ok leads

  pub reply_moved : (n : ℕ) (g : Ghost B) (gok : GhostOk n g) (i : ℕ) (s : Node B) (ok : NodeOk n g i s) (m : Message B) (o : Bool) (p : ℕ) → KindOk n g m (AppendReply o p) → Moved n g i (on_append_reply n i s m o p)
  reply_moved n g gok i s ok m o p told =
      cond_both (is_leader s.role && (eqb s.term m.term && leb p (length s.log))) _ s (λ z. Moved n g i z)
      (λ h.
      let a : (is_leader s.role ≡ true) × ((eqb s.term m.term && leb p (length s.log)) ≡ true) = and_parts (is_leader s.role) _ h in
      let b : (eqb s.term m.term ≡ true) × (leb p (length s.log) ≡ true) = and_parts (eqb s.term m.term) _ a.1 in
      let e : s.term ≡ m.term = eqb-true s.term m.term b.0 in
      let pin : p ≤ length s.log = leb-true p (length s.log) b.1 in
      cond_both o _ _ (λ z. Moved n g i z)
      (λ yes.
      let told' : p ≤ g.acked m.from m.term = subst (λ x. KindOk n g m (AppendReply x p)) yes told in
      let here : p ≤ g.acked m.from s.term = subst (λ x. p ≤ g.acked m.from x) (sym e) told' in
      advanced_moved n g gok i (with_match s m.from p) (with_match_ok n g gok i s ok a.0 m.from p pin here) a.0)
      (λ no. stay n g i _ gok (stepped_back_ok n g gok i s ok a.0 m.from p pin)))
      (λ h. stay n g i s gok ok)

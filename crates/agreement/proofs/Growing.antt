-- The three changes of the ghost by which something grows: a ledger, an acknowledgement, what is agreed.
use Rattle.std.proofs.Common.{◌≡◌, ℕ, ◌<◌, ◌≤◌, List, [], ◌⊎◌, inl, inr, ⊎_elim, Some, None, length, refl, sym, subst, ◌∙◌, arith}
use Rattle.std.proofs.lemmas.Bool.{cases_eq}
use Rattle.raft_log.specs.declared.entry.Entry.{Entry}
use Rattle.agreement.specs.World.{Begins}
use Rattle.agreement.proofs.Lists.{begins_self, begins_trans, begins_length}
use Rattle.agreement.proofs.Ghost.{Ghost, Sound, Chosen, GhostOk}
use Rattle.agreement.proofs.Later.{Extends, Apart, fact_later, chosen_later, sound_later}
use Rattle.agreement.proofs.Changes.{upd, upd2, upd_at, upd_off, upd2_at, upd2_off, cases2}

module _ {B : Type 0} where
  -- a ledger, an acknowledgement, what is agreed

  abbrev pub grown : Ghost B → (ℕ → List (Entry B)) → (ℕ → ℕ → ℕ) → List (Entry B) → (Ghost B)
  grown g ledger acked agreed = record g { ledger = ledger; acked = acked; agreed = agreed }

  module _ (n : ℕ) (g : Ghost B) (ok : GhostOk n g) (ledger : ℕ → List (Entry B)) (acked : ℕ → ℕ → ℕ) (agreed : List (Entry B)) where
    pub grown_ok : Extends g (grown g ledger acked agreed) → ((t : ℕ) → g.owner t ≡ None → ledger t ≡ []) → ((t : ℕ) → Sound ledger t (ledger t)) → ((v t : ℕ) → acked v t ≤ length (ledger t)) → ((agreed ≡ []) ⊎ Chosen n (grown g ledger acked agreed) agreed) → GhostOk n (grown g ledger acked agreed)
    grown_ok ex unowned sounds within chosen =
        record {
          self_votes = ok.self_votes;
          owner_voted = ok.owner_voted;
          owner_began = λ u d h. begins_trans (g.runs u d) (g.ledger u) (ledger u) (ok.owner_began u d h) (ex.ledgers u);
          unowned = unowned;
          won_length = ok.won_length;
          won_majority = ok.won_majority;
          won_votes = ok.won_votes;
          won_facts = λ u d v h w. fact_later n g _ ok ex v u d (ok.won_votes u d v h w) (ok.won_facts u d v h w);
          open_facts = λ u d v h b. fact_later n g _ ok ex v u d b (ok.open_facts u d v h b);
          ledgers = sounds;
          began = λ u d. sound_later g.ledger ledger u (g.runs u d) ex.ledgers (ok.began u d);
          acked_in = within;
          agreed_ok = chosen;
        }

  -- the leader's log grows
  module _ (n : ℕ) (g : Ghost B) (ok : GhostOk n g) (i t : ℕ) (log : List (Entry B)) (own : g.owner t ≡ Some i) (more : Begins (g.ledger t) log) where
    abbrev pub filed : Ghost B
    filed = grown g (upd g.ledger t log) g.acked g.agreed

    pub filed_extends : Extends g filed
    filed_extends =
        record {
          ballots = λ v u d h. h;
          owners = λ u d h. h;
          boots_kept = λ u d h. refl;
          runs_kept = λ u d h. refl;
          ledgers = λ u.
              ⊎_elim
              (λ e. subst (λ l. Begins (g.ledger u) l) (sym (upd_at g.ledger t log u e)) (subst (λ a. Begins (g.ledger a) log) (sym e) more))
              (λ ne. subst (λ l. Begins (g.ledger u) l) (sym (upd_off g.ledger t log u ne)) (begins_self (g.ledger u)))
              (cases_eq u t);
          ackeds = λ v u. omega arith;
          acked_kept = λ v u x d h l. omega arith;
          agreeds = begins_self g.agreed;
        }

    pub filed_apart : (j : ℕ) → (j ≡ i → ⊥) → Apart j g filed
    filed_apart j ne =
        record {
          ballot_same = λ u. refl;
          acked_same = λ u. omega arith;
          owner_same = λ u h. h;
          ledger_same = λ u h. upd_off g.ledger t log u (λ e. let h' : g.owner t ≡ Some j = subst (λ b. g.owner b ≡ Some j) e h in let ij : i ≡ j = cc (h', own) in ne (sym ij));
        }

    pub filed_ledger : filed.ledger t ≡ log
    filed_ledger = upd_at g.ledger t log t refl

    pub filed_ok : Sound filed.ledger t log → GhostOk n filed
    filed_ok sound =
        grown_ok n g ok (upd g.ledger t log) g.acked g.agreed filed_extends
        (λ u h.
        ⊎_elim
        (λ e. let h' : g.owner t ≡ None = subst (λ b. g.owner b ≡ None) e h in absurd (cc (h', own)))
        (λ ne. upd_off g.ledger t log u ne ∙ ok.unowned u h)
        (cases_eq u t))
        (λ u.
        ⊎_elim
        (λ e. subst (λ a. Sound l' a (l' a)) (sym e) (subst (λ l. Sound l' t l) (sym (upd_at g.ledger t log t refl)) sound))
        (λ ne. subst (λ l. Sound l' u l) (sym (upd_off g.ledger t log u ne)) (sound_later g.ledger l' u (g.ledger u) grow (ok.ledgers u)))
        (cases_eq u t))
        (λ v u. omega (arith, ok.acked_in v u, begins_length (g.ledger u) (l' u) (grow u)))
        (⊎_elim (λ h. inl h) (λ h. inr (chosen_later n g filed ok filed_extends g.agreed h)) ok.agreed_ok)
      where
        l' : ℕ → List (Entry B)
        l' = upd g.ledger t log

        grow : (u : ℕ) → Begins (g.ledger u) (l' u)
        grow = filed_extends.ledgers

  -- a node acknowledges
  module _ (n : ℕ) (g : Ghost B) (ok : GhostOk n g) (i t k : ℕ) (up : g.acked i t ≤ k) (within : k ≤ length (g.ledger t)) (later : (x : ℕ) → t < x → g.ballot i x ≡ None) where
    abbrev pub noted : Ghost B
    noted = grown g g.ledger (upd2 g.acked i t k) g.agreed

    pub noted_extends : Extends g noted
    noted_extends =
        record {
          ballots = λ v u d h. h;
          owners = λ u d h. h;
          boots_kept = λ u d h. refl;
          runs_kept = λ u d h. refl;
          ledgers = λ u. begins_self (g.ledger u);
          ackeds = λ v u.
              ⊎_elim
              (λ e. subst (λ a. g.acked v u ≤ a) (sym (upd2_at g.acked i t k v u e.0 e.1)) (subst (λ a. g.acked a u ≤ k) (sym e.0) (subst (λ b. g.acked i b ≤ k) (sym e.1) up)))
              (λ ne. subst (λ a. g.acked v u ≤ a) (sym (upd2_off g.acked i t k v u ne)) (omega arith))
              (cases2 v i u t);
          acked_kept = λ v u x d h l.
              ⊎_elim
              (λ e. let h' : g.ballot i x ≡ Some d = subst (λ a. g.ballot a x ≡ Some d) e.0 h in absurd (cc (h', later x (omega arith))))
              (λ ne. subst (λ a. a ≤ g.acked v u) (sym (upd2_off g.acked i t k v u ne)) (omega arith))
              (cases2 v i u t);
          agreeds = begins_self g.agreed;
        }

    pub noted_apart : (j : ℕ) → (j ≡ i → ⊥) → Apart j g noted
    noted_apart j ne =
        record {
          ballot_same = λ u. refl;
          acked_same = λ u. subst (λ a. a ≤ g.acked j u) (sym (upd2_off g.acked i t k j u (λ e e'. ne e))) (omega arith);
          owner_same = λ u h. h;
          ledger_same = λ u h. refl;
        }

    pub noted_now : noted.acked i t ≡ k
    noted_now = upd2_at g.acked i t k i t refl refl

    pub noted_other : (u : ℕ) → (u ≡ t → ⊥) → noted.acked i u ≡ g.acked i u
    noted_other u ne = upd2_off g.acked i t k i u (λ e. ne)

    pub noted_ok : GhostOk n noted
    noted_ok =
        grown_ok n g ok g.ledger (upd2 g.acked i t k) g.agreed noted_extends ok.unowned ok.ledgers
        (λ v u.
        ⊎_elim
        (λ e. subst (λ a. a ≤ length (g.ledger u)) (sym (upd2_at g.acked i t k v u e.0 e.1)) (subst (λ b. k ≤ length (g.ledger b)) (sym e.1) within))
        (λ ne. subst (λ a. a ≤ length (g.ledger u)) (sym (upd2_off g.acked i t k v u ne)) (ok.acked_in v u))
        (cases2 v i u t))
        (⊎_elim (λ h. inl h) (λ h. inr (chosen_later n g noted ok noted_extends g.agreed h)) ok.agreed_ok)

  -- more is agreed
  module _ (n : ℕ) (g : Ghost B) (ok : GhostOk n g) (p : List (Entry B)) (more : Begins g.agreed p) where
    abbrev pub settled : Ghost B
    settled = grown g g.ledger g.acked p

    pub settled_extends : Extends g settled
    settled_extends =
        record {
          ballots = λ v u d h. h;
          owners = λ u d h. h;
          boots_kept = λ u d h. refl;
          runs_kept = λ u d h. refl;
          ledgers = λ u. begins_self (g.ledger u);
          ackeds = λ v u. omega arith;
          acked_kept = λ v u x d h l. omega arith;
          agreeds = more;
        }

    pub settled_apart : (j : ℕ) → Apart j g settled
    settled_apart j = record { ballot_same = λ u. refl; acked_same = λ u. omega arith; owner_same = λ u h. h; ledger_same = λ u h. refl }

    pub settled_is : settled.agreed ≡ p
    settled_is = refl

    pub settled_ok : Chosen n g p → GhostOk n settled
    settled_ok ch =
        grown_ok n g ok g.ledger g.acked p settled_extends ok.unowned ok.ledgers ok.acked_in
        (inr (chosen_later n g settled ok settled_extends p ch))

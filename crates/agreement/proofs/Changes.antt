-- The changes of the ghost by a vote and by an election.
use Rattle.std.proofs.Common.{◌≡◌, ℕ, ◌<◌, Bool, true, cond, ◌&&◌, eqb, List, ◌⊎◌, inl, inr, ⊎_elim, Some, None, length, refl, sym, ap, subst, ◌∙◌, arith, eq-eqb, ne_eqb}
use Rattle.std.proofs.lemmas.Bool.{cases_eq, cond-true, cond-false, and_from, and_left, and_right}
use Rattle.raft_log.specs.declared.entry.Entry.{Entry}
use Rattle.raft_log.specs.Votes.{majority}
use Rattle.agreement.specs.World.{Begins}
use Rattle.agreement.proofs.Lists.{begins_self, begins_none, begins_trans, begins_length}
use Rattle.agreement.specs.Laws.{IsIn}
use Rattle.agreement.proofs.Ghost.{Ghost, Sound, Fact, GhostOk}
use Rattle.agreement.proofs.Later.{Extends, Apart, fact_later, chosen_later, sound_later}

-- a function changed at one place

pub upd : {A : Type 0} → (ℕ → A) → ℕ → A → ℕ → A
upd f t x u = cond (eqb u t) x (f u)

pub upd2 : {A : Type 0} → (ℕ → ℕ → A) → ℕ → ℕ → A → ℕ → ℕ → A
upd2 f i t x j u = cond (eqb j i && eqb u t) x (f j u)

pub upd_at : {A : Type 0} (f : ℕ → A) (t : ℕ) (x : A) (u : ℕ) → u ≡ t → upd f t x u ≡ x
unfolding upd
upd_at f t x u e = cond-true (eqb u t) x (f u) (eq-eqb u t e)

pub upd_off : {A : Type 0} (f : ℕ → A) (t : ℕ) (x : A) (u : ℕ) → (u ≡ t → ⊥) → upd f t x u ≡ f u
unfolding upd
upd_off f t x u ne = cond-false (eqb u t) x (f u) (ne_eqb u t ne)

pub upd2_at : {A : Type 0} (f : ℕ → ℕ → A) (i t : ℕ) (x : A) (j u : ℕ) → j ≡ i → u ≡ t → upd2 f i t x j u ≡ x
unfolding upd2
upd2_at f i t x j u e1 e2 = cond-true (eqb j i && eqb u t) x (f j u) (and_from (eqb j i) (eqb u t) (eq-eqb j i e1) (eq-eqb u t e2))

pub upd2_off : {A : Type 0} (f : ℕ → ℕ → A) (i t : ℕ) (x : A) (j u : ℕ) → (j ≡ i → u ≡ t → ⊥) → upd2 f i t x j u ≡ f j u
unfolding upd2
upd2_off f i t x j u ne =
    cond-false (eqb j i && eqb u t) x (f j u)
    (⊎_elim
    (λ e1. and_right (eqb j i) (eqb u t) (ne_eqb u t (ne e1)))
    (λ n1. and_left (eqb j i) (eqb u t) (ne_eqb j i n1))
    (cases_eq j i))

pub cases2 : (j i u t : ℕ) → ((j ≡ i) × (u ≡ t)) ⊎ (j ≡ i → u ≡ t → ⊥)
cases2 j i u t =
    ⊎_elim
    (λ e1. ⊎_elim (λ e2. inl (e1, e2)) (λ n2. inr (λ a b. n2 b)) (cases_eq u t))
    (λ n1. inr (λ a b. n1 a))
    (cases_eq j i)

module _ {B : Type 0} where
  -- a vote, and with it perhaps the log that a candidate begins with

  abbrev pub cast : Ghost B → ℕ → ℕ → ℕ → List (Entry B) → (Ghost B)
  cast g i t c log = record g { ballot = upd2 g.ballot i t (Some c); runs = upd2 g.runs t c log }

  module _ (n : ℕ) (g : Ghost B) (ok : GhostOk n g) (i t c : ℕ) (log : List (Entry B)) (free : g.ballot i t ≡ None) (same : g.ballot c t ≡ Some c → log ≡ g.runs t c) where
    pub cast_extends : Extends g (cast g i t c log)
    cast_extends =
        record {
          ballots = λ v u d h.
              ⊎_elim
              (λ e. let h' : g.ballot i t ≡ Some d = subst (λ a. g.ballot a t ≡ Some d) e.0 (subst (λ b. g.ballot v b ≡ Some d) e.1 h) in absurd (cc (h', free)))
              (λ ne. upd2_off g.ballot i t (Some c) v u ne ∙ h)
              (cases2 v i u t);
          owners = λ u d h. h;
          boots_kept = λ u d h. refl;
          runs_kept = λ u d h.
              ⊎_elim
              (λ e.
              let h' : g.ballot c t ≡ Some c = subst (λ a. g.ballot a t ≡ Some a) e.1 (subst (λ b. g.ballot d b ≡ Some d) e.0 h) in
              upd2_at g.runs t c log u d e.0 e.1 ∙ (same h' ∙ sym (ap (λ b. g.runs b d) e.0 ∙ ap (g.runs t) e.1)))
              (λ ne. upd2_off g.runs t c log u d ne)
              (cases2 u t d c);
          ledgers = λ u. begins_self (g.ledger u);
          ackeds = λ v u. omega arith;
          acked_kept = λ v u x d h l. omega arith;
          agreeds = begins_self g.agreed;
        }

    pub cast_apart : (j : ℕ) → (j ≡ i → ⊥) → Apart j g (cast g i t c log)
    cast_apart j ne =
        record {
          ballot_same = λ u. upd2_off g.ballot i t (Some c) j u (λ e e'. ne e);
          acked_same = λ u. omega arith;
          owner_same = λ u h. h;
          ledger_same = λ u h. refl;
        }

    pub cast_now : (cast g i t c log).ballot i t ≡ Some c
    cast_now = upd2_at g.ballot i t (Some c) i t refl refl

    pub cast_runs : (cast g i t c log).runs t c ≡ log
    cast_runs = upd2_at g.runs t c log t c refl refl

    pub cast_later : (u : ℕ) → t < u → g.ballot i u ≡ None → (cast g i t c log).ballot i u ≡ None
    cast_later u lt h = upd2_off g.ballot i t (Some c) i u (λ e e'. omega arith) ∙ h

    pub cast_ok : (self : (g.ballot c t ≡ Some c) ⊎ (c ≡ i)) (sound : Sound g.ledger t log) (fact : g.owner t ≡ None → Fact (cast g i t c log) i t c) → GhostOk n (cast g i t c log)
    cast_ok self sound fact =
        record {
          self_votes = λ v u d h. self_vote v u d h;
          owner_voted = λ u d h. ex.ballots d u d (ok.owner_voted u d h);
          owner_began = λ u d h. subst (λ r. Begins r (g.ledger u)) (sym (ex.runs_kept u d (ok.owner_voted u d h))) (ok.owner_began u d h);
          unowned = ok.unowned;
          won_length = ok.won_length;
          won_majority = ok.won_majority;
          won_votes = λ u d v h w. ex.ballots v u d (ok.won_votes u d v h w);
          won_facts = λ u d v h w. fact_later n g g' ok ex v u d (ok.won_votes u d v h w) (ok.won_facts u d v h w);
          open_facts = λ u d v h b. open_fact u d v h b;
          ledgers = ok.ledgers;
          began = λ u d. began u d;
          acked_in = ok.acked_in;
          agreed_ok = ⊎_elim (λ h. inl h) (λ h. inr (chosen_later n g g' ok ex g.agreed h)) ok.agreed_ok;
        }
      where
        g' : Ghost B
        g' = cast g i t c log

        ex : Extends g g'
        ex = cast_extends

        self_vote : (v u d : ℕ) → g'.ballot v u ≡ Some d → g'.ballot d u ≡ Some d
        self_vote v u d h =
            ⊎_elim
            (λ e.
            let cd : c ≡ d = cc (upd2_at g.ballot i t (Some c) v u e.0 e.1, h) in
            let at : g'.ballot c t ≡ Some c = ⊎_elim (λ s. ex.ballots c t c s) (λ s. upd2_at g.ballot i t (Some c) c t s refl) self in
            subst (λ a. g'.ballot a u ≡ Some a) cd (subst (λ b. g'.ballot c b ≡ Some c) (sym e.1) at))
            (λ ne. ex.ballots d u d (ok.self_votes v u d (sym (upd2_off g.ballot i t (Some c) v u ne) ∙ h)))
            (cases2 v i u t)

        open_fact : (u d v : ℕ) → g.owner u ≡ None → g'.ballot v u ≡ Some d → Fact g' v u d
        open_fact u d v h b =
            ⊎_elim
            (λ e.
            let cd : c ≡ d = cc (upd2_at g.ballot i t (Some c) v u e.0 e.1, b) in
            subst (λ a. Fact g' a u d) (sym e.0) (subst (λ a. Fact g' i a d) (sym e.1) (subst (λ a. Fact g' i t a) cd (fact (subst (λ a. g.owner a ≡ None) e.1 h)))))
            (λ ne.
            let b' : g.ballot v u ≡ Some d = sym (upd2_off g.ballot i t (Some c) v u ne) ∙ b in
            fact_later n g g' ok ex v u d b' (ok.open_facts u d v h b'))
            (cases2 v i u t)

        began : (u d : ℕ) → Sound g.ledger u (g'.runs u d)
        began u d =
            ⊎_elim
            (λ e. subst (λ r. Sound g.ledger u r) (sym (upd2_at g.runs t c log u d e.0 e.1)) (subst (λ a. Sound g.ledger a log) (sym e.0) sound))
            (λ ne. subst (λ r. Sound g.ledger u r) (sym (upd2_off g.runs t c log u d ne)) (ok.began u d))
            (cases2 u t d c)

  -- an election

  abbrev pub elect : Ghost B → ℕ → ℕ → ℕ → List Bool → List (Entry B) → (Ghost B)
  elect g i boot t voters log = record g { owner = upd g.owner t (Some i); boots = upd g.boots t boot; won = upd g.won t voters; ledger = upd g.ledger t log }

  module _ (n : ℕ) (g : Ghost B) (ok : GhostOk n g) (i boot t : ℕ) (voters : List Bool) (log : List (Entry B)) (free : g.owner t ≡ None) where
    pub elect_extends : Extends g (elect g i boot t voters log)
    elect_extends =
        record {
          ballots = λ v u d h. h;
          owners = λ u d h.
              ⊎_elim
              (λ e. let h' : g.owner t ≡ Some d = subst (λ b. g.owner b ≡ Some d) e h in absurd (cc (h', free)))
              (λ ne. upd_off g.owner t (Some i) u ne ∙ h)
              (cases_eq u t);
          boots_kept = λ u d h. upd_off g.boots t boot u (λ e. let h' : g.owner t ≡ Some d = subst (λ b. g.owner b ≡ Some d) e h in absurd (cc (h', free)));
          runs_kept = λ u d h. refl;
          ledgers = λ u.
              ⊎_elim
              (λ e. subst (λ l. Begins l (upd g.ledger t log u)) (sym (ap g.ledger e ∙ ok.unowned t free)) (begins_none _))
              (λ ne. subst (λ l. Begins (g.ledger u) l) (sym (upd_off g.ledger t log u ne)) (begins_self (g.ledger u)))
              (cases_eq u t);
          ackeds = λ v u. omega arith;
          acked_kept = λ v u x d h l. omega arith;
          agreeds = begins_self g.agreed;
        }

    pub elect_apart : (j : ℕ) → (j ≡ i → ⊥) → Apart j g (elect g i boot t voters log)
    elect_apart j ne =
        record {
          ballot_same = λ u. refl;
          acked_same = λ u. omega arith;
          owner_same = λ u h.
              ⊎_elim
              (λ e. let ij : i ≡ j = cc (upd_at g.owner t (Some i) u e, h) in absurd (ne (sym ij)))
              (λ nu. sym (upd_off g.owner t (Some i) u nu) ∙ h)
              (cases_eq u t);
          ledger_same = λ u h. upd_off g.ledger t log u (λ e. let h' : g.owner t ≡ Some j = subst (λ b. g.owner b ≡ Some j) e h in absurd (cc (h', free)));
        }

    pub elect_owner : (elect g i boot t voters log).owner t ≡ Some i
    elect_owner = upd_at g.owner t (Some i) t refl

    pub elect_boots : (elect g i boot t voters log).boots t ≡ boot
    elect_boots = upd_at g.boots t boot t refl

    pub elect_ledger : (elect g i boot t voters log).ledger t ≡ log
    elect_ledger = upd_at g.ledger t log t refl

    pub elect_ok : (self : g.ballot i t ≡ Some i) (runs : g.runs t i ≡ log) (len : length voters ≡ n) (maj : majority n voters ≡ true) (votes : (v : ℕ) → IsIn voters v → g.ballot v t ≡ Some i) → GhostOk n (elect g i boot t voters log)
    elect_ok self runs len maj votes =
        record {
          self_votes = ok.self_votes;
          owner_voted = λ u d h. by_term u d h (λ a b. g.ballot b a ≡ Some b) self (λ o. ok.owner_voted u d o);
          owner_began = λ u d h.
              by_term u d h (λ a b. Begins (g.runs a b) (g'.ledger a))
              (subst (λ l. Begins (g.runs t i) l) (sym elect_ledger) (subst (λ r. Begins (g.runs t i) r) runs (begins_self (g.runs t i))))
              (λ o. begins_trans (g.runs u d) (g.ledger u) (g'.ledger u) (ok.owner_began u d o) (ex.ledgers u));
          unowned = λ u h.
              ⊎_elim
              (λ e. absurd (cc (upd_at g.owner t (Some i) u e, h)))
              (λ ne. upd_off g.ledger t log u ne ∙ ok.unowned u (sym (upd_off g.owner t (Some i) u ne) ∙ h))
              (cases_eq u t);
          won_length = λ u d h.
              ⊎_elim (λ e. ap length (upd_at g.won t voters u e) ∙ len)
              (λ ne. ap length (upd_off g.won t voters u ne) ∙ ok.won_length u d (sym (upd_off g.owner t (Some i) u ne) ∙ h))
              (cases_eq u t);
          won_majority = λ u d h.
              ⊎_elim (λ e. ap (majority n) (upd_at g.won t voters u e) ∙ maj)
              (λ ne. ap (majority n) (upd_off g.won t voters u ne) ∙ ok.won_majority u d (sym (upd_off g.owner t (Some i) u ne) ∙ h))
              (cases_eq u t);
          won_votes = λ u d v h w. (won_both u d v h w).0;
          won_facts = λ u d v h w. (won_both u d v h w).1;
          open_facts = λ u d v h b.
              ⊎_elim
              (λ e. absurd (cc (upd_at g.owner t (Some i) u e, h)))
              (λ ne. fact_later n g g' ok ex v u d b (ok.open_facts u d v (sym (upd_off g.owner t (Some i) u ne) ∙ h) b))
              (cases_eq u t);
          ledgers = λ u.
              ⊎_elim
              (λ e. subst (λ a. Sound g'.ledger a (g'.ledger a)) (sym e) (subst (λ l. Sound g'.ledger t l) (runs ∙ sym elect_ledger) (sound_later g.ledger g'.ledger t (g.runs t i) ex.ledgers (ok.began t i))))
              (λ ne. subst (λ l. Sound g'.ledger u l) (sym (upd_off g.ledger t log u ne)) (sound_later g.ledger g'.ledger u (g.ledger u) ex.ledgers (ok.ledgers u)))
              (cases_eq u t);
          began = λ u d. sound_later g.ledger g'.ledger u (g.runs u d) ex.ledgers (ok.began u d);
          acked_in = λ v u. omega (arith, ok.acked_in v u, begins_length (g.ledger u) (g'.ledger u) (ex.ledgers u));
          agreed_ok = ⊎_elim (λ h. inl h) (λ h. inr (chosen_later n g g' ok ex g.agreed h)) ok.agreed_ok;
        }
      where
        g' : Ghost B
        g' = elect g i boot t voters log

        ex : Extends g g'
        ex = elect_extends

        by_term : (u d : ℕ) → g'.owner u ≡ Some d → (P : ℕ → ℕ → Type 0) → P t i → (g.owner u ≡ Some d → P u d) → P u d
        by_term u d h P here there =
            ⊎_elim
            (λ e. let id : i ≡ d = cc (upd_at g.owner t (Some i) u e, h) in subst (λ b. P u b) id (subst (λ a. P a i) (sym e) here))
            (λ ne. there (sym (upd_off g.owner t (Some i) u ne) ∙ h))
            (cases_eq u t)

        won_both : (u d v : ℕ) → g'.owner u ≡ Some d → IsIn (g'.won u) v → (g.ballot v u ≡ Some d) × Fact g' v u d
        won_both u d v h w =
            ⊎_elim
            (λ e.
            let id : i ≡ d = cc (upd_at g.owner t (Some i) u e, h) in
            let w' : IsIn voters v = subst (λ l. IsIn l v) (upd_at g.won t voters u e) w in
            let here : (g.ballot v t ≡ Some i) × Fact g' v t i = (votes v w', fact_later n g g' ok ex v t i (votes v w') (ok.open_facts t i v free (votes v w'))) in
            subst (λ b. (g.ballot v u ≡ Some b) × Fact g' v u b) id (subst (λ a. (g.ballot v a ≡ Some i) × Fact g' v a i) (sym e) here))
            (λ ne.
            let h' : g.owner u ≡ Some d = sym (upd_off g.owner t (Some i) u ne) ∙ h in
            let w' : IsIn (g.won u) v = subst (λ l. IsIn l v) (upd_off g.won t voters u ne) w in
            (ok.won_votes u d v h' w', fact_later n g g' ok ex v u d (ok.won_votes u d v h' w') (ok.won_facts u d v h' w')))
            (cases_eq u t)

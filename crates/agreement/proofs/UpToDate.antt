-- A log that is at least as up to date as those of a majority holds all that was committed.
use Rattle.std.proofs.Common.{◌≡◌, ℕ, zero, suc, ◌<◌, ◌≤◌, Bool, true, ◌&&◌, ltb, leb, eqb, List, [], ◌∷◌, ⊎_elim, Option, Some, None, length, take, refl, sym, subst, ◌∙◌, arith}
use Rattle.std.proofs.lemmas.Bool.{and_parts, eqb-true, leb-true, ltb-true, or_cases}
use Rattle.raft_log.specs.Lists.{item}
use Rattle.raft_log.specs.declared.entry.Entry.{Entry}
use Rattle.raft_log.specs.Node.{Node}
use Rattle.raft_log.specs.Logs.{last_term, up_to_date}
use Rattle.agreement.specs.World.{Begins}
use Rattle.agreement.specs.Laws.{IsAsUpToDateAs, IsIn, IsMajority, UpToDateHolds, moment}
use Rattle.agreement.proofs.Counts.{majorities_meet}
use Rattle.agreement.proofs.Ghost.{Chosen, Ghost, GhostOk, Good, NodeOk}
use Rattle.agreement.proofs.Holds.{Two, two_moments}
use Rattle.agreement.proofs.Later.{complete}
use Rattle.agreement.proofs.Lists.{begins_either, begins_nil, begins_none, begins_self, begins_shorter, begins_trans, has_entry}

module _ {B : Type 0} where
  -- a place of a set has a node
  node_at : (w : List (Node B)) (vs : List Bool) (v : ℕ) → length vs ≡ length w → IsIn vs v → (u : Node B) × (item w v ≡ Some u)
  node_at w vs zero e h = absurd (cc h)
  node_at [] [] (suc v) e h = absurd (cc h)
  node_at [] (b ∷ vs) (suc v) e h = absurd (omega arith)
  node_at (s ∷ w) [] (suc v) e h = absurd (omega arith)
  node_at (s ∷ w) (b ∷ vs) (suc zero) e h = (s, refl)
  node_at (s ∷ w) (b ∷ vs) (suc (suc v)) e h = node_at w vs (suc v) (omega arith) h

  module _ (n : ℕ) (g : Ghost B) (gok : GhostOk n g) (log : List (Entry B)) (rooted : Begins log (g.ledger (last_term log))) (p : List (Entry B)) (ch : Chosen n g p) where
    -- a log that ends in a later term than the last entry of what was chosen
    by_owner : ch.term < last_term log → (o : Option ℕ) → g.owner (last_term log) ≡ o → Begins p log
    by_owner lt None own =
        absurd (has_entry log (omega arith) (begins_nil log (subst (λ x. Begins log x) (gok.unowned (last_term log) own) rooted)))
    by_owner lt (Some d) own =
        let theirs : Begins p (g.ledger (last_term log)) =
        begins_trans p (g.runs (last_term log) d) (g.ledger (last_term log))
        (complete n g gok p ch (last_term log) (last_term log) d (omega arith) lt own) (gok.owner_began (last_term log) d own) in
        ⊎_elim (λ h. h)
        (λ h. let low : last_term log ≤ ch.term = (gok.ledgers ch.term).upto log (begins_trans log p (g.ledger ch.term) h ch.of_ledger) in absurd (omega arith))
        (begins_either p log (g.ledger (last_term log)) theirs rooted)

    -- it is at least as up to date as a log that begins so
    by_node : (other : List (Entry B)) → Begins other (g.ledger (last_term other)) → Begins p other
        → up_to_date (last_term log) (length log) (last_term other) (length other) ≡ true → Begins p log
    by_node other other_rooted mine good =
        let low : last_term p ≤ last_term other = (gok.ledgers (last_term other)).upto p (begins_trans p other (g.ledger (last_term other)) mine other_rooted) in
        let ends : last_term p ≡ ch.term = ch.ends in
        ⊎_elim
        (λ later. let lt : last_term other < last_term log = ltb-true (last_term other) (last_term log) later in by_owner (omega arith) (g.owner (last_term log)) refl)
        (λ same. by_length (and_parts (eqb (last_term log) (last_term other)) (leb (length other) (length log)) same))
        (or_cases (ltb (last_term other) (last_term log)) (eqb (last_term log) (last_term other) && leb (length other) (length log)) good)
      where
        by_length : ((eqb (last_term log) (last_term other) ≡ true) × (leb (length other) (length log) ≡ true)) → Begins p log
        by_length h =
            let e : last_term log ≡ last_term other = eqb-true (last_term log) (last_term other) h.0 in
            let le : length other ≤ length log = leb-true (length other) (length log) h.1 in
            begins_trans p other log mine
            (begins_shorter other log (g.ledger (last_term log)) (subst (λ x. Begins other (g.ledger x)) (sym e) other_rooted) rooted le)

  -- what was chosen is in it: a node of the set is one of the majority that chose it
  chosen_in : (n : ℕ) (g : Ghost B) (w : List (Node B)) (good : Good n g w) (b : ℕ) (t : Node B) (set : List Bool) → item w b ≡ Some t → IsMajority n set → IsAsUpToDateAs set w t.log
      → (p : List (Entry B)) → Chosen n g p → Begins p t.log
  chosen_in n g w good b t set at enough most p ch =
      let m = majorities_meet n ch.who set (ch.who_length, ch.who_majority) enough in
      let here = node_at w ch.who m.0 (ch.who_length ∙ sym good.size) m.1 in
      let ok : NodeOk n g m.0 here.0 = good.nodes m.0 here.0 here.1 in
      let mine : Begins p here.0.log =
      ok.keeps ch.term p ch.of_ledger (ch.who_acked m.0 m.1)
      (record { by = λ x d lt below own. complete n g good.ghost_ok p ch x x d (omega arith) lt own }) in
      by_node n g good.ghost_ok t.log ((good.nodes b t at).log_ok.rooted t.log (begins_self t.log)) p ch here.0.log (ok.log_ok.rooted here.0.log (begins_self here.0.log)) mine (most m.0 here.0 m.2 here.1)

  agreed_in : (n : ℕ) (g : Ghost B) (w : List (Node B)) (good : Good n g w) (b : ℕ) (t : Node B) (set : List Bool) → item w b ≡ Some t → IsMajority n set → IsAsUpToDateAs set w t.log
      → Begins g.agreed t.log
  agreed_in n g w good b t set at enough most =
      ⊎_elim
      (λ e. subst (λ z. Begins z t.log) (sym e) (begins_none t.log))
      (λ ch. chosen_in n g w good b t set at enough most g.agreed ch)
      good.ghost_ok.agreed_ok

  pub up_to_date_holds : (blank : B) → UpToDateHolds B blank
  up_to_date_holds blank size es j k a b s t set le at_s at_t enough most =
      let m : Two size (moment blank size es j) (moment blank size es k) = two_moments blank size es j k le in
      begins_trans (take s.commit s.log) m.first.agreed t.log (m.first_good.nodes a s at_s).commit_ok
      (begins_trans m.first.agreed m.second.agreed t.log m.more.agreeds (agreed_in size m.second _ m.second_good b t set at_t enough most))

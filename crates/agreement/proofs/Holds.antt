-- The laws over moments.
use Rattle.std.proofs.Common.{◌≡◌, ℕ, zero, suc, ◌-◌, ◌≤◌, ltb, List, [], ◌∷◌, ◌++◌, ◌⊎◌, inl, inr, ⊎_elim, Some, length, take, drop, refl, sym, ap, subst, ◌∙◌, arith}
use Rattle.std.proofs.lemmas.Bool.{cond_both, ltb-true, ltb-false, cases_lt}
use Rattle.raft_log.specs.Lists.{item}
use Rattle.raft_log.specs.declared.entry.Entry.{Entry}
use Rattle.raft_log.specs.declared.role.Role.TheVariants.{Leader}
use Rattle.raft_log.specs.Node.{Node}
use Rattle.raft_log.specs.Logs.{term_at}
use Rattle.agreement.specs.World.{Event, happens, run, start, committed, Begins}
use Rattle.agreement.specs.Laws.{moment, longer, longest_now, longest_over, agreed, OneList, InAgreed, AgreedGrows, OneLeader, OneRun, OneVote, LogsMatch, LeadersHold}
use Rattle.agreement.proofs.Lists.{begins_none, begins_trans, begins_shorter, begins_either, begins_take, length_take}
use Rattle.agreement.proofs.Repairs.{same_front}
use Rattle.agreement.proofs.Ghost.{Ghost, Sound, RoleOk, LeaderOk, NodeOk, Good, GhostOk, Held}
use Rattle.agreement.proofs.Later.{Extends, extends_on, sound_later, held_later, complete}
use Rattle.agreement.proofs.Headline.{Goes, goes_stay, run_goes, run_append, before, start_good, committed_ok}

module _ {B : Type 0} where
  -- two moments, with what is known at each: the second goes on from the first
  pub record Two (size : ℕ) (u v : List (Node B)) : Type 0 where
    pub first : Ghost B
    pub second : Ghost B
    pub first_good : Good size first u
    pub second_good : Good size second v
    pub more : Extends first second

  take_none : (i : ℕ) → take {A = (Event B)} i [] ≡ []
  take_none zero = refl
  take_none (suc i) = refl

  take_later : (es : List (Event B)) (j k : ℕ) → j ≤ k → take k es ≡ take j es ++ take (k - j) (drop j es)
  take_later es zero k le = ap (λ i. take i es) (omega arith)
  take_later [] (suc j) k le = take_none k ∙ sym (take_none (k - suc j))
  take_later (e ∷ es) (suc j) zero le = absurd (omega arith)
  take_later (e ∷ es) (suc j) (suc k) le =
      let same : k - j ≡ suc k - suc j = omega arith in
      ap (λ z. e ∷ z) (take_later es j k (omega arith) ∙ ap (λ i. take j es ++ take i (drop j es)) same)

  pub two_moments : (blank : B) (size : ℕ) (es : List (Event B)) (j k : ℕ) → j ≤ k → Two size (moment blank size es j) (moment blank size es k)
  two_moments blank size es j k le =
      let one : Goes before (moment blank size es j) size = run_goes blank size (take j es) before (start size) (start_good size) in
      let late : List (Event B) = take (k - j) (drop j es) in
      let two : Goes one.after (run blank late (moment blank size es j)) size = run_goes blank size late one.after (moment blank size es j) one.good in
      let here : run blank late (moment blank size es j) ≡ moment blank size es k =
      sym (run_append blank (take j es) late (start size)) ∙ ap (λ l. run blank l (start size)) (sym (take_later es j k le)) in
      record { first = one.after; second = two.after; first_good = one.good; second_good = subst (λ w. Good size two.after w) here two.good; more = two.more }

  -- one list

  pub one_list : (blank : B) → OneList B blank
  one_list blank size es j k a b =
      ⊎_elim (λ lt. pair j k (omega arith) a b)
      (λ ge. ⊎_elim (λ x. inr x) (λ x. inl x) (pair k j ge b a))
      (cases_lt j k)
    where
      pair : (j k : ℕ) → j ≤ k → (a b : ℕ) → Begins (committed (moment blank size es j) a) (committed (moment blank size es k) b) ⊎ Begins (committed (moment blank size es k) b) (committed (moment blank size es j) a)
      pair j k le a b =
          let t : Two size (moment blank size es j) (moment blank size es k) = two_moments blank size es j k le in
          begins_either _ _ t.second.agreed
          (begins_trans _ t.first.agreed t.second.agreed (committed_ok size t.first _ a t.first_good) t.more.agreeds)
          (committed_ok size t.second _ b t.second_good)

  -- the agreed list
  -- what every node commits, at every moment, begins this list
  abbrev WithinNow : List (Entry B) → List (Node B) → Type 0
  WithinNow l w = (a : ℕ) → Begins (committed w a) l

  abbrev Within : (blank : B) → List (Entry B) → List (Event B) → List (Node B) → Type 0
  Within blank l [] w = WithinNow l w
  Within blank l (e ∷ es) w = WithinNow l w × Within blank l es (happens blank w e)

  within_more : (blank : B) (l m : List (Entry B)) → Begins l m → (es : List (Event B)) (w : List (Node B)) → Within blank l es w → Within blank m es w
  within_more blank l m b [] w h = λ a. begins_trans _ l m (h a) b
  within_more blank l m b (e ∷ es) w h = ((λ a. begins_trans _ l m (h.0 a) b), within_more blank l m b es (happens blank w e) h.1)

  within_append : (blank : B) (l : List (Entry B)) (es fs : List (Event B)) (w : List (Node B)) → Within blank l es w → Within blank l fs (run blank es w) → Within blank l (es ++ fs) w
  within_append blank l [] fs w a b = b
  within_append blank l (e ∷ es) fs w a b = (a.0, within_append blank l es fs (happens blank w e) a.1 b)

  record Known (blank : B) (g : Ghost B) (es : List (Event B)) (w : List (Node B)) (n : ℕ) : Type 0 where
    goes : Goes g (run blank es w) n
    within : Within blank goes.after.agreed es w

  known : (blank : B) (n : ℕ) (es : List (Event B)) (g : Ghost B) (w : List (Node B)) → Good n g w → Known blank g es w n
  known blank n [] g w good = record { goes = goes_stay g w n good; within = λ a. committed_ok n g w a good }
  known blank n (e ∷ es) g w good =
      let one : Goes g (happens blank w e) n = run_goes blank n (e ∷ []) g w good in
      let rest : Known blank one.after es (happens blank w e) n = known blank n es one.after (happens blank w e) one.good in
      let up : Extends g rest.goes.after = extends_on g one.after rest.goes.after one.more rest.goes.more in
      record {
        goes = record { after = rest.goes.after; good = rest.goes.good; more = up };
        within = ((λ a. begins_trans _ g.agreed rest.goes.after.agreed (committed_ok n g w a good) up.agreeds), rest.within);
      }

  longer_in : (xs ys l : List (Entry B)) → Begins xs l → Begins ys l → Begins (longer xs ys) l
  longer_in xs ys l a b = cond_both (ltb (length xs) (length ys)) ys xs (λ z. Begins z l) (λ h. b) (λ h. a)

  longer_left : (xs ys : List (Entry B)) → length xs ≤ length (longer xs ys)
  longer_left xs ys = cond_both (ltb (length xs) (length ys)) ys xs (λ z. length xs ≤ length z) (λ h. omega (arith, ltb-true (length xs) (length ys) h)) (λ h. omega arith)

  longer_right : (xs ys : List (Entry B)) → length ys ≤ length (longer xs ys)
  longer_right xs ys = cond_both (ltb (length xs) (length ys)) ys xs (λ z. length ys ≤ length z) (λ h. omega arith) (λ h. ltb-false (length xs) (length ys) h)

  longest_now_in : (l : List (Entry B)) (w : List (Node B)) → WithinNow l w → Begins (longest_now w) l
  longest_now_in l [] h = begins_none l
  longest_now_in l (s ∷ w) h = longer_in (take s.commit s.log) (longest_now w) l (h 1) (longest_now_in l w (λ a. later a))
    where
      later : (a : ℕ) → Begins (committed w a) l
      later zero = begins_none l
      later (suc a) = h (suc (suc a))

  longest_in : (blank : B) (l : List (Entry B)) (es : List (Event B)) (w : List (Node B)) → Within blank l es w → Begins (longest_over blank es w) l
  longest_in blank l [] w h = longest_now_in l w h
  longest_in blank l (e ∷ es) w h = longer_in (longest_now w) (longest_over blank es (happens blank w e)) l (longest_now_in l w h.0) (longest_in blank l es (happens blank w e) h.1)

  longest_now_length : (w : List (Node B)) (a : ℕ) → length (committed w a) ≤ length (longest_now w)
  longest_now_length w zero = omega arith
  longest_now_length [] (suc a) = omega arith
  longest_now_length (s ∷ w) (suc zero) = longer_left (take s.commit s.log) (longest_now w)
  longest_now_length (s ∷ w) (suc (suc a)) = omega (arith, longest_now_length w (suc a), longer_right (take s.commit s.log) (longest_now w))

  longest_over_now : (blank : B) (es : List (Event B)) (w : List (Node B)) → length (longest_now w) ≤ length (longest_over blank es w)
  longest_over_now blank [] w = omega arith
  longest_over_now blank (e ∷ es) w = longer_left (longest_now w) (longest_over blank es (happens blank w e))

  longest_length : (blank : B) (es : List (Event B)) (w : List (Node B)) (k a : ℕ) → length (committed (run blank (take k es) w) a) ≤ length (longest_over blank es w)
  longest_length blank es w zero a = omega (arith, longest_now_length w a, longest_over_now blank es w)
  longest_length blank [] w (suc k) a = longest_now_length w a
  longest_length blank (e ∷ es) w (suc k) a = omega (arith, longest_length blank es (happens blank w e) k a, longer_right (longest_now w) (longest_over blank es (happens blank w e)))

  longest_more : (blank : B) (es fs : List (Event B)) (w : List (Node B)) → length (longest_over blank es w) ≤ length (longest_over blank (es ++ fs) w)
  longest_more blank [] fs w = longest_over_now blank fs w
  longest_more blank (e ∷ es) fs w =
      cond_both (ltb (length (longest_now w)) (length (longest_over blank es (happens blank w e)))) (longest_over blank es (happens blank w e)) (longest_now w) (λ z. length z ≤ length (longer (longest_now w) (longest_over blank (es ++ fs) (happens blank w e))))
      (λ h. omega (arith, longest_more blank es fs (happens blank w e), longer_right (longest_now w) (longest_over blank (es ++ fs) (happens blank w e))))
      (λ h. longer_left (longest_now w) (longest_over blank (es ++ fs) (happens blank w e)))

  within_at : (blank : B) (l : List (Entry B)) (es : List (Event B)) (w : List (Node B)) (k a : ℕ) → Within blank l es w → Begins (committed (run blank (take k es) w) a) l
  within_at blank l [] w zero a h = h a
  within_at blank l [] w (suc k) a h = h a
  within_at blank l (e ∷ es) w zero a h = h.0 a
  within_at blank l (e ∷ es) w (suc k) a h = within_at blank l es (happens blank w e) k a h.1

  pub in_agreed : (blank : B) → InAgreed B blank
  in_agreed blank size es k a =
      let all : Known blank before es (start size) size = known blank size es before (start size) (start_good size) in
      begins_shorter _ (agreed blank size es) all.goes.after.agreed
      (within_at blank _ es (start size) k a all.within)
      (longest_in blank _ es (start size) all.within)
      (longest_length blank es (start size) k a)

  pub agreed_grows : (blank : B) → AgreedGrows B blank
  agreed_grows blank size early late =
      let one : Known blank before early (start size) size = known blank size early before (start size) (start_good size) in
      let two : Known blank one.goes.after late (run blank early (start size)) size = known blank size late one.goes.after (run blank early (start size)) one.goes.good in
      let l : List (Entry B) = two.goes.after.agreed in
      let within : Within blank l early (start size) = within_more blank one.goes.after.agreed l two.goes.more.agreeds early (start size) one.within in
      begins_shorter (agreed blank size early) (agreed blank size (early ++ late)) l
      (longest_in blank l early (start size) within)
      (longest_in blank l (early ++ late) (start size) (within_append blank l early late (start size) within two.within))
      (longest_more blank early late (start size))

  -- leaders, votes, logs

  leading : (n : ℕ) (g : Ghost B) (i : ℕ) (s : Node B) → NodeOk n g i s → s.role ≡ Leader → LeaderOk n g i s.boot s.term s.log s.next s.matched
  leading n g i s ok h = subst (λ r. RoleOk n g i r s.boot s.term s.vote s.log s.voters s.next s.matched) h ok.role_ok

  leads : (n : ℕ) (g : Ghost B) (i : ℕ) (s : Node B) → NodeOk n g i s → s.role ≡ Leader → g.owner s.term ≡ Some i
  leads n g i s ok h = (leading n g i s ok h).owner

  pub one_run : (blank : B) → OneRun B blank
  one_run blank size es j k a b s t at_s at_t ls lt same =
      ⊎_elim (λ h. pair j k (omega arith) a b s t at_s at_t ls lt same) (λ h. sym (pair k j h b a t s at_t at_s lt ls (sym same))) (cases_lt j k)
    where
      pair : (j k : ℕ) → j ≤ k → (a b : ℕ) (s t : Node B) → item (moment blank size es j) a ≡ Some s → item (moment blank size es k) b ≡ Some t → s.role ≡ Leader → t.role ≡ Leader → s.term ≡ t.term → s.boot ≡ t.boot
      pair j k le a b s t at_s at_t ls lt same =
          let w : Two size (moment blank size es j) (moment blank size es k) = two_moments blank size es j k le in
          let x = leading size w.first a s (w.first_good.nodes a s at_s) ls in
          let y = leading size w.second b t (w.second_good.nodes b t at_t) lt in
          sym x.boot_is ∙ (sym (w.more.boots_kept s.term a x.owner) ∙ (ap (λ u. w.second.boots u) same ∙ y.boot_is))

  pub one_leader : (blank : B) → OneLeader B blank
  one_leader blank size es j k a b s t at_s at_t ls lt same =
      ⊎_elim (λ h. pair j k (omega arith) a b s t at_s at_t ls lt same) (λ h. sym (pair k j h b a t s at_t at_s lt ls (sym same))) (cases_lt j k)
    where
      pair : (j k : ℕ) → j ≤ k → (a b : ℕ) (s t : Node B) → item (moment blank size es j) a ≡ Some s → item (moment blank size es k) b ≡ Some t → s.role ≡ Leader → t.role ≡ Leader → s.term ≡ t.term → a ≡ b
      pair j k le a b s t at_s at_t ls lt same =
          let w : Two size (moment blank size es j) (moment blank size es k) = two_moments blank size es j k le in
          let x : w.second.owner s.term ≡ Some a = w.more.owners s.term a (leads size w.first a s (w.first_good.nodes a s at_s) ls) in
          let y : w.second.owner s.term ≡ Some b = subst (λ u. w.second.owner u ≡ Some b) (sym same) (leads size w.second b t (w.second_good.nodes b t at_t) lt) in
          cc (x, y)

  pub one_vote : (blank : B) → OneVote B blank
  one_vote blank size es j k a c s t le at_s at_t voted same =
      let w : Two size (moment blank size es j) (moment blank size es k) = two_moments blank size es j k le in
      let x : w.second.ballot a s.term ≡ Some c = w.more.ballots a s.term c ((w.first_good.nodes a s at_s).vote_now ∙ voted) in
      sym ((w.second_good.nodes a t at_t).vote_now) ∙ subst (λ u. w.second.ballot a u ≡ Some c) same x

  pub logs_match : (blank : B) → LogsMatch B blank
  logs_match blank size es j k a b p s t at_s at_t ps pt same =
      ⊎_elim (λ h. pair j k (omega arith) a b s t at_s at_t ps pt same) (λ h. sym (pair k j h b a t s at_t at_s pt ps (sym same))) (cases_lt j k)
    where
      pair : (j k : ℕ) → j ≤ k → (a b : ℕ) (s t : Node B) → item (moment blank size es j) a ≡ Some s → item (moment blank size es k) b ≡ Some t → p ≤ length s.log → p ≤ length t.log → term_at s.log p ≡ term_at t.log p → take p s.log ≡ take p t.log
      pair j k le a b s t at_s at_t ps pt same =
          let w : Two size (moment blank size es j) (moment blank size es k) = two_moments blank size es j k le in
          let x : Sound w.second.ledger s.term s.log = sound_later w.first.ledger w.second.ledger s.term s.log w.more.ledgers (w.first_good.nodes a s at_s).log_ok in
          let y : Sound w.second.ledger t.term t.log = (w.second_good.nodes b t at_t).log_ok in
          same_front w.second.ledger s.term t.term s.log t.log (take p s.log) (take p t.log) x y (begins_take p s.log) (begins_take p t.log) same (length_take p s.log ps ∙ sym (length_take p t.log pt))

  -- leaders hold what was committed

  pub leaders_hold : (blank : B) → LeadersHold B blank
  leaders_hold blank size es j k a b s t at_s at_t lead lt =
      ⊎_elim (λ h. after (two_moments blank size es j k (omega arith))) (λ h. before_it (two_moments blank size es k j h)) (cases_lt j k)
    where
      in_run : (g : Ghost B) → GhostOk size g → Held size g s.term (take s.commit s.log) → g.owner t.term ≡ Some b → Begins (take s.commit s.log) (g.runs t.term b)
      in_run g gok held own =
          ⊎_elim
          (λ e. subst (λ z. Begins z (g.runs t.term b)) (sym e) (begins_none (g.runs t.term b)))
          (λ h. begins_trans _ h.whole _ h.front (complete size g gok h.whole h.chosen t.term t.term b (omega arith) (omega (arith, h.low)) own))
          held

      in_log : (g : Ghost B) → GhostOk size g → NodeOk size g b t → Begins (g.runs t.term b) t.log
      in_log g gok ok =
          let l = leading size g b t ok lead in
          subst (λ z. Begins (g.runs t.term b) z) l.log_is (gok.owner_began t.term b l.owner)

      after : Two size (moment blank size es j) (moment blank size es k) → Begins (take s.commit s.log) t.log
      after w =
          let held : Held size w.second s.term (take s.commit s.log) = held_later size w.first w.second w.first_good.ghost_ok w.more s.term _ (w.first_good.nodes a s at_s).commit_held in
          let ok : NodeOk size w.second b t = w.second_good.nodes b t at_t in
          begins_trans _ _ t.log (in_run w.second w.second_good.ghost_ok held (leads size w.second b t ok lead)) (in_log w.second w.second_good.ghost_ok ok)

      before_it : Two size (moment blank size es k) (moment blank size es j) → Begins (take s.commit s.log) t.log
      before_it w =
          let ok : NodeOk size w.first b t = w.first_good.nodes b t at_t in
          let own : w.first.owner t.term ≡ Some b = leads size w.first b t ok lead in
          let same : w.second.runs t.term b ≡ w.first.runs t.term b = w.more.runs_kept t.term b (w.first_good.ghost_ok.owner_voted t.term b own) in
          begins_trans _ _ t.log
          (subst (λ z. Begins (take s.commit s.log) z) same (in_run w.second w.second_good.ghost_ok (w.second_good.nodes a s at_s).commit_held (w.more.owners t.term b own)))
          (in_log w.first w.first_good.ghost_ok ok)

-- A node that was just elected leads the nodes of the majority, and so does one that took one more body.
use Rattle.std.proofs.Common.{◌≡◌, ℕ, suc, ◌≤◌, Bool, true, false, List, [], ◌∷◌, ◌++◌, length, replicate, take, drop, Some, refl, sym, ap, subst, ◌∙◌, arith, inl, inr, ⊎_elim, length-append, take-append-drop}
use Rattle.std.proofs.lemmas.List.{take-append-le}
use Rattle.std.proofs.Math.Seq.{take-length}
use Rattle.std.proofs.Math.ListN.{length-replicate}
use Rattle.std.proofs.lemmas.Bool.{cases_lt, cases_eq, true≢false}
use Rattle.raft_log.specs.declared.entry.Entry.{Entry}
use Rattle.raft_log.specs.Lists.{item, item_or, with_item}
use Rattle.raft_log.specs.Logs.{last_term, term_at}
use Rattle.raft_log.specs.Node.{Node}
use Rattle.raft_node.specs.Machine.{Machine}
use Rattle.agreement.specs.World.{Begins}
use Rattle.agreement.specs.Laws.{IsIn, IsMajority}
use Rattle.raft_node.proofs.Items.{length-with_item}
use Rattle.agreement.proofs.Lists.{begins_length, begins_none, length_take, last_term_push}
use Rattle.world_run.specs.World.{World}
use Rattle.progress.specs.Plans.{greatest_term, peers}
use Rattle.progress.specs.Laws.{boot_of}
use Rattle.progress.proofs.Places.{item_replicate, written_here}
use Rattle.progress.proofs.Members.{Among, in_bounds, all_peers}
use Rattle.progress.proofs.Voting.{voted, majority_grows, one_is_few}
use Rattle.progress.proofs.Alike.{AreAlike, Has, front_is}
use Rattle.progress.proofs.Sane.{Sane}
use Rattle.progress.proofs.Appending.{Follows, Leading, Linked}
use Rattle.progress.proofs.Electing.{term_within, MayLead, Elected}
use Rattle.progress.proofs.Settling.{Led, stood_raised}
use Rattle.progress.proofs.Confirming.{Caught, Nothing}

pub peers_some : (set : List Bool) (n c : ℕ) → 2 ≤ n → IsMajority n set → IsIn set c → peers set c ≡ [] → ⊥
peers_some set n c two most in_c none =
    true≢false
    (sym (majority_grows n set (with_item (replicate n false) c true)
    (most.0 ∙ sym (length-with_item (replicate n false) c true ∙ length-replicate n false))
    (λ k in_k. ⊎_elim
    (λ e. subst (λ z. IsIn (with_item (replicate n false) c true) z) (sym e) (written_here (replicate n false) c true false b.0 (omega (arith, length-replicate {A = Bool} n false, b.1, most.0))))
    (λ ne. let a : Among k [] = subst (λ z. Among k z) none (all_peers set c k in_k ne) in absurd a) (cases_eq k c))
    most.1)
    ∙ one_is_few n c two b.0)
  where
    b : (1 ≤ c) × (c ≤ length set)
    b = in_bounds set c in_c

module _ {B : Type 0} (P L : List (Entry B)) (e : Entry B) where
  longer : length (L ++ e ∷ []) ≡ suc (length L)
  longer = let r = length-append L (e ∷ []) in omega arith

  -- a log that agrees with the shorter one, and has no entry of this term there
  pub alike_longer : AreAlike P L → ((p : ℕ) → term_at P p ≡ e.term → ⊥) → AreAlike P (L ++ e ∷ [])
  alike_longer alike other p in_p in_l same =
      ⊎_elim
      (λ le.
      let cut : take p (L ++ e ∷ []) ≡ take p L = take-append-le p L (e ∷ []) le in
      alike p in_p le (same ∙ ap last_term cut) ∙ sym cut)
      (λ gt.
      let all : take p (L ++ e ∷ []) ≡ L ++ e ∷ [] = ap (λ z. take z (L ++ e ∷ [])) (let r = longer in let q : p ≡ length (L ++ e ∷ []) = omega arith in q) ∙ take-length (L ++ e ∷ []) in
      absurd (other p (same ∙ (ap last_term all ∙ last_term_push L e))))
      (⊎_elim (λ lt. inr lt) (λ le. inl le) (cases_lt (length L) p))

  pub not_longer : ((p : ℕ) → term_at P p ≡ e.term → ⊥) → Begins (L ++ e ∷ []) P → ⊥
  not_longer other b = other (length (L ++ e ∷ [])) (ap last_term (front_is (L ++ e ∷ []) P b) ∙ last_term_push L e)

  pub has_in_longer : (q : ℕ) → q ≤ length L → Has q P L → Has q P (L ++ e ∷ [])
  has_in_longer q le h = subst (λ z. Begins z P) (sym (take-append-le q L (e ∷ []) le)) h

pub some_new : {B : Type 0} (L : List (Entry B)) (e : Entry B) → 1 ≤ length (L ++ e ∷ [])
some_new L e = let r = length-append L (e ∷ []) in omega arith

-- what was committed is the front of the other log
pub committed_front : {B : Type 0} (P L : List (Entry B)) (k : ℕ) → k ≤ length P → Begins (take k P) L → (k ≤ length L) × Has k P L
committed_front P L k le h =
    let n : length (take k P) ≡ k = length_take k P le in
    let same : take k L ≡ take k P = ap (λ z. take z L) (sym n) ∙ front_is (take k P) L h in
    (omega (arith, begins_length (take k P) L h), subst (λ z. Begins z P) (sym same) (drop k P, take-append-drop k P))

module _ (M : Machine) (set : List Bool) (n c : ℕ) (w : World M) (s : Node M.Body) (may : MayLead M set n c w s) (sane : Sane n w) (v : World M) (won : Elected M set n c w s may v) where
  abbrev pub new_term : ℕ
  new_term = suc (greatest_term w)

  abbrev pub first_entry : Entry M.Body
  first_entry = record { term = suc (greatest_term w); body = M.blank }

  abbrev pub new_log : List (Entry M.Body)
  new_log = s.log ++ first_entry ∷ []

  abbrev pub boots_now : ℕ → ℕ
  boots_now j = boot_of (item v j)

  below : (a p : ℕ) (u : Node M.Body) → item w a ≡ Some u → term_at u.log p ≡ suc (greatest_term w) → ⊥
  below a p u at e = absurd (omega (arith, sane.terms a p u at, term_within w a u at))

  follows_new : (j : ℕ) (u : Node M.Body) → item w j ≡ Some u → item v j ≡ Some (voted new_term c j u) → Follows new_term new_log (boots_now j) (length s.log) (voted new_term c j u)
  follows_new j u at there =
      record {
        term_is = refl;
        role_is = refl;
        boot_is = sym (ap boot_of there);
        applied_in = omega (arith, sane.applied_in j u at, front.0);
        alike = alike_longer u.log s.log first_entry (sane.alike j c u s at may.at) (λ p e. below j p u at e);
        short = λ b. absurd (not_longer u.log s.log first_entry (λ p e. below j p u at e) b);
        commit_in = let r = length-append s.log (first_entry ∷ []) in omega (arith, front.0);
        commit_has = has_in_longer u.log s.log first_entry u.commit front.0 front.1;
      }
    where
      front : (u.commit ≤ length s.log) × Has u.commit u.log s.log
      front = committed_front u.log s.log u.commit (sane.commit_in j u at) (sane.holds set j c u s at may.at may.most may.good)

  leading_new : Leading n new_term new_log (boots_now c) (length s.log) won.leader
  leading_new =
      record {
        role_is = won.leads.role_is;
        term_is = won.leads.term_is;
        boot_is = sym (ap boot_of won.at);
        applied_in = won.leads.applied_in;
        log_is = won.leads.log_is;
        commit_in = let r = length-append s.log (first_entry ∷ []) in omega (arith, won.leads.commit_in);
        next_long = ap length won.leads.next_is ∙ length-replicate n (suc (length s.log));
        matched_long = ap length won.leads.matched_is ∙ length-replicate n 0;
      }

  linked_new : (j : ℕ) → IsIn set j → (P : List (Entry M.Body)) → Linked new_log (item_or won.leader.next j 0) (item_or won.leader.matched j 0) P
  linked_new j in_j P =
      record {
        next_low = omega (arith, next_now);
        next_high = let r = length-append s.log (first_entry ∷ []) in omega (arith, next_now);
        matched_in = omega (arith, matched_now);
        matched_has = subst (λ z. Has z P new_log) (sym matched_now) (begins_none P);
      }
    where
      b : (1 ≤ j) × (j ≤ length set)
      b = in_bounds set j in_j

      next_now : item_or won.leader.next j 0 ≡ suc (length s.log)
      next_now = ap (λ z. item_or z j 0) won.leads.next_is ∙ item_replicate n j (suc (length s.log)) 0 b.0 (omega (arith, b.1, may.most.0))

      matched_now : item_or won.leader.matched j 0 ≡ 0
      matched_now = ap (λ z. item_or z j 0) won.leads.matched_is ∙ item_replicate n j 0 0 b.0 (omega (arith, b.1, may.most.0))

  abbrev OfCaught : ℕ → ℕ → ℕ → Node M.Body → Type 0
  OfCaught j next matched t = Caught M set n c new_term new_log boots_now (length s.log) may.most may.in_set (last_term_push s.log first_entry) (some_new s.log first_entry) (peers set c) j next matched t

  pub reigns : Led M set n c new_term new_log boots_now (length s.log) (Caught M set n c new_term new_log boots_now (length s.log) may.most may.in_set (last_term_push s.log first_entry) (some_new s.log first_entry) (peers set c)) (Nothing M set n c new_term new_log boots_now (length s.log) may.most may.in_set (last_term_push s.log first_entry) (some_new s.log first_entry)) v
  reigns =
      record {
        long = won.long;
        leader = won.leader;
        at = won.at;
        leading = leading_new;
        nodes = λ j in_j ne.
            let r = won.joined j in_j ne in (
              voted new_term c j r.0,
              r.2,
              stood_raised M set n c new_term new_log boots_now (length s.log) OfCaught j (item_or won.leader.next j 0) (item_or won.leader.matched j 0) (voted new_term c j r.0)
                  (record {
                    follows = follows_new j r.0 r.1 r.2;
                    linked = linked_new j in_j r.0.log;
                    more = λ apart. absurd (apart (all_peers set c j in_j ne));
                  }),
            );
        more = tt;
      }

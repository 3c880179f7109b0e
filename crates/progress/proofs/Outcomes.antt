-- The result of an exchange between a leader and a node that follows.
use Rattle.std.proofs.Common.{◌≡◌, ℕ, zero, suc, pred, ◌+◌, ◌-◌, ◌<◌, ◌≤◌, Bool, true, false, leb, min, max, List, length, map, Some, refl, sym, ap, subst, ◌∙◌, arith, inl, inr, ⊎_elim}
use Rattle.std.proofs.Math.Seq.{take-length}
use Rattle.std.proofs.lemmas.Bool.{eq-eqb, le-leb, cases_lt, cases_eq, true≢false}
use Rattle.raft_log.specs.declared.entry.Entry.{Entry}
use Rattle.raft_log.specs.Batches.{batch_limit}
use Rattle.raft_log.specs.Lists.{item_or, with_item}
use Rattle.raft_log.specs.Logs.{last_term, term_at, has_term, agrees_at}
use Rattle.raft_log.specs.Node.{Node}
use Rattle.raft_log.specs.Votes.{majority}
use Rattle.replication.specs.Replication.{with_match, advanced}
use Rattle.raft_node.proofs.Items.{length-with_item}
use Rattle.agreement.specs.Laws.{IsIn, IsMajority}
use Rattle.progress.proofs.Places.{written_here, written_else}
use Rattle.progress.proofs.Members.{in_bounds}
use Rattle.progress.proofs.Voting.{both_true, majority_grows}
use Rattle.progress.proofs.Alike.{Has, has_less, has_agrees, piece_length, up_to_in, up_to, taken_has, taken_keeps}
use Rattle.progress.proofs.Appending.{place_within, place_stuck, place_full, map_length, is_in_map, Follows, Leading, Linked, Done, Near, takes_it, takes_follows, declines_it, declines_follows}

suc_pred : (x : ℕ) → 1 ≤ x → x ≡ suc (pred x)
suc_pred zero h = absurd (omega arith)
suc_pred (suc x) h = refl

module _ {B : Type 0} where
  -- what an exchange leaves of the leader and of the node
  pub record Outcome (set : List Bool) (n c j T : ℕ) (L : List (Entry B)) (b_c b_j most : ℕ) (s t s' t' : Node B) : Type 0 where
    pub leading : Leading n T L b_c most s'
    pub follows : Follows T L b_j most t'
    pub linked : Linked L (item_or s'.next j 0) (item_or s'.matched j 0) t'.log
    pub near : (k : ℕ) → Near (suc k) L (item_or s.next j 0) (item_or s.matched j 0) t.log → Near k L (item_or s'.next j 0) (item_or s'.matched j 0) t'.log
    pub next_else : (i : ℕ) → (i ≡ j → ⊥) → item_or s'.next i 0 ≡ item_or s.next i 0
    pub matched_else : (i : ℕ) → (i ≡ j → ⊥) → item_or s'.matched i 0 ≡ item_or s.matched i 0
    pub commits : ((i : ℕ) → IsIn set i → (i ≡ c → ⊥) → length L ≤ item_or s.matched i 0) → s'.commit ≡ length L
    pub stays : s.commit ≡ length L → s'.commit ≡ length L
    pub tells : Done L (item_or s.next j 0) (item_or s.matched j 0) → s.commit ≡ length L → t'.commit ≡ length L
    pub kept : t.commit ≡ length L → t'.commit ≡ length L
    pub knows : t'.leader ≡ Some c

  module _ (blank : B) (set : List Bool) (n c j T : ℕ) (L : List (Entry B)) (b_c b_j most : ℕ) (enough : IsMajority n set) (in_c : IsIn set c) (in_j : IsIn set j) (ne : j ≡ c → ⊥)
      (ends : last_term L ≡ T) (some : 1 ≤ length L)
      (s t s1 : Node B) (l : Leading n T L b_c most s1) (next_same : s1.next ≡ s.next) (matched_same : s1.matched ≡ s.matched) (commit_same : s1.commit ≡ s.commit)
      (f : Follows T L b_j most t) (k : Linked L (item_or s.next j 0) (item_or s.matched j 0) t.log) where
    abbrev y : ℕ
    y = pred (item_or s.next j 0)

    pub y_suc : item_or s.next j 0 ≡ suc y
    y_suc = suc_pred (item_or s.next j 0) k.next_low

    pub y_in : y ≤ length L
    y_in = omega (arith, k.next_high, y_suc)

    pub bounds_j : (1 ≤ j) × (j ≤ n)
    bounds_j = let r = in_bounds set j in_j in let e : length set ≡ n = enough.0 in (r.0, omega (arith, r.1))

    pub bounds_c : (1 ≤ c) × (c ≤ n)
    bounds_c = let r = in_bounds set c in_c in let e : length set ≡ n = enough.0 in (r.0, omega (arith, r.1))

    -- it has the place

    module _ (has : Has y t.log L) where
      abbrev place : ℕ
      place = up_to t.log L y batch_limit y_in has

      abbrev reached : ℕ
      reached = max place (item_or s1.matched j 0)

      abbrev pub gained : Node B
      gained = advanced n c (with_match s1 j place)

      place_is : place ≡ y + min batch_limit (length L - y)
      place_is = ap (λ z. y + z) (piece_length t.log L y batch_limit y_in has)

      old_matched : item_or s1.matched j 0 ≡ item_or s.matched j 0
      old_matched = ap (λ z. item_or z j 0) matched_same

      place_in : place ≤ length L
      place_in = up_to_in t.log L y batch_limit y_in has

      reached_in : reached ≤ length L
      reached_in = omega (arith, old_matched, k.matched_in, place_in)

      matched_now : item_or gained.matched j 0 ≡ reached
      matched_now = written_here s1.matched j reached 0 bounds_j.0 (omega (arith, l.matched_long, bounds_j.1))

      next_now : item_or gained.next j 0 ≡ suc reached
      next_now = written_here s1.next j (suc reached) 0 bounds_j.0 (omega (arith, l.next_long, bounds_j.1))

      log_now : gained.log ≡ L
      log_now = l.log_is

      abbrev pub taker : Node B
      taker = takes_it blank n c j T L b_j most bounds_c.0 bounds_c.1 bounds_j.0 bounds_j.1 ne t f y s.commit y_in has

      has_reached : Has reached taker.log L
      has_reached =
          ⊎_elim
          (λ lt. let e : place ≡ reached = omega arith in subst (λ z. Has z taker.log L) e (taken_has t.log L y batch_limit y_in has f.alike))
          (λ le. let e : item_or s.matched j 0 ≡ reached = omega (arith, old_matched) in
          subst (λ z. Has z taker.log L) e (taken_keeps t.log L y batch_limit y_in has f.alike (item_or s.matched j 0) k.matched_in k.matched_has))
          (cases_lt (item_or s1.matched j 0) place)

      near_now : (m : ℕ) → Near (suc m) L (item_or s.next j 0) (item_or s.matched j 0) t.log → Near m L (suc reached) reached taker.log
      near_now m h =
          ⊎_elim
          (λ lt. let far : (1 ≤ m) × (length L ≤ reached + m) = further lt h in inr (inl (far.0, has_reached, far.1)))
          (λ le. inl (le, (omega arith)))
          (cases_lt reached (length L))
        where
          further : reached < length L → Near (suc m) L (item_or s.next j 0) (item_or s.matched j 0) t.log → (1 ≤ m) × (length L ≤ reached + m)
          further lt (inl d) = absurd (omega (arith, old_matched, d.0))
          further lt (inr (inl q)) = (omega (arith, place_is, q.2), omega (arith, place_is, q.2))
          further lt (inr (inr q)) = (omega (arith, place_is, some), omega (arith, place_is, some))

      -- all have the log, and this node still has it
      all_commits : ((i : ℕ) → IsIn set i → (i ≡ c → ⊥) → length L ≤ item_or s.matched i 0) → gained.commit ≡ length L
      all_commits all =
          place_full n counted s1.log s1.term s1.commit (length s1.log) (subst (λ z. s1.commit ≤ length z) (sym l.log_is) l.commit_in)
          (both_true (majority n (map (λ m. leb (length s1.log) m) counted)) (has_term s1.log s1.term (length s1.log)) most_have at_end)
          ∙ ap length l.log_is
        where
          matched' : List ℕ
          matched' = with_item s1.matched j reached

          counted : List ℕ
          counted = with_item (with_item s1.matched j reached) c (length s1.log)

          counted_long : length (with_item (with_item s1.matched j reached) c (length s1.log)) ≡ n
          counted_long = length-with_item (with_item s1.matched j reached) c (length s1.log) ∙ (length-with_item s1.matched j reached ∙ l.matched_long)

          each : (i : ℕ) → IsIn set i → length L ≤ item_or (with_item (with_item s1.matched j reached) c (length s1.log)) i 0
          each i in_i =
              ⊎_elim
              (λ e. subst (λ z. length L ≤ item_or (with_item (with_item s1.matched j reached) c (length s1.log)) z 0) (sym e)
              (omega (arith, written_here (with_item s1.matched j reached) c (length s1.log) 0 bounds_c.0 (omega (arith, length-with_item s1.matched j reached, l.matched_long, bounds_c.1)), ap length l.log_is)))
              (λ nc. subst (λ z. length L ≤ z) (sym (written_else (with_item s1.matched j reached) c i (length s1.log) 0 nc))
              (⊎_elim
              (λ e. subst (λ z. length L ≤ item_or (with_item s1.matched j reached) z 0) (sym e) (omega (arith, matched_now, old_matched, all j in_j ne)))
              (λ nj. subst (λ z. length L ≤ z) (sym (written_else s1.matched j i reached 0 nj ∙ ap (λ z. item_or z i 0) matched_same)) (all i in_i nc))
              (cases_eq i j)))
              (cases_eq i c)

          set_long : length set ≡ length (map (λ m. leb (length s1.log) m) (with_item (with_item s1.matched j reached) c (length s1.log)))
          set_long = enough.0 ∙ sym (map_length (λ m. leb (length s1.log) m) _ ∙ counted_long)

          most_have : majority n (map (λ m. leb (length s1.log) m) (with_item (with_item s1.matched j reached) c (length s1.log))) ≡ true
          most_have =
              majority_grows n set _ set_long
              (λ i in_i. is_in_map (λ m. leb (length s1.log) m) _ i (in_bounds set i in_i).0 (let r = (in_bounds set i in_i).1 in let e : length set ≡ n = enough.0 in omega (arith, counted_long))
              (le-leb (length s1.log) _ (subst (λ z. length z ≤ item_or (with_item (with_item s1.matched j reached) c (length s1.log)) i 0) (sym l.log_is) (each i in_i))))
              enough.1

          at_end : has_term s1.log s1.term (length s1.log) ≡ true
          at_end =
              both_true (leb 1 (length s1.log)) _ (le-leb 1 (length s1.log) (subst (λ z. 1 ≤ length z) (sym l.log_is) some))
              (both_true (leb (length s1.log) (length s1.log)) _ (le-leb (length s1.log) (length s1.log) (omega arith))
              (eq-eqb (term_at s1.log (length s1.log)) s1.term (ap last_term (take-length s1.log ∙ l.log_is) ∙ (ends ∙ sym l.term_is))))

      commit_in_now : gained.commit ≤ length L
      commit_in_now =
          place_within n (with_item (with_item s1.matched j reached) c (length s1.log)) s1.log s1.term s1.commit (length s1.log) (length L)
          l.commit_in (subst (λ z. length z ≤ length L) (sym l.log_is) (omega arith))

      pub gained_outcome : Outcome set n c j T L b_c b_j most s t gained taker
      gained_outcome =
          record {
            leading = record {
              role_is = l.role_is;
              term_is = l.term_is;
              boot_is = l.boot_is;
              applied_in = l.applied_in;
              log_is = l.log_is;
              commit_in = commit_in_now;
              next_long = length-with_item s1.next j (suc reached) ∙ l.next_long;
              matched_long = length-with_item s1.matched j reached ∙ l.matched_long;
            };
            follows = takes_follows blank n c j T L b_j most bounds_c.0 bounds_c.1 bounds_j.0 bounds_j.1 ne t f y s.commit y_in has;
            linked = record {
              next_low = omega (arith, next_now);
              next_high = omega (arith, next_now, reached_in);
              matched_in = omega (arith, matched_now, reached_in);
              matched_has = subst (λ z. Has z taker.log L) (sym matched_now) has_reached;
            };
            near = λ m h. subst (λ z. Near m L z (item_or gained.matched j 0) taker.log) (sym next_now) (subst (λ z. Near m L (suc reached) z taker.log) (sym matched_now) (near_now m h));
            next_else = λ i nj. written_else s1.next j i (suc reached) 0 nj ∙ ap (λ z. item_or z i 0) next_same;
            matched_else = λ i nj. written_else s1.matched j i reached 0 nj ∙ ap (λ z. item_or z i 0) matched_same;
            commits = all_commits;
            stays = λ e. place_stuck n (with_item (with_item s1.matched j reached) c (length s1.log)) s1.log s1.term s1.commit (length s1.log) (omega (arith, ap length l.log_is, commit_same)) ∙ (commit_same ∙ e);
            tells = λ d e. omega (arith, place_is, f.commit_in, d.1, y_suc, place_in);
            kept = λ e. omega (arith, place_in);
            knows = refl;
          }

    -- it has not

    module _ (no_way : agrees_at t.log y (term_at L y) ≡ false) where
      abbrev pub back : Node B
      back = record s1 { next = with_item s1.next j (max 1 y) }

      abbrev pub decliner : Node B
      decliner = declines_it blank n c j T L b_j most bounds_c.0 bounds_c.1 bounds_j.0 bounds_j.1 ne t f y s.commit y_in

      hasnt : (q : ℕ) → y ≤ q → q ≤ length L → Has q t.log L → ⊥
      hasnt q le in_q h = true≢false (sym (has_agrees y t.log L y_in (has_less q y t.log L le in_q h)) ∙ no_way)

      above : 1 ≤ y
      above = ⊎_elim (λ h. h) (λ z. let e : 0 ≡ y = omega arith in absurd (true≢false (sym (has_agrees y t.log L y_in (subst (λ q. Has q t.log L) e none)) ∙ no_way))) (cases_lt 0 y)
        where
          none : Has 0 t.log L
          none = (t.log, refl)

      behind : item_or s.matched j 0 < length L
      behind = ⊎_elim (λ h. h) (λ z. absurd (hasnt (item_or s.matched j 0) (let i = y_in in omega arith) k.matched_in k.matched_has)) (cases_lt (item_or s.matched j 0) (length L))

      back_next : item_or back.next j 0 ≡ y
      back_next = let e : max 1 y ≡ y = let a = above in omega arith in written_here s1.next j (max 1 y) 0 bounds_j.0 (omega (arith, l.next_long, bounds_j.1)) ∙ e

      pub back_outcome : Outcome set n c j T L b_c b_j most s t back decliner
      back_outcome =
          record {
            leading = record {
              role_is = l.role_is;
              term_is = l.term_is;
              boot_is = l.boot_is;
              applied_in = l.applied_in;
              log_is = l.log_is;
              commit_in = l.commit_in;
              next_long = length-with_item s1.next j (max 1 y) ∙ l.next_long;
              matched_long = l.matched_long;
            };
            follows = declines_follows blank n c j T L b_j most bounds_c.0 bounds_c.1 bounds_j.0 bounds_j.1 ne t f y s.commit y_in;
            linked = record {
              next_low = omega (arith, back_next, above);
              next_high = omega (arith, back_next, y_in);
              matched_in = omega (arith, ap (λ z. item_or z j 0) matched_same, k.matched_in);
              matched_has = subst (λ z. Has (item_or z j 0) t.log L) (sym matched_same) k.matched_has;
            };
            near = λ m h. nearer m h;
            next_else = λ i nj. written_else s1.next j i (max 1 y) 0 nj ∙ ap (λ z. item_or z i 0) next_same;
            matched_else = λ i nj. ap (λ z. item_or z i 0) matched_same;
            commits = λ all. absurd (let a = all j in_j ne in let q = behind in omega arith);
            stays = λ e. commit_same ∙ e;
            tells = λ d e. absurd (let q = behind in omega (arith, d.0));
            kept = λ e. e;
            knows = refl;
          }
        where
          nearer : (m : ℕ) → Near (suc m) L (item_or s.next j 0) (item_or s.matched j 0) t.log → Near m L (item_or back.next j 0) (item_or back.matched j 0) t.log
          nearer m (inl d) = absurd (let q = behind in omega (arith, d.0))
          nearer m (inr (inl q)) = absurd (hasnt y (omega arith) y_in q.1)
          nearer m (inr (inr q)) = inr (inr (omega (arith, back_next, above)))

-- A node applies what it has committed, and the last place answers.
use Rattle.std.proofs.Common.{◌≡◌, ℕ, zero, suc, ◌+◌, ◌-◌, ◌<◌, ◌≤◌, Bool, true, ltb, List, [], ◌∷◌, ◌++◌, length, replicate, take, filter, Option, Some, None, refl, sym, ap, subst, ◌∙◌, arith, append_assoc}
use Rattle.std.proofs.lemmas.Bool.{cond-true, cond_both, lt-ltb}
use Rattle.irc_line.specs.Lines.{Parts}
use Rattle.machine_laws.specs.declared.class.Class.{Class}
use Rattle.machine_laws.specs.declared.class.Class.TheVariants.{To, Hand, Rejoin, Nowhere}
use Rattle.raft_log.specs.declared.node_state.Live.{Live}
use Rattle.raft_log.specs.declared.entry.Entry.{Entry}
use Rattle.raft_log.specs.Lists.{item}
use Rattle.raft_log.specs.Node.{Node}
use Rattle.raft_node.specs.Machine.{Machine, history}
use Rattle.raft_node.specs.Steps.{Left, Turn, Acts, Applies, leaves, leaving, applied, apply_next}
use Rattle.agreement.specs.Laws.{IsIn}
use Rattle.world_run.specs.World.{World, Event, Does, Apply, happens, run, out_by, out_of}
use Rattle.progress.specs.Plans.{unapplied, apply_all}
use Rattle.progress.specs.Laws.{AreWithin, IsAnswered, brought_about}
use Rattle.progress.proofs.Places.{item_there}
use Rattle.progress.proofs.Stepping.{Stepped, event_stepped, run_append, Leads, leads_nothing, leads_first, leads_more}

module _ {A : Type 0} (test : A → Bool) where
  behind : (y : A) (zs : List A) (x : A) → ((j : ℕ) × (item zs j ≡ Some x)) → (j : ℕ) × (item (y ∷ zs) j ≡ Some x)
  behind y zs x h = at h.0 h.1
    where
      at : (j : ℕ) → item zs j ≡ Some x → (j : ℕ) × (item (y ∷ zs) j ≡ Some x)
      at zero e = absurd (cc e)
      at (suc j) e = (suc (suc j), e)

  -- what passes a test is kept
  kept_by : (xs : List A) (k : ℕ) (x : A) → item xs k ≡ Some x → test x ≡ true → (j : ℕ) × (item (filter test xs) j ≡ Some x)
  kept_by xs zero x at passes = absurd (cc at)
  kept_by [] (suc k) x at passes = absurd (cc at)
  kept_by (y ∷ xs) (suc zero) x at passes =
      let e : y ≡ x = cc at in
      (1, ap (λ z. item z 1) (cond-true (test y) (y ∷ filter test xs) (filter test xs) (ap test e ∙ passes)) ∙ ap Some e)
  kept_by (y ∷ xs) (suc (suc k)) x at passes =
      let r = kept_by xs (suc k) x at passes in
      cond_both (test y) (y ∷ filter test xs) (filter test xs) (λ z. (j : ℕ) × (item z j ≡ Some x)) (λ t. behind y (filter test xs) x r) (λ f. r)

-- what goes to a client of a node leaves it, whatever its session
pub leaves_live : {L : Type 0} (i boot : ℕ) (live : Option Live) (class : Class L) → leaves i boot None class ≡ true → leaves i boot live class ≡ true
leaves_live i boot live (To origin) h = h
leaves_live i boot live (Hand id number line) h = absurd (cc h)
leaves_live i boot live (Rejoin id line) h = absurd (cc h)
leaves_live i boot live Nowhere h = absurd (cc h)

module _ (M : Machine) where
  pub answered_later : (a boot : ℕ) (live : Option Live) (log : List (Entry M.Body)) (body : M.Body) (w : World M) (es fs : List (Event M)) → IsAnswered M a boot live log body (run M es w) fs → IsAnswered M a boot live log body w (es ++ fs)
  answered_later a boot live log body w es fs h =
      record {
        before = es ++ h.before;
        ends = ap (λ z. es ++ z) h.ends ∙ sym (append_assoc es h.before (Does (Apply a) ∷ []));
        node = h.node;
        at = ap (λ z. item z a) same ∙ h.at;
        boot_is = h.boot_is;
        behind_is = h.behind_is;
        front = h.front;
        entry = h.entry;
        next = h.next;
        body_is = h.body_is;
        comes = ap (λ z. out_of M z (Does (Apply a))) same ∙ h.comes;
        answers = h.answers;
      }
    where
      same : run M (es ++ h.before) w ≡ run M h.before (run M es w)
      same = run_append M es h.before w

  -- the next place is applied
  next_applied : (a : ℕ) (s : Node M.Body) (e : Entry M.Body) → s.applied < s.commit → item s.log (suc s.applied) ≡ Some e → apply_next M a s ≡ applied M a s (Some e)
  next_applied a s e lt there = cond-true (ltb s.applied s.commit) _ _ (lt-ltb s.applied s.commit lt) ∙ ap (λ z. applied M a s z) there

  abbrev with_applied : Node M.Body → ℕ → Node M.Body
  with_applied s k = record s { applied = k }

  -- this much is applied, and no other node changed
  pub record Upto (a : ℕ) (w : World M) (s : Node M.Body) (m : ℕ) (v : World M) : Type 0 where
    pub here : item v a ≡ Some (with_applied s m)
    pub else : (k : ℕ) → (k ≡ a → ⊥) → item v k ≡ item w k
    pub long : length v ≡ length w

  applies_next : (a : ℕ) (w : World M) (s : Node M.Body) → item w a ≡ Some s → s.applied < s.commit → s.commit ≤ length s.log
      → Stepped M w (happens M w (Does (Apply a))) a (with_applied s (suc s.applied))
  applies_next a w s at lt le =
      let e : (x : Entry M.Body) × (item s.log (suc s.applied) ≡ Some x) = item_there s.log (suc s.applied) (omega arith) (omega arith) in
      subst (λ (z : Turn M). Stepped M w (happens M w (Does (Apply a))) a z.node) (next_applied a s e.0 lt e.1)
      (event_stepped M w (Does (Apply a)) a s refl at)

  some_applied : (set : List Bool) (a k m : ℕ) (w : World M) (s : Node M.Body) → IsIn set a → item w a ≡ Some s → m ≡ s.applied + k → m ≤ s.commit → s.commit ≤ length s.log
      → Leads M set w (replicate k (Does (Apply a))) (Upto a w s m)
  some_applied set a zero m w s in_a at e le in_log =
      let f : s.applied ≡ m = omega arith in
      leads_nothing M set w (Upto a w s m) (record { here = at ∙ ap (λ z. Some (with_applied s z)) f; else = λ k ne. refl; long = refl })
  some_applied set a (suc k) m w s in_a at e le in_log =
      let step : Stepped M w (happens M w (Does (Apply a))) a (with_applied s (suc s.applied)) = applies_next a w s at (omega arith) in_log in
      leads_first M set w (Does (Apply a)) (replicate k (Does (Apply a))) (Upto a w s m) in_a tt
      (leads_more M set (happens M w (Does (Apply a))) (replicate k (Does (Apply a))) (Upto a (happens M w (Does (Apply a))) (with_applied s (suc s.applied)) m) (Upto a w s m)
      (some_applied set a k m (happens M w (Does (Apply a))) (with_applied s (suc s.applied)) in_a step.here (omega arith) le in_log)
      (λ v r. record { here = r.here; else = λ i ne. r.else i ne ∙ step.else i ne; long = r.long ∙ step.long }))

  -- all that is committed is applied
  pub applies_all : (set : List Bool) (a : ℕ) (w : World M) (s : Node M.Body) → IsIn set a → item w a ≡ Some s → s.applied ≤ s.commit → s.commit ≤ length s.log
      → Leads M set w (apply_all M a w) (Upto a w s s.commit)
  applies_all set a w s in_a at le in_log =
      subst (λ z. Leads M set w (replicate z (Does (Apply a))) (Upto a w s s.commit)) (sym (ap unapplied at))
      (some_applied set a (s.commit - s.applied) s.commit w s in_a at (omega arith) (omega arith) in_log)

  push_replicate : (k : ℕ) (e : Event M) → replicate (suc k) e ≡ replicate k e ++ e ∷ []
  push_replicate zero e = refl
  push_replicate (suc k) e = ap (λ z. e ∷ z) (push_replicate k e)

  -- all is applied, and the last place is that of the body
  pub all_applied : (set : List Bool) (a : ℕ) (live : Option Live) (log : List (Entry M.Body)) (body : M.Body) (w : World M) (s : Node M.Body) (e : Entry M.Body) → IsIn set a → item w a ≡ Some s → s.applied < s.commit → s.commit ≡ suc (length log) → take (length log) s.log ≡ log → s.commit ≤ length s.log
      → item s.log s.commit ≡ Some e → e.body ≡ body
      → ((class : Class Parts) → leaves a s.boot live class ≡ true → leaves a s.boot s.live class ≡ true)
      → AreWithin M set w (apply_all M a w) × IsAnswered M a s.boot live log body w (apply_all M a w)
  all_applied set a live log body w s e in_a at lt here front le there is to = by_count (s.commit - suc s.applied) (omega arith)
    where
      by_count : (k : ℕ) → s.commit ≡ suc (s.applied + k) → AreWithin M set w (apply_all M a w) × IsAnswered M a s.boot live log body w (apply_all M a w)
      by_count k count =
          let left : unapplied (item w a) ≡ suc k = ap unapplied at ∙ (omega arith) in
          let whole : apply_all M a w ≡ replicate k (Does (Apply a)) ++ Does (Apply a) ∷ [] = ap (λ z. replicate z (Does (Apply a))) left ∙ push_replicate k (Does (Apply a)) in
          let most : Leads M set w (replicate k (Does (Apply a))) (Upto a w s (s.applied + k)) = some_applied set a k (s.applied + k) w s in_a at refl (omega arith) le in
          let all : Leads M set w (replicate (suc k) (Does (Apply a))) (Upto a w s s.commit) = some_applied set a (suc k) s.commit w s in_a at (omega arith) (omega arith) le in
          let place : s.applied + k ≡ length log = omega arith in
          let there' : item s.log (suc (s.applied + k)) ≡ Some e = ap (λ z. item s.log z) (sym count) ∙ there in
          let last : apply_next M a (with_applied s (s.applied + k)) ≡ applied M a (with_applied s (s.applied + k)) (Some e) = next_applied a (with_applied s (s.applied + k)) e (omega arith) there' in
          let w' : World M = run M (replicate k (Does (Apply a))) w in (
            subst (λ z. AreWithin M set w z) (sym (ap (λ z. replicate z (Does (Apply a))) left)) all.within,
            record {
              before = replicate k (Does (Apply a));
              ends = whole;
              node = with_applied s (s.applied + k);
              at = most.ends.here;
              boot_is = refl;
              behind_is = place;
              front = ap (λ z. take z s.log) place ∙ front;
              entry = e;
              next = there';
              body_is = is;
              comes = ap (λ z. out_by M w' a (Acts Applies) z) most.ends.here ∙ (ap (λ (z : Turn M). z.out) last ∙ ap (λ z. Left (suc (s.applied + k)) (leaving M a (with_applied s (s.applied + k)) (M.effects (history (take (s.applied + k) s.log)) (suc (s.applied + k)) z))) is);
              answers = λ i x at_i goes. kept_by (λ y. leaves a s.boot s.live (M.class y)) (brought_about M (with_applied s (s.applied + k)) body) i x at_i (to (M.class x) goes);
            },
          )

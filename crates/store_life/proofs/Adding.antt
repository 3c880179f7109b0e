-- One more entry of a leader that is node 1: all nodes get it, and it is committed and applied.
use Rattle.std.proofs.Common.{◌≡◌, ℕ, suc, ◌≤◌, true, List, [], ◌∷◌, ◌++◌, length, take, Option, Some, nat_lt, refl, sym, ap, subst, ◌∙◌, arith, length-append}
use Rattle.std.proofs.lemmas.Bool.{cond-true, lt-ltb}
use Rattle.std.proofs.lemmas.List.{take-append-le}
use Rattle.raft_log.specs.declared.entry.Entry.{Entry}
use Rattle.raft_log.specs.declared.node_state.Live.{Live}
use Rattle.raft_log.specs.Lists.{item, item_or}
use Rattle.raft_log.specs.Node.{Node}
use Rattle.agreement.proofs.Lists.{last_term_push}
use Rattle.raft_node.specs.Machine.{Machine}
use Rattle.raft_node.specs.Steps.{Acts, Applies, Turn, applied, quiet, turn}
use Rattle.world_run.specs.World as world
use Rattle.world_run.specs.World.{happens}
use Rattle.store_life.proofs.Hearing.{following, leading}
use Rattle.store_life.proofs.Reaching.{Becomes, Reaches, go_on, one_event, owned}
use Rattle.store_life.proofs.Rounds.{Keeps, Stage}
use Rattle.store_life.proofs.Resting.{all_caught_up, at_end, commit_is, one_sent}

module _ (M : Machine) (size : ℕ) (boot : ℕ → ℕ) (T n : ℕ) where
  -- Node 1 leads with this log and session. All have the log, and it is committed and applied.
  pub record Rest (live : Option Live) (attempts : ℕ) (log : List (Entry M.Body)) (w : List (Node M.Body)) : Type 0 where
    pub stage : Stage M size boot T live attempts (length log) log n w
    pub committed : stage.lead.commit ≡ length log

  -- if only node 1 changes, the others keep what they have
  stays : (log : List (Entry M.Body)) (s x : Node M.Body) (m k : ℕ) (w u : List (Node M.Body)) → 1 ≤ k → Becomes M size 1 x w u → Keeps M size boot T log s m k w
      → (t : Node M.Body) → t.next ≡ s.next → t.matched ≡ s.matched → Keeps M size boot T log t m k u
  stays log s x m k w u pos b old t next matched =
      record {
        node = old.node;
        place = old.place;
        there = b.others (suc k) (λ d. omega arith) ∙ old.there;
        next = ap (λ (l : List ℕ). item_or l (suc k) 0) next ∙ old.next;
        matched = ap (λ (l : List ℕ). item_or l (suc k) 0) matched ∙ old.matched;
        within = old.within;
        few = old.few;
        whole = old.whole;
      }

  -- the last entry is applied
  module _ (live : Option Live) (attempts a : ℕ) (log : List (Entry M.Body)) (w : List (Node M.Body)) (st : Stage M size boot T live attempts a log n w) (all : st.lead.commit ≡ length log)
      (e : Entry M.Body) (at : item log (suc a) ≡ Some e) (long : suc a ≡ length log) where
    abbrev t : Node M.Body
    t = record st.lead { applied = suc st.lead.applied }

    next_is : (turn M size 1 Applies (leading (boot 1) T log st.lead)).node ≡ leading (boot 1) T log t
    next_is =
        let lt : nat_lt st.lead.applied st.lead.commit ≡ true = lt-ltb st.lead.applied st.lead.commit (omega (arith, st.applied_is)) in
        ap (λ (x : Turn M). x.node)
        (cond-true (nat_lt st.lead.applied st.lead.commit) (applied M 1 (leading (boot 1) T log st.lead) (item log (suc st.lead.applied))) (quiet M (leading (boot 1) T log st.lead)) lt
        ∙ ap (applied M 1 (leading (boot 1) T log st.lead)) (ap (λ (x : ℕ). item log (suc x)) st.applied_is ∙ at))

    abbrev u : List (Node M.Body)
    u = happens M w (world.Does (world.Apply 1))

    becomes : Becomes M size 1 (leading (boot 1) T log t) w u
    becomes = subst (λ (x : Node M.Body). Becomes M size 1 x w u) next_is (owned M size 1 w (leading (boot 1) T log st.lead) st.long st.leads (Acts Applies))

    pub rests : Reaches M w (Rest live attempts log)
    rests =
        one_event M w (Rest live attempts log) (world.Does (world.Apply 1))
        (record {
          stage = record {
            long = becomes.long;
            lead = t;
            leads = becomes.now;
            live_is = st.live_is;
            attempts_is = st.attempts_is;
            applied_is = ap suc st.applied_is ∙ long;
            next_long = st.next_long;
            matched_long = st.matched_long;
            each = λ k pos within. stays log st.lead (leading (boot 1) T log t) n k w u pos becomes (st.each k pos within) t refl refl;
            commit_within = st.commit_within;
            counted = λ d. let c = st.counted d in record { before = c.before; low = c.low; found = c.found };
          };
          committed = all;
        })

  -- one more entry of this term
  pub goes_round : (live : Option Live) (attempts : ℕ) (log : List (Entry M.Body)) (e : Entry M.Body) (w : List (Node M.Body)) → suc n ≡ size → 1 ≤ n → e.term ≡ T
      → Stage M size boot T live attempts (length log) (log ++ e ∷ []) 0 w → Reaches M w (Rest live attempts (log ++ e ∷ []))
  goes_round live attempts log e w f pos of_term st =
      let long : suc (length log) ≡ length (log ++ e ∷ []) = omega (arith, length-append log (e ∷ [])) in
      go_on M w (Stage M size boot T live attempts (length log) (log ++ e ∷ []) n) (Rest live attempts (log ++ e ∷ []))
      (all_caught_up M size boot T live attempts (length log) (log ++ e ∷ []) n n 0 w (omega arith) f st)
      (λ u p. rests live attempts (length log) (log ++ e ∷ []) u p
      (commit_is M size boot T live attempts (length log) (log ++ e ∷ []) n u f pos (omega arith) (last_term_push log e ∙ of_term) p)
      e (at_end log e) long)

  -- node 1 appended it
  pub appended : (live new : Option Live) (attempts made : ℕ) (log : List (Entry M.Body)) (e : Entry M.Body) (w u : List (Node M.Body)) (r : Rest live attempts log w)
      → Becomes M size 1 (leading (boot 1) T (log ++ e ∷ []) (record r.stage.lead { live = new; attempts = made })) w u → suc n ≡ size
      → Stage M size boot T new made (length log) (log ++ e ∷ []) 0 u
  appended live new attempts made log e w u r b f =
      let long : suc (length log) ≡ length (log ++ e ∷ []) = omega (arith, length-append log (e ∷ [])) in
      record {
        long = b.long;
        lead = record r.stage.lead { live = new; attempts = made };
        leads = b.now;
        live_is = refl;
        attempts_is = refl;
        applied_is = r.stage.applied_is;
        next_long = r.stage.next_long;
        matched_long = r.stage.matched_long;
        each = λ k pos within.
            let old : Keeps M size boot T log r.stage.lead n k w = r.stage.each k pos within in
            let whole : old.place ≡ length log = old.whole (omega arith) in
            let same : take old.place log ≡ take old.place (log ++ e ∷ []) = sym (take-append-le old.place log (e ∷ []) old.within) in
            record {
              node = old.node;
              place = old.place;
              there = b.others (suc k) (λ d. omega arith) ∙ old.there ∙ ap (λ (l : List (Entry M.Body)). let o : Option (Node M.Body) = Some (following (boot (suc k)) T l old.node) in o) same;
              next = old.next;
              matched = old.matched;
              within = omega (arith, old.within, long);
              few = omega (arith, whole, long, one_sent);
              whole = λ d. absurd (omega arith);
            };
        commit_within = omega (arith, r.stage.commit_within, long);
        counted = λ d. absurd (omega arith);
      }

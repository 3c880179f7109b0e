-- A node of the majority, once all that the leader has is settled.
use Rattle.std.proofs.Common.{◌≡◌, ℕ, ◌≤◌, Bool, List, length, Some, sym, ap, ◌∙◌, ⊎_elim}
use Rattle.std.proofs.lemmas.Bool.{cases_eq}
use Rattle.raft_log.specs.declared.entry.Entry.{Entry}
use Rattle.raft_log.specs.Lists.{item, item_or}
use Rattle.raft_log.specs.Logs.{last_term}
use Rattle.raft_log.specs.Node.{Node}
use Rattle.raft_node.specs.Machine.{Machine}
use Rattle.agreement.specs.Laws.{IsIn, IsMajority}
use Rattle.world_run.specs.World.{World}
use Rattle.progress.specs.Laws.{boot_of}
use Rattle.progress.proofs.Settling.{Stood, Led}
use Rattle.progress.proofs.Confirming.{Settled, AllCommitted, settled_node}

module _ (M : Machine) (set : List Bool) (n c T : ℕ) (L : List (Entry M.Body)) (boots : ℕ → ℕ) (high : ℕ) (most : IsMajority n set) (in_c : IsIn set c) (ends : last_term L ≡ T) (some : 1 ≤ length L) where
  -- one leads, and all that it has is committed by each
  abbrev pub AllOf : World M → Type 0
  AllOf x =
      Led M set n c T L boots high (Settled M set n c T L boots high most in_c ends some) (AllCommitted M set n c T L boots high most in_c ends some) x

  module _ (a : ℕ) (in_a : IsIn set a) where
    pub record Stands (x : World M) : Type 0 where
      pub node : Node M.Body
      pub at : item x a ≡ Some node
      pub boot_is : node.boot ≡ boots a
      pub term_is : node.term ≡ T
      pub applied_in : node.applied ≤ high
      pub log_is : node.log ≡ L
      pub commit_is : node.commit ≡ length L

    pub stands : (x : World M) → AllOf x → Stands x
    stands x led =
        ⊎_elim
        (λ e. record {
          node = led.leader;
          at = ap (λ z. item x z) e ∙ led.at;
          boot_is = led.leading.boot_is ∙ ap boots (sym e);
          term_is = led.leading.term_is;
          applied_in = led.leading.applied_in;
          log_is = led.leading.log_is;
          commit_is = led.more;
        })
        (λ ne. let r = settled_node M set n c T L boots high most in_c ends some x led a in_a ne in other r.0 r.1 r.2)
        (cases_eq a c)
      where
        other : (t : Node M.Body) → item x a ≡ Some t → Stood M set n c T L boots high (Settled M set n c T L boots high most in_c ends some) a (item_or led.leader.next a 0) (item_or led.leader.matched a 0) t → Stands x
        other t at st =
            record { node = t; at = at; boot_is = st.follows.boot_is; term_is = st.follows.term_is; applied_in = st.follows.applied_in; log_is = st.more.0; commit_is = st.more.1 }

    pub boot_now : (x : World M) (led : AllOf x) → boot_of (item x a) ≡ boots a
    boot_now x led = let st : Stands x = stands x led in ap boot_of st.at ∙ st.boot_is

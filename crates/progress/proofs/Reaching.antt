-- What holds in every world that a group reaches, and the laws over all lists of events.
use Rattle.std.proofs.Common.{◌≡◌, ℕ, zero, suc, eqb, ◌<◌, ◌≤◌, Bool, List, ◌++◌, length, take, replicate, Option, None, Some, refl, sym, ap, subst, ◌∙◌, arith, ⊎_elim}
use Rattle.std.proofs.Math.Seq.{take-length}
use Rattle.std.proofs.lemmas.Bool.{eq-eqb, cases_Bool}
use Rattle.raft_log.specs.Lists.{item}
use Rattle.raft_log.specs.Logs.{entry_limit}
use Rattle.raft_log.specs.Node.{Node, is_leader}
use Rattle.node_steps.specs.Asking.{may_ask}
use Rattle.raft_node.specs.Machine.{Machine}
use Rattle.raft_node.specs.Raft.{newborn}
use Rattle.raft_node.specs.Sound.{IsSound}
use Rattle.raft_node.proofs.Items.{item_of_replicate}
use Rattle.agreement.specs.World.{Begins, committed_of, committed, start}
use Rattle.agreement.specs.World as core
use Rattle.agreement.specs.Laws.{IsIn, IsMajority}
use Rattle.agreement.proofs.Lists.{begins_none, begins_take}
use Rattle.agreement.proofs.Counts.{majorities_meet}
use Rattle.agreement.proofs.Ghost.{Ghost, Good}
use Rattle.agreement.proofs.Plain.{role_leader}
use Rattle.agreement.proofs.Headline.{Goes, run_goes, before, start_good}
use Rattle.world_run.specs.World.{Event, run, moment, agreed}
use Rattle.world_run.specs.Laws.{OverAll}
use Rattle.world_run.proofs.Lowers.{lowered, run_lowered}
use Rattle.world_run.proofs.Holds.{logs_match, up_to_date_holds}
use Rattle.world_run.proofs.Soundness.{each_is_sound}
use Rattle.progress.specs.Plans.{greatest_term, log_of, candidate}
use Rattle.progress.specs.Laws.{after, CanBeElected, HasCandidate, CanSettle, ClientsMayAsk, NothingWedges, NewHasRoom, boot_of}
use Rattle.progress.specs.Looks.{LooksArePlayed}
use Rattle.progress.proofs.Places.{item_there}
use Rattle.progress.proofs.Members.{in_bounds}
use Rattle.progress.proofs.Voting.{both_true}
use Rattle.progress.proofs.Choosing.{candidate_in, candidate_good}
use Rattle.progress.proofs.Stepping.{run_append}
use Rattle.progress.proofs.Ending.{EndsNow, ends_run, ends_start}
use Rattle.progress.proofs.Sane.{Sane}
use Rattle.progress.proofs.Heading.{heads}
use Rattle.progress.proofs.Through.{is_elected, is_settled, gets_through}
use Rattle.progress.proofs.Playing.{longest_in, is_played, front_played}

module _ (M : Machine) where
  module _ (size : ℕ) (es : List (Event M)) where
    abbrev pub whole : moment M size es (length es) ≡ after M size es
    whole = ap (λ z. run M z (start size)) (take-length es)

    pub here : (a : ℕ) (s : Node M.Body) → item (after M size es) a ≡ Some s → item (moment M size es (length es)) a ≡ Some s
    here a s at = ap (λ z. item z a) whole ∙ at

    record IsGood : Type 0 where
      ghost_of : Ghost M.Body
      good : Good size ghost_of (after M size es)

    is_good : IsGood
    is_good =
        let one : Goes before (core.run M.blank (take (length es) (lowered M es (start size))) (start size)) size = run_goes M.blank size (take (length es) (lowered M es (start size))) before (start size) (start_good size) in
        record {
          ghost_of = one.after;
          good = subst (λ z. Good size one.after z) (run_lowered M es (start size) (length es) ∙ whole) one.good;
        }

    ends_now : EndsNow (after M size es)
    ends_now =
        subst (λ z. EndsNow z) (run_lowered M es (start size) (length es) ∙ whole)
        (ends_run M.blank (take (length es) (lowered M es (start size))) (start size) (ends_start size))

    sane : Sane size (after M size es)
    sane =
        record {
          alike = λ a b s t at_s at_t p in_s in_t same. logs_match M size es (length es) (length es) a b p s t (here a s at_s) (here b t at_t) in_s in_t same;
          terms = λ a p s at. (is_good.good.nodes a s at).log_ok.upto (take p s.log) (begins_take p s.log);
          commit_in = λ a s at. (is_good.good.nodes a s at).commit_in;
          applied_in = λ a s at. let h : IsSound size s = each_is_sound M size es (length es) a s (here a s at) in h.0;
          holds = λ set a b s t at_s at_t most good.
              up_to_date_holds M size es (length es) (length es) a b s t set (omega arith) (here a s at_s) (here b t at_t) most
              (λ i u in_i at. good i u in_i (sym (ap (λ z. item z i) whole) ∙ at));
          heads = λ c s at l. heads size is_good.ghost_of (after M size es) is_good.good ends_now c s at l (each_is_sound M size es (length es) c s (here c s at));
        }

    pub long : length (after M size es) ≡ size
    long = is_good.good.size

  pub onward : (size : ℕ) (es more : List (Event M)) → Sane size (run M more (after M size es))
  onward size es more = subst (λ z. Sane size z) (run_append M es more (start size)) (sane size (es ++ more))

  pub can_be_elected : OverAll M CanBeElected
  can_be_elected size es set c s two most in_c at good follows terms room =
      is_elected M set size c (after M size es) s
      (record { size = long size es; two = two; most = most; in_set = in_c; at = at; good = good; terms = terms; room = room; waits = ⊎_elim (λ l. absurd (follows (role_leader s.role l))) (λ f. f) (cases_Bool (is_leader s.role)); commit_in = (sane size es).commit_in c s at; applied_in = let a = (sane size es).commit_in c s at in let b = (sane size es).applied_in c s at in omega arith })

  pub has_candidate : OverAll M HasCandidate
  has_candidate size es set most =
      let i = majorities_meet size set set most most in
      let w = after M size es in
      let in_c : IsIn set (candidate set (after M size es)) = candidate_in set (after M size es) i.0 i.1 in
      let b = in_bounds set (candidate set (after M size es)) in_c in
      let l : length set ≡ size = most.0 in
      let found : (s : Node M.Body) × (item (after M size es) (candidate set (after M size es)) ≡ Some s) =
      item_there (after M size es) (candidate set (after M size es)) b.0 (omega (arith, b.1, long size es)) in
      (in_c, found.0, found.1, candidate_good set (after M size es) i.0 i.1 found.0 found.1)

  pub can_settle : OverAll M CanSettle
  can_settle size es set two most room =
      let i = majorities_meet size set set most most in
      is_settled M set size i.0 (after M size es) (onward size es) (long size es) two most i.1 room

  -- all that any node committed at any moment is in the candidate's log
  agreed_in_candidate : (size : ℕ) (es : List (Event M)) (set : List Bool) (i : ℕ) → IsMajority size set → IsIn set i → Begins (agreed M size es) (log_of (item (after M size es) (candidate set (after M size es))))
  agreed_in_candidate size es set i most in_i =
      let w = after M size es in
      let in_c : IsIn set (candidate set (after M size es)) = candidate_in set (after M size es) i in_i in
      let b = in_bounds set (candidate set (after M size es)) in_c in
      let l : length set ≡ size = most.0 in
      let found : (s : Node M.Body) × (item (after M size es) (candidate set (after M size es)) ≡ Some s) =
      item_there (after M size es) (candidate set (after M size es)) b.0 (omega (arith, b.1, long size es)) in
      subst (λ z. Begins (agreed M size es) z) (sym (ap log_of found.1))
      (longest_in M found.0.log es (start size) (each found.0 found.1))
    where
      each : (t : Node M.Body) → item (after M size es) (candidate set (after M size es)) ≡ Some t → (k a : ℕ) → k ≤ length es → Begins (committed (moment M size es k) a) t.log
      each t at k a le = by_item (item (moment M size es k) a) refl
        where
          by_item : (o : Option (Node M.Body)) → item (moment M size es k) a ≡ o → Begins (committed_of o) t.log
          by_item None e = begins_none t.log
          by_item (Some u) e =
              up_to_date_holds M size es k (length es) a (candidate set (after M size es)) u t set le e (here size es (candidate set (after M size es)) t at) most
              (λ j v in_j at_j. candidate_good set (after M size es) i in_i t at j v in_j (sym (ap (λ z. item z j) (whole size es)) ∙ at_j))

  pub nothing_wedges : OverAll M NothingWedges
  nothing_wedges size es set a body two most in_a room may =
      gets_through M set size a (after M size es) (onward size es) (long size es) two most in_a room a body in_a may

  pub looks_are_played : OverAll M LooksArePlayed
  looks_are_played size es set a two most in_a room = (
    is_played M set size a (after M size es) (onward size es) (long size es) two most in_a room a in_a,
    front_played M set size a (after M size es) (onward size es) (long size es) two most in_a room a in_a (agreed M size es) (agreed_in_candidate size es set a most in_a),
  )

  no_terms : (k n : ℕ) → greatest_term {B = M.Body} (replicate k (newborn n)) ≤ 0
  no_terms zero n = omega arith
  no_terms (suc k) n = let r = no_terms k n in omega arith

  pub new_has_room : NewHasRoom M
  new_has_room size set =
      record {
        terms = omega (arith, no_terms size size);
        entries = λ j s in_j at.
            let e : newborn size ≡ s = item_of_replicate size j (newborn size) s at in
            let room : 1 < entry_limit = omega arith in
            subst (λ (z : Node M.Body). suc (length z.log) < entry_limit) e room;
      }

  pub clients_may_ask : ClientsMayAsk M
  clients_may_ask a client body w is =
      record {
        takes = λ s at.
            ap (λ z. may_ask a s z) is
            ∙ both_true (eqb a a) (eqb (boot_of (item w a)) s.boot) (eq-eqb a a refl) (eq-eqb (boot_of (item w a)) s.boot (ap boot_of at));
      }

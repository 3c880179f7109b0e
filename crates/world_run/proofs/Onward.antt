-- A world, event by event.
use Rattle.std.proofs.Common.{◌≡◌, ℕ, zero, suc, ◌+◌, ◌<◌, ◌≤◌, ⊎_elim, List, [], ◌∷◌, ◌++◌, append_assoc, append-nil, length, drop, get_or, sym, ap, ◌∙◌, arith}
use Rattle.std.proofs.lemmas.List.{map-append, drop_all}
use Rattle.std.specs.Prelude.{◌↔◌, Result, Ok, Err}
use Rattle.raft_log.specs.Node.{Node}
use Rattle.raft_log.specs.Peers.{IsGroupSize}
use Rattle.raft_node.specs.Machine.{Machine}
use Rattle.raft_node.specs.Steps.{Out}
use Rattle.world_events.specs.declared.event.Event.{Event}
use Rattle.world_run.specs.declared.outcome.Outcome.{Outcome}
use Rattle.world_run.specs.declared.outcome.WorldFault.{WorldFault}
use Rattle.world_run.specs.declared.outcome.WorldFault.TheVariants.{Refused, Memory}
use Rattle.agreement.specs.World.{start}
use Rattle.world_run.specs.Groups.{CellParts, HasHappened, IsWorld, nodes_in}
use Rattle.world_run.specs.Told.{event_of, events_of, out_of, outs_of}
use Rattle.world_run.specs.World.{run, outs, outputs}
use Rattle.world_run.specs.World as world
use Rattle.world_run.specs.Laws.{IsAgreed, IsFaithful, IsRaft, RunsAreApart}
use Rattle.world_run.proofs.Holds.{one_list, in_agreed, agreed_grows, each_brought, no_more, one_leader, one_vote, logs_match, leaders_hold, sessions_apart}
use Rattle.world_run.proofs.Answers.{looks_are_faithful, apply_is_faithful, asked_in_its_run, new_run_new_boot, applied_stays, new_id_is_new}

first : {A : Type 0} (xs : List A) (k : ℕ) (x : A) → k < length xs → x ≡ get_or xs k x → drop k xs ≡ x ∷ drop (suc k) xs
first [] k x lt e = absurd (omega (arith, lt))
first (y ∷ xs) zero x lt e = ap (λ z. z ∷ xs) (sym e)
first (y ∷ xs) (suc k) x lt e = first xs k x (omega (arith, lt)) e

pub first_of : {A : Type 0} (xs : List A) (k : ℕ) (x : A) → k < length xs → x ≡ get_or xs k x → drop k xs ≡ x ∷ drop (k + 1) xs
first_of xs k x lt e =
    let next : suc k ≡ k + 1 = omega arith in
    first xs k x lt e ∙ ap (λ (n : ℕ). x ∷ drop n xs) next

module _ (M : Machine) {Setup Hosted Store : Type 0} where
  -- what is still to come ends in the same world
  pub runs_on : (es : List (Event M.Body M.Line M.Target)) (k : ℕ) (e : Event M.Body M.Line M.Target) (old new : List (CellParts Setup Hosted Store M.Body)) (out : Outcome M.Effect M.Played) (w : List (Node M.Body))
      → k < length es → e ≡ get_or es k e → HasHappened M e old new out → run M (events_of M (drop k es)) (nodes_in old) ≡ w → run M (events_of M (drop (k + 1) es)) (nodes_in new) ≡ w
  runs_on es k e old new out w lt at h was =
      ap (λ (n : List (Node M.Body)). run M (events_of M (drop (k + 1) es)) n) h.nodes
      ∙ (ap (λ (l : List (Event M.Body M.Line M.Target)). run M (events_of M l) (nodes_in old)) (sym (first_of es k e lt at)) ∙ was)

  -- and brings out the same
  pub brings_on : (es : List (Event M.Body M.Line M.Target)) (k : ℕ) (e : Event M.Body M.Line M.Target) (old new : List (CellParts Setup Hosted Store M.Body)) (out : Outcome M.Effect M.Played) (came now : List (Outcome M.Effect M.Played)) (all : List (Out M))
      → k < length es → e ≡ get_or es k e → HasHappened M e old new out → now ≡ came ++ out ∷ []
      → outs_of M came ++ outs M (events_of M (drop k es)) (nodes_in old) ≡ all → outs_of M now ++ outs M (events_of M (drop (k + 1) es)) (nodes_in new) ≡ all
  brings_on es k e old new out came now all lt at h more was =
      ap (λ (l : List (Outcome M.Effect M.Played)). outs_of M l ++ outs M (events_of M (drop (k + 1) es)) (nodes_in new)) more
      ∙ (ap (λ (l : List (Out M)). l ++ outs M (events_of M (drop (k + 1) es)) (nodes_in new)) (map-append (out_of M) came (out ∷ []))
      ∙ (append_assoc (outs_of M came) (out_of M out ∷ []) (outs M (events_of M (drop (k + 1) es)) (nodes_in new))
      ∙ (ap (λ (o : Out M). outs_of M came ++ o ∷ outs M (events_of M (drop (k + 1) es)) (nodes_in new)) h.comes
      ∙ (ap (λ (n : List (Node M.Body)). outs_of M came ++ world.out_of M (nodes_in old) (event_of M e) ∷ outs M (events_of M (drop (k + 1) es)) n) h.nodes
      ∙ (ap (λ (l : List (Event M.Body M.Line M.Target)). outs_of M came ++ outs M (events_of M l) (nodes_in old)) (sym (first_of es k e lt at)) ∙ was)))))

  -- at first all is to come
  pub begins : (es : List (Event M.Body M.Line M.Target)) (cells : List (CellParts Setup Hosted Store M.Body)) (came : List (Outcome M.Effect M.Played)) (n size : ℕ) → n ≡ size → came ≡ [] → nodes_in cells ≡ start n
      → (run M (events_of M es) (nodes_in cells) ≡ run M (events_of M es) (start size)) × (outs_of M came ++ outs M (events_of M es) (nodes_in cells) ≡ outputs M size (events_of M es))
  begins es cells came n size same none h =
      let new : nodes_in cells ≡ start size = h ∙ ap (λ (k : ℕ). let w : List (Node M.Body) = start k in w) same in (
        ap (λ (w : List (Node M.Body)). run M (events_of M es) w) new,
        ap (λ (l : List (Outcome M.Effect M.Played)). outs_of M l ++ outs M (events_of M es) (nodes_in cells)) none ∙ ap (λ (w : List (Node M.Body)). outs M (events_of M es) w) new,
      )

  -- in the end nothing is
  pub world_is : (setup : Setup) (es : List (Event M.Body M.Line M.Target)) (k size : ℕ) (cells : List (CellParts Setup Hosted Store M.Body)) (came : List (Outcome M.Effect M.Played))
      → length es ≤ k → run M (events_of M (drop k es)) (nodes_in cells) ≡ run M (events_of M es) (start size)
      → outs_of M came ++ outs M (events_of M (drop k es)) (nodes_in cells) ≡ outputs M size (events_of M es) → IsWorld M size es (record { setup = setup; nodes = nodes_in cells; outs = came })
  world_is setup es k size cells came past nodes outs_are =
      let none : [] ≡ drop k es = sym (drop_all k es past) in
      record {
        nodes = ap (λ (l : List (Event M.Body M.Line M.Target)). run M (events_of M l) (nodes_in cells)) none ∙ nodes;
        outs = sym (append-nil (outs_of M came)) ∙ (ap (λ (l : List (Event M.Body M.Line M.Target)). outs_of M came ++ outs M (events_of M l) (nodes_in cells)) none ∙ outs_are);
      }

no_refusal : {A : Type 0} (n : ℕ) → (let r : Result A WorldFault = Err Memory in r) ≡ Err (Refused n) → ⊥
no_refusal n h = absurd cc

-- a call that runs out of memory, or returns a world, refuses no size, and was asked for one that groups have
pub memory_is_no_refusal : {A : Type 0} (r : Result A WorldFault) (n : ℕ) → IsGroupSize n → r ≡ Err Memory → (r ≡ Err (Refused n)) ↔ (IsGroupSize n → ⊥)
memory_is_no_refusal r n allowed e = ((λ f. absurd (no_refusal n (sym e ∙ f))), λ no. absurd (no allowed))

pub world_is_no_refusal : {A : Type 0} (w : A) (n : ℕ) → IsGroupSize n → (Ok w ≡ Err (Refused n)) ↔ (IsGroupSize n → ⊥)
world_is_no_refusal w n allowed = ((λ f. absurd cc), λ no. absurd (no allowed))

-- the laws of all lists, of these events
pub agreed_of : (M : Machine) (size : ℕ) (es : List (world.Event M)) → IsAgreed M size es
agreed_of M size es =
    record { one_list = one_list M size es; in_agreed = in_agreed M size es; agreed_grows = agreed_grows M size es; each_brought = each_brought M size es }

pub faithful_of : (M : Machine) (size : ℕ) (es : List (world.Event M)) → IsFaithful M size es
faithful_of M size es = record { looks = looks_are_faithful M size es; applies = apply_is_faithful M size es; no_more = no_more M size es }

pub raft_of : (M : Machine) (size : ℕ) (es : List (world.Event M)) → IsRaft M size es
raft_of M size es =
    record { one_leader = one_leader M size es; one_vote = one_vote M size es; logs_match = logs_match M size es; leaders_hold = leaders_hold M size es }

pub apart_of : (M : Machine) (size : ℕ) (es : List (world.Event M)) → RunsAreApart M size es
apart_of M size es =
    record { boots = new_run_new_boot M size es; origins = asked_in_its_run M size es; applied = applied_stays M size es; sessions = sessions_apart M size es; new_ids = new_id_is_new M size es }

-- a group has seven nodes at most
pub at_most_seven : (cells size : ℕ) → cells ≡ size → IsGroupSize size → cells ≤ 7
at_most_seven cells size same g =
    ⊎_elim (λ e. omega (arith, same, e)) (λ h. ⊎_elim (λ e. omega (arith, same, e)) (λ e. omega (arith, same, e)) h) g

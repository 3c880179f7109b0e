-- What is agreed begins a log that is at least as up to date as that of each node of a majority.
use Rattle.std.proofs.Common.{◌≡◌, ℕ, zero, suc, ◌≤◌, nat_lt, Bool, List, [], ◌∷◌, ◌++◌, length, take, Option, Some, None, refl, sym, ap, subst, ◌∙◌, arith, append_assoc, length-append}
use Rattle.std.proofs.Math.Seq.{take-append_seam}
use Rattle.std.proofs.lemmas.Bool.{cond_both}
use Rattle.std.proofs.lemmas.List.{take_all}
use Rattle.raft_log.specs.declared.entry.Entry.{Entry}
use Rattle.raft_log.specs.Lists.{item}
use Rattle.raft_log.specs.Node.{Node}
use Rattle.raft_node.specs.Machine.{Machine}
use Rattle.agreement.specs.Laws.{IsAsUpToDateAs, IsMajority, longer, longest_now}
use Rattle.agreement.specs.World.{Begins, committed, committed_of, start}
use Rattle.agreement.proofs.Lists.{begins_none}
use Rattle.world_run.specs.World.{Event, agreed, happens, longest_over, moment, run}
use Rattle.world_run.proofs.Holds.{up_to_date_holds}
use Rattle.world_views.proofs.Histories.{run-append}

module _ {B : Type 0} where
  longer_in : (xs ys l : List (Entry B)) → Begins xs l → Begins ys l → Begins (longer xs ys) l
  longer_in xs ys l a b = cond_both (nat_lt (length xs) (length ys)) ys xs (λ z. Begins z l) (λ h. b) (λ h. a)

  behind_first : (s : Node B) (w : List (Node B)) (l : List (Entry B)) → ((a : ℕ) → Begins (committed (s ∷ w) a) l) → (a : ℕ) → Begins (committed w a) l
  behind_first s w l f zero = begins_none l
  behind_first s w l f (suc a) = f (suc (suc a))

  now_in : (w : List (Node B)) (l : List (Entry B)) → ((a : ℕ) → Begins (committed w a) l) → Begins (longest_now w) l
  now_in [] l f = begins_none l
  now_in (s ∷ w) l f = longer_in (take s.commit s.log) (longest_now w) l (f 1) (now_in w l (behind_first s w l f))

module _ (M : Machine) (size node : ℕ) (all : List (Event M)) (last : Node M.Body) (there : item (run M all (start size)) node ≡ Some last) (set : List Bool) (enough : IsMajority size set) (best : IsAsUpToDateAs set (run M all (start size)) last.log) where
  now : moment M size all (length all) ≡ run M all (start size)
  now = ap (λ l. run M l (start size)) (take_all (length all) all (omega arith))

  there_now : item (moment M size all (length all)) node ≡ Some last
  there_now = ap (λ (w : List (Node M.Body)). item w node) now ∙ there

  best_now : IsAsUpToDateAs set (moment M size all (length all)) last.log
  best_now = subst (λ (w : List (Node M.Body)). IsAsUpToDateAs set w last.log) (sym now) best

  module _ (done later : List (Event M)) (parts : done ++ later ≡ all) where
    then : moment M size all (length done) ≡ run M done (start size)
    then = ap (λ l. run M l (start size)) (ap (take (length done)) (sym parts) ∙ take-append_seam done later)

    low : length done ≤ length all
    low = let e = ap length parts in omega (arith, e, length-append done later)

    committed_in : (a : ℕ) (o : Option (Node M.Body)) → item (run M done (start size)) a ≡ o → Begins (committed_of o) last.log
    committed_in a None e = begins_none last.log
    committed_in a (Some x) e =
        up_to_date_holds M size all (length done) (length all) a node x last set low (ap (λ (w : List (Node M.Body)). item w a) then ∙ e) there_now enough best_now

    each_in : (a : ℕ) → Begins (committed (run M done (start size)) a) last.log
    each_in a = committed_in a (item (run M done (start size)) a) refl

  over_in : (later done : List (Event M)) → done ++ later ≡ all → Begins (longest_over M later (run M done (start size))) last.log
  over_in [] done parts = now_in (run M done (start size)) last.log (each_in done [] parts)
  over_in (e ∷ later) done parts =
      let next : run M (done ++ e ∷ []) (start size) ≡ happens M (run M done (start size)) e = run-append M done (e ∷ []) (start size) in
      longer_in (longest_now (run M done (start size))) (longest_over M later (happens M (run M done (start size)) e)) last.log
      (now_in (run M done (start size)) last.log (each_in done (e ∷ later) parts))
      (subst (λ (w : List (Node M.Body)). Begins (longest_over M later w) last.log) next (over_in later (done ++ e ∷ []) (append_assoc done (e ∷ []) later ∙ parts)))

  -- what is agreed over all events begins it
  pub agreed_in : Begins (agreed M size all) last.log
  agreed_in = over_in all [] refl

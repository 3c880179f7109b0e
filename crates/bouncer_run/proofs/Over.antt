-- What the nodes start over, one store after the other.
use Rattle.std.proofs.Common.{◌≡◌, ℕ, suc, ◌+◌, List, [], ◌∷◌, ◌++◌, length, arith, ap, sym, subst, ◌∙◌, append_assoc, append-nil, length-append}
use Rattle.std.specs.Prelude.{Option}
use Rattle.node_threads.specs.declared.opener.PartStore.{PartStore}
use Rattle.bouncer_run.specs.Opened.{AreOver, IsOver}

-- one store more for the first of the journals that are left
pub count_more : {J S : Type 0} (n : ℕ) (left more : List J) (done next : List S) (journal : J) (store : S) → left ≡ journal ∷ more → next ≡ done ++ store ∷ []
    → length done + length left ≡ n → length next + length more ≡ n
count_more n left more done next journal store is pushed count =
    omega (arith, count, ap length is, ap length pushed, length-append done (store ∷ []))

module _ {J L : Type 0} (run_of : L → ℕ) (run : ℕ → ℕ) where
  -- with stores for the journals that are left, there is one for each
  abbrev pub Completes : List (Option J) → List (Option J) → List (PartStore J L) → Type 0
  Completes all left done =
      (stores : List (PartStore J L)) → AreOver run_of run (suc (length done)) left stores → AreOver run_of run 1 all (done ++ stores)

  -- none yet
  pub none_over : (all left : List (Option J)) (done : List (PartStore J L)) → left ≡ all → done ≡ [] → Completes all left done
  none_over all left done is none stores over =
      let first : AreOver run_of run 1 left stores = subst (λ (d : List (PartStore J L)). AreOver run_of run (suc (length d)) left stores) none over in
      let whole : AreOver run_of run 1 all stores = subst (λ (js : List (Option J)). AreOver run_of run 1 js stores) is first in
      subst (λ (d : List (PartStore J L)). AreOver run_of run 1 all (d ++ stores)) (sym none) whole

  -- one more
  pub one_over : (all left more : List (Option J)) (done next : List (PartStore J L)) (journal : Option J) (store : PartStore J L) → left ≡ journal ∷ more
      → next ≡ done ++ store ∷ [] → IsOver run_of (run (suc (length done))) journal store → Completes all left done → Completes all more next
  one_over all left more done next journal store is pushed one completes stores over =
      let many : length next ≡ suc (length done) = omega (arith, ap length pushed, length-append done (store ∷ [])) in
      let behind : AreOver run_of run (suc (suc (length done))) more stores = subst (λ (n : ℕ). AreOver run_of run (suc n) more stores) many over in
      let here : AreOver run_of run (suc (length done)) (journal ∷ more) (store ∷ stores) = (one, behind) in
      let there : AreOver run_of run (suc (length done)) left (store ∷ stores) =
      subst (λ (js : List (Option J)). AreOver run_of run (suc (length done)) js (store ∷ stores)) (sym is) here in
      let same : next ++ stores ≡ done ++ (store ∷ stores) = ap (λ (d : List (PartStore J L)). d ++ stores) pushed ∙ append_assoc done (store ∷ []) stores in
      subst (λ (ss : List (PartStore J L)). AreOver run_of run 1 all ss) (sym same) (completes (store ∷ stores) there)

  -- all of them
  pub all_over : (all left : List (Option J)) (done : List (PartStore J L)) → left ≡ [] → Completes all left done → AreOver run_of run 1 all done
  all_over all left done none completes =
      let over : AreOver run_of run (suc (length done)) left [] =
      subst (λ (js : List (Option J)). AreOver run_of run (suc (length done)) js []) (sym none) tt in
      subst (λ (ss : List (PartStore J L)). AreOver run_of run 1 all ss) (append-nil done) (completes [] over)

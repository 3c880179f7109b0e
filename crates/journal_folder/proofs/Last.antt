-- The last run that began according to a list.
use Rattle.std.proofs.Common.{◌≡◌, ℕ, ◌<◌, max, suc, Some, List, length, drop, get_or, sym, ap, ◌∙◌, subst, arith}
use Rattle.std.proofs.Math.Seq.{drop-cons}
use Rattle.std.proofs.lemmas.Option.{get_or_from_slice_get}
use Rattle.bouncer_tower.specs.Bodies.{TowerBody}
use Rattle.raft_log.specs.declared.entry.Entry.{Entry}
use Rattle.raft_log.specs.Lists.{item}
use Rattle.journal_folder.specs.Runs.{last_run, run_in}

max_of_three : (a b c : ℕ) → max (max a b) c ≡ max a (max b c)
max_of_three a b c = omega arith

-- one more entry
pub one_more : (node last i : ℕ) (es : List (Entry TowerBody)) (e : Entry TowerBody) → i < length es
    → max (max last (run_in node (get_or es i e).body)) (last_run node (drop (suc i) es)) ≡ max last (last_run node (drop i es))
one_more node last i es e h =
    max_of_three last (run_in node (get_or es i e).body) (last_run node (drop (suc i) es))
    ∙ ap (λ (rest : List (Entry TowerBody)). max last (last_run node rest)) (sym (drop-cons es i e h))

-- one more entry of a log, by its index
pub one_more_at : (node last i k j b : ℕ) (es : List (Entry TowerBody)) (e : Entry TowerBody) → k ≡ suc i → j ≡ suc i → i < length es → item es k ≡ Some e → b ≡ max last (run_in node e.body)
    → max last (last_run node (drop i es)) ≡ last_run node es → max b (last_run node (drop j es)) ≡ last_run node es
one_more_at node last i k j b es e is next lt at most so_far =
    let there : get_or es i e ≡ e = get_or_from_slice_get es i e e (subst (λ (n : ℕ). item es n ≡ Some e) is at) in
    ap (λ (m : ℕ). max m (last_run node (drop j es))) most
    ∙ (ap (λ (n : ℕ). max (max last (run_in node e.body)) (last_run node (drop n es))) next
    ∙ (ap (λ (x : Entry TowerBody). max (max last (run_in node x.body)) (last_run node (drop (suc i) es))) (sym there)
    ∙ (one_more node last i es e lt ∙ so_far)))

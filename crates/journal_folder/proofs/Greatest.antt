-- The greatest boot that a list mentions.
use Rattle.std.proofs.Common.{◌≡◌, ℕ, ◌≤◌, ◌<◌, max, suc, Some, List, [], ◌∷◌, length, drop, get_or, sym, ap, ◌∙◌, subst, arith}
use Rattle.std.proofs.Math.Nat.{le-max_left, le-max_right}
use Rattle.std.proofs.Math.Seq.{drop-cons}
use Rattle.std.proofs.lemmas.List.{drop_all}
use Rattle.std.proofs.lemmas.List.Elements.{All-nil, All-cons, All-weaker}
use Rattle.std.proofs.lemmas.Option.{get_or_from_slice_get}
use Rattle.std.specs.List.{All}
use Rattle.bouncer_tower.specs.Bodies.{TowerBody}
use Rattle.raft_log.specs.declared.entry.Entry.{Entry}
use Rattle.raft_log.specs.Lists.{item}
use Rattle.journal_folder.specs.Runs.{greatest_boot, boot_in}

-- no entry mentions a later one
pub none_is_later : (node : ℕ) (es : List (Entry TowerBody)) → All (λ e. boot_in node e.body ≤ greatest_boot node es) es
none_is_later node [] = All-nil (λ e. boot_in node e.body ≤ 0)
none_is_later node (e ∷ es) =
    All-cons (λ x. boot_in node x.body ≤ max (boot_in node e.body) (greatest_boot node es)) e es (le-max_left (boot_in node e.body) (greatest_boot node es))
    (All-weaker (λ x. boot_in node x.body ≤ greatest_boot node es) (λ x. boot_in node x.body ≤ max (boot_in node e.body) (greatest_boot node es))
    (λ x le. omega (arith, le, le-max_right (boot_in node e.body) (greatest_boot node es))) es (none_is_later node es))

max_zero : (a : ℕ) → max a 0 ≡ a
max_zero a = omega arith

max_of_three : (a b c : ℕ) → max (max a b) c ≡ max a (max b c)
max_of_three a b c = omega arith

-- one more entry
pub one_more : (node greatest i : ℕ) (es : List (Entry TowerBody)) (e : Entry TowerBody) → i < length es
    → max (max greatest (boot_in node (get_or es i e).body)) (greatest_boot node (drop (suc i) es)) ≡ max greatest (greatest_boot node (drop i es))
one_more node greatest i es e h =
    max_of_three greatest (boot_in node (get_or es i e).body) (greatest_boot node (drop (suc i) es))
    ∙ ap (λ (rest : List (Entry TowerBody)). max greatest (greatest_boot node rest)) (sym (drop-cons es i e h))

-- one more entry of a log, by its index
pub one_more_at : (node greatest i k j b : ℕ) (es : List (Entry TowerBody)) (e : Entry TowerBody) → k ≡ suc i → j ≡ suc i → i < length es → item es k ≡ Some e → b ≡ max greatest (boot_in node e.body)
    → max greatest (greatest_boot node (drop i es)) ≡ greatest_boot node es → max b (greatest_boot node (drop j es)) ≡ greatest_boot node es
one_more_at node greatest i k j b es e is next lt at most so_far =
    let there : get_or es i e ≡ e = get_or_from_slice_get es i e e (subst (λ (n : ℕ). item es n ≡ Some e) is at) in
    ap (λ (m : ℕ). max m (greatest_boot node (drop j es))) most
    ∙ (ap (λ (n : ℕ). max (max greatest (boot_in node e.body)) (greatest_boot node (drop n es))) next
    ∙ (ap (λ (x : Entry TowerBody). max (max greatest (boot_in node x.body)) (greatest_boot node (drop (suc i) es))) (sym there)
    ∙ (one_more node greatest i es e lt ∙ so_far)))

-- nor one later than the greatest of all
pub none_behind : (node greatest i : ℕ) (es : List (Entry TowerBody)) → max greatest (greatest_boot node (drop i es)) ≡ greatest_boot node es → length es ≤ i
    → All (λ e. boot_in node e.body ≤ greatest) es
none_behind node greatest i es is h =
    subst (λ (n : ℕ). All (λ e. boot_in node e.body ≤ n) es) (sym is ∙ (ap (λ (rest : List (Entry TowerBody)). max greatest (greatest_boot node rest)) (drop_all i es h) ∙ max_zero greatest))
    (none_is_later node es)

-- A log that is saved block by block.
use Rattle.std.proofs.Common.{◌≡◌, ℕ, ◌+◌, ◌*◌, ◌≤◌, List, ◌++◌, length, take, drop, Some, ap, sym, subst, ◌∙◌, arith}
use Rattle.raft_log.specs.Batches.{batch_limit}
use Rattle.raft_log.specs.Logs.{entry_limit}
use Rattle.raft_log.specs.declared.entry.Entry.{Entry}
use Rattle.stable_store.specs.Changes.{change}
use Rattle.stable_store.specs.Stores.{MayFollow}
use Rattle.stable_store.specs.declared.saved.Saved.{Saved}
use Rattle.journal_folder.specs.Saving.{begun_anew}
use Rattle.std.proofs.lemmas.List.{drop-take, length-drop, length-take, take-append-drop, take-take}

self_le : (n : ℕ) → n ≤ n
self_le n = omega arith

one_of_seven : 1 ≤ 7
one_of_seven = omega arith

le_more : (n m : ℕ) → n ≤ n + m
le_more n m = omega arith

-- this many entries, and as many more
pub one_block : {X : Type 0} (n m : ℕ) (xs : List X) → take n (take n xs) ++ take m (drop n xs) ≡ take (n + m) xs
one_block n m xs =
    ap (λ (front : List _). front ++ take m (drop n xs)) (take-take n n xs (self_le n))
    ∙ (ap (λ (front : List _). front ++ take m (drop n xs)) (sym (take-take n (n + m) xs (le_more n m)))
    ∙ (ap (λ (behind : List _). take n (take (n + m) xs) ++ behind) (sym (drop-take n m xs))
    ∙ take-append-drop n (take (n + m) xs)))

-- a block has no more entries than that
pub few : {X : Type 0} (m n : ℕ) (xs : List X) → length (take m (drop n xs)) ≤ m
few m n xs = omega (arith, length-take m (drop n xs))

-- if there are this many, they and the next block are within the whole
pub within : {X : Type 0} (n m : ℕ) (xs : List X) → n ≤ length xs → n + length (take m (drop n xs)) ≤ length xs
within n m xs h = omega (arith, h, length-take m (drop n xs), length-drop n xs)

module _ {B : Type 0} where
  -- the next block may follow those that are saved
  pub follows : (boot term block kept : ℕ) (log es : List (Entry B)) (s : Saved B) → kept ≡ block * batch_limit → kept ≤ length log → length log ≤ entry_limit
      → s ≡ begun_anew boot term (take (block * batch_limit) log) → es ≡ take batch_limit (drop kept log) → MayFollow s (change boot term (Some 1) kept es)
  follows boot term block kept log es s at there limit is entries =
      subst (λ (t : Saved B). MayFollow t (change boot term (Some 1) kept es)) (sym is) (record {
        kept = omega (arith, at, there, length-take (block * batch_limit) log);
        room = subst (λ (xs : List (Entry B)). kept + length xs ≤ entry_limit) (sym entries) (omega (arith, limit, within kept batch_limit log there));
        boot = self_le boot;
        term = self_le term;
        vote = (self_le 1, one_of_seven);
      })

  -- and then one more block is saved
  pub next_saved : (boot term block kept : ℕ) (log es : List (Entry B)) (s new : Saved B) → kept ≡ block * batch_limit → s ≡ begun_anew boot term (take (block * batch_limit) log)
      → es ≡ take batch_limit (drop kept log) → new ≡ begun_anew boot term (take kept s.log ++ es) → new ≡ begun_anew boot term (take ((block + 1) * batch_limit) log)
  next_saved boot term block kept log es s new at is entries saved =
      let behind : kept + batch_limit ≡ (block + 1) * batch_limit = omega (arith, at) in
      saved ∙ ap (λ (xs : List (Entry B)). begun_anew boot term xs)
      (ap (λ (t : Saved B). take kept t.log ++ es) is
      ∙ (ap (λ (n : ℕ). take kept (take n log) ++ es) (sym at)
      ∙ (ap (λ (xs : List (Entry B)). take kept (take kept log) ++ xs) entries
      ∙ (one_block kept batch_limit log ∙ ap (λ (n : ℕ). take n log) behind))))

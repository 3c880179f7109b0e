use Rattle.std.proofs.Common.{◌≡◌, ◌++◌, map, filter}
use Rattle.std.specs.Vec.Iter.{into_iter_items}
use Rattle.client_gate.specs.Words.{is_some_word, words}
use Rattle.client_gate.proofs.splitting.words.Given as goal

abbrev pub invariant-loop-piece : goal.invariant-loop-piece
invariant-loop-piece l =
    map (λ x. x.now) l.all.items ++ filter is_some_word (map (λ x. x.now) (into_iter_items l.piece-iterator)) ≡ words l.text

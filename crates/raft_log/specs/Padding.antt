-- Seven items are determined by those within the size. This lemma need not be trusted.
use Rattle.std.proofs.Common.{◌≡◌, ℕ, ◌-◌, List, ◌++◌, length, take, replicate, sym, ap, ◌∙◌, arith, take-append-drop, length-take}
use Rattle.raft_log.specs.Peers.{IsPadded, padded}

pub padded-take : {A : Type 0} (x : A) (size : ℕ) (xs : List A) → IsPadded x size xs → padded x (take size xs) ≡ xs
padded-take {A} x size xs h =
    let count : 7 - length (take size xs) ≡ 7 - size = omega (arith, length-take size xs, h.seven) in
    ap (λ (n : ℕ). take size xs ++ replicate n x) count
    ∙ (ap (λ (t : List A). take size xs ++ t) (sym h.rest) ∙ take-append-drop size xs)

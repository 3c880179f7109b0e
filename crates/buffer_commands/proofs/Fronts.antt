-- The kind byte at the front of an input.
use Rattle.std.proofs.Common.{◌≡◌, ℕ, ◌<◌, List, [], ◌∷◌, length, drop, get_or, ap, arith}

-- an input that begins with a byte is that byte and what follows it
pub front_is : (input : List ℕ) (kind : ℕ) → 0 < length input → get_or input 0 0 ≡ kind → input ≡ kind ∷ drop 1 input
front_is [] kind h e = absurd (omega (arith, h))
front_is (b ∷ rest) kind h e = ap (λ (n : ℕ). n ∷ rest) e

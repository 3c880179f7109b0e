-- Numbers in decimal digits, and texts that are no numbers.
use Rattle.std.proofs.Common.{◌≡◌, ◌≢◌, ℕ, ◌<◌, ◌⊎◌, inl, inr, List, Result, Ok, Err, sym, subst, ap, ◌∙◌, arith}
use Rattle.std.specs.Prelude.{decimal}
use Rattle.std.specs.Str.{IsUtf8}
use Rattle.std.specs.Str.Parse.{ParsesUnsigned}
use Rattle.std.proofs.lemmas.Fmt.{IsAscii-decimal, parse-decimal, decimal_injective}
use Rattle.std.proofs.lemmas.Str.{IsUtf8-from_ascii}
use Rattle.raft_log.specs.Lists.{IsNode}
use Rattle.recorder.specs.Readings.{IsWord}

-- bytes that are no text are no number
pub no_text : (bytes : List ℕ) → (IsUtf8 bytes → ⊥) → (n : ℕ) → IsWord n → decimal n ≡ bytes → ⊥
no_text bytes none n small e = none (subst IsUtf8 e (IsUtf8-from_ascii (decimal n) (IsAscii-decimal n small)))

-- nor is a text that does not parse
pub no_number : {E : Type 0} (bytes : List ℕ) (r : Result ℕ E) (fault : E) → ParsesUnsigned 64 10 bytes r → r ≡ Err fault → (n : ℕ) → IsWord n → decimal n ≡ bytes → ⊥
no_number bytes r fault h is n small e = let read : r ≡ Ok n = parse-decimal 64 n bytes r small small (sym e) h in absurd cc

-- nor is another text of a number
pub another_text : {E : Type 0} (bytes : List ℕ) (r : Result ℕ E) (m : ℕ) → ParsesUnsigned 64 10 bytes r → r ≡ Ok m → decimal m ≢ bytes → (n : ℕ) → IsWord n → decimal n ≡ bytes → ⊥
another_text bytes r m h is other n small e =
    let read : r ≡ Ok n = parse-decimal 64 n bytes r small small (sym e) h in
    let same : m ≡ n = cc in
    other (ap decimal same ∙ e)

-- a number past those of nodes is no node
pub no_node : (bytes : List ℕ) (m : ℕ) → IsWord m → decimal m ≡ bytes → (m < 1) ⊎ (7 < m) → (n : ℕ) → IsNode n → decimal n ≡ bytes → ⊥
no_node bytes m small is past n node e =
    let same : m ≡ n = decimal_injective m n small (omega (arith, node)) (is ∙ sym e) in
    elim past [ inl low ↦ omega (arith, low, node, same) | inr high ↦ omega (arith, high, node, same) ]

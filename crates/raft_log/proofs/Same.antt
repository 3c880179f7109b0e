-- Two values with one spelling are equal.
use Rattle.std.proofs.Common.{◌≡◌, ℕ, List, [], ◌++◌, length, set, get_or, Result, Ok, sym, ap, ◌∙◌}
use Rattle.std.proofs.lemmas.List.{set-get_or}
use Rattle.wire_bytes.specs.declared.wire_fault.WireFault.{WireFault}
use Rattle.wire_bytes.specs.Fields.{Reading}
use Rattle.wire_bytes.specs.Codecs.{IsCodec, value_is}

pub one_value : {X : Type 0} (spelled : X → List ℕ) (fits : X → Type 0) (taken : Reading X) → IsCodec spelled fits taken
    → (a b : X) → fits a → fits b → spelled a ≡ spelled b → a ≡ b
one_value {X} spelled fits taken codec a b fa fb same =
    let one : taken (spelled a ++ []) ≡ Ok (a, length (spelled a)) = codec.read_back a [] fa in
    let two : taken (spelled b ++ []) ≡ Ok (b, length (spelled b)) = codec.read_back b [] fb in
    let texts : taken (spelled a ++ []) ≡ taken (spelled b ++ []) = ap (λ (t : List ℕ). taken (t ++ [])) same in
    ap (λ (r : X × ℕ). r.0) (value_is (a, length (spelled a)) (b, length (spelled b)) (sym one ∙ (texts ∙ two)))

-- what was at a place, put there again
pub put_again : {X : Type 0} (xs : List X) (i : ℕ) (d : X) → set xs i (get_or xs i d) ≡ xs
put_again xs i d = set-get_or xs i d

-- Lines at the front of a text.
use Rattle.std.proofs.Common.{◌≡◌, ℕ, ◌<◌, List, ◌∷◌, ◌++◌, Option, None, Some, ap, refl, subst, sym, ◌∙◌, arith}
use Rattle.std.specs.Prelude.{◌↔◌, IfSome, IsSome, decimal}
use Rattle.std.proofs.lemmas.Fmt.{decimal_injective}
use Rattle.raft_log.specs.Peers.{IsGroupSize}
use Rattle.recorder.specs.Readings.{FitsDigits, IsWord, ReadsAs, digits_of}
use Rattle.recorder.specs.Splits.{split_at}
use Rattle.recorder.proofs.Lines.{digits_lack}
use Rattle.recorder.proofs.Splits.{joined, number_lacks, parts}

-- Over values with a text that holds no LF
module _ {A : Type 0} (text : A → List ℕ) (fits : A → Type 0) (lacks : (a : A) → fits a → split_at 10 (text a) ≡ None) where
  pub falls : (p : A × List ℕ) (rest : List ℕ) → fits p.0 → text p.0 ++ 10 ∷ p.1 ≡ rest → split_at 10 rest ≡ Some (text p.0, p.1)
  falls p rest f t = subst (λ (r : List ℕ). split_at 10 r ≡ Some (text p.0, p.1)) t (joined 10 (text p.0) p.1 (lacks p.0 f))

  -- the value of the first line, and what follows the line
  pub line_read : (rest line behind : List ℕ) (a : A) → split_at 10 rest ≡ Some (line, behind) → text a ≡ line → text a ++ 10 ∷ behind ≡ rest
  line_read rest line behind a s t = ap (λ (l : List ℕ). l ++ 10 ∷ behind) t ∙ parts 10 rest line behind s

  -- a first line that no value has
  pub no_line : (rest line behind : List ℕ) → split_at 10 rest ≡ Some (line, behind) → ReadsAs text fits line None → (p : A × List ℕ) → fits p.0 → text p.0 ++ 10 ∷ p.1 ≡ rest → ⊥
  no_line rest line behind s none p f t =
      let l = falls p rest f t in
      let pair : (text p.0, p.1) ≡ (line, behind) = cc in
      none p.0 f (ap (λ (q : List ℕ × List ℕ). q.0) pair)

  -- a text without a LF
  pub no_end : (rest : List ℕ) → split_at 10 rest ≡ None → (p : A × List ℕ) → fits p.0 → text p.0 ++ 10 ∷ p.1 ≡ rest → ⊥
  no_end rest s p f t = let l = falls p rest f t in absurd cc

pub size_lacks : (n : ℕ) → IsGroupSize n → split_at 10 (decimal n) ≡ None
size_lacks n allowed = number_lacks 10 n (omega arith) (omega (arith, allowed))

pub setup_lacks : {S : Type 0} (spelled : S → List ℕ) (fits : S → Type 0) (s : S) → FitsDigits fits spelled s → split_at 10 (digits_of spelled s) ≡ None
setup_lacks spelled fits s f = digits_lack (spelled s) f.1

-- the size that a number is, if a group has it
pub size_of_number : (word : List ℕ) (number : ℕ) (r : Option ℕ) → IsWord number → decimal number ≡ word → IfSome r (λ s. s ≡ number) → (IsSome r ↔ IsGroupSize number) → ReadsAs decimal IsGroupSize word r
size_of_number word number (Some s) small t e h = (subst IsGroupSize (sym e) (h.0 refl), ap decimal e ∙ t)
size_of_number word number None small t e h = λ a allowed u.
    let same : a ≡ number = decimal_injective a number (omega (arith, allowed)) small (u ∙ sym t) in
    let none : Option ℕ = None in
    let some : IsSome none = h.1 (subst IsGroupSize same allowed) in
    absurd cc

-- no group has a size past 7
pub no_size : (word : List ℕ) (number : ℕ) → IsWord number → decimal number ≡ word → 7 < number → (a : ℕ) → IsGroupSize a → decimal a ≡ word → ⊥
no_size word number small t past a allowed u =
    let same : a ≡ number = decimal_injective a number (omega (arith, allowed)) small (u ∙ sym t) in
    absurd (omega (arith, same, allowed, past))

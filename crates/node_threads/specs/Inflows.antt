-- What an inflow gives.
use Rattle.std.specs.Prelude.{◌≡◌, Bool, false, List, [], ◌∷◌}
use Rattle.node_threads.specs.declared.inflow.Next.{Next}
use Rattle.node_threads.specs.declared.inflow.Next.TheVariants as next

module _ {I J : Type 0} (gives : I → Bool → Next J → I → Type 0) where
  -- Between these states an inflow gave these things, in order, and nothing else. It might wait for the first if this
  -- says so, and for no other.
  abbrev pub GivenInRound : Bool → I → List (Next J) → I → Type 0
  GivenInRound may_wait i [] k = k ≡ i
  GivenInRound may_wait i (x ∷ xs) k = (j : I) × gives i may_wait x j × GivenInRound false j xs k

  -- and it might wait for any, or not
  abbrev pub Given : I → List (Next J) → I → Type 0
  Given i [] k = k ≡ i
  Given i (x ∷ xs) k = (may_wait : Bool) × (j : I) × gives i may_wait x j × Given j xs k

-- the jobs among these, in order
abbrev pub jobs_in : {J : Type 0} → List (Next J) → List J
jobs_in [] = []
jobs_in (next.Job j ∷ xs) = j ∷ jobs_in xs
jobs_in (next.Nothing ∷ xs) = jobs_in xs
jobs_in (next.Over ∷ xs) = jobs_in xs

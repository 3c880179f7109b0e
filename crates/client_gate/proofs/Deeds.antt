-- Deeds done one after the other.
use Rattle.std.proofs.Common.{◌≡◌, ℕ, List, [], ◌∷◌, ◌++◌, refl}
use Rattle.client_gate.specs.Turns.{Deed, Progress, done, all_done}

pub all_done_append : (nick : List ℕ) (p : Progress) (a b : List Deed) → all_done nick p (a ++ b) ≡ all_done nick (all_done nick p a) b
all_done_append nick p [] b = refl
all_done_append nick p (d ∷ ds) b = all_done_append nick (done nick p d) ds b

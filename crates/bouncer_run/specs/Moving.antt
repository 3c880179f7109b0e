-- Bytes that leave the front of what waits, for a writer.
use Rattle.std.specs.Prelude.{◌≡◌, ℕ, List, ◌++◌, Option}
use Rattle.std.specs.Io.KnownBytes.{Appends}

-- a writer took some bytes, in order: they left the front of what waited, and nothing else did
pub record Moves (old new : List ℕ) (before after : Option (List ℕ)) : Type 0 where
  pub taken : List ℕ
  pub front : old ≡ taken ++ new
  pub given : Appends before after taken

-- A disk over an open file, as contracts see it.
use Rattle.std.specs.Prelude.{ℕ}

-- its file, and how many calls of it failed
pub record Counted (F : Type 0) : Type 0 where
  pub file : F
  pub failures : ℕ

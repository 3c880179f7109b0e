-- Where the parts of a line are in its canonical spelling.
use Rattle.std.specs.Prelude.{◌≡◌, ◌≤◌, IsTrue, ℕ, ◌+◌, ◌-◌, ◌==◌, if◌then◌else◌, List, length, drop, slice_range, Option, Some, None}
use Rattle.irc_line.specs.Lines.{Parts, is_line, spelled_prefix, spelling}
use Rattle.irc_line.specs.Reading.{parameters_of}

-- the prefix of a text whose command begins at this place: there is a colon before it and a space after it
abbrev pub cut_prefix : List ℕ → ℕ → Option (List ℕ)
cut_prefix text command = if command == 0 then None else Some (slice_range text 1 (command - 1))

-- the parts of a text whose command begins at the first place and ends at the second
abbrev pub cut_parts : List ℕ → ℕ → ℕ → Parts
cut_parts text command tail =
    record { prefix = cut_prefix text command; command = slice_range text command tail; parameters = parameters_of (drop tail text) }

-- a text is the canonical spelling of these parts, which are a line's, and its command lies between these places
pub record IsCut (text : List ℕ) (command tail : ℕ) (p : Parts) : Type 0 where
  pub line : IsTrue (is_line p)
  pub whole : text ≡ spelling p
  pub command_place : command ≡ length (spelled_prefix p.prefix)
  pub tail_place : tail ≡ command + length p.command

-- a text is the canonical spelling of the parts that these places cut out of it, within the text
pub record IsHeld (text : List ℕ) (command tail : ℕ) : Type 0 where
  pub cut : IsCut text command tail (cut_parts text command tail)
  pub command_end : command ≤ tail
  pub tail_end : tail ≤ length text
  pub prefix_end : ¬ (command ≡ 0) → 2 ≤ command

-- What was handed out upstream, and how many calls failed.
use Rattle.std.specs.Prelude.{◌≡◌, ◌⊎◌, ℕ, suc, if◌then◌else◌, nat_lt, List, [], ◌∷◌, ◌++◌}
use Rattle.irc_line.specs.Lines.{Parts}

-- a line with its number
abbrev pub Numbered : Type 0
Numbered = ℕ × Parts

-- the numbers and lines that were handed out, in order, and how many calls failed
pub record Tally : Type 0 where
  pub handed : List Numbered
  pub failures : ℕ

-- one more; a count at the greatest u64 stays there
abbrev pub one_more : ℕ → ℕ
one_more n = if nat_lt n 18446744073709551615 then suc n else n

-- this was handed out
abbrev pub taken : Numbered → Tally → Tally
taken h t = record t { handed = t.handed ++ h ∷ [] }

-- a call failed
abbrev pub failed : Tally → Tally
failed t = record t { failures = one_more t.failures }

-- one call for each of these, in order, and no other: each is handed out, or fails and is not tried again
abbrev pub HandsOut : List Numbered → Tally → Tally → Type 0
HandsOut [] old new = new ≡ old
HandsOut (h ∷ hs) old new = HandsOut hs (taken h old) new ⊎ HandsOut hs (failed old) new

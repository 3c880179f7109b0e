-- Events and their text are inverse.
use Rattle.std.specs.Prelude.{◌≡◌, ℕ, List}
use Rattle.irc_line.specs.Lines.{Parts}
use Rattle.world_events.specs.declared.event.Event.{Event}
use Rattle.recorder.specs.EventLists.{AreOf, IsFirstBad}

-- Over bodies, with their spelling and limits
module _ {B : Type 0} (spelled : B → List ℕ) (fits : B → Type 0) where
  -- no two lists of events have the same text
  abbrev pub HaveTheirOwnText : Type 0
  HaveTheirOwnText = (text : List ℕ) (a b : List (Event B Parts (List ℕ))) → AreOf spelled fits text a → AreOf spelled fits text b → a ≡ b

  -- no line of a text of events is bad
  abbrev pub HaveNoBadLine : Type 0
  HaveNoBadLine = (text : List ℕ) (events : List (Event B Parts (List ℕ))) (number : ℕ) → AreOf spelled fits text events → IsFirstBad spelled fits text number → ⊥

  -- a text has at most one first bad line
  abbrev pub HasOneFirstBad : Type 0
  HasOneFirstBad = (text : List ℕ) (one other : ℕ) → IsFirstBad spelled fits text one → IsFirstBad spelled fits text other → one ≡ other

-- A gate is a function of the list of calls that came to it. The newest call is first.
use Rattle.std.specs.Prelude.{◌≡◌, ℕ, false, List, [], ◌∷◌, ◌++◌, drop, length}
use Rattle.irc_line.specs.declared.item.Item.{Item}
use Rattle.irc_line.specs.Splitting.{items}
use Rattle.irc_line.specs.Splitting as splitting
use Rattle.client_gate.specs.declared.settings.Settings.{Settings}
use Rattle.client_gate.specs.Gates.{Gate, Given, GateEffect, fresh, after_items, given_items, after_effect, after_end, shut}

-- a call, except `again`, which changes nothing; a call that ran out of memory is Refused, whatever it was
pub data Call : Type 0 where
  Feed : List ℕ → Call
  Hear : GateEffect → Call
  End : Call
  Refused : Call

-- all bytes that were fed
abbrev pub all_bytes : List Call → List ℕ
all_bytes [] = []
all_bytes (Feed bytes ∷ earlier) = all_bytes earlier ++ bytes
all_bytes (_ ∷ earlier) = all_bytes earlier

-- the items of all bytes, after those of the bytes that were fed before
abbrev pub items_brought : List Call → List ℕ → List Item
items_brought earlier bytes = drop (length (items (all_bytes earlier))) (items (all_bytes earlier ++ bytes))

-- the gate after these calls
unfoldable pub gate : Settings → List Call → Gate
gate s [] = fresh
gate s (Feed bytes ∷ earlier) = after_items s (gate s earlier) (items_brought earlier bytes)
gate s (Hear effect ∷ earlier) = after_effect s (gate s earlier) effect
gate s (End ∷ earlier) = after_end (gate s earlier)
gate s (Refused ∷ earlier) = shut (gate s earlier)

-- the answer to bytes after these calls
unfoldable pub fed_answer : Settings → List Call → List ℕ → Given
fed_answer s earlier bytes = given_items s (gate s earlier) (items_brought earlier bytes)

-- what a gate holds: its settings, its state, and the bytes that its splitter holds
pub record Held : Type 0 where
  pub settings : Settings
  pub gate : Gate
  pub bytes : List ℕ

-- the gate is in the state to which these calls lead; a closed one reads no more bytes
pub record Stands (s : Settings) (calls : List Call) (held : Held) : Type 0 where
  pub made : held.settings ≡ s
  pub led : held.gate ≡ gate s calls
  pub split : held.gate.closed ≡ false → splitting.Stands held.bytes (all_bytes calls)

-- the same gate, whatever its splitter holds
pub record KeepsGate (old new : Held) : Type 0 where
  pub settings : new.settings ≡ old.settings
  pub gate : new.gate ≡ old.gate

-- an open gate takes bytes and answers them: what counts are their items, whatever was fed before
pub record Takes (old : Held) (bytes : List ℕ) (fed : Given) (new : Held) : Type 0 where
  pub settings : new.settings ≡ old.settings
  pub got : List Item
  pub brings : splitting.BringsItems old.bytes bytes got
  pub behind : splitting.StandsBehind old.bytes bytes new.bytes
  pub gate : new.gate ≡ after_items old.settings old.gate got
  pub answer : fed ≡ given_items old.settings old.gate got

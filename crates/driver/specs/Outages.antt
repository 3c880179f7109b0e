-- What clients are sent when their node serves nobody.
use Rattle.std.specs.Prelude.{◌≡◌, ◌+◌, ℕ, Bool, true, false, codes, List, [], ◌∷◌, ◌++◌}
use Rattle.std.specs.Global.{Vec}
use Rattle.driver.specs.declared.absence.Absence.{Absence}
use Rattle.driver.specs.declared.absence.Absence.TheVariants.{Down, Hanging}
use Rattle.driver.specs.declared.client.Client.{Client}
use Rattle.driver.specs.declared.order.Order.TheVariants.{Close, Write}
use Rattle.driver.specs.Clients.{left_news}
use Rattle.driver.specs.Telling.{Ordered, ordered}

-- why a node serves nobody, in words, up to the end of the line
abbrev pub words_of : Absence → List ℕ
words_of Down = codes " is down" ++ 13 ∷ 10 ∷ []
words_of Hanging = codes " does not answer" ++ 13 ∷ 10 ∷ []

-- the line for clients of a node that serves nobody
abbrev pub absence_line : Absence → ℕ → List ℕ
absence_line why node = codes "ERROR :node " ++ (48 + node) ∷ words_of why

-- a connected client gets the reason why its node serves nobody, and then it is closed; nothing is asked of the node
abbrev pub IsToldIf : Bool → Absence → Client → Ordered → Ordered → Type 0
IsToldIf true why c before after = after ≡ before
IsToldIf false why c before after =
    (line : Vec ℕ) × (line.items ≡ absence_line why c.origin.0)
    × (after ≡ ordered before (Write c.origin.2 line ∷ Close c.origin.2 ∷ left_news c.is_attached c.origin))

-- a client gets the reason why its node serves nobody, and is closed, unless its connection is gone already
abbrev pub IsToldOff : Absence → Client → Ordered → Ordered → Type 0
IsToldOff why c before after = IsToldIf c.is_gone why c before after

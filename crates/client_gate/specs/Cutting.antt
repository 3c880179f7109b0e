-- What is the same however a client's bytes are cut.
use Rattle.std.specs.Prelude.{◌≡◌, ℕ, ◌||◌, List, ◌∷◌, ◌++◌}
use Rattle.client_gate.specs.declared.settings.Settings.{Settings}
use Rattle.client_gate.specs.Gates.{Given}
use Rattle.client_gate.specs.Calls.{Call, Feed, fed_answer, gate}

-- two answers, one after the other
abbrev pub joined : Given → Given → Given
joined a b = record { requests = a.requests ++ b.requests; reply = a.reply ++ b.reply; words = a.words ++ b.words; close = a.close || b.close }

-- bytes fed in two pieces lead to the same gate as in one
abbrev pub LeadsAlike : Settings → List Call → List ℕ → List ℕ → Type 0
LeadsAlike s calls first second = gate s (Feed second ∷ Feed first ∷ calls) ≡ gate s (Feed (first ++ second) ∷ calls)

-- and get the same answer
abbrev pub AnswersAlike : Settings → List Call → List ℕ → List ℕ → Type 0
AnswersAlike s calls first second =
    joined (fed_answer s calls first) (fed_answer s (Feed first ∷ calls) second) ≡ fed_answer s calls (first ++ second)

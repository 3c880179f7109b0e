-- What an answer in memory says.
use Rattle.client_gate.specs.declared.fed.Fed.{Fed}
use Rattle.client_gate.specs.Gates.{Given}

-- an answer's lists
abbrev pub given_in : Fed → Given
given_in fed = record { requests = fed.requests.items; reply = fed.reply.items; words = fed.words.items; close = fed.close }

use Rattle.std.proofs.Common.{rules}
use Rattle.std.proofs.lemmas.Result.{on_ok_weaker}
use Rattle.driver.proofs.link.Link.write.Goals as goal

pub returns-clause-sent : goal.returns-clause-sent
returns-clause-sent c =
    on_ok_weaker c.send.result (λ sent. record { bytes = c.in_ok-bytes.bytes; are = search rules; orders = sent }) c.send.ensures

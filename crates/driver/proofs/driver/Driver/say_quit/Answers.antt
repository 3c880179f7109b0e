use Rattle.std.proofs.Common.{rules}
use Rattle.std.proofs.lemmas.Result.{on_ok_weaker}
use Rattle.driver.proofs.driver.Driver.say_quit.Goals as goal

pub returns : goal.returns
returns c =
    on_ok_weaker c.send.result (λ sent. record { bytes = c.in_ok-quit.quit; are = search rules; orders = sent; rest = search rules }) c.send.ensures

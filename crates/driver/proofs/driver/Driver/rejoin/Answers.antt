use Rattle.std.proofs.Common.{◌∙◌, ◌≡◌, ℕ, List, rules, sym, subst}
use Rattle.std.proofs.lemmas.Result.{on_ok_weaker}
use Rattle.std.specs.BTreeMap.{keys}
use Rattle.irc_line.specs.Lines.{parameter}
use Rattle.driver.specs.Crowds.{told}
use Rattle.driver.specs.Driving.{told_of}
use Rattle.driver.specs.Kicks.{KickEach, kick_line}
use Rattle.driver.specs.Nicks.{nick_in}
use Rattle.driver.proofs.Kicks.{rejoins_so}
use Rattle.driver.proofs.driver.Driver.rejoin.Goals as goal

pub returns-clause-told : goal.returns-clause-told
returns-clause-told c =
    let kicked = told c.kick_all.new.self c.kick_all.new.orders in
    let numbers = keys c.args.self.now.clients.all in
    let named : c.parameter-channel.result.now ≡ parameter 0 c.args.line.now = search rules in
    let written : c.as_slice.result.now ≡ kick_line c.parameter-channel.result.now (nick_in c.args.self.now) = search rules in
    let kicks = subst (λ (channel : List ℕ). KickEach channel (kick_line channel (nick_in c.args.self.now)) numbers (told_of c.args.self.now) kicked) named
    (subst (λ (text : List ℕ). KickEach c.parameter-channel.result.now text numbers (told_of c.args.self.now) kicked) written c.in_ok-kick_all.ensures) in
    on_ok_weaker c.join.result
    (λ same. rejoins_so c.args.self.now.link.stage c.args.node c.args.line.now (nick_in c.args.self.now) (told_of c.args.self.now) kicked (sym c.is_session_of.ensures ∙ c.if-not-is_session_of.false) kicks)
    c.join.ensures

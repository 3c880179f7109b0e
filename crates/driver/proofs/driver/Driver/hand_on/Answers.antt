use Rattle.std.proofs.Common.{◌≡◌, rules, subst, sym}
use Rattle.irc_line.specs.Lines.{Parts}
use Rattle.machine_laws.specs.declared.class.Class.{Class}
use Rattle.machine_laws.specs.declared.class.Class.TheVariants.{To}
use Rattle.bouncer_tower.specs.Hosting.{class_of}
use Rattle.driver.specs.Driving.{told_of}
use Rattle.driver.specs.Nicks.{nick_in}
use Rattle.driver.specs.Passing.{PassesBy}
use Rattle.driver.proofs.driver.Driver.hand_on.Goals as goal

pub returns-in_ok-tell_client-in-To-clause-passes : goal.returns-in_ok-tell_client-in-To-clause-passes
returns-in_ok-tell_client-in-To-clause-passes c =
    let old = c.args.self.now in
    let now = c.args.now.now in
    let effect = c.args.effect.now in
    let class : class_of effect ≡ To c.in-To.origin = search rules in
    subst (λ (class : Class Parts). PassesBy class now.ms now.at old.link.stage (nick_in old) c.args.node effect (told_of old) (told_of c.tell_client.new.self)) (sym class)
    c.in_ok-tell_client-in-To.ensures.hears

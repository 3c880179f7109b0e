use Rattle.std.proofs.Common.{rules, ◌≡◌, Bool, true, sym, subst}
use Rattle.driver.specs.Driving.{QuitsIf}
use Rattle.driver.specs.Links.{is_open}
use Rattle.driver.proofs.driver.Driver.quit.Goals as goal

pub returns : goal.returns
returns c =
    let new = record c.end_session.new.self { link = c.linger.new.self } in
    let stands : is_open c.args.self.now.link.stage ≡ true = search rules in
    subst (λ (stands : Bool). QuitsIf stands c.args.now.now.ms c.args.self.now new) (sym stands)
    record {
      said = c.say_quit.new.self;
      says = search rules;
      ended = c.end_session.new.self;
      ends = search rules;
      rest = search rules;
    }

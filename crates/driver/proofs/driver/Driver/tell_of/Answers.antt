use Rattle.std.proofs.Common.{rules, ◌≡◌, refl, Bool, false, subst}
use Rattle.driver.specs.Filling.{is_left_out}
use Rattle.driver.specs.Sessions.{TellsIf}
use Rattle.driver.proofs.driver.Driver.tell_of.Goals as goal

pub returns : goal.returns
returns c =
    let old = c.args.self.now in
    let last = record c.open_by.new.self { orders = c.submit.new.self } in
    let none : false ≡ is_left_out old.level c.args.note = search rules in
    subst (λ (out : Bool). TellsIf out c.args.node c.args.note old last) none
    record {
      named = c.hear_nick.new.self;
      nick = c.in_ok-hear_nick.ensures;
      opened = c.open_by.new.self;
      opens = c.in_ok-open_by.ensures;
      orders = c.in_ok-submit.ensures.told;
      rest = refl;
    }

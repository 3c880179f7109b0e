use Rattle.std.proofs.Common.{◌≡◌, Bool, subst}
use Rattle.std.proofs.lemmas.Result.{on_ok_weaker}
use Rattle.driver.specs.Absences.{TellsGroupIf, hastened_if, is_new}
use Rattle.driver.proofs.driver.Driver.watch_nodes.Goals as goal

pub returns : goal.returns
returns c =
    let old = c.args.self.now in
    let seen = c.cut_off_by.new.self in
    let new = c.tell_group.new.self in
    on_ok_weaker c.tell_group.result (λ tells. record {
      hastens = c.hasten_if.new.self;
      is_hastened = subst (λ (short : Bool). c.hasten_if.new.self ≡ record old { monitors = hastened_if short old.monitors }) c.is_short-is_short.ensures c.hasten_if.ensures;
      seen = seen;
      cuts = c.in_ok-cut_off_by.ensures;
      tells = subst (λ (short : Bool). TellsGroupIf (is_new short seen.is_short) short seen new) c.is_short-is_short.ensures tells;
    })
    c.tell_group.ensures

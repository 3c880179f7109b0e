use Rattle.std.proofs.Common.{rules, ap, ◌∙◌, ◌++◌}
use Rattle.irc_line.specs.Splitting.{items}
use Rattle.irc_line.proofs.Splitting.{stands_none, items_stay, stands_some, items_come}
use Rattle.irc_line.proofs.splitter.Splitter.feed.Goals as goal

pub returns-in_ok-hold-in-None-clause-stands : goal.returns-in_ok-hold-in-None-clause-stands
returns-in_ok-hold-in-None-clause-stands c =
    λ fed h. stands_none c.args.self.now fed c.args.bytes.now _ h c.in-None.ensures (search rules)

pub returns-in_ok-hold-in-None-clause-items : goal.returns-in_ok-hold-in-None-clause-items
returns-in_ok-hold-in-None-clause-items c =
    λ fed h. ap (λ t. items fed ++ t) c.new.ensures.items ∙ items_stay fed c.args.bytes.now c.in-None.ensures

pub returns-in_ok-items-in-Some-clause-stands : goal.returns-in_ok-items-in-Some-clause-stands
returns-in_ok-items-in-Some-clause-stands c =
    λ fed h. stands_some fed c.args.bytes.now c.in-Some.ended.now c.in-Some.rest.now _ c.in-Some.ensures.0 c.in-Some.ensures.1 c.in_ok-items-in-Some.ensures.held

pub returns-in_ok-items-in-Some-clause-items : goal.returns-in_ok-items-in-Some-clause-items
returns-in_ok-items-in-Some-clause-items c =
    λ fed h. items_come c.args.self.now fed c.args.bytes.now c.in-Some.ended.now c.in-Some.rest.now _ h c.in-Some.ensures.0 c.in-Some.ensures.1 (search rules)

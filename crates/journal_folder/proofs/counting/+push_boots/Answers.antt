use Rattle.std.proofs.Common.{ℕ, max, ap, ◌∙◌}
use Rattle.std.proofs.lemmas.Result.{on_ok_weaker}
use Rattle.journal_folder.specs.Counting.{boot_told, own_boot}
use Rattle.journal_folder.proofs.Boots.{pushed}
use Rattle.journal_folder.proofs.counting.+push_boots.Goals as goal

pub returns-clause-boots : goal.returns-clause-boots
returns-clause-boots t c =
    let group = c.args.group.now in
    let told = c.boot_told-told.ensures ∙ ap (λ (k : ℕ). boot_told k group) c.new.ensures in
    let is = c.greater.ensures ∙ (ap (λ (a : ℕ). max a c.boot_told-told.result) c.own_boot.ensures ∙ ap (λ (b : ℕ). max (own_boot c.args.owns.now) b) told) in
    on_ok_weaker c.push_boots.result
    (λ all. pushed c.args.node c.args.nodes c.greater.result c.args.owns.now c.others_of.result.now group c.args.boots.now.items c.push.new.self.items c.push_boots.new.boots.items
    c.if-nodes-eq0.false c.in_ok-push.ensures.items is c.others_of.ensures all)
    c.push_boots.ensures.boots

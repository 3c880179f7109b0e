use Rattle.std.proofs.Common.{◌≡◌, ◌++◌, [], ap, sym, ◌∙◌, append_assoc}
use Rattle.std.proofs.lemmas.List.{append-nil}
use Rattle.irc_line.specs.Splitting.{items_from, unended_from, ended_items}
use Rattle.irc_line.proofs.Splitting.{items_none, items_one, unended_one, unended_none}
use Rattle.irc_line.proofs.splitter.push_items.Goals as goal

pub loop-ended-preserved : goal.loop-ended-preserved
loop-ended-preserved c =
    let cut = c.in-Some.ensures in
    let ended = c.in-Some.ended.now in
    let behind = c.in-Some.behind.now in
    let one : items_from [] c.loop-ended.rest.now ≡ ended_items ended ++ items_from [] behind = ap (λ t. items_from [] t) cut.1 ∙ items_one [] ended behind cut.0 in
    let left : unended_from [] c.loop-ended.rest.now ≡ unended_from [] behind = ap (λ t. unended_from [] t) cut.1 ∙ unended_one [] ended behind cut.0 in
    record {
      done =
          ap (λ t. t ++ items_from [] behind) c.in_ok-push_item.ensures ∙ append_assoc c.loop-ended.items.items (ended_items ended) (items_from [] behind) ∙ ap (λ t. c.loop-ended.items.items ++ t) (sym one) ∙ c.loop-ended.invariant.done;
      left = sym left ∙ c.loop-ended.invariant.left;
    }

pub returns-clause-items : goal.returns-clause-items
returns-clause-items c =
    sym (append-nil c.loop-ended.items.items) ∙ ap (λ t. c.loop-ended.items.items ++ t) (sym (items_none [] c.loop-ended.rest.now c.in_default.ensures)) ∙ c.loop-ended.invariant.done

pub returns-clause-rest : goal.returns-clause-rest
returns-clause-rest c = sym (unended_none [] c.loop-ended.rest.now c.in_default.ensures) ∙ c.loop-ended.invariant.left

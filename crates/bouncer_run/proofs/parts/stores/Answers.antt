use Rattle.std.proofs.Common.{rules, arith, ◌≡◌, ◌<◌, ◌+◌, ◌++◌, ◌∷◌, [], ◌∙◌, ap, sym, subst, ℕ, suc, length, map, get_or, add-one}
use Rattle.std.specs.Prelude.{option_map}
use Rattle.std.specs.Vec.Iter.{into_iter_items}
use Rattle.std.proofs.lemmas.List.{get_or_read, nil_from_length}
use Rattle.bouncer_run.specs.Opened.{IsOver, run_of_group}
use Rattle.bouncer_run.proofs.Over.{all_over, count_more, none_over, one_over}
use Rattle.bouncer_run.proofs.parts.stores.Goals as goal

pub loop-journal-init : goal.loop-journal-init
loop-journal-init g c =
    let left = into_iter_items c.into_iter-journal-iterator.result in
    let run = run_of_group (map (option_map (λ j. j.saved)) c.args.opened.items) in
    record {
      count = search rules;
      over = none_over (λ late. late.run) run c.args.opened.items left c.new-stores.result.items c.into_iter-journal-iterator.ensures.into_iter_gives.0 c.new-stores.ensures.items;
    }

pub loop-journal-preserved : goal.loop-journal-preserved
loop-journal-preserved g c =
    let l = c.loop-journal in
    let left = into_iter_items l.journal-iterator in
    let more = into_iter_items c.next.new.self in
    let run = run_of_group (map (option_map (λ j. j.saved)) c.args.opened.items) in
    let pushed : c.push.new.self.items ≡ l.stores.items ++ c.in_ok-store.store ∷ [] = search rules in
    let runs = c.in_ok-runs.runs.items in
    let within : length l.stores.items < length runs =
    omega (arith, ap length c.in-Some.ensures.steps.0, l.invariant.count, c.in_ok-runs.ensures.count) in
    let read : c.index-run.result.now ≡ get_or runs (length l.stores.items) c.index-run.result.now = search rules in
    let told : c.index-run.result.now ≡ run (length l.stores.items + 1) =
    rw (← c.deref.ensures.value) (get_or_read runs (length l.stores.items) c.index-run.result.now within read 0 ∙ c.in_ok-runs.ensures.runs (length l.stores.items) within) in
    let one : c.index-run.result.now ≡ run (suc (length l.stores.items)) = told ∙ ap run (add-one (length l.stores.items)) in
    record {
      count = count_more (length c.args.opened.items) left more l.stores.items c.push.new.self.items c.in-Some.journal c.in_ok-store.store c.in-Some.ensures.steps.0 pushed l.invariant.count;
      over = one_over (λ late. late.run) run c.args.opened.items left more l.stores.items c.push.new.self.items c.in-Some.journal c.in_ok-store.store c.in-Some.ensures.steps.0 pushed
          (subst (λ (n : ℕ). IsOver (λ late. late.run) n c.in-Some.journal c.in_ok-store.store) one c.in_ok-store.ensures) l.invariant.over;
    }

pub returns-clause-over : goal.returns-clause-over
returns-clause-over g c =
    let l = c.loop-journal in
    let left = into_iter_items l.journal-iterator in
    let none : left ≡ [] = nil_from_length left (sym l.journal-iterator.rest.ok.0 ∙ c.in-None.ensures.steps.0) in
    all_over (λ late. late.run) (run_of_group (map (option_map (λ j. j.saved)) c.args.opened.items)) c.args.opened.items left l.stores.items none l.invariant.over

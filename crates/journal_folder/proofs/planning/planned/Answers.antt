use Rattle.std.proofs.Common.{◌≡◌, ℕ, ◌+◌, List, ap, subst, take, ◌∙◌}
use Rattle.journal_folder.specs.Counting.{all_boots, greatest_term}
use Rattle.journal_folder.specs.Planning.{are_next}
use Rattle.renewal.specs.Lists.{IsRenewal}
use Rattle.journal_folder.proofs.planning.planned.Goals as goal

pub returns-clause-plan : goal.returns-clause-plan
returns-clause-plan c =
    let s = c.args.from.now in
    let t = c.args.to.now in
    let forgotten : List (List ℕ) = c.args.forgotten.now in
    let group = c.args.group.now in
    let log = c.most_up_to_date_of.result.now.log in
    let new = c.in_ok-renewed.field-0.log in
    let boots : c.deref.result.now ≡ all_boots group = c.deref.ensures.value ∙ c.in_ok-greatest.ensures.boots in
    let same_boots : c.deref-2.result.now ≡ all_boots group = c.deref-2.ensures.value ∙ c.in_ok-greatest.ensures.boots in
    let term : c.in_ok-greatest.greatest.term ≡ greatest_term group = c.in_ok-greatest.ensures.term in
    record {
      chosen = c.most_up_to_date_of.result.now;
      one = c.most_up_to_date_of.ensures.one;
      most = c.most_up_to_date_of.ensures.most;
      before = c.len.ensures.value;
      renewal = subst (λ (n : ℕ). IsRenewal s t forgotten (all_boots group) n log new) term (subst (λ (ns : List ℕ). IsRenewal s t forgotten ns c.in_ok-greatest.greatest.term log new) same_boots c.in_ok-renewed.ensures.begun);
      boots = c.in_ok-boots.ensures.next ∙ ap (λ (ns : List ℕ). are_next (take c.args.nodes ns)) boots;
      term = c.in_ok-term.ensures.next ∙ ap (λ (n : ℕ). n + 1) term;
    }

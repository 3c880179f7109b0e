use Rattle.std.proofs.Common.{rules, ◌≡◌, ℕ, ◌+◌, ◌<◌, List, sym, ap, ◌∙◌, subst}
use Rattle.std.proofs.Common.{get_or}
use lib.ListN.{get_elem?}
use mathlib.Core.Option.{some}
use Rattle.ether.proofs.Passes.{words_more, first_stays}
use Rattle.ether.proofs.ether.first_words.Goals as goal

pub loop-slot-preserved : goal.loop-slot-preserved
loop-slot-preserved c =
    let items = c.in_ok-push-2.ensures.items in
    let i = c.loop-slot.invariant in (
      search rules,
      ap (λ (l : List ℕ). get_or l 0 0) items ∙ first_stays c.loop-slot.words.items c.loop-slot.slot c.loop-slot.slot i.0 ∙ i.1,
      subst (λ (l : List ℕ). (a k : ℕ) → 0 < a → get_elem? l a ≡ some k → a ≡ k + 1) (sym items) (words_more c.loop-slot.words.items c.loop-slot.slot i.0 i.2),
    )

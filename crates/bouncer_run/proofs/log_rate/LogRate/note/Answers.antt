use Rattle.std.proofs.Common.{List, slice_get, ap, sym, ◌∙◌}
use Rattle.bouncer_run.specs.declared.log_rate.Mark.{Mark}
use Rattle.bouncer_run.proofs.Marks.{one_more_or_none}
use Rattle.bouncer_run.proofs.log_rate.LogRate.note.Goals as goal

pub invariant_of-self-2 : goal.invariant_of-self-2
invariant_of-self-2 c =
    one_more_or_none c.add-2.result _ c.in-Some.newest c.self.inside.marks.items c.add-2.new.marks.items c.add-2.ensures.ok c.add-2.ensures.err
    (ap (λ (marks : List Mark). slice_get marks 0) (sym c.deref.ensures.value) ∙ sym c.first.ensures.value ∙ (sym c.copied.ensures ∙ c.in-Some.is)) (sym c.is_older.ensures ∙ c.if-not-is_older.false) c.self.invariant

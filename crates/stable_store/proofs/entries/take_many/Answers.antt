use Rattle.std.proofs.Common.{◌≡◌, ◌-◌, [], ◌∷◌, ◌++◌, List, refl, sym, ap, ◌∙◌, arith}
use Rattle.std.proofs.lemmas.Grind.{common_steps}
use Rattle.std.proofs.lemmas.Result.{err_from_is_err_and}
use Rattle.wire_bytes.specs.Fields.{behind}
use Rattle.raft_log.specs.declared.entry.Entry.{Entry}
use Rattle.raft_log.specs.Entries.{entry_taken, wants_entry}
use Rattle.stable_store.specs.Lists.{many}
use Rattle.stable_store.proofs.Many.{joined, joined-joined, joined-nothing, many-step, many-stops, many-none, many_want, many_want_room, was_read, first_was_read}
use Rattle.stable_store.proofs.entries.take_many.Goals as goal

pub returns-in_err-entry-clause-err : goal.returns-in_err-entry-clause-err
returns-in_err-entry-clause-err g c =
    let p = err_from_is_err_and c.from_residual.result c.from_residual.ensures.1 in
    let i = c.loop-left.invariant in
    rw (p.1, p.2) (record {
      fault = λ h. sym i.same ∙ ap (joined c.loop-left.entries.items) (many-stops (entry_taken g.B.Wire.taken) c.args.input.now c.loop-left.end _ c.loop-left.left (omega arith) (c.in_err-entry.ensures.err h));
      memory = λ h. many_want (wants_entry g.B.Wire.wants g.B.Wire.taken) (entry_taken g.B.Wire.taken) c.args.input.now c.args.place c.loop-left.end c.args.count c.loop-left.left i.some i.none i.few (omega arith) (c.in_err-entry.ensures.memory h);
    })

pub returns-in_err-push-clause-err : goal.returns-in_err-push-clause-err
returns-in_err-push-clause-err g c =
    let p = err_from_is_err_and c.from_residual-in_err-push.result c.from_residual-in_err-push.ensures.1 in
    let i = c.loop-left.invariant in
    let here = was_read (wants_entry g.B.Wire.wants g.B.Wire.taken) (entry_taken g.B.Wire.taken) c.args.input.now c.loop-left.end _ _ c.in_ok-entry.ensures.ok in
    let first = first_was_read (wants_entry g.B.Wire.wants g.B.Wire.taken) (entry_taken g.B.Wire.taken) c.args.input.now c.args.place c.loop-left.end c.args.count c.loop-left.left i.some i.none i.few here in
    rw (p.1, p.2) (record {
      fault = λ h. absurd (h refl);
      memory = λ h. many_want_room (wants_entry g.B.Wire.wants g.B.Wire.taken) (entry_taken g.B.Wire.taken) c.args.input.now c.args.place c.args.count (omega (arith, i.few)) first;
    })

pub loop-left-preserved : goal.loop-left-preserved
loop-left-preserved g c =
    let items : c.push.new.self.items ≡ c.loop-left.entries.items ++ c.in_ok-entry.entry ∷ [] = c.in_ok-push.ensures.items in
    let step = many-step (entry_taken g.B.Wire.taken) c.args.input.now c.loop-left.end c.in_ok-entry.entry c.in_ok-entry.next c.loop-left.left (omega arith) c.in_ok-entry.ensures.ok in
    record {
      same = ap (λ (xs : List (Entry g.row.B.Denot)). joined xs (behind c.in_ok-entry.next (many (c.loop-left.left - 1) (entry_taken g.B.Wire.taken)) c.args.input.now)) items
          ∙ (sym (joined-joined c.loop-left.entries.items (c.in_ok-entry.entry ∷ []) _) ∙ (ap (joined c.loop-left.entries.items) (sym step) ∙ c.loop-left.invariant.same));
      within = c.in_ok-entry.ensures.within.1;
      number = rw items (grind (arith, common_steps));
      few = omega (arith, c.loop-left.invariant.few);
      none = λ e. absurd (omega (arith, e, c.loop-left.invariant.few));
      some = λ lt.
          first_was_read (wants_entry g.B.Wire.wants g.B.Wire.taken) (entry_taken g.B.Wire.taken) c.args.input.now c.args.place c.loop-left.end c.args.count c.loop-left.left c.loop-left.invariant.some c.loop-left.invariant.none c.loop-left.invariant.few
          (was_read (wants_entry g.B.Wire.wants g.B.Wire.taken) (entry_taken g.B.Wire.taken) c.args.input.now c.loop-left.end _ _ c.in_ok-entry.ensures.ok);
    }

pub returns-clause-ok : goal.returns-clause-ok
returns-clause-ok g c =
    sym c.loop-left.invariant.same
    ∙ (ap (joined c.loop-left.entries.items) (many-none (entry_taken g.B.Wire.taken) c.args.input.now c.loop-left.end c.loop-left.left (omega arith))
    ∙ joined-nothing c.loop-left.entries.items c.loop-left.end)

use Rattle.std.proofs.Common.{rules, ◌≡◌, ◌≢◌, ◌+◌, ◌∙◌, true, false, sym, ap, subst, drop, get_or, Err, arith}
use Rattle.std.proofs.lemmas.Result.{err_from_is_err_and}
use Rattle.stable_store.specs.declared.store_fault.StoreFault.{StoreFault}
use Rattle.stable_store.specs.declared.saved.Saved.{Saved}
use Rattle.stable_store.specs.Stores.{changed, nothing_saved}
use Rattle.journal_store.specs.Journals.{Reached}
use Rattle.journal_store.specs.Payloads.{payloads, may_follow}
use Rattle.journal_store.proofs.Reaching.{reached_rest, reached_damage, reached_next, no_follow}
use Rattle.journal_store.proofs.find.find.Goals as goal

pub returns-in_err-change-clause-fault : goal.returns-in_err-change-clause-fault
returns-in_err-change-clause-fault g c =
    let q = err_from_is_err_and c.from_residual.result c.from_residual.ensures.1 in
    let shut : get_or c.args.file.now c.loop-place.place 0 ≢ 0 = search rules in
    rw (q.1, q.2) (λ h. reached_damage (payloads g.B.Wire.taken) nothing_saved c.args.file.now c.loop-place.saved c.loop-place.place c.loop-place.invariant shut (c.in_err-change.ensures.none h c.loop-place.saved)
    ∙ ap (λ (e : StoreFault). Err e) (sym (c.in_err-change.ensures.fault h)))

pub returns-then-not-may_follow-clause-fault : goal.returns-then-not-may_follow-clause-fault
returns-then-not-may_follow-clause-fault g c = λ h.
    let shut : get_or c.args.file.now c.loop-place.place 0 ≢ 0 = search rules in
    let may : may_follow c.loop-place.saved c.in_ok-change.change ≡ false = search rules in
    reached_damage (payloads g.B.Wire.taken) nothing_saved c.args.file.now c.loop-place.saved c.loop-place.place c.loop-place.invariant shut
    (no_follow (payloads g.B.Wire.taken) c.loop-place.saved (drop (c.loop-place.place + 1) c.args.file.now) c.in_ok-change.size c.in_ok-change.change c.in_ok-change.ensures.ok may)

pub overflow_add-place-in-loop-place : goal.overflow_add-place-in-loop-place
overflow_add-place-in-loop-place g c =
    let shut : get_or c.args.file.now c.loop-place.place 0 ≢ 0 = search rules in
    let may : may_follow c.loop-place.saved c.in_ok-change.change ≡ true = search rules in
    let next = reached_next (payloads g.B.Wire.taken) nothing_saved c.args.file.now c.loop-place.saved c.loop-place.place c.in_ok-change.size c.in_ok-change.change c.loop-place.invariant shut c.in_ok-change.ensures.ok may in
    omega (arith, next.within, c.type_inv.file)

pub overflow_add-place : goal.overflow_add-place
overflow_add-place g c =
    let shut : get_or c.args.file.now c.loop-place.place 0 ≢ 0 = search rules in
    let may : may_follow c.loop-place.saved c.in_ok-change.change ≡ true = search rules in
    let next = reached_next (payloads g.B.Wire.taken) nothing_saved c.args.file.now c.loop-place.saved c.loop-place.place c.in_ok-change.size c.in_ok-change.change c.loop-place.invariant shut c.in_ok-change.ensures.ok may in
    omega (arith, next.within, c.type_inv.file)

pub loop-place-preserved : goal.loop-place-preserved
loop-place-preserved g c =
    let shut : get_or c.args.file.now c.loop-place.place 0 ≢ 0 = search rules in
    let may : may_follow c.loop-place.saved c.in_ok-change.change ≡ true = search rules in
    let next = reached_next (payloads g.B.Wire.taken) nothing_saved c.args.file.now c.loop-place.saved c.loop-place.place c.in_ok-change.size c.in_ok-change.change c.loop-place.invariant shut c.in_ok-change.ensures.ok may in
    let is : c.follow.new.saved ≡ changed c.loop-place.saved c.in_ok-change.change = c.in_ok-follow.ensures.ok in
    rw c.share.ensures (subst (λ (s : Saved g.row.B.Denot). Reached (payloads g.B.Wire.taken) nothing_saved c.args.file.now s (c.loop-place.place + (5 + c.in_ok-change.size))) (sym is) next)

pub returns-clause-ok : goal.returns-clause-ok
returns-clause-ok g c =
    let closed : get_or c.args.file.now c.loop-place.place 0 ≡ 0 = search rules in
    reached_rest (payloads g.B.Wire.taken) nothing_saved c.args.file.now c.loop-place.saved c.loop-place.place c.loop-place.invariant closed

use Rattle.raft_node.specs.Parts.{Keeper, keeper}
use Rattle.raft_node.proofs.Beginning.{first_by, may_take_first, begins_saved, fails_unsaved}
use Rattle.raft_node.proofs.begin.begin.Goals as goal

pub save-requires-clause-may : goal.save-requires-clause-may
save-requires-clause-may g c vote =
    let k : Keeper g.row.S.Denot g.row.B.Denot = keeper g.S.Stable.saved g.S.Stable.may_stand g.S.Stable.condition in
    let e = first_by c.args.size c.in-Ok.saved c.next_run-state.result c.next_run-state.ensures.begins c.len-keep.result c.new.result.items c.len-keep.ensures.value c.new.ensures.items in
    may_take_first k g.met.S.Stable.sure c.args.size c.args.store.now c.args.store.now c.in-Ok.saved c.next_run-state.result c.next_run-state.ensures.begins c.in-Ok.ensures.ok c.in-Ok.ensures.sure
    _ e c.len-keep.ensures.limit vote

pub returns-in-Ok-save : goal.returns-in-Ok-save
returns-in-Ok-save g c =
    let k : Keeper g.row.S.Denot g.row.B.Denot = keeper g.S.Stable.saved g.S.Stable.may_stand g.S.Stable.condition in
    let e = first_by c.args.size c.in-Ok.saved c.next_run-state.result c.next_run-state.ensures.begins c.len-keep.result c.new.result.items c.len-keep.ensures.value c.new.ensures.items in
    begins_saved k g.met.S.Stable.sure c.args.size c.args.store.now c.save.new.store c.in-Ok.saved c.next_run-state.result c.next_run-state.ensures.begins c.in-Ok.ensures.ok c.in-Ok.ensures.sure
    c.in-Ok-save.field-0 _ e c.next_run-state.ensures.size c.in-Ok-save.ensures.taken

pub returns-in-Err-save : goal.returns-in-Err-save
returns-in-Err-save g c =
    let k : Keeper g.row.S.Denot g.row.B.Denot = keeper g.S.Stable.saved g.S.Stable.may_stand g.S.Stable.condition in
    let e = first_by c.args.size c.in-Ok.saved c.next_run-state.result c.next_run-state.ensures.begins c.len-keep.result c.new.result.items c.len-keep.ensures.value c.new.ensures.items in
    fails_unsaved k g.met.S.Stable.sure c.args.size c.args.store.now c.save.new.store c.in-Ok.saved c.next_run-state.result c.next_run-state.ensures.begins c.in-Ok.ensures.ok c.in-Ok.ensures.sure
    c.in-Err-save.cause _ e c.in-Err-save.ensures.taken

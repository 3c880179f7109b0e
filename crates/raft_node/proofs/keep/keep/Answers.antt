use Rattle.std.proofs.Common.{◌≡◌, List, ◌++◌, take, ap, sym, ◌∙◌, arith}
use Rattle.raft_log.specs.declared.entry.Entry.{Entry}
use Rattle.raft_log.specs.declared.node_state.NodeState.{NodeState}
use Rattle.raft_log.specs.Steps.{after, log_after}
use Rattle.raft_node.specs.Kept.{IsStill}
use Rattle.raft_node.specs.Parts.{Keeper, keeper}
use Rattle.raft_node.proofs.Keeping.{IsSaved, may_take, still_saves, taken_saves, kept, not_kept, when_err, when_ok}
use Rattle.raft_node.proofs.keep.keep.Goals.{then-still, else-still+in_ok-entries}
use Rattle.raft_node.proofs.keep.keep.Goals as goal

pub save-requires-clause-may : goal.save-requires-clause-may
save-requires-clause-may g c =
    may_take (keeper g.S.Stable.saved g.S.Stable.may_stand g.S.Stable.condition) c.args.store.now c.args.state.now c.args.step c.requires.holds c.requires.savable

pub returns-then-is_err-clause-kept : goal.returns-then-is_err-clause-kept
returns-then-is_err-clause-kept g c =
    let k : Keeper g.row.S.Denot g.row.B.Denot = keeper g.S.Stable.saved g.S.Stable.may_stand g.S.Stable.condition in
    let saved : IsSaved k c.args.store.now c.args.state.now (after c.args.state.now c.args.step) c.if-still.store =
    elim c.if-still.branch [
      | then-still w ↦
          let h : IsStill c.args.state.now c.args.step.standing c.args.step.keep c.len.result = c.is_still-still.ensures.0 w.if-still.true in
          still_saves k g.met.S.Stable.sure c.args.store.now c.if-still.store c.args.state.now c.args.step c.requires.holds c.requires.savable (h.0, h.1, h.2, omega (arith, h.3, c.len.ensures)) w.store-is
      | else-still+in_ok-entries w ↦ taken_saves k w.in_ok-entries.entries c.args.store.now w.save.new.store c.if-still.store c.args.state.now c.args.step c.requires.holds w.in_ok-entries.ensures.taken w.store-is
    ]
    in
    let log : c.put_behind.new.self ≡ c.args.state.now.log = when_err c.put_behind.result (sym c.is_err.ensures.value ∙ c.if-is_err.true) c.put_behind.ensures.err in
    not_kept k c.args.store.now c.if-still.store c.args.state.now _ c.args.step saved
    (ap (λ (l : List (Entry g.row.B.Denot)). let s : NodeState g.row.B.Denot = record { standing = c.args.state.now.standing; log = l } in s) log)

pub returns-clause-kept : goal.returns-clause-kept
returns-clause-kept g c =
    let k : Keeper g.row.S.Denot g.row.B.Denot = keeper g.S.Stable.saved g.S.Stable.may_stand g.S.Stable.condition in
    let saved : IsSaved k c.args.store.now c.args.state.now (after c.args.state.now c.args.step) c.if-still.store =
    elim c.if-still.branch [
      | then-still w ↦
          let h : IsStill c.args.state.now c.args.step.standing c.args.step.keep c.len.result = c.is_still-still.ensures.0 w.if-still.true in
          still_saves k g.met.S.Stable.sure c.args.store.now c.if-still.store c.args.state.now c.args.step c.requires.holds c.requires.savable (h.0, h.1, h.2, omega (arith, h.3, c.len.ensures)) w.store-is
      | else-still+in_ok-entries w ↦ taken_saves k w.in_ok-entries.entries c.args.store.now w.save.new.store c.if-still.store c.args.state.now c.args.step c.requires.holds w.in_ok-entries.ensures.taken w.store-is
    ]
    in
    let items : c.if-still.entries.items ≡ c.args.step.entries.items =
    elim c.if-still.branch [
      | then-still w ↦ ap (λ v. v.items) w.entries-is
      | else-still+in_ok-entries w ↦ ap (λ v. v.items) w.entries-is ∙ w.in_ok-entries.ensures.back
    ]
    in
    let put : c.put_behind.new.self ≡ take c.args.step.keep c.args.state.now.log ++ c.if-still.entries.items =
    when_ok c.put_behind.result (sym c.is_err.ensures.value ∙ c.if-is_err.false) c.put_behind.ensures.ok
    in
    let log : c.put_behind.new.self ≡ log_after c.args.state.now.log c.args.step =
    put ∙ ap (λ (l : List (Entry g.row.B.Denot)). take c.args.step.keep c.args.state.now.log ++ l) items
    in
    kept k c.args.step.messages c.args.store.now c.if-still.store c.args.state.now _ c.args.step saved
    (ap (λ (l : List (Entry g.row.B.Denot)). let s : NodeState g.row.B.Denot = record { standing = c.args.step.standing; log = l } in s) log)

use Rattle.std.proofs.Common.{◌∙◌, sym}
use Rattle.buffer_machine.specs.Machine.{held_of}
use Rattle.buffer_machine.proofs.LettingIn.{let_none, let_plain, let_some}
use Rattle.buffer_machine.proofs.actions.let_in.Goals as goal

pub returns-in_ok-note_shown-in-Some : goal.returns-in_ok-note_shown-in-Some
returns-in_ok-note_shown-in-Some c =
    rw c.in-Some.is
    (c.in_ok-note_shown-in-Some.ensures
    ∙ let_some c.args.setup.now c.args.floor (held_of c.args.buffers.now) (held_of c.make_room.new.buffers) c.args.origin c.in-Some.id.now c.attach.new.self (rw c.in-Some.is at (sym c.may_attach.ensures ∙ c.if-not-may_attach.false)) c.make_room.ensures c.in_ok-attach.ensures.ok)

pub returns-in-None : goal.returns-in-None
returns-in-None c =
    rw c.in-None.is
    (c.empty_shown.ensures
    ∙ let_none c.args.setup.now c.args.floor (held_of c.args.buffers.now) (held_of c.make_room.new.buffers) c.args.origin c.attach.new.self (rw c.in-None.is at (sym c.may_attach.ensures ∙ c.if-not-may_attach.false)) c.make_room.ensures c.in_ok-attach.ensures.ok (sym c.is_empty.ensures.none ∙ c.if-is_empty.true))

pub returns-else-is_empty : goal.returns-else-is_empty
returns-else-is_empty c =
    rw c.in-None.is
    (let_plain c.args.setup.now c.args.floor (held_of c.args.buffers.now) (held_of c.make_room.new.buffers) c.args.origin c.attach.new.self (rw c.in-None.is at (sym c.may_attach.ensures ∙ c.if-not-may_attach.false)) c.make_room.ensures c.in_ok-attach.ensures.ok (sym c.is_empty.ensures.none ∙ c.if-is_empty.false))

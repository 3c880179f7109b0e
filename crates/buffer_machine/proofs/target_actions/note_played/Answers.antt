use Rattle.std.proofs.Common.{sym, ◌∙◌}
use Rattle.irc_line.specs.Names.{fold_name}
use Rattle.buffer_machine.specs.Machine.{held_of}
use Rattle.buffer_machine.proofs.NobodySees.{emptied_is, seen_is, unseen_is}
use Rattle.buffer_machine.proofs.target_actions.note_played.Goals as goal

pub returns-then-is_empty : goal.returns-then-is_empty
returns-then-is_empty c =
    c.empty_played.ensures ∙ emptied_is c.args.setup.now c.args.origin (fold_name c.args.name.now) (held_of c.args.buffers.now) (sym c.is_empty.ensures.none ∙ c.if-is_empty.true) (c.is_empty.ensures.nobody c.if-is_empty.true)

pub returns-in-Some : goal.returns-in-Some
returns-in-Some c =
    c.see_played.ensures ∙ seen_is c.args.setup.now c.args.origin (fold_name c.args.name.now) (held_of c.args.buffers.now) c.in-Some.reader (sym c.is_empty.ensures.none ∙ c.if-is_empty.false) (sym c.name_of.ensures.name ∙ c.in-Some.is)

pub returns-in-None : goal.returns-in-None
returns-in-None c =
    unseen_is c.args.setup.now c.args.origin (fold_name c.args.name.now) (held_of c.args.buffers.now) (sym c.is_empty.ensures.none ∙ c.if-is_empty.false) (sym c.name_of.ensures.name ∙ c.in-None.is)

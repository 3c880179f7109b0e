use Rattle.buffer_machine.proofs.actions.note_shown.Goals as goal

pub reader_alone-here-requires : goal.reader_alone-here-requires
reader_alone-here-requires c = c.place_of.ensures.within c.requires

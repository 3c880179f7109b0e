use Rattle.world_app.proofs.drawing.draw.Goals as goal

pub returns-clause-drawn : goal.returns-clause-drawn
returns-clause-drawn c =
    let recording = c.in_ok-recording.recording in
    record {
      size = recording.size;
      setup = recording.setup;
      events = recording.events.items;
      outputs = c.in_ok-recording.field-0-1.now;
      of_input = c.in_ok-recording.ensures.parts;
      diagram = c.in_ok-diagram.diagram;
      diagram_is = rw (c.setup-setup.ensures, c.deref.ensures.value) at c.in_ok-diagram.ensures;
      text_is = c.in_ok-picture.ensures;
    }

use Rattle.world_app.proofs.replays.replay.Goals as goal

pub returns-clause-verdict : goal.returns-clause-verdict
returns-clause-verdict c =
    let recording = c.in_ok-recording.recording in
    record {
      size = recording.size;
      setup = recording.setup;
      events = recording.events.items;
      outputs = c.in_ok-recording.outputs.now;
      of_input = c.in_ok-recording.ensures.parts;
      verdict_is = rw (c.deref-2.ensures.value, c.in_ok-text.ensures, c.setup-setup.ensures, c.deref.ensures.value) at c.verdict_of.ensures;
    }

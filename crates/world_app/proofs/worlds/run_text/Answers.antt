use Rattle.world_app.proofs.worlds.run_text.Goals as goal

pub returns-clause-ok : goal.returns-clause-ok
returns-clause-ok c = record {
  events = c.in_ok-events.events.items;
  of_input = c.in_ok-events.ensures.events;
  text_is = rw (c.in_ok-setup.ensures, c.deref.ensures.value) at c.in_ok-text.ensures;
}

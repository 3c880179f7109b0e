use Rattle.buffer_machine.proofs.machine.keeps_its_limits.Goals as goal

pub returns : goal.returns
returns c = record { rising = c.channels.ensures.rising; channels = c.channels.ensures.channels; some_query = c.most_queries.ensures.least }
